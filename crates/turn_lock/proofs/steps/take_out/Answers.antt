use Rattle.std.proofs.Common.{◌∷◌, ◌∙◌, ap, sym, Some}
use Rattle.atomic_table.specs.Table.{rest}
use Rattle.turn_lock.proofs.steps.take_out.Goals as goal

pub exchange-requires : goal.exchange-requires
exchange-requires g c =
    let v = c.requires.holding in
    (c.requires.table, (Some v.0, v.1 ∙ ap (λ l. (0, Some v.0) ∷ rest l) (sym v.1)))
