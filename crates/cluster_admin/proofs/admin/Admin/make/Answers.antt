use Rattle.std.proofs.Common.{◌≡◌, ap, ◌∙◌, ◌-◌, ◌∷◌, map, length, false, true, None, Some}
use Rattle.std.specs.Prelude.{is_some, replicate}
use Rattle.cluster_admin.proofs.Rows.{all_wait}
use Rattle.cluster_admin.proofs.admin.Admin.make.Goals as goal

pub returns-clause-fresh : goal.returns-clause-fresh
returns-clause-fresh g c =
    let waits : map is_some c.in_ok-waiting.waiting.items ≡ false ∷ replicate (length c.args.placers.items - 1) true =
    ap (map is_some) (c.in_ok-waiting.ensures ∙ ap (λ placers. None ∷ map Some placers) c.remove-in_use.ensures.items) ∙ all_wait c.args.placers.items c.requires in
    λ j. record { waiting = waits j; disks = c.none-2.ensures j; volumes = c.in_ok-volumes.ensures j; planned = 0; tasks = c.new.ensures.items j; names = c.none-3.ensures j }
