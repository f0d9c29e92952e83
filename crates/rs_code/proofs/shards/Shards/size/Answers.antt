use Rattle.std.proofs.Common.{sym, ◌∙◌, ap, arith}
use Rattle.std.proofs.lemmas.List.{drop_all}
use Rattle.rs_code.specs.Shards.{size_of}
use Rattle.rs_code.proofs.Places.{size_of-padded}
use Rattle.rs_code.proofs.shards.Shards.size.Goals as goal

pub returns-clause-value : goal.returns-clause-value
returns-clause-value c =
    sym (ap size_of (drop_all c.loop-row.row-index c.deref-row-items.result.now (omega arith)))
    ∙ c.loop-row.invariant
    ∙ ap size_of c.deref-row-items.ensures.value
    ∙ sym (size_of-padded c.self.inside.total c.self.inside.rows.items)
    ∙ ap size_of c.self.view_is
