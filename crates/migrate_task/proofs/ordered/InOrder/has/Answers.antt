use Rattle.std.proofs.Common.{sym, ◌∙◌, ap, subst}
use Rattle.std.specs.List.Sorted.{IsNonDecreasing}
use Rattle.unit_id.specs.Lists.{is_in}
use Rattle.migrate_task.proofs.MergeLemmas.{found_is}
use Rattle.migrate_task.proofs.ordered.InOrder.has.Goals as goal

pub returns : goal.returns
returns c =
    c.is_ok.ensures.value ∙ found_is c.deref.result.now c.args.bid c.binary_search.result (subst IsNonDecreasing (sym c.deref.ensures.value) c.self.invariant) c.binary_search.ensures.position
    ∙ ap (is_in c.args.bid) (c.deref.ensures.value ∙ c.self.view_is)
