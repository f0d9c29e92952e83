use Rattle.std.proofs.Common.{◌∙◌, ap}
use Rattle.std.proofs.lemmas.List.Sorted.{IsNonDecreasingBy-from_sort}
use Rattle.unit_id.specs.Lists.{is_in}
use Rattle.migrate_task.proofs.MergeLemmas.{in_moved}
use Rattle.migrate_task.proofs.ordered.InOrder.of.Goals as goal

pub invariant_of-result : goal.invariant_of-result
invariant_of-result c = IsNonDecreasingBy-from_sort (λ x. x) _ c.sort_unstable.ensures.sorted

pub returns : goal.returns
returns c = λ bid. in_moved bid _ _ c.sort_unstable.ensures.permutation ∙ ap (is_in bid) (c.in_ok-items.ensures.items ∙ c.as_slice.ensures)
