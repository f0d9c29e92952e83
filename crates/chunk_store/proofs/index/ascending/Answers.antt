use Rattle.std.proofs.Common.{◌≡◌, sym, subst, ℕ, List, nat_eq, eqb, arith}
use Rattle.std.proofs.lemmas.Bool.Decides.{nat_tests}
use Rattle.std.specs.List.{list_any}
use Rattle.std.specs.List.Sorted.{IsStrictlyIncreasing}
use Rattle.std.proofs.lemmas.List.Sorted.{list_any-IsPermutation, IsNonDecreasingBy-from_sort}
use Rattle.std.proofs.lemmas.Map.Keys.{IsDistinct-IsPermutation, IsStrictlyIncreasing-from_distinct}
use Rattle.chunk_store.proofs.index.ascending.Goals as goal

flips : (x y : ℕ) → nat_eq x y ≡ nat_eq y x
flips x y = grind (arith, nat_tests)

pub returns-clause-order : goal.returns-clause-order
returns-clause-order c =
    let sorted = c.sort_unstable.ensures.sorted in
    subst IsStrictlyIncreasing (sym c.from_vec.ensures)
    (IsStrictlyIncreasing-from_distinct c.sort_unstable.new.self.items
    (IsNonDecreasingBy-from_sort (λ x. x) c.sort_unstable.new.self.items sorted)
    (IsDistinct-IsPermutation nat_eq flips c.args.bids.items c.sort_unstable.new.self.items c.sort_unstable.ensures.permutation c.requires))

pub returns-clause-same : goal.returns-clause-same
returns-clause-same c = λ bid.
    subst (λ (xs : List ℕ). list_any (λ listed. eqb listed bid) xs ≡ list_any (λ listed. eqb listed bid) c.args.bids.items) (sym c.from_vec.ensures)
    (sym (list_any-IsPermutation (λ listed. eqb listed bid) c.args.bids.items c.sort_unstable.new.self.items c.sort_unstable.ensures.permutation))
