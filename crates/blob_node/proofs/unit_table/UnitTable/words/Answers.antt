-- The words of a map are distinct, so sorted they ascend.
use Rattle.std.proofs.Common.{◌≡◌, ◌∙◌, sym, ap, subst, ℕ, nat_eq, eqb, is_some, arith}
use Rattle.std.proofs.lemmas.Bool.Decides.{nat_tests}
use Rattle.std.specs.List.{IsDistinct, list_any}
use Rattle.std.proofs.lemmas.List.Sorted.{list_any-IsPermutation, IsNonDecreasingBy-from_sort}
use Rattle.std.proofs.lemmas.Map.Keys.{IsDistinct-IsPermutation, IsStrictlyIncreasing-from_distinct}
use Rattle.blob_node.specs.UnitTable.{TableOver, at_word}
use Rattle.blob_node.proofs.Tables.{some_key}
use Rattle.blob_node.proofs.unit_table.UnitTable.words.Goals as goal

flips : (x y : ℕ) → nat_eq x y ≡ nat_eq y x
flips x y = grind (arith, nat_tests)

pub returns-clause-order : goal.returns-clause-order
returns-clause-order g c =
    IsStrictlyIncreasing-from_distinct c.sort_unstable.new.self.items
    (IsNonDecreasingBy-from_sort (λ x. x) c.sort_unstable.new.self.items c.sort_unstable.ensures.sorted)
    (IsDistinct-IsPermutation nat_eq flips c.in_ok-words.words.items c.sort_unstable.new.self.items c.sort_unstable.ensures.permutation
    (subst (IsDistinct nat_eq) (sym c.in_ok-words.ensures.words) c.all_words.ensures.unique))

pub returns-clause-all : goal.returns-clause-all
returns-clause-all g c = λ word.
    sym (list_any-IsPermutation (λ listed. eqb listed word) c.in_ok-words.words.items c.sort_unstable.new.self.items c.sort_unstable.ensures.permutation)
    ∙ ap (list_any (λ listed. eqb listed word)) c.in_ok-words.ensures.words
    ∙ some_key c.self.inside.units.entries word
    ∙ ap (λ (t : TableOver g.row.E.Denot). is_some (at_word word t.units)) c.self.view_is
