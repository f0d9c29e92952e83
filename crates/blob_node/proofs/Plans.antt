-- A plan by disk, over the queues that keep it.
use Rattle.std.proofs.Common.{◌≡◌, ◌∙◌, sym, ap, ℕ, ◌-◌, ◌<◌, List, [], ◌++◌, get_or, length, map, drop, arith}
use Rattle.std.proofs.lemmas.List.{map-set, get_or-map, length-map}
use Rattle.std.proofs.Math.ListN.{set}
use Rattle.std.proofs.Math.Seq.{map-set_same}
use Rattle.blob_node.specs.Link.{IsDiskOf, fates_of, with_fates}
use Rattle.blob_node.specs.declared.fate.Fate.{Fate}

module _ {Q : Type 0} (fates : Q → List Fate) (planned : List Q) (disk : ℕ) (is : IsDiskOf (map fates planned) disk) (one : Q) (found : one ≡ get_or planned (disk - 1) one) where
  inside : disk - 1 < length planned
  inside = omega (arith, is.0, is.1, length-map planned fates)

  -- what is planned for the disk stands in its queue
  pub planned_is : fates_of (map fates planned) disk ≡ fates one
  planned_is = get_or-map fates planned (disk - 1) one [] inside ∙ ap fates (sym found)

  -- with another queue for the disk
  pub changed : (other : Q) (more : List Fate) → fates other ≡ more → map fates (set planned (disk - 1) other) ≡ with_fates (map fates planned) disk more
  changed other more same = map-set fates planned (disk - 1) other ∙ ap (with_fates (map fates planned) disk) same

  -- one more plan behind the others
  pub added : (other : Q) (more : List Fate) → fates other ≡ fates one ++ more → map fates (set planned (disk - 1) other) ≡ with_fates (map fates planned) disk (fates_of (map fates planned) disk ++ more)
  added other more same = changed other _ (same ∙ ap (λ list. list ++ more) (sym planned_is))

  -- the first plan taken
  pub taken : (other : Q) → fates other ≡ drop 1 (fates one) → map fates (set planned (disk - 1) other) ≡ with_fates (map fates planned) disk (drop 1 (fates_of (map fates planned) disk))
  taken other same = changed other _ (same ∙ ap (drop 1) (sym planned_is))

  -- a queue with the same plans
  pub unchanged : (other : Q) → fates other ≡ fates one → map fates (set planned (disk - 1) other) ≡ map fates planned
  unchanged other same = map-set_same fates planned (disk - 1) other one (same ∙ ap fates found)
