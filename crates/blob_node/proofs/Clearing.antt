-- No call leaves records under a name without a unit.
use Rattle.std.proofs.Common.{◌≡◌, ◌∙◌, sym, ap, refl, subst, ℕ, Bool, true, false, List, [], Option, None, Some, IfSome, inl, inr}
use Rattle.std.specs.Prelude.{◌==◌, is_some}
use Rattle.std.proofs.lemmas.Bool.{eqb-true}
use Rattle.unit_id.specs.UnitName.{Name, IsName, packed}
use Rattle.unit_id.proofs.Bools.{equal_test}
use Rattle.disk_base.specs.Disk.{FileView}
use Rattle.disk_base.specs.Shelves.{ShelfView, OthersStay}
use Rattle.chunk_store.specs.Records.{IsChunkOf}
use Rattle.blob_node.specs.UnitTable.{at_word, unit_at}
use Rattle.blob_node.specs.NewChunk.{IsLeft}
use Rattle.blob_node.specs.Station.{StationOver, IsClear}
use Rattle.blob_node.proofs.Holdings.{never_both}
use Rattle.blob_node.proofs.Tables.{none_of, one_name}

module _ {H F : Type 0} (shelf_seen : H → ShelfView F) (seen : F → FileView) (old new : StationOver H F) (vid : new.vid ≡ old.vid) where
  -- the same names have units, over the same shelf
  pub clear_same : new.shelf ≡ old.shelf → ((word : ℕ) → is_some (at_word word new.units) ≡ is_some (at_word word old.units)) → IsClear shelf_seen seen old → IsClear shelf_seen seen new
  clear_same shelf words clear = λ unit name own none image left.
      clear unit name (own ∙ vid) (none_of (unit_at old.units unit) (sym (words (packed unit)) ∙ ap is_some none)) image (subst (λ (h : H). (shelf_seen h).leaves (packed unit) image) shelf left)

  -- calls about one name, under which a crash leaves no records
  module _ (unit : Name) (name : IsName unit) (others : OthersStay (packed unit) (shelf_seen old.shelf) (shelf_seen new.shelf)) (more : (word : ℕ) → is_some (at_word word old.units) ≡ true → is_some (at_word word new.units) ≡ true)
      (here : unit_at new.units unit ≡ None → (image : Option (List ℕ)) → (shelf_seen new.shelf).leaves (packed unit) image → IfSome image (λ file. IsChunkOf file unit [])) where
    none_before : (word : ℕ) → at_word word new.units ≡ None → at_word word old.units ≡ None
    none_before word none = none_of (at_word word old.units) (not_there (is_some (at_word word old.units)) (more word))
      where
        not_there : (test : Bool) → (test ≡ true → is_some (at_word word new.units) ≡ true) → test ≡ false
        not_there false up = refl
        not_there true up = absurd (never_both (is_some (at_word word new.units)) (ap is_some none) (up refl))

    pub clear_but : IsClear shelf_seen seen old → IsClear shelf_seen seen new
    clear_but clear = λ other other_name own none image left. by other other_name own none image left (packed other == packed unit) refl
      where
        by : (other : Name) → IsName other → other.vid ≡ new.vid → unit_at new.units other ≡ None → (image : Option (List ℕ)) → (shelf_seen new.shelf).leaves (packed other) image → (test : Bool) → packed other == packed unit ≡ test → IfSome image (λ file. IsChunkOf file other [])
        by other other_name own none image left true e =
            let same = one_name other unit other_name name (eqb-true (packed other) (packed unit) e) in
            subst (λ (n : Name). IfSome image (λ file. IsChunkOf file n [])) (sym same)
            (here (subst (λ (n : Name). unit_at new.units n ≡ None) same none) image (subst (λ (n : Name). (shelf_seen new.shelf).leaves (packed n) image) same left))
        by other other_name own none image left false e =
            clear other other_name (own ∙ vid) (none_before (packed other) none) image
            (others.leaves (packed other) image (λ same. never_both (packed other == packed unit) e (equal_test (packed other) (packed unit) same)) left)

-- what is left of a try holds no records, where there were none before
pub left_clear : {H F : Type 0} (shelf_seen : H → ShelfView F) (seen : F → FileView) (station : StationOver H F) (unit : Name) → IsName unit → unit.vid ≡ station.vid → unit_at station.units unit ≡ None → IsClear shelf_seen seen station → (new : ShelfView F)
    → (image : Option (List ℕ)) → IsLeft seen unit (shelf_seen station.shelf) new image → IfSome image (λ file. IsChunkOf file unit [])
left_clear shelf_seen seen station unit name own none clear new image (inl was) = clear unit name own none image was
left_clear shelf_seen seen station unit name own none clear new None (inr empty) = tt
left_clear shelf_seen seen station unit name own none clear new (Some bytes) (inr empty) = empty
