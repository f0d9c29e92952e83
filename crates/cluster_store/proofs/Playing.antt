-- A volume of a store plays a command.
use Rattle.std.proofs.Common.{◌≡◌, ◌∙◌, sym, ap, refl, subst, ℕ, List, Option, Some, None, get_or}
use Rattle.std.specs.Prelude.{slice_get, slice_set}
use Rattle.std.proofs.lemmas.Option.{get_or_from_slice_get}
use Rattle.disk_base.specs.Disk.{FileView}
use Rattle.disk_base.specs.Shelves.{ShelfView}
use Rattle.cluster_admin.specs.Cluster.{State}
use Rattle.volume_world.specs.Way.{Origin}
use Rattle.volume_turns.specs.declared.command.VolumeCommand.{VolumeCommand}
use Rattle.volume_turns.specs.Answers.{Replied}
use Rattle.volume_turns.specs.Turn.{Plays, FitsCommand}
use Rattle.cluster_store.specs.Store.{OpenedOver, over, IsStore, way_at, IsFor, PlaysAt}
use Rattle.cluster_store.proofs.Stores.{Keeps, store_played}

module _ {S E : Type 0} where
  -- what stands at a place is what was found there
  pub found_there : (volumes : List (Option (OpenedOver S E))) (place : ℕ) (there opened : OpenedOver S E) (found : Option (OpenedOver S E)) → slice_get volumes place ≡ Some (Some there) → found ≡ get_or volumes place found → found ≡ Some opened
      → there ≡ opened
  found_there volumes place there opened found at value is = let same : Some there ≡ Some opened = sym (get_or_from_slice_get volumes place (Some there) found at) ∙ sym value ∙ is in cc same

  pub not_missing : (volumes : List (Option (OpenedOver S E))) (place : ℕ) (there : OpenedOver S E) (found : Option (OpenedOver S E)) → slice_get volumes place ≡ Some (Some there) → found ≡ get_or volumes place found → found ≡ None → ⊥
  not_missing volumes place there found at value is = let same : Some there ≡ None = sym (get_or_from_slice_get volumes place (Some there) found at) ∙ sym value ∙ is in cc same

module _ {S E : Type 0} (shelf_seen : S → ShelfView E) (seen : E → FileView) where
  pub fits_there : (volumes : List (Option (OpenedOver S E))) (place : ℕ) (command : VolumeCommand) (opened : OpenedOver S E) (found : Option (OpenedOver S E)) → (f : IsFor shelf_seen seen volumes place command) → found ≡ get_or volumes place found
      → found ≡ Some opened → FitsCommand (way_at shelf_seen seen opened).origin command
  fits_there volumes place command opened found f value is = subst (λ (o : OpenedOver S E). FitsCommand (way_at shelf_seen seen o).origin command) (found_there volumes place f.opened opened found f.there value is) f.fits

  keeps : (before after : OpenedOver S E) (command : VolumeCommand) (result : Replied) → Plays (way_at shelf_seen seen before) (way_at shelf_seen seen after) command result → after.shape ≡ before.shape → Keeps before after
  keeps before after command result p same =
      record { vid = ap (λ (o : Origin). o.vid) p.goes.origin; mode = ap (λ (o : Origin). o.mode) p.goes.origin; disks = ap (λ (o : Origin). o.disks) p.goes.origin; shape = same }

  pub plays_at : (tables : State) (volumes : List (Option (OpenedOver S E))) (place : ℕ) (command : VolumeCommand) (result : Replied) (before after : OpenedOver S E) (found : Option (OpenedOver S E)) → (f : IsFor shelf_seen seen volumes place command)
      → found ≡ get_or volumes place found → found ≡ Some before → IsStore (over tables volumes) → Plays (way_at shelf_seen seen before) (way_at shelf_seen seen after) command result → after.shape ≡ before.shape
      → PlaysAt shelf_seen seen (over tables volumes) (over tables (slice_set volumes place (Some after))) place command result
  plays_at tables volumes place command result before after found f value is sound plays same =
      let there = f.there ∙ ap (λ (o : OpenedOver S E). Some (Some o)) (found_there volumes place f.opened before found f.there value is) in
      record {
        before = before;
        after = after;
        there = there;
        new_is = refl;
        plays = plays;
        is = store_played tables volumes place before after there (keeps before after command result plays same) sound;
      }
