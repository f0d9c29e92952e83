-- A look and a grant of a placed part show places of the volume.
use Rattle.std.proofs.Common.{◌≡◌, ◌∙◌, sym, refl, subst, ℕ, suc, ◌+◌, ◌≤◌, Bool, true, false, cond, List, [], ◌∷◌, length, Option, None, Some, inl, inr, arith}
use Rattle.unit_id.specs.Place.{Location}
use Rattle.code_mode.specs.VolumeShape.{VolumeShape}
use Rattle.volume_entry.specs.Manager.{Transfer, Lock, Manager, IsDisk, transfers_of}
use Rattle.volume_entry.specs.View.{homes_shown, moves_shown}
use Rattle.volume_entry.specs.ShownView.{lock_shown}
use Rattle.volume_entry.specs.Book.{AreOnDisks, AreMovesWithin, IsPlaced}
use Rattle.volume_entry.specs.Entry.{is_broken}
use Rattle.volume_entry.specs.Granting.{grant_shown}
use Rattle.volume_entry.specs.Places.{AreHomesFrom, AreHomes, AreMovesEach, AreMoves, AreHeldMoves, GrantsPlaces}
use Rattle.volume_entry.proofs.LookingLists.{length-shown, length-moves}

module _ (vid : ℕ) (shape : VolumeShape) (broken : ℕ → Bool) where
  homes_from : (i : ℕ) (homes : List Location) → i + length homes ≡ shape.total → AreOnDisks shape homes → AreHomesFrom vid shape i (homes_shown vid i broken homes)
  homes_from i [] count placed = tt
  homes_from i (home ∷ homes) count placed =
      let e : suc i + length homes ≡ shape.total = omega (arith, count) in
      (record { volume = refl; index = omega (arith, count); there = placed home (inl refl) }, refl, homes_from (suc i) homes e (λ h j. placed h (inr j)))

  shown_end : (swapped : Bool) (t : Transfer) → IsDisk shape t.old.disk → IsDisk shape t.dest.disk → IsDisk shape (cond swapped t.old t.dest).disk
  shown_end true t old dest = old
  shown_end false t old dest = dest

  moves_each : (swapped : Bool) (ts : List Transfer) → AreMovesWithin shape ts → AreMovesEach vid shape (moves_shown vid broken swapped ts)
  moves_each swapped [] within = tt
  moves_each swapped (t ∷ ts) within =
      let is = within t (inl refl) in
      (record { volume = refl; index = is.index; there = shown_end swapped t is.old is.dest }, refl, moves_each swapped ts (λ u j. within u (inr j)))

  moves_placed : (swapped : Bool) (ts : List Transfer) → AreMovesWithin shape ts → length ts + shape.data_count ≤ shape.quorum → AreMoves vid shape (moves_shown vid broken swapped ts)
  moves_placed swapped ts within most = record {
    most = subst (λ n. n + shape.data_count ≤ shape.quorum) (sym (length-moves vid broken swapped ts)) most;
    each = moves_each swapped ts within;
  }

  pub held_placed : (lock : Option Lock) → AreMovesWithin shape (transfers_of lock) → length (transfers_of lock) + shape.data_count ≤ shape.quorum → AreHeldMoves vid shape (lock_shown vid broken lock)
  held_placed None within most = tt
  held_placed (Some lock) within most = moves_placed lock.is_swapped lock.transfers within most

  pub homes_placed : (homes : List Location) → length homes ≡ shape.total → AreOnDisks shape homes → AreHomes vid shape (homes_shown vid 0 broken homes)
  homes_placed homes count placed = record { count = length-shown vid broken 0 homes ∙ count; each = homes_from 0 homes (omega (arith, count)) placed }

module _ (vid : ℕ) (shape : VolumeShape) where
  pub places_granted : (broken : List Bool) (part : Manager) → IsPlaced shape part → GrantsPlaces vid shape (grant_shown vid broken part)
  places_granted broken part placed = moves_placed vid shape (is_broken broken) false (transfers_of part.lock) placed.moves placed.most
