-- What all stations stand for when one of them restarts.
use Rattle.std.proofs.Common.{◌≡◌, ◌∙◌, sym, ap, refl, subst, ℕ, ◌+◌, ◌<◌, true, List, [], ◌∷◌, length, inl, inr, Result, Ok, Err, get_or, set}
use Rattle.std.specs.Prelude.{not, is_some, ◌&&◌, ◌||◌}
use Rattle.std.proofs.lemmas.List.{set-get_or}
use Rattle.unit_id.specs.Place.{Place}
use Rattle.unit_id.specs.Messages.{place_at}
use Rattle.unit_id.specs.declared.answer.Answer as answered
use Rattle.unit_id.specs.declared.answer.Answer.TheVariants as answers
use Rattle.disk_base.specs.Disk.{FileView}
use Rattle.disk_base.specs.Shelves.{ShelfView}
use Rattle.disk_base.specs.declared.fault.NoMemory.{NoMemory}
use Rattle.blob_node.specs.Units.{Units, with_at}
use Rattle.blob_node.specs.UnitAnswer.{settled}
use Rattle.blob_node.specs.HeldUnit.{written_settled}
use Rattle.blob_node.specs.Holding.{Written}
use Rattle.blob_node.specs.Station.{StationOver, Stands, units_settled, written_settled_by, all_open, all_shut, is_settled}
use Rattle.blob_node.specs.Station as single
use Rattle.blob_node.specs.declared.settled.Settled.{Settled}
use Rattle.blob_node.proofs.Lookups.{elsewhere}
use Rattle.blob_node.proofs.Standing.{SameAt, same_as_is, same_then, settled_elsewhere}
use Rattle.volume_world.specs.Stations.{AreOn, is_broken_on, AllStand, RestartsBy, Restarted}
use Rattle.volume_world.proofs.StationsFrame.{differ, on_at, broken_at, stands_at, all_set}

-- ---- other disks

module _ (disk : ℕ) (q : Place) (other : q.disk ≡ disk → ⊥) where
  apart : (item : Settled) → q ≡ place_at item.unit disk → ⊥
  apart item same = other (ap (λ (p : Place). p.disk) same)

  units_elsewhere : (items : List Settled) (units : Units) → SameAt (units_settled disk items units) units q
  units_elsewhere [] units = same_as_is units q
  units_elsewhere (item ∷ rest) units =
      let next = settled (place_at item.unit disk) item.found units in
      same_then (units_settled disk rest next) next units q (units_elsewhere rest next) (settled_elsewhere (place_at item.unit disk) q (apart item) item.found units)

  written_elsewhere : (items : List Settled) (written : Place → Written) → written_settled_by disk items written q ≡ written q
  written_elsewhere [] written = refl
  written_elsewhere (item ∷ rest) written =
      let place = place_at item.unit disk in
      written_elsewhere rest (with_at place (written_settled item.found (written place)) written) ∙ elsewhere place (written_settled item.found (written place)) written q (apart item)

  open_elsewhere : (units : Units) → SameAt (all_open disk units) units q
  open_elsewhere units = record { made = refl; row = refl; fence = refl; released = refl; doubt = refl; shut = λ s. ap (λ b. not b && units.is_shut q) (differ q.disk disk other) ∙ s }

  shut_elsewhere : (units : Units) → SameAt (all_shut disk units) units q
  shut_elsewhere units = record { made = refl; row = refl; fence = refl; released = refl; doubt = refl; shut = λ s. ap (λ b. b || units.is_shut q) (differ q.disk disk other) ∙ s }

-- ---- all stations

module _ {H F : Type 0} (shelf_seen : H → ShelfView F) (seen : F → FileView) (vid place disk : ℕ) (old : List (StationOver H F)) (was now : StationOver H F) (items : List Settled) (on : AreOn vid 1 old) (less : place < length old) (at : was ≡ get_or old place was)
    (disk_is : disk ≡ 1 + place) where
  left : (written : Place → Written) (units then : Units) → AllStand shelf_seen seen old written units → ((q : Place) → (q.disk ≡ disk → ⊥) → SameAt then (units_settled disk items units) q)
      → Stands shelf_seen seen now (written_settled_by disk items written) then → AllStand shelf_seen seen (set old place now) (written_settled_by disk items written) then
  left written units then all same stands =
      all_set shelf_seen seen vid 1 place old now written (written_settled_by disk items written) units then on less all
      (λ q other.
      let apart : q.disk ≡ disk → ⊥ = λ e. other (e ∙ disk_is) in
      (written_elsewhere disk q apart items written, same_then then (units_settled disk items units) units q (same q apart) (units_elsewhere disk q apart items units))) stands

  by_result : (result : Result answered.Answer NoMemory) (written : Place → Written) (units : Units) → now.disk ≡ disk → AllStand shelf_seen seen old written units → single.RestartsBy shelf_seen seen written units items result now
      → RestartsBy shelf_seen seen disk written units items result (set old place now)
  by_result (Ok answers.Done) written units here all by =
      let by : Stands shelf_seen seen now (written_settled_by disk items written) (all_open disk (units_settled disk items units)) × ((q : Place) → q.disk ≡ disk → is_some (units.doubt q) ≡ is_settled disk q items) =
      subst (λ d. Stands shelf_seen seen now (written_settled_by d items written) (all_open d (units_settled d items units)) × ((q : Place) → q.disk ≡ d → is_some (units.doubt q) ≡ is_settled d q items)) here by in
      (left written units (all_open disk (units_settled disk items units)) all (λ q other. open_elsewhere disk q other (units_settled disk items units)) by.0, by.1)
  by_result (Ok answers.Fault) written units here all stands =
      left written units (all_shut disk (units_settled disk items units)) all (λ q other. shut_elsewhere disk q other (units_settled disk items units))
      (subst (λ d. Stands shelf_seen seen now (written_settled_by d items written) (all_shut d (units_settled d items units))) here stands)
  by_result (Ok answer) written units here all none = absurd none
  by_result (Err fault) written units here all stands =
      left written units (units_settled disk items units) all (λ q other. same_as_is (units_settled disk items units) q)
      (subst (λ d. Stands shelf_seen seen now (written_settled_by d items written) (units_settled d items units)) here stands)

  broken_is : is_broken_on old disk ≡ was.is_broken
  broken_is = ap (is_broken_on old) disk_is ∙ broken_at vid 1 place old was on less at

  here_is : now.disk ≡ was.disk → now.disk ≡ disk
  here_is same = same ∙ (on_at vid 1 place old was on less at).1 ∙ sym disk_is

  -- the station of the disk restarts for all
  pub restarted_all : (result : Result answered.Answer NoMemory) → now.vid ≡ was.vid → now.disk ≡ was.disk → single.Restarted shelf_seen seen items result was now → Restarted shelf_seen seen vid disk items result old (set old place now)
  restarted_all result own same (inl still) =
      inl (broken_is ∙ still.0, still.1, still.2, ap (set old place) (still.3 ∙ at) ∙ set-get_or old place was)
  restarted_all result own same (inr restarts) = inr (
    broken_is ∙ restarts.0,
    λ written units all.
        let one = (restarts.1 written units (stands_at shelf_seen seen place old was written units less at all)).0 in
        record {
          restarts = by_result result written units (here_is same) all one.restarts;
          order = one.order;
          own = λ item in_items. one.own item in_items ∙ own ∙ (on_at vid 1 place old was on less at).0;
          in_doubt = λ item in_items. subst (λ d. is_some (units.doubt (place_at item.unit d)) ≡ true) (here_is same) (one.in_doubt item in_items);
        },
  )
