-- What is known of a shelf that a farm hands out.
use Rattle.std.proofs.Common.{◌≡◌, ◌∙◌, sym, refl, subst, ℕ, false, [], Ok, arith}
use Rattle.disk_base.specs.Disk.{FileView}
use Rattle.disk_base.specs.Places.{Place, Unknown, Absent, Away, Kept, Keeps, IsTold}
use Rattle.disk_base.specs.Shelves.{ShelfView}
use Rattle.disk_base.specs.Farms.{FarmView, IsFarm, FarmCall, HasFilesOf, IsShelfLent}
use Rattle.unit_id.specs.UnitName.{packed}
use Rattle.blob_node.specs.Station.{IsWhole, IsUnused}
use Rattle.blob_node.specs.NewChunk.{HasNoRecords}
use Rattle.farm_volume.specs.Making.{IsFresh, IsOneOut, IsStationOut}

module _ {S F : Type 0} (shelf_seen : S → ShelfView F) where
  -- no file of it is out
  pub fresh_is_whole : (place : Place S) (shelf : S) → IsFresh shelf_seen place → HasFilesOf shelf_seen place (shelf_seen shelf) → IsWhole (shelf_seen shelf)
  fresh_is_whole Unknown shelf fresh files = files
  fresh_is_whole Absent shelf fresh files = files.out
  fresh_is_whole Away shelf fresh files = absurd fresh
  fresh_is_whole (Kept was) shelf fresh files = λ name. files.out name ∙ fresh.out name

  still_absent : (was now : Place F) → was ≡ Absent → Keeps was now → now ≡ Absent
  still_absent Unknown now is keeps = absurd (cc is)
  still_absent Absent now is keeps = keeps
  still_absent Away now is keeps = absurd (cc is)
  still_absent (Kept x) now is keeps = absurd (cc is)

  -- where something is known, it has no file
  pub fresh_is_empty : (place : Place S) (shelf : S) → IsFresh shelf_seen place → IsTold place → HasFilesOf shelf_seen place (shelf_seen shelf) → (name : ℕ) → (shelf_seen shelf).place name ≡ Absent
  fresh_is_empty Unknown shelf fresh told files = absurd told
  fresh_is_empty Absent shelf fresh told files = files.absent
  fresh_is_empty Away shelf fresh told files = absurd fresh
  fresh_is_empty (Kept was) shelf fresh told files = λ name. still_absent ((shelf_seen was).place name) ((shelf_seen shelf).place name) (fresh.absent name) (files.places name)

  pub unused : (seen : F → FileView) (vid : ℕ) (shelf : ShelfView F) → ((name : ℕ) → shelf.place name ≡ Absent) → IsUnused seen vid shelf
  unused seen vid shelf empty = λ unit is number. subst (HasNoRecords seen unit) (sym (empty (packed unit))) tt

-- ---- one shelf

module _ {S F : Type 0} (shelf_seen : S → ShelfView F) (disk vid : ℕ) (old new : FarmView S) where
  pub one_out : (shelf : S) → FarmCall {T = S} old new (Ok shelf) → IsShelfLent shelf_seen disk vid old new shelf → IsOneOut disk vid old new
  one_out shelf call lent = record { out = lent.out; others = lent.others; faults = call.others (λ is. cc is); told = call.told }

-- ---- a station

module _ {S F : Type 0} (shelf_seen : S → ShelfView F) (seen : F → FileView) (vid disk : ℕ) (old new : FarmView S) where
  pub station_out : (shelf : S) → IsFarm old → old.is_out disk vid ≡ false → IsFresh shelf_seen (old.place disk vid) → FarmCall {T = S} old new (Ok shelf) → IsShelfLent shelf_seen disk vid old new shelf
      → IsStationOut shelf_seen seen vid disk (record { shelf = shelf; vid = vid; disk = disk; is_broken = false; units = [] }) old new
  station_out shelf farm back fresh call lent = record {
    one = one_out shelf_seen disk vid old new shelf call lent;
    vid_is = refl;
    disk_is = refl;
    is_new = record {
      units = refl;
      unbroken = refl;
      unused = λ told. unused shelf_seen seen vid (shelf_seen shelf) (fresh_is_empty shelf_seen (old.place disk vid) shelf fresh (farm.told_is_known (sym lent.told ∙ told) disk vid back) lent.files);
    };
    told = lent.told;
    faults = omega (arith, lent.no_fault);
  }
