-- A world as made stands for the first state of its volume.
use Rattle.std.proofs.Common.{◌≡◌, sym, ap, refl, subst, ℕ, ◌<◌, Bool, true, false, cond, List, [], map, replicate, Some, None, nat_cmp}
use Rattle.std.specs.FinMap.{get-empty}
use Rattle.unit_id.specs.Lists.{IsIn}
use Rattle.unit_id.specs.Place.{Location, Place, is_place}
use Rattle.unit_id.proofs.Bools.{contrary}
use Rattle.unit_id.proofs.Places.{is_place_gives}
use Rattle.disk_base.specs.Disk.{FileView}
use Rattle.disk_base.specs.Shelves.{ShelfView}
use Rattle.shard_record.specs.Rows.{row_at}
use Rattle.shard_record.specs.Rows as rows
use Rattle.code_mode.specs.VolumeShape.{VolumeShape}
use Rattle.blob_node.specs.Units.{with_at, with_unit}
use Rattle.blob_node.specs.Holding.{nothing_written}
use Rattle.blob_node.specs.Station.{HasNone}
use Rattle.blob_node.proofs.Standing.{with_same}
use Rattle.volume_entry.specs.Manager.{AreFirstHomes, current, fresh_manager}
use Rattle.volume_entry.specs.TableParts.{shape_of}
use Rattle.volume_entry.specs.Entry.{is_broken}
use Rattle.volume_entry.specs.Entry as entries
use Rattle.volume_world.specs.State.{fresh}
use Rattle.volume_world.specs.Run.{World}
use Rattle.volume_world.specs.Mailbag.{HasPlanned, late_told}
use Rattle.volume_world.specs.PutBook.{Books}
use Rattle.volume_world.specs.Stations.{AllStand}
use Rattle.volume_world.specs.Way.{IsFirst}
use Rattle.volume_world.specs.World.{WorldOver, Stands}
use Rattle.volume_world.specs.WorldMaking.{none_written}
use Rattle.volume_world.specs.declared.late.LateItem.{LateItem}
use Rattle.volume_world.proofs.Mailbags.{none_has}

-- the first state of a volume with these homes, and with these of its units made
abbrev pub first_world : List Location → (Place → Bool) → World
first_world homes is_made = record { state = fresh homes is_made; planned = []; late = [] }

no_live : (bid blob_size : ℕ) (bytes : List ℕ) → row_at [] bid ≡ Some (rows.Live blob_size bytes) → ⊥
no_live bid blob_size bytes row = let none : row_at [] bid ≡ None = get-empty nat_cmp bid in cc (none, row)

none_late : (items : List LateItem) (item : LateItem) → items ≡ [] → IsIn item items → ⊥
none_late items item e there = subst (IsIn item) e there

-- ---- units

-- at first none is made
pub none_made : (homes : List Location) (disk : ℕ) → HasNone disk (fresh homes (λ place. false)).units
none_made homes disk place there = (refl, record { unreleased = refl; settled_ = refl })

pub unit_more : (homes : List Location) (is_made : Place → Bool) (place : Place) → with_unit place (fresh homes is_made).units ≡ (fresh homes (with_at place true is_made)).units
unit_more homes is_made place = λ i. record {
  is_made = with_at place true is_made;
  row = with_same place (λ (p : Place) (bid : ℕ). None) i;
  fence = with_same place (λ (p : Place). None) i;
  is_released = with_same place (λ (p : Place). false) i;
  is_shut = with_same place (λ (p : Place). false) i;
  doubt = with_same place (λ (p : Place). None) i;
}

-- one unit more is made
pub stand_with_unit : {H F : Type 0} (shelf_seen : H → ShelfView F) (seen : F → FileView) (world : WorldOver H F) (homes : List Location) (is_made : Place → Bool) (place : Place)
    → AllStand shelf_seen seen world.stations (with_at place nothing_written none_written) (with_unit place (fresh homes is_made).units)
    → AllStand shelf_seen seen world.stations none_written (fresh homes (with_at place true is_made)).units
stand_with_unit shelf_seen seen world homes is_made place stand =
    subst (λ written. AllStand shelf_seen seen world.stations written (fresh homes (with_at place true is_made)).units) (with_same place none_written)
    (subst (AllStand shelf_seen seen world.stations (with_at place nothing_written none_written)) (unit_more homes is_made place) stand)

-- the units that were made are those of first homes
abbrev pub AreOfHomes : ℕ → List Location → (Place → Bool) → Type 0
AreOfHomes total homes is_made = (p : Place) → is_made p ≡ true → (p.index < total) × (p ≡ current homes p.index)

pub home_more : (total : ℕ) (homes : List Location) (is_made : Place → Bool) (index : ℕ) → index < total → AreOfHomes total homes is_made
    → AreOfHomes total homes (with_at (current homes index) true is_made)
home_more total homes is_made index below are p = go (is_place p (current homes index)) refl where
  go : (t : Bool) → is_place p (current homes index) ≡ t → cond t true (is_made p) ≡ true → (p.index < total) × (p ≡ current homes p.index)
  go true e made = subst (λ (q : Place). (q.index < total) × (q ≡ current homes q.index)) (sym (is_place_gives p (current homes index) e)) (below, refl)
  go false e made = are p made

-- ---- the world

pub is_first : (shape : VolumeShape) (homes : List Location) (is_made : Place → Bool) → AreFirstHomes shape homes → AreOfHomes shape.total homes is_made
    → IsFirst shape (first_world homes is_made)
is_first shape homes is_made legal made = record { homes = homes; is_made = is_made; legal = legal; made = made; state = refl }

pub first_stands : {H F : Type 0} (shelf_seen : H → ShelfView F) (seen : F → FileView) (world : WorldOver H F) (homes : List Location) (is_made : Place → Bool) (disks : ℕ)
    → entries.Stands seen world.entry (fresh_manager homes) → ((disk : ℕ) → is_broken world.entry.broken disk ≡ false)
    → AllStand shelf_seen seen world.stations none_written (fresh homes is_made).units
    → Books (shape_of world.shape).total world.puts.puts (fresh homes is_made).puts → world.planned ≡ replicate disks [] → world.late.items ≡ [] → world.time ≡ 0
    → Stands shelf_seen seen world (first_world homes is_made)
first_stands shelf_seen seen world homes is_made disks manager unbroken stations puts planned late time = record {
  manager = manager;
  written = none_written;
  stations = stations;
  as_begun = λ place. record { rows_are = λ bid blob_size bytes row. absurd (no_live bid blob_size bytes row); doubt_is = tt };
  puts = puts;
  bytes = λ bid begun. absurd (contrary false begun refl);
  posted = λ item there. absurd (none_late world.late.items item late there);
  time = sym time;
  broken = λ disk. sym (unbroken disk);
  planned = subst (λ link. HasPlanned link []) (sym planned) (none_has disks);
  late = sym (ap (map late_told) late);
}
