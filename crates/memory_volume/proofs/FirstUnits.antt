-- The first homes of a volume in memory.
use Rattle.std.proofs.Common.{◌≡◌, ◌∙◌, ap, subst, sym, refl, ℕ, zero, suc, ◌+◌, ◌<◌, ◌≤◌, cond, ◌==◌, Bool, true, false, List, [], ◌∷◌, ◌++◌, length, map, arith}
use Rattle.std.specs.List.{range_with_len}
use Rattle.std.proofs.lemmas.List.FromFn.{length-map-range_with_len, get_or-map-range_with_len, map-range_with_len_more}
use Rattle.std.proofs.lemmas.Simd.{map-map}
use Rattle.unit_id.specs.Place.{Location}
use Rattle.code_mode.specs.VolumeShape.{VolumeShape, last_epoch}
use Rattle.volume_entry.specs.Manager.{AreFirstHomes, IsDisk, home_at}
use Rattle.volume_world.specs.WorldMaking.{AreHomesOf, location_of, locations}
use Rattle.memory_volume.specs.Setting.{first_home, first_homes}

pub homes_more : (first count : ℕ) → first_homes first (count + 1) ≡ first_homes first count ++ first_home first count ∷ []
homes_more first count = map-range_with_len_more (first_home first) 0 count count (omega arith)

pub homes_length : (first count : ℕ) → length (first_homes first count) ≡ count
homes_length first count = length-map-range_with_len (first_home first) 0 count

homes_from : (first index count : ℕ) → AreHomesOf 1 index (map (first_home first) (range_with_len index count))
homes_from first index zero = tt
homes_from first index (suc count) = (
  refl,
  refl,
  (let next : index + 1 ≡ suc index = omega arith in
      subst (λ n. AreHomesOf 1 n (map (first_home first) (range_with_len (index + 1) count))) next (homes_from first (index + 1) count)),
)

pub homes_own : (first count : ℕ) → AreHomesOf 1 0 (first_homes first count)
homes_own first count = homes_from first 0 count

-- where the unit of an index first stands
abbrev pub first_location : ℕ → ℕ → Location
first_location first index = location_of (first_home first index)

locations_are : (first count : ℕ) → locations (first_homes first count) ≡ map (first_location first) (range_with_len 0 count)
locations_are first count = map-map location_of (first_home first) (range_with_len 0 count)

location_at : (first count index : ℕ) → index < count → home_at (locations (first_homes first count)) index ≡ first_location first index
location_at first count index below =
    ap (λ (ls : List Location). home_at ls index) (locations_are first count)
    ∙ get_or-map-range_with_len (first_location first) 0 count index index (record { epoch = 0; disk = 0 }) below (omega arith)

epoch_within : (first : ℕ) (is_first : Bool) → 1 ≤ first → first ≤ last_epoch → (1 ≤ cond is_first first 1) × (cond is_first first 1 ≤ last_epoch)
epoch_within first true low high = (low, high)
epoch_within first false low high = (omega arith, omega arith)

-- a volume may be made with these homes on as many disks as it has units, or more
pub homes_fit : (shape : VolumeShape) (first : ℕ) → shape.total ≤ shape.disks → 1 ≤ first → first ≤ last_epoch → AreFirstHomes shape (locations (first_homes first shape.total))
homes_fit shape first enough low high = record {
  count = ap length (locations_are first shape.total) ∙ length-map-range_with_len (first_location first) 0 shape.total;
  epochs = λ i below.
      subst (λ (l : Location). (1 ≤ l.epoch) × (l.epoch ≤ last_epoch)) (sym (location_at first shape.total i below)) (epoch_within first (i == 0) low high);
  disks = λ i below.
      let is : IsDisk shape (i + 1) = record { first = omega arith; last = omega arith } in
      subst (λ (l : Location). IsDisk shape l.disk) (sym (location_at first shape.total i below)) is;
  apart = λ i j here there same.
      let a : (home_at (locations (first_homes first shape.total)) i).disk ≡ i + 1 = ap (λ (l : Location). l.disk) (location_at first shape.total i here) in
      let b : (home_at (locations (first_homes first shape.total)) j).disk ≡ j + 1 = ap (λ (l : Location). l.disk) (location_at first shape.total j there) in
      let c : i + 1 ≡ j + 1 = sym a ∙ same ∙ b in
      omega (arith, c);
}
