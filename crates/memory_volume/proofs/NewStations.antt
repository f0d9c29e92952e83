-- Stations of a new volume, one behind the other.
use Rattle.std.proofs.Common.{◌≡◌, ◌∙◌, subst, sym, ℕ, suc, ◌+◌, ◌≤◌, inl, inr, List, [], ◌∷◌, ◌++◌, length, length-append, arith}
use Rattle.unit_id.specs.Lists.{IsIn}
use Rattle.disk_base.specs.Images.{view_of}
use Rattle.disk_base.specs.Racks.{shelf_view}
use Rattle.volume_world.specs.Stations.{AreOn, AreStations}
use Rattle.volume_world.specs.WorldMaking.{IsNewStation}
use Rattle.memory_volume.specs.Setting.{MemoryStation, IsNewOn, AreNew}

on_more : (disk : ℕ) (stations : List MemoryStation) (station : MemoryStation) → AreOn 1 disk stations → station.vid ≡ 1 → station.disk ≡ disk + length stations
    → AreOn 1 disk (stations ++ station ∷ [])
on_more disk [] station on vid here = (vid, here ∙ omega arith, tt)
on_more disk (first ∷ rest) station on vid here = (on.0, on.1, on_more (suc disk) rest station on.2 vid (here ∙ omega arith))

module _ (P : MemoryStation → Type 0) (last : MemoryStation) (here : P last) where
  all_more : (stations : List MemoryStation) → ((s : MemoryStation) → IsIn s stations → P s) → (s : MemoryStation) → IsIn s (stations ++ last ∷ []) → P s
  all_more [] all s (inl same) = subst P (sym same) here
  all_more [] all s (inr none) = absurd none
  all_more (first ∷ rest) all s (inl same) = all s (inl same)
  all_more (first ∷ rest) all s (inr behind) = all_more rest (λ t there. all t (inr there)) s behind

pub stations_more : (count : ℕ) (stations : List MemoryStation) (station : MemoryStation) → AreNew count stations → IsNewOn (count + 1) station
    → AreNew (count + 1) (stations ++ station ∷ [])
stations_more count stations station are is = record {
  on = on_more 1 stations station are.on is.vid (let l = are.length_is in is.disk ∙ omega (arith, l));
  length_is = let l = are.length_is in length-append stations (station ∷ []) ∙ omega (arith, l);
  new = all_more (λ (s : MemoryStation). IsNewStation (shelf_view view_of) view_of 1 s) station is.new stations are.new;
}

pub are_stations : (count : ℕ) (stations : List MemoryStation) → AreNew count stations → count ≤ 64 → AreStations 1 stations
are_stations count stations are few = record { on = are.on; few = let l = are.length_is in omega (arith, l) }
