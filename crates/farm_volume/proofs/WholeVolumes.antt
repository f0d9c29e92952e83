-- A volume's shelves all go back.
use Rattle.std.proofs.Common.{◌≡◌, ◌∙◌, subst, ℕ, zero, suc, ◌+◌, ◌<◌, true, false, List, length, arith}
use Rattle.disk_base.specs.Disk.{FileView}
use Rattle.disk_base.specs.Shelves.{ShelfView}
use Rattle.disk_base.specs.Farms.{FarmView, TakesShelfBack}
use Rattle.blob_node.specs.Station.{StationOver}
use Rattle.volume_world.specs.Stations.{AreOn}
use Rattle.volume_world.specs.WorldWay.{IsWorld}
use Rattle.farm_volume.specs.Lending.{AllKept, AreBack, AreOut, IsBeside, OthersStay, Returns, ReturnsLog}
use Rattle.farm_volume.specs.FarmVolume.{IsBack, VolumeOver}
use Rattle.farm_volume.proofs.GoingBack.{kept_still}

module _ {S E : Type 0} (shelf_seen : S → ShelfView E) (seen : E → FileView) where
  -- disk 0's shelf goes back behind those of the disks from 1 on
  module _ (vid : ℕ) (stations : List (StationOver S E)) (old mid new : FarmView S) (rest : Returns shelf_seen seen vid 1 stations old mid) (shelf : S) (takes : TakesShelfBack shelf_seen 0 vid shelf mid new) where
    back_at : (d : ℕ) → d < length stations + 1 → new.is_out d vid ≡ false
    back_at zero below = takes.out
    back_at (suc d) below = takes.others.out (suc d) vid (λ same v. omega (arith, same)) ∙ rest.back (suc d) (omega arith) (omega (arith, below))

    pub all_back : AreBack vid 0 (length stations + 1) new
    all_back d from below = back_at d (omega (arith, below))

    first_apart : (d v : ℕ) → IsBeside vid 0 (length stations + 1) d v → d ≡ 0 → v ≡ vid → ⊥
    first_apart d v beside same number = beside (omega arith) (omega (arith, same)) number

    rest_apart : (d v : ℕ) → IsBeside vid 0 (length stations + 1) d v → IsBeside vid 1 (length stations) d v
    rest_apart d v beside from below number = beside (omega arith) (omega (arith, below)) number

    pub others_stay : OthersStay vid 0 (length stations + 1) old new
    others_stay = record {
      out = λ d v beside. takes.others.out d v (first_apart d v beside) ∙ rest.others.out d v (rest_apart d v beside);
      places = λ d v beside. takes.others.places d v (first_apart d v beside) ∙ rest.others.places d v (rest_apart d v beside);
    }

    pub units_kept : AreOn vid 1 stations → AllKept shelf_seen seen vid stations new
    units_kept on = kept_still shelf_seen seen vid 0 shelf mid new takes 1 stations (omega arith) on rest.kept

  -- ---- a volume

  module _ (volume : VolumeOver S E) (sound : IsWorld shelf_seen seen volume.world) (old mid new : FarmView S) where
    pub stations_out : AreOut volume.world.vid 0 (volume.world.shape.disks + 1) old → AreOut volume.world.vid 1 (length volume.world.stations) old
    stations_out out d from below = let count = sound.sound.count in out d (omega arith) (omega (arith, below, count))

    pub log_out : AreOut volume.world.vid 0 (volume.world.shape.disks + 1) old → Returns shelf_seen seen volume.world.vid 1 volume.world.stations old mid → mid.is_out 0 volume.world.vid ≡ true
    log_out out rest = rest.others.out 0 volume.world.vid (λ from below same. omega (arith, from)) ∙ out 0 (omega arith) (omega arith)

    pub volume_back : Returns shelf_seen seen volume.world.vid 1 volume.world.stations old mid → ReturnsLog shelf_seen seen volume.world.vid volume.manager volume.world.entry.book.log.file mid new
        → IsBack shelf_seen seen volume old new
    volume_back rest log = record {
      back = subst (λ n. AreBack volume.world.vid 0 (n + 1) new) sound.sound.count (all_back volume.world.vid volume.world.stations old mid new rest log.shelf log.takes);
      log = record { shelf = log.shelf; kept = log.takes.kept; log = log.log };
      units = units_kept volume.world.vid volume.world.stations old mid new rest log.shelf log.takes sound.sound.stations.on;
      others = subst (λ n. OthersStay volume.world.vid 0 (n + 1) old new) sound.sound.count (others_stay volume.world.vid volume.world.stations old mid new rest log.shelf log.takes);
      count = let was = rest.count in let its = log.takes.count in let own = log.log.count in let never = log.takes.never_falls in omega (arith, was, its, own, never);
      never_falls = let was = rest.never_falls in let never = log.takes.never_falls in omega (arith, was, never);
      told = log.takes.told ∙ rest.told;
    }
