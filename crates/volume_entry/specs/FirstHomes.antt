-- Homes with which a volume may be made, one after another.
use Rattle.std.specs.Prelude.{◌≤◌, List, [], ◌∷◌}
use Rattle.code_mode.specs.VolumeShape.{VolumeShape, last_epoch}
use Rattle.unit_id.specs.Place.{Location}
use Rattle.volume_entry.specs.Manager.{IsDisk, IsFree}

-- a home with an epoch and a disk of the volume, which none of the others is on
pub record IsFresh (shape : VolumeShape) (home : Location) (others : List Location) : Type 0 where
  pub first : 1 ≤ home.epoch
  pub last : home.epoch ≤ last_epoch
  pub disk : IsDisk shape home.disk
  pub free : IsFree others home.disk

abbrev pub AreFresh : VolumeShape → List Location → Type 0
AreFresh shape [] = Unit {0}
AreFresh shape (home ∷ homes) = IsFresh shape home homes × AreFresh shape homes
