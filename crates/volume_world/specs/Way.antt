-- A way to one volume, and what it is seen as.
use Rattle.std.specs.Prelude.{ℕ, ◌≡◌, ◌-◌, ◌^◌, ◌<◌, Bool, true, List, [], length}
use Rattle.std.specs.List.{range_with_len}
use Rattle.unit_id.specs.Lists.{IsIn}
use Rattle.unit_id.specs.Place.{Location, Place}
use Rattle.code_mode.specs.declared.mode.Mode.{Mode}
use Rattle.code_mode.specs.VolumeShape.{VolumeShape, volume_shape}
use Rattle.volume_entry.specs.Manager.{AreFirstHomes, current}
use Rattle.volume_world.specs.State.{fresh}
use Rattle.volume_world.specs.Run.{World}
use Rattle.volume_world.specs.Told.{MayRun}
use Rattle.volume_world.specs.declared.trace.Trace.{Trace}

-- no history has more entries than this, but for the settles of its last step
abbrev pub longest_history : ℕ
longest_history = 2 ^ 32 - 3

-- A volume by its number, its mode and its disks, whether its files tell what they hold and whether none of them ever fails, and as it was
-- when its history began.
pub record Origin : Type 0 where
  pub vid : ℕ
  pub mode : Mode
  pub disks : ℕ
  pub is_told : Bool
  pub is_quiet : Bool
  pub start : World

abbrev pub shape_of : Origin → VolumeShape
shape_of origin = volume_shape origin.mode origin.disks

-- What a way has seen of the volume's history, the places there of the entries that its own steps added, how often a file of the volume has
-- failed, whether nobody else steps, and in which states the volume may be.
pub record WayView : Type 1 where
  pub origin : Origin
  pub entries : List Trace
  pub own : List ℕ
  pub faults : ℕ
  pub is_alone : Bool
  pub is_at : World → Type 0

-- a volume as made, with the units of its first homes, nothing planned and nothing late
pub record IsFirst (shape : VolumeShape) (start : World) : Type 0 where
  pub homes : List Location
  pub is_made : Place → Bool
  pub legal : AreFirstHomes shape homes
  pub made : (p : Place) → is_made p ≡ true → (p.index < shape.total) × (p ≡ current homes p.index)
  pub state : start ≡ record { state = fresh homes is_made; planned = []; late = [] }

-- the numbers ascend, each below the limit
pub record AreBelow (limit : ℕ) (numbers : List ℕ) : Type 0 where
  pub below : (n : ℕ) → IsIn n numbers → n < limit

-- What holds of every way: where files tell, the volume is in some state, and the entries lead to each state in which it may be.
pub record IsWay (way : WayView) : Type 0 where
  pub first : IsFirst (shape_of way.origin) way.origin.start
  pub somewhere : way.origin.is_told ≡ true → (w : World) × way.is_at w
  pub led : way.origin.is_told ≡ true → (w : World) → way.is_at w → MayRun way.origin.vid (shape_of way.origin) way.origin.start way.entries w
  pub own : AreBelow (length way.entries) way.own
  pub alone : way.is_alone ≡ true → way.own ≡ range_with_len 0 (length way.entries)
