-- What fits a volume in memory.
use Rattle.std.specs.Prelude.{ℕ, ◌+◌, ◌<◌, ◌≤◌, Bool, true, false, List, [], ◌∷◌, length}
use Rattle.unit_id.specs.declared.targets.Target.{Target}
use Rattle.unit_id.specs.declared.request.Request.{Request}
use Rattle.unit_id.specs.declared.request.Request.TheVariants as requests
use Rattle.code_mode.specs.declared.mode.Mode.{Mode}
use Rattle.code_mode.specs.declared.stripe.TheConstants.{BLOB_LIMIT}
use Rattle.code_mode.specs.Mode.{data_count, put_quorum}
use Rattle.code_mode.specs.VolumeShape.{VolumeShape}
use Rattle.volume_entry.specs.Manager.{IsBid}
use Rattle.volume_entry.specs.TableParts.{shape_of}
use Rattle.volume_entry.specs.declared.shape.Shape.{Shape}
use Rattle.volume_world.specs.Run.{World}
use Rattle.volume_world.specs.Way.{Origin}
use Rattle.volume_world.specs.declared.event.Event.{Event}
use Rattle.volume_world.specs.declared.event.Event.TheVariants as events

-- a blob's number and its size in bytes
pub record IsBlob (bid size : ℕ) : Type 0 where
  pub number : IsBid bid
  pub some : 1 ≤ size
  pub most : size ≤ BLOB_LIMIT

-- volume 1 of this mode and on so many disks, however it was made
abbrev pub origin_with : Shape → Bool → Bool → World → Origin
origin_with shape told quiet start = record { vid = 1; mode = shape.mode; disks = shape.disks; is_told = told; is_quiet = quiet; start = start }

-- a lock may move so many units
abbrev pub IsCount : Mode → ℕ → Type 0
IsCount mode count = (1 ≤ count) × (count + data_count mode ≤ put_quorum mode)

-- a target of this index or a later one of the volume, and on this disk or a later one
pub record IsAtLeast (shape : VolumeShape) (disk index : ℕ) (target : Target) : Type 0 where
  pub from : index ≤ target.index
  pub below : target.index < shape.total
  pub first : disk ≤ target.disk
  pub last : target.disk ≤ shape.disks

-- targets of ascending indexes from this one on, each on this disk or a later one
abbrev pub AreAtLeast : VolumeShape → ℕ → ℕ → List Target → Type 0
AreAtLeast shape disk index [] = Unit {0}
AreAtLeast shape disk index (target ∷ targets) = IsAtLeast shape disk index target × AreAtLeast shape disk (target.index + 1) targets

-- .. and as many as a lock may move
abbrev pub FitsTargets : Shape → ℕ → List Target → Type 0
FitsTargets shape disk targets = IsCount shape.mode (length targets) × AreAtLeast (shape_of shape) disk 0 targets

abbrev pub has_shard : Request → Bool
has_shard (requests.Put unit disk bid blob_size bytes) = true
has_shard (requests.Copy unit disk bid blob_size bytes) = true
has_shard request = false

-- the event carries a shard
abbrev pub carries_shard : Event → Bool
carries_shard (events.Send request) = has_shard request
carries_shard event = false
