-- What may be asked of a volume.
use Rattle.std.specs.Prelude.{ℕ, ◌≡◌, ◌<◌, ◌≤◌, Bool, true, cond, List, length, All}
use Rattle.unit_id.specs.UnitName.{Name}
use Rattle.unit_id.specs.Place.{Place}
use Rattle.unit_id.specs.Messages.{place_at}
use Rattle.unit_id.specs.declared.request.Request.{Request}
use Rattle.unit_id.specs.declared.request.Request.TheVariants as requests
use Rattle.code_mode.specs.declared.mode.Mode.{Mode}
use Rattle.code_mode.specs.declared.stripe.TheConstants.{BLOB_LIMIT}
use Rattle.code_mode.specs.Mode.{shard_size}
use Rattle.code_mode.specs.Payload.{payload_bytes}
use Rattle.code_mode.specs.PayloadShard.{PayloadShard}
use Rattle.volume_entry.specs.Manager.{IsBid, IsDisk}
use Rattle.volume_entry.specs.ManagerStep.{AreTargets}
use Rattle.volume_world.specs.State.{Puts}
use Rattle.volume_world.specs.BlobStatus.{is_begun}
use Rattle.volume_world.specs.Run.{World}
use Rattle.volume_world.specs.Contents.{begun_shard}
use Rattle.volume_world.specs.Way.{Origin, WayView, shape_of}
use Rattle.volume_world.specs.declared.event.Event.{Event}
use Rattle.volume_world.specs.declared.event.Event.TheVariants as events

-- a unit of the volume, and one of its disks
pub record IsUnitOn (origin : Origin) (unit : Name) (disk : ℕ) : Type 0 where
  pub volume : unit.vid ≡ origin.vid
  pub index : unit.index < (shape_of origin).total
  pub there : IsDisk (shape_of origin) disk

-- a blob's number, its size in bytes, and bytes of the length of its shards
pub record IsShard (mode : Mode) (bid blob_size : ℕ) (bytes : List ℕ) : Type 0 where
  pub number : IsBid bid
  pub some : 1 ≤ blob_size
  pub most : blob_size ≤ BLOB_LIMIT
  pub size : length bytes ≡ shard_size mode blob_size

abbrev pub FitsRequest : Origin → Request → Type 0
FitsRequest origin (requests.Create unit disk) = IsUnitOn origin unit disk
FitsRequest origin (requests.Fence unit disk lock) = IsUnitOn origin unit disk
FitsRequest origin (requests.Put unit disk bid blob_size bytes) = IsUnitOn origin unit disk × IsShard origin.mode bid blob_size bytes
FitsRequest origin (requests.Read unit disk bid) = IsUnitOn origin unit disk × IsBid bid
FitsRequest origin (requests.List unit disk lock) = IsUnitOn origin unit disk
FitsRequest origin (requests.Copy unit disk bid blob_size bytes) = IsUnitOn origin unit disk × IsShard origin.mode bid blob_size bytes
FitsRequest origin (requests.Mark unit disk bid) = IsUnitOn origin unit disk × IsBid bid
FitsRequest origin (requests.Free unit disk bid) = IsUnitOn origin unit disk × IsBid bid
FitsRequest origin (requests.Release unit disk) = IsUnitOn origin unit disk

-- what a volume may be asked, whatever its state
abbrev pub FitsEvent : Origin → Event → Type 0
FitsEvent origin (events.Tick by) = Unit {0}
FitsEvent origin (events.Plan disk fate count) = IsDisk (shape_of origin) disk
FitsEvent origin events.Lease = Unit {0}
FitsEvent origin (events.Begin bid payload) = IsBid bid × (1 ≤ length (payload_bytes payload)) × (length (payload_bytes payload) ≤ BLOB_LIMIT) × All (λ b. b < 256) (payload_bytes payload)
FitsEvent origin (events.Send request) = FitsRequest origin request
FitsEvent origin events.FlushOne = Unit {0}
FitsEvent origin (events.End bid) = IsBid bid
FitsEvent origin (events.Lock task targets) = AreTargets (shape_of origin) targets
FitsEvent origin (events.Retarget task index disk) = (index < (shape_of origin).total) × IsDisk (shape_of origin) disk
FitsEvent origin (events.Swap task) = Unit {0}
FitsEvent origin (events.Unlock task) = Unit {0}
FitsEvent origin (events.Break disk) = IsDisk (shape_of origin) disk
FitsEvent origin (events.Ask bid) = IsBid bid
FitsEvent origin (events.Commit bid) = IsBid bid
FitsEvent origin (events.Restart disk) = IsDisk (shape_of origin) disk
FitsEvent origin events.RestartManager = Unit {0}
FitsEvent origin events.Look = Unit {0}

-- The shard of a begun blob is the one that belongs to its unit. Of a blob that wasn't begun it may be any where nobody else can begin it
-- meanwhile: the request is then barred.
abbrev pub IsRightShard : Bool → Mode → Puts → Place → ℕ → PayloadShard → Type 0
IsRightShard is_alone mode puts place bid shard = cond (is_begun (puts.status bid)) (shard ≡ begun_shard mode puts place bid) (is_alone ≡ true)

abbrev pub CarriesRight : Bool → Mode → Puts → Event → Type 0
CarriesRight is_alone mode puts (events.Send (requests.Put unit disk bid blob_size bytes)) =
    IsRightShard is_alone mode puts (place_at unit disk) bid (record { blob_size = blob_size; bytes = bytes })
CarriesRight is_alone mode puts (events.Send (requests.Copy unit disk bid blob_size bytes)) =
    IsRightShard is_alone mode puts (place_at unit disk) bid (record { blob_size = blob_size; bytes = bytes })
CarriesRight is_alone mode puts event = Unit {0}

-- an event that may be asked through this way: where files tell, a shard that it carries is the right one
pub record MayAsk (way : WayView) (event : Event) : Type 0 where
  pub fits : FitsEvent way.origin event
  pub right : way.origin.is_told ≡ true → (w : World) → way.is_at w → CarriesRight way.is_alone way.origin.mode w.state.puts event
