-- A store: the cluster's tables, and the volumes that they name, over a farm.
use Rattle.std.specs.Prelude.{ℕ, ◌≡◌, ◌+◌, ◌-◌, ◌<◌, ◌≤◌, ◌==◌, cond, false, List, [], ◌∷◌, length, slice_get, slice_set, Option, Some, None}
use Rattle.std.specs.Map.{lookup}
use Rattle.std.specs.Str.{bytes_eq}
use Rattle.disk_base.specs.Disk.{FileView}
use Rattle.disk_base.specs.Shelves.{ShelfView}
use Rattle.disk_base.specs.Farms.{FarmView}
use Rattle.rs_code.specs.Shape.{Shape}
use Rattle.code_mode.specs.Mode.{total_count}
use Rattle.blob_access.specs.Coding.{coder_shape}
use Rattle.object_access.specs.declared.pieces.TheConstants.{OBJECT_LIMIT}
use Rattle.object_access.specs.Pieces.{blob_count, AreBids}
use Rattle.cluster_admin.specs.declared.names.Object.{Object}
use Rattle.cluster_admin.specs.declared.volumes.Volume.{Volume}
use Rattle.cluster_admin.specs.Cluster.{State}
use Rattle.cluster_admin.specs.Volumes.{volume_at}
use Rattle.volume_world.specs.Way.{WayView}
use Rattle.volume_world.specs.WorldWay.{way_of}
use Rattle.farm_volume.specs.FarmVolume.{VolumeOver}
use Rattle.farm_volume.specs.Lending.{AreOut}
use Rattle.farm_volume.specs.Making.{IsFresh}
use Rattle.volume_turns.specs.declared.command.VolumeCommand.{VolumeCommand}
use Rattle.volume_turns.specs.Answers.{Replied}
use Rattle.volume_turns.specs.Turn.{FitsCommand, Plays}
use Rattle.volume_turns.specs.Session.{Turn, IsSessionOver}
use Rattle.cluster_store.specs.Plan.{Step}

-- a volume, and the shape of the coder of its blobs
pub record OpenedOver (S E : Type 0) : Type 0 where
  pub volume : VolumeOver S E
  pub shape : Shape

-- The tables, and at the place of each volume's number less one the volume. A lost volume leaves its place empty.
pub record StoreOver (S E : Type 0) : Type 0 where
  pub tables : State
  pub volumes : List (Option (OpenedOver S E))

abbrev pub over : {S E : Type 0} → State → List (Option (OpenedOver S E)) → StoreOver S E
over tables volumes = record { tables = tables; volumes = volumes }

-- ---- what always holds

-- a volume has its number, the store's disks, the mode of the tables, and a coder of this mode
pub record IsOpened {S E : Type 0} (disks place : ℕ) (slot : Volume) (opened : OpenedOver S E) : Type 0 where
  pub number : opened.volume.world.vid ≡ place + 1
  pub disks_are : opened.volume.world.shape.disks ≡ disks
  pub mode : opened.volume.world.shape.mode ≡ slot.mode
  pub coder : opened.shape ≡ coder_shape slot.mode

-- where the tables have a volume, it is there
abbrev pub IsSlot : {S E : Type 0} → ℕ → ℕ → Option (Option Volume) → Option (Option (OpenedOver S E)) → Type 0
IsSlot disks place (Some (Some slot)) (Some (Some opened)) = IsOpened disks place slot opened
IsSlot disks place (Some None) (Some None) = Unit {0}
IsSlot disks place None None = Unit {0}
IsSlot disks place slot opened = ⊥

-- an object has a size that there may be, under numbers of blobs, in a volume that is there
pub record IsHeld (tables : State) (object : Object) : Type 0 where
  pub volume : Volume
  pub there : volume_at tables.volumes object.vid ≡ Some volume
  pub first : 1 ≤ object.size
  pub last : object.size ≤ OBJECT_LIMIT
  pub bids : AreBids object.bid (blob_count object.size)

pub record IsStore {S E : Type 0} (store : StoreOver S E) : Type 0 where
  pub slots : (place : ℕ) → IsSlot (length store.tables.disks) place (slice_get store.tables.volumes place) (slice_get store.volumes place)
  pub held : (name : List ℕ) (object : Object) → lookup (bytes_eq name) store.tables.names ≡ Some object → IsHeld store.tables object
  -- before there are disks, there are no volumes
  pub none : length store.tables.disks ≡ 0 → store.volumes ≡ []

-- the volume of a number is there, at this place
pub record IsPlace {S E : Type 0} (store : StoreOver S E) (vid place : ℕ) : Type 0 where
  pub is : place ≡ vid - 1
  pub volume : Volume
  pub held : volume_at store.tables.volumes vid ≡ Some volume
  pub opened : OpenedOver S E
  pub there : slice_get store.volumes place ≡ Some (Some opened)

abbrev pub FindsPlace : {S E : Type 0} → StoreOver S E → ℕ → Option ℕ → Type 0
FindsPlace store vid (Some place) = IsPlace store vid place
FindsPlace store vid None = volume_at store.tables.volumes vid ≡ None

-- ---- turns of volumes

-- the turns of the volume at a place
abbrev pub turns_at : ℕ → List Step → List Turn
turns_at place [] = []
turns_at place (step ∷ steps) = cond (step.place == place) (step.turn ∷ turns_at place steps) (turns_at place steps)

module _ {S E : Type 0} (shelf_seen : S → ShelfView E) (seen : E → FileView) where
  -- the way to a volume
  abbrev pub way_at : OpenedOver S E → WayView
  way_at opened = way_of shelf_seen seen opened.volume.world

  -- a volume is there, and the command is one for it
  pub record IsFor (volumes : List (Option (OpenedOver S E))) (place : ℕ) (command : VolumeCommand) : Type 0 where
    pub opened : OpenedOver S E
    pub there : slice_get volumes place ≡ Some (Some opened)
    pub fits : FitsCommand (way_at opened).origin command

  -- The volume at a place plays a command. All else stays.
  pub record PlaysAt (old new : StoreOver S E) (place : ℕ) (command : VolumeCommand) (result : Replied) : Type 0 where
    pub before : OpenedOver S E
    pub after : OpenedOver S E
    pub there : slice_get old.volumes place ≡ Some (Some before)
    pub new_is : new ≡ record old { volumes = slice_set old.volumes place (Some after) }
    pub plays : Plays (way_at before) (way_at after) command result
    pub is : IsStore new

  -- what the volume of a slot saw is a session of these turns; where there is none, there are none
  abbrev pub IsSlotSession : Option (Option (OpenedOver S E)) → Option (Option (OpenedOver S E)) → List Turn → Type 0
  IsSlotSession (Some (Some old)) (Some (Some new)) turns = IsSessionOver (way_at old) (way_at new) turns
  IsSlotSession (Some None) (Some None) turns = turns ≡ []
  IsSlotSession None None turns = turns ≡ []
  IsSlotSession old new turns = ⊥

  -- the volumes went from one list to another by these turns: what each of them saw is the session of its own turns
  abbrev pub AreSessions : List (Option (OpenedOver S E)) → List (Option (OpenedOver S E)) → List Step → Type 0
  AreSessions old new steps = (place : ℕ) → IsSlotSession (slice_get old place) (slice_get new place) (turns_at place steps)

-- ---- the farm

module _ {S E : Type 0} (shelf_seen : S → ShelfView E) where
  -- where the shelves of a slot's number are: its volume's are out, and all are at the farm where there is no volume; those of a number that wasn't given have no files
  abbrev pub AreShelvesOf : ℕ → Option (Option (OpenedOver S E)) → FarmView S → Type 0
  AreShelvesOf vid (Some (Some opened)) farm = AreOut vid 0 (opened.volume.world.shape.disks + 1) farm
  AreShelvesOf vid (Some None) farm = (d : ℕ) → farm.is_out d vid ≡ false
  AreShelvesOf vid None farm = (d : ℕ) → (farm.is_out d vid ≡ false) × IsFresh shelf_seen (farm.place d vid)

  -- .. for each number
  abbrev pub IsOver : StoreOver S E → FarmView S → Type 0
  IsOver store farm = (place : ℕ) → AreShelvesOf (place + 1) (slice_get store.volumes place) farm

  -- a store is sound, and stands over this farm
  pub record StandsOver (store : StoreOver S E) (farm : FarmView S) : Type 0 where
    pub is : IsStore store
    pub shelves : IsOver store farm
