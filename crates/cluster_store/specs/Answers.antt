-- A command to a store over a farm, its reply, and what it leaves.
use Rattle.std.specs.Prelude.{ℕ, ◌≡◌, ◌+◌, ◌≤◌, ◌⊎◌, cond, Bool, false, List, [], ◌∷◌, ◌++◌, length, Option, Some, None, Result, Ok, Err}
use Rattle.disk_base.specs.Disk.{FileView}
use Rattle.disk_base.specs.Shelves.{ShelfView}
use Rattle.disk_base.specs.Farms.{FarmView}
use Rattle.code_mode.specs.declared.mode.Mode.{Mode}
use Rattle.code_mode.specs.declared.stripe.TheConstants.{BLOB_LIMIT}
use Rattle.volume_entry.specs.Manager.{IsBid}
use Rattle.cluster_admin.specs.declared.disks.Disk.{Disk}
use Rattle.cluster_admin.specs.declared.fault.AdminFault.{AdminFault}
use Rattle.cluster_admin.specs.declared.fault.AdminFault.TheVariants as faults
use Rattle.cluster_admin.specs.Cluster.{State}
use Rattle.cluster_admin.specs.Disks.{is_bad}
use Rattle.cluster_admin.specs.Refusals.{new_volume_fault}
use Rattle.volume_world.specs.declared.fault.StepFault.{StepFault}
use Rattle.volume_world.specs.declared.fault.StepFault.TheVariants.{Memory}
use Rattle.volume_world.specs.declared.world_fault.WorldFault.{WorldFault}
use Rattle.volume_world.specs.declared.world_fault.WorldFault.TheVariants as world_faults
use Rattle.volume_world.specs.Way.{IsWay}
use Rattle.volume_maker.specs.Making.{IsNext, IsSpent, next_number}
use Rattle.volume_turns.specs.declared.command.VolumeCommand.TheVariants as turns
use Rattle.cluster_store.specs.declared.command.Command.{Command}
use Rattle.cluster_store.specs.declared.command.Command.TheVariants as commands
use Rattle.cluster_store.specs.declared.reply.Refusal.{Refusal}
use Rattle.cluster_store.specs.declared.reply.Refusal.TheVariants as causes
use Rattle.cluster_store.specs.declared.reply.Reply.{Reply}
use Rattle.cluster_store.specs.declared.reply.Reply.TheVariants as replies
use Rattle.cluster_store.specs.Plan.{Plan}
use Rattle.cluster_store.specs.Lines.{done, plan_of}
use Rattle.cluster_store.specs.Store.{OpenedOver, StoreOver, way_at}
use Rattle.cluster_store.specs.Asking.{Played}

-- one blob of a size that there can be
abbrev pub FitsStore : Command → Type 0
FitsStore (commands.Fetch vid bid size) = (1 ≤ size) × (size ≤ BLOB_LIMIT) × IsBid bid
FitsStore command = Unit {0}

-- ---- a volume more

-- why the tables give no volume
abbrev pub volume_refusal : AdminFault → Refusal
volume_refusal (faults.FewDisks have need) = causes.FewDisks have need
volume_refusal fault = causes.Limit

-- what becomes of a volume that isn't made: a refusal, or no reply for want of memory
abbrev pub lost_reply : WorldFault → Result Reply StepFault
lost_reply world_faults.Fault = Ok (replies.Refused causes.Fault)
lost_reply (world_faults.Damaged kept computed) = Ok (replies.Refused causes.Damaged)
lost_reply (world_faults.Spoiled place) = Ok (replies.Refused (causes.Spoiled place))
lost_reply world_faults.Memory = Err Memory

-- a disk is broken, with a repair or without
abbrev pub is_bad_at : Option Disk → Bool
is_bad_at (Some disk) = is_bad disk
is_bad_at None = false

-- the disks, from this number on, that are so
abbrev pub bad_disks : ℕ → List Disk → List ℕ
bad_disks number [] = []
bad_disks number (disk ∷ disks) = cond (is_bad disk) (number ∷ bad_disks (number + 1) disks) (bad_disks (number + 1) disks)

-- each of these disks breaks in the volume at a place
abbrev pub breaks_in : State → ℕ → List ℕ → Reply → Plan
breaks_in tables place [] reply = done tables reply
breaks_in tables place (disk ∷ disks) reply = Plan.Ask tables place (turns.Break disk) (λ given. breaks_in tables place disks reply)

module _ {S E : Type 0} (shelf_seen : S → ShelfView E) (seen : E → FileView) where
  -- the tables have no volume more
  pub record IsRefusedVolume (mode : Mode) (old new : StoreOver S E) (before after : FarmView S) (result : Result Reply StepFault) : Type 0 where
    pub cause : AdminFault
    pub refused : new_volume_fault old.tables mode ≡ Some cause
    pub store : new ≡ old
    pub farm : after ≡ before
    pub reply : result ≡ Ok (replies.Refused (volume_refusal cause))

  -- the number is spent, and no volume is made
  pub record IsLostVolume (mode : Mode) (old new : StoreOver S E) (before after : FarmView S) (result : Result Reply StepFault) : Type 0 where
    pub cause : WorldFault
    pub spent : IsSpent shelf_seen seen mode old.tables new.tables before after cause
    pub volumes : new.volumes ≡ old.volumes ++ None ∷ []
    pub reply : result ≡ lost_reply cause

  -- The volume is made, and then each broken disk breaks in it.
  pub record IsMadeVolume (mode : Mode) (old new : StoreOver S E) (before after : FarmView S) (result : Result Reply StepFault) : Type 0 where
    pub opened : OpenedOver S E
    pub tables : State
    pub made : IsNext shelf_seen seen mode old.tables tables before after opened.volume
    pub way : IsWay (way_at shelf_seen seen opened)
    pub breaks : Played shelf_seen seen (breaks_in tables (length old.tables.volumes) (bad_disks 1 tables.disks) (replies.Volume (next_number old.tables)))
        (record { tables = tables; volumes = old.volumes ++ Some opened ∷ [] }) new result

  -- there is no memory for a volume, and nothing changed
  pub record IsNoVolume (old new : StoreOver S E) (before after : FarmView S) (result : Result Reply StepFault) : Type 0 where
    pub store : new ≡ old
    pub farm : after ≡ before
    pub reply : result ≡ Err Memory

  abbrev pub MakesOne : Mode → StoreOver S E → StoreOver S E → FarmView S → FarmView S → Result Reply StepFault → Type 0
  MakesOne mode old new before after result =
      IsRefusedVolume mode old new before after result ⊎ IsLostVolume mode old new before after result
      ⊎ IsMadeVolume mode old new before after result ⊎ IsNoVolume old new before after result

  -- ---- all commands

  -- A command to a store, and its reply: a volume is made, or its plan is followed by turns of volumes, and the farm stays.
  abbrev pub Answers : Command → StoreOver S E → StoreOver S E → FarmView S → FarmView S → Result Reply StepFault → Type 0
  Answers (commands.Volume mode) old new before after result = MakesOne mode old new before after result
  Answers command old new before after result = (after ≡ before) × Played shelf_seen seen (plan_of old.tables command) old new result
