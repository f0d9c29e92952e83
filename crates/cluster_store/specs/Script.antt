-- A script over a store: commands, one behind the other, and what each of its volumes saw of them.
use Rattle.std.specs.Prelude.{ℕ, ◌≡◌, ◌⊎◌, ◌+◌, cond, true, false, Bool, List, [], ◌∷◌, ◌++◌, length, slice_get, Option, Some, None, Result, Ok, Err}
use Rattle.std.specs.Str.{bytes_eq}
use Rattle.std.specs.Prelude.{String}
use Rattle.std.specs.String.{string_bytes}
use Rattle.std.specs.declared.alloc.Global.{Global}
use Rattle.disk_base.specs.Disk.{FileView}
use Rattle.disk_base.specs.Shelves.{ShelfView}
use Rattle.disk_base.specs.Farms.{FarmView}
use Rattle.code_mode.specs.declared.mode.Mode.{Mode}
use Rattle.code_mode.specs.Payload.{payload_bytes}
use Rattle.cluster_admin.specs.declared.fault.AdminFault.{AdminFault}
use Rattle.cluster_admin.specs.Cluster.{State, fresh}
use Rattle.cluster_admin.specs.Drawing.{with_volume}
use Rattle.cluster_admin.specs.Picking.{without_volume}
use Rattle.cluster_admin.specs.Refusals.{new_volume_fault}
use Rattle.volume_world.specs.declared.world_fault.WorldFault.{WorldFault}
use Rattle.volume_world.specs.Way.{IsWay}
use Rattle.volume_maker.specs.Making.{IsGiven, next_number}
use Rattle.volume_turns.specs.Session.{Turn, IsSessionOver}
use Rattle.cluster_store.specs.declared.command.Command.{Command}
use Rattle.cluster_store.specs.declared.command.Command.TheVariants as commands
use Rattle.cluster_store.specs.declared.reply.Reply.{Reply}
use Rattle.cluster_store.specs.declared.reply.Reply.TheVariants as replies
use Rattle.cluster_store.specs.Plan.{Step, Follows}
use Rattle.cluster_store.specs.Lines.{plan_of}
use Rattle.cluster_store.specs.Store.{OpenedOver, StoreOver, turns_at, way_at}
use Rattle.cluster_store.specs.Answers.{Answers, bad_disks, breaks_in, lost_reply, volume_refusal}

-- a command, the turns of volumes that it took, and its reply
pub record Line : Type 0 where
  pub command : Command
  pub steps : List Step
  pub reply : Reply

-- ---- what lines do to the tables

-- no volume is given
pub record IsRefusedIn (mode : Mode) (old new : State) (steps : List Step) (reply : Reply) : Type 0 where
  pub cause : AdminFault
  pub refused : new_volume_fault old mode ≡ Some cause
  pub tables : new ≡ old
  pub none : steps ≡ []
  pub told : reply ≡ replies.Refused (volume_refusal cause)

-- a number is spent
pub record IsLostIn (mode : Mode) (old new : State) (steps : List Step) (reply : Reply) : Type 0 where
  pub disks : List ℕ
  pub given : IsGiven mode old disks
  pub tables : new ≡ without_volume (with_volume old mode disks) (next_number old)
  pub none : steps ≡ []
  pub cause : WorldFault
  pub told : Ok reply ≡ lost_reply cause

-- a volume is given, in which each broken disk breaks
pub record IsMadeIn (mode : Mode) (old new : State) (steps : List Step) (reply : Reply) : Type 0 where
  pub disks : List ℕ
  pub given : IsGiven mode old disks
  pub breaks : Follows (breaks_in (with_volume old mode disks) (length old.volumes) (bad_disks 1 old.disks) (replies.Volume (next_number old))) steps new (Ok reply)

abbrev pub Leads : Command → State → List Step → State → Reply → Type 0
Leads (commands.Volume mode) old steps new reply = IsRefusedIn mode old new steps reply ⊎ IsLostIn mode old new steps reply ⊎ IsMadeIn mode old new steps reply
Leads command old steps new reply = Follows (plan_of old command) steps new (Ok reply)

-- each line follows the plan of its command from the tables that the one before left
abbrev pub LinesLead : State → List Line → State → Type 0
LinesLead old [] new = new ≡ old
LinesLead old (line ∷ lines) new = (mid : State) × Leads line.command old line.steps mid line.reply × LinesLead mid lines new

-- ---- what volumes saw

-- the turns of the volume at a place
abbrev pub turns_of : ℕ → List Line → List Turn
turns_of place [] = []
turns_of place (line ∷ lines) = turns_at place line.steps ++ turns_of place lines

module _ {S E : Type 0} (shelf_seen : S → ShelfView E) (seen : E → FileView) where
  -- since a volume was made, without entries, what it saw is a session of these turns
  pub record IsHistory (now : OpenedOver S E) (turns : List Turn) : Type 0 where
    pub first : OpenedOver S E
    pub none : first.volume.world.history.entries ≡ []
    pub way : IsWay (way_at shelf_seen seen first)
    pub session : IsSessionOver (way_at shelf_seen seen first) (way_at shelf_seen seen now) turns

  abbrev pub IsSlotHistory : Option (Option (OpenedOver S E)) → List Turn → Type 0
  IsSlotHistory (Some (Some now)) turns = IsHistory now turns
  IsSlotHistory slot turns = turns ≡ []

  -- The lines led from these tables to the store's, and each volume saw its own turns of them.
  pub record IsScript (start : State) (lines : List Line) (store : StoreOver S E) : Type 0 where
    pub leads : LinesLead start lines store.tables
    pub each : (place : ℕ) → IsSlotHistory (slice_get store.volumes place) (turns_of place lines)

-- ---- one command more

-- a script with a command that was answered behind it is a script
pub record GoesOn {S E : Type 0} (shelf_seen : S → ShelfView E) (seen : E → FileView) (start : State) (lines : List Line) (command : Command) (reply : Reply) (new : StoreOver S E) : Type 0 where
  pub steps : List Step
  pub script : IsScript shelf_seen seen start (lines ++ record { command = command; steps = steps; reply = reply } ∷ []) new

abbrev pub OneCommandMore : {S E : Type 0} (shelf_seen : S → ShelfView E) (seen : E → FileView) → Type 0
OneCommandMore {S} {E} shelf_seen seen =
    (start : State) (lines : List Line) (command : Command) (reply : Reply) (old new : StoreOver S E) (before after : FarmView S)
    → IsScript shelf_seen seen start lines old → Answers shelf_seen seen command old new before after (Ok reply) → GoesOn shelf_seen seen start lines command reply new

-- ---- names

abbrev pub is_put : Reply → Bool
is_put (replies.Put vid bid size) = true
is_put reply = false

-- what a name stands for behind a put of it that is done: the bytes that it carries
abbrev pub named_by : List ℕ → Command → Option (List ℕ) → Option (List ℕ)
named_by name (commands.Put put object) before = cond (bytes_eq name (string_bytes put)) (Some (payload_bytes object)) before
named_by name command before = before

abbrev pub entered_by : List ℕ → Command → Reply → Option (List ℕ) → Option (List ℕ)
entered_by name command reply before = cond (is_put reply) (named_by name command before) before

abbrev pub entered_from : List ℕ → Option (List ℕ) → List Line → Option (List ℕ)
entered_from name before [] = before
entered_from name before (line ∷ lines) = entered_from name (entered_by name line.command line.reply before) lines

-- the bytes of the last put of this name that is done in these lines
abbrev pub last_put : List Line → List ℕ → Option (List ℕ)
last_put lines name = entered_from name None lines

-- ---- other bytes

-- the files of all volumes tell what they hold
abbrev pub AreTold : {S E : Type 0} (shelf_seen : S → ShelfView E) (seen : E → FileView) → StoreOver S E → Type 0
AreTold {S} {E} shelf_seen seen store = (place : ℕ) (opened : OpenedOver S E) → slice_get store.volumes place ≡ Some (Some opened) → (way_at shelf_seen seen opened).origin.is_told ≡ true

-- each get shows the bytes that the last put of its name carried
abbrev pub GetsShowPuts : {S E : Type 0} (shelf_seen : S → ShelfView E) (seen : E → FileView) → Type 0
GetsShowPuts {S} {E} shelf_seen seen =
    (placers : ℕ) (lines : List Line) (get : Line) (store : StoreOver S E) (name : String Global) (bytes : List ℕ) → IsScript shelf_seen seen (fresh placers) (lines ++ get ∷ []) store → AreTold shelf_seen seen store
    → get.command ≡ commands.Get name → get.reply ≡ replies.Got bytes → last_put lines (string_bytes name) ≡ Some bytes
