-- What one command asks of a volume, and its reply.
use Rattle.std.specs.Prelude.{ℕ, ◌≡◌, ◌≤◌, true, List, [], length, Option, Result, Ok, Err}
use Rattle.code_mode.specs.declared.mode.Mode.{Mode}
use Rattle.code_mode.specs.declared.stripe.TheConstants.{BLOB_LIMIT}
use Rattle.volume_entry.specs.Manager.{IsBid, IsDisk}
use Rattle.volume_world.specs.declared.event.Event.TheVariants as events
use Rattle.volume_world.specs.declared.fault.StepFault.{StepFault}
use Rattle.volume_world.specs.declared.fault.StepFault.TheVariants.{HistoryFull}
use Rattle.volume_world.specs.Run.{World}
use Rattle.volume_world.specs.Way.{Origin, WayView, shape_of, longest_history}
use Rattle.volume_world.specs.Course.{Part, Goes, PartsLead}
use Rattle.volume_world.specs.Call.{Call}
use Rattle.volume_world.specs.Progress.{AllFit}
use Rattle.blob_access.specs.declared.fault.PutFault.{PutFault}
use Rattle.blob_access.specs.declared.fault.GetFault.{GetFault}
use Rattle.blob_access.specs.GetCall.{GetsBy, IsPayload}
use Rattle.object_access.specs.declared.pieces.TheConstants.{OBJECT_LIMIT}
use Rattle.object_access.specs.Pieces.{blob_count, blob_sizes, pieces_of, AreBids}
use Rattle.object_access.specs.ObjectPut.{ObjectPutsBy}
use Rattle.object_access.specs.ObjectGet.{ObjectGetsBy, IsObject}
use Rattle.volume_calls.specs.CallForm.{cut_by, EndsBy, one_event}
use Rattle.volume_calls.specs.CutOff.{step_cut, log_cut, restart_cut, ask_cut}
use Rattle.volume_calls.specs.SingleCalls.{tick_tells, done_tells, restart_tells, manager_tells, look_tells, ask_tells}
use Rattle.volume_calls.specs.Flushes.{none_yet, flush_call}
use Rattle.volume_turns.specs.declared.command.VolumeCommand.{VolumeCommand}
use Rattle.volume_turns.specs.declared.command.VolumeCommand.TheVariants as commands
use Rattle.volume_turns.specs.declared.reply.VolumeReply.TheVariants as replies
use Rattle.volume_turns.specs.Answers.{Replied, put_reply, got_reply, fetched_reply, ask_reply, tick_reply, broken_reply, planned_reply, seen_reply, flush_reply, restart_reply, manager_reply}

-- an object, or a blob, of a size that there can be, under numbers of blobs; disks are the volume's
abbrev pub FitsCommand : Origin → VolumeCommand → Type 0
FitsCommand origin (commands.Put first object) = (1 ≤ length object) × (length object ≤ OBJECT_LIMIT) × AreBids first (blob_count (length object))
FitsCommand origin (commands.Get first size) = (1 ≤ size) × (size ≤ OBJECT_LIMIT) × AreBids first (blob_count size)
FitsCommand origin (commands.Fetch bid size) = (1 ≤ size) × (size ≤ BLOB_LIMIT) × IsBid bid
FitsCommand origin (commands.Ask bid) = IsBid bid
FitsCommand origin (commands.Break disk) = IsDisk (shape_of origin) disk
FitsCommand origin (commands.Plan disk fate count) = IsDisk (shape_of origin) disk
FitsCommand origin (commands.Restart disk) = IsDisk (shape_of origin) disk
FitsCommand origin command = Unit {0}

-- ---- what is asked, and what is replied

-- the stretch is that of a call, whose answer makes the reply
pub record TurnOf {S T E : Type 0} (call : Call S (Result T E)) (first : S) (cut : E → Option StepFault) (reply : Result T E → Replied) (parts : List Part) (result : Replied) : Type 0 where
  pub answer : Result T E
  pub ends : EndsBy call first parts answer (cut_by cut answer)
  pub given : result ≡ reply answer

pub record GetTurn (mode : Mode) (first size : ℕ) (parts : List Part) (result : Replied) : Type 0 where
  pub answer : Result (List ℕ) GetFault
  pub gets : ObjectGetsBy mode first (blob_sizes size) [] parts answer
  pub given : result ≡ got_reply answer

pub record FetchTurn (mode : Mode) (bid size : ℕ) (parts : List Part) (result : Replied) : Type 0 where
  pub answer : Result (List ℕ) GetFault
  pub gets : GetsBy (record { mode = mode; bid = bid; size = size }) parts answer
  pub given : result ≡ fetched_reply answer

-- the puts of an object's blobs, whose answer makes the reply
pub record PutTurn (mode : Mode) (first : ℕ) (object : List ℕ) (parts : List Part) (result : Replied) : Type 0 where
  pub answer : Result (Unit {0}) PutFault
  pub puts : ObjectPutsBy mode first (pieces_of object) parts answer
  pub given : result ≡ put_reply answer

-- What a command asks of a volume of this mode in a stretch, and its reply. Where there is none, it breaks off there.
abbrev pub TurnBy : Mode → VolumeCommand → List Part → Replied → Type 0
TurnBy mode commands.Look parts result = TurnOf (one_event events.Look look_tells) tt log_cut seen_reply parts result
TurnBy mode (commands.Put first object) parts result = PutTurn mode first object parts result
TurnBy mode (commands.Get first size) parts result = GetTurn mode first size parts result
TurnBy mode (commands.Fetch bid size) parts result = FetchTurn mode bid size parts result
TurnBy mode (commands.Ask bid) parts result = TurnOf (one_event (events.Ask bid) ask_tells) tt ask_cut ask_reply parts result
TurnBy mode (commands.Tick by) parts result = TurnOf (one_event (events.Tick by) tick_tells) tt step_cut tick_reply parts result
TurnBy mode (commands.Break disk) parts result = TurnOf (one_event (events.Break disk) done_tells) tt step_cut broken_reply parts result
TurnBy mode (commands.Plan disk fate count) parts result = TurnOf (one_event (events.Plan disk fate count) done_tells) tt step_cut planned_reply parts result
TurnBy mode commands.Flush parts result = TurnOf flush_call none_yet log_cut flush_reply parts result
TurnBy mode (commands.Restart disk) parts result = TurnOf (one_event (events.Restart disk) restart_tells) tt restart_cut restart_reply parts result
TurnBy mode commands.RestartManager parts result = TurnOf (one_event events.RestartManager manager_tells) tt log_cut manager_reply parts result

-- ---- what a reply shows

-- the blobs are begun, and their payloads, joined, are the bytes that were got
abbrev pub ShowsObject : World → ℕ → ℕ → Replied → Type 0
ShowsObject v first size (Ok (replies.Got bytes)) = IsObject v first (blob_count size) bytes
ShowsObject v first size result = Unit {0}

abbrev pub ShowsBlob : World → ℕ → Replied → Type 0
ShowsBlob v bid (Ok (replies.Fetched bytes)) = IsPayload v bid bytes
ShowsBlob v bid result = Unit {0}

-- the bytes that a reply shows are those with which the blobs were begun
abbrev pub ShowsBegun : World → VolumeCommand → Replied → Type 0
ShowsBegun v (commands.Get first size) result = ShowsObject v first size result
ShowsBegun v (commands.Fetch bid size) result = ShowsBlob v bid result
ShowsBegun v command result = Unit {0}

-- ---- a turn over a way

-- A command over a way. Each reply of the volume is one that its event may have. The history is said to be full only where it is. Where files
-- tell, from each state in which the volume may have been the stretch leads to one in which the bytes that are shown are begun.
pub record Plays (old new : WayView) (command : VolumeCommand) (result : Replied) : Type 0 where
  pub parts : List Part
  pub goes : Goes old new parts
  pub fits : AllFit old.origin parts
  pub turn : TurnBy old.origin.mode command parts result
  pub full : result ≡ Err HistoryFull → longest_history ≤ length new.entries
  pub shows : old.origin.is_told ≡ true → (w : World) → old.is_at w → (v : World) × PartsLead old.origin w parts v × new.is_at v × ShowsBegun v command result
