-- A start of the manager's log of a volume: before an event that needs it, and at a restart of the manager.
use Rattle.std.specs.Prelude.{◌≡◌, ◌≤◌, Bool, true, false, List, [], ◌∷◌, length, None, IsSome, Result, Ok, Err, IfErr}
use Rattle.disk_base.specs.Disk.{FileView, Lasts}
use Rattle.disk_base.specs.Shelves.{ShelfView}
use Rattle.volume_entry.specs.Book.{KeepsBodies}
use Rattle.volume_entry.specs.BookStart.{EndsInTime, IsSpoiledAtEnd, IsStartCause}
use Rattle.volume_entry.specs.Entry.{EntryOver, EntryCall, Restarts}
use Rattle.volume_entry.specs.declared.fault.EntryFault.{EntryFault}
use Rattle.volume_world.specs.Event.{Event as ToldEvent}
use Rattle.volume_world.specs.Trace.{trace_of}
use Rattle.volume_world.specs.History.{KeptHistory, IsNoted, settle_entry}
use Rattle.volume_world.specs.Course.{Part, AreSettling}
use Rattle.volume_world.specs.World.{WorldOver}
use Rattle.volume_world.specs.Stepping.{Passes, Takes}
use Rattle.volume_world.specs.declared.event.Event.{Event}
use Rattle.volume_world.specs.declared.event.Event.TheVariants as events
use Rattle.volume_world.specs.declared.reply.Reply.{Reply}
use Rattle.volume_world.specs.declared.reply.Reply.TheVariants as replies
use Rattle.volume_world.specs.declared.fault.StepFault.{StepFault}

-- an event that needs the manager's log
abbrev pub NeedsLog : ToldEvent → Type 0
NeedsLog (ToldEvent.Tick by) = ⊥
NeedsLog (ToldEvent.Plan disk fate count) = ⊥
NeedsLog (ToldEvent.Break disk) = ⊥
NeedsLog (ToldEvent.Restart disk) = ⊥
NeedsLog ToldEvent.RestartManager = ⊥
NeedsLog (ToldEvent.Settle disk is_found) = ⊥
NeedsLog event = Unit {0}

-- ---- entries

-- the event stands there with its reply, and nothing where there was no memory
abbrev pub NotesReply : Event → KeptHistory → KeptHistory → Result Reply StepFault → Type 0
NotesReply event old new (Ok reply) = IsNoted (trace_of event reply) old new
NotesReply event old new (Err _) = new ≡ old

-- the entries of a restart of the manager whose log was shut, or wasn't
abbrev pub restart_parts : Bool → Bool → List Part
restart_parts true kept = Part.Settling (settle_entry 0 kept) ∷ Part.Asking events.RestartManager replies.Done ∷ []
restart_parts false kept = Part.Asking events.RestartManager replies.Done ∷ []

-- ---- starts

-- what is known of a start of the manager's log
pub record StartsEntry {F : Type 0} (seen : F → FileView) (old new : EntryOver F) (result : Result Bool EntryFault) : Type 0 where
  pub call : EntryCall seen old new result
  pub told : Restarts seen old new result
  pub lasts : Lasts (seen old.book.log.file) (seen new.book.log.file)
  pub bodies : KeepsBodies (seen old.book.log.file) (seen new.book.log.file)
  pub last : EndsInTime new.book.log.end result
  pub spoiled : IsSpoiledAtEnd old.book.vid old.book.shape (seen old.book.log.file) result
  pub named : IfErr result IsStartCause

-- the manager's log was shut and doesn't start, and nothing else changes
pub record FailsToStart {H F : Type 0} (seen : F → FileView) (old new : WorldOver H F) (fault : EntryFault) : Type 0 where
  pub shut : old.entry.book.log.end ≡ None
  pub starts : StartsEntry seen old.entry new.entry (Err fault)
  pub only : new ≡ record old { entry = new.entry }

module _ {H F : Type 0} (shelf_seen : H → ShelfView F) (seen : F → FileView) where
  -- the manager's log is started, behind a settle where it was shut
  pub record IsOpened (old new : WorldOver H F) : Type 0 where
    pub settles : List Part
    pub settling : AreSettling settles
    pub few : length settles ≤ 1
    pub passes : Passes shelf_seen seen settles old new
    pub open_ : IsSome new.entry.book.log.end

  -- a start of the log where it is shut
  abbrev pub StartsLog : WorldOver H F → WorldOver H F → Result (Unit {0}) EntryFault → Type 0
  StartsLog old new (Ok _) = IsOpened old new
  StartsLog old new (Err fault) = FailsToStart seen old new fault

  -- before an event: this goes on, or is done by its refusal, or there was no memory
  abbrev pub Opens : WorldOver H F → WorldOver H F → Event → Result (Result Event Reply) StepFault → Type 0
  Opens old new event (Ok (Ok given)) = (given ≡ event) × IsOpened old new
  Opens old new event (Ok (Err reply)) = Takes shelf_seen seen 0 old new event (Ok reply)
  Opens old new event (Err fault) = (old.entry.book.log.end ≡ None) × Takes shelf_seen seen 0 old new event (Err fault)
