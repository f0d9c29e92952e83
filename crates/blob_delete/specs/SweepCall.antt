-- The sweep of one blob: marks at the units that stand, the commit, and the units' shards freed.
use Rattle.std.specs.Prelude.{ℕ, ◌+◌, Bool, true, false, cond, not, ◌==◌, List, [], ◌∷◌, ◌++◌, length, filter, Option, Some, None, Result, Ok, Err}
use Rattle.unit_id.specs.declared.homes.Home.{Home}
use Rattle.unit_id.specs.declared.request.Request.TheVariants as requests
use Rattle.unit_id.specs.declared.answer.Answer.{Answer}
use Rattle.unit_id.specs.declared.answer.Answer.TheVariants as answers
use Rattle.volume_entry.specs.declared.view.LockView.{LockView}
use Rattle.volume_world.specs.declared.event.Event.{Event}
use Rattle.volume_world.specs.declared.event.Event.TheVariants as events
use Rattle.volume_world.specs.declared.reply.Reply.{Reply}
use Rattle.volume_world.specs.declared.reply.Reply.TheVariants as replies
use Rattle.volume_world.specs.Course.{Part}
use Rattle.volume_world.specs.Call.{Next, Call, IsRest, IsFront}
use Rattle.blob_delete.specs.declared.sweeping.Swept.{Swept}
use Rattle.blob_delete.specs.declared.sweeping.Swept.TheVariants as swept
use Rattle.blob_delete.specs.declared.fault.DeleteFault.{DeleteFault}
use Rattle.blob_delete.specs.declared.fault.DeleteFault.TheVariants as faults

-- Of the units that the look showed on unbroken disks: those that were heard to have the mark, in order, the one that is asked now, and those
-- behind it. All units of the volume are so many, and so many of them were heard to have freed the blob.
pub data SweepStage : Type 0 where
  Looking : SweepStage
  Marking : ℕ → List Home → Home → List Home → SweepStage
  Committing : ℕ → List Home → SweepStage
  Freeing : ℕ → ℕ → Home → List Home → SweepStage

abbrev pub SweepNext : Type 0
SweepNext = Next SweepStage (Result Swept DeleteFault)

abbrev pub sweep_asks : ℕ → SweepStage → Event
sweep_asks bid SweepStage.Looking = events.Look
sweep_asks bid (SweepStage.Marking total marked home homes) = events.Send (requests.Mark home.unit home.disk bid)
sweep_asks bid (SweepStage.Committing total marked) = events.Commit bid
sweep_asks bid (SweepStage.Freeing total freed home homes) = events.Send (requests.Free home.unit home.disk bid)

abbrev pub unbroken : List Home → List Home
unbroken homes = filter (λ (home : Home). not home.broken) homes

-- the units that are left, then the commit
abbrev pub marking : ℕ → List Home → List Home → SweepStage
marking total marked [] = SweepStage.Committing total marked
marking total marked (home ∷ homes) = SweepStage.Marking total marked home homes

-- the units that are left, then the end: freed where every unit of the volume has freed
abbrev pub freeing : ℕ → ℕ → List Home → SweepNext
freeing total freed [] = Next.Over (Ok (cond (freed == total) swept.Freed swept.Committed))
freeing total freed (home ∷ homes) = Next.Go (SweepStage.Freeing total freed home homes)

-- a fault of the manager's log ends the sweep
abbrev pub unless_failed : Reply → SweepNext
unless_failed replies.Fault = Next.Over (Err faults.Fault)
unless_failed (replies.Spoiled place) = Next.Over (Err (faults.Spoiled place))
unless_failed reply = Next.Never

abbrev pub after_view : Option LockView → List Home → SweepNext
after_view (Some lock) units = Next.Over (Err (faults.Locked lock.task))
after_view None units = Next.Go (marking (length units) [] (unbroken units))

abbrev pub after_look : Reply → SweepNext
after_look (replies.Seen view) = after_view view.held view.units
after_look reply = unless_failed reply

-- a unit did what it was asked, now or before
abbrev pub has_done : Answer → Bool
has_done answers.Done = true
has_done answers.Already = true
has_done answer = false

-- whatever a unit answers, or whether it is heard at all, the next one is asked
abbrev pub after_send : (Bool → SweepNext) → Reply → SweepNext
after_send then (replies.Heard answer) = then (has_done answer)
after_send then replies.Unheard = then false
after_send then replies.Barred = then false
after_send then reply = unless_failed reply

-- a unit that answers Done or Already has the mark
abbrev pub after_mark : ℕ → List Home → Home → List Home → Bool → SweepNext
after_mark total marked home homes done = Next.Go (marking total (cond done (marked ++ home ∷ []) marked) homes)

-- those that have the mark are to free the blob
abbrev pub after_commit : ℕ → List Home → Reply → SweepNext
after_commit total marked replies.Done = freeing total 0 marked
after_commit total marked replies.Already = freeing total 0 marked
after_commit total marked (replies.TooFewMarks have) = Next.Over (Ok (swept.Waits have))
after_commit total marked (replies.Locked task) = Next.Over (Err (faults.Locked task))
after_commit total marked replies.NotAsked = Next.Over (Err faults.NotAsked)
after_commit total marked reply = unless_failed reply

abbrev pub after_free : ℕ → ℕ → List Home → Bool → SweepNext
after_free total freed homes done = freeing total (cond done (freed + 1) freed) homes

abbrev pub sweep_after : SweepStage → Reply → SweepNext
sweep_after SweepStage.Looking reply = after_look reply
sweep_after (SweepStage.Marking total marked home homes) reply = after_send (after_mark total marked home homes) reply
sweep_after (SweepStage.Committing total marked) reply = after_commit total marked reply
sweep_after (SweepStage.Freeing total freed home homes) reply = after_send (after_free total freed homes) reply

abbrev pub sweep_call : ℕ → Call SweepStage (Result Swept DeleteFault)
sweep_call bid = record { asks = sweep_asks bid; after = sweep_after }

-- what a sweep asks in this stretch, and what it answers: where the history is full or memory is out, it breaks off
abbrev pub SweepsBy : ℕ → List Part → Result Swept DeleteFault → Type 0
SweepsBy bid parts (Err faults.HistoryFull) = IsFront (sweep_call bid) (Next.Go SweepStage.Looking) parts
SweepsBy bid parts (Err faults.Memory) = IsFront (sweep_call bid) (Next.Go SweepStage.Looking) parts
SweepsBy bid parts result = IsRest (sweep_call bid) (Next.Go SweepStage.Looking) parts result
