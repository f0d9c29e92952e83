-- A step that the entry of a volume answers is one that the volume takes.
use Rattle.std.proofs.Common.{◌≡◌, ◌∙◌, sym, ap, refl, subst, ℕ, Bool, true, false, List, Result, Ok, Err}
use Rattle.unit_id.proofs.Bools.{contrary}
use Rattle.disk_base.specs.Disk.{FileView}
use Rattle.disk_base.specs.Shelves.{ShelfView}
use Rattle.code_mode.specs.VolumeShape.{VolumeShape}
use Rattle.volume_entry.specs.Manager.{Manager, IsBid, transfers_of}
use Rattle.volume_entry.specs.ManagerStep.{Locks, Retargets, Swaps, Unlocks, Asks, ask_refusal}
use Rattle.volume_entry.specs.Reply.{Reply as ToldReply}
use Rattle.volume_entry.specs.TableParts.{shape_of}
use Rattle.volume_entry.specs.View.{moves_shown}
use Rattle.volume_entry.specs.Entry.{is_broken, reply_of, ShowsMoves, StepsTo, FitsEvent}
use Rattle.volume_entry.specs.Entry as entries
use Rattle.volume_entry.specs.declared.event.ManagerEvent.{ManagerEvent}
use Rattle.volume_entry.specs.declared.event.ManagerEvent.TheVariants as steps
use Rattle.volume_entry.specs.declared.event.ManagerReply.{ManagerReply}
use Rattle.volume_entry.specs.declared.event.ManagerReply.TheVariants as given
use Rattle.volume_entry.specs.declared.fault.EntryFault.{EntryFault}
use Rattle.volume_entry.specs.declared.fault.EntryFault.TheVariants as faults
use Rattle.volume_world.specs.BlobStatus.{is_begun}
use Rattle.volume_world.specs.State.{Puts, State}
use Rattle.volume_world.specs.Move.{Happens}
use Rattle.volume_world.specs.Run.{World}
use Rattle.volume_world.specs.Trace.{event_kept, reply_kept, trace_of}
use Rattle.volume_world.specs.Told.{event_told, Tells}
use Rattle.volume_world.specs.ManagerReplies.{step_reply, volume_event, volume_reply}
use Rattle.volume_world.specs.World.{WorldOver, Stands}
use Rattle.volume_world.specs.WorldSteps.{IsOneVolume, LeadsOn, Gives}
use Rattle.volume_world.specs.Opening.{NeedsLog}
use Rattle.volume_world.specs.declared.event.Event.TheVariants as events
use Rattle.volume_world.specs.declared.reply.Reply.TheVariants as replies
use Rattle.volume_world.specs.declared.trace.TraceEvent.TheVariants as kept_event
use Rattle.volume_world.specs.declared.trace.TraceReply.TheVariants as kept_reply
use Rattle.volume_world.proofs.WorldFrames.{noted, stands_with}
use Rattle.volume_world.proofs.OneMove.{IsOneMove, entry_of_move}

-- tests that agree on every disk are one
pub same_tests : (flags : List Bool) (broken : ℕ → Bool) → ((disk : ℕ) → broken disk ≡ is_broken flags disk) → is_broken flags ≡ broken
same_tests flags broken agree = λ i disk. sym (agree disk) i

-- whether a blob was begun is tested before its deletion is asked for
abbrev pub IsTested : Puts → ManagerEvent → Type 0
IsTested puts (steps.Ask bid) = is_begun (puts.status bid) ≡ true
IsTested puts event = Unit {0}

step_is_one_move : (event : ManagerEvent) → IsOneMove (event_told (event_kept (volume_event event)))
step_is_one_move steps.Lease = tt
step_is_one_move (steps.Lock task targets) = tt
step_is_one_move (steps.Retarget task index disk) = tt
step_is_one_move (steps.Swap task) = tt
step_is_one_move (steps.Unlock task) = tt
step_is_one_move (steps.Ask bid) = tt
step_is_one_move (steps.Commit bid) = tt

pub step_needs_log : (event : ManagerEvent) → NeedsLog (event_told (event_kept (volume_event event)))
step_needs_log steps.Lease = tt
step_needs_log (steps.Lock task targets) = tt
step_needs_log (steps.Retarget task index disk) = tt
step_needs_log (steps.Swap task) = tt
step_needs_log (steps.Unlock task) = tt
step_needs_log (steps.Ask bid) = tt
step_needs_log (steps.Commit bid) = tt

-- the manager's step as a move of the volume
pub step_happens : (shape : VolumeShape) (s : State) (flags : List Bool) (event : ManagerEvent) (reply : ToldReply) (n : Manager) → is_broken flags ≡ s.broken
    → s.manager.is_shut ≡ false → FitsEvent shape event → IsTested s.puts event → StepsTo shape flags s.time event s.manager reply n
    → Happens shape s (event_told (event_kept (volume_event event))) reply (record s { manager = n })
step_happens shape s flags steps.Lease reply n same open_ fits tested step = (open_, (step, refl))
step_happens shape s flags (steps.Lock task targets) reply n same open_ fits tested step =
    (open_, (fits, subst (λ b. Locks b s.time task targets s.manager reply n) same step, refl))
step_happens shape s flags (steps.Retarget task index disk) reply n same open_ fits tested step =
    (open_, (fits.1, subst (λ b. Retargets b task index disk s.manager reply n) same step, refl))
step_happens shape s flags (steps.Swap task) reply n same open_ fits tested step = (open_, (subst (λ b. Swaps shape b task s.manager reply n) same step, refl))
step_happens shape s flags (steps.Unlock task) reply n same open_ fits tested step = (open_, (subst (λ b. Unlocks b task s.manager reply n) same step, refl))
step_happens shape s flags (steps.Ask bid) reply n same open_ fits tested step =
    (open_, (fits, subst (λ begun. Asks begun bid s.manager reply n) (sym tested) step, refl))
step_happens shape s flags (steps.Commit bid) reply n same open_ fits tested step = (open_, (fits, step, refl))

-- what the code replies tells what the protocol replies
pub reply_tells : (vid : ℕ) (s : State) (flags : List Bool) (n : Manager) (reply : ManagerReply) → is_broken flags ≡ s.broken → ShowsMoves vid flags n reply
    → Tells vid s (reply_kept (volume_reply reply)) (reply_of n reply)
reply_tells vid s flags n given.Done same shows = tt
reply_tells vid s flags n given.Already same shows = tt
reply_tells vid s flags n (given.LeaseTo end) same shows = refl
reply_tells vid s flags n (given.Locked task) same shows = refl
reply_tells vid s flags n (given.LeaseRuns end) same shows = refl
reply_tells vid s flags n (given.Granted lock moves) same shows = (refl, shows ∙ ap (λ b. moves_shown vid b false (transfers_of n.lock)) same)
reply_tells vid s flags n given.DestBroken same shows = tt
reply_tells vid s flags n (given.DestHeld index) same shows = refl
reply_tells vid s flags n given.EpochSpent same shows = tt
reply_tells vid s flags n given.NotLocked same shows = tt
reply_tells vid s flags n (given.OtherTask task) same shows = refl
reply_tells vid s flags n given.AlreadySwapped same shows = tt
reply_tells vid s flags n given.NotMoved same shows = tt
reply_tells vid s flags n given.DestGood same shows = tt
reply_tells vid s flags n given.NotFenced same shows = tt
reply_tells vid s flags n (given.NotListed have) same shows = refl
reply_tells vid s flags n (given.NotCopied bid) same shows = refl
reply_tells vid s flags n given.NotSwapped same shows = tt
reply_tells vid s flags n given.NotReleased same shows = tt
reply_tells vid s flags n given.NotAsked same shows = tt
reply_tells vid s flags n (given.TooFewMarks have) same shows = refl

module _ {H F : Type 0} (shelf_seen : H → ShelfView F) (seen : F → FileView) where
  -- a step is asked of the entry of a world, and nothing else changes
  module _ (old new : WorldOver H F) (w : World) (event : ManagerEvent) (one : IsOneVolume old) (stands : Stands shelf_seen seen old w)
      (only : new ≡ record old { entry = new.entry; history = new.history }) (unbroken : new.entry.broken ≡ old.entry.broken)
      (fits : FitsEvent (shape_of old.shape) event) (tested : IsTested w.state.puts event) where
    same : is_broken old.entry.broken ≡ w.state.broken
    same = same_tests old.entry.broken w.state.broken stands.broken

    by_step : (told : ToldReply) (n : Manager) → w.state.manager.is_shut ≡ false
        → StepsTo (shape_of old.entry.book.shape) old.entry.broken old.time event w.state.manager told n
        → Happens (shape_of old.shape) w.state (event_told (event_kept (volume_event event))) told (record (w.state) { manager = n })
    by_step told n open_ step =
        step_happens (shape_of old.shape) w.state old.entry.broken event told n same open_ fits tested
        (subst (λ shape. StepsTo (shape_of shape) old.entry.broken w.state.time event w.state.manager told n) one.shape
        (subst (λ time. StepsTo (shape_of old.entry.book.shape) old.entry.broken time event w.state.manager told n) (sym stands.time) step))

    -- an answer of the entry is the reply of the volume
    pub step_answered : (reply : ManagerReply) → entries.StepsBy seen old.time event w.state.manager old.entry (Ok reply) new.entry
        → LeadsOn shelf_seen seen old w (trace_of (volume_event event) (volume_reply reply)) new
    step_answered reply h =
        let answered = h.1 in
        let n = answered.then_ in
        record {
          then_ = record w { state = record (w.state) { manager = n } };
          may_be = entry_of_move old.vid (shape_of old.shape) w (event_kept (volume_event event)) (reply_kept (volume_reply reply)) (reply_of n reply)
              (record (w.state) { manager = n }) (step_is_one_move event) (by_step (reply_of n reply) n h.0 answered.step)
              (reply_tells old.vid w.state old.entry.broken n reply same (subst (λ vid. ShowsMoves vid old.entry.broken n reply) one.vid answered.moves));
          stands = stands_with shelf_seen seen old new w n only unbroken answered.stands stands;
        }

    -- a fault of the entry is answered by one, and leaves its record in doubt
    pub step_failed : entries.StepsBy seen old.time event w.state.manager old.entry (Err faults.Fault) new.entry
        → LeadsOn shelf_seen seen old w (trace_of (volume_event event) replies.Fault) new
    step_failed h =
        let n = h.1.then_ in
        record {
          then_ = record w { state = record (w.state) { manager = n } };
          may_be = entry_of_move old.vid (shape_of old.shape) w (event_kept (volume_event event)) (reply_kept replies.Fault) ToldReply.Fault
              (record (w.state) { manager = n }) (step_is_one_move event) (by_step ToldReply.Fault n h.0 h.1.step) tt;
          stands = stands_with shelf_seen seen old new w n only unbroken h.1.stands stands;
        }

    -- a log that is started isn't shut
    pub step_not_shut : w.state.manager.is_shut ≡ false → entries.StepsBy seen old.time event w.state.manager old.entry (Err faults.Shut) new.entry → ⊥
    step_not_shut open_ h = contrary w.state.manager.is_shut h.0 open_

    -- for want of memory nothing is done
    pub step_not_done : entries.StepsBy seen old.time event w.state.manager old.entry (Err faults.Memory) new.entry → Stands shelf_seen seen new w
    step_not_done h = stands_with shelf_seen seen old new w w.state.manager only unbroken h stands

    -- whatever a step of a started log gives
    pub step_gives : (answer : Result ManagerReply EntryFault) → w.state.manager.is_shut ≡ false
        → entries.StepsBy seen old.time event w.state.manager old.entry answer new.entry → Gives shelf_seen seen old w (volume_event event) new (step_reply answer)
    step_gives (Ok reply) open_ h = step_answered reply h
    step_gives (Err faults.Fault) open_ h = step_failed h
    step_gives (Err faults.Shut) open_ h = absurd (step_not_shut open_ h)
    step_gives (Err faults.Memory) open_ h = step_not_done h
    step_gives (Err (faults.Spoiled place)) open_ h = absurd h

  -- a blob that wasn't begun is no blob to delete; the entry isn't asked
  pub ask_unbegun : (old new : WorldOver H F) (w : World) (bid : ℕ) → Stands shelf_seen seen old w → new ≡ record old { history = new.history }
      → w.state.manager.is_shut ≡ false → IsBid bid
      → is_begun (w.state.puts.status bid) ≡ false → LeadsOn shelf_seen seen old w (trace_of (events.Ask bid) replies.NotBegun) new
  ask_unbegun old new w bid stands only open_ fits fresh = record {
    then_ = w;
    may_be = entry_of_move old.vid (shape_of old.shape) w (kept_event.Ask bid) kept_reply.NotBegun ToldReply.NotBegun w.state tt
        (open_, (fits, ((λ i. ask_refusal (fresh i) bid w.state.manager), refl), refl)) tt;
    stands = noted shelf_seen seen old new w only stands;
  }
