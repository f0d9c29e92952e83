-- What the manager answers to a step of a started log, as a reply of the volume.
use Rattle.std.proofs.Common.{◌≡◌, sym, refl, subst, ℕ, ◌+◌, ◌*◌, ◌≤◌, false, List, [], ◌∷◌, Option, Some, None, IsSome, Result, Ok, Err, arith}
use Rattle.std.specs.Prelude.{IfOk, IfSome, is_none}
use Rattle.unit_id.specs.declared.moves.Move.{Move}
use Rattle.unit_id.specs.declared.targets.Target.{Target}
use Rattle.disk_base.specs.Disk.{FileView, IsFile, Lasts}
use Rattle.code_mode.specs.VolumeShape.{VolumeShape}
use Rattle.volume_entry.specs.Manager.{Manager, Transfer, transfers_of}
use Rattle.volume_entry.specs.Reply.{Reply as ToldReply}
use Rattle.volume_entry.specs.Book.{CrashLeaves, EndGrows, GrowsUpTo}
use Rattle.volume_entry.specs.BookStart.{last_start}
use Rattle.volume_entry.specs.Entry.{AnswersAs, EntryOver, HasRoomIfOpen, MayAnswer, reply_of}
use Rattle.volume_entry.specs.Entry as entries
use Rattle.volume_entry.specs.Places.{GrantsPlaces}
use Rattle.volume_entry.specs.Places as places
use Rattle.volume_entry.specs.TableParts as table
use Rattle.volume_entry.specs.declared.event.ManagerEvent.{ManagerEvent}
use Rattle.volume_entry.specs.declared.event.ManagerEvent.TheVariants as steps
use Rattle.volume_entry.specs.declared.event.ManagerReply.{ManagerReply}
use Rattle.volume_entry.specs.declared.event.ManagerReply.TheVariants as given
use Rattle.volume_entry.specs.declared.fault.EntryFault.{EntryFault}
use Rattle.volume_entry.specs.declared.fault.EntryFault.TheVariants as faults
use Rattle.volume_world.specs.Course.{is_fault}
use Rattle.volume_world.specs.ManagerReplies.{IsOfOpenLog, volume_event, volume_reply}
use Rattle.volume_world.specs.Managing.{StepsEntry}
use Rattle.volume_world.specs.Replying.{AreMovesEach, MayReply, ShowsMoves}
use Rattle.volume_world.specs.Trace.{reply_kept}
use Rattle.volume_world.specs.Way.{Origin, shape_of}
use Rattle.volume_world.specs.declared.reply.Reply.TheVariants as replies
use Rattle.volume_world.proofs.OneMove.{IsNoSend}
use Rattle.volume_world.proofs.ShortLogs.{item_of, step_small}

-- ---- a log that is started

-- the manager's part isn't shut where its log has an end
pub open_by_end : {E : Type 0} (seen : E → FileView) (entry : EntryOver E) (m : Manager) → entries.Stands seen entry m → IsSome entry.book.log.end → m.is_shut ≡ false
open_by_end seen entry m stands open_ = go entry.book.log.end stands.book.shut open_ where
  go : (end : Option ℕ) → m.is_shut ≡ is_none end → IsSome end → m.is_shut ≡ false
  go None shut open_ = cc
  go (Some place) shut open_ = shut

-- it answers as one that is started
pub open_answer : (event : ManagerEvent) (end : Option ℕ) (answer : Result ManagerReply EntryFault) → IsSome end → AnswersAs event end answer → IsOfOpenLog answer
open_answer event None answer open_ kinds = cc
open_answer event (Some place) (Ok reply) open_ kinds = tt
open_answer event (Some place) (Err faults.Fault) open_ kinds = tt
open_answer event (Some place) (Err faults.Memory) open_ kinds = tt
open_answer event (Some place) (Err faults.Shut) open_ kinds = cc
open_answer event (Some place) (Err (faults.Spoiled at)) open_ kinds = absurd kinds

-- it ends early enough behind a record, where the history has an entry more
pub end_grown : (was end : Option ℕ) (entries more : ℕ) → more ≡ entries + 1 → GrowsUpTo 128 was end → IfSome was (λ place. place ≤ last_start + 128 * entries)
    → IfSome end (λ place. place ≤ last_start + 128 * more)
end_grown was None entries more one grows below = tt
end_grown None (Some end) entries more one grows below = absurd grows
end_grown (Some place) (Some end) entries more one grows below = omega (arith, one, grows, below)

-- ---- events

pub step_no_send : (event : ManagerEvent) → IsNoSend (volume_event event)
step_no_send steps.Lease = tt
step_no_send event = tt

-- ---- replies

-- an answer isn't told as a fault
pub answer_faultless : (reply : ManagerReply) → is_fault (reply_kept (volume_reply reply)) ≡ false
answer_faultless given.Done = refl
answer_faultless reply = refl

lease_may : (n : Manager) (reply : ManagerReply) → MayAnswer steps.Lease (reply_of n reply) → (origin : Origin) → MayReply origin (volume_event steps.Lease) (volume_reply reply)
lease_may n (given.LeaseTo end) may origin = tt
lease_may n (given.Locked task) may origin = tt
lease_may n reply may origin = absurd may

lock_may : (n : Manager) (task : ℕ) (targets : List Target) (reply : ManagerReply) → MayAnswer (steps.Lock task targets) (reply_of n reply) → (origin : Origin)
    → MayReply origin (volume_event (steps.Lock task targets)) (volume_reply reply)
lock_may n task targets (given.Granted lock moves) may origin = tt
lock_may n task targets (given.Locked other) may origin = tt
lock_may n task targets (given.LeaseRuns end) may origin = tt
lock_may n task targets given.DestBroken may origin = tt
lock_may n task targets (given.DestHeld index) may origin = tt
lock_may n task targets given.EpochSpent may origin = tt
lock_may n task targets reply may origin = absurd may

retarget_may : (n : Manager) (task index disk : ℕ) (reply : ManagerReply) → MayAnswer (steps.Retarget task index disk) (reply_of n reply) → (origin : Origin)
    → MayReply origin (volume_event (steps.Retarget task index disk)) (volume_reply reply)
retarget_may n task index disk (given.Granted lock moves) may origin = tt
retarget_may n task index disk given.NotLocked may origin = tt
retarget_may n task index disk (given.OtherTask other) may origin = tt
retarget_may n task index disk given.AlreadySwapped may origin = tt
retarget_may n task index disk given.NotMoved may origin = tt
retarget_may n task index disk given.DestGood may origin = tt
retarget_may n task index disk given.DestBroken may origin = tt
retarget_may n task index disk (given.DestHeld other) may origin = tt
retarget_may n task index disk given.EpochSpent may origin = tt
retarget_may n task index disk reply may origin = absurd may

swap_may : (n : Manager) (task : ℕ) (reply : ManagerReply) → MayAnswer (steps.Swap task) (reply_of n reply) → (origin : Origin) → MayReply origin (volume_event (steps.Swap task)) (volume_reply reply)
swap_may n task given.Done may origin = tt
swap_may n task given.NotLocked may origin = tt
swap_may n task (given.OtherTask other) may origin = tt
swap_may n task given.AlreadySwapped may origin = tt
swap_may n task given.DestBroken may origin = tt
swap_may n task given.NotFenced may origin = tt
swap_may n task (given.NotListed have) may origin = tt
swap_may n task (given.NotCopied bid) may origin = tt
swap_may n task reply may origin = absurd may

unlock_may : (n : Manager) (task : ℕ) (reply : ManagerReply) → MayAnswer (steps.Unlock task) (reply_of n reply) → (origin : Origin) → MayReply origin (volume_event (steps.Unlock task)) (volume_reply reply)
unlock_may n task given.Done may origin = tt
unlock_may n task given.NotLocked may origin = tt
unlock_may n task (given.OtherTask other) may origin = tt
unlock_may n task given.NotSwapped may origin = tt
unlock_may n task given.NotReleased may origin = tt
unlock_may n task reply may origin = absurd may

ask_may : (n : Manager) (bid : ℕ) (reply : ManagerReply) → MayAnswer (steps.Ask bid) (reply_of n reply) → (origin : Origin) → MayReply origin (volume_event (steps.Ask bid)) (volume_reply reply)
ask_may n bid given.Done may origin = tt
ask_may n bid given.Already may origin = tt
ask_may n bid reply may origin = absurd may

commit_may : (n : Manager) (bid : ℕ) (reply : ManagerReply) → MayAnswer (steps.Commit bid) (reply_of n reply) → (origin : Origin) → MayReply origin (volume_event (steps.Commit bid)) (volume_reply reply)
commit_may n bid given.Done may origin = tt
commit_may n bid given.NotAsked may origin = tt
commit_may n bid given.Already may origin = tt
commit_may n bid (given.Locked task) may origin = tt
commit_may n bid (given.TooFewMarks have) may origin = tt
commit_may n bid reply may origin = absurd may

-- what the manager may answer, the volume may reply
pub answer_may : (origin : Origin) (n : Manager) (event : ManagerEvent) (reply : ManagerReply) → MayAnswer event (reply_of n reply)
    → MayReply origin (volume_event event) (volume_reply reply)
answer_may origin n steps.Lease reply may = lease_may n reply may origin
answer_may origin n (steps.Lock task targets) reply may = lock_may n task targets reply may origin
answer_may origin n (steps.Retarget task index disk) reply may = retarget_may n task index disk reply may origin
answer_may origin n (steps.Swap task) reply may = swap_may n task reply may origin
answer_may origin n (steps.Unlock task) reply may = unlock_may n task reply may origin
answer_may origin n (steps.Ask bid) reply may = ask_may n bid reply may origin
answer_may origin n (steps.Commit bid) reply may = commit_may n bid reply may origin

-- .. and it may reply a fault
pub step_may_fail : (origin : Origin) (event : ManagerEvent) → MayReply origin (volume_event event) replies.Fault
step_may_fail origin steps.Lease = tt
step_may_fail origin event = tt

-- ---- moves that a grant shows

moves_within : (origin : Origin) (moves : List Move) → places.AreMovesEach origin.vid (shape_of origin) moves → AreMovesEach origin moves
moves_within origin [] each = tt
moves_within origin (move ∷ moves) each =
    (record { volume = each.0.volume; index = each.0.index; there = each.0.there }, each.1, moves_within origin moves each.2)

pub answer_shows : (origin : Origin) (reply : ManagerReply) → GrantsPlaces origin.vid (shape_of origin) reply → ShowsMoves origin (volume_reply reply)
answer_shows origin (given.Granted lock moves) shown = record { most = shown.most; each = moves_within origin moves shown.each }
answer_shows origin reply shown = tt

-- an event that grants no moves
abbrev pub GrantsNothing : ManagerEvent → Type 0
GrantsNothing (steps.Lock task targets) = ⊥
GrantsNothing (steps.Retarget task index disk) = ⊥
GrantsNothing event = Unit {0}

no_grant : (event : ManagerEvent) (lock : ℕ) (transfers : List Transfer) → GrantsNothing event → MayAnswer event (ToldReply.Granted lock transfers) → ⊥
no_grant (steps.Lock task targets) lock transfers nothing may = nothing
no_grant (steps.Retarget task index disk) lock transfers nothing may = nothing
no_grant steps.Lease lock transfers nothing may = may
no_grant (steps.Swap task) lock transfers nothing may = may
no_grant (steps.Unlock task) lock transfers nothing may = may
no_grant (steps.Ask bid) lock transfers nothing may = may
no_grant (steps.Commit bid) lock transfers nothing may = may

-- .. shows none
pub no_places : (vid : ℕ) (shape : VolumeShape) (event : ManagerEvent) (end : Option ℕ) (n : Manager) (result : Result ManagerReply EntryFault) → GrantsNothing event
    → AnswersAs event end result → IfOk result (GrantsPlaces vid shape)
no_places vid shape event end n (Ok (given.Granted lock moves)) nothing kinds = absurd (no_grant event lock (transfers_of n.lock) nothing (kinds.1 n))
no_places vid shape event end n (Ok reply) nothing kinds = tt
no_places vid shape event end n (Err _) nothing kinds = tt

-- ---- what is known of a step

module _ {F : Type 0} (seen : F → FileView) (time : ℕ) (asked event : ManagerEvent) (old new : EntryOver F) (result : Result ManagerReply EntryFault) where
  -- .. by the clauses of the call for its event
  pub step_known : asked ≡ event → entries.FitsEvent (table.shape_of old.book.shape) asked → entries.EntryCall seen old new result → entries.Steps seen time event old new result
      → AnswersAs event old.book.log.end result → IfOk result (GrantsPlaces old.book.vid (table.shape_of old.book.shape)) → IsFile (seen new.book.log.file)
      → Lasts (seen old.book.log.file) (seen new.book.log.file) → EndGrows old.book.log.end new.book.log.end
      → CrashLeaves seen (item_of event time old.book.part) old.book new.book → StepsEntry seen time asked old new result
  step_known is fits call steps kinds places is_file lasts grows moments =
      subst (λ e. StepsEntry seen time e old new result) (sym is) (record {
        call = call;
        steps = steps;
        kinds = kinds;
        places = places;
        is_file = is_file;
        lasts = lasts;
        grows = grows;
        item = item_of event time old.book.part;
        small = step_small old.book.shape old.book.vid event time old.book.part (subst (entries.FitsEvent (table.shape_of old.book.shape)) is fits);
        moments = moments;
      })

  -- .. where it grants no moves
  pub plain_step_known : asked ≡ event → GrantsNothing event → entries.FitsEvent (table.shape_of old.book.shape) asked → entries.EntryCall seen old new result
      → entries.Steps seen time event old new result → AnswersAs event old.book.log.end result → IsFile (seen new.book.log.file)
      → Lasts (seen old.book.log.file) (seen new.book.log.file) → EndGrows old.book.log.end new.book.log.end
      → CrashLeaves seen (item_of event time old.book.part) old.book new.book → StepsEntry seen time asked old new result
  plain_step_known is nothing fits call steps kinds is_file lasts grows moments =
      step_known is fits call steps kinds (no_places old.book.vid (table.shape_of old.book.shape) event old.book.log.end old.book.part result nothing kinds) is_file lasts grows moments
