-- The entry of a volume: the manager's part over its log, and what its calls answer and leave.
use Rattle.std.specs.Prelude.{ℕ, ◌≡◌, ◌≤◌, ◌<◌, ◌+◌, Bool, true, false, List, [], get_or, Option, None, Some, is_some, IfSome, IsSome, Result, Ok, Err}
use Rattle.disk_base.specs.Disk.{FileView}
use Rattle.gate_log.specs.LogFile.{longest_file}
use Rattle.code_mode.specs.VolumeShape.{VolumeShape}
use Rattle.volume_entry.specs.Manager.{ManagerRecord, Manager, IsDisk, IsBid, nothing_heard, transfers_of, written, in_doubt, forgetful, settled}
use Rattle.volume_entry.specs.ManagerStep.{AreTargets, AreAllSettled, GrantsLease, Locks, Retargets, Swaps, Unlocks, Asks, Commits, swap_refusal}
use Rattle.volume_entry.specs.Reply.{Reply}
use Rattle.volume_entry.specs.View.{moves_shown}
use Rattle.volume_entry.specs.ShownView.{view_shown}
use Rattle.volume_entry.specs.HeardMemory.{HeardMemory, Remembers}
use Rattle.volume_entry.specs.TableParts.{shape_of}
use Rattle.volume_entry.specs.Book.{BookOver, Keeps, CountsFault, LeavesEnd}
use Rattle.volume_entry.specs.BookStart.{found_part, last_start}
use Rattle.volume_entry.specs.declared.view.View.{View}
use Rattle.volume_entry.specs.declared.event.ManagerEvent.{ManagerEvent}
use Rattle.volume_entry.specs.declared.event.ManagerEvent.TheVariants as events
use Rattle.volume_entry.specs.declared.event.ManagerReply.{ManagerReply}
use Rattle.volume_entry.specs.declared.event.ManagerReply.TheVariants as replies
use Rattle.volume_entry.specs.declared.fault.EntryFault.{EntryFault}
use Rattle.volume_entry.specs.declared.fault.EntryFault.TheVariants as faults

-- the book, what was heard, and by disk whether it is broken
pub record EntryOver (E : Type 0) : Type 0 where
  pub book : BookOver E
  pub heard : HeardMemory
  pub broken : List Bool

-- the disk is known to be broken
abbrev pub is_broken : List Bool → ℕ → Bool
is_broken flags disk = get_or flags disk false

-- what the records of the log say of a manager's part: nothing that was heard, and a log that is started
abbrev pub logged : Manager → Manager
logged m = record m { heard = nothing_heard; marks = []; is_shut = false; doubt = None }

-- The entry stands for this manager's part: its book does for what the records say, and memory has what was heard.
pub record Stands {E : Type 0} (seen : E → FileView) (entry : EntryOver E) (m : Manager) : Type 0 where
  pub book : Keeps seen entry.book (logged m) m.is_shut m.doubt
  pub heard : Remembers (shape_of entry.book.shape).total entry.heard m

-- ---- steps

-- a step's reply as the protocol knows it; a grant tells of the lock that then is
abbrev pub reply_of : Manager → ManagerReply → Reply
reply_of n replies.Done = Reply.Done
reply_of n replies.Already = Reply.Already
reply_of n (replies.LeaseTo end) = Reply.LeaseTo end
reply_of n (replies.Locked task) = Reply.Locked task
reply_of n (replies.LeaseRuns end) = Reply.LeaseRuns end
reply_of n (replies.Granted lock moves) = Reply.Granted lock (transfers_of n.lock)
reply_of n replies.DestBroken = Reply.DestBroken
reply_of n (replies.DestHeld index) = Reply.DestHeld index
reply_of n replies.EpochSpent = Reply.EpochSpent
reply_of n replies.NotLocked = Reply.NotLocked
reply_of n (replies.OtherTask task) = Reply.OtherTask task
reply_of n replies.AlreadySwapped = Reply.AlreadySwapped
reply_of n replies.NotMoved = Reply.NotMoved
reply_of n replies.DestGood = Reply.DestGood
reply_of n replies.NotFenced = Reply.NotFenced
reply_of n (replies.NotListed have) = Reply.NotListed have
reply_of n (replies.NotCopied bid) = Reply.NotCopied bid
reply_of n replies.NotSwapped = Reply.NotSwapped
reply_of n replies.NotReleased = Reply.NotReleased
reply_of n replies.NotAsked = Reply.NotAsked
reply_of n (replies.TooFewMarks have) = Reply.TooFewMarks have

-- what a grant shows of the lock's moves
abbrev pub ShowsMoves : ℕ → List Bool → Manager → ManagerReply → Type 0
ShowsMoves vid broken n (replies.Granted lock moves) = moves ≡ moves_shown vid (is_broken broken) false (transfers_of n.lock)
ShowsMoves vid broken n _ = Unit {0}

-- the step of an event; whether a blob was begun is tested before
abbrev pub StepsTo : VolumeShape → List Bool → ℕ → ManagerEvent → Manager → Reply → Manager → Type 0
StepsTo shape broken time events.Lease m reply n = GrantsLease time m reply n
StepsTo shape broken time (events.Lock task targets) m reply n = Locks (is_broken broken) time task targets m reply n
StepsTo shape broken time (events.Retarget task index disk) m reply n = Retargets (is_broken broken) task index disk m reply n
StepsTo shape broken time (events.Swap task) m reply n = Swaps shape (is_broken broken) task m reply n
StepsTo shape broken time (events.Unlock task) m reply n = Unlocks (is_broken broken) task m reply n
StepsTo shape broken time (events.Ask bid) m reply n = Asks true bid m reply n
StepsTo shape broken time (events.Commit bid) m reply n = Commits shape bid m reply n

module _ {E : Type 0} (seen : E → FileView) where
  -- a step that was answered: it is the event's, with this reply
  pub record Answered (time : ℕ) (event : ManagerEvent) (m : Manager) (old : EntryOver E) (reply : ManagerReply) (new : EntryOver E) : Type 0 where
    pub then_ : Manager
    pub step : StepsTo (shape_of old.book.shape) old.broken time event m (reply_of then_ reply) then_
    pub moves : ShowsMoves old.book.vid old.broken then_ reply
    pub stands : Stands seen new then_

  -- a fault leaves the step's record in doubt
  pub record LeftInDoubt (time : ℕ) (event : ManagerEvent) (m : Manager) (old new : EntryOver E) : Type 0 where
    pub then_ : Manager
    pub step : StepsTo (shape_of old.book.shape) old.broken time event m Reply.Fault then_
    pub stands : Stands seen new then_

  abbrev pub StepsBy : ℕ → ManagerEvent → Manager → EntryOver E → Result ManagerReply EntryFault → EntryOver E → Type 0
  StepsBy time event m old (Ok reply) new = (m.is_shut ≡ false) × Answered time event m old reply new
  StepsBy time event m old (Err faults.Fault) new = (m.is_shut ≡ false) × LeftInDoubt time event m old new
  StepsBy time event m old (Err faults.Shut) new = (m.is_shut ≡ true) × Stands seen new m
  StepsBy time event m old (Err faults.Memory) new = Stands seen new m
  StepsBy time event m old (Err _) new = ⊥

  -- whatever the entry stands for before
  abbrev pub Steps : ℕ → ManagerEvent → EntryOver E → EntryOver E → Result ManagerReply EntryFault → Type 0
  Steps time event old new result = (m : Manager) → Stands seen old m → StepsBy time event m old result new

  -- what every step keeps; its file fails exactly where the answer is a fault, and after an error the log ends where it did or is shut
  pub record EntryCall {T : Type 0} (old new : EntryOver E) (result : Result T EntryFault) : Type 0 where
    pub vid : new.book.vid ≡ old.book.vid
    pub shape : new.book.shape ≡ old.book.shape
    pub broken : new.broken ≡ old.broken
    pub counts : CountsFault (seen old.book.log.file).faults (seen new.book.log.file).faults result
    pub end : LeavesEnd old.book.log.end new.book.log.end result

-- what is asked of an event
abbrev pub FitsEvent : VolumeShape → ManagerEvent → Type 0
FitsEvent shape events.Lease = Unit {0}
FitsEvent shape (events.Lock task targets) = AreTargets shape targets
FitsEvent shape (events.Retarget task index disk) = (index < shape.total) × IsDisk shape disk
FitsEvent shape (events.Swap task) = Unit {0}
FitsEvent shape (events.Unlock task) = Unit {0}
FitsEvent shape (events.Ask bid) = IsBid bid
FitsEvent shape (events.Commit bid) = IsBid bid

-- where the log is started, there is room in it for a step's record
abbrev pub HasRoomIfOpen : Option ℕ → Type 0
HasRoomIfOpen end = IfSome end (λ place. place + 128 ≤ longest_file)

-- the replies that an event may have, whatever the file tells
abbrev pub MayAnswer : ManagerEvent → Reply → Type 0
MayAnswer events.Lease (Reply.LeaseTo end) = Unit {0}
MayAnswer events.Lease (Reply.Locked task) = Unit {0}
MayAnswer (events.Lock task targets) (Reply.Granted lock moves) = Unit {0}
MayAnswer (events.Lock task targets) (Reply.Locked other) = Unit {0}
MayAnswer (events.Lock task targets) (Reply.LeaseRuns end) = Unit {0}
MayAnswer (events.Lock task targets) Reply.DestBroken = Unit {0}
MayAnswer (events.Lock task targets) (Reply.DestHeld index) = Unit {0}
MayAnswer (events.Lock task targets) Reply.EpochSpent = Unit {0}
MayAnswer (events.Retarget task index disk) (Reply.Granted lock moves) = Unit {0}
MayAnswer (events.Retarget task index disk) Reply.NotLocked = Unit {0}
MayAnswer (events.Retarget task index disk) (Reply.OtherTask other) = Unit {0}
MayAnswer (events.Retarget task index disk) Reply.AlreadySwapped = Unit {0}
MayAnswer (events.Retarget task index disk) Reply.NotMoved = Unit {0}
MayAnswer (events.Retarget task index disk) Reply.DestGood = Unit {0}
MayAnswer (events.Retarget task index disk) Reply.DestBroken = Unit {0}
MayAnswer (events.Retarget task index disk) (Reply.DestHeld other) = Unit {0}
MayAnswer (events.Retarget task index disk) Reply.EpochSpent = Unit {0}
MayAnswer (events.Swap task) Reply.Done = Unit {0}
MayAnswer (events.Swap task) Reply.NotLocked = Unit {0}
MayAnswer (events.Swap task) (Reply.OtherTask other) = Unit {0}
MayAnswer (events.Swap task) Reply.AlreadySwapped = Unit {0}
MayAnswer (events.Swap task) Reply.DestBroken = Unit {0}
MayAnswer (events.Swap task) Reply.NotFenced = Unit {0}
MayAnswer (events.Swap task) (Reply.NotListed have) = Unit {0}
MayAnswer (events.Swap task) (Reply.NotCopied bid) = Unit {0}
MayAnswer (events.Unlock task) Reply.Done = Unit {0}
MayAnswer (events.Unlock task) Reply.NotLocked = Unit {0}
MayAnswer (events.Unlock task) (Reply.OtherTask other) = Unit {0}
MayAnswer (events.Unlock task) Reply.NotSwapped = Unit {0}
MayAnswer (events.Unlock task) Reply.NotReleased = Unit {0}
MayAnswer (events.Ask bid) Reply.Done = Unit {0}
MayAnswer (events.Ask bid) Reply.Already = Unit {0}
MayAnswer (events.Commit bid) Reply.Done = Unit {0}
MayAnswer (events.Commit bid) Reply.NotAsked = Unit {0}
MayAnswer (events.Commit bid) Reply.Already = Unit {0}
MayAnswer (events.Commit bid) (Reply.Locked task) = Unit {0}
MayAnswer (events.Commit bid) (Reply.TooFewMarks have) = Unit {0}
MayAnswer event reply = ⊥

-- a refusal of an event is one of them
abbrev pub MayRefuse : ManagerEvent → Option ManagerReply → Type 0
MayRefuse event refusal = IfSome refusal (λ reply. (n : Manager) → MayAnswer event (reply_of n reply))

-- A step answers with one of them. It says exactly of a log without an end that it is shut, and of none that it is spoiled.
abbrev pub AnswersAs : ManagerEvent → Option ℕ → Result ManagerReply EntryFault → Type 0
AnswersAs event end (Ok reply) = IsSome end × ((n : Manager) → MayAnswer event (reply_of n reply))
AnswersAs event end (Err faults.Shut) = end ≡ None
AnswersAs event end (Err (faults.Spoiled place)) = ⊥
AnswersAs event end (Err _) = IsSome end

-- ---- parts of a step

-- a refusal as the code and the protocol say it; it grants nothing
abbrev pub IsNoGrant : ManagerReply → Type 0
IsNoGrant (replies.Granted lock moves) = ⊥
IsNoGrant _ = Unit {0}

abbrev pub RefusesBy : Option ManagerReply → Option Reply → Type 0
RefusesBy None refusal = refusal ≡ None
RefusesBy (Some reply) refusal = IsNoGrant reply × ((n : Manager) → refusal ≡ Some (reply_of n reply))

-- records that change nothing that is heard
abbrev pub LeavesHeard : ManagerRecord → Type 0
LeavesHeard (ManagerRecord.Leased end) = Unit {0}
LeavesHeard (ManagerRecord.Asked bid) = Unit {0}
LeavesHeard (ManagerRecord.Committed bid) = Unit {0}
LeavesHeard _ = ⊥

module _ {E : Type 0} (seen : E → FileView) where
  -- a step is answered at once, or its tests are passed
  abbrev pub Rules : ℕ → ManagerEvent → (Manager → Option Reply) → EntryOver E → Option (Result ManagerReply EntryFault) → Type 0
  Rules time event refusal entry None = (m : Manager) → Stands seen entry m → (m.is_shut ≡ false) × (refusal m ≡ None)
  Rules time event refusal entry (Some result) = EntryCall seen entry entry result × Steps seen time event entry entry result

  -- what is written of a step
  abbrev pub Wrote : ManagerRecord → Manager → EntryOver E → Result (Unit {0}) EntryFault → Type 0
  Wrote item m new (Ok _) = Stands seen new (written item m)
  Wrote item m new (Err faults.Fault) = Stands seen new (in_doubt item m)
  Wrote item m new (Err faults.Memory) = Stands seen new m
  Wrote item m new (Err _) = ⊥

  pub record WritesStep (item : ManagerRecord) (old new : EntryOver E) (result : Result (Unit {0}) EntryFault) : Type 0 where
    pub call : EntryCall seen old new result
    pub told : (m : Manager) → Stands seen old m → m.is_shut ≡ false → Wrote item m new result

-- ---- a start

-- what becomes of the manager's part: the record in doubt stands where it was found, and what was heard is forgotten
abbrev pub restarted : Bool → Manager → Manager
restarted found m = forgetful (settled (found_part found m.doubt m))

module _ {E : Type 0} (seen : E → FileView) where
  -- A start of the log; it is spoiled only where it is too long, since an entry's log has legal records.
  abbrev pub StartsTo : Manager → EntryOver E → Result Bool EntryFault → Type 0
  StartsTo m new (Ok found) = (found ≡ true → is_some m.doubt ≡ true) × Stands seen new (restarted found m)
  StartsTo m new (Err faults.Fault) = Stands seen new (record m { is_shut = true })
  StartsTo m new (Err faults.Memory) = Stands seen new m
  StartsTo m new (Err (faults.Spoiled place)) = (last_start < place) × Stands seen new (record m { is_shut = true })
  StartsTo m new (Err _) = ⊥

  abbrev pub Restarts : EntryOver E → EntryOver E → Result Bool EntryFault → Type 0
  Restarts old new result = (m : Manager) → Stands seen old m → StartsTo m new result

-- ---- a look

module _ {E : Type 0} (seen : E → FileView) where
  -- Where the log isn't shut, the volume is shown at this time, by the flags of broken disks: what its records say, and so every manager's part for which
  -- the entry stands.
  abbrev pub Looks : ℕ → EntryOver E → Result View EntryFault → Type 0
  Looks time entry (Ok view) =
      IsSome entry.book.log.end × (view ≡ view_shown entry.book.vid (is_broken entry.broken) time entry.book.part)
      × ((m : Manager) → Stands seen entry m → (m.is_shut ≡ false) × (view ≡ view_shown entry.book.vid (is_broken entry.broken) time m))
  Looks time entry (Err faults.Shut) = (entry.book.log.end ≡ None) × ((m : Manager) → Stands seen entry m → m.is_shut ≡ true)
  Looks time entry (Err _) = ⊥

-- ---- swaps, unlocks and commits

-- what is answered to whichever manager's part book and memory stand for
abbrev pub RefusesFor : {E : Type 0} → BookOver E → HeardMemory → (Manager → Option Reply) → Option ManagerReply → Type 0
RefusesFor book heard refusal result = (m : Manager) → book.part ≡ logged m → Remembers (shape_of book.shape).total heard m → RefusesBy result (refusal m)

-- nothing speaks against a swap
abbrev pub MaySwap : VolumeShape → (ℕ → Bool) → ℕ → Manager → Type 0
MaySwap shape broken task m = (swap_refusal shape broken task m ≡ None) × AreAllSettled shape broken m

module _ {E : Type 0} (seen : E → FileView) where
  -- a step is answered at once, or this holds of it
  abbrev pub Decides : ℕ → ManagerEvent → (Manager → Type 0) → EntryOver E → Option (Result ManagerReply EntryFault) → Type 0
  Decides time event free entry None = (m : Manager) → Stands seen entry m → (m.is_shut ≡ false) × free m
  Decides time event free entry (Some result) = EntryCall seen entry entry result × Steps seen time event entry entry result
