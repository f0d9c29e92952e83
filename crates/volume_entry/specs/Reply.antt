-- The replies to a volume's events, each with what it tells.
use Rattle.std.specs.Prelude.{ℕ, Bool, List}
use Rattle.unit_id.specs.Place.{Location}
use Rattle.unit_id.specs.Request.{Answer}
use Rattle.volume_entry.specs.Manager.{Transfer}
use Rattle.volume_entry.specs.View.{View}

pub data Reply : Type 0 where
  Done : Reply
  Already : Reply
  Now : ℕ → Reply
  LeaseTo : ℕ → Reply
  Begun : ℕ → List Location → List Bool → Reply
  BeginTwice : Reply
  Heard : Answer → Reply
  Unheard : Reply
  Barred : Reply
  Flushed : Bool → Reply
  NothingLate : Reply
  Acked : ℕ → Reply
  NotOpen : Reply
  LeaseOver : ℕ → ℕ → Reply
  Quorum : ℕ → Reply
  Granted : ℕ → List Transfer → Reply
  Locked : ℕ → Reply
  LeaseRuns : ℕ → Reply
  DestBroken : Reply
  DestHeld : ℕ → Reply
  EpochSpent : Reply
  NotLocked : Reply
  OtherTask : ℕ → Reply
  AlreadySwapped : Reply
  NotMoved : Reply
  DestGood : Reply
  NotFenced : Reply
  NotListed : ℕ → Reply
  NotCopied : ℕ → Reply
  NotSwapped : Reply
  NotReleased : Reply
  NotBegun : Reply
  NotAsked : Reply
  TooFewMarks : ℕ → Reply
  Seen : View → Reply
  Fault : Reply
  Damaged : ℕ → ℕ → Reply
  Spoiled : ℕ → Reply
