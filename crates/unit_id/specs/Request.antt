-- What is asked of a unit, and what it answers. Bytes are left out: a row stands for its shard.
use Rattle.std.specs.Prelude.{ℕ}
use Rattle.unit_id.specs.Shown.{Shown}
use Rattle.unit_id.specs.Place.{Place}

-- Each names the unit and the disk to which it goes. The number is a lock's with Fence and List, and a blob's with the others.
pub data Request : Type 0 where
  Create : Place → Request
  Fence : Place → ℕ → Request
  Put : Place → ℕ → Request
  Read : Place → ℕ → Request
  List : Place → ℕ → Request
  Copy : Place → ℕ → Request
  Mark : Place → ℕ → Request
  Free : Place → ℕ → Request
  Release : Place → Request

-- to which unit and disk it goes
abbrev pub place_of : Request → Place
place_of (Request.Create place) = place
place_of (Request.Fence place lock) = place
place_of (Request.Put place bid) = place
place_of (Request.Read place bid) = place
place_of (Request.List place lock) = place
place_of (Request.Copy place bid) = place
place_of (Request.Mark place bid) = place
place_of (Request.Free place bid) = place
place_of (Request.Release place) = place

pub data Answer : Type 0 where
  Done : Answer
  Already : Answer
  Broken : Answer
  Stale : ℕ → Answer
  NoUnit : Answer
  Fenced : ℕ → Answer
  Deleted : Answer
  NotMarked : Answer
  Live : Answer
  Marked : Answer
  Gone : Answer
  Absent : Answer
  Listing : ℕ → Shown → Answer
  Full : ℕ → Answer
  Fault : Answer
  Damaged : ℕ → ℕ → Answer
  Spoiled : ℕ → Answer

-- a request and an answer that was given to it
pub record Given : Type 0 where
  pub request : Request
  pub answer : Answer
