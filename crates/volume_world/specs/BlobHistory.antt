-- What a run says of a blob.
use Rattle.std.specs.Prelude.{ℕ, ◌≡◌, ◌⊎◌, Bool, List}
use Rattle.unit_id.specs.Lists.{IsIn}
use Rattle.unit_id.specs.Place.{Location}
use Rattle.volume_entry.specs.Reply.{Reply}
use Rattle.volume_world.specs.Event.{Event}
use Rattle.volume_world.specs.Run.{Step}

-- a put of these bytes was begun
pub record IsBegun (steps : List Step) (bid : ℕ) (payload : List ℕ) : Type 0 where
  pub end : ℕ
  pub homes : List Location
  pub flags : List Bool
  pub begun : IsIn (record { event = Event.Begin bid payload; reply = Reply.Begun end homes flags }) steps

-- its put was acknowledged, with so many acceptances
pub record IsAcked (steps : List Step) (bid : ℕ) : Type 0 where
  pub accepted : ℕ
  pub acked : IsIn (record { event = Event.End bid; reply = Reply.Acked accepted }) steps

-- its delete was committed
abbrev pub IsCommitted : List Step → ℕ → Type 0
IsCommitted steps bid = IsIn (record { event = Event.Commit bid; reply = Reply.Done }) steps ⊎ IsIn (record { event = Event.Commit bid; reply = Reply.Already }) steps

-- nobody asked for its delete, but before it was begun
abbrev pub IsUndeleted : List Step → ℕ → Type 0
IsUndeleted steps bid = (reply : Reply) → IsIn (record { event = Event.Ask bid; reply = reply }) steps → reply ≡ Reply.NotBegun
