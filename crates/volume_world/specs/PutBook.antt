-- What memory keeps of a volume's puts.
use Rattle.std.specs.Prelude.{ℕ, ◌≡◌, ◌<◌, Bool, false, ◌&&◌, ◌||◌, ◌==◌, List, replicate, get_or, nat_eq, Option, Some, None, IfSome}
use Rattle.std.specs.Map.{lookup}
use Rattle.code_mode.specs.VolumeShape.{VolumeShape}
use Rattle.volume_entry.specs.Reply.{Reply as ToldReply}
use Rattle.volume_world.specs.State.{Status, Puts, State}
use Rattle.volume_world.specs.BlobStatus.{is_open}
use Rattle.volume_world.specs.FixedRows.{most_units}
use Rattle.volume_world.specs.Move.{ended, Ends}
use Rattle.volume_world.specs.Trace.{reply_kept}
use Rattle.volume_world.specs.Told.{Tells}
use Rattle.volume_world.specs.declared.reply.Reply.{Reply}
use Rattle.volume_world.specs.declared.reply.Reply.TheVariants as replies
use Rattle.volume_world.specs.declared.puts.PutState.{PutState}
use Rattle.volume_world.specs.declared.puts.PutStatus.{PutStatus}
use Rattle.volume_world.specs.declared.puts.PutStatus.TheVariants as kept

-- the puts that were begun, by blob, and for how many more there is room
pub record KeptPuts : Type 0 where
  pub puts : List (ℕ × PutState)
  pub spare : ℕ

abbrev pub status_told : PutStatus → Status
status_told kept.Open = Status.Open
status_told kept.Acked = Status.Acked
status_told kept.Failed = Status.Failed

abbrev pub status_of : Option PutState → Status
status_of None = Status.NotBegun
status_of (Some put) = status_told put.status

-- the put of a blob
abbrev pub put_at : List (ℕ × PutState) → ℕ → Option PutState
put_at book bid = lookup (nat_eq bid) book

-- a put in memory has this lease end, and these indexes accepted it
pub record IsPut (total : ℕ) (put : PutState) (end : ℕ) (accepted : ℕ → Bool) : Type 0 where
  pub ends : put.end ≡ end
  pub accepts : (index : ℕ) → index < total → get_or put.accepted index false ≡ accepted index

-- Memory tells how each put stands; of those that were begun it has the lease end and the indexes that accepted. Payloads stand in the history.
pub record Books (total : ℕ) (book : List (ℕ × PutState)) (puts : Puts) : Type 0 where
  pub status : (bid : ℕ) → status_of (put_at book bid) ≡ puts.status bid
  pub each : (bid : ℕ) → IfSome (put_at book bid) (λ put. IsPut total put (puts.end bid) (puts.accepted bid))

-- a put that begins, under a lease that ends then
abbrev pub opened_put : ℕ → PutState
opened_put end = record { status = kept.Open; end = end; accepted = replicate most_units false }

-- an index accepts it, where it is open
pub record IsAccepted (index : ℕ) (old new : PutState) : Type 0 where
  pub status : new.status ≡ old.status
  pub ends : new.end ≡ old.end
  pub accepts : (i : ℕ) → i < most_units → get_or new.accepted i false ≡ (((i == index) && is_open (status_told old.status)) || get_or old.accepted i false)

-- what the end of a put makes of the puts
abbrev pub puts_ended : ℕ → Reply → Puts → Puts
puts_ended bid (replies.LeaseOver end time) puts = ended bid Status.Failed puts
puts_ended bid (replies.Quorum accepted) puts = ended bid Status.Failed puts
puts_ended bid (replies.Acked accepted) puts = ended bid Status.Acked puts
puts_ended bid reply puts = puts

-- the put of this blob ends in this state, with this reply
pub record EndsWith (shape : VolumeShape) (bid : ℕ) (s : State) (reply : Reply) : Type 0 where
  pub told : ToldReply
  pub tells : (vid : ℕ) → Tells vid s (reply_kept reply) told
  pub ends : Ends shape bid s told (record s { puts = puts_ended bid reply s.puts })
