-- The put of one blob: a lease, its begin, its shard to each unit in order of index, and its end.
use Rattle.std.specs.Prelude.{ℕ, ◌≡◌, ◌≤◌, List, [], ◌∷◌, length, Result, Ok, Err}
use Rattle.unit_id.specs.declared.homes.Home.{Home}
use Rattle.unit_id.specs.declared.request.Request.TheVariants as requests
use Rattle.code_mode.specs.declared.mode.Mode.{Mode}
use Rattle.code_mode.specs.declared.payload.Payload.{Payload}
use Rattle.code_mode.specs.Payload.{payload_bytes}
use Rattle.code_mode.specs.Stripe.{shard_of}
use Rattle.volume_world.specs.declared.event.Event.{Event}
use Rattle.volume_world.specs.declared.event.Event.TheVariants as events
use Rattle.volume_world.specs.declared.reply.Reply.{Reply}
use Rattle.volume_world.specs.declared.reply.Reply.TheVariants as replies
use Rattle.volume_world.specs.Way.{WayView, longest_history}
use Rattle.volume_world.specs.Course.{Part, Goes}
use Rattle.volume_world.specs.Call.{Next, Call, IsRest, IsFront}
use Rattle.volume_world.specs.Progress.{AllFit}
use Rattle.blob_access.specs.declared.putting.Acked.{Acked}
use Rattle.blob_access.specs.declared.fault.PutFault.{PutFault}
use Rattle.blob_access.specs.declared.fault.PutFault.TheVariants as faults

-- with the lease end that the begin gave, and the homes to which nothing was sent yet
pub data PutStage : Type 0 where
  Leasing : PutStage
  Beginning : PutStage
  Sending : ℕ → Home → List Home → PutStage
  Ending : ℕ → PutStage

abbrev pub PutNext : Type 0
PutNext = Next PutStage (Result Acked PutFault)

-- each unit gets the shard of its index
abbrev pub put_asks : Mode → ℕ → Payload → PutStage → Event
put_asks mode bid payload PutStage.Leasing = events.Lease
put_asks mode bid payload PutStage.Beginning = events.Begin bid payload
put_asks mode bid payload (PutStage.Sending end home homes) =
    events.Send (requests.Put home.unit home.disk bid (length (payload_bytes payload)) (shard_of mode (payload_bytes payload) home.unit.index))
put_asks mode bid payload (PutStage.Ending end) = events.End bid

-- the units that are left, then the end
abbrev pub sending : ℕ → List Home → PutStage
sending end [] = PutStage.Ending end
sending end (home ∷ homes) = PutStage.Sending end home homes

-- a fault of the manager's log ends the put
abbrev pub unless_failed : PutNext → Reply → PutNext
unless_failed next replies.Fault = Next.Over (Err faults.Fault)
unless_failed next (replies.Spoiled place) = Next.Over (Err (faults.Spoiled place))
unless_failed next reply = next

abbrev pub after_lease : Reply → PutNext
after_lease (replies.LeaseTo end) = Next.Go PutStage.Beginning
after_lease (replies.Locked task) = Next.Over (Err (faults.Locked task))
after_lease reply = unless_failed Next.Never reply

abbrev pub after_begin : Reply → PutNext
after_begin (replies.Begun end units) = Next.Go (sending end units)
after_begin (replies.Locked task) = Next.Over (Err (faults.Locked task))
after_begin replies.BeginTwice = Next.Over (Err faults.Begun)
after_begin reply = unless_failed Next.Never reply

-- whatever a unit answers, the next one is sent to
abbrev pub after_send : PutStage → Reply → PutNext
after_send next (replies.Heard answer) = Next.Go next
after_send next replies.Unheard = Next.Go next
after_send next replies.Barred = Next.Go next
after_send next reply = unless_failed Next.Never reply

abbrev pub after_end : ℕ → Reply → PutNext
after_end end (replies.Acked accepted) = Next.Over (Ok (record { accepted = accepted; end = end }))
after_end end replies.NotOpen = Next.Over (Err faults.NotOpen)
after_end end (replies.LeaseOver over time) = Next.Over (Err (faults.LeaseEnded over time))
after_end end (replies.Quorum accepted) = Next.Over (Err (faults.Quorum accepted))
after_end end reply = unless_failed Next.Never reply

abbrev pub put_after : PutStage → Reply → PutNext
put_after PutStage.Leasing reply = after_lease reply
put_after PutStage.Beginning reply = after_begin reply
put_after (PutStage.Sending end home homes) reply = after_send (sending end homes) reply
put_after (PutStage.Ending end) reply = after_end end reply

abbrev pub put_call : Mode → ℕ → Payload → Call PutStage (Result Acked PutFault)
put_call mode bid payload = record { asks = put_asks mode bid payload; after = put_after }

-- what a put asks in this stretch, and what it answers: where the history is full or memory is out, it breaks off
abbrev pub PutsBy : Mode → ℕ → Payload → List Part → Result Acked PutFault → Type 0
PutsBy mode bid payload parts (Err faults.HistoryFull) = IsFront (put_call mode bid payload) (Next.Go PutStage.Leasing) parts
PutsBy mode bid payload parts (Err faults.Memory) = IsFront (put_call mode bid payload) (Next.Go PutStage.Leasing) parts
PutsBy mode bid payload parts result = IsRest (put_call mode bid payload) (Next.Go PutStage.Leasing) parts result

-- A put of a blob over a way. Each reply is one that its event may have, so the units of a begin are those of the volume. The history is
-- said to be full only where it is.
pub record Puts (old new : WayView) (bid : ℕ) (payload : Payload) (result : Result Acked PutFault) : Type 0 where
  pub parts : List Part
  pub goes : Goes old new parts
  pub fits : AllFit old.origin parts
  pub call : PutsBy old.origin.mode bid payload parts result
  pub full : result ≡ Err faults.HistoryFull → longest_history ≤ length new.entries
