-- What each fate makes of a request that is sent: its moves, what is heard, and what comes late.
use Rattle.std.proofs.Common.{◌≡◌, sym, ap, refl, subst, ℕ, ◌+◌, ◌^◌, ◌≤◌, min, max, Bool, true, false, cond, List, [], ◌∷◌, map, Ok, arith}
use Rattle.unit_id.specs.Lists.{IsIn}
use Rattle.unit_id.specs.Place.{Place}
use Rattle.unit_id.specs.Messages.{place_at, request_of, answer_of}
use Rattle.unit_id.specs.Request.{Request, Answer}
use Rattle.unit_id.specs.declared.request.Request as sent
use Rattle.unit_id.specs.declared.request.Request.TheVariants as requests
use Rattle.unit_id.specs.declared.answer.Answer as answered
use Rattle.unit_id.specs.declared.answer.Answer.TheVariants as answers
use Rattle.disk_base.specs.Faults.{Rose}
use Rattle.code_mode.specs.declared.mode.Mode.{Mode}
use Rattle.code_mode.specs.PayloadShard.{PayloadShard}
use Rattle.code_mode.specs.VolumeShape.{VolumeShape, last_time}
use Rattle.blob_node.specs.UnitAnswer.{Effect}
use Rattle.blob_node.specs.Units.{Units}
use Rattle.blob_node.specs.declared.fate.Fate.{Fate}
use Rattle.blob_node.specs.declared.fate.Fate.TheVariants as fate
use Rattle.volume_entry.specs.Manager.{Manager}
use Rattle.volume_entry.specs.Reply.{Reply as ToldReply}
use Rattle.volume_world.specs.Asking.{IsRightShard, CarriesRight}
use Rattle.volume_world.specs.BlobStatus.{is_begun}
use Rattle.volume_world.specs.Contents.{begun_shard}
use Rattle.volume_world.specs.Mailbag.{late_told}
use Rattle.volume_world.specs.Move.{Move, MovesAll, Handles, IsSendable, puts_hear}
use Rattle.volume_world.specs.Run.{World, moves_of_send, reply_of_send, late_of_send}
use Rattle.volume_world.specs.Sending.{IsHeardAtOnce, IsUnheard, IsUnhandled, time_behind, items_of}
use Rattle.volume_world.specs.Serving.{once_handled, once_heard}
use Rattle.volume_world.specs.State.{Puts, State}
use Rattle.volume_world.specs.World.{IsBegunShard, CarriesBegun}
use Rattle.volume_world.specs.declared.event.Event.TheVariants as events
use Rattle.volume_world.proofs.SentWorlds.{issued_in, led, lost_moves, handled_moves, heard_moves, slow_moves}

-- ---- what comes late, and what is heard

pub told_items : (f : Fate) (request : sent.Request) (answer : answered.Answer) → late_of_send f (request_of request) (answer_of answer) ≡ map late_told (items_of f request answer)
told_items fate.Pass request answer = refl
told_items fate.Lose request answer = refl
told_items fate.LoseReply request answer = refl
told_items fate.LateReply request answer = refl
told_items fate.LateRequest request answer = refl
told_items fate.Again request answer = refl
told_items fate.Slow request answer = refl

pub told_heard : (f : Fate) (a : Answer) → IsHeardAtOnce f → reply_of_send f a ≡ ToldReply.Heard a
told_heard fate.Pass a is = refl
told_heard fate.Again a is = refl
told_heard fate.Slow a is = refl
told_heard f a is = absurd is

pub told_unheard : (f : Fate) (a : Answer) → IsUnheard f → reply_of_send f a ≡ ToldReply.Unheard
told_unheard fate.LoseReply a is = refl
told_unheard fate.LateReply a is = refl
told_unheard f a is = absurd is

pub told_unhandled : (f : Fate) (a : Answer) → IsUnhandled f → reply_of_send f a ≡ ToldReply.Unheard
told_unhandled fate.Lose a is = refl
told_unhandled fate.LateRequest a is = refl
told_unhandled f a is = absurd is

pub in_time : (f : Fate) (time : ℕ) → time ≤ last_time → time_behind f time ≤ last_time
in_time fate.Slow time below = omega arith
in_time f time below = below

-- ---- moves

module _ (shape : VolumeShape) (request : sent.Request) (answer : answered.Answer) (effect : Effect) (w : World) (units : Units) (is_open : w.state.manager.is_shut ≡ false)
    (sendable : IsSendable shape.total w.state.puts.status w.state.manager (request_of request)) where
  abbrev issued : State
  issued = issued_in shape request answer effect w units is_open sendable

  abbrev before : State
  before = led shape request answer effect w units is_open sendable

  pub unhandled_moves : (f : Fate) → IsUnhandled f → MovesAll shape before (moves_of_send f w.state.time (request_of request) (answer_of answer) effect) issued
  unhandled_moves fate.Lose is = lost_moves shape request answer effect w units is_open sendable
  unhandled_moves fate.LateRequest is = lost_moves shape request answer effect w units is_open sendable
  unhandled_moves f is = absurd is

  module _ (handles : Handles issued (request_of request) (answer_of answer) effect (once_handled request answer effect issued)) where
    pub unheard_moves : (f : Fate) → IsUnheard f
        → MovesAll shape before (moves_of_send f w.state.time (request_of request) (answer_of answer) effect) (once_handled request answer effect issued)
    unheard_moves fate.LoseReply is = handled_moves shape request answer effect w units is_open sendable handles
    unheard_moves fate.LateReply is = handled_moves shape request answer effect w units is_open sendable handles
    unheard_moves f is = absurd is

    pub all_heard_moves : (f : Fate) → IsHeardAtOnce f
        → MovesAll shape before (moves_of_send f w.state.time (request_of request) (answer_of answer) effect)
        (record (once_heard request answer (once_handled request answer effect issued)) { time = time_behind f w.state.time })
    all_heard_moves fate.Pass is = heard_moves shape request answer effect w units is_open sendable handles
    all_heard_moves fate.Again is = heard_moves shape request answer effect w units is_open sendable handles
    all_heard_moves fate.Slow is = slow_moves shape request answer effect w units is_open sendable (handles.0, handles.1, refl)
    all_heard_moves f is = absurd is

-- ---- shards

-- the right shard of a begun blob is the one with which it was begun
right_begun : (mode : Mode) (puts : Puts) (unit_place : Place) (bid : ℕ) (shard : PayloadShard) → is_begun (puts.status bid) ≡ true
    → IsRightShard true mode puts unit_place bid shard → IsBegunShard mode puts unit_place bid shard
right_begun mode puts unit_place bid shard begun right =
    record { begun = begun; right = subst (λ b. cond b (shard ≡ begun_shard mode puts unit_place bid) (true ≡ true)) begun right }

pub carries_begun : (mode : Mode) (puts : Puts) (total : ℕ) (m : Manager) (request : sent.Request) → IsSendable total puts.status m (request_of request)
    → CarriesRight true mode puts (events.Send request) → CarriesBegun mode puts request
carries_begun mode puts total m (requests.Put unit disk bid blob_size bytes) sendable right =
    right_begun mode puts (place_at unit disk) bid (record { blob_size = blob_size; bytes = bytes }) sendable.0 right
carries_begun mode puts total m (requests.Copy unit disk bid blob_size bytes) sendable right =
    right_begun mode puts (place_at unit disk) bid (record { blob_size = blob_size; bytes = bytes }) sendable.0 right
carries_begun mode puts total m request sendable right = tt

accepted_carries : (mode : Mode) (puts : Puts) (accepted : ℕ → ℕ → Bool) (request : sent.Request) → CarriesBegun mode puts request → CarriesBegun mode (record puts { accepted = accepted }) request
accepted_carries mode puts accepted (requests.Put unit disk bid blob_size bytes) carries = record { begun = carries.begun; right = carries.right }
accepted_carries mode puts accepted (requests.Copy unit disk bid blob_size bytes) carries = record { begun = carries.begun; right = carries.right }
accepted_carries mode puts accepted request carries = tt

-- hearing an answer leaves what was begun
pub heard_carries : (mode : Mode) (puts : Puts) (r : Request) (a : Answer) (request : sent.Request) → CarriesBegun mode puts request → CarriesBegun mode (puts_hear r a puts) request
heard_carries mode puts (Request.Put place bid) Answer.Done request carries = accepted_carries mode puts (puts_hear (Request.Put place bid) Answer.Done puts).accepted request carries
heard_carries mode puts (Request.Put place bid) Answer.Already request carries = accepted_carries mode puts (puts_hear (Request.Put place bid) Answer.Already puts).accepted request carries
heard_carries mode puts (Request.Put place bid) a request carries = carries
heard_carries mode puts r a request carries = carries

-- ---- faults

pub fault_rises : (before now file : ℕ) → Rose before now → Rose (before + file) (now + file)
fault_rises before now file rose = omega (arith, rose)
