-- An object that a turn put is begun and acknowledged from there on.
use Rattle.std.proofs.Common.{◌≡◌, ℕ, zero, suc, ◌+◌, ◌<◌, ◌⊎◌, inl, inr, Bool, true, false, List, [], ◌∷◌, ◌++◌, length, get_or, Result, Ok, Err, refl, sym, ◌∙◌, ap, subst, add-zero, arith}
use Rattle.unit_id.specs.Lists.{IsIn}
use Rattle.code_mode.specs.declared.mode.Mode.{Mode}
use Rattle.code_mode.specs.declared.payload.Payload.{Payload}
use Rattle.code_mode.specs.declared.payload.Payload.TheVariants.{Plain}
use Rattle.code_mode.specs.declared.stripe.TheConstants.{BLOB_LIMIT}
use Rattle.code_mode.specs.VolumeShape.{VolumeShape}
use Rattle.code_mode.proofs.Pieces.{length-first_chunks}
use Rattle.volume_entry.specs.Reply.{Reply as ToldReply}
use Rattle.volume_world.specs.Event.{Event as ToldEvent}
use Rattle.volume_world.specs.State.{State}
use Rattle.volume_world.specs.declared.event.Event.{Event}
use Rattle.volume_world.specs.declared.event.Event.TheVariants as events
use Rattle.volume_world.specs.declared.reply.Reply.{Reply}
use Rattle.volume_world.specs.declared.reply.Reply.TheVariants as volume_replies
use Rattle.volume_world.specs.declared.trace.TraceReply.TheVariants as kept_reply
use Rattle.volume_world.specs.Run.{World, Step, Leads}
use Rattle.volume_world.specs.BlobStatus.{is_acked}
use Rattle.volume_world.specs.Laws.{IsEarned}
use Rattle.volume_world.specs.Told.{Tells}
use Rattle.volume_world.specs.Way.{Origin, shape_of}
use Rattle.volume_world.specs.Course.{Part, IsDone, PartLeads, PartsLead}
use Rattle.volume_world.specs.Call.{Next, Call, IsRest}
use Rattle.volume_world.proofs.PutsStay.{PutsStay}
use Rattle.volume_world.proofs.Telling.{entry_stays}
use Rattle.volume_world.proofs.Stretches.{leads_on}
use Rattle.volume_world.proofs.RunProofs.{runs_are_borne_out}
use Rattle.volume_world.proofs.AckProofs.{acks_are_exact}
use Rattle.blob_access.specs.declared.putting.Acked.{Acked}
use Rattle.blob_access.specs.declared.fault.PutFault.{PutFault}
use Rattle.blob_access.specs.declared.fault.PutFault.TheVariants as put_faults
use Rattle.blob_access.specs.PutCall.{PutStage, PutNext, put_call, put_asks, put_after, sending, after_lease, after_begin, after_send, after_end, unless_failed, PutsBy}
use Rattle.blob_access.specs.GetCall.{IsPayload}
use Rattle.blob_access.proofs.PutLemmas.{in_first, in_second}
use Rattle.blob_access.proofs.Later.{part_step}
use Rattle.blob_access.proofs.LastTries.{over_answer}
use Rattle.blob_access.proofs.GivenBlobs.{parts_acked}
use Rattle.object_access.specs.Pieces.{blob_count, pieces_of}
use Rattle.object_access.specs.ObjectPut.{ObjectPutsBy}
use Rattle.object_access.specs.RoundTrip.{AreBegunWith, PutObjectsAreBegun}
use Rattle.volume_turns.specs.declared.command.VolumeCommand.{VolumeCommand}
use Rattle.volume_turns.specs.declared.command.VolumeCommand.TheVariants as commands
use Rattle.volume_turns.specs.declared.reply.VolumeReply.{VolumeReply}
use Rattle.volume_turns.specs.declared.reply.VolumeReply.TheVariants as replies
use Rattle.volume_turns.specs.Answers.{put_reply, put_refused}
use Rattle.volume_turns.specs.Turn.{TurnBy, PutTurn}
use Rattle.volume_turns.specs.Session.{Turn, joined, IsTurn, AreTurns, TurnsLead}
use Rattle.volume_turns.specs.ObjectTurns.{HasPut, IsAckedIn, AreAckedIn, PutsAreEarned}
use Rattle.volume_turns.proofs.CallCauses.{gives, going_cause}

-- ---- an end that is acknowledged

abbrev is_put : Result Acked PutFault → Bool
is_put (Ok acked) = true
is_put (Err other) = false

-- the event is the blob's end, and it is acknowledged
record IsAcking (bid : ℕ) (event : Event) (reply : Reply) : Type 0 where
  accepted : ℕ
  event_is : event ≡ events.End bid
  reply_is : reply ≡ volume_replies.Acked accepted

failed_puts : (reply : Reply) → gives is_put (unless_failed Next.Never reply) ≡ true → ⊥
failed_puts volume_replies.Fault e = cc e
failed_puts (volume_replies.Spoiled place) e = cc e
failed_puts reply e = cc e

lease_puts : (reply : Reply) → gives is_put (after_lease reply) ≡ true → ⊥
lease_puts (volume_replies.LeaseTo end) e = cc e
lease_puts (volume_replies.Locked task) e = cc e
lease_puts reply e = failed_puts reply e

begin_puts : (reply : Reply) → gives is_put (after_begin reply) ≡ true → ⊥
begin_puts (volume_replies.Begun end units) e = cc e
begin_puts (volume_replies.Locked task) e = cc e
begin_puts volume_replies.BeginTwice e = cc e
begin_puts reply e = failed_puts reply e

send_puts : (next : PutStage) (reply : Reply) → gives is_put (after_send next reply) ≡ true → ⊥
send_puts next (volume_replies.Heard answer) e = cc e
send_puts next volume_replies.Unheard e = cc e
send_puts next volume_replies.Barred e = cc e
send_puts next reply e = failed_puts reply e

end_puts : (bid end : ℕ) (reply : Reply) → gives is_put (after_end end reply) ≡ true → IsAcking bid (events.End bid) reply
end_puts bid end (volume_replies.Acked accepted) e = record { accepted = accepted; event_is = refl; reply_is = refl }
end_puts bid end volume_replies.NotOpen e = absurd (cc e)
end_puts bid end (volume_replies.LeaseOver over time) e = absurd (cc e)
end_puts bid end (volume_replies.Quorum accepted) e = absurd (cc e)
end_puts bid end reply e = absurd (failed_puts reply e)

stage_puts : (mode : Mode) (bid : ℕ) (payload : Payload) (stage : PutStage) (reply : Reply) → gives is_put (put_after stage reply) ≡ true → IsAcking bid (put_asks mode bid payload stage) reply
stage_puts mode bid payload PutStage.Leasing reply e = absurd (lease_puts reply e)
stage_puts mode bid payload PutStage.Beginning reply e = absurd (begin_puts reply e)
stage_puts mode bid payload (PutStage.Sending end home homes) reply e = absurd (send_puts (sending end homes) reply e)
stage_puts mode bid payload (PutStage.Ending end) reply e = end_puts bid end reply e

puts_acked : (mode : Mode) (bid : ℕ) (payload : Payload) (parts : List Part) (acked : Acked) → PutsBy mode bid payload parts (Ok acked) → IsAckedIn parts bid
puts_acked mode bid payload parts acked h =
    let cause = going_cause (put_call mode bid payload) is_put PutStage.Leasing parts (Ok acked) h refl in
    let end = stage_puts mode bid payload cause.stage cause.reply cause.makes in
    let same : Part.Asking (put_asks mode bid payload cause.stage) cause.reply ≡ Part.Asking (events.End bid) (volume_replies.Acked end.accepted) = λ i. Part.Asking (end.event_is i) (end.reply_is i) in
    record { accepted = end.accepted; there = subst (λ (p : Part). IsIn p parts) same cause.there }

object_acked : (mode : Mode) (number : ℕ) (pieces : List (List ℕ)) (parts : List Part) → ObjectPutsBy mode number pieces parts (Ok tt) → (k : ℕ) → k < length pieces → IsAckedIn parts (number + k)
object_acked mode number [] parts h k below = absurd (omega (arith, below))
object_acked mode number (piece ∷ pieces) parts (inr h) k below = absurd (let e : Ok tt ≡ Err h.fault = h.given in cc)
object_acked mode number (piece ∷ pieces) parts (inl h) zero below =
    let own = puts_acked mode number (Plain piece) h.1.own h.1.acked h.1.puts in
    subst (λ (n : ℕ). IsAckedIn parts n) (sym (add-zero number)) (record { accepted = own.accepted; there = subst (λ ps. IsIn (Part.Asking (events.End number) (volume_replies.Acked own.accepted)) ps) (sym h.1.split) (in_first _ h.1.own h.0 own.there) })
object_acked mode number (piece ∷ pieces) parts (inl h) (suc k) below =
    let next : (number + 1) + k ≡ number + suc k = omega arith in
    let later = subst (λ (n : ℕ). IsAckedIn h.0 n) next (object_acked mode (number + 1) pieces h.0 h.2 k (omega arith)) in
    record { accepted = later.accepted; there = subst (λ ps. IsIn (Part.Asking (events.End (number + suc k)) (volume_replies.Acked later.accepted)) ps) (sym h.1.split) (in_second _ h.1.own h.0 later.there) }

-- ---- a turn that puts

put_was_put : (answer : Result (Unit {0}) PutFault) → Ok replies.Put ≡ put_reply answer → answer ≡ Ok tt
put_was_put (Ok done) e = refl
put_was_put (Err (put_faults.Locked task)) e = absurd (cc e)
put_was_put (Err put_faults.Begun) e = absurd (cc e)
put_was_put (Err (put_faults.LeaseEnded end time)) e = absurd (cc e)
put_was_put (Err put_faults.NotOpen) e = absurd (cc e)
put_was_put (Err (put_faults.Quorum accepted)) e = absurd (cc e)
put_was_put (Err put_faults.Fault) e = absurd (cc e)
put_was_put (Err (put_faults.Spoiled place)) e = absurd (cc e)
put_was_put (Err put_faults.HistoryFull) e = absurd (cc e)
put_was_put (Err put_faults.Memory) e = absurd (cc e)

-- all blobs of such a turn are put
pub turn_puts : (origin : Origin) (turn : Turn) (first : ℕ) (object : List ℕ) → IsTurn origin turn → HasPut turn first object → ObjectPutsBy origin.mode first (pieces_of object) turn.parts (Ok tt)
turn_puts origin turn first object own put =
    let by : PutTurn origin.mode first object turn.parts turn.result = subst (λ (c : VolumeCommand). TurnBy origin.mode c turn.parts turn.result) put.command own.plays in
    subst (λ (a : Result (Unit {0}) PutFault). ObjectPutsBy origin.mode first (pieces_of object) turn.parts a) (put_was_put by.answer (sym put.reply ∙ by.given)) by.puts

-- ---- acknowledged ends

pub count_of_pieces : (object : List ℕ) → length (pieces_of object) ≡ blob_count (length object)
count_of_pieces object = length-first_chunks BLOB_LIMIT (blob_count (length object)) object

turn_acked : (origin : Origin) (turn : Turn) (first : ℕ) (object : List ℕ) → IsTurn origin turn → HasPut turn first object → AreAckedIn turn.parts first (blob_count (length object))
turn_acked origin turn first object own put k below =
    object_acked origin.mode first (pieces_of object) turn.parts (turn_puts origin turn first object own put) k (subst (λ (n : ℕ). k < n) (sym (count_of_pieces object)) below)

-- ---- ends that aren't acknowledged

-- an event of a whole call is one that some stage of it asks for
rest_asks : {S A : Type 0} (call : Call S A) (next : Next S A) (parts : List Part) (answer : A) (event : Event) (reply : Reply) → IsRest call next parts answer → IsIn (Part.Asking event reply) parts
    → (stage : S) × (event ≡ call.asks stage)
rest_asks call next [] answer event reply h i = absurd i
rest_asks call (Next.Over given) (Part.Beside trace ∷ parts) answer event reply h i = elim i [ inl e ↦ absurd (cc e) | inr there ↦ rest_asks call (Next.Over given) parts answer event reply h there ]
rest_asks call (Next.Go stage) (Part.Beside trace ∷ parts) answer event reply h i = elim i [ inl e ↦ absurd (cc e) | inr there ↦ rest_asks call (Next.Go stage) parts answer event reply h there ]
rest_asks call Next.Never (Part.Beside trace ∷ parts) answer event reply h i = elim i [ inl e ↦ absurd (cc e) | inr there ↦ rest_asks call Next.Never parts answer event reply h there ]
rest_asks call (Next.Over given) (Part.Settling trace ∷ parts) answer event reply h i = elim i [ inl e ↦ absurd (cc e) | inr there ↦ rest_asks call (Next.Over given) parts answer event reply h there ]
rest_asks call (Next.Go stage) (Part.Settling trace ∷ parts) answer event reply h i = elim i [ inl e ↦ absurd (cc e) | inr there ↦ rest_asks call (Next.Go stage) parts answer event reply h there ]
rest_asks call Next.Never (Part.Settling trace ∷ parts) answer event reply h i = elim i [ inl e ↦ absurd (cc e) | inr there ↦ rest_asks call Next.Never parts answer event reply h there ]
rest_asks call (Next.Go stage) (Part.Asking asked told ∷ parts) answer event reply h i = elim i [
  | inl e ↦ (let same : event ≡ asked = cc e in (stage, same ∙ h.0))
  | inr there ↦ rest_asks call (call.after stage told) parts answer event reply h.1 there
]
rest_asks call (Next.Over given) (Part.Asking asked told ∷ parts) answer event reply h i = absurd h
rest_asks call Next.Never (Part.Asking asked told ∷ parts) answer event reply h i = absurd h

-- a put ends no other blob's put
end_is_own : (mode : Mode) (bid other : ℕ) (payload : Payload) (stage : PutStage) → events.End other ≡ put_asks mode bid payload stage → other ≡ bid
end_is_own mode bid other payload PutStage.Leasing e = absurd (cc e)
end_is_own mode bid other payload PutStage.Beginning e = absurd (cc e)
end_is_own mode bid other payload (PutStage.Sending end home homes) e = absurd (cc e)
end_is_own mode bid other payload (PutStage.Ending end) e = cc e

ends_own : (mode : Mode) (bid other : ℕ) (payload : Payload) (parts : List Part) (acked : Acked) → PutsBy mode bid payload parts (Ok acked) → IsAckedIn parts other → other ≡ bid
ends_own mode bid other payload parts acked h there =
    let one = rest_asks (put_call mode bid payload) (Next.Go PutStage.Leasing) parts (Ok acked) (events.End other) (volume_replies.Acked there.accepted) h there.there in
    end_is_own mode bid other payload one.0 one.1

-- behind an acknowledged end the put is answered so
end_over : (mode : Mode) (bid other accepted : ℕ) (payload : Payload) (stage : PutStage) (told : Reply) (parts : List Part) (why : PutFault) → events.End other ≡ put_asks mode bid payload stage
    → told ≡ volume_replies.Acked accepted → IsRest (put_call mode bid payload) (put_after stage told) parts (Err why) → ⊥
end_over mode bid other accepted payload PutStage.Leasing told parts why e r h = cc e
end_over mode bid other accepted payload PutStage.Beginning told parts why e r h = cc e
end_over mode bid other accepted payload (PutStage.Sending end home homes) told parts why e r h = cc e
end_over mode bid other accepted payload (PutStage.Ending end) told parts why e r h =
    let over = over_answer (put_call mode bid payload) (Ok (record { accepted = accepted; end = end })) parts (Err why) (subst (λ (x : Reply). IsRest (put_call mode bid payload) (after_end end x) parts (Err why)) r h) in
    cc over

refused_unacked : (mode : Mode) (bid other accepted : ℕ) (payload : Payload) (next : PutNext) (parts : List Part) (why : PutFault) → IsRest (put_call mode bid payload) next parts (Err why)
    → IsIn (Part.Asking (events.End other) (volume_replies.Acked accepted)) parts → ⊥
refused_unacked mode bid other accepted payload next [] why h i = i
refused_unacked mode bid other accepted payload (Next.Over given) (Part.Beside trace ∷ parts) why h i = elim i [ inl e ↦ cc e | inr there ↦ refused_unacked mode bid other accepted payload (Next.Over given) parts why h there ]
refused_unacked mode bid other accepted payload (Next.Go stage) (Part.Beside trace ∷ parts) why h i = elim i [ inl e ↦ cc e | inr there ↦ refused_unacked mode bid other accepted payload (Next.Go stage) parts why h there ]
refused_unacked mode bid other accepted payload Next.Never (Part.Beside trace ∷ parts) why h i = elim i [ inl e ↦ cc e | inr there ↦ refused_unacked mode bid other accepted payload Next.Never parts why h there ]
refused_unacked mode bid other accepted payload (Next.Over given) (Part.Settling trace ∷ parts) why h i = elim i [ inl e ↦ cc e | inr there ↦ refused_unacked mode bid other accepted payload (Next.Over given) parts why h there ]
refused_unacked mode bid other accepted payload (Next.Go stage) (Part.Settling trace ∷ parts) why h i = elim i [ inl e ↦ cc e | inr there ↦ refused_unacked mode bid other accepted payload (Next.Go stage) parts why h there ]
refused_unacked mode bid other accepted payload Next.Never (Part.Settling trace ∷ parts) why h i = elim i [ inl e ↦ cc e | inr there ↦ refused_unacked mode bid other accepted payload Next.Never parts why h there ]
refused_unacked mode bid other accepted payload (Next.Go stage) (Part.Asking asked told ∷ parts) why h i = elim i [
  | inl e ↦ (let event : events.End other ≡ asked = cc e in let reply : told ≡ volume_replies.Acked accepted = cc e in end_over mode bid other accepted payload stage told parts why (event ∙ h.0) reply h.1)
  | inr there ↦ refused_unacked mode bid other accepted payload (put_after stage told) parts why h.1 there
]
refused_unacked mode bid other accepted payload (Next.Over given) (Part.Asking asked told ∷ parts) why h i = h
refused_unacked mode bid other accepted payload Next.Never (Part.Asking asked told ∷ parts) why h i = h

-- a put that isn't acknowledged, and didn't break off
blob_unacked : (mode : Mode) (bid other : ℕ) (payload : Payload) (parts : List Part) (why : PutFault) (reply : VolumeReply) → Ok reply ≡ put_refused why → PutsBy mode bid payload parts (Err why) → IsAckedIn parts other → ⊥
blob_unacked mode bid other payload parts put_faults.HistoryFull reply given h there = cc given
blob_unacked mode bid other payload parts put_faults.Memory reply given h there = cc given
blob_unacked mode bid other payload parts why reply given h there = refused_unacked mode bid other there.accepted payload (Next.Go PutStage.Leasing) parts why h there.there

in_either : {A : Type 0} (x : A) (xs ys : List A) → IsIn x (xs ++ ys) → IsIn x xs ⊎ IsIn x ys
in_either x [] ys i = inr i
in_either x (y ∷ xs) ys i = elim i [ inl e ↦ inl (inl e) | inr there ↦ elim (in_either x xs ys there) [ inl a ↦ inl (inr a) | inr b ↦ inr b ] ]

-- of the blobs of an object that isn't put one isn't acknowledged
record IsUnacked (number count : ℕ) (parts : List Part) : Type 0 where
  place : ℕ
  within : place < count
  unacked : IsAckedIn parts (number + place) → ⊥

-- .. behind a blob that is
unacked_later : (mode : Mode) (number count : ℕ) (piece : List ℕ) (own rest parts : List Part) (acked : Acked) → parts ≡ own ++ rest → PutsBy mode number (Plain piece) own (Ok acked)
    → IsUnacked (number + 1) count rest → IsUnacked number (suc count) parts
unacked_later mode number count piece own rest parts acked split puts h = record {
  place = suc h.place;
  within = (let below = h.within in omega arith);
  unacked = λ there. elim (in_either _ own rest (subst (λ ps. IsIn (Part.Asking (events.End (number + suc h.place)) (volume_replies.Acked there.accepted)) ps) split there.there)) [
    | inl i ↦ (let same = ends_own mode number (number + suc h.place) (Plain piece) own acked puts (record { accepted = there.accepted; there = i }) in absurd (omega (arith, same)))
    | inr i ↦ (let next : number + suc h.place ≡ (number + 1) + h.place = omega arith in h.unacked (subst (λ (n : ℕ). IsAckedIn rest n) next (record { accepted = there.accepted; there = i })))
  ];
}

object_unacked : (mode : Mode) (number : ℕ) (pieces : List (List ℕ)) (parts : List Part) (why : PutFault) (reply : VolumeReply) → Ok reply ≡ put_refused why → ObjectPutsBy mode number pieces parts (Err why)
    → IsUnacked number (length pieces) parts
object_unacked mode number [] parts why reply given h = absurd (let e : Err why ≡ Ok tt = h.1 in cc)
object_unacked mode number (piece ∷ pieces) parts why reply given (inl h) =
    unacked_later mode number (length pieces) piece h.1.own h.0 parts h.1.acked h.1.split h.1.puts (object_unacked mode (number + 1) pieces h.0 why reply given h.2)
object_unacked mode number (piece ∷ pieces) parts why reply given (inr h) =
    let is : Err why ≡ Err h.fault = h.given in
    let same : h.fault ≡ why = cc is in
    record {
      place = 0;
      within = omega arith;
      unacked = blob_unacked mode number (number + 0) (Plain piece) parts why reply given (subst (λ (f : PutFault). PutsBy mode number (Plain piece) parts (Err f)) same h.puts);
    }

answer_puts : (mode : Mode) (first : ℕ) (object : List ℕ) (rest : List Part) (reply : VolumeReply) (answer : Result (Unit {0}) PutFault) → ObjectPutsBy mode first (pieces_of object) rest answer → Ok reply ≡ put_reply answer
    → AreAckedIn rest first (length (pieces_of object)) → reply ≡ replies.Put
answer_puts mode first object rest reply (Ok done) h given acked = cc given
answer_puts mode first object rest reply (Err why) h given acked = absurd (let none = object_unacked mode first (pieces_of object) rest why reply given h in none.unacked (acked none.place none.within))

turn_earned : (origin : Origin) (turn : Turn) (first : ℕ) (object : List ℕ) (reply : VolumeReply) → IsTurn origin turn → turn.command ≡ commands.Put first object → turn.result ≡ Ok reply
    → AreAckedIn turn.parts first (blob_count (length object)) → reply ≡ replies.Put
turn_earned origin turn first object reply own command result acked =
    let by : PutTurn origin.mode first object turn.parts turn.result = subst (λ (c : VolumeCommand). TurnBy origin.mode c turn.parts turn.result) command own.plays in
    answer_puts origin.mode first object turn.parts reply by.answer by.puts (sym result ∙ by.given) (λ k below. acked k (subst (λ (n : ℕ). k < n) (count_of_pieces object) below))

-- ---- acknowledged ends in states

-- the step of which the entry tells
record IsAckedReply (accepted : ℕ) (reply : ToldReply) : Type 0 where
  is : reply ≡ ToldReply.Acked accepted

acked_reply : (vid : ℕ) (s : State) (accepted : ℕ) (reply : ToldReply) → Tells vid s (kept_reply.Acked accepted) reply → IsAckedReply accepted reply
acked_reply vid s accepted (ToldReply.Acked n) h = record { is = ap ToldReply.Acked h }
acked_reply vid s accepted reply h = absurd h

acked_step : (origin : Origin) (w v : World) (bid accepted : ℕ) → (done : IsDone origin w (events.End bid) (volume_replies.Acked accepted) v) → done.step ≡ record { event = ToldEvent.End bid; reply = ToldReply.Acked accepted }
acked_step origin w v bid accepted done =
    let reply = acked_reply origin.vid w.state accepted done.step.reply done.told.reply in
    λ i. record { event = done.told.event i; reply = reply.is i }

done_acked : (origin : Origin) (w v : World) (bid accepted : ℕ) → IsDone origin w (events.End bid) (volume_replies.Acked accepted) v → is_acked (v.state.puts.status bid) ≡ true
done_acked origin w v bid accepted done =
    runs_are_borne_out.acked (shape_of origin) w v (done.step ∷ []) bid (v, done.leads, refl) (record { accepted = accepted; acked = inl (sym (acked_step origin w v bid accepted done)) })

ends_started : (shape : VolumeShape) (w v : World) (bid accepted : ℕ) → Leads shape w (record { event = ToldEvent.End bid; reply = ToldReply.Acked accepted }) v → w.state.manager.is_shut ≡ false
ends_started shape w v bid accepted (inl h) = h.0.1.0
ends_started shape w v bid accepted (inr h) = absurd (let e : ToldReply.Acked accepted ≡ ToldReply.Fault = h.1 in cc)

end_earned : (origin : Origin) (w v : World) (bid accepted : ℕ) → PartLeads origin w (Part.Asking (events.End bid) (volume_replies.Acked accepted)) v → IsEarned (shape_of origin) w.state bid accepted
end_earned origin w v bid accepted done =
    let leads = subst (λ (s : Step). Leads (shape_of origin) w s v) (acked_step origin w v bid accepted done) done.leads in
    (acks_are_exact.exactly (shape_of origin) w v (ToldReply.Acked accepted) bid accepted (ends_started (shape_of origin) w v bid accepted leads) leads).0 refl

pub puts_are_earned : PutsAreEarned
puts_are_earned = record { acked = turn_acked; put = turn_earned; earned = end_earned }

-- ---- what stays

pub parts_stay : (origin : Origin) (w : World) (parts : List Part) (v : World) → PartsLead origin w parts v → PutsStay w.state.puts v.state.puts
parts_stay origin w [] v h = subst (λ (x : World). PutsStay w.state.puts x.state.puts) (sym h) (λ bid begun. record { begun = begun; payload = refl })
parts_stay origin w (part ∷ parts) v h = λ bid begun.
    let one = part_step origin w part h.0 h.1 in
    let next = entry_stays (shape_of origin) w one.0 h.0 one.1 bid begun in
    let last = parts_stay origin h.0 parts v h.2 bid next.begun in
    record { begun = last.begun; payload = last.payload ∙ next.payload }

pub begun_stays : (w v : World) (number : ℕ) (pieces : List (List ℕ)) → PutsStay w.state.puts v.state.puts → AreBegunWith w number pieces → AreBegunWith v number pieces
begun_stays w v number [] stay h = tt
begun_stays w v number (piece ∷ pieces) stay h =
    let still = stay number h.0.begun in
    (record { begun = still.begun; payload = still.payload ∙ h.0.payload }, begun_stays w v (number + 1) pieces stay h.1)

-- the payload of the blob at a place
pub begun_at : (w : World) (number : ℕ) (pieces : List (List ℕ)) (k : ℕ) → k < length pieces → AreBegunWith w number pieces → IsPayload w (number + k) (get_or pieces k [])
begun_at w number [] k below h = absurd (omega (arith, below))
begun_at w number (piece ∷ pieces) zero below h = subst (λ (n : ℕ). IsPayload w n piece) (sym (add-zero number)) h.0
begun_at w number (piece ∷ pieces) (suc k) below h =
    let next : (number + 1) + k ≡ number + suc k = omega arith in
    subst (λ (n : ℕ). IsPayload w n (get_or pieces k [])) next (begun_at w (number + 1) pieces k (omega arith) h.1)

part_acked : (origin : Origin) (w u : World) (part : Part) (bid accepted : ℕ) → Part.Asking (events.End bid) (volume_replies.Acked accepted) ≡ part → PartLeads origin w part u → is_acked (u.state.puts.status bid) ≡ true
part_acked origin w u part bid accepted e h = done_acked origin w u bid accepted (subst (λ (p : Part). PartLeads origin w p u) (sym e) h)

acked_behind : (origin : Origin) (w v : World) (parts : List Part) (bid accepted : ℕ) → IsIn (Part.Asking (events.End bid) (volume_replies.Acked accepted)) parts → PartsLead origin w parts v
    → is_acked (v.state.puts.status bid) ≡ true
acked_behind origin w v [] bid accepted i h = absurd i
acked_behind origin w v (part ∷ parts) bid accepted i h = elim i [
  | inl e ↦ parts_acked origin bid h.0 parts v h.2 (part_acked origin w h.0 part bid accepted e h.1)
  | inr there ↦ acked_behind origin h.0 v parts bid accepted there h.2
]

-- ---- an earlier turn

pub turns_parts : (origin : Origin) (w v : World) (turns : List Turn) → TurnsLead origin w turns v → PartsLead origin w (joined turns) v
turns_parts origin w v [] h = h
turns_parts origin w v (turn ∷ turns) h = leads_on origin w h.0 v turn.parts (joined turns) h.1.leads (turns_parts origin h.0 v turns h.2)

-- the object's blobs are begun with its bytes, and acknowledged
pub record IsKept (w : World) (first : ℕ) (object : List ℕ) : Type 0 where
  pub begun : AreBegunWith w first (pieces_of object)
  pub acked : (k : ℕ) → k < blob_count (length object) → is_acked (w.state.puts.status (first + k)) ≡ true

kept_stays : (origin : Origin) (w v : World) (parts : List Part) (first : ℕ) (object : List ℕ) → PartsLead origin w parts v → IsKept w first object → IsKept v first object
kept_stays origin w v parts first object h kept = record {
  begun = begun_stays w v first (pieces_of object) (parts_stay origin w parts v h) kept.begun;
  acked = λ k below. parts_acked origin (first + k) w parts v h (kept.acked k below);
}

put_keeps : PutObjectsAreBegun → (origin : Origin) (w v : World) (turn : Turn) (first : ℕ) (object : List ℕ) → IsTurn origin turn → HasPut turn first object → PartsLead origin w turn.parts v → IsKept v first object
put_keeps begun origin w v turn first object own put leads = record {
  begun = begun origin first object turn.parts w v (turn_puts origin turn first object own put) leads;
  acked = λ k below. let one = turn_acked origin turn first object own put k below in acked_behind origin w v turn.parts (first + k) one.accepted one.there leads;
}

-- what an earlier turn put is kept behind all turns
pub kept_behind : PutObjectsAreBegun → (origin : Origin) (w v : World) (turns : List Turn) (put : Turn) (first : ℕ) (object : List ℕ) → AreTurns origin turns → IsIn put turns → HasPut put first object
    → TurnsLead origin w turns v → IsKept v first object
kept_behind begun origin w v [] put first object each i has h = absurd i
kept_behind begun origin w v (turn ∷ turns) put first object each i has h = elim i [
  | inl e ↦ kept_stays origin h.0 v (joined turns) first object (turns_parts origin h.0 v turns h.2) (put_keeps begun origin w h.0 turn first object each.0 (subst (λ (t : Turn). HasPut t first object) e has) h.1.leads)
  | inr there ↦ kept_behind begun origin h.0 v turns put first object each.1 there has h.2
]
