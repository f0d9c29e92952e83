-- The blobs of an object that is put are begun with its bytes, and no get gives others.
use Rattle.std.proofs.Common.{◌≡◌, ℕ, zero, suc, ◌+◌, inl, inr, List, [], ◌∷◌, ◌++◌, length, Result, Ok, Err, refl, sym, ◌∙◌, ap, subst, append_assoc, append-nil, add-zero, arith}
use Rattle.std.specs.List.{concat}
use Rattle.unit_id.specs.declared.homes.Home.{Home}
use Rattle.code_mode.specs.declared.payload.Payload.{Payload}
use Rattle.code_mode.specs.declared.payload.Payload.TheVariants.{Plain}
use Rattle.code_mode.specs.Payload.{payload_bytes}
use Rattle.volume_world.specs.Run.{World}
use Rattle.volume_world.specs.Trace.{trace_of}
use Rattle.volume_world.specs.Way.{Origin, shape_of}
use Rattle.volume_world.specs.Course.{Part, IsDone, PartsLead}
use Rattle.volume_world.specs.Call.{Next, IsRest}
use Rattle.volume_world.specs.declared.event.Event.{Event}
use Rattle.volume_world.specs.declared.event.Event.TheVariants as events
use Rattle.volume_world.specs.declared.reply.Reply.{Reply}
use Rattle.volume_world.specs.declared.reply.Reply.TheVariants as replies
use Rattle.volume_world.proofs.PutsStay.{PutsStay}
use Rattle.volume_world.proofs.Telling.{begun_as_told, entry_stays}
use Rattle.blob_access.specs.declared.putting.Acked.{Acked}
use Rattle.blob_access.specs.declared.fault.PutFault.{PutFault}
use Rattle.blob_access.specs.PutCall.{PutStage, PutNext, put_asks, put_after, put_call, sending, after_lease, after_begin, after_send, after_end, unless_failed}
use Rattle.blob_access.specs.GetCall.{IsPayload}
use Rattle.blob_access.proofs.LastTries.{leads_split}
use Rattle.object_access.specs.Pieces.{pieces_of}
use Rattle.object_access.specs.ObjectPut.{ObjectPutsBy}
use Rattle.object_access.specs.ObjectGet.{joined_payloads}
use Rattle.object_access.specs.RoundTrip.{AreBegunWith, PutObjectsAreBegun, ObjectsAreGotBack}
use Rattle.object_access.proofs.PieceLemmas.{length-pieces_of, pieces_are_the_object}
use Rattle.object_access.proofs.GetLemmas.{parts_stay}

-- ---- a put that is begun

-- what is known of the blob at a point of its put
abbrev PointBegun : ℕ → List ℕ → World → PutNext → Type 0
PointBegun bid blob w (Next.Go PutStage.Leasing) = Unit {0}
PointBegun bid blob w (Next.Go PutStage.Beginning) = Unit {0}
PointBegun bid blob w (Next.Go (PutStage.Sending end home homes)) = IsPayload w bid blob
PointBegun bid blob w (Next.Go (PutStage.Ending end)) = IsPayload w bid blob
PointBegun bid blob w (Next.Over (Ok acked)) = IsPayload w bid blob
PointBegun bid blob w (Next.Over (Err other)) = Unit {0}
PointBegun bid blob w Next.Never = Unit {0}

payload_stays : (w v : World) (bid : ℕ) (blob : List ℕ) → PutsStay w.state.puts v.state.puts → IsPayload w bid blob → IsPayload v bid blob
payload_stays w v bid blob stay h = let still = stay bid h.begun in record { begun = still.begun; payload = still.payload ∙ h.payload }

point_stays : (bid : ℕ) (blob : List ℕ) (w v : World) (next : PutNext) → PutsStay w.state.puts v.state.puts → PointBegun bid blob w next → PointBegun bid blob v next
point_stays bid blob w v (Next.Go PutStage.Leasing) stay h = tt
point_stays bid blob w v (Next.Go PutStage.Beginning) stay h = tt
point_stays bid blob w v (Next.Go (PutStage.Sending end home homes)) stay h = payload_stays w v bid blob stay h
point_stays bid blob w v (Next.Go (PutStage.Ending end)) stay h = payload_stays w v bid blob stay h
point_stays bid blob w v (Next.Over (Ok acked)) stay h = payload_stays w v bid blob stay h
point_stays bid blob w v (Next.Over (Err other)) stay h = tt
point_stays bid blob w v Next.Never stay h = tt

-- units that are left, or none
sending_begun : (bid : ℕ) (blob : List ℕ) (w : World) (end : ℕ) (homes : List Home) → IsPayload w bid blob → PointBegun bid blob w (Next.Go (sending end homes))
sending_begun bid blob w end [] h = h
sending_begun bid blob w end (home ∷ homes) h = h

failure_begun : (bid : ℕ) (blob : List ℕ) (w : World) (reply : Reply) → PointBegun bid blob w (unless_failed Next.Never reply)
failure_begun bid blob w replies.Fault = tt
failure_begun bid blob w (replies.Spoiled place) = tt
failure_begun bid blob w reply = tt

lease_begun : (bid : ℕ) (blob : List ℕ) (w : World) (reply : Reply) → PointBegun bid blob w (after_lease reply)
lease_begun bid blob w (replies.LeaseTo end) = tt
lease_begun bid blob w (replies.Locked task) = tt
lease_begun bid blob w reply = failure_begun bid blob w reply

-- the begin that is done
begin_done : (origin : Origin) (bid : ℕ) (payload : Payload) (w u : World) (end : ℕ) (units : List Home) → IsDone origin w (events.Begin bid payload) (replies.Begun end units) u → IsPayload u bid (payload_bytes payload)
begin_done origin bid payload w u end units done =
    let given = begun_as_told origin.vid (shape_of origin) w (trace_of (events.Begin bid payload) (replies.Begun end units) ∷ []) u bid payload end units
    (u, record { step = done.step; told = done.told; leads = done.leads }, refl) (inl refl) in
    record { begun = given.0; payload = given.1 }

begin_begun : (origin : Origin) (bid : ℕ) (payload : Payload) (w u : World) (reply : Reply) → IsDone origin w (events.Begin bid payload) reply u → PointBegun bid (payload_bytes payload) u (after_begin reply)
begin_begun origin bid payload w u (replies.Begun end units) done = sending_begun bid (payload_bytes payload) u end units (begin_done origin bid payload w u end units done)
begin_begun origin bid payload w u (replies.Locked task) done = tt
begin_begun origin bid payload w u replies.BeginTwice done = tt
begin_begun origin bid payload w u reply done = failure_begun bid (payload_bytes payload) u reply

send_begun : (bid : ℕ) (blob : List ℕ) (w : World) (next : PutStage) (reply : Reply) → PointBegun bid blob w (Next.Go next) → PointBegun bid blob w (after_send next reply)
send_begun bid blob w next (replies.Heard answer) h = h
send_begun bid blob w next replies.Unheard h = h
send_begun bid blob w next replies.Barred h = h
send_begun bid blob w next reply h = failure_begun bid blob w reply

end_begun : (bid : ℕ) (blob : List ℕ) (w : World) (end : ℕ) (reply : Reply) → IsPayload w bid blob → PointBegun bid blob w (after_end end reply)
end_begun bid blob w end (replies.Acked accepted) h = h
end_begun bid blob w end replies.NotOpen h = tt
end_begun bid blob w end (replies.LeaseOver over time) h = tt
end_begun bid blob w end (replies.Quorum accepted) h = tt
end_begun bid blob w end reply h = failure_begun bid blob w reply

-- what an event of the put makes of a point
asked_begun : (origin : Origin) (bid : ℕ) (payload : Payload) (w u : World) (stage : PutStage) (event : Event) (reply : Reply) → event ≡ put_asks origin.mode bid payload stage → IsDone origin w event reply u
    → PutsStay w.state.puts u.state.puts → PointBegun bid (payload_bytes payload) w (Next.Go stage) → PointBegun bid (payload_bytes payload) u (put_after stage reply)
asked_begun origin bid payload w u PutStage.Leasing event reply asked done stay h = lease_begun bid (payload_bytes payload) u reply
asked_begun origin bid payload w u PutStage.Beginning event reply asked done stay h = begin_begun origin bid payload w u reply (subst (λ e. IsDone origin w e reply u) asked done)
asked_begun origin bid payload w u (PutStage.Sending end home homes) event reply asked done stay h =
    send_begun bid (payload_bytes payload) u (sending end homes) reply (sending_begun bid (payload_bytes payload) u end homes (payload_stays w u bid (payload_bytes payload) stay h))
asked_begun origin bid payload w u (PutStage.Ending end) event reply asked done stay h = end_begun bid (payload_bytes payload) u end reply (payload_stays w u bid (payload_bytes payload) stay h)

-- the point at which a put ends
over_begun : (bid : ℕ) (blob : List ℕ) (w v : World) (given : Result Acked PutFault) (acked : Acked) → Ok acked ≡ given → v ≡ w → PointBegun bid blob w (Next.Over given) → IsPayload v bid blob
over_begun bid blob w v given acked same here h = subst (λ (x : World). IsPayload x bid blob) (sym here) (subst (λ g. PointBegun bid blob w (Next.Over g)) (sym same) h)

rest_begun : (origin : Origin) (bid : ℕ) (payload : Payload) (w v : World) (next : PutNext) (parts : List Part) (acked : Acked) → IsRest (put_call origin.mode bid payload) next parts (Ok acked)
    → PartsLead origin w parts v → PointBegun bid (payload_bytes payload) w next → IsPayload v bid (payload_bytes payload)
rest_begun origin bid payload w v (Next.Over given) [] acked rest leads h = over_begun bid (payload_bytes payload) w v given acked rest leads h
rest_begun origin bid payload w v (Next.Go stage) [] acked rest leads h = absurd rest
rest_begun origin bid payload w v Next.Never [] acked rest leads h = absurd rest
rest_begun origin bid payload w v (Next.Go stage) (Part.Beside trace ∷ parts) acked rest leads h =
    rest_begun origin bid payload leads.0 v (Next.Go stage) parts acked rest leads.2 (point_stays bid (payload_bytes payload) w leads.0 (Next.Go stage) (entry_stays (shape_of origin) w leads.1.step leads.0 leads.1.leads) h)
rest_begun origin bid payload w v (Next.Over given) (Part.Beside trace ∷ parts) acked rest leads h =
    rest_begun origin bid payload leads.0 v (Next.Over given) parts acked rest leads.2 (point_stays bid (payload_bytes payload) w leads.0 (Next.Over given) (entry_stays (shape_of origin) w leads.1.step leads.0 leads.1.leads) h)
rest_begun origin bid payload w v Next.Never (Part.Beside trace ∷ parts) acked rest leads h = rest_begun origin bid payload leads.0 v Next.Never parts acked rest leads.2 tt
rest_begun origin bid payload w v (Next.Go stage) (Part.Settling trace ∷ parts) acked rest leads h =
    rest_begun origin bid payload leads.0 v (Next.Go stage) parts acked rest leads.2 (point_stays bid (payload_bytes payload) w leads.0 (Next.Go stage) (entry_stays (shape_of origin) w leads.1.step leads.0 leads.1.leads) h)
rest_begun origin bid payload w v (Next.Over given) (Part.Settling trace ∷ parts) acked rest leads h =
    rest_begun origin bid payload leads.0 v (Next.Over given) parts acked rest leads.2 (point_stays bid (payload_bytes payload) w leads.0 (Next.Over given) (entry_stays (shape_of origin) w leads.1.step leads.0 leads.1.leads) h)
rest_begun origin bid payload w v Next.Never (Part.Settling trace ∷ parts) acked rest leads h = rest_begun origin bid payload leads.0 v Next.Never parts acked rest leads.2 tt
rest_begun origin bid payload w v (Next.Go stage) (Part.Asking event reply ∷ parts) acked rest leads h =
    rest_begun origin bid payload leads.0 v (put_after stage reply) parts acked rest.1 leads.2
    (asked_begun origin bid payload w leads.0 stage event reply rest.0 leads.1 (entry_stays (shape_of origin) w leads.1.step leads.0 leads.1.leads) h)
rest_begun origin bid payload w v (Next.Over given) (Part.Asking event reply ∷ parts) acked rest leads h = absurd rest
rest_begun origin bid payload w v Next.Never (Part.Asking event reply ∷ parts) acked rest leads h = absurd rest

-- ---- objects

pieces_begun : (origin : Origin) (number : ℕ) (pieces : List (List ℕ)) (parts : List Part) (w v : World) → ObjectPutsBy origin.mode number pieces parts (Ok tt) → PartsLead origin w parts v → AreBegunWith v number pieces
pieces_begun origin number [] parts w v puts leads = tt
pieces_begun origin number (piece ∷ pieces) parts w v (inl h) leads =
    let first = h.1 in
    let halves = leads_split origin w v first.own h.0 (subst (λ ps. PartsLead origin w ps v) first.split leads) in
    let begun = rest_begun origin number (Plain piece) w halves.0 (Next.Go PutStage.Leasing) first.own first.acked first.puts halves.1 tt in
    (payload_stays halves.0 v number piece (parts_stay origin halves.0 h.0 v halves.2) begun, pieces_begun origin (number + 1) pieces h.0 halves.0 v h.2 halves.2)
pieces_begun origin number (piece ∷ pieces) parts w v (inr h) leads = absurd (let given = h.given in cc)

pub put_objects_are_begun : PutObjectsAreBegun
put_objects_are_begun origin first bytes parts w v puts leads = pieces_begun origin first (pieces_of bytes) parts w v puts leads

begun_stay : (w v : World) (number : ℕ) (pieces : List (List ℕ)) → PutsStay w.state.puts v.state.puts → AreBegunWith w number pieces → AreBegunWith v number pieces
begun_stay w v number [] stay h = tt
begun_stay w v number (piece ∷ pieces) stay h = (payload_stays w v number piece stay h.0, begun_stay w v (number + 1) pieces stay h.1)

-- the first payload, and those behind it
joined_first : (payload : ℕ → List ℕ) (first count : ℕ) → joined_payloads payload first (suc count) ≡ payload first ++ joined_payloads payload (first + 1) count
joined_first payload first zero = ap payload (add-zero first) ∙ sym (append-nil (payload first))
joined_first payload first (suc count) =
    let next : first + suc count ≡ first + 1 + count = omega arith in
    ap (λ bytes. bytes ++ payload (first + suc count)) (joined_first payload first count)
    ∙ append_assoc (payload first) (joined_payloads payload (first + 1) count) (payload (first + suc count))
    ∙ ap (λ number. payload first ++ (joined_payloads payload (first + 1) count ++ payload number)) next

joined_begun : (v : World) (number : ℕ) (pieces : List (List ℕ)) → AreBegunWith v number pieces → joined_payloads v.state.puts.payload number (length pieces) ≡ concat pieces
joined_begun v number [] h = refl
joined_begun v number (piece ∷ pieces) h =
    joined_first v.state.puts.payload number (length pieces)
    ∙ ap (λ bytes. bytes ++ joined_payloads v.state.puts.payload (number + 1) (length pieces)) h.0.payload
    ∙ ap (λ bytes. piece ++ bytes) (joined_begun v (number + 1) pieces h.1)

pub objects_are_got_back : ObjectsAreGotBack
objects_are_got_back origin first bytes got parts w v begun leads object =
    let later = begun_stay w v first (pieces_of bytes) (parts_stay origin w parts v leads) begun in
    sym object.payloads
    ∙ ap (λ count. joined_payloads v.state.puts.payload first count) (sym (length-pieces_of bytes))
    ∙ joined_begun v first (pieces_of bytes) later
    ∙ (pieces_are_the_object bytes).joined
