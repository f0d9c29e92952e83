-- Lemmas on the parts of a put.
use Rattle.std.proofs.Common.{◌≡◌, ℕ, zero, suc, ◌+◌, ◌<◌, ◌≤◌, inl, inr, Bool, true, false, cond, List, [], ◌∷◌, ◌++◌, length, drop, get_or, Option, Result, Ok, Err, refl, sym, ◌∙◌, ap, subst, arith}
use Rattle.std.proofs.lemmas.List.{append-nil, drop_more, drop_all}
use Rattle.unit_id.specs.Lists.{IsIn}
use Rattle.unit_id.specs.declared.homes.Home.{Home}
use Rattle.code_mode.specs.declared.payload.Payload.{Payload}
use Rattle.code_mode.specs.Payload.{payload_bytes}
use Rattle.code_mode.specs.Stripe.{all_shards}
use Rattle.code_mode.specs.declared.mode.Mode.{Mode}
use Rattle.code_mode.specs.Stripe.{shard_of}
use Rattle.code_mode.proofs.AnyShards.{length-shard_of}
use Rattle.unit_id.specs.Messages.{place_at}
use Rattle.unit_id.specs.declared.request.Request.TheVariants as requests
use Rattle.volume_world.specs.declared.event.Event.{Event}
use Rattle.volume_world.specs.declared.event.Event.TheVariants as events
use Rattle.volume_world.specs.declared.reply.Reply.{Reply}
use Rattle.volume_world.specs.declared.reply.Reply.TheVariants as replies
use Rattle.volume_world.specs.declared.fault.StepFault.{StepFault}
use Rattle.volume_world.specs.declared.fault.StepFault.TheVariants as step_faults
use Rattle.volume_world.specs.Trace.{trace_of}
use Rattle.volume_world.specs.Way.{Origin, WayView, IsWay, shape_of, longest_history}
use Rattle.volume_world.specs.declared.trace.Trace.{Trace}
use Rattle.volume_world.specs.Asking.{IsUnitOn, MayAsk}
use Rattle.volume_world.specs.Replying.{AreHomesFrom, AreHomes}
use Rattle.volume_world.specs.Course.{Part, traces_of, Goes, Happens, IsFull, StepsBy}
use Rattle.volume_world.specs.Call.{Next, Call}
use Rattle.volume_world.specs.Progress.{Proceeds}
use Rattle.volume_world.proofs.Stretches.{traces_on}
use Rattle.volume_world.specs.Contents.{begun_shard}
use Rattle.volume_world.proofs.Telling.{begun_as_told}
use Rattle.volume_world.proofs.Comings.{comes_rest, comes_front, step_proceeds, proceeds_on}
use Rattle.blob_access.specs.declared.putting.Acked.{Acked}
use Rattle.blob_access.specs.declared.fault.PutFault.{PutFault}
use Rattle.blob_access.specs.declared.fault.PutFault.TheVariants as faults
use Rattle.blob_access.specs.PutCall.{PutStage, PutNext, put_asks, put_after, put_call, sending, unless_failed, after_lease, after_begin, after_send, after_end, Puts}
use Rattle.blob_access.specs.PutParts.{broken_off, told, PutsOn, IsPuttable, WasBegun, MaySend}

abbrev PutsCall : Type 0
PutsCall = Call PutStage (Result Acked PutFault)

-- ---- parts of a put

-- the put is over because the history is full
abbrev pub is_cut : PutNext → Bool
is_cut (Next.Over (Err faults.HistoryFull)) = true
is_cut next = false

-- no reply makes that of it
cut_by_failure : (reply : Reply) → is_cut (unless_failed Next.Never reply) ≡ false
cut_by_failure replies.Fault = refl
cut_by_failure (replies.Spoiled place) = refl
cut_by_failure reply = refl

cut_by_lease : (reply : Reply) → is_cut (after_lease reply) ≡ false
cut_by_lease (replies.LeaseTo end) = refl
cut_by_lease (replies.Locked task) = refl
cut_by_lease reply = cut_by_failure reply

cut_by_begin : (reply : Reply) → is_cut (after_begin reply) ≡ false
cut_by_begin (replies.Begun end units) = refl
cut_by_begin (replies.Locked task) = refl
cut_by_begin replies.BeginTwice = refl
cut_by_begin reply = cut_by_failure reply

cut_by_send : (next : PutStage) (reply : Reply) → is_cut (after_send next reply) ≡ false
cut_by_send next (replies.Heard answer) = refl
cut_by_send next replies.Unheard = refl
cut_by_send next replies.Barred = refl
cut_by_send next reply = cut_by_failure reply

cut_by_end : (end : ℕ) (reply : Reply) → is_cut (after_end end reply) ≡ false
cut_by_end end (replies.Acked accepted) = refl
cut_by_end end replies.NotOpen = refl
cut_by_end end (replies.LeaseOver over time) = refl
cut_by_end end (replies.Quorum accepted) = refl
cut_by_end end reply = cut_by_failure reply

pub never_cut : (stage : PutStage) (reply : Reply) → is_cut (put_after stage reply) ≡ false
never_cut PutStage.Leasing reply = cut_by_lease reply
never_cut PutStage.Beginning reply = cut_by_begin reply
never_cut (PutStage.Sending end home homes) reply = cut_by_send (sending end homes) reply
never_cut (PutStage.Ending end) reply = cut_by_end end reply

-- the history is full behind the entries of others
pub full_there : (old new : WayView) → IsFull old new → longest_history ≤ length new.entries
full_there old new h = subst (λ (entries : List Trace). longest_history ≤ length entries) (sym h.goes.entries) h.full

-- what a reply makes of a stage, and what the answer of a part makes of it, are one
pub puts_told : {T : Type 0} (call : PutsCall) (old new : WayView) (from : PutStage) (to : PutNext) (result : Result T PutFault) (then : T → PutNext) → is_cut to ≡ false → told result then ≡ to
    → Proceeds call old new (Next.Go from) to → PutsOn call old new from result then
puts_told call old new from to (Err faults.HistoryFull) then uncut e h = absurd (let both : true ≡ false = ap is_cut e ∙ uncut in cc)
puts_told call old new from to (Err faults.Memory) then uncut e h = record { to = to; proceeds = h }
puts_told call old new from to (Err other) then uncut e h = subst (λ next. Proceeds call old new (Next.Go from) next) (sym e) h
puts_told call old new from to (Ok given) then uncut e h = subst (λ next. Proceeds call old new (Next.Go from) next) (sym e) h

-- by a step that is done
pub puts_replied : {T : Type 0} (call : PutsCall) (never : (stage : PutStage) (reply : Reply) → is_cut (call.after stage reply) ≡ false) (old new : WayView) (stage : PutStage) (event : Event) (reply : Reply) (result : Result T PutFault) (then : T → PutNext) → event ≡ call.asks stage
    → StepsBy old new event (Ok reply) → told result then ≡ call.after stage reply → PutsOn call old new stage result then
puts_replied call never old new stage event reply result then asked h e = puts_told call old new stage (call.after stage reply) result then (never stage reply) e (step_proceeds call old new stage event (Ok reply) asked h)

-- by a step that isn't done
pub puts_stopped : {T : Type 0} (call : PutsCall) (old new : WayView) (stage : PutStage) (event : Event) (fault : StepFault) (given : PutFault) (then : T → PutNext) → event ≡ call.asks stage
    → StepsBy old new event (Err fault) → given ≡ broken_off fault → PutsOn {T = T} call old new stage (Err given) then
puts_stopped {T} call old new stage event step_faults.HistoryFull given then asked h e =
    subst (λ f. PutsOn {T = T} call old new stage (Err f) then) (sym e) (record { to = Next.Go stage; proceeds = step_proceeds call old new stage event (Err step_faults.HistoryFull) asked h; full = full_there old new h })
puts_stopped {T} call old new stage event step_faults.Memory given then asked h e =
    subst (λ f. PutsOn {T = T} call old new stage (Err f) then) (sym e) (record { to = Next.Go stage; proceeds = step_proceeds call old new stage event (Err step_faults.Memory) asked h })

-- one part behind the other
pub puts_on : {T : Type 0} (call : PutsCall) (a b c : WayView) (from at : PutStage) (result : Result T PutFault) (then : T → PutNext) → Proceeds call a b (Next.Go from) (Next.Go at) → PutsOn call b c at result then
    → PutsOn call a c from result then
puts_on call a b c from at (Err faults.HistoryFull) then h k = record { to = k.to; proceeds = proceeds_on call a b c (Next.Go from) (Next.Go at) k.to h k.proceeds; full = k.full }
puts_on call a b c from at (Err faults.Memory) then h k = record { to = k.to; proceeds = proceeds_on call a b c (Next.Go from) (Next.Go at) k.to h k.proceeds }
puts_on call a b c from at (Err fault) then h k = proceeds_on call a b c (Next.Go from) (Next.Go at) (Next.Over (Err fault)) h k
puts_on call a b c from at (Ok given) then h k = proceeds_on call a b c (Next.Go from) (Next.Go at) (then given) h k

-- a part that fails ends the whole
pub puts_failed : {T U : Type 0} (call : PutsCall) (old new : WayView) (from : PutStage) (fault : PutFault) (then : T → PutNext) (after : U → PutNext) → PutsOn {T = T} call old new from (Err fault) then
    → PutsOn {T = U} call old new from (Err fault) after
puts_failed call old new from faults.HistoryFull then after h = h
puts_failed call old new from faults.Memory then after h = h
puts_failed call old new from other then after h = h

-- a whole put
pub puts_whole : (old new : WayView) (bid : ℕ) (payload : Payload) (result : Result Acked PutFault) → PutsOn (put_call old.origin.mode bid payload) old new PutStage.Leasing result (λ acked. Next.Over (Ok acked))
    → Puts old new bid payload result
puts_whole old new bid payload (Err faults.HistoryFull) h =
    record { full = λ e. h.full; parts = h.proceeds.parts; goes = h.proceeds.goes; fits = h.proceeds.fits; call = comes_front (put_call old.origin.mode bid payload) (Next.Go PutStage.Leasing) h.proceeds.parts h.to h.proceeds.comes }
puts_whole old new bid payload (Err faults.Memory) h =
    record { full = λ e. absurd (cc e); parts = h.proceeds.parts; goes = h.proceeds.goes; fits = h.proceeds.fits; call = comes_front (put_call old.origin.mode bid payload) (Next.Go PutStage.Leasing) h.proceeds.parts h.to h.proceeds.comes }
puts_whole old new bid payload (Err fault) h =
    record { full = λ e. absurd (cc e); parts = h.parts; goes = h.goes; fits = h.fits; call = comes_rest (put_call old.origin.mode bid payload) (Next.Go PutStage.Leasing) h.parts (Err fault) h.comes }
puts_whole old new bid payload (Ok acked) h =
    record { full = λ e. absurd (cc e); parts = h.parts; goes = h.goes; fits = h.fits; call = comes_rest (put_call old.origin.mode bid payload) (Next.Go PutStage.Leasing) h.parts (Ok acked) h.comes }

-- ---- a way that wasn't gone

pub goes_nowhere : (a : WayView) → Goes a a []
goes_nowhere a = record {
  origin = refl;
  is_alone = refl;
  entries = sym (append-nil a.entries);
  own = sym (append-nil a.own);
  alone = λ e part i. absurd i;
  count = omega arith;
  faults = omega arith;
  quiet = λ e. refl;
  leads = λ told w at. (w, refl, at);
}

pub puts_nothing : (a : WayView) (bid : ℕ) (payload : Payload) → Puts a a bid payload (Err faults.Memory)
puts_nothing a bid payload = record { full = λ e. absurd (cc e); parts = []; goes = goes_nowhere a; fits = tt; call = tt }

pub proceeds_nowhere : (call : PutsCall) (a : WayView) (from : PutNext) → Proceeds call a a from from
proceeds_nowhere call a from = record { parts = []; goes = goes_nowhere a; fits = tt; comes = refl }

-- ---- entries

pub in_first : {A : Type 0} (x : A) (xs ys : List A) → IsIn x xs → IsIn x (xs ++ ys)
in_first x [] ys h = absurd h
in_first x (z ∷ xs) ys (inl e) = inl e
in_first x (z ∷ xs) ys (inr h) = inr (in_first x xs ys h)

pub in_second : {A : Type 0} (x : A) (xs ys : List A) → IsIn x ys → IsIn x (xs ++ ys)
in_second x [] ys h = h
in_second x (z ∷ xs) ys h = inr (in_second x xs ys h)

pub asked_there : (old new : WayView) (event : Event) (reply : Reply) → Happens old new event reply → IsIn (trace_of event reply) new.entries
asked_there old new event reply h =
    let last = Part.Asking event reply ∷ [] in
    let tail : IsIn (trace_of event reply) (traces_of (h.settles ++ last)) = subst (λ traces. IsIn (trace_of event reply) traces) (sym (traces_on h.settles last)) (in_second (trace_of event reply) (traces_of h.settles) (traces_of last) (inl refl)) in
    let all : IsIn (trace_of event reply) (traces_of (h.others ++ (h.settles ++ last))) =
    subst (λ traces. IsIn (trace_of event reply) traces) (sym (traces_on h.others (h.settles ++ last))) (in_second (trace_of event reply) (traces_of h.others) (traces_of (h.settles ++ last)) tail) in
    subst (λ traces. IsIn (trace_of event reply) traces) (sym h.goes.entries) (in_second (trace_of event reply) old.entries (traces_of (h.others ++ (h.settles ++ last))) all)

pub begun_still : (old new : WayView) (parts : List Part) (bid : ℕ) (blob : List ℕ) → Goes old new parts → WasBegun old bid blob → WasBegun new bid blob
begun_still old new parts bid blob h b =
    record {
      payload = b.payload;
      bytes = b.bytes;
      end = b.end;
      units = b.units;
      there = subst (λ traces. IsIn (trace_of (events.Begin bid b.payload) (replies.Begun b.end b.units)) traces) (sym h.entries)
          (in_first (trace_of (events.Begin bid b.payload) (replies.Begun b.end b.units)) old.entries (traces_of parts) b.there);
    }

pub may_still : (old new : WayView) (parts : List Part) (bid : ℕ) (blob : List ℕ) (shards : List (Option (List ℕ))) → Goes old new parts → MaySend old bid blob shards → MaySend new bid blob shards
may_still old new parts bid blob shards h may =
    record { puttable = may.puttable; all = subst (λ (origin : Origin). shards ≡ all_shards origin.mode blob) (sym h.origin) may.all; begun = begun_still old new parts bid blob h may.begun }

-- ---- shards that are sent

-- a shard of a blob that was begun is the right one for its unit
pub send_may : (way : WayView) (bid : ℕ) (blob : List ℕ) (shards : List (Option (List ℕ))) (bytes : List ℕ) (home : Home) → IsWay way → MaySend way bid blob shards → IsUnitOn way.origin home.unit home.disk
    → bytes ≡ shard_of way.origin.mode blob home.unit.index → MayAsk way (events.Send (requests.Put home.unit home.disk bid (length blob) bytes))
send_may way bid blob shards bytes home its may unit is = record {
  fits = (unit, record { number = may.puttable.number; some = may.puttable.some; most = may.puttable.most; size = ap length is ∙ length-shard_of way.origin.mode blob home.unit.index });
  right = λ told w at.
      let b = may.begun in
      let state = begun_as_told way.origin.vid (shape_of way.origin) way.origin.start way.entries w bid b.payload b.end b.units (its.led told w at) b.there in
      let same : blob ≡ w.state.puts.payload bid = sym (state.1 ∙ b.bytes) in
      let shard : record { blob_size = length blob; bytes = bytes } ≡ begun_shard way.origin.mode w.state.puts (place_at home.unit home.disk) bid =
      λ i. record { blob_size = length (same i); bytes = (is ∙ ap (λ x. shard_of way.origin.mode x home.unit.index) same) i } in
      subst (λ test. cond test (record { blob_size = length blob; bytes = bytes } ≡ begun_shard way.origin.mode w.state.puts (place_at home.unit home.disk) bid) (way.is_alone ≡ true)) (sym state.0) shard;
}

-- what is sent is what the put asks for
pub sends_shard : (mode : Mode) (bid end : ℕ) (payload : Payload) (blob bytes : List ℕ) (home : Home) (left : List Home) → payload_bytes payload ≡ blob → bytes ≡ shard_of mode blob home.unit.index
    → events.Send (requests.Put home.unit home.disk bid (length blob) bytes) ≡ put_asks mode bid payload (PutStage.Sending end home left)
sends_shard mode bid end payload blob bytes home left same is =
    let back : blob ≡ payload_bytes payload = sym same in
    let shard : bytes ≡ shard_of mode (payload_bytes payload) home.unit.index = is ∙ ap (λ x. shard_of mode x home.unit.index) back in
    λ i. events.Send (requests.Put home.unit home.disk bid (length (back i)) (shard i))

-- the units of a volume are on its disks
pub home_there : (origin : Origin) (first : ℕ) (homes : List Home) (i : ℕ) (d : Home) → AreHomesFrom origin first homes → i < length homes → IsUnitOn origin (get_or homes i d).unit (get_or homes i d).disk
home_there origin first [] i d h below = absurd (omega arith)
home_there origin first (home ∷ homes) zero d h below = h.0
home_there origin first (home ∷ homes) (suc i) d h below = home_there origin (suc first) homes i d h.2 (omega arith)

-- a put that sends to some of the units, from their first one on
pub record IsSending (mode : Mode) (bid : ℕ) (blob : List ℕ) (old new : WayView) (units left : List Home) : Type 0 where
  pub goes : (payload : Payload) (end : ℕ) → payload_bytes payload ≡ blob → Proceeds (put_call mode bid payload) old new (Next.Go (sending end units)) (Next.Go (sending end left))

pub sending_first : (mode : Mode) (bid : ℕ) (blob : List ℕ) (a : WayView) (units : List Home) → IsSending mode bid blob a a units units
sending_first mode bid blob a units = record { goes = λ payload end same. proceeds_nowhere (put_call mode bid payload) a (Next.Go (sending end units)) }

-- the entry of a begin that was done
pub begun_where : (old new : WayView) (bid : ℕ) (payload : Payload) (reply : Reply) (end : ℕ) (units : List Home) → reply ≡ replies.Begun end units → Happens old new (events.Begin bid payload) reply
    → WasBegun new bid (payload_bytes payload)
begun_where old new bid payload reply end units is h = record {
  payload = payload;
  bytes = refl;
  end = end;
  units = units;
  there = subst (λ r. IsIn (trace_of (events.Begin bid payload) r) new.entries) is (asked_there old new (events.Begin bid payload) reply h);
}

-- memory is out before a part has asked anything
pub puts_nowhere : {T : Type 0} (call : PutsCall) (a : WayView) (from : PutStage) (result : Result T PutFault) (then : T → PutNext) → result ≡ Err faults.Memory → PutsOn call a a from result then
puts_nowhere {T} call a from result then e = subst (λ r. PutsOn {T = T} call a a from r then) (sym e) (record { to = Next.Go from; proceeds = proceeds_nowhere call a (Next.Go from) })

pub item_there : (origin : Origin) (homes : List Home) (i : ℕ) (home : Home) → AreHomes origin homes → i < length homes → home ≡ get_or homes i home → IsUnitOn origin home.unit home.disk
item_there origin homes i home all below is = subst (λ (x : Home). IsUnitOn origin x.unit x.disk) (sym is) (home_there origin 0 homes i home all.each below)

pub next_left : (homes : List Home) (i : ℕ) (home : Home) → i < length homes → home ≡ get_or homes i home → drop i homes ≡ home ∷ drop (i + 1) homes
next_left homes i home below is = drop_more homes i home below ∙ ap (λ x. x ∷ drop (i + 1) homes) (sym is)

-- the rest of a put, as one of its mode when it began
pub rest_on : {T : Type 0} (a b c : WayView) (bid : ℕ) (payload : Payload) (from : PutStage) (result : Result T PutFault) (then : T → PutNext) → b.origin ≡ a.origin
    → PutsOn (put_call b.origin.mode bid payload) b c from result then → PutsOn (put_call a.origin.mode bid payload) b c from result then
rest_on a b c bid payload from result then same h = subst (λ (o : Origin). PutsOn (put_call o.mode bid payload) b c from result then) same h

-- what is sent to one unit
abbrev pub SendsOne : WayView → WayView → ℕ → List ℕ → Home → Result (Unit {0}) PutFault → Type 0
SendsOne old new bid blob home result =
    (payload : Payload) (end : ℕ) (left : List Home) → payload_bytes payload ≡ blob
    → PutsOn (put_call old.origin.mode bid payload) old new (PutStage.Sending end home left) result (λ _. Next.Go (sending end left))

-- behind those that were sent to, one more
pub sending_part : (a b c : WayView) (bid : ℕ) (blob : List ℕ) (units : List Home) (i : ℕ) (home : Home) (result : Result (Unit {0}) PutFault) → i < length units → home ≡ get_or units i home
    → IsSending a.origin.mode bid blob a b units (drop i units) → SendsOne b c bid blob home result → (payload : Payload) (end : ℕ) → payload_bytes payload ≡ blob
    → PutsOn (put_call a.origin.mode bid payload) a c (sending end units) result (λ _. Next.Go (sending end (drop (i + 1) units)))
sending_part a b c bid blob units i home result below is h k payload end same =
    let left = drop (i + 1) units in
    let call = put_call a.origin.mode bid payload in
    let before = subst (λ xs. Proceeds call a b (Next.Go (sending end units)) (Next.Go (sending end xs))) (next_left units i home below is) (h.goes payload end same) in
    puts_on {T = Unit {0}} call a b c (sending end units) (PutStage.Sending end home left) result (λ _. Next.Go (sending end left)) before
    (rest_on {T = Unit {0}} a b c bid payload (PutStage.Sending end home left) result (λ _. Next.Go (sending end left)) before.goes.origin (k payload end left same))

-- a put that has sent to all units
pub sending_done : (mode : Mode) (bid : ℕ) (blob : List ℕ) (a b : WayView) (units : List Home) (i : ℕ) → length units ≤ i → IsSending mode bid blob a b units (drop i units)
    → (payload : Payload) (end : ℕ) → payload_bytes payload ≡ blob → Proceeds (put_call mode bid payload) a b (Next.Go (sending end units)) (Next.Go (PutStage.Ending end))
sending_done mode bid blob a b units i over h payload end same =
    subst (λ left. Proceeds (put_call mode bid payload) a b (Next.Go (sending end units)) (Next.Go (sending end left))) (drop_all i units over) (h.goes payload end same)

-- ---- whole puts

pub put_stops : (a : WayView) (bid : ℕ) (payload : Payload) (result : Result Acked PutFault) → result ≡ Err faults.Memory → Puts a a bid payload result
put_stops a bid payload result e = subst (λ r. Puts a a bid payload r) (sym e) (puts_nothing a bid payload)

pub put_fails : {T : Type 0} (old new : WayView) (bid : ℕ) (payload : Payload) (result : Result Acked PutFault) (fault : PutFault) (then : T → PutNext) → result ≡ Err fault
    → PutsOn {T = T} (put_call old.origin.mode bid payload) old new PutStage.Leasing (Err fault) then → Puts old new bid payload result
put_fails {T} old new bid payload result fault then e h =
    subst (λ r. Puts old new bid payload r) (sym e)
    (puts_whole old new bid payload (Err fault) (puts_failed {T = T} {U = Acked} (put_call old.origin.mode bid payload) old new PutStage.Leasing fault then (λ acked. Next.Over (Ok acked)) h))

-- what was begun can be sent
pub may_send : (a c : WayView) (bid : ℕ) (payload : Payload) (blob : List ℕ) (shards : List (Option (List ℕ))) (mode : Mode) → c.origin ≡ a.origin → mode ≡ a.origin.mode → blob ≡ payload_bytes payload
    → IsPuttable bid (payload_bytes payload) → shards ≡ all_shards mode blob → WasBegun c bid (payload_bytes payload) → MaySend c bid blob shards
may_send a c bid payload blob shards mode same is bytes puttable all begun = record {
  puttable = subst (IsPuttable bid) (sym bytes) puttable;
  all = all ∙ ap (λ m. all_shards m blob) (is ∙ sym (ap (λ (o : Origin). o.mode) same));
  begun = subst (WasBegun c bid) (sym bytes) begun;
}
