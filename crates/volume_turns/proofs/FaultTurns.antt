-- A turn that replies that a file failed has an entry with a fault.
use Rattle.std.proofs.Common.{◌≡◌, ℕ, ◌+◌, ◌≤◌, ◌==◌, inl, inr, Bool, true, false, cond, List, [], ◌∷◌, ◌++◌, length, Option, None, Result, Ok, Err, refl, sym, ◌∙◌, ap, subst, arith}
use Rattle.unit_id.specs.declared.homes.Home.{Home}
use Rattle.unit_id.specs.declared.answer.Answer.{Answer}
use Rattle.unit_id.specs.declared.answer.Answer.TheVariants as answers
use Rattle.code_mode.specs.declared.mode.Mode.{Mode}
use Rattle.code_mode.specs.declared.payload.Payload.{Payload}
use Rattle.code_mode.specs.declared.payload.Payload.TheVariants.{Plain}
use Rattle.code_mode.specs.Mode.{data_count, shard_size}
use Rattle.volume_entry.specs.declared.view.View.{View}
use Rattle.volume_world.specs.declared.event.Event.{Event}
use Rattle.volume_world.specs.declared.event.Event.TheVariants as events
use Rattle.volume_world.specs.declared.reply.Reply.{Reply}
use Rattle.volume_world.specs.declared.reply.Reply.TheVariants as replies
use Rattle.volume_world.specs.declared.fault.StepFault.{StepFault}
use Rattle.volume_world.specs.Trace.{reply_kept}
use Rattle.volume_world.specs.Course.{Part, trace_at, is_fault, fault_count}
use Rattle.volume_world.specs.Call.{Next, Call, IsRest}
use Rattle.volume_world.proofs.Stretches.{faults_more}
use Rattle.blob_access.specs.declared.putting.Acked.{Acked}
use Rattle.blob_access.specs.declared.fault.PutFault.{PutFault}
use Rattle.blob_access.specs.declared.fault.PutFault.TheVariants as put_faults
use Rattle.blob_access.specs.declared.fault.GetFault.{GetFault}
use Rattle.blob_access.specs.declared.fault.GetFault.TheVariants as get_faults
use Rattle.blob_access.specs.PutCall.{PutStage, put_call, put_after, sending, after_lease, after_begin, after_send, after_end, unless_failed, PutsBy}
use Rattle.blob_access.specs.GetCall.{Wanted, Try, GetStage, GetNext, get_call, get_after, first_read, look_again, hear_live, hear_read, after_first, after_again, after_read, reading, unbroken, with_shard, is_last, unless_failed as get_unless_failed, GetsBy}
use Rattle.object_access.specs.Pieces.{pieces_of, blob_sizes}
use Rattle.object_access.specs.ObjectPut.{ObjectPutsBy}
use Rattle.object_access.specs.ObjectGet.{ObjectGetsBy}
use Rattle.volume_calls.specs.declared.fault.LogFault.{LogFault}
use Rattle.volume_calls.specs.declared.fault.LogFault.TheVariants as log_faults
use Rattle.volume_calls.specs.declared.fault.RestartFault.{RestartFault}
use Rattle.volume_calls.specs.declared.fault.RestartFault.TheVariants as restart_faults
use Rattle.volume_calls.specs.declared.fault.AskFault.{AskFault}
use Rattle.volume_calls.specs.declared.fault.AskFault.TheVariants as ask_faults
use Rattle.volume_calls.specs.declared.flushing.Flushed.{Flushed}
use Rattle.volume_calls.specs.CallForm.{cut_by, EndsBy, one_event, telling}
use Rattle.volume_calls.specs.CutOff.{step_cut, log_cut, restart_cut, ask_cut}
use Rattle.volume_calls.specs.SingleCalls.{tick_tells, done_tells, restart_tells, manager_tells, look_tells, ask_tells}
use Rattle.volume_calls.specs.Flushes.{none_yet, after_flush, flush_call}
use Rattle.volume_turns.specs.declared.command.VolumeCommand.{VolumeCommand}
use Rattle.volume_turns.specs.declared.command.VolumeCommand.TheVariants as commands
use Rattle.volume_turns.specs.Answers.{Replied, put_reply, got_reply, fetched_reply, ask_reply, tick_reply, broken_reply, planned_reply, seen_reply, flush_reply, restart_reply, manager_reply}
use Rattle.volume_turns.specs.Turn.{TurnOf, PutTurn, TurnBy}
use Rattle.volume_turns.specs.Session.{joined, is_faulty, FaultsAreCounted}
use Rattle.volume_turns.proofs.CallCauses.{gives, going_cause, fault_there}

-- ---- an event that replied so

kept_fault : (event : Event) (reply : Reply) → reply ≡ replies.Fault → is_fault (trace_at (Part.Asking event reply)).reply ≡ true
kept_fault event reply e = ap (λ (r : Reply). is_fault (reply_kept r)) e

-- a call whose answers of a kind come of faults alone
fault_of : {S A : Type 0} (call : Call S A) (kind : A → Bool) (stage : S) (parts : List Part) (answer : A) → ((s : S) (reply : Reply) → gives kind (call.after s reply) ≡ true → reply ≡ replies.Fault)
    → IsRest call (Next.Go stage) parts answer → kind answer ≡ true → 1 ≤ fault_count parts
fault_of call kind stage parts answer only h p =
    let cause = going_cause call kind stage parts answer h p in
    let failed = only cause.stage cause.reply cause.makes in
    fault_there (Part.Asking (call.asks cause.stage) cause.reply) parts cause.there (kept_fault (call.asks cause.stage) cause.reply failed)

-- ---- small calls

turn_fault : {S T E : Type 0} (call : Call S (Result T E)) (first : S) (cut : E → Option StepFault) (reply : Result T E → Replied) (parts : List Part) (result : Replied)
    → ((answer : Result T E) → is_faulty (reply answer) ≡ true → cut_by cut answer ≡ None) → ((s : S) (r : Reply) → gives (λ (a : Result T E). is_faulty (reply a)) (call.after s r) ≡ true → r ≡ replies.Fault)
    → TurnOf call first cut reply parts result → is_faulty result ≡ true → 1 ≤ fault_count parts
turn_fault {S} {T} {E} call first cut reply parts result whole only h faulty =
    let is : is_faulty (reply h.answer) ≡ true = ap is_faulty (sym h.given) ∙ faulty in
    fault_of call (λ (a : Result T E). is_faulty (reply a)) first parts h.answer only (subst (λ (by : Option StepFault). EndsBy call first parts h.answer by) (whole h.answer is) h.ends) is

whole_ask : (answer : Result (Unit {0}) AskFault) → is_faulty (ask_reply answer) ≡ true → cut_by ask_cut answer ≡ None
whole_ask (Ok done) e = absurd (cc e)
whole_ask (Err ask_faults.NotBegun) e = absurd (cc e)
whole_ask (Err ask_faults.Fault) e = refl
whole_ask (Err (ask_faults.Spoiled place)) e = absurd (cc e)
whole_ask (Err ask_faults.HistoryFull) e = absurd (cc e)
whole_ask (Err ask_faults.Memory) e = absurd (cc e)

only_ask : (reply : Reply) → gives {S = Unit {0}} (λ a. is_faulty (ask_reply a)) (telling (ask_tells reply)) ≡ true → reply ≡ replies.Fault
only_ask replies.Fault e = refl
only_ask replies.Done e = absurd (cc e)
only_ask replies.Already e = absurd (cc e)
only_ask replies.NotBegun e = absurd (cc e)
only_ask (replies.Spoiled place) e = absurd (cc e)
only_ask reply e = absurd (cc e)

whole_tick : (answer : Result ℕ StepFault) → is_faulty (tick_reply answer) ≡ true → cut_by step_cut answer ≡ None
whole_tick (Ok time) e = absurd (cc e)
whole_tick (Err fault) e = absurd (cc e)

only_tick : (reply : Reply) → gives {S = Unit {0}} (λ a. is_faulty (tick_reply a)) (telling (tick_tells reply)) ≡ true → reply ≡ replies.Fault
only_tick (replies.Now time) e = absurd (cc e)
only_tick reply e = absurd (cc e)

whole_break : (answer : Result (Unit {0}) StepFault) → is_faulty (broken_reply answer) ≡ true → cut_by step_cut answer ≡ None
whole_break (Ok done) e = absurd (cc e)
whole_break (Err fault) e = absurd (cc e)

only_break : (reply : Reply) → gives {S = Unit {0}} (λ a. is_faulty (broken_reply a)) (telling (done_tells reply)) ≡ true → reply ≡ replies.Fault
only_break replies.Done e = absurd (cc e)
only_break reply e = absurd (cc e)

whole_plan : (answer : Result (Unit {0}) StepFault) → is_faulty (planned_reply answer) ≡ true → cut_by step_cut answer ≡ None
whole_plan (Ok done) e = absurd (cc e)
whole_plan (Err fault) e = absurd (cc e)

only_plan : (reply : Reply) → gives {S = Unit {0}} (λ a. is_faulty (planned_reply a)) (telling (done_tells reply)) ≡ true → reply ≡ replies.Fault
only_plan replies.Done e = absurd (cc e)
only_plan reply e = absurd (cc e)

whole_flush : (answer : Result Flushed LogFault) → is_faulty (flush_reply answer) ≡ true → cut_by log_cut answer ≡ None
whole_flush (Ok flushed) e = absurd (cc e)
whole_flush (Err log_faults.Fault) e = refl
whole_flush (Err (log_faults.Spoiled place)) e = absurd (cc e)
whole_flush (Err log_faults.HistoryFull) e = absurd (cc e)
whole_flush (Err log_faults.Memory) e = absurd (cc e)

only_flush : (so_far : Flushed) (reply : Reply) → gives (λ a. is_faulty (flush_reply a)) (after_flush so_far reply) ≡ true → reply ≡ replies.Fault
only_flush so_far (replies.Flushed request) e = absurd (cc e)
only_flush so_far replies.NothingLate e = absurd (cc e)
only_flush so_far replies.Fault e = refl
only_flush so_far (replies.Spoiled place) e = absurd (cc e)
only_flush so_far reply e = absurd (cc e)

whole_restart : (answer : Result (Unit {0}) RestartFault) → is_faulty (restart_reply answer) ≡ true → cut_by restart_cut answer ≡ None
whole_restart (Ok done) e = absurd (cc e)
whole_restart (Err restart_faults.Fault) e = refl
whole_restart (Err (restart_faults.Damaged kept computed)) e = absurd (cc e)
whole_restart (Err (restart_faults.Spoiled place)) e = absurd (cc e)
whole_restart (Err restart_faults.HistoryFull) e = absurd (cc e)
whole_restart (Err restart_faults.Memory) e = absurd (cc e)

only_restart : (reply : Reply) → gives {S = Unit {0}} (λ a. is_faulty (restart_reply a)) (telling (restart_tells reply)) ≡ true → reply ≡ replies.Fault
only_restart replies.Done e = absurd (cc e)
only_restart replies.Fault e = refl
only_restart (replies.Damaged kept computed) e = absurd (cc e)
only_restart (replies.Spoiled place) e = absurd (cc e)
only_restart reply e = absurd (cc e)

whole_manager : (answer : Result (Unit {0}) LogFault) → is_faulty (manager_reply answer) ≡ true → cut_by log_cut answer ≡ None
whole_manager (Ok done) e = absurd (cc e)
whole_manager (Err log_faults.Fault) e = refl
whole_manager (Err (log_faults.Spoiled place)) e = absurd (cc e)
whole_manager (Err log_faults.HistoryFull) e = absurd (cc e)
whole_manager (Err log_faults.Memory) e = absurd (cc e)

only_manager : (reply : Reply) → gives {S = Unit {0}} (λ a. is_faulty (manager_reply a)) (telling (manager_tells reply)) ≡ true → reply ≡ replies.Fault
only_manager replies.Done e = absurd (cc e)
only_manager replies.Fault e = refl
only_manager (replies.Spoiled place) e = absurd (cc e)
only_manager reply e = absurd (cc e)

whole_look : (answer : Result View LogFault) → is_faulty (seen_reply answer) ≡ true → cut_by log_cut answer ≡ None
whole_look (Ok view) e = absurd (cc e)
whole_look (Err log_faults.Fault) e = refl
whole_look (Err (log_faults.Spoiled place)) e = absurd (cc e)
whole_look (Err log_faults.HistoryFull) e = absurd (cc e)
whole_look (Err log_faults.Memory) e = absurd (cc e)

only_look : (reply : Reply) → gives {S = Unit {0}} (λ a. is_faulty (seen_reply a)) (telling (look_tells reply)) ≡ true → reply ≡ replies.Fault
only_look (replies.Seen view) e = absurd (cc e)
only_look replies.Fault e = refl
only_look (replies.Spoiled place) e = absurd (cc e)
only_look reply e = absurd (cc e)

-- ---- puts

abbrev is_put_fault : Result Acked PutFault → Bool
is_put_fault (Err put_faults.Fault) = true
is_put_fault answer = false

only_failed : (reply : Reply) → gives is_put_fault (unless_failed Next.Never reply) ≡ true → reply ≡ replies.Fault
only_failed replies.Fault e = refl
only_failed (replies.Spoiled place) e = absurd (cc e)
only_failed reply e = absurd (cc e)

only_lease : (reply : Reply) → gives is_put_fault (after_lease reply) ≡ true → reply ≡ replies.Fault
only_lease (replies.LeaseTo end) e = absurd (cc e)
only_lease (replies.Locked task) e = absurd (cc e)
only_lease reply e = only_failed reply e

only_begin : (reply : Reply) → gives is_put_fault (after_begin reply) ≡ true → reply ≡ replies.Fault
only_begin (replies.Begun end units) e = absurd (cc e)
only_begin (replies.Locked task) e = absurd (cc e)
only_begin replies.BeginTwice e = absurd (cc e)
only_begin reply e = only_failed reply e

only_send : (next : PutStage) (reply : Reply) → gives is_put_fault (after_send next reply) ≡ true → reply ≡ replies.Fault
only_send next (replies.Heard answer) e = absurd (cc e)
only_send next replies.Unheard e = absurd (cc e)
only_send next replies.Barred e = absurd (cc e)
only_send next reply e = only_failed reply e

only_end : (end : ℕ) (reply : Reply) → gives is_put_fault (after_end end reply) ≡ true → reply ≡ replies.Fault
only_end end (replies.Acked accepted) e = absurd (cc e)
only_end end replies.NotOpen e = absurd (cc e)
only_end end (replies.LeaseOver over time) e = absurd (cc e)
only_end end (replies.Quorum accepted) e = absurd (cc e)
only_end end reply e = only_failed reply e

only_put : (stage : PutStage) (reply : Reply) → gives is_put_fault (put_after stage reply) ≡ true → reply ≡ replies.Fault
only_put PutStage.Leasing reply e = only_lease reply e
only_put PutStage.Beginning reply e = only_begin reply e
only_put (PutStage.Sending end home homes) reply e = only_send (sending end homes) reply e
only_put (PutStage.Ending end) reply e = only_end end reply e

puts_fault : (mode : Mode) (bid : ℕ) (payload : Payload) (parts : List Part) → PutsBy mode bid payload parts (Err put_faults.Fault) → 1 ≤ fault_count parts
puts_fault mode bid payload parts h = fault_of (put_call mode bid payload) is_put_fault PutStage.Leasing parts (Err put_faults.Fault) only_put h refl

object_put_fault : (mode : Mode) (number : ℕ) (pieces : List (List ℕ)) (parts : List Part) → ObjectPutsBy mode number pieces parts (Err put_faults.Fault) → 1 ≤ fault_count parts
object_put_fault mode number [] parts h = absurd (let e : Err put_faults.Fault ≡ Ok tt = h.1 in cc)
object_put_fault mode number (piece ∷ pieces) parts (inl h) =
    let rest = object_put_fault mode (number + 1) pieces h.0 h.2 in
    let sum = ap fault_count h.1.split ∙ faults_more h.1.own h.0 in
    omega arith
object_put_fault mode number (piece ∷ pieces) parts (inr h) =
    let given : Err put_faults.Fault ≡ Err h.fault = h.given in
    let same : h.fault ≡ put_faults.Fault = cc given in
    puts_fault mode number (Plain piece) parts (subst (λ (f : PutFault). PutsBy mode number (Plain piece) parts (Err f)) same h.puts)

put_is_fault : (answer : Result (Unit {0}) PutFault) → is_faulty (put_reply answer) ≡ true → answer ≡ Err put_faults.Fault
put_is_fault (Ok done) e = absurd (cc e)
put_is_fault (Err (put_faults.Locked task)) e = absurd (cc e)
put_is_fault (Err put_faults.Begun) e = absurd (cc e)
put_is_fault (Err (put_faults.LeaseEnded end time)) e = absurd (cc e)
put_is_fault (Err put_faults.NotOpen) e = absurd (cc e)
put_is_fault (Err (put_faults.Quorum accepted)) e = absurd (cc e)
put_is_fault (Err put_faults.Fault) e = refl
put_is_fault (Err (put_faults.Spoiled place)) e = absurd (cc e)
put_is_fault (Err put_faults.HistoryFull) e = absurd (cc e)
put_is_fault (Err put_faults.Memory) e = absurd (cc e)

put_turn_fault : (mode : Mode) (first : ℕ) (object : List ℕ) (parts : List Part) (result : Replied) → PutTurn mode first object parts result → is_faulty result ≡ true → 1 ≤ fault_count parts
put_turn_fault mode first object parts result h faulty =
    object_put_fault mode first (pieces_of object) parts
    (subst (λ (a : Result (Unit {0}) PutFault). ObjectPutsBy mode first (pieces_of object) parts a) (put_is_fault h.answer (ap is_faulty (sym h.given) ∙ faulty)) h.puts)

-- ---- gets

abbrev is_get_fault : Result (List ℕ) GetFault → Bool
is_get_fault (Err get_faults.Fault) = true
is_get_fault answer = false

reading_goes : (t : Try) (homes : List Home) → gives is_get_fault (reading t homes) ≡ false
reading_goes t [] = refl
reading_goes t (home ∷ homes) = refl

not_both : (b : Bool) → b ≡ false → b ≡ true → ⊥
not_both b f t = let e : false ≡ true = sym f ∙ t in cc

only_get_failed : (reply : Reply) → gives is_get_fault (get_unless_failed reply) ≡ true → reply ≡ replies.Fault
only_get_failed replies.Fault e = refl
only_get_failed (replies.Spoiled place) e = absurd (cc e)
only_get_failed reply e = absurd (cc e)

only_first : (wanted : Wanted) (reply : Reply) → gives is_get_fault (after_first wanted reply) ≡ true → reply ≡ replies.Fault
only_first wanted (replies.Seen view) e = absurd (not_both (gives is_get_fault (first_read wanted.mode [] view)) (reading_goes _ (unbroken view.units)) e)
only_first wanted reply e = only_get_failed reply e

-- a choice between two points that aren't such answers
chosen : (b : Bool) (x y : GetNext) → gives is_get_fault x ≡ false → gives is_get_fault y ≡ false → gives is_get_fault (cond b x y) ≡ false
chosen true x y h k = h
chosen false x y h k = k

again_goes : (mode : Mode) (t : Try) (view : View) → gives is_get_fault (look_again mode t view) ≡ false
again_goes mode t view =
    chosen (is_last t.versions view.version) _ _ refl (chosen (length t.versions == 4) _ _ refl (reading_goes _ (unbroken view.units)))

only_again : (wanted : Wanted) (t : Try) (reply : Reply) → gives is_get_fault (after_again wanted t reply) ≡ true → reply ≡ replies.Fault
only_again wanted t (replies.Seen view) e = absurd (not_both (gives is_get_fault (look_again wanted.mode t view)) (again_goes wanted.mode t view) e)
only_again wanted t reply e = only_get_failed reply e

live_goes : (wanted : Wanted) (t : Try) (home : Home) (left : List Home) (blob_size : ℕ) (bytes : List ℕ) → gives is_get_fault (hear_live wanted t home left blob_size bytes) ≡ false
live_goes wanted t home left blob_size bytes =
    chosen (blob_size == wanted.size) _ _
    (chosen (length bytes == shard_size wanted.mode wanted.size) _ _
    (chosen (t.live + 1 == data_count wanted.mode) _ _ refl (reading_goes (with_shard t home.unit.index bytes) left))
    (reading_goes t left))
    refl

hear_goes : (wanted : Wanted) (t : Try) (home : Home) (left : List Home) (answer : Answer) → gives is_get_fault (hear_read wanted t home left answer) ≡ false
hear_goes wanted t home left (answers.Live blob_size bytes) = live_goes wanted t home left blob_size bytes
hear_goes wanted t home left answer = reading_goes t left

read_goes : (wanted : Wanted) (t : Try) (home : Home) (left : List Home) (reply : Reply) → gives is_get_fault (after_read wanted t home left reply) ≡ false
read_goes wanted t home left (replies.Heard answer) = hear_goes wanted t home left answer
read_goes wanted t home left replies.Unheard = reading_goes _ left
read_goes wanted t home left replies.Barred = reading_goes _ left
read_goes wanted t home left replies.Fault = reading_goes _ left
read_goes wanted t home left (replies.Spoiled place) = reading_goes _ left
read_goes wanted t home left reply = refl

only_get : (wanted : Wanted) (stage : GetStage) (reply : Reply) → gives is_get_fault (get_after wanted stage reply) ≡ true → reply ≡ replies.Fault
only_get wanted GetStage.First reply e = only_first wanted reply e
only_get wanted (GetStage.Again t) reply e = only_again wanted t reply e
only_get wanted (GetStage.Read t home left) reply e = absurd (not_both (gives is_get_fault (after_read wanted t home left reply)) (read_goes wanted t home left reply) e)

gets_fault : (wanted : Wanted) (parts : List Part) → GetsBy wanted parts (Err get_faults.Fault) → 1 ≤ fault_count parts
gets_fault wanted parts h = fault_of (get_call wanted) is_get_fault GetStage.First parts (Err get_faults.Fault) (only_get wanted) h refl

object_get_fault : (mode : Mode) (number : ℕ) (sizes before : List ℕ) (parts : List Part) → ObjectGetsBy mode number sizes before parts (Err get_faults.Fault) → 1 ≤ fault_count parts
object_get_fault mode number [] before parts h = absurd (let e : Err get_faults.Fault ≡ Ok before = h.1 in cc)
object_get_fault mode number (size ∷ sizes) before parts (inl h) =
    let rest = object_get_fault mode (number + 1) sizes (before ++ h.0) h.1 h.3 in
    let sum = ap fault_count h.2.split ∙ faults_more h.2.own h.1 in
    omega arith
object_get_fault mode number (size ∷ sizes) before parts (inr h) =
    let given : Err get_faults.Fault ≡ Err h.fault = h.given in
    let same : h.fault ≡ get_faults.Fault = cc given in
    gets_fault (record { mode = mode; bid = number; size = size }) parts (subst (λ (f : GetFault). GetsBy (record { mode = mode; bid = number; size = size }) parts (Err f)) same h.gets)

got_is_fault : (answer : Result (List ℕ) GetFault) → is_faulty (got_reply answer) ≡ true → answer ≡ Err get_faults.Fault
got_is_fault (Ok bytes) e = absurd (cc e)
got_is_fault (Err (get_faults.Short live unheard broken)) e = absurd (cc e)
got_is_fault (Err (get_faults.Size kept)) e = absurd (cc e)
got_is_fault (Err (get_faults.Moving versions)) e = absurd (cc e)
got_is_fault (Err get_faults.Fault) e = refl
got_is_fault (Err (get_faults.Spoiled place)) e = absurd (cc e)
got_is_fault (Err get_faults.HistoryFull) e = absurd (cc e)
got_is_fault (Err get_faults.Memory) e = absurd (cc e)

fetched_is_fault : (answer : Result (List ℕ) GetFault) → is_faulty (fetched_reply answer) ≡ true → answer ≡ Err get_faults.Fault
fetched_is_fault (Ok bytes) e = absurd (cc e)
fetched_is_fault (Err fault) e = got_is_fault (Err fault) e

-- ---- turns

fault_in : (mode : Mode) (command : VolumeCommand) (parts : List Part) (result : Replied) → TurnBy mode command parts result → is_faulty result ≡ true → 1 ≤ fault_count parts
fault_in mode commands.Look parts result h faulty = turn_fault (one_event events.Look look_tells) tt log_cut seen_reply parts result whole_look (λ s r e. only_look r e) h faulty
fault_in mode (commands.Put first object) parts result h faulty = put_turn_fault mode first object parts result h faulty
fault_in mode (commands.Get first size) parts result h faulty =
    object_get_fault mode first (blob_sizes size) [] parts
    (subst (λ (a : Result (List ℕ) GetFault). ObjectGetsBy mode first (blob_sizes size) [] parts a) (got_is_fault h.answer (ap is_faulty (sym h.given) ∙ faulty)) h.gets)
fault_in mode (commands.Fetch bid size) parts result h faulty =
    gets_fault (record { mode = mode; bid = bid; size = size }) parts
    (subst (λ (a : Result (List ℕ) GetFault). GetsBy (record { mode = mode; bid = bid; size = size }) parts a) (fetched_is_fault h.answer (ap is_faulty (sym h.given) ∙ faulty)) h.gets)
fault_in mode (commands.Ask bid) parts result h faulty = turn_fault (one_event (events.Ask bid) ask_tells) tt ask_cut ask_reply parts result whole_ask (λ s r e. only_ask r e) h faulty
fault_in mode (commands.Tick by) parts result h faulty = turn_fault (one_event (events.Tick by) tick_tells) tt step_cut tick_reply parts result whole_tick (λ s r e. only_tick r e) h faulty
fault_in mode (commands.Break disk) parts result h faulty = turn_fault (one_event (events.Break disk) done_tells) tt step_cut broken_reply parts result whole_break (λ s r e. only_break r e) h faulty
fault_in mode (commands.Plan disk fate count) parts result h faulty = turn_fault (one_event (events.Plan disk fate count) done_tells) tt step_cut planned_reply parts result whole_plan (λ s r e. only_plan r e) h faulty
fault_in mode commands.Flush parts result h faulty = turn_fault flush_call none_yet log_cut flush_reply parts result whole_flush only_flush h faulty
fault_in mode (commands.Restart disk) parts result h faulty = turn_fault (one_event (events.Restart disk) restart_tells) tt restart_cut restart_reply parts result whole_restart (λ s r e. only_restart r e) h faulty
fault_in mode commands.RestartManager parts result h faulty = turn_fault (one_event events.RestartManager manager_tells) tt log_cut manager_reply parts result whole_manager (λ s r e. only_manager r e) h faulty

one_fault : (b : Bool) (parts : List Part) → (b ≡ true → 1 ≤ fault_count parts) → cond b 1 0 ≤ fault_count parts
one_fault true parts h = h refl
one_fault false parts h = omega arith

pub faults_are_counted : FaultsAreCounted
faults_are_counted origin [] h = omega arith
faults_are_counted origin (turn ∷ turns) h =
    let rest = faults_are_counted origin turns h.1 in
    let one = one_fault (is_faulty turn.result) turn.parts (fault_in origin.mode turn.command turn.parts turn.result h.0.plays) in
    let sum = faults_more turn.parts (joined turns) in
    omega arith
