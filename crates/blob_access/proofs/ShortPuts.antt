-- How many events a put asks for: at each stage there is room for so many more.
use Rattle.std.proofs.Common.{◌≡◌, ℕ, ◌+◌, ◌≤◌, List, [], ◌∷◌, length, Ok, Err, subst, arith}
use Rattle.unit_id.specs.declared.homes.Home.{Home}
use Rattle.code_mode.specs.declared.payload.Payload.{Payload}
use Rattle.code_mode.specs.Mode.{total_count}
use Rattle.volume_world.specs.declared.event.Event.{Event}
use Rattle.volume_world.specs.declared.reply.Reply.{Reply}
use Rattle.volume_world.specs.declared.reply.Reply.TheVariants as replies
use Rattle.volume_world.specs.Way.{Origin}
use Rattle.volume_world.specs.Replying.{MayReply}
use Rattle.volume_world.specs.Course.{Part}
use Rattle.volume_world.specs.Call.{Next, Call, IsRest, IsFront}
use Rattle.volume_world.specs.Progress.{AllFit}
use Rattle.blob_access.specs.declared.fault.PutFault.TheVariants as faults
use Rattle.blob_access.specs.PutCall.{PutStage, PutNext, put_asks, put_call, put_after, sending}
use Rattle.blob_access.specs.Lengths.{asked_count, PutsAreShort}

abbrev room : ℕ → PutNext → ℕ
room total (Next.Go PutStage.Leasing) = total + 3
room total (Next.Go PutStage.Beginning) = total + 2
room total (Next.Go (PutStage.Sending end home homes)) = length homes + 2
room total (Next.Go (PutStage.Ending end)) = 1
room total (Next.Over given) = 0
room total Next.Never = 0

sending_room : (total end : ℕ) (homes : List Home) → room total (Next.Go (sending end homes)) ≤ length homes + 1
sending_room total end [] = omega arith
sending_room total end (home ∷ homes) = omega arith

room_less : (origin : Origin) (bid : ℕ) (payload : Payload) (stage : PutStage) (reply : Reply) → MayReply origin (put_asks origin.mode bid payload stage) reply
    → room (total_count origin.mode) (put_after stage reply) + 1 ≤ room (total_count origin.mode) (Next.Go stage)
room_less origin bid payload PutStage.Leasing (replies.LeaseTo end) fits = omega arith
room_less origin bid payload PutStage.Leasing reply fits = omega arith
room_less origin bid payload PutStage.Beginning (replies.Begun end units) fits =
    let few = sending_room (total_count origin.mode) end units in
    let count : length units ≡ total_count origin.mode = fits.count in
    omega arith
room_less origin bid payload PutStage.Beginning reply fits = omega arith
room_less origin bid payload (PutStage.Sending end home homes) (replies.Heard answer) fits = let few = sending_room (total_count origin.mode) end homes in omega arith
room_less origin bid payload (PutStage.Sending end home homes) replies.Unheard fits = let few = sending_room (total_count origin.mode) end homes in omega arith
room_less origin bid payload (PutStage.Sending end home homes) replies.Barred fits = let few = sending_room (total_count origin.mode) end homes in omega arith
room_less origin bid payload (PutStage.Sending end home homes) reply fits = omega arith
room_less origin bid payload (PutStage.Ending end) (replies.Acked accepted) fits = omega arith
room_less origin bid payload (PutStage.Ending end) reply fits = omega arith

front_short : (origin : Origin) (bid : ℕ) (payload : Payload) (from : PutNext) (parts : List Part) → AllFit origin parts → IsFront (put_call origin.mode bid payload) from parts
    → asked_count parts ≤ room (total_count origin.mode) from
front_short origin bid payload from [] fits h = omega arith
front_short origin bid payload (Next.Go stage) (Part.Beside trace ∷ parts) fits h = front_short origin bid payload (Next.Go stage) parts fits h
front_short origin bid payload (Next.Over given) (Part.Beside trace ∷ parts) fits h = front_short origin bid payload (Next.Over given) parts fits h
front_short origin bid payload Next.Never (Part.Beside trace ∷ parts) fits h = front_short origin bid payload Next.Never parts fits h
front_short origin bid payload (Next.Go stage) (Part.Settling trace ∷ parts) fits h = front_short origin bid payload (Next.Go stage) parts fits h
front_short origin bid payload (Next.Over given) (Part.Settling trace ∷ parts) fits h = front_short origin bid payload (Next.Over given) parts fits h
front_short origin bid payload Next.Never (Part.Settling trace ∷ parts) fits h = front_short origin bid payload Next.Never parts fits h
front_short origin bid payload (Next.Go stage) (Part.Asking event reply ∷ parts) fits h =
    let rest = front_short origin bid payload (put_after stage reply) parts fits.1 h.1 in
    let less = room_less origin bid payload stage reply (subst (λ (e : Event). MayReply origin e reply) h.0 fits.0) in
    omega arith
front_short origin bid payload (Next.Over given) (Part.Asking event reply ∷ parts) fits h = absurd h
front_short origin bid payload Next.Never (Part.Asking event reply ∷ parts) fits h = absurd h

-- a whole call is a front
pub rest_front : {S A : Type 0} (call : Call S A) (from : Next S A) (parts : List Part) (answer : A) → IsRest call from parts answer → IsFront call from parts
rest_front call from [] answer h = tt
rest_front call (Next.Go stage) (Part.Beside trace ∷ parts) answer h = rest_front call (Next.Go stage) parts answer h
rest_front call (Next.Over given) (Part.Beside trace ∷ parts) answer h = rest_front call (Next.Over given) parts answer h
rest_front call Next.Never (Part.Beside trace ∷ parts) answer h = rest_front call Next.Never parts answer h
rest_front call (Next.Go stage) (Part.Settling trace ∷ parts) answer h = rest_front call (Next.Go stage) parts answer h
rest_front call (Next.Over given) (Part.Settling trace ∷ parts) answer h = rest_front call (Next.Over given) parts answer h
rest_front call Next.Never (Part.Settling trace ∷ parts) answer h = rest_front call Next.Never parts answer h
rest_front call (Next.Go stage) (Part.Asking event reply ∷ parts) answer h = (h.0, rest_front call (call.after stage reply) parts answer h.1)
rest_front call (Next.Over given) (Part.Asking event reply ∷ parts) answer h = absurd h
rest_front call Next.Never (Part.Asking event reply ∷ parts) answer h = absurd h

pub puts_are_short : PutsAreShort
puts_are_short origin bid payload parts (Err faults.HistoryFull) fits h = front_short origin bid payload (Next.Go PutStage.Leasing) parts fits h
puts_are_short origin bid payload parts (Err faults.Memory) fits h = front_short origin bid payload (Next.Go PutStage.Leasing) parts fits h
puts_are_short origin bid payload parts (Err other) fits h = front_short origin bid payload (Next.Go PutStage.Leasing) parts fits (rest_front (put_call origin.mode bid payload) (Next.Go PutStage.Leasing) parts (Err other) h)
puts_are_short origin bid payload parts (Ok acked) fits h = front_short origin bid payload (Next.Go PutStage.Leasing) parts fits (rest_front (put_call origin.mode bid payload) (Next.Go PutStage.Leasing) parts (Ok acked) h)
