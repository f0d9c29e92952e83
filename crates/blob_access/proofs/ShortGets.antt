-- How many events a get asks for: at each stage there is room for so many more.
use Rattle.std.proofs.Common.{◌≡◌, ℕ, zero, suc, ◌+◌, ◌*◌, ◌≤◌, Bool, true, false, not, cond, List, [], ◌∷◌, length, None, Result, Ok, Err, refl, subst, arith}
use Rattle.std.specs.Prelude.{◌==◌, reverse, replicate}
use Rattle.unit_id.specs.declared.homes.Home.{Home}
use Rattle.unit_id.specs.declared.answer.Answer.TheVariants as answers
use Rattle.code_mode.specs.declared.mode.Mode.{Mode}
use Rattle.code_mode.specs.Mode.{data_count, total_count, shard_size}
use Rattle.volume_entry.specs.declared.view.View.{View}
use Rattle.volume_world.specs.declared.event.Event.{Event}
use Rattle.volume_world.specs.declared.reply.Reply.{Reply}
use Rattle.volume_world.specs.declared.reply.Reply.TheVariants as replies
use Rattle.volume_world.specs.Way.{Origin}
use Rattle.volume_world.specs.Replying.{MayReply, AreHomes}
use Rattle.volume_world.specs.Course.{Part}
use Rattle.volume_world.specs.Call.{Next, IsFront}
use Rattle.volume_world.specs.Progress.{AllFit}
use Rattle.blob_access.specs.declared.fault.GetFault.{GetFault}
use Rattle.blob_access.specs.declared.fault.GetFault.TheVariants as faults
use Rattle.blob_access.specs.GetCall.{Wanted, Try, GetStage, GetNext, get_asks, get_call, get_after, unbroken, broken_count, reading, first_read, is_last, look_again, decoded, with_shard, hear_live}
use Rattle.blob_access.specs.Lengths.{asked_count, GetsAreShort}
use Rattle.blob_access.proofs.ShortPuts.{rest_front}

-- what is left where so many versions were seen and the units are used up
abbrev looks : ℕ → ℕ → ℕ
looks total zero = 5 + 4 * total
looks total (suc zero) = 4 + 3 * total
looks total (suc (suc zero)) = 3 + 2 * total
looks total (suc (suc (suc zero))) = 2 + total
looks total (suc (suc (suc (suc n)))) = 1

looks_less : (total n : ℕ) → (n == 4) ≡ false → n ≤ 4 → total + looks total (suc n) + 1 ≤ looks total n
looks_less total zero e h = omega arith
looks_less total (suc zero) e h = omega arith
looks_less total (suc (suc zero)) e h = omega arith
looks_less total (suc (suc (suc zero))) e h = omega arith
looks_less total (suc (suc (suc (suc zero)))) e h = cc
looks_less total (suc (suc (suc (suc (suc n))))) e h = absurd (omega arith)

more_versions : (n : ℕ) → (n == 4) ≡ false → n ≤ 4 → suc n ≤ 4
more_versions zero e h = omega arith
more_versions (suc zero) e h = omega arith
more_versions (suc (suc zero)) e h = omega arith
more_versions (suc (suc (suc zero))) e h = omega arith
more_versions (suc (suc (suc (suc zero)))) e h = cc
more_versions (suc (suc (suc (suc (suc n))))) e h = absurd (omega arith)

abbrev space : ℕ → GetNext → ℕ
space total (Next.Go GetStage.First) = 5 + 4 * total
space total (Next.Go (GetStage.Again t)) = looks total (length t.versions)
space total (Next.Go (GetStage.Read t home left)) = length left + 1 + looks total (length t.versions)
space total (Next.Over given) = 0
space total Next.Never = 0

-- no try is beyond the fourth
abbrev InFour : GetNext → Type 0
InFour (Next.Go GetStage.First) = Unit {0}
InFour (Next.Go (GetStage.Again t)) = length t.versions ≤ 4
InFour (Next.Go (GetStage.Read t home left)) = length t.versions ≤ 4
InFour (Next.Over given) = Unit {0}
InFour Next.Never = Unit {0}

-- what is next leaves less space than this, and is in four tries
record Fits (total limit : ℕ) (next : GetNext) : Type 0 where
  less : space total next + 1 ≤ limit
  four : InFour next

reading_fits : (total limit : ℕ) (t : Try) (left : List Home) → length left + looks total (length t.versions) + 1 ≤ limit → length t.versions ≤ 4 → Fits total limit (reading t left)
reading_fits total limit t [] h four = record { less = omega arith; four = four }
reading_fits total limit t (home ∷ left) h four = record { less = omega arith; four = four }

fewer : (homes : List Home) → length (unbroken homes) ≤ length homes
fewer [] = omega arith
fewer (home ∷ homes) = go home.broken (fewer homes) where
  go : (test : Bool) → length (unbroken homes) ≤ length homes → length (cond (not test) (home ∷ unbroken homes) (unbroken homes)) ≤ length (home ∷ homes)
  go true h = omega arith
  go false h = omega arith

over_fits : (total limit : ℕ) (given : Result (List ℕ) GetFault) → 1 ≤ limit → Fits total limit (Next.Over given)
over_fits total limit given h = record { less = omega arith; four = tt }

never_fits : (total limit : ℕ) → 1 ≤ limit → Fits total limit Next.Never
never_fits total limit h = record { less = omega arith; four = tt }

some_looks : (total n : ℕ) → 1 ≤ looks total n
some_looks total zero = omega arith
some_looks total (suc zero) = omega arith
some_looks total (suc (suc zero)) = omega arith
some_looks total (suc (suc (suc zero))) = omega arith
some_looks total (suc (suc (suc (suc n)))) = omega arith

first_fits : (origin : Origin) (mode : Mode) (versions : List ℕ) (view : View) → AreHomes origin view.units → (length versions == 4) ≡ false → length versions ≤ 4
    → Fits (total_count origin.mode) (looks (total_count origin.mode) (length versions)) (first_read mode versions view)
first_fits origin mode versions view homes e h =
    let total = total_count origin.mode in
    let count : length view.units ≡ total = homes.count in
    let few = fewer view.units in
    let less = looks_less total (length versions) e h in
    let t : Try = record { versions = view.version ∷ versions; broken = broken_count view.units; shards = replicate (total_count mode) None; live = 0; unheard = 0 } in
    reading_fits total (looks total (length versions)) t (unbroken view.units) (omega arith) (more_versions (length versions) e h)

again_fits : (origin : Origin) (wanted : Wanted) (t : Try) (view : View) → AreHomes origin view.units → length t.versions ≤ 4
    → Fits (total_count origin.mode) (looks (total_count origin.mode) (length t.versions)) (look_again wanted.mode t view)
again_fits origin wanted t view homes four = go (is_last t.versions view.version) (length t.versions == 4) refl where
  go : (a b : Bool) → (length t.versions == 4) ≡ b
      → Fits (total_count origin.mode) (looks (total_count origin.mode) (length t.versions))
      (cond a (Next.Over (Err (faults.Short t.live t.unheard t.broken))) (cond b (Next.Over (Err (faults.Moving (reverse (view.version ∷ t.versions))))) (first_read wanted.mode t.versions view)))
  go true b e = over_fits _ _ _ (some_looks (total_count origin.mode) (length t.versions))
  go false true e = over_fits _ _ _ (some_looks (total_count origin.mode) (length t.versions))
  go false false e = first_fits origin wanted.mode t.versions view homes e four

live_fits : (total : ℕ) (wanted : Wanted) (t : Try) (home : Home) (left : List Home) (blob_size : ℕ) (bytes : List ℕ) → length t.versions ≤ 4
    → Fits total (length left + 1 + looks total (length t.versions)) (hear_live wanted t home left blob_size bytes)
live_fits total wanted t home left blob_size bytes four = go (blob_size == wanted.size) (length bytes == shard_size wanted.mode wanted.size) (t.live + 1 == data_count wanted.mode) where
  go : (a b c : Bool) → Fits total (length left + 1 + looks total (length t.versions))
      (cond a (cond b (cond c (Next.Over (Ok (decoded wanted (with_shard t home.unit.index bytes).shards))) (reading (with_shard t home.unit.index bytes) left)) (reading t left)) (Next.Over (Err (faults.Size blob_size))))
  go true true true = over_fits _ _ _ (omega arith)
  go true true false = reading_fits total (length left + 1 + looks total (length t.versions)) (with_shard t home.unit.index bytes) left (omega arith) four
  go true false c = reading_fits total (length left + 1 + looks total (length t.versions)) t left (omega arith) four
  go false b c = over_fits _ _ _ (omega arith)

read_fits : (total : ℕ) (wanted : Wanted) (t : Try) (home : Home) (left : List Home) (reply : Reply) → length t.versions ≤ 4
    → Fits total (length left + 1 + looks total (length t.versions)) (get_after wanted (GetStage.Read t home left) reply)
read_fits total wanted t home left (replies.Heard (answers.Live blob_size bytes)) four = live_fits total wanted t home left blob_size bytes four
read_fits total wanted t home left (replies.Heard answer) four = reading_fits total (length left + 1 + looks total (length t.versions)) t left (omega arith) four
read_fits total wanted t home left replies.Unheard four = reading_fits total (length left + 1 + looks total (length t.versions)) (record t { unheard = t.unheard + 1 }) left (omega arith) four
read_fits total wanted t home left replies.Barred four = reading_fits total (length left + 1 + looks total (length t.versions)) (record t { unheard = t.unheard + 1 }) left (omega arith) four
read_fits total wanted t home left replies.Fault four = reading_fits total (length left + 1 + looks total (length t.versions)) (record t { unheard = t.unheard + 1 }) left (omega arith) four
read_fits total wanted t home left (replies.Spoiled place) four = reading_fits total (length left + 1 + looks total (length t.versions)) (record t { unheard = t.unheard + 1 }) left (omega arith) four
read_fits total wanted t home left reply four = never_fits _ _ (omega arith)

stage_fits : (origin : Origin) (wanted : Wanted) (stage : GetStage) (reply : Reply) → MayReply origin (get_asks wanted stage) reply → InFour (Next.Go stage)
    → Fits (total_count origin.mode) (space (total_count origin.mode) (Next.Go stage)) (get_after wanted stage reply)
stage_fits origin wanted GetStage.First (replies.Seen view) fits four = first_fits origin wanted.mode [] view fits refl (omega arith)
stage_fits origin wanted GetStage.First replies.Fault fits four = over_fits _ _ _ (omega arith)
stage_fits origin wanted GetStage.First (replies.Spoiled place) fits four = over_fits _ _ _ (omega arith)
stage_fits origin wanted GetStage.First reply fits four = never_fits _ _ (omega arith)
stage_fits origin wanted (GetStage.Again t) (replies.Seen view) fits four = again_fits origin wanted t view fits four
stage_fits origin wanted (GetStage.Again t) replies.Fault fits four = over_fits _ _ _ (some_looks (total_count origin.mode) (length t.versions))
stage_fits origin wanted (GetStage.Again t) (replies.Spoiled place) fits four = over_fits _ _ _ (some_looks (total_count origin.mode) (length t.versions))
stage_fits origin wanted (GetStage.Again t) reply fits four = never_fits _ _ (some_looks (total_count origin.mode) (length t.versions))
stage_fits origin wanted (GetStage.Read t home left) reply fits four = read_fits (total_count origin.mode) wanted t home left reply four

front_short : (origin : Origin) (wanted : Wanted) (from : GetNext) (parts : List Part) → AllFit origin parts → InFour from → IsFront (get_call wanted) from parts → asked_count parts ≤ space (total_count origin.mode) from
front_short origin wanted from [] fits four h = omega arith
front_short origin wanted (Next.Go stage) (Part.Beside trace ∷ parts) fits four h = front_short origin wanted (Next.Go stage) parts fits four h
front_short origin wanted (Next.Over given) (Part.Beside trace ∷ parts) fits four h = front_short origin wanted (Next.Over given) parts fits four h
front_short origin wanted Next.Never (Part.Beside trace ∷ parts) fits four h = front_short origin wanted Next.Never parts fits four h
front_short origin wanted (Next.Go stage) (Part.Settling trace ∷ parts) fits four h = front_short origin wanted (Next.Go stage) parts fits four h
front_short origin wanted (Next.Over given) (Part.Settling trace ∷ parts) fits four h = front_short origin wanted (Next.Over given) parts fits four h
front_short origin wanted Next.Never (Part.Settling trace ∷ parts) fits four h = front_short origin wanted Next.Never parts fits four h
front_short origin wanted (Next.Go stage) (Part.Asking event reply ∷ parts) fits four h =
    let next = stage_fits origin wanted stage reply (subst (λ (e : Event). MayReply origin e reply) h.0 fits.0) four in
    let less = next.less in
    let rest = front_short origin wanted (get_after wanted stage reply) parts fits.1 next.four h.1 in
    omega arith
front_short origin wanted (Next.Over given) (Part.Asking event reply ∷ parts) fits four h = absurd h
front_short origin wanted Next.Never (Part.Asking event reply ∷ parts) fits four h = absurd h

pub gets_are_short : GetsAreShort
gets_are_short origin wanted parts (Err faults.HistoryFull) fits h = front_short origin wanted (Next.Go GetStage.First) parts fits tt h
gets_are_short origin wanted parts (Err faults.Memory) fits h = front_short origin wanted (Next.Go GetStage.First) parts fits tt h
gets_are_short origin wanted parts (Err other) fits h = front_short origin wanted (Next.Go GetStage.First) parts fits tt (rest_front (get_call wanted) (Next.Go GetStage.First) parts (Err other) h)
gets_are_short origin wanted parts (Ok bytes) fits h = front_short origin wanted (Next.Go GetStage.First) parts fits tt (rest_front (get_call wanted) (Next.Go GetStage.First) parts (Ok bytes) h)
