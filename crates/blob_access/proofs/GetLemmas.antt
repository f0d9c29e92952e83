-- Lemmas on the parts of a get.
use Rattle.std.proofs.Common.{◌≡◌, ℕ, zero, suc, ◌+◌, ◌<◌, Bool, true, false, not, cond, List, [], ◌∷◌, length, drop, get_or, reverse, ◌==◌, Result, Ok, Err, refl, sym, ◌∙◌, ap, subst, arith}
use Rattle.unit_id.specs.declared.homes.Home.{Home}
use Rattle.unit_id.specs.declared.answer.Answer.{Answer}
use Rattle.unit_id.specs.declared.answer.Answer.TheVariants as answers
use Rattle.code_mode.specs.declared.mode.Mode.{Mode}
use Rattle.code_mode.specs.Mode.{data_count, total_count, shard_size}
use Rattle.volume_world.specs.declared.event.Event.{Event}
use Rattle.volume_world.specs.declared.reply.Reply.{Reply}
use Rattle.volume_world.specs.declared.reply.Reply.TheVariants as replies
use Rattle.volume_world.specs.declared.fault.StepFault.{StepFault}
use Rattle.volume_world.specs.declared.fault.StepFault.TheVariants as step_faults
use Rattle.volume_world.specs.Way.{Origin, WayView}
use Rattle.volume_world.specs.Replying.{AreHomesFrom, AreHomes}
use Rattle.volume_world.specs.Course.{StepsBy}
use Rattle.volume_world.specs.Call.{Next}
use Rattle.volume_world.specs.Progress.{Proceeds}
use Rattle.volume_world.proofs.Comings.{step_proceeds, proceeds_on}
use Rattle.blob_access.specs.declared.fault.GetFault.{GetFault}
use Rattle.blob_access.specs.declared.fault.GetFault.TheVariants as faults
use Rattle.blob_access.specs.GetCall.{Wanted, Try, GetStage, GetNext, get_after, get_call, reading, unbroken, is_last, decoded, with_shard, hear_live, hear_read, unless_failed, after_first, after_again, after_read}
use Rattle.blob_access.specs.GetParts.{get_broken_off, got, GetsOn, HearsBy, try_of, heard_on, starting, seen_again}
use Rattle.blob_access.specs.declared.getting.Tried.{Tried}
use Rattle.blob_access.proofs.PutLemmas.{full_there, goes_nowhere, next_left}

-- the get is over because the history is full
abbrev pub is_get_cut : GetNext → Bool
is_get_cut (Next.Over (Err faults.HistoryFull)) = true
is_get_cut next = false

-- no reply makes that of it
reading_uncut : (t : Try) (homes : List Home) → is_get_cut (reading t homes) ≡ false
reading_uncut t [] = refl
reading_uncut t (home ∷ left) = refl

either_uncut : (test : Bool) (a b : GetNext) → is_get_cut a ≡ false → is_get_cut b ≡ false → is_get_cut (cond test a b) ≡ false
either_uncut true a b h k = h
either_uncut false a b h k = k

failure_uncut : (reply : Reply) → is_get_cut (unless_failed reply) ≡ false
failure_uncut replies.Fault = refl
failure_uncut (replies.Spoiled place) = refl
failure_uncut reply = refl

first_uncut : (wanted : Wanted) (reply : Reply) → is_get_cut (after_first wanted reply) ≡ false
first_uncut wanted (replies.Seen view) = reading_uncut _ (unbroken view.units)
first_uncut wanted reply = failure_uncut reply

pub seen_uncut : (mode : Mode) (t : Try) (version : ℕ) (units : List Home) → is_get_cut (seen_again mode t version units) ≡ false
seen_uncut mode t version units =
    either_uncut (is_last t.versions version) (Next.Over (Err (faults.Short t.live t.unheard t.broken)))
    (cond (length t.versions == 4) (Next.Over (Err (faults.Moving (reverse (version ∷ t.versions))))) (starting mode (version ∷ t.versions) units)) refl
    (either_uncut (length t.versions == 4) (Next.Over (Err (faults.Moving (reverse (version ∷ t.versions))))) (starting mode (version ∷ t.versions) units) refl (reading_uncut _ (unbroken units)))

again_uncut : (wanted : Wanted) (t : Try) (reply : Reply) → is_get_cut (after_again wanted t reply) ≡ false
again_uncut wanted t (replies.Seen view) = seen_uncut wanted.mode t view.version view.units
again_uncut wanted t reply = failure_uncut reply

live_uncut : (wanted : Wanted) (t : Try) (home : Home) (left : List Home) (blob_size : ℕ) (bytes : List ℕ) → is_get_cut (hear_live wanted t home left blob_size bytes) ≡ false
live_uncut wanted t home left blob_size bytes =
    let held = with_shard t home.unit.index bytes in
    either_uncut (blob_size == wanted.size) _ (Next.Over (Err (faults.Size blob_size)))
    (either_uncut (length bytes == shard_size wanted.mode wanted.size) _ (reading t left)
    (either_uncut (t.live + 1 == data_count wanted.mode) (Next.Over (Ok (decoded wanted held.shards))) (reading held left) refl (reading_uncut held left))
    (reading_uncut t left))
    refl

answer_uncut : (wanted : Wanted) (t : Try) (home : Home) (left : List Home) (answer : Answer) → is_get_cut (hear_read wanted t home left answer) ≡ false
answer_uncut wanted t home left (answers.Live blob_size bytes) = live_uncut wanted t home left blob_size bytes
answer_uncut wanted t home left answer = reading_uncut t left

pub read_uncut : (wanted : Wanted) (t : Try) (home : Home) (left : List Home) (reply : Reply) → is_get_cut (after_read wanted t home left reply) ≡ false
read_uncut wanted t home left (replies.Heard answer) = answer_uncut wanted t home left answer
read_uncut wanted t home left replies.Unheard = reading_uncut _ left
read_uncut wanted t home left replies.Barred = reading_uncut _ left
read_uncut wanted t home left replies.Fault = reading_uncut _ left
read_uncut wanted t home left (replies.Spoiled place) = reading_uncut _ left
read_uncut wanted t home left reply = refl

never_get_cut : (wanted : Wanted) (stage : GetStage) (reply : Reply) → is_get_cut (get_after wanted stage reply) ≡ false
never_get_cut wanted GetStage.First reply = first_uncut wanted reply
never_get_cut wanted (GetStage.Again t) reply = again_uncut wanted t reply
never_get_cut wanted (GetStage.Read t home left) reply = read_uncut wanted t home left reply

-- what a reply makes of a point, and what the answer of a part makes of it, are one
pub gets_told : {T : Type 0} (wanted : Wanted) (old new : WayView) (from to : GetNext) (result : Result T GetFault) (then : T → GetNext) → is_get_cut to ≡ false → got result then ≡ to
    → Proceeds (get_call wanted) old new from to → GetsOn wanted old new from result then
gets_told wanted old new from to (Err faults.HistoryFull) then uncut e h = absurd (let both : true ≡ false = ap is_get_cut e ∙ uncut in cc)
gets_told wanted old new from to (Err faults.Memory) then uncut e h = record { to = to; proceeds = h }
gets_told wanted old new from to (Err other) then uncut e h = subst (λ next. Proceeds (get_call wanted) old new from next) (sym e) h
gets_told wanted old new from to (Ok given) then uncut e h = subst (λ next. Proceeds (get_call wanted) old new from next) (sym e) h

-- by a step that is done
pub gets_replied : {T : Type 0} (wanted : Wanted) (old new : WayView) (stage : GetStage) (event : Event) (reply : Reply) (result : Result T GetFault) (then : T → GetNext) → event ≡ (get_call wanted).asks stage
    → StepsBy old new event (Ok reply) → got result then ≡ (get_call wanted).after stage reply → GetsOn wanted old new (Next.Go stage) result then
gets_replied wanted old new stage event reply result then asked h e =
    gets_told wanted old new (Next.Go stage) ((get_call wanted).after stage reply) result then (never_get_cut wanted stage reply) e (step_proceeds (get_call wanted) old new stage event (Ok reply) asked h)

-- by a step that isn't done
pub gets_stopped : {T : Type 0} (wanted : Wanted) (old new : WayView) (stage : GetStage) (event : Event) (fault : StepFault) (given : GetFault) (then : T → GetNext) → event ≡ (get_call wanted).asks stage
    → StepsBy old new event (Err fault) → given ≡ get_broken_off fault → GetsOn {T = T} wanted old new (Next.Go stage) (Err given) then
gets_stopped {T} wanted old new stage event step_faults.HistoryFull given then asked h e =
    subst (λ f. GetsOn {T = T} wanted old new (Next.Go stage) (Err f) then) (sym e) (record { to = Next.Go stage; proceeds = step_proceeds (get_call wanted) old new stage event (Err step_faults.HistoryFull) asked h; full = full_there old new h })
gets_stopped {T} wanted old new stage event step_faults.Memory given then asked h e =
    subst (λ f. GetsOn {T = T} wanted old new (Next.Go stage) (Err f) then) (sym e) (record { to = Next.Go stage; proceeds = step_proceeds (get_call wanted) old new stage event (Err step_faults.Memory) asked h })

-- what is heard of a reply
pub gets_heard : (wanted : Wanted) (old new : WayView) (from to : GetNext) (result : Result Bool GetFault) (then : Bool → GetNext) → is_get_cut to ≡ false → HearsBy result then to → Proceeds (get_call wanted) old new from to
    → GetsOn wanted old new from result then
gets_heard wanted old new from to (Err faults.HistoryFull) then uncut e h = absurd (let both : true ≡ false = ap is_get_cut e ∙ uncut in cc)
gets_heard wanted old new from to (Err faults.Memory) then uncut e h = record { to = to; proceeds = h }
gets_heard wanted old new from to (Err other) then uncut e h = subst (λ next. Proceeds (get_call wanted) old new from next) (sym e) h
gets_heard wanted old new from to (Ok given) then uncut e h = subst (λ next. Proceeds (get_call wanted) old new from next) (sym e) h

-- one part behind the other
pub gets_on : {T : Type 0} (wanted : Wanted) (a b c : WayView) (from at : GetNext) (result : Result T GetFault) (then : T → GetNext) → Proceeds (get_call wanted) a b from at → GetsOn wanted b c at result then
    → GetsOn wanted a c from result then
gets_on wanted a b c from at (Err faults.HistoryFull) then h k = record { to = k.to; proceeds = proceeds_on (get_call wanted) a b c from at k.to h k.proceeds; full = k.full }
gets_on wanted a b c from at (Err faults.Memory) then h k = record { to = k.to; proceeds = proceeds_on (get_call wanted) a b c from at k.to h k.proceeds }
gets_on wanted a b c from at (Err other) then h k = proceeds_on (get_call wanted) a b c from at (Next.Over (Err other)) h k
gets_on wanted a b c from at (Ok given) then h k = proceeds_on (get_call wanted) a b c from at (then given) h k

-- a part that fails ends the whole
pub gets_failed : {T U : Type 0} (wanted : Wanted) (old new : WayView) (from : GetNext) (fault : GetFault) (then : T → GetNext) (after : U → GetNext) → GetsOn {T = T} wanted old new from (Err fault) then
    → GetsOn {T = U} wanted old new from (Err fault) after
gets_failed wanted old new from faults.HistoryFull then after h = h
gets_failed wanted old new from faults.Memory then after h = h
gets_failed wanted old new from other then after h = h

pub gets_failed_by : {T U : Type 0} (wanted : Wanted) (old new : WayView) (from : GetNext) (result : Result U GetFault) (fault : GetFault) (then : T → GetNext) (after : U → GetNext) → result ≡ Err fault
    → GetsOn {T = T} wanted old new from (Err fault) then → GetsOn wanted old new from result after
gets_failed_by {T} {U} wanted old new from result fault then after e h = subst (λ r. GetsOn {T = U} wanted old new from r after) (sym e) (gets_failed {T = T} {U = U} wanted old new from fault then after h)

-- wherever it is, memory may be out
pub gets_out_of_memory : {T : Type 0} (wanted : Wanted) (old new : WayView) (from to : GetNext) (result : Result T GetFault) (then : T → GetNext) → result ≡ Err faults.Memory
    → Proceeds (get_call wanted) old new from to → GetsOn wanted old new from result then
gets_out_of_memory {T} wanted old new from to result then e h = subst (λ r. GetsOn {T = T} wanted old new from r then) (sym e) (record { to = to; proceeds = h })

pub stays : (wanted : Wanted) (a : WayView) (from : GetNext) → Proceeds (get_call wanted) a a from from
stays wanted a from = record { parts = []; goes = goes_nowhere a; fits = tt; comes = refl }

-- the units of a volume are in order of index
pub home_index : (origin : Origin) (first : ℕ) (homes : List Home) (i : ℕ) (d : Home) → AreHomesFrom origin first homes → i < length homes → (get_or homes i d).unit.index ≡ first + i
home_index origin first [] i d h below = absurd (omega arith)
home_index origin first (home ∷ homes) zero d h below = h.1 ∙ omega arith
home_index origin first (home ∷ homes) (suc i) d h below = home_index origin (suc first) homes i d h.2 (omega arith) ∙ omega arith

-- a unit that isn't shown as broken is read
pub shown_whole : (t : Try) (home : Home) (left : List Home) → home.broken ≡ false → Next.Go (GetStage.Read t home (unbroken left)) ≡ reading t (unbroken (home ∷ left))
shown_whole t home left whole = go home.broken whole where
  go : (test : Bool) → test ≡ false → Next.Go (GetStage.Read t home (unbroken left)) ≡ reading t (cond (not test) (home ∷ unbroken left) (unbroken left))
  go false e = refl
  go true e = cc

pub item_index : (origin : Origin) (homes : List Home) (i : ℕ) (home : Home) → AreHomes origin homes → i < length homes → home ≡ get_or homes i home → home.unit.index ≡ i
item_index origin homes i home all below is = ap (λ (h : Home). h.unit.index) is ∙ home_index origin 0 homes i home all.each below ∙ omega arith

pub item_within : (origin : Origin) (mode : Mode) (homes : List Home) (i : ℕ) (home : Home) → mode ≡ origin.mode → AreHomes origin homes → i < length homes → home ≡ get_or homes i home
    → home.unit.index < total_count mode
item_within origin mode homes i home same all below is =
    let at = item_index origin homes i home all below is in
    let count : length homes ≡ total_count origin.mode = all.count in
    let total : total_count mode ≡ total_count origin.mode = ap total_count same in
    omega arith

-- behind those that were read, one unit more
pub reads_part : (wanted : Wanted) (a b c : WayView) (versions : List ℕ) (from : GetNext) (tried new : Tried) (homes : List Home) (i : ℕ) (home : Home) (result : Result Bool GetFault) → i < length homes
    → home ≡ get_or homes i home → Proceeds (get_call wanted) a b from (reading (try_of versions tried) (unbroken (drop i homes)))
    → ((left : List Home) → GetsOn wanted b c (reading (try_of versions tried) (unbroken (home ∷ left))) result (heard_on wanted versions new left))
    → GetsOn wanted a c from result (heard_on wanted versions new (drop (i + 1) homes))
reads_part wanted a b c versions from tried new homes i home result below is h k =
    let left = drop (i + 1) homes in
    gets_on wanted a b c from (reading (try_of versions tried) (unbroken (home ∷ left))) result (heard_on wanted versions new left)
    (subst (λ xs. Proceeds (get_call wanted) a b from (reading (try_of versions tried) (unbroken xs))) (next_left homes i home below is) h) (k left)
