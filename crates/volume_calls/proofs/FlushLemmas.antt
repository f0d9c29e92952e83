-- Flushes that go on, and flushes that end.
use Rattle.std.proofs.Common.{◌≡◌, ◌+◌, ◌^◌, ◌<◌, Bool, true, false, List, [], ◌∷◌, ◌++◌, length, Option, Some, None, Result, Ok, Err, IfOk, refl, sym, ◌∙◌, ap, subst, length-append, arith}
use Rattle.std.proofs.lemmas.List.{append-nil}
use Rattle.volume_world.specs.declared.event.Event.{Event}
use Rattle.volume_world.specs.declared.event.Event.TheVariants as events
use Rattle.volume_world.specs.declared.reply.Reply.{Reply}
use Rattle.volume_world.specs.declared.reply.Reply.TheVariants as replies
use Rattle.volume_world.specs.declared.fault.StepFault.{StepFault}
use Rattle.volume_world.specs.Way.{WayView}
use Rattle.volume_world.specs.Course.{Part, traces_of, Goes, StepsBy}
use Rattle.volume_world.specs.Call.{Next, IsRest}
use Rattle.volume_world.specs.Progress.{Proceeds}
use Rattle.volume_world.proofs.Stretches.{traces_length}
use Rattle.volume_world.proofs.Comings.{step_proceeds, proceeds_on}
use Rattle.volume_calls.specs.declared.fault.LogFault.{LogFault}
use Rattle.volume_calls.specs.declared.fault.LogFault.TheVariants as faults
use Rattle.volume_calls.specs.declared.flushing.Flushed.{Flushed}
use Rattle.volume_calls.specs.CallForm.{cut_by, EndsBy, Makes, asked_count}
use Rattle.volume_calls.specs.CutOff.{log_cut}
use Rattle.volume_calls.specs.Flushes.{none_yet, counted, flush_call, Flushes}
use Rattle.volume_calls.specs.FlushParts.{told, Tells, Arrives}
use Rattle.volume_calls.proofs.CallLemmas.{full_then, made_whole, made_cut, rest_over, rest_never}

-- ---- how much is asked

abbrev flushed_or : Flushed → Result Flushed LogFault → Flushed
flushed_or other (Ok flushed) = flushed
flushed_or other (Err why) = other

not_failed : (why : LogFault) (flushed : Flushed) (parts : List Part) → IsRest flush_call (Next.Over (Err why)) parts (Ok flushed) → ⊥
not_failed why flushed parts h = let e : Ok flushed ≡ Err why = (rest_over flush_call (Err why) (Ok flushed) parts h).0 in cc

counts : (so_far flushed : Flushed) (parts : List Part) → IsRest flush_call (Next.Go so_far) parts (Ok flushed) → so_far.requests + so_far.answers + asked_count parts ≡ flushed.requests + flushed.answers + 1
counts so_far flushed [] h = absurd h
counts so_far flushed (Part.Beside trace ∷ parts) h = counts so_far flushed parts h
counts so_far flushed (Part.Settling trace ∷ parts) h = counts so_far flushed parts h
counts so_far flushed (Part.Asking event (replies.Flushed true) ∷ parts) h = let rest = counts (counted so_far true) flushed parts h.1 in omega arith
counts so_far flushed (Part.Asking event (replies.Flushed false) ∷ parts) h = let rest = counts (counted so_far false) flushed parts h.1 in omega arith
counts so_far flushed (Part.Asking event replies.NothingLate ∷ parts) h =
    let over = rest_over flush_call (Ok so_far) (Ok flushed) parts h.1 in
    let same : flushed ≡ so_far = ap (flushed_or so_far) over.0 in
    let requests : flushed.requests ≡ so_far.requests = ap (λ (f : Flushed). f.requests) same in
    let answers : flushed.answers ≡ so_far.answers = ap (λ (f : Flushed). f.answers) same in
    let none = over.1 in
    omega arith
counts so_far flushed (Part.Asking event replies.Fault ∷ parts) h = absurd (not_failed faults.Fault flushed parts h.1)
counts so_far flushed (Part.Asking event (replies.Spoiled place) ∷ parts) h = absurd (not_failed (faults.Spoiled place) flushed parts h.1)
counts so_far flushed (Part.Asking event reply ∷ parts) h = absurd (rest_never flush_call (Ok flushed) parts h.1)

counted_in : (result : Result Flushed LogFault) (parts : List Part) → EndsBy flush_call none_yet parts result (cut_by log_cut result)
    → IfOk result (λ flushed. asked_count parts ≡ flushed.requests + flushed.answers + 1)
counted_in (Ok flushed) parts h = let all = counts none_yet flushed parts h in omega arith
counted_in (Err why) parts h = tt

flushes : (old new : WayView) (result : Result Flushed LogFault) → Makes flush_call none_yet log_cut old new result → Flushes old new result
flushes old new result h = record { call = h; count = counted_in result h.parts h.ends }

-- ---- one event behind others

goes_nowhere : (a : WayView) → Goes a a []
goes_nowhere a = record {
  origin = refl;
  is_alone = refl;
  entries = sym (append-nil a.entries);
  own = sym (append-nil a.own);
  alone = λ e part i. absurd i;
  count = omega arith;
  faults = omega arith;
  quiet = λ e. refl;
  leads = λ told w at. (w, refl, at);
}

-- a flush of which so much is counted
abbrev pub IsFlushing : WayView → WayView → Flushed → Type 0
IsFlushing old new so_far = Proceeds flush_call old new (Next.Go none_yet) (Next.Go so_far)

pub flushing_first : (a : WayView) → IsFlushing a a none_yet
flushing_first a = record { parts = []; goes = goes_nowhere a; fits = tt; comes = refl }

by_reply : (a b c : WayView) (so_far : Flushed) (result : Result (Option Bool) LogFault) (step : Result Reply StepFault) → IsFlushing a b so_far → StepsBy b c events.FlushOne step → Tells step result
    → cut_by log_cut result ≡ None → Proceeds flush_call a c (Next.Go none_yet) (told so_far result)
by_reply a b c so_far result (Ok reply) before steps tells whole =
    proceeds_on flush_call a b c (Next.Go none_yet) (Next.Go so_far) (told so_far result) before
    (subst (λ (to : Next Flushed (Result Flushed LogFault)). Proceeds flush_call b c (Next.Go so_far) to) (sym (tells.1 so_far)) (step_proceeds flush_call b c so_far events.FlushOne (Ok reply) refl steps))
by_reply a b c so_far result (Err fault) before steps tells whole = absurd (let both : None ≡ Some fault = sym whole ∙ tells in cc)

-- one more item arrived
pub flushing_on : (a b c : WayView) (so_far more : Flushed) (found : Option Bool) (request : Bool) → IsFlushing a b so_far → Arrives b c (Ok found) → found ≡ Some request → more ≡ counted so_far request
    → IsFlushing a c more
flushing_on a b c so_far more found request before h is e =
    let there = by_reply a b c so_far (Ok found) h.step before h.steps h.tells refl in
    let to : told so_far (Ok found) ≡ Next.Go more = ap (λ (f : Option Bool). told so_far (Ok f)) is ∙ ap (λ (n : Flushed). Next.Go n) (sym e) in
    subst (λ (next : Next Flushed (Result Flushed LogFault)). Proceeds flush_call a c (Next.Go none_yet) next) to there

-- nothing is left
pub flushing_over : (a b c : WayView) (so_far : Flushed) (found : Option Bool) → IsFlushing a b so_far → Arrives b c (Ok found) → found ≡ None → Flushes a c (Ok so_far)
flushing_over a b c so_far found before h is =
    let there = by_reply a b c so_far (Ok found) h.step before h.steps h.tells refl in
    flushes a c (Ok so_far)
    (made_whole flush_call none_yet log_cut a c (Ok so_far) refl
    (subst (λ (next : Next Flushed (Result Flushed LogFault)). Proceeds flush_call a c (Next.Go none_yet) next) (ap (λ (f : Option Bool). told so_far (Ok f)) is) there))

by_step : (a b c : WayView) (so_far : Flushed) (why : LogFault) (step : Result Reply StepFault) → IsFlushing a b so_far → StepsBy b c events.FlushOne step → Tells step (Err why)
    → Makes flush_call none_yet log_cut a c (Err why)
by_step a b c so_far why (Ok reply) before steps tells =
    made_whole flush_call none_yet log_cut a c (Err why) tells.0 (by_reply a b c so_far (Err why) (Ok reply) before steps tells tells.0)
by_step a b c so_far why (Err fault) before steps tells =
    made_cut flush_call none_yet so_far log_cut a c fault why tells (full_then b c events.FlushOne fault steps)
    (proceeds_on flush_call a b c (Next.Go none_yet) (Next.Go so_far) (Next.Go so_far) before (step_proceeds flush_call b c so_far events.FlushOne (Err fault) refl steps))

-- it fails
pub flushing_fails : (a b c : WayView) (so_far : Flushed) (why : LogFault) (result : Result Flushed LogFault) → IsFlushing a b so_far → Arrives b c (Err why) → result ≡ Err why → Flushes a c result
flushing_fails a b c so_far why result before h is =
    subst (λ (r : Result Flushed LogFault). Flushes a c r) (sym is) (flushes a c (Err why) (by_step a b c so_far why h.step before h.steps h.tells))

-- ---- counts

one_more : (old new : WayView) (event : Event) (reply : Reply) → StepsBy old new event (Ok reply) → (length old.entries < length new.entries) × (length new.entries < 2 ^ 32)
one_more old new event reply h =
    let last = Part.Asking event reply ∷ [] in
    let all = h.others ++ (h.settles ++ last) in
    let whole : length new.entries ≡ length old.entries + length (traces_of all) = ap length h.goes.entries ∙ length-append old.entries (traces_of all) in
    let every = traces_length all in
    let first : length all ≡ length h.others + length (h.settles ++ last) = length-append h.others (h.settles ++ last) in
    let behind : length (h.settles ++ last) ≡ length h.settles + 1 = length-append h.settles last in
    let before : length (old.entries ++ traces_of h.others) ≡ length old.entries + length (traces_of h.others) = length-append old.entries (traces_of h.others) in
    let beside = traces_length h.others in
    let room = h.room in
    let most = h.ready.most in
    (omega arith, omega arith)

more_by : (old new : WayView) (found : Option Bool) (step : Result Reply StepFault) → StepsBy old new events.FlushOne step → Tells step (Ok found)
    → (length old.entries < length new.entries) × (length new.entries < 2 ^ 32)
more_by old new found (Ok reply) steps tells = one_more old new events.FlushOne reply steps
more_by old new found (Err fault) steps tells = absurd (cc tells)

-- an item that arrives is one entry more, and no history has as many entries as a count can be
pub more_entries : (old new : WayView) (found : Option Bool) → Arrives old new (Ok found) → (length old.entries < length new.entries) × (length new.entries < 2 ^ 32)
more_entries old new found h = more_by old new found h.step h.steps h.tells

counted_sum : (so_far : Flushed) (request : Bool) → (counted so_far request).requests + (counted so_far request).answers ≡ so_far.requests + so_far.answers + 1
counted_sum so_far true = omega arith
counted_sum so_far false = omega arith

pub count_more : (so_far more : Flushed) (request : Bool) → more ≡ counted so_far request → more.requests + more.answers ≡ so_far.requests + so_far.answers + 1
count_more so_far more request e = ap (λ (n : Flushed). n.requests + n.answers) e ∙ counted_sum so_far request
