-- A get that heard too few shards has a last try: reads between two looks that showed one version.
use Rattle.std.proofs.Common.{◌≡◌, ℕ, ◌+◌, ◌⊎◌, inl, inr, Bool, true, false, cond, List, [], ◌∷◌, ◌++◌, length, Result, Ok, Err, refl, sym, ◌∙◌, ap, subst}
use Rattle.std.specs.Prelude.{◌==◌, reverse}
use Rattle.std.proofs.lemmas.Bool.{eqb-true}
use Rattle.unit_id.specs.declared.homes.Home.{Home}
use Rattle.unit_id.specs.declared.answer.Answer.TheVariants as answers
use Rattle.code_mode.specs.Mode.{data_count, shard_size}
use Rattle.volume_entry.specs.declared.view.View.{View}
use Rattle.volume_world.specs.Way.{Origin}
use Rattle.volume_world.specs.Run.{World}
use Rattle.volume_world.specs.Course.{Part, PartsLead}
use Rattle.volume_world.specs.Call.{Next, Call, IsRest}
use Rattle.volume_world.specs.Progress.{Comes}
use Rattle.volume_world.specs.declared.event.Event.{Event}
use Rattle.volume_world.specs.declared.event.Event.TheVariants as events
use Rattle.volume_world.specs.declared.reply.Reply.{Reply}
use Rattle.volume_world.specs.declared.reply.Reply.TheVariants as replies
use Rattle.volume_world.specs.declared.trace.Trace.{Trace}
use Rattle.blob_access.specs.declared.fault.GetFault.{GetFault}
use Rattle.blob_access.specs.declared.fault.GetFault.TheVariants as faults
use Rattle.blob_access.specs.GetCall.{Wanted, Try, GetStage, GetNext, get_asks, get_call, reading, first_read, is_last, look_again, decoded, with_shard, hear_live, after_read}
use Rattle.blob_access.specs.Causes.{HasNoLook}

-- ---- calls that are over

pub over_answer : {S A : Type 0} (call : Call S A) (given : A) (parts : List Part) (answer : A) → IsRest call (Next.Over given) parts answer → answer ≡ given
over_answer call given [] answer h = h
over_answer call given (Part.Beside trace ∷ parts) answer h = over_answer call given parts answer h
over_answer call given (Part.Settling trace ∷ parts) answer h = over_answer call given parts answer h
over_answer call given (Part.Asking event reply ∷ parts) answer h = absurd h

pub never_answers : {S A : Type 0} (call : Call S A) (parts : List Part) (answer : A) → IsRest call Next.Never parts answer → ⊥
never_answers call [] answer h = h
never_answers call (Part.Beside trace ∷ parts) answer h = never_answers call parts answer h
never_answers call (Part.Settling trace ∷ parts) answer h = never_answers call parts answer h
never_answers call (Part.Asking event reply ∷ parts) answer h = h

no_look_more : (part : Part) (parts : List Part) → ((reply : Reply) → Part.Asking events.Look reply ≡ part → ⊥) → HasNoLook parts → HasNoLook (part ∷ parts)
no_look_more part parts other rest reply i = elim i [ inl e ↦ other reply e | inr there ↦ rest reply there ]

over_silent : {S A : Type 0} (call : Call S A) (given : A) (parts : List Part) (answer : A) → IsRest call (Next.Over given) parts answer → HasNoLook parts
over_silent call given [] answer h = λ reply i. absurd i
over_silent call given (Part.Beside trace ∷ parts) answer h = no_look_more (Part.Beside trace) parts (λ reply e. cc) (over_silent call given parts answer h)
over_silent call given (Part.Settling trace ∷ parts) answer h = no_look_more (Part.Settling trace) parts (λ reply e. cc) (over_silent call given parts answer h)
over_silent call given (Part.Asking event reply ∷ parts) answer h = absurd h

-- ---- the last try

-- from here on, the try that is under way is the last
pub record IsInTry (wanted : Wanted) (first : View) (from : GetNext) (parts : List Part) : Type 0 where
  pub reads : List Part
  pub second : View
  pub after : List Part
  pub end : Try
  pub split : parts ≡ reads ++ (Part.Asking events.Look (replies.Seen second) ∷ after)
  pub comes : Comes (get_call wanted) from reads (Next.Go (GetStage.Again end))
  pub among : HasNoLook reads
  pub behind : HasNoLook after
  pub same : second.version ≡ first.version

-- the last try begins in this stretch
pub record HasTry (wanted : Wanted) (parts : List Part) : Type 0 where
  pub before : List Part
  pub first : View
  pub versions : List ℕ
  pub rest : List Part
  pub split : parts ≡ before ++ (Part.Asking events.Look (replies.Seen first) ∷ rest)
  pub try : IsInTry wanted first (first_read wanted.mode versions first) rest

try_later : (wanted : Wanted) (part : Part) (parts : List Part) → HasTry wanted parts → HasTry wanted (part ∷ parts)
try_later wanted part parts h = record { before = part ∷ h.before; first = h.first; versions = h.versions; rest = h.rest; split = ap (λ xs. part ∷ xs) h.split; try = h.try }

abbrev IsNotShort : Result (List ℕ) GetFault → Type 0
IsNotShort (Err (faults.Short live unheard broken)) = ⊥
IsNotShort given = Unit {0}

-- the try that is under way began with this look
abbrev SawLast : View → GetNext → Type 0
SawLast first (Next.Go GetStage.First) = ⊥
SawLast first (Next.Go (GetStage.Again t)) = (earlier : List ℕ) × (t.versions ≡ first.version ∷ earlier)
SawLast first (Next.Go (GetStage.Read t home left)) = (earlier : List ℕ) × (t.versions ≡ first.version ∷ earlier)
SawLast first (Next.Over given) = IsNotShort given
SawLast first Next.Never = Unit {0}

reading_saw : (first : View) (t : Try) (left : List Home) → ((earlier : List ℕ) × (t.versions ≡ first.version ∷ earlier)) → SawLast first (reading t left)
reading_saw first t [] h = h
reading_saw first t (home ∷ left) h = h

live_saw : (wanted : Wanted) (first : View) (t : Try) (home : Home) (left : List Home) (blob_size : ℕ) (bytes : List ℕ) → ((earlier : List ℕ) × (t.versions ≡ first.version ∷ earlier))
    → SawLast first (hear_live wanted t home left blob_size bytes)
live_saw wanted first t home left blob_size bytes h = go (blob_size == wanted.size) (length bytes == shard_size wanted.mode wanted.size) (t.live + 1 == data_count wanted.mode) where
  go : (a b c : Bool) → SawLast first (cond a (cond b (cond c (Next.Over (Ok (decoded wanted (with_shard t home.unit.index bytes).shards))) (reading (with_shard t home.unit.index bytes) left)) (reading t left)) (Next.Over (Err (faults.Size blob_size))))
  go true true true = tt
  go true true false = reading_saw first (with_shard t home.unit.index bytes) left h
  go true false c = reading_saw first t left h
  go false b c = tt

read_saw : (wanted : Wanted) (first : View) (t : Try) (home : Home) (left : List Home) (reply : Reply) → ((earlier : List ℕ) × (t.versions ≡ first.version ∷ earlier)) → SawLast first (after_read wanted t home left reply)
read_saw wanted first t home left (replies.Heard (answers.Live blob_size bytes)) h = live_saw wanted first t home left blob_size bytes h
read_saw wanted first t home left (replies.Heard answer) h = reading_saw first t left h
read_saw wanted first t home left replies.Unheard h = reading_saw first (record t { unheard = t.unheard + 1 }) left h
read_saw wanted first t home left replies.Barred h = reading_saw first (record t { unheard = t.unheard + 1 }) left h
read_saw wanted first t home left replies.Fault h = reading_saw first (record t { unheard = t.unheard + 1 }) left h
read_saw wanted first t home left (replies.Spoiled place) h = reading_saw first (record t { unheard = t.unheard + 1 }) left h
read_saw wanted first t home left reply h = tt

saw_same : (versions earlier : List ℕ) (first version : ℕ) → versions ≡ first ∷ earlier → is_last versions version ≡ true → version ≡ first
saw_same versions earlier first version e h = sym (eqb-true first version (ap (λ (xs : List ℕ). is_last xs version) (sym e) ∙ h))

abbrev Either : Wanted → View → GetNext → List Part → Type 0
Either wanted first from parts = IsInTry wanted first from parts ⊎ HasTry wanted parts

aside : (wanted : Wanted) (first : View) (stage : GetStage) (trace : Trace) (parts : List Part) → Either wanted first (Next.Go stage) parts → Either wanted first (Next.Go stage) (Part.Beside trace ∷ parts)
aside wanted first stage trace parts (inr h) = inr (try_later wanted (Part.Beside trace) parts h)
aside wanted first stage trace parts (inl h) = inl (record {
  reads = Part.Beside trace ∷ h.reads;
  second = h.second;
  after = h.after;
  end = h.end;
  split = ap (λ xs. Part.Beside trace ∷ xs) h.split;
  comes = h.comes;
  among = no_look_more (Part.Beside trace) h.reads (λ reply e. cc) h.among;
  behind = h.behind;
  same = h.same;
})

settled_aside : (wanted : Wanted) (first : View) (stage : GetStage) (trace : Trace) (parts : List Part) → Either wanted first (Next.Go stage) parts → Either wanted first (Next.Go stage) (Part.Settling trace ∷ parts)
settled_aside wanted first stage trace parts (inr h) = inr (try_later wanted (Part.Settling trace) parts h)
settled_aside wanted first stage trace parts (inl h) = inl (record {
  reads = Part.Settling trace ∷ h.reads;
  second = h.second;
  after = h.after;
  end = h.end;
  split = ap (λ xs. Part.Settling trace ∷ xs) h.split;
  comes = h.comes;
  among = no_look_more (Part.Settling trace) h.reads (λ reply e. cc) h.among;
  behind = h.behind;
  same = h.same;
})

read_more : (wanted : Wanted) (first : View) (t : Try) (home : Home) (left : List Home) (event : Event) (reply : Reply) (parts : List Part) → event ≡ get_asks wanted (GetStage.Read t home left)
    → Either wanted first (after_read wanted t home left reply) parts → Either wanted first (Next.Go (GetStage.Read t home left)) (Part.Asking event reply ∷ parts)
read_more wanted first t home left event reply parts e (inr h) = inr (try_later wanted (Part.Asking event reply) parts h)
read_more wanted first t home left event reply parts e (inl h) = inl (record {
  reads = Part.Asking event reply ∷ h.reads;
  second = h.second;
  after = h.after;
  end = h.end;
  split = ap (λ xs. Part.Asking event reply ∷ xs) h.split;
  comes = (e, h.comes);
  among = no_look_more (Part.Asking event reply) h.reads (λ other same. other_event event reply other e same) h.among;
  behind = h.behind;
  same = h.same;
}) where
  other_event : (event : Event) (reply other : Reply) → event ≡ get_asks wanted (GetStage.Read t home left) → Part.Asking events.Look other ≡ Part.Asking event reply → ⊥
  other_event event reply other e same = cc

begins : (wanted : Wanted) (first : View) (versions : List ℕ) (event : Event) (parts : List Part) → event ≡ events.Look → Either wanted first (first_read wanted.mode versions first) parts → HasTry wanted (Part.Asking event (replies.Seen first) ∷ parts)
begins wanted first versions event parts e (inl h) = record { before = []; first = first; versions = versions; rest = parts; split = ap (λ x. Part.Asking x (replies.Seen first) ∷ parts) e; try = h }
begins wanted first versions event parts e (inr h) = try_later wanted (Part.Asking event (replies.Seen first)) parts h

seen_again : (wanted : Wanted) (live unheard broken : ℕ) (first : View) (t : Try) (view : View) (event : Event) (parts : List Part) → event ≡ events.Look → ((earlier : List ℕ) × (t.versions ≡ first.version ∷ earlier))
    → (IsRest (get_call wanted) (first_read wanted.mode t.versions view) parts (Err (faults.Short live unheard broken)) → Either wanted view (first_read wanted.mode t.versions view) parts)
    → IsRest (get_call wanted) (look_again wanted.mode t view) parts (Err (faults.Short live unheard broken)) → Either wanted first (Next.Go (GetStage.Again t)) (Part.Asking event (replies.Seen view) ∷ parts)
seen_again wanted live unheard broken first t view event parts e saw rest = go (is_last t.versions view.version) (length t.versions == 4) refl where
  go : (a b : Bool) → is_last t.versions view.version ≡ a
      → IsRest (get_call wanted) (cond a (Next.Over (Err (faults.Short t.live t.unheard t.broken))) (cond b (Next.Over (Err (faults.Moving (reverse (view.version ∷ t.versions))))) (first_read wanted.mode t.versions view))) parts (Err (faults.Short live unheard broken))
      → Either wanted first (Next.Go (GetStage.Again t)) (Part.Asking event (replies.Seen view) ∷ parts)
  go true b last h = inl (record {
    reads = [];
    second = view;
    after = parts;
    end = t;
    split = ap (λ x. Part.Asking x (replies.Seen view) ∷ parts) e;
    comes = refl;
    among = λ reply i. absurd i;
    behind = over_silent (get_call wanted) (Err (faults.Short t.live t.unheard t.broken)) parts (Err (faults.Short live unheard broken)) h;
    same = saw_same t.versions saw.0 first.version view.version saw.1 last;
  })
  go false true last h = let other = over_answer (get_call wanted) (Err (faults.Moving (reverse (view.version ∷ t.versions)))) parts (Err (faults.Short live unheard broken)) h in cc
  go false false last h = inr (begins wanted view t.versions event parts e (rest h))

find : (wanted : Wanted) (live unheard broken : ℕ) (first : View) (from : GetNext) (parts : List Part) → SawLast first from → IsRest (get_call wanted) from parts (Err (faults.Short live unheard broken)) → Either wanted first from parts
find wanted live unheard broken first (Next.Over given) parts saw h =
    absurd (subst IsNotShort (sym (over_answer (get_call wanted) given parts (Err (faults.Short live unheard broken)) h)) saw)
find wanted live unheard broken first Next.Never parts saw h = absurd (never_answers (get_call wanted) parts (Err (faults.Short live unheard broken)) h)
find wanted live unheard broken first (Next.Go stage) [] saw h = absurd h
find wanted live unheard broken first (Next.Go stage) (Part.Beside trace ∷ parts) saw h = aside wanted first stage trace parts (find wanted live unheard broken first (Next.Go stage) parts saw h)
find wanted live unheard broken first (Next.Go stage) (Part.Settling trace ∷ parts) saw h = settled_aside wanted first stage trace parts (find wanted live unheard broken first (Next.Go stage) parts saw h)
find wanted live unheard broken first (Next.Go GetStage.First) (Part.Asking event reply ∷ parts) saw h = absurd saw
find wanted live unheard broken first (Next.Go (GetStage.Read t home left)) (Part.Asking event reply ∷ parts) saw h =
    read_more wanted first t home left event reply parts h.0 (find wanted live unheard broken first (after_read wanted t home left reply) parts (read_saw wanted first t home left reply saw) h.1)
find wanted live unheard broken first (Next.Go (GetStage.Again t)) (Part.Asking event (replies.Seen view) ∷ parts) saw h =
    seen_again wanted live unheard broken first t view event parts h.0 saw (find wanted live unheard broken view (first_read wanted.mode t.versions view) parts (reading_saw view _ _ (t.versions, refl))) h.1
find wanted live unheard broken first (Next.Go (GetStage.Again t)) (Part.Asking event replies.Fault ∷ parts) saw h =
    let other = over_answer (get_call wanted) (Err faults.Fault) parts (Err (faults.Short live unheard broken)) h.1 in cc
find wanted live unheard broken first (Next.Go (GetStage.Again t)) (Part.Asking event (replies.Spoiled place) ∷ parts) saw h =
    let other = over_answer (get_call wanted) (Err (faults.Spoiled place)) parts (Err (faults.Short live unheard broken)) h.1 in cc
find wanted live unheard broken first (Next.Go (GetStage.Again t)) (Part.Asking event reply ∷ parts) saw h = absurd (never_answers (get_call wanted) parts (Err (faults.Short live unheard broken)) h.1)

pub has_try : (wanted : Wanted) (live unheard broken : ℕ) (parts : List Part) → IsRest (get_call wanted) (Next.Go GetStage.First) parts (Err (faults.Short live unheard broken)) → HasTry wanted parts
has_try wanted live unheard broken [] h = absurd h
has_try wanted live unheard broken (Part.Beside trace ∷ parts) h = try_later wanted (Part.Beside trace) parts (has_try wanted live unheard broken parts h)
has_try wanted live unheard broken (Part.Settling trace ∷ parts) h = try_later wanted (Part.Settling trace) parts (has_try wanted live unheard broken parts h)
has_try wanted live unheard broken (Part.Asking event (replies.Seen view) ∷ parts) h =
    begins wanted view [] event parts h.0 (find wanted live unheard broken view (first_read wanted.mode [] view) parts (reading_saw view _ _ ([], refl)) h.1)
has_try wanted live unheard broken (Part.Asking event replies.Fault ∷ parts) h = let other = over_answer (get_call wanted) (Err faults.Fault) parts (Err (faults.Short live unheard broken)) h.1 in cc
has_try wanted live unheard broken (Part.Asking event (replies.Spoiled place) ∷ parts) h = let other = over_answer (get_call wanted) (Err (faults.Spoiled place)) parts (Err (faults.Short live unheard broken)) h.1 in cc
has_try wanted live unheard broken (Part.Asking event reply ∷ parts) h = absurd (never_answers (get_call wanted) parts (Err (faults.Short live unheard broken)) h.1)

-- ---- runs

-- a run through two stretches
pub leads_split : (origin : Origin) (w v : World) (ps qs : List Part) → PartsLead origin w (ps ++ qs) v → (u : World) × PartsLead origin w ps u × PartsLead origin u qs v
leads_split origin w v [] qs h = (w, refl, h)
leads_split origin w v (p ∷ ps) qs h = let rest = leads_split origin h.0 v ps qs h.2 in (rest.0, (h.0, h.1, rest.1), rest.2)
