-- What a get answers where it has no cause to hear too few shards.
use Rattle.std.proofs.Common.{◌≡◌, ℕ, ◌+◌, ◌<◌, ◌≤◌, ◌⊎◌, inl, inr, Bool, true, false, cond, List, [], ◌∷◌, ◌++◌, length, Result, Ok, Err, refl, sym, ◌∙◌, ap, subst, append_assoc, arith}
use Rattle.std.specs.Prelude.{◌==◌, reverse}
use Rattle.std.proofs.lemmas.Bool.{eqb-true, eqb-false}
use Rattle.std.proofs.lemmas.List.{length-reverse}
use Rattle.std.proofs.lemmas.Grind.{reverse_onto}
use Rattle.unit_id.specs.Lists.{IsIn, is_in}
use Rattle.unit_id.specs.UnitName.{Name}
use Rattle.unit_id.specs.declared.homes.Home.{Home}
use Rattle.unit_id.specs.declared.request.Request.TheVariants as requests
use Rattle.unit_id.specs.declared.answer.Answer.TheVariants as answers
use Rattle.unit_id.proofs.Bools.{contrary}
use Rattle.code_mode.specs.VolumeShape.{VolumeShape}
use Rattle.code_mode.specs.PayloadShard.{PayloadShard}
use Rattle.code_mode.specs.Mode.{data_count, shard_size}
use Rattle.blob_node.specs.UnitAnswer.{AreAscending}
use Rattle.volume_entry.specs.declared.view.View.{View}
use Rattle.volume_world.specs.State.{State}
use Rattle.volume_world.specs.BlobStatus.{is_acked}
use Rattle.volume_world.specs.Run.{World, Step, Leads}
use Rattle.volume_world.specs.Way.{Origin, shape_of}
use Rattle.volume_world.specs.Course.{Part, IsDone, PartsLead}
use Rattle.volume_world.specs.Call.{Next, Call, IsRest}
use Rattle.volume_world.specs.Progress.{Comes}
use Rattle.volume_world.specs.declared.event.Event.{Event}
use Rattle.volume_world.specs.declared.event.Event.TheVariants as events
use Rattle.volume_world.specs.declared.reply.Reply.{Reply}
use Rattle.volume_world.specs.declared.reply.Reply.TheVariants as replies
use Rattle.volume_world.proofs.AckProofs.{acked_lasts}
use Rattle.volume_world.proofs.EntryMoves.{entry_lasts}
use Rattle.volume_world.proofs.Stretches.{leads_on}
use Rattle.volume_world.proofs.Telling.{entry_stays}
use Rattle.blob_access.specs.declared.fault.GetFault.{GetFault}
use Rattle.blob_access.specs.declared.fault.GetFault.TheVariants as faults
use Rattle.blob_access.specs.GetCall.{Wanted, Try, GetStage, GetNext, get_asks, get_call, get_after, reading, first_read, is_last, look_again, decoded, with_shard, hear_live, after_read}
use Rattle.blob_access.specs.Causes.{Cause, LastTry, IsAvailable, HasOtherSize, WasShown, GetsGiveTheBlob}
use Rattle.blob_access.proofs.GetBytes.{seen_right, heard_right, ends_right}
use Rattle.blob_access.proofs.Later.{IsLater, entry_later, parts_later, part_step}
use Rattle.blob_access.proofs.LastTries.{over_answer, never_answers}
use Rattle.volume_world.proofs.PossibleStates.{possible_kept}
use Rattle.blob_access.proofs.ShortCauses.{short_gets_have_a_cause}

-- ---- calls

-- a call that is whole comes to its answer
rest_comes : {S A : Type 0} (call : Call S A) (from : Next S A) (parts : List Part) (answer : A) → IsRest call from parts answer → Comes call from parts (Next.Over answer)
rest_comes call (Next.Over given) [] answer h = ap Next.Over h
rest_comes call (Next.Go stage) [] answer h = absurd h
rest_comes call Next.Never [] answer h = absurd h
rest_comes call (Next.Go stage) (Part.Beside trace ∷ parts) answer h = rest_comes call (Next.Go stage) parts answer h
rest_comes call (Next.Over given) (Part.Beside trace ∷ parts) answer h = rest_comes call (Next.Over given) parts answer h
rest_comes call Next.Never (Part.Beside trace ∷ parts) answer h = rest_comes call Next.Never parts answer h
rest_comes call (Next.Go stage) (Part.Settling trace ∷ parts) answer h = rest_comes call (Next.Go stage) parts answer h
rest_comes call (Next.Over given) (Part.Settling trace ∷ parts) answer h = rest_comes call (Next.Over given) parts answer h
rest_comes call Next.Never (Part.Settling trace ∷ parts) answer h = rest_comes call Next.Never parts answer h
rest_comes call (Next.Go stage) (Part.Asking event reply ∷ parts) answer h = (h.0, rest_comes call (call.after stage reply) parts answer h.1)
rest_comes call (Next.Over given) (Part.Asking event reply ∷ parts) answer h = absurd h
rest_comes call Next.Never (Part.Asking event reply ∷ parts) answer h = absurd h

-- ---- versions

-- each number is above those behind it
abbrev AreFalling : List ℕ → Type 0
AreFalling [] = Unit {0}
AreFalling (x ∷ xs) = ((n : ℕ) → IsIn n xs → n < x) × AreFalling xs

in_last : (n : ℕ) (xs : List ℕ) (x : ℕ) → IsIn n (xs ++ (x ∷ [])) → IsIn n xs ⊎ (n ≡ x)
in_last n [] x i = elim i [ inl e ↦ inr e | inr none ↦ absurd none ]
in_last n (y ∷ ys) x i = elim i [
  | inl e ↦ inl (inl e)
  | inr there ↦ elim (in_last n ys x there) [ inl j ↦ inl (inr j) | inr e ↦ inr e ]
]

ascending_last : (xs : List ℕ) (x : ℕ) → AreAscending xs → ((n : ℕ) → IsIn n xs → n < x) → AreAscending (xs ++ (x ∷ []))
ascending_last [] x h below = (λ n i. absurd i, tt)
ascending_last (y ∷ ys) x h below = (
  (λ n i. elim (in_last n ys x i) [ inl there ↦ h.0 n there | inr e ↦ let less = below y (inl refl) in omega (arith, less, e) ]),
  ascending_last ys x h.1 (λ n i. below n (inr i)),
)

-- a falling list rises from its end
rising : (xs : List ℕ) → AreFalling xs → AreAscending (reverse xs) × ((n : ℕ) → IsIn n (reverse xs) → IsIn n xs)
rising [] h = (tt, λ n i. absurd i)
rising (x ∷ xs) h =
    let rest = rising xs h.1 in
    let turned : reverse (x ∷ xs) ≡ reverse xs ++ (x ∷ []) = reverse_onto xs x [] in (
      subst AreAscending (sym turned) (ascending_last (reverse xs) x rest.0 (λ n i. h.0 n (rest.1 n i))),
      (λ n i. elim (in_last n (reverse xs) x (subst (IsIn n) turned i)) [ inl there ↦ inr (rest.1 n there) | inr e ↦ inl e ]),
    )

-- versions that were seen up to this state, the last first, each of which was shown
record AreSeen (Shown : ℕ → Type 0) (w : World) (versions : List ℕ) : Type 0 where
  falling : AreFalling versions
  shown : (n : ℕ) → IsIn n versions → Shown n
  most : (n : ℕ) → IsIn n versions → n ≤ w.state.manager.version

version_grows : (s t : State) → IsLater s t → s.manager.version ≤ t.manager.version
version_grows s t h = elim h.manager.homes [ inl same ↦ let e = same.0 in omega (arith, e) | inr less ↦ omega (arith, less) ]

seen_lasts : (Shown : ℕ → Type 0) (w v : World) (versions : List ℕ) → IsLater w.state v.state → AreSeen Shown w versions → AreSeen Shown v versions
seen_lasts Shown w v versions later h = let more = version_grows w.state v.state later in record { falling = h.falling; shown = h.shown; most = λ n i. let less = h.most n i in omega (arith, less, more) }

-- the version that a further look shows, where it isn't the last one
seen_more : (Shown : ℕ → Type 0) (w : World) (versions : List ℕ) (version : ℕ) → Shown version → version ≡ w.state.manager.version → is_last versions version ≡ false → AreSeen Shown w versions → AreSeen Shown w (version ∷ versions)
seen_more Shown w versions version one at new h = record {
  shown = λ n i. elim i [ inl e ↦ subst Shown (sym e) one | inr there ↦ h.shown n there ];
  falling = (less versions new h.falling h.most, h.falling);
  most = λ n i. elim i [ inl e ↦ omega (arith, e, at) | inr there ↦ h.most n there ];
} where
  less : (xs : List ℕ) → is_last xs version ≡ false → AreFalling xs → ((n : ℕ) → IsIn n xs → n ≤ w.state.manager.version) → (n : ℕ) → IsIn n xs → n < version
  less [] new falling most n i = absurd i
  less (x ∷ xs) new falling most n i =
      let top = most x (inl refl) in
      let other = eqb-false x version new in
      elim i [ inl e ↦ below n x version other (omega (arith, top, at)) (omega (arith, e)) | inr there ↦ let under = falling.0 n there in omega (arith, under, top, at) ] where
        below : (n x version : ℕ) → (x ≡ version → ⊥) → x ≤ version → n ≤ x → n < version
        below n x version other h k = omega (arith, other, h, k)

-- ---- stages

-- five versions that were shown, each a later one
record AreFive (Shown : ℕ → Type 0) (versions : List ℕ) : Type 0 where
  count : length versions ≡ 5
  order : AreAscending versions
  shown : (n : ℕ) → IsIn n versions → Shown n

abbrev Says : Wanted → (ℕ → Type 0) → World → GetNext → Type 0
Says wanted Shown w (Next.Go GetStage.First) = Unit {0}
Says wanted Shown w (Next.Go (GetStage.Again t)) = AreSeen Shown w t.versions
Says wanted Shown w (Next.Go (GetStage.Read t home left)) = AreSeen Shown w t.versions
Says wanted Shown w (Next.Over (Err (faults.Size kept))) = HasOtherSize w wanted.bid wanted.size kept
Says wanted Shown w (Next.Over (Err (faults.Moving versions))) = AreFive Shown versions
Says wanted Shown w (Next.Over given) = Unit {0}
Says wanted Shown w Next.Never = Unit {0}

size_lasts : (shape : VolumeShape) (w : World) (step : Step) (v : World) (bid size kept : ℕ) → Leads shape w step v → HasOtherSize w bid size kept → HasOtherSize v bid size kept
size_lasts shape w step v bid size kept h other = let still = entry_stays shape w step v h bid other.begun in record { begun = still.begun; whole = other.whole ∙ ap length (sym still.payload); other = other.other }

over_lasts : (shape : VolumeShape) (wanted : Wanted) (Shown : ℕ → Type 0) (w : World) (step : Step) (v : World) (given : Result (List ℕ) GetFault) → Leads shape w step v → Says wanted Shown w (Next.Over given) → Says wanted Shown v (Next.Over given)
over_lasts shape wanted Shown w step v (Err (faults.Size kept)) h says = size_lasts shape w step v wanted.bid wanted.size kept h says
over_lasts shape wanted Shown w step v (Err (faults.Moving versions)) h says = says
over_lasts shape wanted Shown w step v (Err other) h says = tt
over_lasts shape wanted Shown w step v (Ok bytes) h says = tt

says_lasts : (shape : VolumeShape) (wanted : Wanted) (Shown : ℕ → Type 0) (w : World) (step : Step) (v : World) (next : GetNext) → Leads shape w step v → Says wanted Shown w next → Says wanted Shown v next
says_lasts shape wanted Shown w step v (Next.Go GetStage.First) h says = tt
says_lasts shape wanted Shown w step v (Next.Go (GetStage.Again t)) h says = seen_lasts Shown w v t.versions (entry_later shape w step v h) says
says_lasts shape wanted Shown w step v (Next.Go (GetStage.Read t home left)) h says = seen_lasts Shown w v t.versions (entry_later shape w step v h) says
says_lasts shape wanted Shown w step v (Next.Over given) h says = over_lasts shape wanted Shown w step v given h says
says_lasts shape wanted Shown w step v Next.Never h says = tt

reading_says : (wanted : Wanted) (Shown : ℕ → Type 0) (w : World) (t : Try) (left : List Home) → AreSeen Shown w t.versions → Says wanted Shown w (reading t left)
reading_says wanted Shown w t [] h = h
reading_says wanted Shown w t (home ∷ left) h = h

again_says : (wanted : Wanted) (Shown : ℕ → Type 0) (w : World) (t : Try) (view : View) → Shown view.version → view.version ≡ w.state.manager.version → AreSeen Shown w t.versions → Says wanted Shown w (look_again wanted.mode t view)
again_says wanted Shown w t view one at h = go (is_last t.versions view.version) (length t.versions == 4) refl refl where
  go : (a b : Bool) → is_last t.versions view.version ≡ a → (length t.versions == 4) ≡ b
      → Says wanted Shown w (cond a (Next.Over (Err (faults.Short t.live t.unheard t.broken))) (cond b (Next.Over (Err (faults.Moving (reverse (view.version ∷ t.versions))))) (first_read wanted.mode t.versions view)))
  go true b ea eb = tt
  go false true ea eb =
      let more = seen_more Shown w t.versions view.version one at ea h in
      let four = eqb-true (length t.versions) 4 eb in
      let long = length-reverse (view.version ∷ t.versions) in
      let turned = rising (view.version ∷ t.versions) more.falling in
      record { count = omega (arith, four, long); order = turned.0; shown = λ n i. more.shown n (turned.1 n i) }
  go false false ea eb = reading_says wanted Shown w _ _ (seen_more Shown w t.versions view.version one at ea h)

first_says : (wanted : Wanted) (Shown : ℕ → Type 0) (w : World) (view : View) → Shown view.version → view.version ≡ w.state.manager.version → Says wanted Shown w (first_read wanted.mode [] view)
first_says wanted Shown w view one at = reading_says wanted Shown w _ _ (record { shown = λ n i. elim i [ inl e ↦ subst Shown (sym e) one | inr none ↦ absurd none ]; falling = (λ n i. absurd i, tt); most = λ n i. elim i [ inl e ↦ omega (arith, e, at) | inr none ↦ absurd none ] })

-- a live row of another size
live_says : (wanted : Wanted) (Shown : ℕ → Type 0) (w : World) (t : Try) (home : Home) (left : List Home) (blob_size : ℕ) (bytes : List ℕ) → ((blob_size ≡ wanted.size → ⊥) → HasOtherSize w wanted.bid wanted.size blob_size)
    → AreSeen Shown w t.versions → Says wanted Shown w (hear_live wanted t home left blob_size bytes)
live_says wanted Shown w t home left blob_size bytes other h = go (blob_size == wanted.size) (length bytes == shard_size wanted.mode wanted.size) (t.live + 1 == data_count wanted.mode) refl where
  go : (a b c : Bool) → (blob_size == wanted.size) ≡ a
      → Says wanted Shown w (cond a (cond b (cond c (Next.Over (Ok (decoded wanted (with_shard t home.unit.index bytes).shards))) (reading (with_shard t home.unit.index bytes) left)) (reading t left)) (Next.Over (Err (faults.Size blob_size))))
  go true true true e = tt
  go true true false e = reading_says wanted Shown w (with_shard t home.unit.index bytes) left h
  go true false c e = reading_says wanted Shown w t left h
  go false b c e = other (eqb-false blob_size wanted.size e)

other_size : (origin : Origin) (bid size : ℕ) (w v : World) (unit : Name) (disk blob_size : ℕ) (bytes : List ℕ) → IsDone origin w (events.Send (requests.Read unit disk bid)) (replies.Heard (answers.Live blob_size bytes)) v
    → (blob_size ≡ size → ⊥) → HasOtherSize v bid size blob_size
other_size origin bid size w v unit disk blob_size bytes done other =
    let gives = heard_right origin.vid w.state origin.mode unit disk bid blob_size bytes done.step.reply done.told.reply done.whole in
    size_lasts (shape_of origin) w done.step v bid size blob_size done.leads (record { begun = gives.0; whole = ap (λ (x : PayloadShard). x.blob_size) gives.1; other = other })

read_says : (origin : Origin) (bid size : ℕ) (Shown : ℕ → Type 0) (w v : World) (t : Try) (home : Home) (left : List Home) (reply : Reply) → IsDone origin w (events.Send (requests.Read home.unit home.disk bid)) reply v → AreSeen Shown v t.versions
    → Says (record { mode = origin.mode; bid = bid; size = size }) Shown v (after_read (record { mode = origin.mode; bid = bid; size = size }) t home left reply)
read_says origin bid size Shown w v t home left (replies.Heard (answers.Live blob_size bytes)) done h =
    live_says (record { mode = origin.mode; bid = bid; size = size }) Shown v t home left blob_size bytes (other_size origin bid size w v home.unit home.disk blob_size bytes done) h
read_says origin bid size Shown w v t home left (replies.Heard answer) done h = reading_says (record { mode = origin.mode; bid = bid; size = size }) Shown v t left h
read_says origin bid size Shown w v t home left replies.Unheard done h = reading_says (record { mode = origin.mode; bid = bid; size = size }) Shown v (record t { unheard = t.unheard + 1 }) left h
read_says origin bid size Shown w v t home left replies.Barred done h = reading_says (record { mode = origin.mode; bid = bid; size = size }) Shown v (record t { unheard = t.unheard + 1 }) left h
read_says origin bid size Shown w v t home left replies.Fault done h = reading_says (record { mode = origin.mode; bid = bid; size = size }) Shown v (record t { unheard = t.unheard + 1 }) left h
read_says origin bid size Shown w v t home left (replies.Spoiled place) done h = reading_says (record { mode = origin.mode; bid = bid; size = size }) Shown v (record t { unheard = t.unheard + 1 }) left h
read_says origin bid size Shown w v t home left reply done h = tt

shown_version : (origin : Origin) (w v : World) (event : Event) (view : View) → IsDone origin w event (replies.Seen view) v → view.version ≡ w.state.manager.version
shown_version origin w v event view done = ap (λ (x : View). x.version) (seen_right origin.vid w.state view done.step.reply done.told.reply)

asked_says : (origin : Origin) (bid size : ℕ) (Shown : ℕ → Type 0) (w v : World) (stage : GetStage) (event : Event) (reply : Reply) → ((view : View) → event ≡ events.Look → reply ≡ replies.Seen view → Shown view.version) → event ≡ get_asks (record { mode = origin.mode; bid = bid; size = size }) stage → IsDone origin w event reply v
    → Says (record { mode = origin.mode; bid = bid; size = size }) Shown w (Next.Go stage)
    → Says (record { mode = origin.mode; bid = bid; size = size }) Shown v (get_after (record { mode = origin.mode; bid = bid; size = size }) stage reply)
asked_says origin bid size Shown w v GetStage.First event (replies.Seen view) one asked done says =
    says_lasts (shape_of origin) (record { mode = origin.mode; bid = bid; size = size }) Shown w done.step v _ done.leads (first_says (record { mode = origin.mode; bid = bid; size = size }) Shown w view (one view asked refl) (shown_version origin w v event view done))
asked_says origin bid size Shown w v GetStage.First event replies.Fault one asked done says = tt
asked_says origin bid size Shown w v GetStage.First event (replies.Spoiled place) one asked done says = tt
asked_says origin bid size Shown w v GetStage.First event reply one asked done says = tt
asked_says origin bid size Shown w v (GetStage.Again t) event (replies.Seen view) one asked done says =
    says_lasts (shape_of origin) (record { mode = origin.mode; bid = bid; size = size }) Shown w done.step v _ done.leads (again_says (record { mode = origin.mode; bid = bid; size = size }) Shown w t view (one view asked refl) (shown_version origin w v event view done) says)
asked_says origin bid size Shown w v (GetStage.Again t) event replies.Fault one asked done says = tt
asked_says origin bid size Shown w v (GetStage.Again t) event (replies.Spoiled place) one asked done says = tt
asked_says origin bid size Shown w v (GetStage.Again t) event reply one asked done says = tt
asked_says origin bid size Shown w v (GetStage.Read t home left) event reply one asked done says =
    read_says origin bid size Shown w v t home left reply (subst (λ (e : Event). IsDone origin w e reply v) asked done) (seen_lasts Shown w v t.versions (entry_later (shape_of origin) w done.step v done.leads) says)

comes_says : (origin : Origin) (bid size : ℕ) (Shown : ℕ → Type 0) (w v : World) (from to : GetNext) (parts : List Part) → ((view : View) → IsIn (Part.Asking events.Look (replies.Seen view)) parts → Shown view.version) → Comes (get_call (record { mode = origin.mode; bid = bid; size = size })) from parts to → PartsLead origin w parts v
    → Says (record { mode = origin.mode; bid = bid; size = size }) Shown w from → Says (record { mode = origin.mode; bid = bid; size = size }) Shown v to
comes_says origin bid size Shown w v from to [] all comes leads says =
    subst (Says (record { mode = origin.mode; bid = bid; size = size }) Shown v) (sym comes) (subst (λ x. Says (record { mode = origin.mode; bid = bid; size = size }) Shown x from) (sym leads) says)
comes_says origin bid size Shown w v from to (Part.Beside trace ∷ parts) all comes leads says =
    comes_says origin bid size Shown leads.0 v from to parts (λ view i. all view (inr i)) comes leads.2 (says_lasts (shape_of origin) (record { mode = origin.mode; bid = bid; size = size }) Shown w leads.1.step leads.0 from leads.1.leads says)
comes_says origin bid size Shown w v from to (Part.Settling trace ∷ parts) all comes leads says =
    comes_says origin bid size Shown leads.0 v from to parts (λ view i. all view (inr i)) comes leads.2 (says_lasts (shape_of origin) (record { mode = origin.mode; bid = bid; size = size }) Shown w leads.1.step leads.0 from leads.1.leads says)
comes_says origin bid size Shown w v (Next.Go stage) to (Part.Asking event reply ∷ parts) all comes leads says =
    comes_says origin bid size Shown leads.0 v (get_after (record { mode = origin.mode; bid = bid; size = size }) stage reply) to parts (λ view i. all view (inr i)) comes.1 leads.2
    (asked_says origin bid size Shown w leads.0 stage event reply (λ view e r. all view (inl (ap (λ x. Part.Asking x (replies.Seen view)) (sym e) ∙ ap (λ x. Part.Asking event x) (sym r)))) comes.0 leads.1 says)
comes_says origin bid size Shown w v (Next.Over given) to (Part.Asking event reply ∷ parts) all comes leads says = absurd comes
comes_says origin bid size Shown w v Next.Never to (Part.Asking event reply ∷ parts) all comes leads says = absurd comes

-- ---- looks that fail

-- the fault is one that only a look gives, and this reply gives it
abbrev LookFails : Reply → Result (List ℕ) GetFault → Type 0
LookFails replies.Fault (Err faults.Fault) = Unit {0}
LookFails (replies.Spoiled place) (Err (faults.Spoiled at)) = at ≡ place
LookFails reply given = ⊥

abbrev IsLookFault : Result (List ℕ) GetFault → Type 0
IsLookFault (Err faults.Fault) = Unit {0}
IsLookFault (Err (faults.Spoiled place)) = Unit {0}
IsLookFault given = ⊥

-- where the call is over, it isn't by such a fault
abbrev IsNoLookFault : GetNext → Type 0
IsNoLookFault (Next.Over given) = IsLookFault given → ⊥
IsNoLookFault next = Unit {0}

-- a look in this stretch gives the fault
record HasLook (parts : List Part) (answer : Result (List ℕ) GetFault) : Type 0 where
  reply : Reply
  there : IsIn (Part.Asking events.Look reply) parts
  fails : LookFails reply answer

look_later : (part : Part) (parts : List Part) (answer : Result (List ℕ) GetFault) → HasLook parts answer → HasLook (part ∷ parts) answer
look_later part parts answer h = record { reply = h.reply; there = inr h.there; fails = h.fails }

reading_free : (t : Try) (left : List Home) → IsNoLookFault (reading t left)
reading_free t [] = tt
reading_free t (home ∷ left) = tt

live_free : (wanted : Wanted) (t : Try) (home : Home) (left : List Home) (blob_size : ℕ) (bytes : List ℕ) → IsNoLookFault (hear_live wanted t home left blob_size bytes)
live_free wanted t home left blob_size bytes = go (blob_size == wanted.size) (length bytes == shard_size wanted.mode wanted.size) (t.live + 1 == data_count wanted.mode) where
  go : (a b c : Bool) → IsNoLookFault (cond a (cond b (cond c (Next.Over (Ok (decoded wanted (with_shard t home.unit.index bytes).shards))) (reading (with_shard t home.unit.index bytes) left)) (reading t left)) (Next.Over (Err (faults.Size blob_size))))
  go true true true = λ h. h
  go true true false = reading_free (with_shard t home.unit.index bytes) left
  go true false c = reading_free t left
  go false b c = λ h. h

read_free : (wanted : Wanted) (t : Try) (home : Home) (left : List Home) (reply : Reply) → IsNoLookFault (after_read wanted t home left reply)
read_free wanted t home left (replies.Heard (answers.Live blob_size bytes)) = live_free wanted t home left blob_size bytes
read_free wanted t home left (replies.Heard answer) = reading_free t left
read_free wanted t home left replies.Unheard = reading_free (record t { unheard = t.unheard + 1 }) left
read_free wanted t home left replies.Barred = reading_free (record t { unheard = t.unheard + 1 }) left
read_free wanted t home left replies.Fault = reading_free (record t { unheard = t.unheard + 1 }) left
read_free wanted t home left (replies.Spoiled place) = reading_free (record t { unheard = t.unheard + 1 }) left
read_free wanted t home left reply = tt

again_free : (wanted : Wanted) (t : Try) (view : View) → IsNoLookFault (look_again wanted.mode t view)
again_free wanted t view = go (is_last t.versions view.version) (length t.versions == 4) where
  go : (a b : Bool) → IsNoLookFault (cond a (Next.Over (Err (faults.Short t.live t.unheard t.broken))) (cond b (Next.Over (Err (faults.Moving (reverse (view.version ∷ t.versions))))) (first_read wanted.mode t.versions view)))
  go true b = λ h. h
  go false true = λ h. h
  go false false = reading_free _ _

-- a look that failed ended the call
failed_there : (wanted : Wanted) (event : Event) (reply : Reply) (given : Result (List ℕ) GetFault) (parts : List Part) (answer : Result (List ℕ) GetFault) → event ≡ events.Look → LookFails reply given
    → IsRest (get_call wanted) (Next.Over given) parts answer → HasLook (Part.Asking event reply ∷ parts) answer
failed_there wanted event reply given parts answer e fails h = record {
  reply = reply;
  there = inl (ap (λ x. Part.Asking x reply) (sym e));
  fails = subst (LookFails reply) (sym (over_answer (get_call wanted) given parts answer h)) fails;
}

look_found : (wanted : Wanted) (from : GetNext) (parts : List Part) (answer : Result (List ℕ) GetFault) → IsLookFault answer → IsNoLookFault from → IsRest (get_call wanted) from parts answer → HasLook parts answer
look_found wanted (Next.Over given) parts answer is free h = absurd (free (subst IsLookFault (over_answer (get_call wanted) given parts answer h) is))
look_found wanted Next.Never parts answer is free h = absurd (never_answers (get_call wanted) parts answer h)
look_found wanted (Next.Go stage) [] answer is free h = absurd h
look_found wanted (Next.Go stage) (Part.Beside trace ∷ parts) answer is free h = look_later (Part.Beside trace) parts answer (look_found wanted (Next.Go stage) parts answer is free h)
look_found wanted (Next.Go stage) (Part.Settling trace ∷ parts) answer is free h = look_later (Part.Settling trace) parts answer (look_found wanted (Next.Go stage) parts answer is free h)
look_found wanted (Next.Go (GetStage.Read t home left)) (Part.Asking event reply ∷ parts) answer is free h =
    look_later (Part.Asking event reply) parts answer (look_found wanted (after_read wanted t home left reply) parts answer is (read_free wanted t home left reply) h.1)
look_found wanted (Next.Go GetStage.First) (Part.Asking event (replies.Seen view) ∷ parts) answer is free h =
    look_later (Part.Asking event (replies.Seen view)) parts answer (look_found wanted (first_read wanted.mode [] view) parts answer is (reading_free _ _) h.1)
look_found wanted (Next.Go GetStage.First) (Part.Asking event replies.Fault ∷ parts) answer is free h = failed_there wanted event replies.Fault (Err faults.Fault) parts answer h.0 tt h.1
look_found wanted (Next.Go GetStage.First) (Part.Asking event (replies.Spoiled place) ∷ parts) answer is free h = failed_there wanted event (replies.Spoiled place) (Err (faults.Spoiled place)) parts answer h.0 refl h.1
look_found wanted (Next.Go GetStage.First) (Part.Asking event reply ∷ parts) answer is free h = absurd (never_answers (get_call wanted) parts answer h.1)
look_found wanted (Next.Go (GetStage.Again t)) (Part.Asking event (replies.Seen view) ∷ parts) answer is free h =
    look_later (Part.Asking event (replies.Seen view)) parts answer (look_found wanted (look_again wanted.mode t view) parts answer is (again_free wanted t view) h.1)
look_found wanted (Next.Go (GetStage.Again t)) (Part.Asking event replies.Fault ∷ parts) answer is free h = failed_there wanted event replies.Fault (Err faults.Fault) parts answer h.0 tt h.1
look_found wanted (Next.Go (GetStage.Again t)) (Part.Asking event (replies.Spoiled place) ∷ parts) answer is free h = failed_there wanted event (replies.Spoiled place) (Err (faults.Spoiled place)) parts answer h.0 refl h.1
look_found wanted (Next.Go (GetStage.Again t)) (Part.Asking event reply ∷ parts) answer is free h = absurd (never_answers (get_call wanted) parts answer h.1)

fault_there : (parts : List Part) (reply : Reply) → LookFails reply (Err faults.Fault) → IsIn (Part.Asking events.Look reply) parts → IsIn (Part.Asking events.Look replies.Fault) parts
fault_there parts replies.Fault fails i = i
fault_there parts reply fails i = absurd fails

spoiled_there : (parts : List Part) (place : ℕ) (reply : Reply) → LookFails reply (Err (faults.Spoiled place)) → IsIn (Part.Asking events.Look reply) parts → IsIn (Part.Asking events.Look (replies.Spoiled place)) parts
spoiled_there parts place (replies.Spoiled at) fails i = subst (λ n. IsIn (Part.Asking events.Look (replies.Spoiled n)) parts) (sym fails) i
spoiled_there parts place reply fails i = absurd fails

-- ---- no cause

in_front : (x : Part) (xs ys : List Part) → IsIn x xs → IsIn x (xs ++ ys)
in_front x [] ys i = absurd i
in_front x (y ∷ xs) ys i = elim i [ inl e ↦ inl e | inr there ↦ inr (in_front x xs ys there) ]

in_back : (x : Part) (xs ys : List Part) → IsIn x ys → IsIn x (xs ++ ys)
in_back x [] ys i = i
in_back x (y ∷ xs) ys i = inr (in_back x xs ys i)

pub parts_acked : (origin : Origin) (bid : ℕ) (w : World) (parts : List Part) (v : World) → PartsLead origin w parts v → is_acked (w.state.puts.status bid) ≡ true → is_acked (v.state.puts.status bid) ≡ true
parts_acked origin bid w [] v h acked = ap (λ (x : World). is_acked (x.state.puts.status bid)) h ∙ acked
parts_acked origin bid w (part ∷ parts) v h acked =
    let one = part_step origin w part h.0 h.1 in
    parts_acked origin bid h.0 parts v h.2 (entry_lasts (shape_of origin) (λ s. is_acked (s.puts.status bid) ≡ true) (acked_lasts (shape_of origin) bid) w one.0 h.0 one.1 acked)

no_cause : (origin : Origin) (bid : ℕ) (w : World) (parts : List Part) (v : World) (last : LastTry origin w parts v) → IsAvailable origin bid w parts v → Cause origin bid last.reads last.at_first.state last.at_second.state → ⊥
no_cause origin bid w parts v last there (Cause.Failed failed) =
    let look = Part.Asking events.Look (replies.Seen last.first) in
    let again = Part.Asking events.Look (replies.Seen last.second) in
    let part = Part.Asking (events.Send (requests.Read failed.unit failed.disk bid)) failed.reply in
    there.heard (record {
      unit = failed.unit;
      disk = failed.disk;
      reply = failed.reply;
      failed = failed.failed;
      there = subst (IsIn part) (sym last.split) (in_back part last.before (look ∷ (last.reads ++ (again ∷ last.after))) (inr (in_front part last.reads (again ∷ last.after) failed.there)));
    })
no_cause origin bid w parts v last there (Cause.Broken many) =
    let look = Part.Asking events.Look (replies.Seen last.first) in
    let again = Part.Asking events.Look (replies.Seen last.second) in
    many (there.few_broken (last.before ++ (look ∷ last.reads)) (again ∷ last.after) last.at_second (last.split ∙ sym (append_assoc last.before (look ∷ last.reads) (again ∷ last.after)))
    (leads_on origin w last.at_first last.at_second last.before (look ∷ last.reads) last.comes last.tries) last.goes)
no_cause origin bid w parts v last there (Cause.Unacked unacked) = contrary (is_acked (last.at_first.state.puts.status bid)) (parts_acked origin bid w last.before last.at_first last.comes there.acked) unacked
no_cause origin bid w parts v last there (Cause.Asked asked) =
    let again = Part.Asking events.Look (replies.Seen last.second) in
    let later = parts_later origin last.at_second (again ∷ last.after) v last.goes in
    contrary (is_in bid v.state.manager.asked) (later.manager.asked bid asked) there.unasked

shown_there : (parts : List Part) (view : View) → IsIn (Part.Asking events.Look (replies.Seen view)) parts → WasShown parts view.version
shown_there parts view i = record { view = view; there = i; same = refl }

pub gets_give_the_blob : GetsGiveTheBlob
gets_give_the_blob origin bid size (Ok bytes) parts w v possible call leads there =
    let wanted : Wanted = record { mode = origin.mode; bid = bid; size = size } in
    ends_right origin wanted w v bytes parts refl (possible_kept origin w possible) (rest_comes (get_call wanted) (Next.Go GetStage.First) parts (Ok bytes) call) leads
gets_give_the_blob origin bid size (Err (faults.Size kept)) parts w v possible call leads there =
    let wanted : Wanted = record { mode = origin.mode; bid = bid; size = size } in
    comes_says origin bid size (WasShown parts) w v (Next.Go GetStage.First) (Next.Over (Err (faults.Size kept))) parts (shown_there parts) (rest_comes (get_call wanted) (Next.Go GetStage.First) parts (Err (faults.Size kept)) call) leads tt
gets_give_the_blob origin bid size (Err (faults.Moving versions)) parts w v possible call leads there =
    let wanted : Wanted = record { mode = origin.mode; bid = bid; size = size } in
    let five = comes_says origin bid size (WasShown parts) w v (Next.Go GetStage.First) (Next.Over (Err (faults.Moving versions))) parts (shown_there parts) (rest_comes (get_call wanted) (Next.Go GetStage.First) parts (Err (faults.Moving versions)) call) leads tt in
    record { count = five.count; order = five.order; shown = five.shown }
gets_give_the_blob origin bid size (Err faults.Fault) parts w v possible call leads there =
    let look = look_found (record { mode = origin.mode; bid = bid; size = size }) (Next.Go GetStage.First) parts (Err faults.Fault) tt tt call in
    fault_there parts look.reply look.fails look.there
gets_give_the_blob origin bid size (Err (faults.Spoiled place)) parts w v possible call leads there =
    let look = look_found (record { mode = origin.mode; bid = bid; size = size }) (Next.Go GetStage.First) parts (Err (faults.Spoiled place)) tt tt call in
    spoiled_there parts place look.reply look.fails look.there
gets_give_the_blob origin bid size (Err faults.HistoryFull) parts w v possible call leads there = tt
gets_give_the_blob origin bid size (Err faults.Memory) parts w v possible call leads there = tt
gets_give_the_blob origin bid size (Err (faults.Short live unheard broken)) parts w v possible call leads there =
    let short = short_gets_have_a_cause origin bid size live unheard broken parts w v possible call leads in
    no_cause origin bid w parts v short.0 there short.1
