-- A try that misses has read each unit that isn't shown as broken, and counts as live those that are good.
use Rattle.std.proofs.Common.{◌≡◌, ℕ, zero, suc, ◌+◌, ◌<◌, ◌≤◌, ◌⊎◌, inl, inr, Bool, true, false, not, cond, List, [], ◌∷◌, length, Ok, Err, refl, sym, ◌∙◌, ap, subst, arith}
use Rattle.std.specs.Prelude.{◌==◌}
use Rattle.unit_id.specs.Lists.{is_in, count_below}
use Rattle.unit_id.specs.Place.{Location, at_home}
use Rattle.unit_id.specs.Messages.{place_at}
use Rattle.unit_id.specs.declared.homes.Home.{Home}
use Rattle.unit_id.specs.declared.request.Request.TheVariants as requests
use Rattle.unit_id.specs.declared.answer.Answer.TheVariants as answers
use Rattle.unit_id.proofs.Bools.{contrary, either, equal_test, not_so}
use Rattle.std.proofs.lemmas.Bool.{eqb-true}
use Rattle.code_mode.specs.Mode.{data_count, total_count, shard_size}
use Rattle.code_mode.proofs.Numbers.{sound_shapes}
use Rattle.code_mode.specs.VolumeShape.{VolumeShape}
use Rattle.blob_node.specs.Units.{is_live}
use Rattle.volume_entry.specs.Manager.{home_at, current}
use Rattle.volume_entry.specs.View.{homes_shown}
use Rattle.volume_world.specs.State.{State}
use Rattle.volume_world.specs.Run.{World}
use Rattle.volume_world.specs.Way.{Origin, shape_of}
use Rattle.volume_world.specs.Course.{Part, IsDone, PartsLead}
use Rattle.volume_world.specs.Call.{Next}
use Rattle.volume_world.specs.Progress.{Comes}
use Rattle.volume_world.specs.declared.event.Event.{Event}
use Rattle.volume_world.specs.declared.event.Event.TheVariants as events
use Rattle.volume_world.specs.declared.reply.Reply.{Reply}
use Rattle.volume_world.specs.declared.reply.Reply.TheVariants as replies
use Rattle.blob_access.specs.declared.fault.GetFault.TheVariants as faults
use Rattle.blob_access.specs.GetCall.{Wanted, Try, GetStage, GetNext, get_call, unbroken, reading, decoded, with_shard, hear_live, after_read}
use Rattle.blob_access.specs.Causes.{is_failed, HasFailedRead, HasNoLook}
use Rattle.blob_access.proofs.Later.{IsLater, parts_later, between}
use Rattle.blob_access.proofs.LiveRows.{IsAfter, entry_after}
use Rattle.blob_access.proofs.HeardReads.{IsGood, IsGoodReply, IsSendReply, read_good}

-- how many of these units have an index that passes
abbrev pub goods : (ℕ → Bool) → List Home → ℕ
goods good [] = 0
goods good (home ∷ homes) = cond (good home.unit.index) 1 0 + goods good homes

-- current units by these homes
abbrev pub AreCurrent : List Location → ℕ → List Home → Type 0
AreCurrent present total [] = Unit {0}
AreCurrent present total (home ∷ homes) = (home.unit.index < total) × (place_at home.unit home.disk ≡ current present home.unit.index) × AreCurrent present total homes

-- all units that pass are counted as live, or left to be read
pub record IsCounted (wanted : Wanted) (good : ℕ → Bool) (present : List Location) (t : Try) (left : List Home) : Type 0 where
  pub few : t.live < data_count wanted.mode
  pub most : count_below (total_count wanted.mode) good ≤ t.live + goods good left
  pub there : AreCurrent present (total_count wanted.mode) left

abbrev pub StageCounts : Wanted → (ℕ → Bool) → List Location → GetNext → Type 0
StageCounts wanted good present (Next.Go GetStage.First) = Unit {0}
StageCounts wanted good present (Next.Go (GetStage.Again t)) = IsCounted wanted good present t []
StageCounts wanted good present (Next.Go (GetStage.Read t home left)) = IsCounted wanted good present t (home ∷ left)
StageCounts wanted good present (Next.Over given) = Unit {0}
StageCounts wanted good present Next.Never = Unit {0}

pub reading_counts : (wanted : Wanted) (good : ℕ → Bool) (present : List Location) (t : Try) (left : List Home) → IsCounted wanted good present t left → StageCounts wanted good present (reading t left)
reading_counts wanted good present t [] h = h
reading_counts wanted good present t (home ∷ left) h = h

-- ---- what a look shows

pub shown_goods : (good : ℕ → Bool) (vid index : ℕ) (broken : ℕ → Bool) (homes : List Location) → ((k : ℕ) → k < length homes → good (index + k) ≡ true → broken (home_at homes k).disk ≡ false)
    → count_below (index + length homes) good ≤ count_below index good + goods good (unbroken (homes_shown vid index broken homes))
shown_goods good vid index broken [] h = let e : count_below (index + 0) good ≡ count_below index good = ap (λ n. count_below n good) (omega arith) in omega (arith, e)
shown_goods good vid index broken (home ∷ homes) h =
    let later : (k : ℕ) → k < length homes → good (suc index + k) ≡ true → broken (home_at homes k).disk ≡ false = λ k below g. h (suc k) (omega (arith, below)) (ap good (omega arith) ∙ g) in
    let rest = shown_goods good vid (suc index) broken homes later in
    let same : count_below (index + suc (length homes)) good ≡ count_below (suc index + length homes) good = ap (λ n. count_below n good) (omega arith) in
    let here : good index ≡ true → broken home.disk ≡ false = λ g. h 0 (omega arith) (ap good (omega arith) ∙ g) in
    go (broken home.disk) here rest same where
      go : (test : Bool) → (good index ≡ true → test ≡ false) → count_below (suc index + length homes) good ≤ count_below (suc index) good + goods good (unbroken (homes_shown vid (suc index) broken homes))
          → count_below (index + suc (length homes)) good ≡ count_below (suc index + length homes) good
          → count_below (index + suc (length homes)) good ≤ count_below index good
          + goods good (cond (not test) (record { unit = record { vid = vid; index = index; epoch = home.epoch }; disk = home.disk; broken = broken home.disk } ∷ unbroken (homes_shown vid (suc index) broken homes)) (unbroken (homes_shown vid (suc index) broken homes)))
      go true here rest same =
          let none : good index ≡ false = not_so (good index) (λ g. let x = here g in cc) in
          let zero_here : cond {A = ℕ} (good index) 1 0 ≡ 0 = ap (λ b. cond {A = ℕ} b 1 0) none in
          omega (arith, rest, same, zero_here)
      go false here rest same = omega (arith, rest, same)

pub shown_current : (present : List Location) (total vid index : ℕ) (broken : ℕ → Bool) (homes : List Location) → index + length homes ≤ total → ((k : ℕ) → k < length homes → home_at present (index + k) ≡ home_at homes k)
    → AreCurrent present total (unbroken (homes_shown vid index broken homes))
shown_current present total vid index broken [] within h = tt
shown_current present total vid index broken (home ∷ homes) within h =
    let rest = shown_current present total vid (suc index) broken homes (omega (arith, within)) (λ k below. ap (home_at present) (omega arith) ∙ h (suc k) (omega (arith, below))) in
    let here : home_at present index ≡ home = ap (home_at present) (omega arith) ∙ h 0 (omega arith) in
    go (broken home.disk) (omega (arith, within)) here rest where
      go : (test : Bool) → index < total → home_at present index ≡ home → AreCurrent present total (unbroken (homes_shown vid (suc index) broken homes))
          → AreCurrent present total (cond (not test) (record { unit = record { vid = vid; index = index; epoch = home.epoch }; disk = home.disk; broken = broken home.disk } ∷ unbroken (homes_shown vid (suc index) broken homes)) (unbroken (homes_shown vid (suc index) broken homes)))
      go true below here rest = rest
      go false below here rest = (below, ap (at_home index) (sym here), rest)

-- ---- one read

-- a unit that doesn't pass
passed_over : (wanted : Wanted) (good : ℕ → Bool) (present : List Location) (t : Try) (unheard : ℕ) (home : Home) (left : List Home) → good home.unit.index ≡ false → IsCounted wanted good present t (home ∷ left)
    → IsCounted wanted good present (record t { unheard = unheard }) left
passed_over wanted good present t unheard home left none h =
    let zero_here : cond {A = ℕ} (good home.unit.index) 1 0 ≡ 0 = ap (λ b. cond {A = ℕ} b 1 0) none in
    let most = h.most in
    record { few = h.few; most = omega (arith, most, zero_here); there = h.there.2 }

one_most : (b : Bool) → cond {A = ℕ} b 1 0 ≤ 1
one_most true = omega arith
one_most false = omega arith

counted_more : (wanted : Wanted) (good : ℕ → Bool) (present : List Location) (t : Try) (home : Home) (left : List Home) (bytes : List ℕ) → (t.live + 1 == data_count wanted.mode) ≡ false → IsCounted wanted good present t (home ∷ left)
    → IsCounted wanted good present (with_shard t home.unit.index bytes) left
counted_more wanted good present t home left bytes more h =
    let few = h.few in
    let most = h.most in
    let one = one_most (good home.unit.index) in
    record { few = less (t.live + 1) (data_count wanted.mode) (omega (arith, few)) more; most = omega (arith, most, one); there = h.there.2 } where
      less : (a b : ℕ) → a ≤ b → a == b ≡ false → a < b
      less a b h e = elim (either_less a b h) [ inl below ↦ below | inr same ↦ absurd (contrary (a == b) (equal_test a b same) e) ] where
        either_less : (a b : ℕ) → a ≤ b → (a < b) ⊎ (a ≡ b)
        either_less zero zero h = inr refl
        either_less zero (suc b) h = inl (omega arith)
        either_less (suc a) zero h = absurd (omega (arith, h))
        either_less (suc a) (suc b) h = elim (either_less a b (omega (arith, h))) [ inl x ↦ inl (omega (arith, x)) | inr e ↦ inr (ap suc e) ]

live_counts : (wanted : Wanted) (good : ℕ → Bool) (present : List Location) (t : Try) (home : Home) (left : List Home) (blob_size : ℕ) (bytes : List ℕ)
    → (good home.unit.index ≡ true → length bytes ≡ shard_size wanted.mode blob_size) → IsCounted wanted good present t (home ∷ left) → StageCounts wanted good present (hear_live wanted t home left blob_size bytes)
live_counts wanted good present t home left blob_size bytes right h =
    go (blob_size == wanted.size) (length bytes == shard_size wanted.mode wanted.size) (t.live + 1 == data_count wanted.mode) refl refl refl where
      go : (a b c : Bool) → (blob_size == wanted.size) ≡ a → (length bytes == shard_size wanted.mode wanted.size) ≡ b → (t.live + 1 == data_count wanted.mode) ≡ c
          → StageCounts wanted good present (cond a (cond b (cond c (Next.Over (Ok (decoded wanted (with_shard t home.unit.index bytes).shards))) (reading (with_shard t home.unit.index bytes) left)) (reading t left)) (Next.Over (Err (faults.Size blob_size))))
      go true true true ea eb ec = tt
      go true true false ea eb ec = reading_counts wanted good present (with_shard t home.unit.index bytes) left (counted_more wanted good present t home left bytes ec h)
      go true false c ea eb ec =
          let other : good home.unit.index ≡ false = not_so (good home.unit.index) (λ g. contrary (length bytes == shard_size wanted.mode wanted.size)
          (equal_test (length bytes) (shard_size wanted.mode wanted.size) (right g ∙ ap (shard_size wanted.mode) (eqb-true blob_size wanted.size ea))) eb) in
          reading_counts wanted good present t left (passed_over wanted good present t t.unheard home left other h)
      go false b c ea eb ec = tt

unheard_counts : (wanted : Wanted) (good : ℕ → Bool) (present : List Location) (t : Try) (unheard : ℕ) (home : Home) (left : List Home) (reply : Reply) → is_failed reply ≡ false → (good home.unit.index ≡ true → is_failed reply ≡ true)
    → IsCounted wanted good present t (home ∷ left) → StageCounts wanted good present (reading (record t { unheard = unheard }) left)
unheard_counts wanted good present t unheard home left reply whole failed h =
    let other : good home.unit.index ≡ false = not_so (good home.unit.index) (λ g. contrary (is_failed reply) (failed g) whole) in
    reading_counts wanted good present (record t { unheard = unheard }) left (passed_over wanted good present t unheard home left other h)

read_counts : (wanted : Wanted) (good : ℕ → Bool) (present : List Location) (t : Try) (home : Home) (left : List Home) (reply : Reply) → is_failed reply ≡ false
    → (good home.unit.index ≡ true → IsSendReply reply → IsGoodReply wanted.mode reply) → IsCounted wanted good present t (home ∷ left) → StageCounts wanted good present (after_read wanted t home left reply)
read_counts wanted good present t home left (replies.Heard (answers.Live blob_size bytes)) whole right h = live_counts wanted good present t home left blob_size bytes (λ g. right g tt) h
read_counts wanted good present t home left (replies.Heard answer) whole right h = unheard_counts wanted good present t t.unheard home left (replies.Heard answer) whole (λ g. right g tt) h
read_counts wanted good present t home left replies.Unheard whole right h = unheard_counts wanted good present t (t.unheard + 1) home left replies.Unheard whole (λ g. right g tt) h
read_counts wanted good present t home left replies.Barred whole right h = unheard_counts wanted good present t (t.unheard + 1) home left replies.Barred whole (λ g. right g tt) h
read_counts wanted good present t home left replies.Fault whole right h = unheard_counts wanted good present t (t.unheard + 1) home left replies.Fault whole (λ g. right g tt) h
read_counts wanted good present t home left (replies.Spoiled place) whole right h = unheard_counts wanted good present t (t.unheard + 1) home left (replies.Spoiled place) whole (λ g. right g tt) h
read_counts wanted good present t home left reply whole right h = tt

-- ---- a try

-- the indexes that pass: unbroken to the end of the try, and with a live row at its begin
pub record AreGood (a c : State) (bid : ℕ) (good : ℕ → Bool) : Type 0 where
  pub version : c.manager.version ≡ a.manager.version
  pub unasked : is_in bid c.manager.asked ≡ false
  pub unbroken : (i : ℕ) → good i ≡ true → c.broken (home_at a.manager.homes i).disk ≡ false
  pub live : (i : ℕ) → good i ≡ true → is_live (a.units.row (current a.manager.homes i) bid) ≡ true

still_good : (shape : VolumeShape) (a u c : State) (bid : ℕ) (good : ℕ → Bool) (i : ℕ) → IsAfter shape a u → IsLater u c → AreGood a c bid good → i < shape.total → good i ≡ true
    → IsGood shape.total u bid i × (u.manager.homes ≡ a.manager.homes)
still_good shape a u c bid good i after later all below g =
    let level = between a.manager u.manager c.manager after.later.manager later.manager all.version in
    let unasked = not_so (is_in bid u.manager.asked) (λ x. contrary (is_in bid c.manager.asked) (later.manager.asked bid x) all.unasked) in (
      record {
        below = below;
        unbroken = ap (λ homes. u.broken (home_at homes i).disk) level.1
            ∙ not_so (u.broken (home_at a.manager.homes i).disk) (λ x. contrary (c.broken (home_at a.manager.homes i).disk) (later.broken (home_at a.manager.homes i).disk x) (all.unbroken i g));
        live = ap (λ homes. is_live (u.units.row (current homes i) bid)) level.1 ∙ after.rows bid i unasked level.0 (all.live i g);
      },
      level.1,
    )

failed_later : (bid : ℕ) (part : Part) (parts : List Part) → HasFailedRead bid parts → HasFailedRead bid (part ∷ parts)
failed_later bid part parts h = record { unit = h.unit; disk = h.disk; reply = h.reply; there = inr h.there; failed = h.failed }

or_failed_later : (bid : ℕ) (part : Part) (parts : List Part) (A : Type 0) → HasFailedRead bid parts ⊎ A → HasFailedRead bid (part ∷ parts) ⊎ A
or_failed_later bid part parts A (inl h) = inl (failed_later bid part parts h)
or_failed_later bid part parts A (inr h) = inr h

-- one read of a unit
asked_counts : (origin : Origin) (bid size : ℕ) (good : ℕ → Bool) (a c : State) (w v : World) (t : Try) (home : Home) (left : List Home) (reply : Reply) → IsAfter (shape_of origin) a w.state → IsLater w.state c → AreGood a c bid good
    → is_failed reply ≡ false → IsDone origin w (events.Send (requests.Read home.unit home.disk bid)) reply v → IsCounted (record { mode = origin.mode; bid = bid; size = size }) good a.manager.homes t (home ∷ left)
    → StageCounts (record { mode = origin.mode; bid = bid; size = size }) good a.manager.homes (after_read (record { mode = origin.mode; bid = bid; size = size }) t home left reply)
asked_counts origin bid size good a c w v t home left reply after later all whole done counts =
    read_counts (record { mode = origin.mode; bid = bid; size = size }) good a.manager.homes t home left reply whole
    (λ g sent.
    let still = still_good (shape_of origin) a w.state c bid good home.unit.index after later all counts.there.0 g in
    read_good origin w v home.unit home.disk bid home.unit.index reply after.kept still.0 (counts.there.1 ∙ ap (λ homes. current homes home.unit.index) (sym still.1)) done sent)
    counts

-- over a stretch without looks: a read fails, or the units that pass are counted
pub comes_counts : (origin : Origin) (bid size : ℕ) (good : ℕ → Bool) (a : State) (c w : World) (from to : GetNext) (parts : List Part) → IsAfter (shape_of origin) a w.state → AreGood a c.state bid good
    → Comes (get_call (record { mode = origin.mode; bid = bid; size = size })) from parts to → HasNoLook parts → PartsLead origin w parts c
    → StageCounts (record { mode = origin.mode; bid = bid; size = size }) good a.manager.homes from
    → HasFailedRead bid parts ⊎ StageCounts (record { mode = origin.mode; bid = bid; size = size }) good a.manager.homes to
comes_counts origin bid size good a c w from to [] after all comes none leads counts =
    inr (subst (StageCounts (record { mode = origin.mode; bid = bid; size = size }) good a.manager.homes) (sym comes) counts)
comes_counts origin bid size good a c w from to (Part.Beside trace ∷ parts) after all comes none leads counts =
    let next = entry_after (shape_of origin) a w leads.1.step leads.0 (sound_shapes origin.mode origin.disks) leads.1.leads after in
    or_failed_later bid (Part.Beside trace) parts _ (comes_counts origin bid size good a c leads.0 from to parts next all comes (λ reply i. none reply (inr i)) leads.2 counts)
comes_counts origin bid size good a c w from to (Part.Settling trace ∷ parts) after all comes none leads counts =
    let next = entry_after (shape_of origin) a w leads.1.step leads.0 (sound_shapes origin.mode origin.disks) leads.1.leads after in
    or_failed_later bid (Part.Settling trace) parts _ (comes_counts origin bid size good a c leads.0 from to parts next all comes (λ reply i. none reply (inr i)) leads.2 counts)
comes_counts origin bid size good a c w (Next.Over given) to (Part.Asking event reply ∷ parts) after all comes none leads counts = absurd comes
comes_counts origin bid size good a c w Next.Never to (Part.Asking event reply ∷ parts) after all comes none leads counts = absurd comes
comes_counts origin bid size good a c w (Next.Go GetStage.First) to (Part.Asking event reply ∷ parts) after all comes none leads counts = absurd (none reply (inl (ap (λ e. Part.Asking e reply) (sym comes.0))))
comes_counts origin bid size good a c w (Next.Go (GetStage.Again t)) to (Part.Asking event reply ∷ parts) after all comes none leads counts = absurd (none reply (inl (ap (λ e. Part.Asking e reply) (sym comes.0))))
comes_counts origin bid size good a c w (Next.Go (GetStage.Read t home left)) to (Part.Asking event reply ∷ parts) after all comes none leads counts = elim (either (is_failed reply)) [
  | inl failed ↦ inl (record { unit = home.unit; disk = home.disk; reply = reply; there = inl (ap (λ e. Part.Asking e reply) (sym comes.0)); failed = failed })
  | inr whole ↦
      let next = entry_after (shape_of origin) a w leads.1.step leads.0 (sound_shapes origin.mode origin.disks) leads.1.leads after in
      let later = parts_later origin w (Part.Asking event reply ∷ parts) c leads in
      let counted = asked_counts origin bid size good a c.state w leads.0 t home left reply after later all whole (subst (λ (e : Event). IsDone origin w e reply leads.0) comes.0 leads.1) counts in
      or_failed_later bid (Part.Asking event reply) parts _
      (comes_counts origin bid size good a c leads.0 (after_read (record { mode = origin.mode; bid = bid; size = size }) t home left reply) to parts next all comes.1 (λ reply i. none reply (inr i)) leads.2 counted)
]
