-- Why a get heard too few shards: of the units that hold the blob when the last try begins, as many as there are data shards stay on unbroken
-- disks and are read.
use Rattle.std.proofs.Common.{◌≡◌, ℕ, zero, suc, ◌+◌, ◌<◌, ◌≤◌, ◌⊎◌, inl, inr, Bool, true, false, not, List, [], ◌∷◌, ◌++◌, length, refl, sym, ◌∙◌, ap, subst, arith}
use Rattle.std.specs.Prelude.{◌&&◌, ◌||◌, replicate, None}
use Rattle.unit_id.specs.Lists.{is_in, count_below}
use Rattle.unit_id.specs.declared.homes.Home.{Home}
use Rattle.unit_id.proofs.Bools.{and_left, and_right, and_both, or_cases, or_left, or_right, contrary, either, not_so, not_true, true_not}
use Rattle.unit_id.proofs.Counts.{count_either}
use Rattle.code_mode.specs.Mode.{data_count, total_count}
use Rattle.code_mode.proofs.Numbers.{sound_shapes}
use Rattle.blob_node.specs.Units.{is_live}
use Rattle.volume_entry.specs.Manager.{home_at, current}
use Rattle.volume_entry.specs.View.{homes_shown}
use Rattle.volume_entry.specs.ShownView.{view_shown}
use Rattle.volume_entry.specs.declared.view.View.{View}
use Rattle.volume_world.specs.State.{State}
use Rattle.volume_world.specs.BlobStatus.{is_acked, lacks, lacking}
use Rattle.volume_world.specs.Run.{World}
use Rattle.volume_world.specs.Invariant.{Kept}
use Rattle.volume_world.specs.Way.{Origin, shape_of}
use Rattle.volume_world.specs.Course.{Part, IsDone, PartsLead}
use Rattle.volume_world.specs.Call.{Next}
use Rattle.volume_world.specs.Progress.{Comes}
use Rattle.volume_world.specs.declared.event.Event.TheVariants as events
use Rattle.volume_world.specs.declared.reply.Reply.TheVariants as replies
use Rattle.volume_world.proofs.PossibleStates.{possible_kept}
use Rattle.volume_world.proofs.Telling.{entry_keeps}
use Rattle.blob_access.specs.GetCall.{Wanted, Try, GetStage, get_call, unbroken, broken_count, first_read}
use Rattle.blob_access.specs.Causes.{HasFailedRead, HasNoLook, AreFewBroken, Cause, ShortGetsHaveACause}
use Rattle.blob_access.proofs.Holding.{data_some}
use Rattle.blob_access.proofs.GetBytes.{seen_right}
use Rattle.blob_access.proofs.Later.{IsLater, later_same, parts_later, part_step, between}
use Rattle.blob_access.proofs.LiveRows.{IsAfter, after_same, entry_after}
use Rattle.blob_access.proofs.LastTries.{has_try, leads_split}
use Rattle.blob_access.proofs.LiveCounts.{IsCounted, StageCounts, reading_counts, shown_goods, shown_current, AreGood, comes_counts}

-- ---- what is kept

pub parts_keep : (origin : Origin) (w : World) (parts : List Part) (v : World) → Kept (shape_of origin) w.state → PartsLead origin w parts v → Kept (shape_of origin) v.state
parts_keep origin w [] v k h = subst (λ (x : World). Kept (shape_of origin) x.state) (sym h) k
parts_keep origin w (part ∷ parts) v k h =
    let one = part_step origin w part h.0 h.1 in
    parts_keep origin h.0 parts v (entry_keeps (shape_of origin) w one.0 h.0 (sound_shapes origin.mode origin.disks) k one.1) h.2

-- ---- units

-- its disk is unbroken at the end, and it has a live row at the begin
abbrev stands : State → State → ℕ → ℕ → Bool
stands a c bid i = not (c.broken (home_at a.manager.homes i).disk) && is_live (a.units.row (current a.manager.homes i) bid)

abbrev is_lost : State → State → ℕ → Bool
is_lost a c i = c.broken (home_at a.manager.homes i).disk

stand : (a c : State) (bid : ℕ) → c.manager.version ≡ a.manager.version → is_in bid c.manager.asked ≡ false → AreGood a c bid (stands a c bid)
stand a c bid version unasked = record {
  version = version;
  unasked = unasked;
  unbroken = λ i g. not_true (c.broken (home_at a.manager.homes i).disk) (and_left (not (c.broken (home_at a.manager.homes i).disk)) (is_live (a.units.row (current a.manager.homes i) bid)) g);
  live = λ i g. and_right (not (c.broken (home_at a.manager.homes i).disk)) (is_live (a.units.row (current a.manager.homes i) bid)) g;
}

-- disks that are unbroken at the end were so at the begin
unbroken_before : (a c : State) (disk : ℕ) → IsLater a c → c.broken disk ≡ false → a.broken disk ≡ false
unbroken_before a c disk later now = not_so (a.broken disk) (λ x. contrary (c.broken disk) (later.broken disk x) now)

count_all : (n : ℕ) → count_below n (λ i. true) ≡ n
count_all zero = refl
count_all (suc n) = let rest = count_all n in omega (arith, rest)

-- each unit lacks the blob at the begin, or stands, or is lost
all_counted : (total : ℕ) (a c : State) (bid : ℕ) → IsLater a c → total ≤ lacking total a.manager.homes a.broken a.units.row bid + (count_below total (stands a c bid) + count_below total (is_lost a c))
all_counted total a c bid later =
    let first = count_either total (λ i. true) (lacks a.manager.homes a.broken a.units.row bid) (λ i. stands a c bid i || is_lost a c i) (λ i below e. kinds i) in
    let second = count_either total (λ i. stands a c bid i || is_lost a c i) (stands a c bid) (is_lost a c) (λ i below e. or_cases (stands a c bid i) (is_lost a c i) e) in
    let all = count_all total in
    omega (arith, first, second, all) where
      kinds : (i : ℕ) → (lacks a.manager.homes a.broken a.units.row bid i ≡ true) ⊎ (stands a c bid i || is_lost a c i ≡ true)
      kinds i = elim (either (c.broken (home_at a.manager.homes i).disk)) [
        | inl lost ↦ inr (or_right (stands a c bid i) (is_lost a c i) lost)
        | inr whole ↦ elim (either (is_live (a.units.row (current a.manager.homes i) bid))) [
          | inl live ↦ inr (or_left (stands a c bid i) (is_lost a c i) (and_both (not (c.broken (home_at a.manager.homes i).disk)) (is_live (a.units.row (current a.manager.homes i) bid)) (true_not (c.broken (home_at a.manager.homes i).disk) whole) live))
          | inr dead ↦ inl (and_both (not (a.broken (home_at a.manager.homes i).disk)) (not (is_live (a.units.row (current a.manager.homes i) bid)))
              (true_not (a.broken (home_at a.manager.homes i).disk) (unbroken_before a c (home_at a.manager.homes i).disk later whole)) (true_not (is_live (a.units.row (current a.manager.homes i) bid)) dead))
        ]
      ]

-- ---- the begin of a try

first_counts : (origin : Origin) (bid size : ℕ) (a c : State) (versions : List ℕ) (view : View) (time : ℕ) → Kept (shape_of origin) a → IsLater a c → view ≡ view_shown origin.vid a.broken time a.manager
    → StageCounts (record { mode = origin.mode; bid = bid; size = size }) (stands a c bid) a.manager.homes (first_read origin.mode versions view)
first_counts origin bid size a c versions view time k later shown =
    let good = stands a c bid in
    let homes = a.manager.homes in
    let count : length homes ≡ total_count origin.mode = k.form.lists.homes_count in
    let units : view.units ≡ homes_shown origin.vid 0 a.broken homes = ap (λ (v : View). v.units) shown in
    let t : Try = record { versions = view.version ∷ versions; broken = broken_count view.units; shards = replicate (total_count origin.mode) None; live = 0; unheard = 0 } in
    let here : (n : ℕ) → good n ≡ good (0 + n) = λ n. ap good (omega arith) in
    let whole : (n : ℕ) → n < length homes → good (0 + n) ≡ true → a.broken (home_at homes n).disk ≡ false = λ n below g. unbroken_before a c (home_at homes n).disk later
    (not_true (c.broken (home_at homes n).disk) (and_left (not (c.broken (home_at homes n).disk)) (is_live (a.units.row (current homes n) bid)) (here n ∙ g))) in
    let most = shown_goods good origin.vid 0 a.broken homes whole in
    let same : count_below (0 + length homes) good ≡ count_below (total_count origin.mode) good = ap (λ n. count_below n good) (omega (arith, count)) in
    let some = data_some origin.mode in
    reading_counts (record { mode = origin.mode; bid = bid; size = size }) good homes t (unbroken view.units) (subst (λ (shown_units : List Home). IsCounted (record { mode = origin.mode; bid = bid; size = size }) good homes t (unbroken shown_units)) (sym units) (record {
      few = some;
      most = omega (arith, most, same);
      there = shown_current homes (total_count origin.mode) origin.vid 0 a.broken homes (omega (arith, count)) (λ n below. ap (home_at homes) (omega arith));
    }))

-- ---- the cause

module _ (origin : Origin) (bid size : ℕ) (s b t d : World) (first second : View) (versions : List ℕ) (end : Try) (reads : List Part) (k : Kept (shape_of origin) s.state)
    (begun : IsDone origin s events.Look (replies.Seen first) b) (comes : Comes (get_call (record { mode = origin.mode; bid = bid; size = size })) (first_read origin.mode versions first) reads (Next.Go (GetStage.Again end)))
    (none : HasNoLook reads) (leads : PartsLead origin b reads t) (ended : IsDone origin t events.Look (replies.Seen second) d) (same : second.version ≡ first.version) where
  version : t.state.manager.version ≡ s.state.manager.version
  version =
      let one = seen_right origin.vid s.state first begun.step.reply begun.told.reply in
      let two = seen_right origin.vid t.state second ended.step.reply ended.told.reply in
      sym (ap (λ (v : View). v.version) two) ∙ same ∙ ap (λ (v : View). v.version) one

  after : IsAfter (shape_of origin) s.state b.state
  after = entry_after (shape_of origin) s.state s begun.step b (sound_shapes origin.mode origin.disks) begun.leads (after_same (shape_of origin) s.state k)

  later : IsLater s.state t.state
  later = parts_later origin s (Part.Asking events.Look (replies.Seen first) ∷ reads) t (b, begun, leads)

  few_counted : is_in bid t.state.manager.asked ≡ false → HasFailedRead bid reads ⊎ (count_below (total_count origin.mode) (stands s.state t.state bid) < data_count origin.mode)
  few_counted unasked =
      let shown = seen_right origin.vid s.state first begun.step.reply begun.told.reply in
      elim (comes_counts origin bid size (stands s.state t.state bid) s.state t b (first_read origin.mode versions first) (Next.Go (GetStage.Again end)) reads after (stand s.state t.state bid version unasked) comes none leads
      (first_counts origin bid size s.state t.state versions first s.state.time k later shown)) [
        | inl failed ↦ inl failed
        | inr counted ↦ let few = counted.few in let most = counted.most in inr (omega (arith, few, most))
      ]

  too_few : is_acked (s.state.puts.status bid) ≡ true → is_in bid t.state.manager.asked ≡ false → count_below (total_count origin.mode) (stands s.state t.state bid) < data_count origin.mode → AreFewBroken (shape_of origin) t.state → ⊥
  too_few acked unasked few whole =
      let unasked_before = not_so (is_in bid s.state.manager.asked) (λ x. contrary (is_in bid t.state.manager.asked) (later.manager.asked bid x) unasked) in
      let lack = k.durability bid (record { acked = acked; unasked = unasked_before }) in
      let all = all_counted (total_count origin.mode) s.state t.state bid later in
      let level = between s.state.manager t.state.manager t.state.manager later.manager (later_same t.state).manager version in
      let lost = ap (λ homes. count_below (total_count origin.mode) (λ i. t.state.broken (home_at homes i).disk)) level.1 in
      omega (arith, lack, all, lost, few, whole)

  pub cause : Cause origin bid reads s.state t.state
  cause = elim (either (is_acked (s.state.puts.status bid))) [
    | inr unacked ↦ Cause.Unacked unacked
    | inl acked ↦ elim (either (is_in bid t.state.manager.asked)) [
      | inl asked ↦ Cause.Asked asked
      | inr unasked ↦ elim (few_counted unasked) [
        | inl failed ↦ Cause.Failed failed
        | inr few ↦ Cause.Broken (too_few acked unasked few)
      ]
    ]
  ]

pub short_gets_have_a_cause : ShortGetsHaveACause
short_gets_have_a_cause origin bid size live unheard broken parts w v possible call leads =
    let wanted : Wanted = record { mode = origin.mode; bid = bid; size = size } in
    let found = has_try wanted live unheard broken parts call in
    let try = found.try in
    let look = Part.Asking events.Look (replies.Seen found.first) in
    let split : parts ≡ found.before ++ (look ∷ (try.reads ++ (Part.Asking events.Look (replies.Seen try.second) ∷ try.after))) = found.split ∙ ap (λ xs. found.before ++ (look ∷ xs)) try.split in
    let one = leads_split origin w v found.before (look ∷ (try.reads ++ (Part.Asking events.Look (replies.Seen try.second) ∷ try.after))) (subst (λ xs. PartsLead origin w xs v) split leads) in
    let two = leads_split origin one.2.0 v try.reads (Part.Asking events.Look (replies.Seen try.second) ∷ try.after) one.2.2 in (
      record {
        before = found.before;
        first = found.first;
        reads = try.reads;
        second = try.second;
        after = try.after;
        split = split;
        among = try.among;
        behind = try.behind;
        same = try.same;
        at_first = one.0;
        at_second = two.0;
        comes = one.1;
        tries = (one.2.0, one.2.1, two.1);
        goes = two.2;
      },
      cause origin bid size one.0 one.2.0 two.0 two.2.0 found.first try.second found.versions try.end try.reads (parts_keep origin w found.before one.0 (possible_kept origin w possible) one.1) one.2.1 try.comes try.among two.1 two.2.1 try.same,
    )
