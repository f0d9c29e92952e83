-- What all stations of a volume stand for when one of them changes.
use Rattle.std.proofs.Common.{◌≡◌, ◌∙◌, sym, ap, refl, subst, ℕ, zero, suc, ◌+◌, ◌-◌, ◌<◌, ◌≤◌, Bool, true, false, List, [], ◌∷◌, length, Option, None, Some, Result, Ok, Err, get_or, set, arith}
use Rattle.std.specs.Prelude.{◌&&◌, ◌||◌, ◌==◌, option_map, is_some}
use Rattle.std.proofs.lemmas.List.{length-set}
use Rattle.std.proofs.lemmas.List.Sums.{sum_by-cons, sum_by-set}
use Rattle.std.proofs.lemmas.Bool.{eqb-true}
use Rattle.unit_id.specs.Place.{Place}
use Rattle.unit_id.specs.UnitName.{IsName}
use Rattle.unit_id.proofs.Bools.{equal_test}
use Rattle.unit_id.specs.Messages.{vid_of, request_of, answer_of}
use Rattle.unit_id.specs.Request.{place_of}
use Rattle.unit_id.specs.declared.request.Request as sent
use Rattle.unit_id.specs.declared.answer.Answer as answered
use Rattle.unit_id.specs.declared.answer.Answer.TheVariants as answers
use Rattle.disk_base.specs.Faults.{Rose}
use Rattle.disk_base.specs.Disk.{FileView}
use Rattle.disk_base.specs.Shelves.{ShelfView}
use Rattle.disk_base.specs.declared.fault.NoMemory.{NoMemory}
use Rattle.blob_node.specs.Units.{Units, with_at}
use Rattle.blob_node.specs.UnitAnswer.{Effect, Answers, view_at, units_after}
use Rattle.blob_node.specs.Holding.{Written, item_of, written_after}
use Rattle.blob_node.specs.HeldUnit.{UnitOver, Held, record_of_doubt, is_released, settled_by, written_by, name_of, disk_of}
use Rattle.blob_node.specs.declared.held_unit.Doubt.{Doubt}
use Rattle.blob_node.specs.UnitTable.{unit_at}
use Rattle.blob_node.specs.Station.{StationOver, name_at, IsBare, StandsAt, Stands}
use Rattle.blob_node.specs.Station as single
use Rattle.blob_node.proofs.Lookups.{elsewhere}
use Rattle.blob_node.proofs.Holdings.{never_both}
use Rattle.blob_node.proofs.Answering.{shows_none}
use Rattle.blob_node.proofs.Serving.{name_is}
use Rattle.blob_node.proofs.Standing.{SameAt, same_then, with_same, loosened, after_elsewhere, settled_by_elsewhere}
use Rattle.volume_world.specs.Stations.{AreOn, AreStations, AreAlike, HasDisk, is_broken_on, AllStand, AnswersBy, HandlesBy, Handled, faults_of, CountsFault, StationsCall, TellsDoubt, BreaksDown}

-- ---- a list with one station replaced by another

-- the station at a place is one of the volume, on the disk of that place
pub on_at : {H F : Type 0} (vid first place : ℕ) (stations : List (StationOver H F)) (was : StationOver H F) → AreOn vid first stations → place < length stations → was ≡ get_or stations place was
    → (was.vid ≡ vid) × (was.disk ≡ first + place)
on_at vid first place [] was on less at = absurd (omega (arith, less))
on_at vid first zero (s ∷ ss) was on less at = (ap (λ x. x.vid) at ∙ on.0, ap (λ x. x.disk) at ∙ on.1 ∙ omega arith)
on_at vid first (suc place) (s ∷ ss) was on less at = let rest = on_at vid (suc first) place ss was on.2 (omega (arith, less)) at in (rest.0, rest.1 ∙ omega arith)

-- a station of the same volume and disk in its place
pub on_set : {H F : Type 0} (vid first place : ℕ) (stations : List (StationOver H F)) (was now : StationOver H F) → AreOn vid first stations → place < length stations → was ≡ get_or stations place was
    → now.vid ≡ was.vid → now.disk ≡ was.disk → AreOn vid first (set stations place now)
on_set vid first place [] was now on less at same_vid same_disk = absurd (omega (arith, less))
on_set vid first zero (s ∷ ss) was now on less at same_vid same_disk = (same_vid ∙ ap (λ x. x.vid) at ∙ on.0, same_disk ∙ ap (λ x. x.disk) at ∙ on.1, on.2)
on_set vid first (suc place) (s ∷ ss) was now on less at same_vid same_disk = (on.0, on.1, on_set vid (suc first) place ss was now on.2 (omega (arith, less)) at same_vid same_disk)

-- .. that is no less broken
pub broken_set : {H F : Type 0} (place : ℕ) (stations : List (StationOver H F)) (was now : StationOver H F) (disk : ℕ) → place < length stations → was ≡ get_or stations place was
    → now.disk ≡ was.disk → now.is_broken ≡ was.is_broken → is_broken_on (set stations place now) disk ≡ is_broken_on stations disk
broken_set place [] was now disk less at same_disk same = absurd (omega (arith, less))
broken_set zero (s ∷ ss) was now disk less at same_disk same =
    ap (λ d. ((d == disk) && now.is_broken) || is_broken_on ss disk) (same_disk ∙ ap (λ x. x.disk) at)
    ∙ ap (λ b. ((s.disk == disk) && b) || is_broken_on ss disk) (same ∙ ap (λ x. x.is_broken) at)
broken_set (suc place) (s ∷ ss) was now disk less at same_disk same = ap (λ b. ((s.disk == disk) && s.is_broken) || b) (broken_set place ss was now disk (omega (arith, less)) at same_disk same)

pub differ : (a b : ℕ) → (a ≡ b → ⊥) → (a == b) ≡ false
differ a b other = go (a == b) refl where
  go : (test : Bool) → (a == b) ≡ test → test ≡ false
  go false e = refl
  go true e = absurd (other (eqb-true a b e))

alike : (a b : ℕ) → a ≡ b → (a == b) ≡ true
alike a b same = equal_test a b same

-- no disk below the first is broken
none_below : {H F : Type 0} (vid first disk : ℕ) (stations : List (StationOver H F)) → AreOn vid first stations → disk < first → is_broken_on stations disk ≡ false
none_below vid first disk [] on less = refl
none_below vid first disk (s ∷ ss) on less =
    ap (λ b. (b && s.is_broken) || is_broken_on ss disk) (differ s.disk disk (λ e. let d = on.1 in omega (arith, d, less, e)))
    ∙ none_below vid (suc first) disk ss on.2 (omega (arith, less))

or_false : (b : Bool) → (b || false) ≡ b
or_false true = refl
or_false false = refl

-- a disk is broken exactly where the station at its place is
pub broken_at : {H F : Type 0} (vid first place : ℕ) (stations : List (StationOver H F)) (was : StationOver H F) → AreOn vid first stations → place < length stations → was ≡ get_or stations place was
    → is_broken_on stations (first + place) ≡ was.is_broken
broken_at vid first place [] was on less at = absurd (omega (arith, less))
broken_at vid first zero (s ∷ ss) was on less at =
    ap (λ b. (b && s.is_broken) || is_broken_on ss (first + zero)) (alike s.disk (first + zero) (on.1 ∙ omega arith))
    ∙ ap (λ b. s.is_broken || b) (none_below vid (suc first) (first + zero) ss on.2 (omega arith))
    ∙ or_false s.is_broken ∙ ap (λ x. x.is_broken) (sym at)
broken_at vid first (suc place) (s ∷ ss) was on less at =
    ap (λ b. (b && s.is_broken) || is_broken_on ss (first + suc place)) (differ s.disk (first + suc place) (λ e. let d = on.1 in omega (arith, d, e)))
    ∙ ap (is_broken_on ss) (omega arith)
    ∙ broken_at vid (suc first) place ss was on.2 (omega (arith, less)) at

-- the place of a disk
pub place_in : {H F : Type 0} (stations : List (StationOver H F)) (disk : ℕ) → HasDisk stations disk → disk - 1 < length stations
place_in stations disk has = let first = has.first in let last = has.last in omega (arith, first, last)

pub place_is : {H F : Type 0} (stations : List (StationOver H F)) (disk : ℕ) → HasDisk stations disk → disk ≡ 1 + (disk - 1)
place_is stations disk has = let first = has.first in omega (arith, first)

pub broken_on_disk : {H F : Type 0} (vid disk : ℕ) (stations : List (StationOver H F)) (was : StationOver H F) → AreOn vid 1 stations → HasDisk stations disk → was ≡ get_or stations (disk - 1) was
    → is_broken_on stations disk ≡ was.is_broken
broken_on_disk vid disk stations was on has at = ap (is_broken_on stations) (place_is stations disk has) ∙ broken_at vid 1 (disk - 1) stations was on (place_in stations disk has) at

-- a disk that breaks
pub broken_down : {H F : Type 0} (vid first place : ℕ) (stations : List (StationOver H F)) (was : StationOver H F) (other : ℕ) → AreOn vid first stations → place < length stations → was ≡ get_or stations place was
    → is_broken_on (set stations place (record was { is_broken = true })) other ≡ ((other == (first + place)) || is_broken_on stations other)
broken_down vid first place [] was other on less at = absurd (omega (arith, less))
broken_down vid first zero (s ∷ ss) was other on less at = go (was.disk == other) refl where
  rest : Bool
  rest = is_broken_on ss other

  go : (test : Bool) → (was.disk == other) ≡ test → (((was.disk == other) && true) || rest) ≡ ((other == (first + zero)) || (((s.disk == other) && s.is_broken) || rest))
  go true e =
      let d = ap (λ x. x.disk) at ∙ on.1 in let same = eqb-true was.disk other e in
      ap (λ b. (b && true) || rest) e ∙ sym (ap (λ b. b || (((s.disk == other) && s.is_broken) || rest)) (alike other (first + zero) (omega (arith, d, same))))
  go false e =
      let d = ap (λ x. x.disk) at ∙ on.1 in
      ap (λ b. (b && true) || rest) e
      ∙ sym (ap (λ b. (b && s.is_broken) || rest) (ap (λ x. x == other) (sym (ap (λ x. x.disk) at)) ∙ e))
      ∙ sym (ap (λ b. b || (((s.disk == other) && s.is_broken) || rest)) (differ other (first + zero) (λ same. never_both (was.disk == other) e (alike was.disk other (omega (arith, d, same))))))
broken_down vid first (suc place) (s ∷ ss) was other on less at =
    ap (λ b. ((s.disk == other) && s.is_broken) || b) (broken_down vid (suc first) place ss was other on.2 (omega (arith, less)) at)
    ∙ swapped ((s.disk == other) && s.is_broken) (other == (suc first + place)) (is_broken_on ss other)
    ∙ ap (λ n. (other == n) || (((s.disk == other) && s.is_broken) || is_broken_on ss other)) (omega arith)
  where
    swapped : (a b c : Bool) → (a || (b || c)) ≡ (b || (a || c))
    swapped true true c = refl
    swapped true false c = refl
    swapped false b c = refl

-- ---- what they stand for

module _ {H F : Type 0} (shelf_seen : H → ShelfView F) (seen : F → FileView) where
  -- a station stands for anything else in which its own disk has the same
  pub stands_elsewhere : (s : StationOver H F) (was written : Place → Written) (units then : Units) → Stands shelf_seen seen s was units
      → ((q : Place) → q.disk ≡ s.disk → (written q ≡ was q) × SameAt then units q) → Stands shelf_seen seen s written then
  stands_elsewhere s was written units then stands same = record {
    told = stands.told;
    named = λ q d made. stands.named q d (sym (same q d).1.made ∙ made);
    bare = λ q d none.
        let bare = stands.bare q d (sym (same q d).1.made ∙ none) in
        record { unreleased = (same q d).1.released ∙ bare.unreleased; settled_ = (same q d).1.doubt ∙ bare.settled_ };
    each = λ q d n. go q d (unit_at s.units (name_at s.vid q)) (stands.each q d n);
  } where
    go : (q : Place) → q.disk ≡ s.disk → (o : Option (UnitOver F)) → StandsAt shelf_seen seen s was units q o → StandsAt shelf_seen seen s written then q o
    go q d None none = ((same q d).1.made ∙ none.0, none.1)
    go q d (Some unit) held =
        subst (λ (x : Written). Held seen unit x then q) (sym (same q d).0)
        (loosened _ (option_map record_of_doubt unit.doubt) (is_released unit) (was q) then units q (same q d).1 held)

  -- .. and so do all
  pub all_elsewhere : (vid first : ℕ) (stations : List (StationOver H F)) (was written : Place → Written) (units then : Units) → AreOn vid first stations → AllStand shelf_seen seen stations was units
      → ((q : Place) → first ≤ q.disk → (written q ≡ was q) × SameAt then units q) → AllStand shelf_seen seen stations written then
  all_elsewhere vid first [] was written units then on all same = tt
  all_elsewhere vid first (s ∷ ss) was written units then on all same = (
    stands_elsewhere s was written units then all.0 (λ q d. let e = on.1 in same q (omega (arith, d, e))),
    all_elsewhere vid (suc first) ss was written units then on.2 all.1 (λ q more. same q (omega (arith, more))),
  )

  -- the station at a place
  pub stands_at : (place : ℕ) (stations : List (StationOver H F)) (was : StationOver H F) (written : Place → Written) (units : Units) → place < length stations → was ≡ get_or stations place was
      → AllStand shelf_seen seen stations written units → Stands shelf_seen seen was written units
  stands_at place [] was written units less at all = absurd (omega (arith, less))
  stands_at zero (s ∷ ss) was written units less at all = subst (λ x. Stands shelf_seen seen x written units) (sym at) all.0
  stands_at (suc place) (s ∷ ss) was written units less at all = stands_at place ss was written units (omega (arith, less)) at all.1

  -- One station changes, and with it only what is known of its own disk.
  pub all_set : (vid first place : ℕ) (stations : List (StationOver H F)) (now : StationOver H F) (was written : Place → Written) (units then : Units) → AreOn vid first stations → place < length stations
      → AllStand shelf_seen seen stations was units → ((q : Place) → (q.disk ≡ first + place → ⊥) → (written q ≡ was q) × SameAt then units q) → Stands shelf_seen seen now written then
      → AllStand shelf_seen seen (set stations place now) written then
  all_set vid first place [] now was written units then on less all same stands = absurd (omega (arith, less))
  all_set vid first zero (s ∷ ss) now was written units then on less all same stands =
      (stands, all_elsewhere vid (suc first) ss was written units then on.2 all.1 (λ q more. same q (λ e. omega (arith, more, e))))
  all_set vid first (suc place) (s ∷ ss) now was written units then on less all same stands = (
    stands_elsewhere s was written units then all.0 (λ q d. let f = on.1 in same q (λ e. omega (arith, d, e, f))),
    all_set vid (suc first) place ss now was written units then on.2 (omega (arith, less)) all.1 (λ q other. same q (λ e. other (e ∙ omega arith))) stands,
  )

  -- ---- a request

  -- a request to one disk leaves what is known of the others
  other_disk : (place q : Place) → (q.disk ≡ place.disk → ⊥) → q ≡ place → ⊥
  other_disk place q other same = other (ap (λ (p : Place). p.disk) same)

  module _ (vid place : ℕ) (old : List (StationOver H F)) (was now : StationOver H F) (request : sent.Request) (on : AreOn vid 1 old) (less : place < length old) (at : was ≡ get_or old place was)
      (disk_is : (place_of (request_of request)).disk ≡ 1 + place) where
    abbrev asked : Place
    asked = place_of (request_of request)

    abbrev after : List (StationOver H F)
    after = set old place now

    broken_is : is_broken_on old asked.disk ≡ was.is_broken
    broken_is = ap (is_broken_on old) disk_is ∙ broken_at vid 1 place old was on less at

    apart : (q : Place) → (q.disk ≡ 1 + place → ⊥) → q ≡ asked → ⊥
    apart q other = other_disk asked q (λ e. other (e ∙ disk_is))

    answers_all : (written : Place → Written) (units : Units) (found : Option Bool) (answer : answered.Answer) → AllStand shelf_seen seen old written units
        → single.AnswersBy shelf_seen seen request written units found answer was now → AnswersBy shelf_seen seen request written units found answer old after
    answers_all written units found answer all by = record {
      effect = by.effect;
      answers = subst (λ b. Answers (view_at (λ disk. b) (settled_by asked found units) asked) (request_of request) (answer_of answer) by.effect) (sym broken_is) by.answers;
      bytes = by.bytes;
      stand = all_set vid 1 place old now written
          (with_at asked (written_after by.effect (item_of request) (written_by found (written asked))) written) units
          (units_after asked (request_of request) by.effect (settled_by asked found units)) on less all
          (λ q other. (
            elsewhere asked (written_after by.effect (item_of request) (written_by found (written asked))) written q (apart q other),
            same_then _ _ _ q (after_elsewhere asked q (apart q other) (request_of request) by.effect (settled_by asked found units)) (settled_by_elsewhere asked q (apart q other) found units),
          )) by.stands;
    }

    by_all : (written : Place → Written) (units : Units) (found : Option Bool) (result : Result answered.Answer NoMemory) → AllStand shelf_seen seen old written units
        → single.HandlesBy shelf_seen seen request written units found result was now → HandlesBy shelf_seen seen request written units found result old after
    by_all written units found (Ok answer) all by = answers_all written units found answer all by
    by_all written units found (Err e) all stands =
        all_set vid 1 place old now written (with_at asked (written_by found (written asked)) written) units (settled_by asked found units) on less all
        (λ q other. (elsewhere asked (written_by found (written asked)) written q (apart q other), settled_by_elsewhere asked q (apart q other) found units)) stands

    no_found : (b : Bool) → None ≡ Some b → ⊥
    no_found b e = cc

    -- the station of the disk answers for all
    pub handled_all : (found : Option Bool) (result : Result answered.Answer NoMemory) → was.is_broken ≡ false → single.Handled shelf_seen seen request found result was now → Handled shelf_seen seen request found result old after
    handled_all found result unbroken handled written units all =
        let one = handled written units (stands_at place old was written units less at all) in
        record { handles = by_all written units found result all one.handles; was_in_doubt = one.was_in_doubt; was_shut = one.was_shut; was_unbroken = λ some. broken_is ∙ unbroken }

    -- a broken one answers that it is broken, and starts nothing
    pub broken_all : was.is_broken ≡ true → Handled shelf_seen seen request None (Ok answers.Broken) old old
    broken_all broken written units all = record {
      handles = record {
        effect = Effect.Nothing;
        answers = broken_is ∙ broken;
        bytes = shows_none request answers.Broken (written asked).items refl;
        stand = subst (λ w. AllStand shelf_seen seen old w units) (sym (with_same asked written)) all;
      };
      was_in_doubt = λ e. absurd (no_found true e);
      was_shut = λ e. absurd (never_both false refl e);
      was_unbroken = λ e. absurd (never_both false refl e);
    }

  -- ---- faults

  -- the sums of faults differ as those of the station do
  sums : (place : ℕ) (old : List (StationOver H F)) (was now : StationOver H F) → place < length old → was ≡ get_or old place was
      → faults_of shelf_seen seen (set old place now) + single.faults_of shelf_seen seen was ≡ faults_of shelf_seen seen old + single.faults_of shelf_seen seen now
  sums place old was now less at =
      ap (λ x. faults_of shelf_seen seen (set old place now) + single.faults_of shelf_seen seen x) at ∙ sum_by-set (single.faults_of shelf_seen seen) old place now was less

  -- one is no more than all together
  part_of_sum : (place : ℕ) (old : List (StationOver H F)) (was : StationOver H F) → place < length old → was ≡ get_or old place was → single.faults_of shelf_seen seen was ≤ faults_of shelf_seen seen old
  part_of_sum place [] was less at = absurd (omega (arith, less))
  part_of_sum zero (s ∷ ss) was less at =
      let sum = sum_by-cons (single.faults_of shelf_seen seen) s ss in let same = ap (single.faults_of shelf_seen seen) at in omega (arith, sum, same)
  part_of_sum (suc place) (s ∷ ss) was less at =
      let sum = sum_by-cons (single.faults_of shelf_seen seen) s ss in let part = part_of_sum place ss was (omega (arith, less)) at in omega (arith, sum, part)

  count_cases : (before then : List (StationOver H F)) (was now : StationOver H F) (result : Result answered.Answer NoMemory) → single.CountsFault shelf_seen seen was now result
      → (single.faults_of shelf_seen seen was ≤ single.faults_of shelf_seen seen now → faults_of shelf_seen seen before ≤ faults_of shelf_seen seen then)
      → (Rose (single.faults_of shelf_seen seen was) (single.faults_of shelf_seen seen now) → Rose (faults_of shelf_seen seen before) (faults_of shelf_seen seen then)) → CountsFault shelf_seen seen before then result
  count_cases before then was now (Ok answers.Fault) counts falls rises = rises counts
  count_cases before then was now (Ok answer) counts falls rises = falls counts
  count_cases before then was now (Err e) counts falls rises = falls counts

  rose_sum : (all part now sum : ℕ) → part ≤ all → sum + part ≡ all + now → Rose part now → Rose all sum
  rose_sum all part now sum less same rose = omega (arith, less, same, rose)

  counts_all : (place : ℕ) (old : List (StationOver H F)) (was now : StationOver H F) (result : Result answered.Answer NoMemory) → place < length old → was ≡ get_or old place was
      → single.CountsFault shelf_seen seen was now result → CountsFault shelf_seen seen old (set old place now) result
  counts_all place old was now result less at counts =
      let same = sums place old was now less at in
      count_cases old (set old place now) was now result counts (λ falls. omega (arith, same, falls))
      (λ rose. rose_sum (faults_of shelf_seen seen old) (single.faults_of shelf_seen seen was) (single.faults_of shelf_seen seen now) (faults_of shelf_seen seen (set old place now)) (part_of_sum place old was less at) same rose)

  -- what a call on one station is of all
  pub call_all : (vid place : ℕ) (old : List (StationOver H F)) (was now : StationOver H F) (result : Result answered.Answer NoMemory) → place < length old → was ≡ get_or old place was
      → single.StationCall shelf_seen seen was now result → StationsCall shelf_seen seen (record { vid = vid; stations = old }) (record { vid = vid; stations = set old place now }) result
  call_all vid place old was now result less at call = record {
    vid = refl;
    count = length-set old place now;
    broken = λ disk. broken_set place old was now disk less at call.disk call.is_broken;
    counts = counts_all place old was now result less at call.counts;
  }

  -- all is well after a call on one of them
  pub set_are : (vid place : ℕ) (old : List (StationOver H F)) (was now : StationOver H F) → AreStations vid old → place < length old → was ≡ get_or old place was → now.vid ≡ was.vid → now.disk ≡ was.disk → AreStations vid (set old place now)
  set_are vid place old was now are less at same_vid same_disk = record {
    on = on_set vid 1 place old was now are.on less at same_vid same_disk;
    few = let few = are.few in let same = length-set old place now in omega (arith, few, same);
  }

  -- .. and when it breaks
  pub breaks_are : (vid place : ℕ) (old : List (StationOver H F)) (was now : StationOver H F) → AreStations vid old → place < length old → was ≡ get_or old place was → now ≡ record was { is_broken = true } → AreStations vid (set old place now)
  breaks_are vid place old was now are less at now_is = set_are vid place old was now are less at (ap (λ s. s.vid) now_is) (ap (λ s. s.disk) now_is)

  -- ---- a disk that breaks

  -- what a station stands for doesn't depend on whether its disk is broken
  stands_broken : (s : StationOver H F) (written : Place → Written) (units : Units) → Stands shelf_seen seen s written units → Stands shelf_seen seen (record s { is_broken = true }) written units
  stands_broken s written units stands = record { told = stands.told; named = stands.named; bare = stands.bare; each = λ q d n. go q (unit_at s.units (name_at s.vid q)) (stands.each q d n) } where
    go : (q : Place) (o : Option (UnitOver F)) → StandsAt shelf_seen seen s written units q o → StandsAt shelf_seen seen (record s { is_broken = true }) written units q o
    go q None none = none
    go q (Some unit) held = held

  all_broken : (place : ℕ) (old : List (StationOver H F)) (was : StationOver H F) (written : Place → Written) (units : Units) → place < length old → was ≡ get_or old place was
      → AllStand shelf_seen seen old written units → AllStand shelf_seen seen (set old place (record was { is_broken = true })) written units
  all_broken place [] was written units less at all = all
  all_broken zero (s ∷ ss) was written units less at all = (stands_broken was written units (subst (λ x. Stands shelf_seen seen x written units) (sym at) all.0), all.1)
  all_broken (suc place) (s ∷ ss) was written units less at all = (all.0, all_broken place ss was written units (omega (arith, less)) at all.1)

  all_alike : (stations : List (StationOver H F)) → AreAlike stations stations
  all_alike [] = tt
  all_alike (s ∷ ss) = (refl, all_alike ss)

  -- only a flag is set
  alike_but_one : (place : ℕ) (old : List (StationOver H F)) (was : StationOver H F) → was ≡ get_or old place was → AreAlike old (set old place (record was { is_broken = true }))
  alike_but_one place [] was at = tt
  alike_but_one zero (s ∷ ss) was at = ((λ i. record (at i) { is_broken = true }), all_alike ss)
  alike_but_one (suc place) (s ∷ ss) was at = (refl, alike_but_one place ss was at)

  breaks_one : (vid place disk : ℕ) (old : List (StationOver H F)) (was : StationOver H F) → AreOn vid 1 old → place < length old → was ≡ get_or old place was → disk ≡ 1 + place
      → BreaksDown shelf_seen seen disk (record { vid = vid; stations = old }) (record { vid = vid; stations = set old place (record was { is_broken = true }) })
  breaks_one vid place disk old was on less at disk_is = record {
    vid = refl;
    count = length-set old place (record was { is_broken = true });
    broken = λ other. broken_down vid 1 place old was other on less at ∙ ap (λ d. (other == d) || is_broken_on old other) (sym disk_is);
    faults = let same = sums place old was (record was { is_broken = true }) less at in omega (arith, same);
    alike = alike_but_one place old was at;
    stand = λ written units all. all_broken place old was written units less at all;
  }

  pub breaks_down : (vid place disk : ℕ) (old : List (StationOver H F)) (was now : StationOver H F) → AreOn vid 1 old → place < length old → was ≡ get_or old place was → disk ≡ 1 + place → now ≡ record was { is_broken = true }
      → BreaksDown shelf_seen seen disk (record { vid = vid; stations = old }) (record { vid = vid; stations = set old place now })
  breaks_down vid place disk old was now on less at disk_is now_is =
      subst (λ s. BreaksDown shelf_seen seen disk (record { vid = vid; stations = old }) (record { vid = vid; stations = set old place s })) (sym now_is)
      (breaks_one vid place disk old was on less at disk_is)

  -- ---- a record in doubt

  -- memory knows that a record of the unit is in doubt
  abbrev pub in_doubt : Option (UnitOver F) → Bool
  in_doubt None = false
  in_doubt (Some unit) = is_some unit.doubt

  some_doubt : (o : Option Doubt) → is_some o ≡ is_some (option_map record_of_doubt o)
  some_doubt None = refl
  some_doubt (Some doubt) = refl

  doubt_at : (s : StationOver H F) (written : Place → Written) (units : Units) (q : Place) (o : Option (UnitOver F)) → StandsAt shelf_seen seen s written units q o → (units.is_made q ≡ false → IsBare units q)
      → in_doubt o ≡ is_some (units.doubt q)
  doubt_at s written units q None none bare = sym (ap is_some (bare none.0).settled_)
  doubt_at s written units q (Some unit) held bare = some_doubt unit.doubt ∙ sym (ap is_some held.doubted)

  pub tells_doubt : (vid place : ℕ) (stations : List (StationOver H F)) (s : StationOver H F) (request : sent.Request) → AreOn vid 1 stations → place < length stations → s ≡ get_or stations place s
      → disk_of request ≡ 1 + place → vid_of request ≡ vid → IsName (name_of request) → TellsDoubt shelf_seen seen request stations (in_doubt (unit_at s.units (name_of request)))
  tells_doubt vid place stations s request on less at disk own name written units all =
      let is = on_at vid 1 place stations s on less at in
      let stands = stands_at place stations s written units less at all in
      let same : name_at s.vid (place_of (request_of request)) ≡ name_of request = name_is request s.vid (own ∙ sym is.0) in
      let here : (place_of (request_of request)).disk ≡ s.disk = disk ∙ sym is.1 in
      ap (λ n. in_doubt (unit_at s.units n)) (sym same)
      ∙ doubt_at s written units (place_of (request_of request)) (unit_at s.units (name_at s.vid (place_of (request_of request))))
      (stands.each (place_of (request_of request)) here (subst IsName (sym same) name)) (stands.bare (place_of (request_of request)) here)
