-- What a station says of a unit, by what it keeps of all.
use Rattle.std.proofs.Common.{◌≡◌, ◌≢◌, ◌∙◌, sym, ap, refl, subst, ℕ, ◌≤◌, ◌<◌, Bool, true, false, [], ◌∷◌, Option, None, Some, ◌⊎◌, inl, inr, nat_eq, Result, Ok, Err, cond, arith}
use Rattle.std.specs.Prelude.{◌+◌, sum_by, is_some}
use Rattle.std.specs.Map.{values_of}
use Rattle.std.proofs.lemmas.Map.Entries.{sum_by-set_value}
use Rattle.std.proofs.lemmas.List.Sums.{sum_by-cons}
use Rattle.unit_id.specs.UnitName.{Name, IsName, packed}
use Rattle.unit_id.specs.Place.{Place}
use Rattle.unit_id.specs.Messages.{request_of, answer_of, vid_of}
use Rattle.unit_id.specs.Request.{Answer, place_of}
use Rattle.unit_id.specs.declared.request.Request as sent
use Rattle.unit_id.specs.declared.answer.Answer as answered
use Rattle.unit_id.specs.declared.answer.Answer.TheVariants as answers
use Rattle.disk_base.specs.Disk.{FileView}
use Rattle.disk_base.specs.Faults.{Rose}
use Rattle.disk_base.specs.Shelves.{ShelfView}
use Rattle.disk_base.specs.declared.fault.NoMemory.{NoMemory}
use Rattle.blob_node.specs.Units.{UnitRecord, Units, with_at}
use Rattle.blob_node.specs.UnitAnswer.{Effect, IsServed, IsStale, view_at, units_after, settled_at, with_written}
use Rattle.blob_node.specs.Holding.{Written, item_of, written_after}
use Rattle.blob_node.specs.HeldUnit.{UnitOver, Held, name_of, disk_of, is_create, settled_by, written_by, ServesBy, FailsToStart, IsFoundReleased, IsServing, ServesThrough, CountsAnswer}
use Rattle.blob_node.specs.UnitTable.{Entries, TableOver, at_word, unit_at, knows_released, greatest_of, AreNamed, Replaces, ServesIn}
use Rattle.blob_node.specs.Station.{StationOver, name_at, StandsAt, Stands, file_faults, faults_of, CountsFault, StationCall, LeavesInCall, CrashLeaves, IsClear, AnswersBy, HandlesBy, Handled}
use Rattle.disk_base.specs.Places.{Place as Slot, Unknown, Absent, Away, Kept, Keeps}
use Rattle.blob_node.proofs.Lookups.{there_now}
use Rattle.blob_node.proofs.Holdings.{never_both, record_made}
use Rattle.blob_node.proofs.Tables.{named_at, name_by_word, no_greater, latest, one_of, at_set, some_set, greatest_set, named_set, eq_apart, eq_self}
use Rattle.blob_node.proofs.Clearing.{clear_same}
use Rattle.blob_node.proofs.Standing.{SameAt, same_as_is, same_then, stands_one, after_elsewhere, settled_by_elsewhere}
use Rattle.blob_node.proofs.Answering.{place_is, vid_is, shows_none, work_answers, serves_other}

module _ {H F : Type 0} (shelf_seen : H → ShelfView F) (seen : F → FileView) (station : StationOver H F) (written : Place → Written) (units : Units) (stands : Stands shelf_seen seen station written units) where
  -- ---- units that were made

  pub record MadeAt (place : Place) : Type 0 where
    pub unit : UnitOver F
    pub found : unit_at station.units (name_at station.vid place) ≡ Some unit
    pub held : Held seen unit (written place) units place

  pub made_at : (place : Place) → place.disk ≡ station.disk → IsName (name_at station.vid place) → units.is_made place ≡ true → MadeAt place
  made_at place at name made = go (unit_at station.units (name_at station.vid place)) refl (stands.each place at name) where
    go : (o : Option (UnitOver F)) → unit_at station.units (name_at station.vid place) ≡ o → StandsAt shelf_seen seen station written units place o → MadeAt place
    go (Some unit) e held = record { unit = unit; found = e; held = held }
    go None e none = absurd (never_both (units.is_made place) none.0 made)

  pub held_at : (place : Place) (unit : UnitOver F) → place.disk ≡ station.disk → IsName (name_at station.vid place) → unit_at station.units (name_at station.vid place) ≡ Some unit → Held seen unit (written place) units place
  held_at place unit at name found = subst (StandsAt shelf_seen seen station written units place) found (stands.each place at name)

  pub none_at : (place : Place) → place.disk ≡ station.disk → IsName (name_at station.vid place) → unit_at station.units (name_at station.vid place) ≡ None → units.is_made place ≡ false
  none_at place at name found = (subst (StandsAt shelf_seen seen station written units place) found (stands.each place at name)).0

  -- what memory knows of a release
  pub release_known : (place : Place) (known : Bool) → place.disk ≡ station.disk → IsName (name_at station.vid place) → known ≡ knows_released (unit_at station.units (name_at station.vid place)) → units.is_released place ≡ known
  release_known place known at name e = go (unit_at station.units (name_at station.vid place)) refl ∙ sym e where
    go : (o : Option (UnitOver F)) → unit_at station.units (name_at station.vid place) ≡ o → units.is_released place ≡ knows_released o
    go (Some unit) f = sym (held_at place unit at name f).released
    go None f = (stands.bare place at (none_at place at name f)).unreleased

module _ {H F : Type 0} (shelf_seen : H → ShelfView F) (seen : F → FileView) (station : StationOver H F) (written : Place → Written) (units : Units) (stands : Stands shelf_seen seen station written units) (named : AreNamed station.vid station.units) where
  abbrev pub at_epoch : Place → ℕ → Place
  at_epoch place epoch = record { index = place.index; epoch = epoch; disk = place.disk }

  -- no unit that was made is later than the greatest epoch
  pub newest : (place : Place) → place.disk ≡ station.disk → (epoch : ℕ) → units.is_made (at_epoch place epoch) ≡ true → epoch ≤ greatest_of station.units place.index
  newest place at epoch made =
      let name = stands.named (at_epoch place epoch) at made in
      let is = made_at shelf_seen seen station written units stands (at_epoch place epoch) at name made in
      let own = name_by_word (name_at station.vid (at_epoch place epoch)) name station.vid (packed (name_at station.vid (at_epoch place epoch))) is.unit (named_at station.vid station.units (packed (name_at station.vid (at_epoch place epoch))) is.unit named is.found) refl in
      let less = no_greater station.units (packed (name_at station.vid (at_epoch place epoch))) is.unit is.found in
      subst (λ (n : Name). n.epoch ≤ greatest_of station.units n.index) own less

  -- and one of that epoch was made
  pub latest_made : (place : Place) → place.disk ≡ station.disk → 1 ≤ greatest_of station.units place.index → units.is_made (at_epoch place (greatest_of station.units place.index)) ≡ true
  latest_made place at some =
      let l = latest station.vid station.units place.index named some in
      let u = one_of (at_word l.word station.units) l.found in
      let its = named_at station.vid station.units l.word u.0 named u.1 in
      let own : u.0.chunk.unit ≡ l.unit.chunk.unit = name_by_word l.unit.chunk.unit l.name station.vid l.word u.0 its l.word_is in
      let whole : u.0.chunk.unit ≡ name_at station.vid (at_epoch place (greatest_of station.units place.index)) =
      λ i. record { vid = its.vid_is i; index = (ap (λ (n : Name). n.index) own ∙ l.index_is) i; epoch = (ap (λ (n : Name). n.epoch) own ∙ l.epoch_is) i } in
      let name : IsName (name_at station.vid (at_epoch place (greatest_of station.units place.index))) = subst IsName whole its.name in
      (held_at shelf_seen seen station written units stands (at_epoch place (greatest_of station.units place.index)) u.0 at name
      (ap (λ w. at_word w station.units) (sym (ap packed whole) ∙ sym its.word_is) ∙ u.1)).made

  -- ---- stale or served

  pub stale_at : (place : Place) (have : ℕ) → place.disk ≡ station.disk → station.is_broken ≡ false → have ≡ greatest_of station.units place.index → 1 ≤ have → (units.is_released place ≡ true) ⊎ (place.epoch < have)
      → IsStale (view_at (λ disk. station.is_broken) units place) have
  stale_at place have at unbroken is some outlived = record {
    unbroken = unbroken;
    made = subst (λ g. units.is_made (at_epoch place g) ≡ true) (sym is) (latest_made place at (subst (λ g. 1 ≤ g) is some));
    greatest = λ epoch made. subst (λ g. epoch ≤ g) (sym is) (newest place at epoch made);
    outlived = outlived;
  }

  pub served_at : (place : Place) → place.disk ≡ station.disk → station.is_broken ≡ false → units.is_released place ≡ false → greatest_of station.units place.index ≤ place.epoch
      → IsServed (view_at (λ disk. station.is_broken) units place)
  served_at place at unbroken unreleased less = record {
    unbroken = unbroken;
    unreleased = unreleased;
    newest = λ epoch made. let more = newest place at epoch made in omega (arith, more, less);
  }

  pub known_epoch : (place : Place) (unit : UnitOver F) → IsName (name_at station.vid place) → unit_at station.units (name_at station.vid place) ≡ Some unit → place.epoch ≤ greatest_of station.units place.index
  known_epoch place unit name found =
      subst (λ (n : Name). n.epoch ≤ greatest_of station.units n.index)
      (name_by_word (name_at station.vid place) name station.vid (packed (name_at station.vid place)) unit (named_at station.vid station.units (packed (name_at station.vid place)) unit named found) refl)
      (no_greater station.units (packed (name_at station.vid place)) unit found)

-- ---- faults

rose_sum : (shelf f g before now : ℕ) → f ≤ before → now + f ≡ before + g → Rose f g → Rose (shelf + before) (shelf + now)
rose_sum shelf f g before now part sum rose = omega (arith, part, sum, rose)

part_of_sum : {F : Type 0} (count : UnitOver F → ℕ) (units : Entries F) (word : ℕ) (unit : UnitOver F) → at_word word units ≡ Some unit → count unit ≤ sum_by count (values_of units)
part_of_sum count [] word unit found = absurd (cc found)
part_of_sum {F} count (e ∷ es) word unit found = subst (λ n. count unit ≤ n) (sym (sum_by-cons count e.1 (values_of es))) (go (nat_eq word e.0) found (part_of_sum count es word unit)) where
  go : (b : Bool) → cond b (Some e.1) (at_word word es) ≡ Some unit → (at_word word es ≡ Some unit → count unit ≤ sum_by count (values_of es)) → count unit ≤ count e.1 + sum_by count (values_of es)
  go true f rest = let same : count e.1 ≡ count unit = ap count (one f) in omega (arith, same)
    where
      one : Some e.1 ≡ Some unit → e.1 ≡ unit
      one h = cc
  go false f rest = let less = rest f in omega (arith, less)

module _ {H F : Type 0} (shelf_seen : H → ShelfView F) (seen : F → FileView) (old new : StationOver H F) where
  pub count_cases : (result : Result answered.Answer NoMemory) → faults_of shelf_seen seen old ≤ faults_of shelf_seen seen new → (result ≡ Ok answers.Fault → Rose (faults_of shelf_seen seen old) (faults_of shelf_seen seen new)) → CountsFault shelf_seen seen old new result
  count_cases (Err e) never rises = never
  count_cases (Ok answers.Done) never rises = never
  count_cases (Ok answers.Already) never rises = never
  count_cases (Ok (answers.Live blob_size bytes)) never rises = never
  count_cases (Ok answers.Marked) never rises = never
  count_cases (Ok answers.Gone) never rises = never
  count_cases (Ok answers.Absent) never rises = never
  count_cases (Ok (answers.Listing lock live marked)) never rises = never
  count_cases (Ok (answers.Stale have)) never rises = never
  count_cases (Ok answers.NoUnit) never rises = never
  count_cases (Ok (answers.Fenced lock)) never rises = never
  count_cases (Ok answers.Deleted) never rises = never
  count_cases (Ok answers.NotMarked) never rises = never
  count_cases (Ok answers.Broken) never rises = never
  count_cases (Ok (answers.Full end)) never rises = never
  count_cases (Ok answers.Fault) never rises = rises refl
  count_cases (Ok (answers.Damaged kept computed)) never rises = never
  count_cases (Ok (answers.Spoiled place)) never rises = never

abbrev pub station_of : {H F : Type 0} → H → ℕ → Bool → TableOver F → StationOver H F
station_of shelf disk is_broken table = record { shelf = shelf; vid = table.vid; disk = disk; is_broken = is_broken; units = table.units }

keeps_itself : {T : Type 0} (slot : Slot T) → Keeps slot slot
keeps_itself Unknown = tt
keeps_itself Absent = refl
keeps_itself Away = refl
keeps_itself (Kept x) = refl

made_written : (place p : Place) (o : Option UnitRecord) (units : Units) → (with_written place o units).is_made p ≡ units.is_made p
made_written place p None units = refl
made_written place p (Some r) units = record_made place p r units

pub made_settled : (place p : Place) (found : Option Bool) (units : Units) → (settled_by place found units).is_made p ≡ units.is_made p
made_settled place p None units = refl
made_settled place p (Some false) units = refl
made_settled place p (Some true) units = made_written place p (units.doubt place) (settled_at place units)

-- the place of a request names its unit
pub name_is : (request : sent.Request) (vid : ℕ) → vid_of request ≡ vid → name_at vid (place_of (request_of request)) ≡ name_of request
name_is request vid own =
    ap (name_at vid) (place_is request) ∙ (λ i. record { vid = (sym own ∙ vid_is request) i; index = (name_of request).index; epoch = (name_of request).epoch })

module _ {H F : Type 0} (shelf_seen : H → ShelfView F) (seen : F → FileView) (shelf : H) (disk : ℕ) (is_broken : Bool) (old new : TableOver F) (word : ℕ) (was now : UnitOver F) (replaces : Replaces word old new was now) where
  abbrev before : StationOver H F
  before = station_of shelf disk is_broken old

  abbrev after : StationOver H F
  after = station_of shelf disk is_broken new

  -- the sums of faults differ as those of the unit's file do
  pub sums : file_faults shelf_seen seen new.units + (seen was.chunk.log.file).faults ≡ file_faults shelf_seen seen old.units + (seen now.chunk.log.file).faults
  sums =
      ap (λ (es : Entries F). file_faults shelf_seen seen es + (seen was.chunk.log.file).faults) replaces.units
      ∙ sum_by-set_value (λ unit. (seen unit.chunk.log.file).faults) (nat_eq word) old.units was now replaces.found

  pub call_counts : (result : Result answered.Answer NoMemory) → (seen was.chunk.log.file).faults ≤ (seen now.chunk.log.file).faults → (result ≡ Ok answers.Fault → Rose (seen was.chunk.log.file).faults (seen now.chunk.log.file).faults) → CountsFault shelf_seen seen before after result
  call_counts result never rises =
      count_cases shelf_seen seen before after result (let s = sums in omega (arith, s, never))
      (λ e. rose_sum (shelf_seen shelf).faults (seen was.chunk.log.file).faults (seen now.chunk.log.file).faults (file_faults shelf_seen seen old.units) (file_faults shelf_seen seen new.units)
      (part_of_sum (λ unit. (seen unit.chunk.log.file).faults) old.units word was replaces.found) sums (rises e))

  pub is_now : (name : Name) → word ≡ packed name → unit_at new.units name ≡ Some now
  is_now name e =
      ap (λ (es : Entries F). unit_at es name) replaces.units ∙ at_set old.units word was now replaces.found (packed name)
      ∙ ap (λ b. cond b (Some now) (unit_at old.units name)) (ap (nat_eq word) (sym e) ∙ eq_self word)

  pub others_now : (other : ℕ) → other ≢ word → at_word other new.units ≡ at_word other old.units
  others_now other ne =
      ap (at_word other) replaces.units ∙ at_set old.units word was now replaces.found other ∙ ap (λ b. cond b (Some now) (at_word other old.units)) (eq_apart word other (λ e. ne (sym e)))

  -- the unit is replaced, and what is known elsewhere stays
  module _ (written : Place → Written) (units then : Units) (stands : Stands shelf_seen seen before written units) (place : Place) (at : place.disk ≡ disk) (name : IsName (name_at old.vid place)) (word_is : word ≡ packed (name_at old.vid place)) where
    new_name : word ≡ packed (name_at new.vid place)
    new_name = word_is ∙ ap (λ v. packed (name_at v place)) (sym replaces.vid)

    pub stands_then : (w : Written) → Held seen now w then place → ((q : Place) → (q ≡ place → ⊥) → SameAt then units q) → Stands shelf_seen seen after (with_at place w written) then
    stands_then w held others =
        stands_one shelf_seen seen before after written units then stands replaces.vid refl refl place at (subst (λ v. IsName (name_at v place)) (sym replaces.vid) name) w others
        (λ other ne. others_now other (λ e. ne (e ∙ new_name)))
        (λ other ne. keeps_itself ((shelf_seen shelf).place other))
        (λ none. absurd (never_both (then.is_made place) none held.made))
        (subst (StandsAt shelf_seen seen after (with_at place w written) then place) (sym (is_now (name_at new.vid place) new_name)) (subst (λ (x : Written). Held seen now x then place) (sym (there_now place w written)) held))

-- ---- a request to a unit that stands here

module _ {H F : Type 0} (shelf_seen : H → ShelfView F) (seen : F → FileView) (shelf : H) (disk : ℕ) (old new : TableOver F) (request : sent.Request) (have : ℕ) (found : Option Bool) (result : Result answered.Answer NoMemory)
    (named : AreNamed old.vid old.units) (name : IsName (name_of request)) (own : vid_of request ≡ old.vid) (at : disk_of request ≡ disk) (other : is_create request ≡ false)
    (have_is : have ≡ greatest_of old.units (name_of request).index) (latest_ : have ≤ (name_of request).epoch) (free : knows_released (unit_at old.units (name_of request)) ≡ false)
    (serves : ServesIn seen (packed (name_of request)) request have old new found result) where
  abbrev place : Place
  place = place_of (request_of request)

  named_is : name_at old.vid place ≡ name_of request
  named_is = name_is request old.vid own

  place_name : IsName (name_at old.vid place)
  place_name = subst IsName (sym named_is) name

  greatest_is : have ≡ greatest_of old.units place.index
  greatest_is = have_is ∙ ap (λ (n : Name). greatest_of old.units n.index) (sym named_is)

  less_than : have ≤ place.epoch
  less_than = subst (λ (n : Name). have ≤ n.epoch) (sym named_is) latest_

  there : unit_at old.units (name_at old.vid place) ≡ Some serves.was
  there = ap (unit_at old.units) named_is ∙ serves.replaces.found

  module _ (written : Place → Written) (units : Units) (stands : Stands shelf_seen seen (station_of shelf disk false old) written units) where
    abbrev then : Units
    then = settled_by place found units

    held : Held seen serves.was (written place) units place
    held = held_at shelf_seen seen (station_of shelf disk false old) written units stands place serves.was at place_name there

    goes : (w : Written) (after_ : Units) → Held seen serves.now w after_ place → ((q : Place) → (q ≡ place → ⊥) → SameAt after_ units q) → Stands shelf_seen seen (station_of shelf disk false new) (with_at place w written) after_
    goes w after_ = stands_then shelf_seen seen shelf disk false old new (packed (name_of request)) serves.was serves.now serves.replaces written units after_ stands place at place_name (ap packed (sym named_is)) w

    served_now : then.is_released place ≡ false → IsServed (view_at (λ d. false) then place)
    served_now free_ = record {
      unbroken = refl;
      unreleased = free_;
      newest = λ epoch made.
          let more = newest shelf_seen seen (station_of shelf disk false old) written units stands named place at epoch (sym (made_settled place (record { index = place.index; epoch = epoch; disk = place.disk }) found units) ∙ made) in
          let is = greatest_is in let less = less_than in omega (arith, more, is, less);
    }

    -- the file of a shut chunk failed
    fails : (answer : answered.Answer) → FailsToStart seen (written place) units place found answer serves.now → AnswersBy shelf_seen seen request written units found answer (station_of shelf disk false old) (station_of shelf disk false new)
    fails answer is =
        subst (λ f. AnswersBy shelf_seen seen request written units f answer (station_of shelf disk false old) (station_of shelf disk false new)) (sym is.not_found)
        (subst (λ a. AnswersBy shelf_seen seen request written units None a (station_of shelf disk false old) (station_of shelf disk false new)) (sym is.fault)
        (record {
          effect = Effect.Nothing;
          answers = (
            served_at shelf_seen seen (station_of shelf disk false old) written units stands named place at refl
                (release_known shelf_seen seen (station_of shelf disk false old) written units stands place false at place_name (sym (ap (λ n. knows_released (unit_at old.units n)) named_is ∙ free)))
                (subst (λ g. g ≤ place.epoch) greatest_is less_than),
            serves_other (view_at (λ d. false) units place) request other Answer.Fault Effect.Nothing (held.made, is.shut),
          );
          bytes = shows_none request answers.Fault (written place).items refl;
          stands = goes (written place) units is.holds (λ q ne. same_as_is units q);
        }))

    -- the start found that the unit is released
    stale : (answer : answered.Answer) → IsFoundReleased seen have (written place) units place found answer serves.now → AnswersBy shelf_seen seen request written units found answer (station_of shelf disk false old) (station_of shelf disk false new)
    stale answer is =
        let now_stands = goes (written_by found (written place)) then is.holds (λ q ne. settled_by_elsewhere place q ne found units) in
        let first = known_epoch shelf_seen seen (station_of shelf disk false old) written units stands named place serves.was place_name there in
        let one = place_name.first in
        let is_have = greatest_is in
        subst (λ a. AnswersBy shelf_seen seen request written units found a (station_of shelf disk false old) (station_of shelf disk false new)) (sym is.stale)
        (record {
          effect = Effect.Nothing;
          answers = stale_at shelf_seen seen (station_of shelf disk false new) (with_at place (written_by found (written place)) written) then now_stands
              (subst (λ v. AreNamed v new.units) (sym serves.replaces.vid) (subst (λ (es : Entries F). AreNamed old.vid es) (sym serves.replaces.units) (named_set old.vid old.units (packed (name_of request)) serves.was serves.now serves.replaces.found serves.replaces.unit named)))
              place have at refl
              (greatest_is ∙ sym (ap (λ (es : Entries F). greatest_of es place.index) serves.replaces.units ∙ greatest_set old.units (packed (name_of request)) serves.was serves.now serves.replaces.found serves.replaces.unit place.index))
              (omega (arith, first, one, is_have)) (inl is.released);
          bytes = shows_none request (answers.Stale have) (written_by found (written place)).items refl;
          stands = now_stands;
        })

    -- it does its work
    works : (answer : answered.Answer) → IsServing seen request (written place) units place found answer serves.now → AnswersBy shelf_seen seen request written units found answer (station_of shelf disk false old) (station_of shelf disk false new)
    works answer is = record {
      effect = is.works.effect;
      answers = work_answers (view_at (λ d. false) then place) (request_of request) (answer_of answer) is.works.effect (served_now is.unreleased)
          (record { held = made_settled place place found units ∙ held.made; settled = is.settled_is }) is.works.works;
      bytes = is.works.bytes;
      stands = goes (written_after is.works.effect (item_of request) (written_by found (written place))) (units_after place (request_of request) is.works.effect then) is.works.holds
          (λ q ne. same_then _ _ _ q (after_elsewhere place q ne (request_of request) is.works.effect then) (settled_by_elsewhere place q ne found units));
    }

    by_result : (r : Result answered.Answer NoMemory) → ServesBy seen request have (written place) units place found serves.now r → HandlesBy shelf_seen seen request written units found r (station_of shelf disk false old) (station_of shelf disk false new)
    by_result (Ok answer) (inl is) = fails answer is
    by_result (Ok answer) (inr (inl is)) = stale answer is
    by_result (Ok answer) (inr (inr is)) = works answer is
    by_result (Err e) is = goes (written_by found (written place)) then is (λ q ne. settled_by_elsewhere place q ne found units)

  still_clear : IsClear shelf_seen seen (station_of shelf disk false old) → IsClear shelf_seen seen (station_of shelf disk false new)
  still_clear = clear_same shelf_seen seen (station_of shelf disk false old) (station_of shelf disk false new) serves.replaces.vid refl
      (λ word. ap (λ (es : Entries F). is_some (at_word word es)) serves.replaces.units ∙ some_set old.units (packed (name_of request)) serves.was serves.now serves.replaces.found word)

  pub serves_through : (written : Place → Written) (units : Units) → Stands shelf_seen seen (station_of shelf disk false old) written units → ServesThrough seen request (written place) units place found serves.was serves.now
  serves_through written units stands = (serves.served (written place) units place (held written units stands)).3

  pub serve_handles : ((written : Place → Written) (units : Units) → Stands shelf_seen seen (station_of shelf disk false old) written units → CrashLeaves shelf_seen seen (station_of shelf disk false old) (station_of shelf disk false new) (LeavesInCall shelf_seen seen request written units found (station_of shelf disk false old)))
      → Handled shelf_seen seen request found result (station_of shelf disk false old) (station_of shelf disk false new)
  serve_handles moments = λ written units stands.
      let s = serves.served (written place) units place (held written units stands) in
      record { handles = by_result written units stands result s.0; was_in_doubt = s.1; was_shut = s.2; moments = moments written units stands; clear = still_clear }

rises_by : (result : Result answered.Answer NoMemory) (before now : ℕ) → CountsAnswer before now result → result ≡ Ok answers.Fault → Rose before now
rises_by result before now counts is = subst (CountsAnswer before now) is counts

pub serve_call : {H F : Type 0} (shelf_seen : H → ShelfView F) (seen : F → FileView) (shelf : H) (disk : ℕ) (old new : TableOver F) (word : ℕ) (request : sent.Request) (have : ℕ) (found : Option Bool) (result : Result answered.Answer NoMemory)
    → ServesIn seen word request have old new found result → StationCall shelf_seen seen (station_of shelf disk false old) (station_of shelf disk false new) result
serve_call shelf_seen seen shelf disk old new word request have found result serves = record {
  vid = serves.replaces.vid;
  disk = refl;
  is_broken = refl;
  counts = call_counts shelf_seen seen shelf disk false old new word serves.was serves.now serves.replaces result serves.call.lasts.faults
      (rises_by result (seen serves.was.chunk.log.file).faults (seen serves.now.chunk.log.file).faults serves.call.counts);
}
