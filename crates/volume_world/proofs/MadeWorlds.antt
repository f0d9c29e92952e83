-- How the units of a world are made, and what a world that is made stands for.
use Rattle.std.proofs.Common.{◌≡◌, ◌∙◌, sym, ap, refl, subst, ℕ, zero, suc, ◌+◌, ◌<◌, ◌≤◌, Bool, true, false, cond, List, [], ◌∷◌, map, length, get_or, Option, Some, None, Result, Ok, Err, nat_lt, arith}
use Rattle.std.specs.Prelude.{◌&&◌}
use Rattle.std.proofs.lemmas.Bool.{ltb-true, ltb-false}
use Rattle.std.proofs.lemmas.List.{get_or-map}
use Rattle.unit_id.specs.Place.{Location, Place, is_place}
use Rattle.unit_id.specs.Messages.{place_at}
use Rattle.unit_id.specs.Request.{Request, Answer}
use Rattle.unit_id.specs.declared.homes.Home.{Home}
use Rattle.unit_id.specs.declared.answer.Answer as answered
use Rattle.unit_id.specs.declared.answer.Answer.TheVariants as answers
use Rattle.unit_id.specs.declared.request.Request.TheVariants as requests
use Rattle.unit_id.proofs.Bools.{and_both, contrary}
use Rattle.unit_id.proofs.Places.{is_place_gives}
use Rattle.disk_base.specs.Disk.{FileView}
use Rattle.disk_base.specs.Shelves.{ShelfView}
use Rattle.disk_base.specs.declared.fault.NoMemory.{NoMemory}
use Rattle.blob_node.specs.Units.{Units, with_at, with_unit}
use Rattle.blob_node.specs.UnitAnswer.{Effect, Answers, UnitView, view_at, units_after}
use Rattle.blob_node.specs.Holding.{written_after, nothing_written}
use Rattle.blob_node.specs.Station.{StationOver, HasNone}
use Rattle.blob_node.proofs.Standing.{with_same}
use Rattle.volume_entry.specs.Manager.{current, home_at}
use Rattle.volume_world.specs.State.{fresh}
use Rattle.volume_world.specs.Stations.{StationsOver, HasDisk, AllStand, AllOutlast, AnswersBy, StationsCall, Handled, Handles}
use Rattle.volume_world.specs.Stations as all
use Rattle.volume_world.specs.Origins.{is_of_homes}
use Rattle.volume_world.specs.WorldMaking.{AreHomesOf, CountsMaking, CountsRefusal, FitsHomes, HasUnit, HaveNone, IsFree, KeepsStations, MakesFirst, MakesUnit, MakesUnits, locations, location_of, none_written, unit_made}
use Rattle.volume_world.specs.declared.world_fault.WorldFault.{WorldFault}
use Rattle.volume_world.specs.declared.world_fault.WorldFault.TheVariants.{Fault}
use Rattle.volume_world.proofs.FirstWorlds.{none_made, unit_more}
use Rattle.volume_world.proofs.StationsLasting.{all_last}

-- ---- homes

-- the home at a place is of the volume's unit of that index
pub own_at : (vid first place : ℕ) (homes : List Home) (home : Home) → AreHomesOf vid first homes → place < length homes → home ≡ get_or homes place home
    → (home.unit.vid ≡ vid) × (home.unit.index ≡ first + place)
own_at vid first place [] home own below at = absurd (omega (arith, below))
own_at vid first zero (h ∷ hs) home own below at = (ap (λ (x : Home). x.unit.vid) at ∙ own.0, ap (λ (x : Home). x.unit.index) at ∙ own.1 ∙ omega arith)
own_at vid first (suc place) (h ∷ hs) home own below at =
    let rest = own_at vid (suc first) place hs home own.2 (omega (arith, below)) at in (rest.0, rest.1 ∙ omega arith)

pub location_at : (homes : List Home) (place : ℕ) (home : Home) → place < length homes → home ≡ get_or homes place home → home_at (locations homes) place ≡ location_of home
location_at homes place home below at = get_or-map location_of homes place home (record { epoch = 0; disk = 0 }) below ∙ ap location_of (sym at)

-- its unit is the current one of its index
place_is : (homes : List Home) (place : ℕ) (home : Home) → place < length homes → home ≡ get_or homes place home → home.unit.index ≡ place
    → place_at home.unit home.disk ≡ current (locations homes) place
place_is homes place home below at index =
    let location = sym (location_at homes place home below at) in
    λ i. record { index = index i; epoch = (location i).epoch; disk = (location i).disk }

-- ---- which units are made

less_more : (index count : ℕ) (test : Bool) → nat_lt index count ≡ test → (index ≡ count → ⊥) → nat_lt index (count + 1) ≡ test
less_more index count true e other = go (nat_lt index (count + 1)) refl where
  go : (test : Bool) → nat_lt index (count + 1) ≡ test → test ≡ true
  go true f = refl
  go false f = let less = ltb-true index count e in let more = ltb-false index (count + 1) f in absurd (omega (arith, less, more))
less_more index count false e other = go (nat_lt index (count + 1)) refl where
  go : (test : Bool) → nat_lt index (count + 1) ≡ test → test ≡ false
  go true f = let more = ltb-false index count e in let less = ltb-true index (count + 1) f in absurd (other (omega (arith, less, more)))
  go false f = refl

less_one : (count : ℕ) → nat_lt count (count + 1) ≡ true
less_one count = go (nat_lt count (count + 1)) refl where
  go : (test : Bool) → nat_lt count (count + 1) ≡ test → test ≡ true
  go true f = refl
  go false f = let more = ltb-false count (count + 1) f in absurd (omega (arith, more))

pub and_false : (a : Bool) → (a && false) ≡ false
and_false true = refl
and_false false = refl

module _ (homes : List Location) (count : ℕ) where
  -- one place more
  more_at : (q : Place) → with_at (current homes count) true (is_of_homes count homes) q ≡ is_of_homes (count + 1) homes q
  more_at q = go (is_place q (current homes count)) refl where
    other : is_place q (current homes count) ≡ false → (here : Bool) → is_place q (current homes q.index) ≡ here → (nat_lt q.index count && here) ≡ (nat_lt q.index (count + 1) && here)
    other e true f = ap (λ b. b && true) (sym (less_more q.index count (nat_lt q.index count) refl (λ same. contrary (is_place q (current homes count)) (subst (λ n. is_place q (current homes n) ≡ true) same f) e)))
    other e false f = and_false (nat_lt q.index count) ∙ sym (and_false (nat_lt q.index (count + 1)))

    go : (test : Bool) → is_place q (current homes count) ≡ test → cond test true (is_of_homes count homes q) ≡ is_of_homes (count + 1) homes q
    go true e =
        let index : q.index ≡ count = ap (λ (p : Place). p.index) (is_place_gives q (current homes count) e) in
        sym (and_both (nat_lt q.index (count + 1)) (is_place q (current homes q.index))
        (ap (λ n. nat_lt n (count + 1)) index ∙ less_one count) (ap (λ n. is_place q (current homes n)) index ∙ e))
    go false e = other e (is_place q (current homes q.index)) refl

  pub more_of_homes : with_at (current homes count) true (is_of_homes count homes) ≡ is_of_homes (count + 1) homes
  more_of_homes = λ i q. more_at q i

not_less : (index count : ℕ) → count ≤ index → nat_lt index count ≡ false
not_less index count most = go (nat_lt index count) refl where
  go : (test : Bool) → nat_lt index count ≡ test → test ≡ false
  go true e = let less = ltb-true index count e in absurd (omega (arith, less, most))
  go false e = refl

-- none is of the indexes behind
none_behind : (homes : List Location) (count : ℕ) (place : Place) → count ≤ place.index → is_of_homes count homes place ≡ false
none_behind homes count place most = ap (λ b. b && is_place place (current homes place.index)) (not_less place.index count most)

-- at first none is
none_of_homes : (homes : List Location) → is_of_homes 0 homes ≡ (λ place. false)
none_of_homes homes = λ i place. none_behind homes 0 place (omega arith) i

pub none_at_first : (homes : List Location) (disk : ℕ) → HasNone disk (fresh homes (is_of_homes 0 homes)).units
none_at_first homes disk = subst (λ (made : Place → Bool). HasNone disk (fresh homes made).units) (sym (none_of_homes homes)) (none_made homes disk)

-- ---- one unit

-- the disk of a create works
never_broken : (view : UnitView) (place : Place) (effect : Effect) → view.is_broken ≡ false → Answers view (Request.Create place) Answer.Broken effect → ⊥
never_broken view place Effect.Nothing works is = contrary view.is_broken is works
never_broken view place _ works is = is.1

-- .. and no unit of the index was made there
never_stale : (view : UnitView) (place : Place) (have : ℕ) (effect : Effect) → ((epoch : ℕ) → view.was_made epoch ≡ false)
    → Answers view (Request.Create place) (Answer.Stale have) effect → ⊥
never_stale view place have Effect.Nothing unmade is = contrary (view.was_made have) is.made (unmade have)
never_stale view place have _ unmade is = is.1

never_already : (view : UnitView) (place : Place) (effect : Effect) → ((epoch : ℕ) → view.was_made epoch ≡ false)
    → Answers view (Request.Create place) Answer.Already effect → ⊥
never_already view place Effect.Nothing unmade is = contrary (view.was_made view.epoch) is.1 (unmade view.epoch)
never_already view place _ unmade is = is.1

module _ {H F : Type 0} (shelf_seen : H → ShelfView F) (seen : F → FileView) where
  counts_made : (old new : List (StationOver H F)) (result : Result answered.Answer NoMemory) → all.CountsFault shelf_seen seen old new result
      → CountsMaking (all.faults_of shelf_seen seen old) (all.faults_of shelf_seen seen new) (unit_made result)
  counts_made old new (Ok answers.Fault) counts = counts
  counts_made old new (Ok _) counts = counts
  counts_made old new (Err _) counts = counts

  module _ (place : Place) (new : List (StationOver H F)) (units : Units) where
    -- a create that is done makes the unit
    done_makes : (broken : ℕ → Bool) (effect : Effect) → Answers (view_at broken units place) (Request.Create place) Answer.Done effect
        → AllStand shelf_seen seen new (with_at place (written_after effect None nothing_written) none_written) (units_after place (Request.Create place) effect units)
        → AllStand shelf_seen seen new none_written (with_unit place units)
    done_makes broken Effect.Made answers stand = subst (λ written. AllStand shelf_seen seen new written (with_unit place units)) (with_same place none_written) stand
    done_makes broken _ answers stand = absurd answers.1

    -- a create that gives a fault makes none
    fault_leaves : (broken : ℕ → Bool) (effect : Effect) → Answers (view_at broken units place) (Request.Create place) Answer.Fault effect
        → AllStand shelf_seen seen new (with_at place (written_after effect None nothing_written) none_written) (units_after place (Request.Create place) effect units)
        → AllStand shelf_seen seen new none_written units
    fault_leaves broken Effect.Nothing answers stand = subst (λ written. AllStand shelf_seen seen new written units) (with_same place none_written) stand
    fault_leaves broken _ answers stand = absurd answers.1

  module _ (home : Home) (old new : StationsOver H F) (units : Units) (free : IsFree shelf_seen seen old units (place_at home.unit home.disk)) where
    abbrev place : Place
    place = place_at home.unit home.disk

    abbrev view : UnitView
    view = view_at (all.is_broken_on old.stations) units place

    -- no shut chunk is started, and the create is answered
    unit_by_answer : (answer : answered.Answer) → AnswersBy shelf_seen seen (requests.Create home.unit home.disk) none_written units None answer old.stations new.stations
        → HasUnit shelf_seen seen place units new (unit_made (Ok answer))
    unit_by_answer answers.Done by = done_makes place new.stations units (all.is_broken_on old.stations) by.effect by.answers by.stand
    unit_by_answer answers.Fault by = (tt, fault_leaves place new.stations units (all.is_broken_on old.stations) by.effect by.answers by.stand)
    unit_by_answer answers.Broken by = absurd (never_broken view place by.effect free.unbroken by.answers)
    unit_by_answer (answers.Stale have) by = absurd (never_stale view place have by.effect free.unmade by.answers)
    unit_by_answer answers.Already by = absurd (never_already view place by.effect free.unmade by.answers)
    unit_by_answer _ by = absurd by.answers.1

    unit_by : (found : Option Bool) (result : Result answered.Answer NoMemory)
        → Handles shelf_seen seen (requests.Create home.unit home.disk) none_written units found result old.stations new.stations
        → HasUnit shelf_seen seen place units new (unit_made result)
    unit_by (Some found) result by = absurd (contrary (units.is_shut place) (by.was_shut refl) free.open_)
    unit_by None (Ok answer) by = unit_by_answer answer by.handles
    unit_by None (Err _) by = (tt, subst (λ written. AllStand shelf_seen seen new.stations written units) (with_same place none_written) by.handles)

  pub one_made : (home : Home) (old new : StationsOver H F) (found : Option Bool) (answer : Result answered.Answer NoMemory) (result : Result (Unit {0}) WorldFault) → result ≡ unit_made answer
      → StationsCall shelf_seen seen old new answer → Handled shelf_seen seen (requests.Create home.unit home.disk) found answer old.stations new.stations
      → AllOutlast shelf_seen seen old.stations new.stations → MakesUnit shelf_seen seen home old new result
  one_made home old new found answer result is call told lasts = subst (MakesUnit shelf_seen seen home old new) (sym is) (record {
    keeps = record { vid = call.vid; count = call.count; broken = call.broken; lasts = lasts };
    counts = counts_made old.stations new.stations answer call.counts;
    made = λ units free. unit_by home old new units free found answer (told none_written units free.stand);
  })

  -- ---- all units

  lasts_then : (one two three : List (StationOver H F)) → AllOutlast shelf_seen seen one two → AllOutlast shelf_seen seen two three → AllOutlast shelf_seen seen one three
  lasts_then [] [] [] first then_ = tt
  lasts_then (a ∷ rest) (b ∷ more) (c ∷ last) first then_ = (
    then_.0 ∙ first.0,
    then_.1 ∙ first.1,
    record {
      told = then_.2.told ∙ first.2.told;
      still = then_.2.still ∙ first.2.still;
      quiet = λ quiet. then_.2.quiet (first.2.quiet quiet);
      faults = let before = first.2.faults in let now = then_.2.faults in omega (arith, before, now);
    },
    lasts_then rest more last first.3 then_.3,
  )
  lasts_then [] [] (c ∷ last) first then_ = absurd then_
  lasts_then [] (b ∷ more) three first then_ = absurd first
  lasts_then (a ∷ rest) [] three first then_ = absurd first
  lasts_then (a ∷ rest) (b ∷ more) [] first then_ = absurd then_

  keeps_then : (one two three : StationsOver H F) → KeepsStations shelf_seen seen one two → KeepsStations shelf_seen seen two three → KeepsStations shelf_seen seen one three
  keeps_then one two three first then_ = record {
    vid = then_.vid ∙ first.vid;
    count = then_.count ∙ first.count;
    broken = λ disk. then_.broken disk ∙ first.broken disk;
    lasts = lasts_then one.stations two.stations three.stations first.lasts then_.lasts;
  }

  pub first_none : (homes : List Home) (stations : StationsOver H F) → MakesFirst shelf_seen seen homes 0 stations stations
  first_none homes stations = record {
    keeps = record { vid = refl; count = refl; broken = λ disk. refl; lasts = all_last shelf_seen seen stations.stations };
    counts = omega arith;
    made = λ have. have.made;
  }

  module _ (homes : List Home) (count : ℕ) (home : Home) (first mid : StationsOver H F) (below : count < length homes) (at : home ≡ get_or homes count home) (fits : FitsHomes homes first)
      (makes : MakesFirst shelf_seen seen homes count first mid) where
    pub next_own : home.unit.vid ≡ mid.vid
    next_own = (own_at first.vid 0 count homes home fits.own below at).0 ∙ sym makes.keeps.vid

    pub next_disk : HasDisk mid.stations home.disk
    next_disk =
        let has = fits.disks count below in
        let disk : (home_at (locations homes) count).disk ≡ home.disk = ap (λ (l : Location). l.disk) (location_at homes count home below at) in
        let low = has.first in
        let high = has.last in
        let same = makes.keeps.count in
        record { first = omega (arith, low, disk); last = omega (arith, high, disk, same) }

    abbrev units : Units
    units = (fresh (locations homes) (is_of_homes count (locations homes))).units

    index_is : home.unit.index ≡ count
    index_is = (own_at first.vid 0 count homes home fits.own below at).1 ∙ omega arith

    -- nothing stands where it is to be made
    next_free : HaveNone shelf_seen seen homes first.stations → IsFree shelf_seen seen mid units (place_at home.unit home.disk)
    next_free have = record {
      stand = makes.made have;
      unbroken = makes.keeps.broken home.disk ∙ have.unbroken home.disk;
      unmade = λ epoch.
          let index = index_is in
          none_behind (locations homes) count (record { index = home.unit.index; epoch = epoch; disk = home.disk }) (omega (arith, index));
      open_ = refl;
    }

    -- one unit more
    pub next_made : (new : StationsOver H F) → MakesUnit shelf_seen seen home mid new (Ok tt) → MakesFirst shelf_seen seen homes (count + 1) first new
    next_made new unit = record {
      keeps = keeps_then first mid new makes.keeps unit.keeps;
      counts = let before = makes.counts in let now = unit.counts in omega (arith, before, now);
      made = λ have.
          let locs = locations homes in
          let place : place_at home.unit home.disk ≡ current locs count = place_is homes count home below at index_is in
          let stand : AllStand shelf_seen seen new.stations none_written (with_unit (place_at home.unit home.disk) units) = unit.made units (next_free have) in
          subst (λ (made : Place → Bool). AllStand shelf_seen seen new.stations none_written (fresh locs made).units) (more_of_homes locs count)
          (subst (AllStand shelf_seen seen new.stations none_written) (unit_more locs (is_of_homes count locs) (current locs count))
          (subst (λ (p : Place). AllStand shelf_seen seen new.stations none_written (with_unit p units)) place stand));
    }

    refusal_behind : (a b c : ℕ) (fault : WorldFault) → a ≤ b → CountsRefusal b c fault → CountsRefusal a c fault
    refusal_behind a b c Fault before rose = omega (arith, before, rose)
    refusal_behind a b c _ before now = omega (arith, before, now)

    -- or a refusal
    pub next_fails : (new : StationsOver H F) (fault : WorldFault) (result : Result (Unit {0}) WorldFault) → result ≡ Err fault → MakesUnit shelf_seen seen home mid new (Err fault)
        → MakesUnits shelf_seen seen homes first new result
    next_fails new fault result is unit = subst (MakesUnits shelf_seen seen homes first new) (sym is) (record {
      keeps = keeps_then first mid new makes.keeps unit.keeps;
      counts =
          refusal_behind (all.faults_of shelf_seen seen first.stations) (all.faults_of shelf_seen seen mid.stations) (all.faults_of shelf_seen seen new.stations) fault makes.counts
          unit.counts;
      plain = λ have. (unit.made units (next_free have)).0;
      made = λ have. record { count = count; few = omega (arith, below); made = (unit.made units (next_free have)).1 };
    })
