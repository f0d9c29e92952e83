-- The answers of a station, one by one.
use Rattle.std.proofs.Common.{◌≡◌, ◌∙◌, sym, ap, refl, subst, ℕ, ◌≤◌, ◌<◌, Bool, true, false, Option, None, Some, Result, Ok, Err, ◌⊎◌, inl, inr, nat_lt, arith}
use Rattle.std.specs.Prelude.{is_some, ◌||◌}
use Rattle.std.proofs.lemmas.Bool.Decides.{nat_tests}
use Rattle.unit_id.specs.UnitName.{Name, IsName, packed}
use Rattle.unit_id.specs.Place.{Place}
use Rattle.unit_id.specs.Messages.{place_at, request_of, answer_of, vid_of}
use Rattle.unit_id.specs.Request.{Answer, place_of}
use Rattle.unit_id.specs.declared.request.Request as sent
use Rattle.unit_id.specs.declared.request.Request.TheVariants as requests
use Rattle.unit_id.specs.declared.answer.Answer as answered
use Rattle.unit_id.specs.declared.answer.Answer.TheVariants as answers
use Rattle.unit_id.proofs.Bools.{or_cases, or_none}
use Rattle.disk_base.specs.Disk.{FileView, IsFile}
use Rattle.disk_base.specs.Shelves.{ShelfView}
use Rattle.disk_base.specs.declared.fault.NoMemory.{NoMemory}
use Rattle.blob_node.specs.Units.{Units}
use Rattle.blob_node.specs.UnitAnswer.{Effect, Answers, IsServed, view_at}
use Rattle.blob_node.specs.Holding.{Written}
use Rattle.blob_node.specs.HeldUnit.{UnitOver, name_of, disk_of, is_create}
use Rattle.blob_node.specs.UnitTable.{TableOver, unit_at, knows_released, greatest_of, AreNamed, ServesIn}
use Rattle.blob_node.specs.Station.{StationOver, name_at, Stands, LeavesInCall, CrashLeaves, HandlesBy, Handled, CreatesBy, Created}
use Rattle.blob_node.proofs.Holdings.{never_both}
use Rattle.blob_node.proofs.Tables.{none_of}
use Rattle.blob_node.proofs.Standing.{with_same}
use Rattle.blob_node.proofs.Answering.{place_is, is_live, shows_none, serves_other, serves_create}
use Rattle.blob_node.proofs.Crashes.{create_is, crash_same, crash_served}
use Rattle.blob_node.proofs.Serving.{station_of, serves_through, name_is, none_at, release_known, stale_at, served_at, known_epoch}

pub not_less : (have epoch greatest : ℕ) → have ≡ greatest → nat_lt epoch greatest ≡ false → have ≤ epoch
not_less have epoch greatest is e = grind (arith, nat_tests)

module _ {H F : Type 0} (shelf_seen : H → ShelfView F) (seen : F → FileView) (request : sent.Request) where
  abbrev place : Place
  place = place_of (request_of request)

  no_found : (b : Bool) → None ≡ Some b → ⊥
  no_found b e = cc

  -- nothing changes
  unchanged : (station : StationOver H F) (answer : answered.Answer) → is_live answer ≡ false
      → ((written : Place → Written) (units : Units) → Stands shelf_seen seen station written units → Answers (view_at (λ disk. station.is_broken) units place) (request_of request) (answer_of answer) Effect.Nothing)
      → Handled shelf_seen seen request None (Ok answer) station station
  unchanged station answer calm answers_ = λ written units stands. record {
    handles = record {
      effect = Effect.Nothing;
      answers = answers_ written units stands;
      bytes = shows_none request answer (written place).items calm;
      stands = subst (λ w. Stands shelf_seen seen station w units) (sym (with_same place written)) stands;
    };
    was_in_doubt = λ e. absurd (no_found true e);
    was_shut = λ e. absurd (never_both false refl e);
    moments = crash_same shelf_seen seen written units station stands request None;
    clear = λ clear. clear;
  }

  pub broken : (station : StationOver H F) → station.is_broken ≡ true → Handled shelf_seen seen request None (Ok answers.Broken) station station
  broken station is = unchanged station answers.Broken refl (λ written units stands. is)

  module _ (station : StationOver H F) (named : AreNamed station.vid station.units) (name : IsName (name_of request)) (own : vid_of request ≡ station.vid) (at : disk_of request ≡ station.disk) (unbroken : station.is_broken ≡ false) where
    named_is : name_at station.vid place ≡ name_of request
    named_is = name_is request station.vid own

    place_name : IsName (name_at station.vid place)
    place_name = subst IsName (sym named_is) name

    abbrev is_stale : Bool
    is_stale = nat_lt (name_of request).epoch (greatest_of station.units (name_of request).index) || knows_released (unit_at station.units (name_of request))

    same_have : greatest_of station.units (name_of request).index ≡ greatest_of station.units place.index
    same_have = ap (λ (n : Name). greatest_of station.units n.index) (sym named_is)

    released_as : (b : Bool) → knows_released (unit_at station.units (name_of request)) ≡ b → (written : Place → Written) (units : Units) → Stands shelf_seen seen station written units → units.is_released place ≡ b
    released_as b e written units stands = release_known shelf_seen seen station written units stands place b at place_name (sym e ∙ ap (λ n. knows_released (unit_at station.units n)) (sym named_is))

    known_there : (o : Option (UnitOver F)) → knows_released o ≡ true → (u : UnitOver F) × (o ≡ Some u)
    known_there None e = absurd (never_both false refl e)
    known_there (Some u) e = (u, refl)

    pub stale : is_stale ≡ true → Handled shelf_seen seen request None (Ok (answers.Stale (greatest_of station.units (name_of request).index))) station station
    stale is = unchanged station (answers.Stale (greatest_of station.units (name_of request).index)) refl (λ written units stands.
        by written units stands (or_cases (nat_lt (name_of request).epoch (greatest_of station.units (name_of request).index)) (knows_released (unit_at station.units (name_of request))) is))
      where
        by : (written : Place → Written) (units : Units) → Stands shelf_seen seen station written units → (nat_lt (name_of request).epoch (greatest_of station.units (name_of request).index) ≡ true) ⊎ (knows_released (unit_at station.units (name_of request)) ≡ true)
            → Answers (view_at (λ disk. station.is_broken) units place) (request_of request) (Answer.Stale (greatest_of station.units (name_of request).index)) Effect.Nothing
        by written units stands (inl less) =
            let l : (name_of request).epoch < greatest_of station.units (name_of request).index = grind (arith, nat_tests) in
            stale_at shelf_seen seen station written units stands named place (greatest_of station.units (name_of request).index) at unbroken same_have (omega (arith, l))
            (inr (subst (λ (n : Name). n.epoch < greatest_of station.units (name_of request).index) (sym named_is) l))
        by written units stands (inr free) =
            let u = known_there (unit_at station.units (name_of request)) free in
            let first = known_epoch shelf_seen seen station written units stands named place u.0 place_name (ap (unit_at station.units) named_is ∙ u.1) in
            let one = place_name.first in
            let same = same_have in
            stale_at shelf_seen seen station written units stands named place (greatest_of station.units (name_of request).index) at unbroken same_have (omega (arith, first, one, same))
            (inl (released_as true free written units stands))

    module _ (not_stale : is_stale ≡ false) where
      served : (written : Place → Written) (units : Units) → Stands shelf_seen seen station written units → IsServed (view_at (λ disk. station.is_broken) units place)
      served written units stands =
          let both = or_none (nat_lt (name_of request).epoch (greatest_of station.units (name_of request).index)) (knows_released (unit_at station.units (name_of request))) not_stale in
          let l : greatest_of station.units (name_of request).index ≤ (name_of request).epoch = at_most (name_of request).epoch (greatest_of station.units (name_of request).index) both.0 in
          served_at shelf_seen seen station written units stands named place at unbroken (released_as false both.1 written units stands)
          (subst (λ (n : Name). greatest_of station.units n.index ≤ n.epoch) (sym named_is) l)
        where
          at_most : (a b : ℕ) → nat_lt a b ≡ false → b ≤ a
          at_most a b e = grind (arith, nat_tests)

      pub no_unit : is_create request ≡ false → is_some (unit_at station.units (name_of request)) ≡ false → Handled shelf_seen seen request None (Ok answers.NoUnit) station station
      no_unit other none = unchanged station answers.NoUnit refl (λ written units stands. (
        served written units stands,
        serves_other (view_at (λ disk. station.is_broken) units place) request other Answer.NoUnit Effect.Nothing
            (none_at shelf_seen seen station written units stands place at place_name (ap (unit_at station.units) named_is ∙ none_of (unit_at station.units (name_of request)) none)),
      ))

      module _ (create : is_create request ≡ true) (new : StationOver H F) where
        place_there : place_at (name_of request) station.disk ≡ place
        place_there = ap (place_at (name_of request)) (sym at) ∙ sym (place_is request)

        by_result : (written : Place → Written) (units : Units) → Stands shelf_seen seen station written units → (result : Result answered.Answer NoMemory) → CreatesBy shelf_seen seen place written units result new → HandlesBy shelf_seen seen request written units None result station new
        by_result written units stands (Err e) is = subst (λ w. Stands shelf_seen seen new w units) (sym (with_same place written)) is
        by_result written units stands (Ok answers.Done) is = record {
          effect = Effect.Made;
          answers = (served written units stands, serves_create (view_at (λ disk. station.is_broken) units place) request create Answer.Done Effect.Made is.0);
          bytes = shows_none request answers.Done (written place).items refl;
          stands = is.1;
        }
        by_result written units stands (Ok answers.Already) is = record {
          effect = Effect.Nothing;
          answers = (served written units stands, serves_create (view_at (λ disk. station.is_broken) units place) request create Answer.Already Effect.Nothing is.0);
          bytes = shows_none request answers.Already (written place).items refl;
          stands = subst (λ w. Stands shelf_seen seen new w units) (sym (with_same place written)) is.1;
        }
        by_result written units stands (Ok (answers.Live blob_size bytes)) is = absurd is
        by_result written units stands (Ok answers.Marked) is = absurd is
        by_result written units stands (Ok answers.Gone) is = absurd is
        by_result written units stands (Ok answers.Absent) is = absurd is
        by_result written units stands (Ok (answers.Listing lock live marked)) is = absurd is
        by_result written units stands (Ok (answers.Stale have)) is = absurd is
        by_result written units stands (Ok answers.NoUnit) is = absurd is
        by_result written units stands (Ok (answers.Fenced lock)) is = absurd is
        by_result written units stands (Ok answers.Deleted) is = absurd is
        by_result written units stands (Ok answers.NotMarked) is = absurd is
        by_result written units stands (Ok answers.Broken) is = absurd is
        by_result written units stands (Ok (answers.Full end)) is = absurd is
        by_result written units stands (Ok answers.Fault) is = record {
          effect = Effect.Nothing;
          answers = (served written units stands, serves_create (view_at (λ disk. station.is_broken) units place) request create Answer.Fault Effect.Nothing is.0);
          bytes = shows_none request answers.Fault (written place).items refl;
          stands = subst (λ w. Stands shelf_seen seen new w units) (sym (with_same place written)) is.1;
        }
        by_result written units stands (Ok (answers.Damaged kept computed)) is = absurd is
        by_result written units stands (Ok (answers.Spoiled at_)) is = absurd is

        pub created : (result : Result answered.Answer NoMemory) → Created shelf_seen seen (name_of request) result station new → Handled shelf_seen seen request None result station new
        created result made = λ written units stands. record {
          handles = by_result written units stands result (subst (λ p. CreatesBy shelf_seen seen p written units result new) place_there (made written units stands).0);
          was_in_doubt = λ e. absurd (no_found true e);
          was_shut = λ e. absurd (never_both false refl e);
          moments = subst (λ (r : sent.Request). CrashLeaves shelf_seen seen station new (LeavesInCall shelf_seen seen r written units None station))
              (sym (create_is request create ∙ ap (λ d. requests.Create (name_of request) d) at)) (made written units stands).1;
          clear = (made written units stands).2;
        }

-- ---- a unit that stands here

module _ {H F : Type 0} (shelf_seen : H → ShelfView F) (seen : F → FileView) (shelf : H) (disk : ℕ) (old new : TableOver F) (request : sent.Request) (have : ℕ) (found : Option Bool) (result : Result answered.Answer NoMemory)
    (named : AreNamed old.vid old.units) (name : IsName (name_of request)) (own : vid_of request ≡ old.vid) (at : disk_of request ≡ disk) (other : is_create request ≡ false)
    (have_is : have ≡ greatest_of old.units (name_of request).index) (latest : have ≤ (name_of request).epoch) (free : knows_released (unit_at old.units (name_of request)) ≡ false)
    (serves : ServesIn seen (packed (name_of request)) request have old new found result) (is_file : IsFile (seen serves.now.chunk.log.file)) where
  pub serve_moments : (written : Place → Written) (units : Units) → Stands shelf_seen seen (station_of shelf disk false old) written units
      → CrashLeaves shelf_seen seen (station_of shelf disk false old) (station_of shelf disk false new) (LeavesInCall shelf_seen seen request written units found (station_of shelf disk false old))
  serve_moments written units stands =
      let is = name_is request old.vid own in
      crash_served shelf_seen seen shelf disk false old new (packed (name_of request)) serves.was serves.now serves.replaces is_file request written units found stands at (subst IsName (sym is) name) (ap packed (sym is))
      (serves_through shelf_seen seen shelf disk old new request have found result named name own at other have_is latest free serves written units stands)
