-- A world over stations on which all units are made and over a made log is sound, and where files told it stands for the volume as made.
use Rattle.std.proofs.Common.{◌≡◌, ◌∙◌, sym, ap, refl, subst, ℕ, suc, ◌+◌, ◌*◌, ◌≤◌, Bool, true, false, inl, inr, List, [], ◌∷◌, length, replicate, Option, Some, None, Err, IfSome, IsSome, IsSomeAnd, arith}
use Rattle.std.specs.Prelude.{◌&&◌, ◌||◌, ◌==◌}
use Rattle.std.proofs.lemmas.List.{length-map, length-replicate}
use Rattle.unit_id.specs.Lists.{IsIn}
use Rattle.unit_id.specs.Place.{Location, Place}
use Rattle.unit_id.specs.declared.homes.Home.{Home}
use Rattle.unit_id.proofs.Bools.{and_left, and_right}
use Rattle.disk_base.specs.Disk.{FileView}
use Rattle.disk_base.specs.Shelves.{ShelfView}
use Rattle.gate_log.specs.LogFile.{IsLogOf, bodies_in, end_place}
use Rattle.gate_log.specs.GateLog.{HasBodies, IsStarted, shown}
use Rattle.code_mode.specs.declared.mode.Mode.{Mode}
use Rattle.blob_node.specs.declared.fate.Fate.{Fate}
use Rattle.blob_node.specs.Units.{Units}
use Rattle.blob_node.specs.Station.{StationOver, HasNone, IsUnused}
use Rattle.blob_node.specs.Station as single
use Rattle.blob_node.proofs.Standing.{stands_empty}
use Rattle.volume_entry.specs.Book.{MayHaveRecord}
use Rattle.volume_entry.specs.Making.{Makes, IsMade, last_first_end}
use Rattle.volume_entry.specs.Manager.{ManagerRecord, fresh_manager}
use Rattle.volume_entry.specs.TableParts.{shape_of}
use Rattle.volume_entry.specs.BookStart.{last_start}
use Rattle.volume_entry.specs.Entry.{EntryOver}
use Rattle.volume_entry.specs.Entry as entries
use Rattle.volume_entry.specs.declared.shape.Shape.{Shape}
use Rattle.volume_entry.specs.declared.fault.EntryFault.{EntryFault}
use Rattle.volume_entry.specs.declared.fault.EntryFault.TheVariants as entry_faults
use Rattle.volume_entry.proofs.BookEnds.{log_says}
use Rattle.volume_entry.proofs.EntryMade.{made_none}
use Rattle.volume_world.specs.State.{fresh}
use Rattle.volume_world.specs.History.{KeptHistory}
use Rattle.volume_world.specs.Mailbag.{KeptLate}
use Rattle.volume_world.specs.PutBook.{KeptPuts, Books}
use Rattle.volume_world.specs.Stations.{AreOn, StationsOver, AllStand, is_broken_on}
use Rattle.volume_world.specs.Stations as all
use Rattle.volume_world.specs.World.{WorldOver}
use Rattle.volume_world.specs.Origins.{are_told, is_of_homes, made_with}
use Rattle.volume_world.specs.Stepping.{AreStill, FitsLate, IsShort, IsSound, IsAt}
use Rattle.volume_world.specs.WorldMaking.{CanMake, CountsRefusal, FitsHomes, HandsBack, HaveNone, HaveUnits, IsMadeOf, IsNewStation, IsPlain, LeavesLog, MakesFirst, MakesUnits, RefusedOver, entry_fault, location_of, locations, none_written}
use Rattle.volume_world.specs.declared.world_fault.WorldFault.{WorldFault}
use Rattle.volume_world.specs.declared.world_fault.WorldFault.TheVariants.{Fault, Memory}
use Rattle.volume_world.proofs.FirstWorlds.{first_stands}
use Rattle.volume_world.proofs.MadeWorlds.{and_false, none_at_first}
use Rattle.volume_world.proofs.StationsLasting.{all_last, lasting_are, lasting_still}

if_some : {A : Type 0} (P : Type 0) (content : Option A) → IsSome content → IfSome content (λ _. P) → P
if_some P None some told = cc
if_some P (Some x) some told = told

-- a file that tells nothing
not_told : {A : Type 0} (content : Option A) → content ≡ None → IsSome content → ⊥
not_told None is some = cc
not_told (Some x) is some = cc

untold : {A : Type 0} (P : Type 0) (content : Option A) → content ≡ None → IfSome content (λ _. P)
untold P None is = tt
untold P (Some x) is = absurd (not_told (Some x) is refl)

not_in : {A : Type 0} (P : A → Type 0) (items : List A) → items ≡ [] → (item : A) → IsIn item items → P item
not_in P items none item there = absurd (subst (IsIn item) none there)

-- ---- new stations

module _ {H F : Type 0} (shelf_seen : H → ShelfView F) (seen : F → FileView) where
  new_unbroken : (vid : ℕ) (stations : List (StationOver H F)) → ((station : StationOver H F) → IsIn station stations → IsNewStation shelf_seen seen vid station)
      → (disk : ℕ) → is_broken_on stations disk ≡ false
  new_unbroken vid [] new disk = refl
  new_unbroken vid (s ∷ ss) new disk =
      ap (λ b. ((s.disk == disk) && b) || is_broken_on ss disk) (new s (inl refl)).unbroken ∙ ap (λ b. b || is_broken_on ss disk) (and_false (s.disk == disk))
      ∙ new_unbroken vid ss (λ station there. new station (inr there)) disk

  new_still : (vid : ℕ) (stations : List (StationOver H F)) → ((station : StationOver H F) → IsIn station stations → IsNewStation shelf_seen seen vid station) → AreStill shelf_seen seen stations
  new_still vid stations new station there quiet = record {
    shelf = quiet;
    files = subst (single.AreQuiet shelf_seen seen) (sym (new station there).units) tt;
  }

  new_stand : (vid first : ℕ) (stations : List (StationOver H F)) (units : Units) → AreOn vid first stations
      → ((station : StationOver H F) → IsIn station stations → IsNewStation shelf_seen seen vid station) → are_told shelf_seen seen stations ≡ true → ((disk : ℕ) → HasNone disk units)
      → AllStand shelf_seen seen stations none_written units
  new_stand vid first [] units on new told none = tt
  new_stand vid first (s ∷ ss) units on new told none =
      let here : (shelf_seen s.shelf).is_told ≡ true = and_left (shelf_seen s.shelf).is_told (are_told shelf_seen seen ss) told in
      let unused : IsUnused seen s.vid (shelf_seen s.shelf) = subst (λ v. IsUnused seen v (shelf_seen s.shelf)) (sym on.0) ((new s (inl refl)).unused here) in (
        stands_empty shelf_seen seen s (new s (inl refl)).units here unused none_written units (none s.disk),
        new_stand vid (suc first) ss units on.2 (λ station there. new station (inr there)) (and_right (shelf_seen s.shelf).is_told (are_told shelf_seen seen ss) told) none,
      )

-- ---- the log

module _ {F : Type 0} (seen : F → FileView) (entry : EntryOver F) (homes : List Location) (stands : entries.Stands seen entry (fresh_manager homes))
    (early : IfSome entry.book.log.end (λ place. place ≤ last_first_end)) where
  abbrev bodies : List (List ℕ)
  bodies = stands.book.bodies

  abbrev has : HasBodies (shown seen entry.book.log) bodies
  has = (stands.book.open_ refl).has

  early_end : end_place bodies ≤ last_first_end
  early_end = go entry.book.log.end has early where
    at : (end : ℕ) → end ≤ last_first_end → (content : Option (List ℕ)) → IsSomeAnd content (IsStarted (seen entry.book.log.file).images end bodies) → end_place bodies ≤ last_first_end
    at end below None none = absurd none
    at end below (Some file) is = subst (λ n. n ≤ last_first_end) is.end_is below

    go : (end : Option ℕ) → IsSomeAnd end (λ e. IsSomeAnd (seen entry.book.log.file).content (IsStarted (seen entry.book.log.file).images e bodies)) → IfSome end (λ place. place ≤ last_first_end)
        → end_place bodies ≤ last_first_end
    go None none below = absurd none
    go (Some end) is below = at end below (seen entry.book.log.file).content is

  -- a made log is short
  made_short : IsShort 0 (seen entry.book.log.file)
  made_short other log = go (seen entry.book.log.file).content (log_says (shown seen entry.book.log) bodies has) log where
    go : (content : Option (List ℕ)) → IsSomeAnd content (λ file. IsLogOf file bodies) → IsSomeAnd content (λ file. IsLogOf file other) → end_place other ≤ 384 + 128 * 0
    go None none log = absurd none
    go (Some file) is was =
        let same : bodies ≡ other = ap bodies_in (sym is.stands ∙ was.stands) in
        let below = early_end in
        let at = ap end_place same in
        omega (arith, below, at)

-- ---- the world

module _ {H F : Type 0} (shelf_seen : H → ShelfView F) (seen : F → FileView) (vid : ℕ) (mode : Mode) (items : List (StationOver H F)) (file : F) (homes : List Home)
    (can : CanMake shelf_seen seen vid mode items file homes) where
  abbrev shape : Shape
  shape = record { mode = mode; disks = length items }

  abbrev given : StationsOver H F
  given = record { vid = vid; stations = items }

  counted : length homes ≡ (shape_of shape).total
  counted = sym (length-map homes location_of) ∙ can.first.count

  -- the homes are on disks of the stations
  pub fits_homes : (over : StationsOver H F) → over ≡ given → FitsHomes homes over
  fits_homes over is = subst (FitsHomes homes) (sym is) (record {
    own = can.own;
    disks = λ index below.
        let count = counted in
        let disk = can.first.disks index (omega (arith, below, count)) in
        record { first = disk.first; last = disk.last };
  })

  -- at first no unit is made
  none_yet : are_told shelf_seen seen items ≡ true → HaveNone shelf_seen seen homes items
  none_yet told = record {
    made =
        new_stand shelf_seen seen vid 1 items (fresh (locations homes) (is_of_homes 0 (locations homes))).units can.are.on can.new told (none_at_first (locations homes));
    unbroken = new_unbroken shelf_seen seen vid items can.new;
  }

  module _ (stations : StationsOver H F) (made : MakesFirst shelf_seen seen homes (length homes) given stations) (entry : EntryOver F) (is : IsMade seen vid shape (locations homes) file entry)
      (puts : KeptPuts) (none_put : (total : ℕ) (homes : List Location) (is_made : Place → Bool) → Books total puts.puts (fresh homes is_made).puts)
      (late : KeptLate) (none_late : late.items ≡ []) (history : KeptHistory) (none_noted : history.entries ≡ []) where
    abbrev world_with : List Location → List (List Fate) → WorldOver H F
    world_with first planned = record {
      vid = stations.vid;
      shape = shape;
      first = first;
      stations = stations.stations;
      entry = entry;
      puts = puts;
      planned = planned;
      late = late;
      time = 0;
      history = history;
    }

    abbrev world : WorldOver H F
    world = world_with (locations homes) (replicate (length items) [])

    ends : (end : Option ℕ) → IfSome end (λ place. place ≤ last_first_end) → IfSome end (λ place. place ≤ last_start + 128 * length history.entries)
    ends None early = tt
    ends (Some place) early = omega (arith, early)

    sound : IsSound shelf_seen seen world
    sound = record {
      one = record { vid = is.vid_is ∙ sym made.keeps.vid; shape = is.shape_is; planned = length-replicate {A = List Fate} (length items) [] };
      disks = can.few;
      stations = subst (λ v. all.AreStations v stations.stations) (sym made.keeps.vid) (lasting_are shelf_seen seen vid items stations.stations made.keeps.lasts made.keeps.count can.are);
      count = made.keeps.count;
      still = lasting_still shelf_seen seen items stations.stations made.keeps.lasts (new_still shelf_seen seen vid items can.new);
      flags = is.flags;
      broken = λ disk. made.keeps.broken disk ∙ new_unbroken shelf_seen seen vid items can.new disk ∙ sym (is.unbroken disk);
      time = omega arith;
      end = ends entry.book.log.end is.early;
      late = not_in (FitsLate shelf_seen seen world) late.items none_late;
    }

    at : are_told shelf_seen seen items ≡ true → IsSome (seen file).content → IsAt shelf_seen seen world (made_with (shape_of shape).total (locations homes))
    at told content =
        let total = (shape_of shape).total in
        let locs = locations homes in
        let manager = if_some (entries.Stands seen entry (fresh_manager locs)) (seen file).content content is.stands in
        let stand : HaveUnits shelf_seen seen locs total stations.stations = subst (λ n. HaveUnits shelf_seen seen locs n stations.stations) counted (made.made (none_yet told)) in
        record {
          stands = first_stands shelf_seen seen world locs (is_of_homes total locs) (length items) manager is.unbroken stand (none_put total locs (is_of_homes total locs)) refl none_late refl;
          short = subst (λ n. IsShort n (seen entry.book.log.file)) (sym (ap length none_noted)) (made_short seen entry locs manager is.early);
        }

    whole : IsMadeOf shelf_seen seen vid mode items file homes world
    whole = record {
      vid_is = made.keeps.vid;
      shape = refl;
      first = refl;
      entries = none_noted;
      sound = sound;
      lasts = made.keeps.lasts;
      log = is.lasts;
      faults = let same = is.faults in let rest = made.counts in omega (arith, same, rest);
      told = at;
    }

    pub world_made : (first : List Location) (planned : List (List Fate)) → first ≡ locations homes → planned ≡ replicate (length items) []
        → IsMadeOf shelf_seen seen vid mode items file homes (world_with first planned)
    world_made first planned first_is planned_is =
        subst (λ fs. IsMadeOf shelf_seen seen vid mode items file homes (world_with fs planned)) (sym first_is)
        (subst (λ ps. IsMadeOf shelf_seen seen vid mode items file homes (world_with (locations homes) ps)) (sym planned_is) whole)

  -- ---- refusals

  -- a file that tells its bytes is a new one
  entry_plain : (homes : List Location) (fault : EntryFault) (left : F) → Makes seen vid shape homes file (Err (fault, left)) → IsSome (seen file).content → IsPlain (entry_fault fault)
  entry_plain homes entry_faults.Fault left makes content = tt
  entry_plain homes entry_faults.Memory left makes content = tt
  entry_plain homes (entry_faults.Spoiled place) left makes content = absurd (not_told (seen file).content makes.1 content)
  entry_plain homes entry_faults.Shut left makes content = absurd makes

  entry_leaves : (fault : EntryFault) (left : F) → Makes seen vid shape (locations homes) file (Err (fault, left)) → LeavesLog shelf_seen seen vid mode homes file left
  entry_leaves entry_faults.Fault left makes = makes.1
  entry_leaves entry_faults.Memory left makes = go (seen file).content (seen left).content makes.1 where
    go : (was now : Option (List ℕ)) → IfSome was (λ _. IsSomeAnd now (λ bytes. IsLogOf bytes []))
        → IfSome was (λ _. IsSomeAnd now (MayHaveRecord vid mode [] (ManagerRecord.Made (locations homes))))
    go None now empty = tt
    go (Some bytes) None empty = absurd empty
    go (Some bytes) (Some more) empty = inl empty
  entry_leaves (entry_faults.Spoiled place) left makes = untold (IsSomeAnd (seen left).content (MayHaveRecord vid mode [] (ManagerRecord.Made (locations homes)))) (seen file).content makes.1
  entry_leaves entry_faults.Shut left makes = absurd makes

  -- a file that wasn't touched
  untouched : LeavesLog shelf_seen seen vid mode homes file file
  untouched = entry_leaves entry_faults.Memory file (made_none seen vid shape (locations homes) file can.is_new)

  pub none_handed : (over : StationsOver H F) (refused : RefusedOver H F) → over ≡ given → refused ≡ record { fault = Memory; stations = over.stations; file = file }
      → HandsBack shelf_seen seen vid mode items file homes refused
  none_handed over refused over_is is =
      subst (HandsBack shelf_seen seen vid mode items file homes) (sym (is ∙ ap (λ (o : StationsOver H F). record { fault = Memory; stations = o.stations; file = file }) over_is)) (record {
        lasts = all_last shelf_seen seen items;
        unbroken = new_unbroken shelf_seen seen vid items can.new;
        counts = omega arith;
        plain = λ told content. tt;
        units = λ told. record { count = 0; few = omega arith; made = (none_yet told).made };
        log = untouched;
      })

  beside : (a b f : ℕ) (fault : WorldFault) → CountsRefusal a b fault → CountsRefusal (a + f) (b + f) fault
  beside a b f Fault rose = omega (arith, rose)
  beside a b f _ counts = omega (arith, counts)

  pub units_handed : (new : StationsOver H F) (fault : WorldFault) (refused : RefusedOver H F) → MakesUnits shelf_seen seen homes given new (Err fault)
      → refused ≡ record { fault = fault; stations = new.stations; file = file } → HandsBack shelf_seen seen vid mode items file homes refused
  units_handed new fault refused makes is = subst (HandsBack shelf_seen seen vid mode items file homes) (sym is) (record {
    lasts = makes.keeps.lasts;
    unbroken = λ disk. makes.keeps.broken disk ∙ new_unbroken shelf_seen seen vid items can.new disk;
    counts = beside (all.faults_of shelf_seen seen items) (all.faults_of shelf_seen seen new.stations) (seen file).faults fault makes.counts;
    plain = λ told content. makes.plain (none_yet told);
    units = λ told. makes.made (none_yet told);
    log = untouched;
  })

  entry_counts : (a b : ℕ) (homes : List Location) (fault : EntryFault) (left : F) → a ≤ b → Makes seen vid shape homes file (Err (fault, left))
      → CountsRefusal (a + (seen file).faults) (b + (seen left).faults) (entry_fault fault)
  entry_counts a b homes entry_faults.Fault left less makes = let rose = makes.0 in omega (arith, less, rose)
  entry_counts a b homes entry_faults.Memory left less makes = let same = makes.0 in omega (arith, less, same)
  entry_counts a b homes (entry_faults.Spoiled place) left less makes = let same = makes.0 in omega (arith, less, same)
  entry_counts a b homes entry_faults.Shut left less makes = absurd makes

  pub entry_handed : (new : StationsOver H F) (fault : EntryFault) (left : F) (refused : RefusedOver H F) → MakesFirst shelf_seen seen homes (length homes) given new
      → Makes seen vid shape (locations homes) file (Err (fault, left)) → refused ≡ record { fault = entry_fault fault; stations = new.stations; file = left }
      → HandsBack shelf_seen seen vid mode items file homes refused
  entry_handed new fault left refused made makes is = subst (HandsBack shelf_seen seen vid mode items file homes) (sym is) (record {
    lasts = made.keeps.lasts;
    unbroken = λ disk. made.keeps.broken disk ∙ new_unbroken shelf_seen seen vid items can.new disk;
    counts = entry_counts (all.faults_of shelf_seen seen items) (all.faults_of shelf_seen seen new.stations) (locations homes) fault left made.counts makes;
    plain = λ told. entry_plain (locations homes) fault left makes;
    units = λ told. record { count = length homes; few = omega arith; made = made.made (none_yet told) };
    log = entry_leaves fault left makes;
  })
