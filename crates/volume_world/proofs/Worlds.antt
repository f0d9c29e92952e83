-- A world is a way to its volume, and what an event does to it is a step of that way.
use Rattle.std.proofs.Common.{◌≡◌, sym, ◌∙◌, ap, refl, subst, ℕ, zero, suc, ◌+◌, ◌-◌, ◌^◌, ◌<◌, ◌≤◌, min, inl, inr, Bool, true, false, List, [], ◌∷◌, ◌++◌, length, append_assoc, length-append, nat_lt, arith, Result, Ok, Err}
use Rattle.std.specs.Prelude.{is_some, IsSome}
use Rattle.std.proofs.lemmas.List.{append-nil}
use Rattle.std.proofs.lemmas.List.Sums.{sum_by-cons}
use Rattle.std.proofs.lemmas.Bool.Decides.{nat_tests}
use Rattle.std.specs.List.{range_with_len}
use Rattle.unit_id.specs.Lists.{IsIn}
use Rattle.unit_id.specs.Place.{Location, Place, is_place}
use Rattle.unit_id.proofs.Bools.{contrary, and_left, and_right}
use Rattle.unit_id.proofs.Places.{is_place_gives}
use Rattle.disk_base.specs.Disk.{FileView, IsFile}
use Rattle.disk_base.specs.Shelves.{ShelfView, IsShelf}
use Rattle.code_mode.specs.VolumeShape.{VolumeShape, IsVolumeShape}
use Rattle.code_mode.proofs.Numbers.{sound_shapes}
use Rattle.code_mode.specs.declared.mode.Mode.{Mode}
use Rattle.blob_node.specs.Station.{StationOver}
use Rattle.blob_node.specs.Station as single
use Rattle.blob_node.proofs.Lasting.{quiet_has_no_fault}
use Rattle.volume_entry.specs.Manager.{AreFirstHomes, current}
use Rattle.unit_id.specs.declared.homes.Home.{Home}
use Rattle.volume_entry.specs.declared.shape.Shape.{Shape}
use Rattle.volume_entry.specs.TableParts.{shape_of}
use Rattle.volume_world.specs.State.{Puts}
use Rattle.volume_world.specs.Run.{World}
use Rattle.volume_world.specs.Told.{MayBe, MayRun}
use Rattle.volume_world.specs.Way.{Origin, WayView, IsWay, IsFirst, longest_history}
use Rattle.volume_world.specs.Way as way
use Rattle.volume_world.specs.Asking.{MayAsk, CarriesRight}
use Rattle.volume_world.specs.Course.{Part, trace_at, traces_of, own_places, fault_count, PartsLead, PartLeads, AreOwn, AreSettling, Goes, Happens, GaveUp, IsFull, StepsBy, is_own}
use Rattle.volume_world.specs.World.{WorldOver, Stands}
use Rattle.volume_world.specs.Stations as all
use Rattle.volume_world.specs.WorldMaking.{CanMake, IsMadeOf, locations}
use Rattle.volume_world.proofs.StationsLasting.{lasting_told}
use Rattle.volume_world.specs.Origins.{is_told, are_told, are_quiet, is_quiet, faults_of, origin_of, made_with, is_of_homes}
use Rattle.volume_world.specs.Stepping.{IsSound, IsAt, IsShort, AreStill, HasRoom, CarryRight, Passes, Done, NotDone, Takes}
use Rattle.volume_world.specs.WorldWay.{IsLedTo, way_of, IsWorld}
use Rattle.volume_world.specs.OldDisks.{KeptApart}
use Rattle.volume_world.proofs.KeptApart.{first_apart, entry_apart}
use Rattle.volume_world.proofs.Stretches.{traces_length}
use Rattle.volume_world.specs.declared.event.Event.{Event}
use Rattle.volume_world.specs.declared.reply.Reply.{Reply}
use Rattle.volume_world.specs.declared.trace.Trace.{Trace}
use Rattle.volume_world.specs.declared.fault.StepFault.{StepFault}
use Rattle.volume_world.specs.declared.fault.StepFault.TheVariants.{HistoryFull, Memory}

-- ---- places of own entries

-- all entries of a stretch are our own
abbrev pub are_all_own : List Part → Type 0
are_all_own [] = Unit {0}
are_all_own (part ∷ parts) = (is_own part ≡ true) × are_all_own parts

pub own_all : (parts : List Part) → are_all_own parts → AreOwn parts
own_all [] own part there = absurd there
own_all (p ∷ ps) own part there = elim there [ inl e ↦ subst (λ q. is_own q ≡ true) (sym e) own.0 | inr rest ↦ own_all ps own.1 part rest ]

-- .. then their places are all of the stretch
next_place : (place : ℕ) → suc place ≡ place + 1
next_place place = omega arith

pub places_all : (place : ℕ) (parts : List Part) → are_all_own parts → own_places place parts ≡ range_with_len place (length parts)
places_all place [] own = refl
places_all place (Part.Beside trace ∷ ps) own = absurd (contrary false own.0 refl)
places_all place (Part.Settling trace ∷ ps) own = ap (λ ns. place ∷ ns) (places_all (suc place) ps own.1 ∙ ap (λ k. range_with_len k (length ps)) (next_place place))
places_all place (Part.Asking event reply ∷ ps) own = ap (λ ns. place ∷ ns) (places_all (suc place) ps own.1 ∙ ap (λ k. range_with_len k (length ps)) (next_place place))

no_further : (from : ℕ) → from ≡ from + 0
no_further from = omega arith

nothing_more : (n : ℕ) → 0 + n ≡ n
nothing_more n = omega arith

suc_more : (m n : ℕ) → suc m + n ≡ suc (m + n)
suc_more m n = omega arith

one_further : (from m : ℕ) → from + 1 + m ≡ from + suc m
one_further from m = omega arith

pub range_more : (from m n : ℕ) → range_with_len from (m + n) ≡ range_with_len from m ++ range_with_len (from + m) n
range_more from zero n = ap (range_with_len from) (nothing_more n) ∙ ap (λ k. range_with_len k n) (no_further from)
range_more from (suc m) n = ap (range_with_len from) (suc_more m n) ∙ ap (λ ns. from ∷ ns) (range_more (from + 1) m n ∙ ap (λ k. range_with_len (from + 1) m ++ range_with_len k n) (one_further from m))

less_of : (a b : ℕ) → nat_lt a b ≡ true → a < b
less_of a b e = grind (arith, nat_tests)

in_range : (n from count : ℕ) → IsIn n (range_with_len from count) → n < from + count
in_range n from zero there = absurd there
in_range n from (suc count) there = elim there [
  | inl e ↦ omega arith
  | inr rest ↦ let ih = in_range n (from + 1) count rest in omega arith
]

-- ---- settles, and the event behind them

pub settling_own : (settles : List Part) → AreSettling settles → are_all_own settles
settling_own [] are = tt
settling_own (Part.Settling trace ∷ ps) are = (refl, settling_own ps are.1)
settling_own (Part.Beside trace ∷ ps) are = absurd are
settling_own (Part.Asking event reply ∷ ps) are = absurd are

pub asking_own : (settles : List Part) (event : Event) (reply : Reply) → AreSettling settles → are_all_own (settles ++ Part.Asking event reply ∷ [])
asking_own [] event reply are = (refl, tt)
asking_own (Part.Settling trace ∷ ps) event reply are = (refl, asking_own ps event reply are.1)
asking_own (Part.Beside trace ∷ ps) event reply are = absurd are
asking_own (Part.Asking other said ∷ ps) event reply are = absurd are

-- the event of an entry of our own, and no other where there is none
abbrev event_in : Event → Part → Event
event_in event (Part.Asking other reply) = other
event_in event (Part.Settling trace) = event
event_in event (Part.Beside trace) = event

abbrev is_asking : Part → Bool
is_asking (Part.Asking event reply) = true
is_asking (Part.Settling trace) = false
is_asking (Part.Beside trace) = false

-- the shards of a stretch of settles, and of one with an event at its end
pub settles_carry : (mode : Mode) (puts : Puts) (settles : List Part) → AreSettling settles → CarryRight mode puts settles
settles_carry mode puts [] are event reply there = absurd there
settles_carry mode puts (Part.Settling trace ∷ ps) are event reply there =
    elim there [ inl e ↦ absurd (contrary true refl (ap is_asking e)) | inr rest ↦ settles_carry mode puts ps are.1 event reply rest ]
settles_carry mode puts (Part.Beside trace ∷ ps) are event reply there = absurd are
settles_carry mode puts (Part.Asking other said ∷ ps) are event reply there = absurd are

pub asking_carry : (mode : Mode) (puts : Puts) (settles : List Part) (event : Event) (reply : Reply) → AreSettling settles → CarriesRight true mode puts event
    → CarryRight mode puts (settles ++ Part.Asking event reply ∷ [])
asking_carry mode puts [] event reply are right other said there =
    elim there [ inl e ↦ subst (CarriesRight true mode puts) (sym (ap (event_in event) e)) right | inr none ↦ absurd none ]
asking_carry mode puts (Part.Settling trace ∷ ps) event reply are right other said there =
    elim there [ inl e ↦ absurd (contrary true refl (ap is_asking e)) | inr rest ↦ asking_carry mode puts ps event reply are.1 right other said rest ]
asking_carry mode puts (Part.Beside trace ∷ ps) event reply are right other said there = absurd are
asking_carry mode puts (Part.Asking asked told ∷ ps) event reply are right other said there = absurd are

-- ---- runs

-- a part is an entry that may be
part_may_be : (origin : Origin) (w : World) (part : Part) (v : World) → PartLeads origin w part v → MayBe origin.vid (way.shape_of origin) w (trace_at part) v
part_may_be origin w (Part.Beside trace) v leads = leads
part_may_be origin w (Part.Settling trace) v leads = leads
part_may_be origin w (Part.Asking event reply) v leads = record { step = leads.step; told = leads.told; leads = leads.leads }

parts_may_run : (origin : Origin) (w : World) (parts : List Part) (v : World) → PartsLead origin w parts v → MayRun origin.vid (way.shape_of origin) w (traces_of parts) v
parts_may_run origin w [] v leads = leads
parts_may_run origin w (part ∷ parts) v leads = (leads.0, part_may_be origin w part leads.0 leads.1, parts_may_run origin leads.0 parts v leads.2)

-- a run may go on
runs_on : (vid : ℕ) (shape : VolumeShape) (w u v : World) (before after : List Trace) → MayRun vid shape w before u → MayRun vid shape u after v → MayRun vid shape w (before ++ after) v
runs_on vid shape w u v [] after run more = subst (λ x. MayRun vid shape x after v) run more
runs_on vid shape w u v (trace ∷ traces) after run more = (run.0, run.1, runs_on vid shape run.0 u v traces after run.2 more)

-- what a run reaches
runs_apart : (vid : ℕ) (shape : VolumeShape) (w v : World) (traces : List Trace) → IsVolumeShape shape → KeptApart shape w.state → MayRun vid shape w traces v → KeptApart shape v.state
runs_apart vid shape w v [] is apart run = subst (λ (x : World). KeptApart shape x.state) (sym run) apart
runs_apart vid shape w v (trace ∷ traces) is apart run = runs_apart vid shape run.0 v traces is (entry_apart shape w run.1.step run.0 is run.1.leads apart) run.2

-- ---- one step

module _ {H F : Type 0} (shelf_seen : H → ShelfView F) (seen : F → FileView) where
  origin_same : (parts : List Part) (old new : WorldOver H F) → Passes shelf_seen seen parts old new → origin_of shelf_seen seen new ≡ origin_of shelf_seen seen old
  origin_same parts old new p = λ i. record {
    vid = p.vid i;
    mode = (p.shape i).mode;
    disks = (p.shape i).disks;
    is_told = p.told i;
    is_quiet = p.quiet i;
    start = made_with (shape_of (p.shape i)).total (p.first i);
  }

  -- in each state to which the history led, a stretch leads to one to which it leads
  led_on : (parts : List Part) (old new : WorldOver H F) → Passes shelf_seen seen parts old new → KeptApart (shape_of old.shape) (made_with (shape_of old.shape).total old.first).state
      → (w : World) → IsLedTo shelf_seen seen old w → CarryRight old.shape.mode w.state.puts parts
      → (v : World) × PartsLead (origin_of shelf_seen seen old) w parts v × IsLedTo shelf_seen seen new v
  led_on parts old new p apart w led right =
      let reached : KeptApart (shape_of old.shape) w.state =
      runs_apart old.vid (shape_of old.shape) (made_with (shape_of old.shape).total old.first) w old.history.entries (sound_shapes old.shape.mode old.shape.disks) apart led.run in
      let next = p.leads w led.at reached right in
      let run : MayRun old.vid (shape_of old.shape) (made_with (shape_of old.shape).total old.first) (old.history.entries ++ traces_of parts) next.0 =
      runs_on old.vid (shape_of old.shape) (made_with (shape_of old.shape).total old.first) w next.0 old.history.entries (traces_of parts) led.run
      (parts_may_run (origin_of shelf_seen seen old) w parts next.0 next.1) in (
        next.0,
        next.1,
        record {
          at = next.2;
          run = subst (λ (u : WorldOver H F). MayRun u.vid (shape_of u.shape) (made_with (shape_of u.shape).total u.first) u.history.entries next.0)
              (λ i. record new { vid = sym p.vid i; shape = sym p.shape i; first = sym p.first i; history = record (new.history) { entries = sym p.entries i } })
              run;
        },
      )

  -- where nothing ever fails, no entry tells of a fault
  abbrev pub StaysCalm : WorldOver H F → Type 0
  StaysCalm world = is_quiet shelf_seen seen world ≡ true → faults_of shelf_seen seen world ≡ 0

  pub goes_by : (parts : List Part) (old new : WorldOver H F) → Passes shelf_seen seen parts old new → KeptApart (shape_of old.shape) (made_with (shape_of old.shape).total old.first).state → are_all_own parts → StaysCalm old → StaysCalm new
      → ((w : World) → is_told shelf_seen seen old ≡ true → IsLedTo shelf_seen seen old w → CarryRight old.shape.mode w.state.puts parts)
      → Goes (way_of shelf_seen seen old) (way_of shelf_seen seen new) parts
  goes_by parts old new p apart own calm after right = record {
    origin = origin_same parts old new p;
    is_alone = refl;
    entries = p.entries;
    own = ap (λ (entries : List Trace). range_with_len 0 (length entries)) p.entries
        ∙ ap (range_with_len 0) (length-append old.history.entries (traces_of parts) ∙ ap (λ n. length old.history.entries + n) (traces_length parts))
        ∙ range_more 0 (length old.history.entries) (length parts)
        ∙ ap (λ k. range_with_len 0 (length old.history.entries) ++ range_with_len k (length parts)) (nothing_more (length old.history.entries))
        ∙ ap (λ (ns : List ℕ). range_with_len 0 (length old.history.entries) ++ ns) (sym (places_all (length old.history.entries) parts own));
    alone = λ _. own_all parts own;
    count = p.count;
    faults = p.faults;
    quiet = λ still.
        let none : faults_of shelf_seen seen old ≡ 0 = calm still in
        let then_ : faults_of shelf_seen seen new ≡ 0 = after (p.quiet ∙ still) in
        let less = p.faults in
        omega arith;
    leads = λ told w led. led_on parts old new p apart w led (right w told led);
  }

  -- ---- how it was made

  pub made_first : (world : WorldOver H F) → AreFirstHomes (shape_of world.shape) world.first → IsFirst (shape_of world.shape) (made_with (shape_of world.shape).total world.first)
  made_first world homes = record {
    homes = world.first;
    is_made = is_of_homes (shape_of world.shape).total world.first;
    legal = homes;
    made = λ p made.
        let below = and_left (nat_lt p.index (shape_of world.shape).total) (is_place p (current world.first p.index)) made in
        let same = and_right (nat_lt p.index (shape_of world.shape).total) (is_place p (current world.first p.index)) made in
        (less_of p.index (shape_of world.shape).total below, is_place_gives p (current world.first p.index) same);
    state = refl;
  }

  made_kept : (world : WorldOver H F) → IsWorld shelf_seen seen world → KeptApart (shape_of world.shape) (made_with (shape_of world.shape).total world.first).state
  made_kept world is = first_apart (shape_of world.shape) (made_with (shape_of world.shape).total world.first) (made_first world is.homes)

  -- ---- where nothing ever fails

  module _ (shelves : (shelf : H) → IsShelf seen (shelf_seen shelf)) (files : (file : F) → IsFile (seen file)) where
    stations_calm : (stations : List (StationOver H F)) → AreStill shelf_seen seen stations → are_quiet shelf_seen seen stations ≡ true → all.faults_of shelf_seen seen stations ≡ 0
    stations_calm [] still quiet = refl
    stations_calm (s ∷ ss) still quiet =
        let here : single.faults_of shelf_seen seen s ≡ 0 =
        quiet_has_no_fault shelf_seen seen s (shelves s.shelf) files (still s (inl refl) (and_left (shelf_seen s.shelf).is_quiet (are_quiet shelf_seen seen ss) quiet)) in
        let rest : all.faults_of shelf_seen seen ss ≡ 0 =
        stations_calm ss (λ other there. still other (inr there)) (and_right (shelf_seen s.shelf).is_quiet (are_quiet shelf_seen seen ss) quiet) in
        let sum = sum_by-cons (single.faults_of shelf_seen seen) s ss in
        omega (arith, sum, here, rest)

    pub calm_of : (world : WorldOver H F) → IsSound shelf_seen seen world → StaysCalm world
    calm_of world sound quiet =
        let disks = stations_calm world.stations sound.still (and_left (are_quiet shelf_seen seen world.stations) (seen world.entry.book.log.file).is_quiet quiet) in
        let log = (files world.entry.book.log.file).quiet_has_no_fault (and_right (are_quiet shelf_seen seen world.stations) (seen world.entry.book.log.file).is_quiet quiet) in
        omega arith

    -- ---- a step of the way

    module _ (old new : WorldOver H F) (event : Event) (world : IsWorld shelf_seen seen old) (room : length old.history.entries < longest_history)
        (asked : MayAsk (way_of shelf_seen seen old) event) where
      here : length (old.history.entries ++ []) < longest_history
      here = subst (λ (entries : List Trace). length entries < longest_history) (sym (append-nil old.history.entries)) room

      pub steps_done : (reply : Reply) → Done shelf_seen seen 2 old new event reply → Happens (way_of shelf_seen seen old) (way_of shelf_seen seen new) event reply
      steps_done reply done = record {
        others = [];
        settles = done.settles;
        ready = record { beside = tt; settling = done.settling; most = done.few };
        room = here;
        fits = done.fits;
        moves = done.moves;
        goes = goes_by (done.settles ++ Part.Asking event reply ∷ []) old new done.passes (made_kept old world) (asking_own done.settles event reply done.settling)
            (calm_of old world.sound) (calm_of new done.passes.sound)
            (λ w told led. asking_carry old.shape.mode w.state.puts done.settles event reply done.settling (asked.right told w led));
      }

      pub steps_not : NotDone shelf_seen seen 2 old new → GaveUp (way_of shelf_seen seen old) (way_of shelf_seen seen new)
      steps_not not = record {
        others = [];
        settles = not.settles;
        ready = record { beside = tt; settling = not.settling; most = not.few };
        room = here;
        goes = goes_by not.settles old new not.passes (made_kept old world) (settling_own not.settles not.settling) (calm_of old world.sound) (calm_of new not.passes.sound)
            (λ w told led. settles_carry old.shape.mode w.state.puts not.settles not.settling);
      }

      pub steps_by : (result : Result Reply StepFault) → Takes shelf_seen seen 2 old new event result → StepsBy (way_of shelf_seen seen old) (way_of shelf_seen seen new) event result
      steps_by (Ok reply) done = steps_done reply done
      steps_by (Err Memory) not = steps_not not
      steps_by (Err HistoryFull) none = absurd none

  -- a history that is full takes nothing
  pub steps_full : (old : WorldOver H F) → IsWorld shelf_seen seen old → longest_history ≤ length old.history.entries → IsFull (way_of shelf_seen seen old) (way_of shelf_seen seen old)
  steps_full old world full = record {
    others = [];
    beside = tt;
    full = subst (λ (entries : List Trace). longest_history ≤ length entries) (sym (append-nil old.history.entries)) full;
    goes = record {
      origin = refl;
      is_alone = refl;
      entries = sym (append-nil old.history.entries);
      own = sym (append-nil (range_with_len 0 (length old.history.entries)));
      alone = λ _ part there. absurd there;
      count = omega arith;
      faults = omega arith;
      quiet = λ _. refl;
      leads = λ told w led. (w, refl, led);
    };
  }

  -- ---- what stays true of a world

  pub stays_world : (parts : List Part) (old new : WorldOver H F) → IsWorld shelf_seen seen old → Passes shelf_seen seen parts old new → length old.history.entries + length parts ≤ 2 ^ 32
      → ((w : World) → is_told shelf_seen seen old ≡ true → IsLedTo shelf_seen seen old w → CarryRight old.shape.mode w.state.puts parts)
      → IsWorld shelf_seen seen new
  stays_world parts old new world p few right = record {
    sound = p.sound;
    homes = subst (λ (u : WorldOver H F). AreFirstHomes (shape_of u.shape) u.first) (λ i. record old { shape = sym p.shape i; first = sym p.first i }) world.homes;
    few =
        let l : length new.history.entries ≡ length old.history.entries + length parts =
        ap length p.entries ∙ length-append old.history.entries (traces_of parts) ∙ ap (λ n. length old.history.entries + n) (traces_length parts) in
        omega arith;
    somewhere = λ told.
        let before : is_told shelf_seen seen old ≡ true = sym p.told ∙ told in
        let now = world.somewhere before in
        let next = led_on parts old new p (made_kept old world) now.0 now.1 (right now.0 before now.1) in
        (next.0, next.2);
  }

  -- .. so it is after each step
  module _ (old new : WorldOver H F) (event : Event) (world : IsWorld shelf_seen seen old) (room : length old.history.entries < longest_history)
      (asked : MayAsk (way_of shelf_seen seen old) event) where
    pub stays_by : (result : Result Reply StepFault) → Takes shelf_seen seen 2 old new event result → IsWorld shelf_seen seen new
    stays_by (Ok reply) done = stays_world (done.settles ++ Part.Asking event reply ∷ []) old new world done.passes
        (let sum = length-append done.settles (Part.Asking event reply ∷ []) in omega (arith, sum, done.few, room))
        (λ w told led. asking_carry old.shape.mode w.state.puts done.settles event reply done.settling (asked.right told w led))
    stays_by (Err Memory) not = stays_world not.settles old new world not.passes (omega (arith, not.few, room))
        (λ w told led. settles_carry old.shape.mode w.state.puts not.settles not.settling)
    stays_by (Err HistoryFull) none = absurd none

  -- .. and so it is as made
  pub made_world : (vid : ℕ) (mode : Mode) (stations : List (StationOver H F)) (file : F) (homes : List Home) (world : WorldOver H F)
      → CanMake shelf_seen seen vid mode stations file homes → IsMadeOf shelf_seen seen vid mode stations file homes world → IsWorld shelf_seen seen world
  made_world vid mode stations file homes world can is = record {
    sound = is.sound;
    homes = subst (λ (first : List Location). AreFirstHomes (shape_of world.shape) first) (sym is.first)
        (subst (λ (shape : Shape). AreFirstHomes (shape_of shape) (locations homes)) (sym is.shape) can.first);
    few = let none : length world.history.entries ≡ 0 = ap length is.entries in omega (arith, none);
    somewhere = λ told.
        let shelves : are_told shelf_seen seen stations ≡ true =
        sym (lasting_told shelf_seen seen stations world.stations is.lasts)
        ∙ and_left (are_told shelf_seen seen world.stations) (is_some (seen world.entry.book.log.file).content) told in
        let log : IsSome (seen file).content =
        sym is.log.tells ∙ and_right (are_told shelf_seen seen world.stations) (is_some (seen world.entry.book.log.file).content) told in (
          made_with (shape_of world.shape).total world.first,
          record {
            at = is.told shelves log;
            run = subst (λ (entries : List Trace). MayRun world.vid (shape_of world.shape) (made_with (shape_of world.shape).total world.first) entries
                (made_with (shape_of world.shape).total world.first)) (sym is.entries) refl;
          },
        );
  }

  -- ---- what every way has

  pub is_way : (world : WorldOver H F) → IsWorld shelf_seen seen world → IsWay (way_of shelf_seen seen world)
  is_way world is = record {
    first = made_first world is.homes;
    somewhere = is.somewhere;
    led = λ told w led. led.run;
    own = record { below = λ n there. let less = in_range n 0 (length world.history.entries) there in omega arith };
    alone = λ _. refl;
  }
