-- A chunk that is started with no record in doubt: its unit answers as if it were still shut, and is known the same.
use Rattle.std.proofs.Common.{◌≡◌, ◌∙◌, sym, ap, refl, subst, ℕ, Bool, true, false, cond, List, [], ◌∷◌, Option, None, Some}
use Rattle.unit_id.specs.Place.{Place, is_place}
use Rattle.unit_id.specs.Request.{Request, Answer}
use Rattle.unit_id.proofs.Places.{is_place_gives}
use Rattle.disk_base.specs.Disk.{FileView}
use Rattle.disk_base.specs.Shelves.{ShelfView}
use Rattle.blob_node.specs.Units.{UnitRecord, Units, with_at}
use Rattle.blob_node.specs.UnitAnswer.{UnitView, Effect, IsServed, IsAtWork, TakesShard, TakesMark, Frees, Reads, Lists, Fences, Works, Creates, Holds, Serves, Answers, view_at, started, with_written, record_of, units_after, settled_at}
use Rattle.blob_node.specs.Holding.{Written}
use Rattle.blob_node.specs.Station.{StationOver}
use Rattle.blob_node.proofs.Standing.{SameAt}
use Rattle.blob_node.proofs.Lookups.{there_now}
use Rattle.blob_node.proofs.Holdings.{never_both}
use Rattle.volume_world.specs.Stations.{AllStand}
use Rattle.volume_world.proofs.StationsFrame.{stands_elsewhere}

-- ---- answers

-- the same unit with a shut chunk
abbrev pub shut : UnitView → UnitView
shut view = record view { is_shut = true }

module _ (view : UnitView) where
  takes_shut : (bid : ℕ) (answer : Answer) (effect : Effect) → TakesShard view bid answer effect → TakesShard (shut view) bid answer effect
  takes_shut bid (Answer.Fenced lock) Effect.Started takes = takes
  takes_shut bid Answer.Already Effect.Started takes = takes
  takes_shut bid Answer.Deleted Effect.Started takes = takes
  takes_shut bid Answer.Done Effect.Wrote takes = takes
  takes_shut bid (Answer.Full end) Effect.Started takes = takes
  takes_shut bid Answer.Fault Effect.Doubted takes = takes
  takes_shut bid _ _ takes = absurd takes

  mark_shut : (bid : ℕ) (answer : Answer) (effect : Effect) → TakesMark view bid answer effect → TakesMark (shut view) bid answer effect
  mark_shut bid (Answer.Fenced lock) Effect.Started takes = takes
  mark_shut bid Answer.Already Effect.Started takes = takes
  mark_shut bid Answer.Done Effect.Wrote takes = takes
  mark_shut bid (Answer.Full end) Effect.Started takes = takes
  mark_shut bid Answer.Fault Effect.Doubted takes = takes
  mark_shut bid _ _ takes = absurd takes

  frees_shut : (bid : ℕ) (answer : Answer) (effect : Effect) → Frees view bid answer effect → Frees (shut view) bid answer effect
  frees_shut bid (Answer.Fenced lock) Effect.Started frees = frees
  frees_shut bid Answer.NotMarked Effect.Started frees = frees
  frees_shut bid Answer.Already Effect.Started frees = frees
  frees_shut bid Answer.Done Effect.Wrote frees = frees
  frees_shut bid (Answer.Full end) Effect.Started frees = frees
  frees_shut bid Answer.Fault Effect.Doubted frees = frees
  frees_shut bid _ _ frees = absurd frees

  reads_shut : (bid : ℕ) (answer : Answer) (effect : Effect) → Reads view bid answer effect → Reads (shut view) bid answer effect
  reads_shut bid Answer.Live Effect.Started reads = reads
  reads_shut bid Answer.Marked Effect.Started reads = reads
  reads_shut bid Answer.Gone Effect.Started reads = reads
  reads_shut bid Answer.Absent Effect.Started reads = reads
  reads_shut bid Answer.Fault Effect.Started reads = reads
  reads_shut bid _ _ reads = absurd reads

  lists_shut : (lock : ℕ) (answer : Answer) (effect : Effect) → Lists view lock answer effect → Lists (shut view) lock answer effect
  lists_shut lock (Answer.Listing number listing) Effect.Started lists = lists
  lists_shut lock _ _ lists = absurd lists

  fences_shut : (lock : ℕ) (answer : Answer) (effect : Effect) → Fences view lock answer effect → Fences (shut view) lock answer effect
  fences_shut lock Answer.Done Effect.Wrote fences = fences
  fences_shut lock Answer.Done Effect.Started fences = fences
  fences_shut lock (Answer.Fenced kept) Effect.Started fences = fences
  fences_shut lock (Answer.Full end) Effect.Started fences = fences
  fences_shut lock Answer.Fault Effect.Doubted fences = fences
  fences_shut lock _ _ fences = absurd fences

  works_shut : (request : Request) (answer : Answer) (effect : Effect) → Works view request answer effect → Works (shut view) request answer effect
  works_shut (Request.Create place) answer effect works = works
  works_shut (Request.Fence place lock) answer effect works = fences_shut lock answer effect works
  works_shut (Request.Put place bid) answer effect works = takes_shut bid answer effect works
  works_shut (Request.Read place bid) answer effect works = reads_shut bid answer effect works
  works_shut (Request.List place lock) answer effect works = lists_shut lock answer effect works
  works_shut (Request.Copy place bid) answer effect works = takes_shut bid answer effect works
  works_shut (Request.Mark place bid) answer effect works = mark_shut bid answer effect works
  works_shut (Request.Free place bid) answer effect works = frees_shut bid answer effect works
  works_shut (Request.Release place) answer effect works = works

  creates_shut : (answer : Answer) (effect : Effect) → Creates view answer effect → Creates (shut view) answer effect
  creates_shut Answer.Already Effect.Nothing creates = creates
  creates_shut Answer.Done Effect.Made creates = creates
  creates_shut Answer.Fault Effect.Nothing creates = creates
  creates_shut _ _ creates = absurd creates

  at_work_shut : IsAtWork view → IsAtWork (shut view)
  at_work_shut work = record { held = work.held; settled = work.settled }

  holds_shut : (request : Request) (answer : Answer) (effect : Effect) → Holds view request answer effect → Holds (shut view) request answer effect
  holds_shut request Answer.NoUnit Effect.Nothing holds = holds
  holds_shut request Answer.Fault Effect.Nothing holds = (holds.0, refl)
  holds_shut request answer effect holds = (at_work_shut holds.0, works_shut request answer effect holds.1)

  serves_shut : (request : Request) (answer : Answer) (effect : Effect) → Serves view request answer effect → Serves (shut view) request answer effect
  serves_shut (Request.Create place) answer effect serves = creates_shut answer effect serves
  serves_shut request answer effect serves = holds_shut request answer effect serves

  served_shut : IsServed view → IsServed (shut view)
  served_shut served = record { unbroken = served.unbroken; unreleased = served.unreleased; newest = served.newest }

  -- whatever a unit answers, one whose chunk is shut may answer
  pub answers_shut : (request : Request) (answer : Answer) (effect : Effect) → Answers view request answer effect → Answers (shut view) request answer effect
  answers_shut request Answer.Broken Effect.Nothing answers = answers
  answers_shut request (Answer.Stale have) Effect.Nothing stale = record { unbroken = stale.unbroken; made = stale.made; greatest = stale.greatest; outlived = stale.outlived }
  answers_shut request answer effect answers = (served_shut answers.0, serves_shut request answer effect answers.1)

-- the view of a unit that was started with nothing in doubt is that of one that wasn't, but for the chunk
pub answers_unstarted : (broken : ℕ → Bool) (units : Units) (place : Place) (request : Request) (answer : Answer) (effect : Effect) → units.doubt place ≡ None → units.is_shut place ≡ true
    → Answers (view_at broken (settled_at place units) place) request answer effect → Answers (view_at broken units place) request answer effect
answers_unstarted broken units place request answer effect none is_shut answers =
    subst (λ b. Answers (record (view_at broken units place) { is_shut = b }) request answer effect) (sym is_shut)
    (subst (λ d. Answers (record (view_at broken units place) { is_shut = true; doubt = d }) request answer effect) (there_now place None units.doubt ∙ sym none)
    (answers_shut (view_at broken (settled_at place units) place) request answer effect answers))

-- ---- what is known

-- a look-up with a new value that was there already
same_there : {A : Type 0} (place q : Place) (f : Place → A) (x : A) → f place ≡ x → f q ≡ with_at place x f q
same_there {A} place q f x same = go (is_place q place) refl where
  go : (test : Bool) → is_place q place ≡ test → f q ≡ cond test x (f q)
  go true e = ap f (is_place_gives q place e) ∙ same
  go false e = refl

-- .. one over another
over : {A : Type 0} (place q : Place) (f : Place → A) (x y : A) → with_at place x f q ≡ with_at place x (with_at place y f) q
over {A} place q f x y = go (is_place q place) where
  go : (test : Bool) → cond test x (f q) ≡ cond test x (cond test y (f q))
  go true = refl
  go false = refl

pub open_below : (place q : Place) (f : Place → Bool) → with_at place false f q ≡ true → f q ≡ true
open_below place q f = go (is_place q place) where
  go : (test : Bool) → cond test false (f q) ≡ true → f q ≡ true
  go true e = absurd (never_both false refl e)
  go false e = e

module _ (place q : Place) (units : Units) (none : units.doubt place ≡ None) where
  pub known_nothing : SameAt units (settled_at place units) q
  known_nothing = record { made = refl; row = refl; fence = refl; released = refl; doubt = same_there place q units.doubt None none; shut = open_below place q units.is_shut }

  known_started : SameAt (started place units) (started place (settled_at place units)) q
  known_started = record { made = refl; row = refl; fence = refl; released = refl; doubt = same_there place q units.doubt None none; shut = λ s. over place q units.is_shut false false ∙ s }

  known_written : (o : Option UnitRecord) → SameAt (with_written place o (started place units)) (with_written place o (started place (settled_at place units))) q
  known_written None = known_started
  known_written (Some (UnitRecord.Shard bid)) = record { made = refl; row = refl; fence = refl; released = refl; doubt = known_started.doubt; shut = known_started.shut }
  known_written (Some (UnitRecord.Mark bid)) = record { made = refl; row = refl; fence = refl; released = refl; doubt = known_started.doubt; shut = known_started.shut }
  known_written (Some (UnitRecord.Free bid)) = record { made = refl; row = refl; fence = refl; released = refl; doubt = known_started.doubt; shut = known_started.shut }
  known_written (Some (UnitRecord.Fence lock)) = record { made = refl; row = refl; fence = refl; released = refl; doubt = known_started.doubt; shut = known_started.shut }
  known_written (Some UnitRecord.Release) = record { made = refl; row = refl; fence = refl; released = refl; doubt = known_started.doubt; shut = known_started.shut }

  -- the same is known after an answer
  pub known_after : (request : Request) (effect : Effect) → SameAt (units_after place request effect units) (units_after place request effect (settled_at place units)) q
  known_after request Effect.Nothing = known_nothing
  known_after request Effect.Made = record { made = refl; row = refl; fence = refl; released = refl; doubt = over place q units.doubt None None; shut = λ s. over place q units.is_shut false false ∙ s }
  known_after request Effect.Started = known_started
  known_after request Effect.Wrote = known_written (record_of request)
  known_after request Effect.Doubted = record {
    made = refl;
    row = refl;
    fence = refl;
    released = refl;
    doubt = over place q units.doubt (record_of request) None;
    shut = λ s. over place q units.is_shut true false ∙ s;
  }

-- ---- the stations

-- stations stand for anything else in which the same is known
pub all_known : {H F : Type 0} (shelf_seen : H → ShelfView F) (seen : F → FileView) (stations : List (StationOver H F)) (written : Place → Written) (units then : Units) → ((q : Place) → SameAt then units q)
    → AllStand shelf_seen seen stations written units → AllStand shelf_seen seen stations written then
all_known shelf_seen seen [] written units then same all = tt
all_known shelf_seen seen (s ∷ ss) written units then same all =
    (stands_elsewhere shelf_seen seen s written written units then all.0 (λ q d. (refl, same q)), all_known shelf_seen seen ss written units then same all.1)
