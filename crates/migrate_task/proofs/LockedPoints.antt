-- What holds at each point of a task's call, from its lock to the swap.
use Rattle.std.proofs.Common.{◌≡◌, ℕ, zero, suc, ◌+◌, ◌<◌, ◌≤◌, ◌⊎◌, inl, inr, Bool, true, false, cond, not, ◌&&◌, List, [], ◌∷◌, ◌++◌, length, map, filter, Option, Some, None, refl, sym, ◌∙◌, ap, subst, arith}
use Rattle.std.specs.List.{range_with_len}
use Rattle.std.proofs.lemmas.Bool.{cases_eq}
use Rattle.unit_id.specs.Lists.{IsIn, is_in}
use Rattle.unit_id.specs.Place.{Location}
use Rattle.unit_id.specs.declared.homes.Home.{Home}
use Rattle.code_mode.specs.Mode.{data_count}
use Rattle.code_mode.specs.VolumeShape.{last_time}
use Rattle.code_mode.proofs.Numbers.{sound_numbers}
use Rattle.blob_node.specs.Units.{is_live}
use Rattle.volume_entry.specs.Manager.{Transfer, Manager, home_at}
use Rattle.volume_entry.specs.View.{homes_shown, moves_shown}
use Rattle.volume_entry.specs.Benchmark.{Due, was_heard, is_settled}
use Rattle.volume_world.specs.Run.{World}
use Rattle.volume_world.specs.Call.{Next}
use Rattle.migrate_task.specs.declared.work.Journey.{Journey}
use Rattle.migrate_task.specs.declared.listing.Listing.{Listing}
use Rattle.migrate_task.specs.declared.copying.Errand.{Errand}
use Rattle.migrate_task.specs.declared.copying.Due.{Due as CodeDue}
use Rattle.migrate_task.specs.declared.copying.Due.TheVariants as dues
use Rattle.migrate_task.specs.declared.usable.KnownSize.{KnownSize}
use Rattle.migrate_task.specs.declared.gathering.Gathered.{Gathered}
use Rattle.migrate_task.specs.Work.{Work, journeys_to, due_of, has_due, errands_of, errands_over, errands_up_to, errands}
use Rattle.migrate_task.specs.Copies.{CopyStage, CopyNext, nothing_gathered, others_than, reading, copy_begins, errand_begins, next_errand}
use Rattle.migrate_task.specs.AdvanceCall.{TaskStage, TaskNext, copying}
use Rattle.migrate_task.specs.GatherParts.{IsDue}
use Rattle.migrate_task.proofs.Scenes.{Scene, Ground, Standing, total_of, dest_of}
use Rattle.migrate_task.proofs.ShownUnits.{goods, AreCurrent, holds, due_by, as_due, shown_units, IsListed, AreListed, AreExact, others_current, others_goods, held_goods, units_current}
use Rattle.migrate_task.proofs.LockedAnswers.{IsTo, AreMade}
use Rattle.migrate_task.proofs.LockedWrites.{copy_held}

abbrev pub shown_homes : Scene → List Home
shown_homes s = homes_shown s.origin.vid 0 s.broken s.homes

-- what the task knows under this lock
abbrev pub work_for : Scene → Work
work_for s = record {
  mode = s.origin.mode;
  task = s.task.id;
  lock = s.lock.number;
  homes = shown_homes s;
  journeys = journeys_to (shown_homes s) (moves_shown s.origin.vid s.broken false s.lock.transfers);
}

pub data Point : Type 0 where
  Creating : Journey → List Journey → Point
  Fencing : Journey → List Journey → Point
  ListingDest : List Listing → Journey → List Journey → Point
  ListingUnit : List Listing → List Listing → Home → List Home → Point
  Copying : CopyStage → Point
  Swapping : Point

abbrev pub stage_of : Scene → Point → TaskStage
stage_of s (Point.Creating j left) = TaskStage.Creating (work_for s) j left
stage_of s (Point.Fencing j left) = TaskStage.Fencing (work_for s) j left
stage_of s (Point.ListingDest dests j left) = TaskStage.ListingDest (work_for s) dests j left
stage_of s (Point.ListingUnit dests heard home left) = TaskStage.ListingUnit (work_for s) dests heard home left
stage_of s (Point.Copying copy) = TaskStage.Copying (work_for s) copy
stage_of s Point.Swapping = TaskStage.Swapping (work_for s)

-- ---- what holds

-- the journey is one of the lock's
abbrev pub IsOfLock : Scene → Journey → Type 0
IsOfLock s j = (t : Transfer) × IsIn t s.lock.transfers × IsTo s t j

abbrev pub AreOfLock : Scene → List Journey → Type 0
AreOfLock s js = (j : Journey) → IsIn j js → IsOfLock s j

-- the transfer has a journey there
abbrev pub IsLeft : Scene → List Journey → Transfer → Type 0
IsLeft s js t = (j : Journey) × IsIn j js × IsTo s t j

pub record Makes (s : Scene) (w : World) (left : List Journey) : Type 0 where
  pub stands : Standing s w
  pub made : (t : Transfer) → IsIn t s.lock.transfers → (w.state.units.is_made (dest_of t) ≡ true) ⊎ IsLeft s left t
  pub each : AreOfLock s left

-- the old unit was heard to be fenced, or is on a broken disk
abbrev pub IsCutOff : Scene → World → Transfer → Type 0
IsCutOff s w t = (is_in t.index w.state.manager.heard.fenced ≡ true) ⊎ (s.broken t.old.disk ≡ true)

pub record Fences (s : Scene) (w : World) (left : List Journey) : Type 0 where
  pub stands : Standing s w
  pub made : AreMade s w
  pub cut : (t : Transfer) → IsIn t s.lock.transfers → IsCutOff s w t ⊎ IsLeft s left t
  pub each : AreOfLock s left
  pub sound : (j : Journey) → IsIn j left → j.old.broken ≡ false

pub record Ready (s : Scene) (w : World) : Type 0 where
  pub stands : Standing s w
  pub made : AreMade s w
  pub cut : (t : Transfer) → IsIn t s.lock.transfers → IsCutOff s w t

-- what destinations list was heard of them
abbrev pub AreHeard : Manager → List Listing → Type 0
AreHeard m dests =
    (l : Listing) → IsIn l dests → (bid : ℕ) → (is_in bid l.live ≡ true → was_heard m.heard.live l.index bid ≡ true) × (is_in bid l.marked ≡ true → was_heard m.heard.marked l.index bid ≡ true)

pub record ListsDests (s : Scene) (w : World) (dests : List Listing) (left : List Journey) : Type 0 where
  pub ready : Ready s w
  pub heard : AreHeard w.state.manager dests
  pub each : AreOfLock s left

pub record ListsUnits (s : Scene) (w : World) (dests heard : List Listing) (left : List Home) : Type 0 where
  pub ready : Ready s w
  pub has : AreHeard w.state.manager dests
  pub done : List Home
  pub split : shown_units s ≡ done ++ left
  pub exact : AreExact s done heard
  pub listed : (i : ℕ) → i < total_of s → s.broken (home_at s.homes i).disk ≡ false → IsListed s w.state.manager i ⊎ ((home : Home) × IsIn home left × (home.unit.index ≡ i))
  pub current : AreCurrent s.homes s.broken (total_of s) left

-- the errand is one of the lock's, for what the blob gets
pub record IsErrandFor (s : Scene) (e : Errand) : Type 0 where
  pub t : Transfer
  pub there : IsIn t s.lock.transfers
  pub to : IsTo s t e.journey
  pub due : as_due e.due ≡ due_by s e.bid
  pub some : IsDue e.due

pub record Owes (s : Scene) (w : World) (es : List Errand) : Type 0 where
  pub ready : Ready s w
  pub listed : AreListed s w.state.manager
  pub settled : (bid : ℕ) (t : Transfer) → IsIn t s.lock.transfers
      → (is_settled w.state.manager.heard bid (due_by s bid) t.index ≡ true) ⊎ ((e : Errand) × IsIn e es × (e.bid ≡ bid) × IsTo s t e.journey)
  pub each : (e : Errand) → IsIn e es → IsErrandFor s e

-- the size that is known is that of the blob's payload
abbrev pub IsKnown : Scene → Option KnownSize → Type 0
IsKnown s None = Unit {0}
IsKnown s (Some known) = known.size ≡ length (s.puts.payload known.bid)

-- as many units that hold the blob are left as are lacking
pub record Gathers (s : Scene) (bid : ℕ) (gathered : Gathered) (homes : List Home) : Type 0 where
  pub few : gathered.live < data_count s.origin.mode
  pub many : data_count s.origin.mode ≤ gathered.live + goods (holds s bid) homes
  pub current : AreCurrent s.homes s.broken (total_of s) homes

abbrev pub CopyHolds : Scene → World → CopyStage → Type 0
CopyHolds s w (CopyStage.Marking known e left) = Owes s w (e ∷ left) × IsKnown s known × (e.due ≡ dues.Mark)
CopyHolds s w (CopyStage.ReadingOld known e left) = Owes s w (e ∷ left) × IsKnown s known × (e.due ≡ dues.Copy) × (e.journey.old.broken ≡ false)
CopyHolds s w (CopyStage.ReadingOther known e left gathered home homes) = Owes s w (e ∷ left) × IsKnown s known × (e.due ≡ dues.Copy) × Gathers s e.bid gathered (home ∷ homes)
CopyHolds s w (CopyStage.Writing known e left size bytes) = Owes s w (e ∷ left) × IsKnown s known × (e.due ≡ dues.Copy)

abbrev pub Holds : Scene → World → Point → Type 0
Holds s w (Point.Creating j left) = Makes s w (j ∷ left)
Holds s w (Point.Fencing j left) = Fences s w (j ∷ left)
Holds s w (Point.ListingDest dests j left) = ListsDests s w dests (j ∷ left)
Holds s w (Point.ListingUnit dests heard home left) = ListsUnits s w dests heard (home ∷ left)
Holds s w (Point.Copying copy) = CopyHolds s w copy
Holds s w Point.Swapping = Owes s w []

-- a point of the call is next, at which all holds
pub record Onward (s : Scene) (w : World) (next : TaskNext) : Type 0 where
  pub point : Point
  pub is : next ≡ Next.Go (stage_of s point)
  pub holds : Holds s w point

-- ---- copies

pub reading_on : (s : Scene) (w : World) (known : Option KnownSize) (e : Errand) (left : List Errand) (gathered : Gathered) (homes : List Home) → Owes s w (e ∷ left) → IsKnown s known → e.due ≡ dues.Copy
    → Gathers s e.bid gathered homes → Onward s w (copying (work_for s) (reading known e left gathered homes))
reading_on s w known e left gathered [] h known_is due gathers = let few = gathers.few in let many = gathers.many in absurd (omega (arith, few, many))
reading_on s w known e left gathered (home ∷ homes) h known_is due gathers =
    record { point = Point.Copying (CopyStage.ReadingOther known e left gathered home homes); is = refl; holds = (h, known_is, due, gathers) }

-- the units of other indexes, where that of the index doesn't hold the blob
pub others_gather : (s : Scene) (bid index : ℕ) (gathered : Gathered) → Ground s → due_by s bid ≡ Due.Copy → holds s bid index ≡ false → gathered.live ≡ 0 → Gathers s bid gathered (others_than index (shown_homes s))
others_gather s bid index gathered g due none zero_live =
    let many = copy_held s bid due in
    let all = held_goods s bid g.count in
    let others = others_goods (holds s bid) index (shown_units s) none in
    let some = (sound_numbers s.origin.mode).some_data in
    record {
      few = omega (arith, some, zero_live);
      many = omega (arith, many, all, others, zero_live);
      current = others_current s.homes s.broken (total_of s) index (shown_units s) (units_current s g.count);
    }

copy_on : (s : Scene) (w : World) (known : Option KnownSize) (e : Errand) (left : List Errand) → Ground s → Owes s w (e ∷ left) → IsKnown s known → e.due ≡ dues.Copy → Onward s w (copying (work_for s) (copy_begins (work_for s) known e left))
copy_on s w known e left g h known_is due = go e.journey.old.broken refl where
  go : (test : Bool) → e.journey.old.broken ≡ test
      → Onward s w (copying (work_for s) (cond test (reading known e left (nothing_gathered s.origin.mode) (others_than e.journey.index (shown_homes s))) (CopyNext.Asks (CopyStage.ReadingOld known e left))))
  go false sound = record { point = Point.Copying (CopyStage.ReadingOld known e left); is = refl; holds = (h, known_is, due, sound) }
  go true is_broken =
      let of = h.each e (inl refl) in
      let disk : s.broken (home_at s.homes e.journey.index).disk ≡ true =
      ap (λ i. s.broken (home_at s.homes i).disk) of.to.index ∙ ap (λ (l : Location). s.broken l.disk) (g.olds of.t of.there) ∙ sym of.to.old_broken ∙ is_broken in
      let none : holds s e.bid e.journey.index ≡ false = ap (λ b. not b && is_live (s.row e.journey.index e.bid)) disk in
      reading_on s w known e left (nothing_gathered s.origin.mode) (others_than e.journey.index (shown_homes s)) h known_is due
      (others_gather s e.bid e.journey.index (nothing_gathered s.origin.mode) g (sym of.due ∙ ap as_due due) none refl)

pub errand_on : (s : Scene) (w : World) (known : Option KnownSize) (es : List Errand) → Ground s → Owes s w es → IsKnown s known → Onward s w (copying (work_for s) (next_errand (work_for s) known es))
unfolding next_errand
errand_on s w known [] g h known_is = record { point = Point.Swapping; is = refl; holds = h }
errand_on s w known (e ∷ left) g h known_is = go e.due refl (h.each e (inl refl)).some where
  go : (due : CodeDue) → e.due ≡ due → IsDue due → Onward s w (copying (work_for s) (errand_begins (work_for s) known e left due))
  go dues.Mark is some = record { point = Point.Copying (CopyStage.Marking known e left); is = refl; holds = (h, known_is, is) }
  go dues.Copy is some = copy_on s w known e left g h known_is is
  go dues.Left is some = absurd some

-- ---- lists of errands

in_left : {A : Type 0} (x : A) (xs ys : List A) → IsIn x xs → IsIn x (xs ++ ys)
in_left x [] ys i = absurd i
in_left x (y ∷ xs) ys (inl here) = inl here
in_left x (y ∷ xs) ys (inr there) = inr (in_left x xs ys there)

in_right : {A : Type 0} (x : A) (xs ys : List A) → IsIn x ys → IsIn x (xs ++ ys)
in_right x [] ys i = i
in_right x (y ∷ xs) ys i = inr (in_right x xs ys i)

pub in_either : {A : Type 0} (x : A) (xs ys : List A) → IsIn x (xs ++ ys) → IsIn x xs ⊎ IsIn x ys
in_either x [] ys i = inr i
in_either x (y ∷ xs) ys (inl here) = inl (inl here)
in_either x (y ∷ xs) ys (inr there) = elim (in_either x xs ys there) [ inl front ↦ inl (inr front) | inr back ↦ inr back ]

in_range : (b low n : ℕ) → low ≤ b → b < low + n → IsIn b (range_with_len low n)
in_range b low zero above below = absurd (omega (arith, above, below))
in_range b low (suc n) above below = elim (cases_eq b low) [
  | inl same ↦ inl same
  | inr apart ↦ inr (in_range b (low + 1) n (omega arith) (omega arith))
]

-- the journeys whose destinations lack what the blob gets
abbrev lacking_of : ℕ → CodeDue → List Listing → List Journey → List Journey
lacking_of bid due dests js = filter (λ (j : Journey). not (has_due dests due bid j.index)) js

-- each of them has an errand
of_blob : (bid : ℕ) (due : CodeDue) (dests : List Listing) (js : List Journey) (j : Journey) → IsIn j js → has_due dests due bid j.index ≡ false → IsIn {A = Errand} (record { bid = bid; due = due; journey = j }) (errands_of bid due dests js)
of_blob bid due dests [] j i lacks = absurd i
of_blob bid due dests (x ∷ js) j (inl here) lacks = go (has_due dests due bid x.index) (ap (λ (k : Journey). has_due dests due bid k.index) (sym here) ∙ lacks)
  where
    go : (test : Bool) → test ≡ false → IsIn {A = Errand} (record { bid = bid; due = due; journey = j }) (map (λ (j : Journey). record { bid = bid; due = due; journey = j }) (cond (not test) (x ∷ lacking_of bid due dests js) (lacking_of bid due dests js)))
    go true e = absurd (cc)
    go false e = inl (ap (λ (k : Journey). record { bid = bid; due = due; journey = k }) here)
of_blob bid due dests (x ∷ js) j (inr there) lacks = go (not (has_due dests due bid x.index)) (of_blob bid due dests js j there lacks)
  where
    go : (test : Bool) → IsIn {A = Errand} (record { bid = bid; due = due; journey = j }) (map (λ (j : Journey). record { bid = bid; due = due; journey = j }) (lacking_of bid due dests js))
        → IsIn {A = Errand} (record { bid = bid; due = due; journey = j }) (map (λ (j : Journey). record { bid = bid; due = due; journey = j }) (cond test (x ∷ lacking_of bid due dests js) (lacking_of bid due dests js)))
    go true i = inr i
    go false i = i

over_blobs : (work : Work) (dests heard : List Listing) (bids : List ℕ) (bid : ℕ) (j : Journey) → IsIn bid bids → IsIn j work.journeys → has_due dests (due_of (data_count work.mode) heard bid) bid j.index ≡ false
    → IsIn {A = Errand} (record { bid = bid; due = due_of (data_count work.mode) heard bid; journey = j }) (errands_over work dests heard bids)
over_blobs work dests heard [] bid j i there lacks = absurd i
over_blobs work dests heard (b ∷ bids) bid j (inl here) there lacks =
    in_left (record { bid = bid; due = due_of (data_count work.mode) heard bid; journey = j }) (errands_of b (due_of (data_count work.mode) heard b) dests work.journeys) (errands_over work dests heard bids)
    (subst (λ c. IsIn {A = Errand} (record { bid = bid; due = due_of (data_count work.mode) heard bid; journey = j }) (errands_of c (due_of (data_count work.mode) heard c) dests work.journeys)) here
    (of_blob bid (due_of (data_count work.mode) heard bid) dests work.journeys j there lacks))
over_blobs work dests heard (b ∷ bids) bid j (inr later) there lacks =
    in_right (record { bid = bid; due = due_of (data_count work.mode) heard bid; journey = j }) (errands_of b (due_of (data_count work.mode) heard b) dests work.journeys) (errands_over work dests heard bids)
    (over_blobs work dests heard bids bid j later there lacks)

-- each errand is of a journey, for what its blob gets
pub record IsErrandBy (work : Work) (heard : List Listing) (dests : List Listing) (e : Errand) : Type 0 where
  pub journey : IsIn e.journey work.journeys
  pub due : e.due ≡ due_of (data_count work.mode) heard e.bid
  pub lacks : has_due dests e.due e.bid e.journey.index ≡ false

by_blob : (bid : ℕ) (due : CodeDue) (dests : List Listing) (js : List Journey) (e : Errand) → IsIn e (errands_of bid due dests js) → IsIn e.journey js × (e.bid ≡ bid) × (e.due ≡ due) × (has_due dests due bid e.journey.index ≡ false)
by_blob bid due dests [] e i = absurd i
by_blob bid due dests (x ∷ js) e i = go (has_due dests due bid x.index) refl (by_blob bid due dests js e) i
  where
    go : (test : Bool) → has_due dests due bid x.index ≡ test
        → (IsIn e (map (λ (j : Journey). record { bid = bid; due = due; journey = j }) (lacking_of bid due dests js)) → IsIn e.journey js × (e.bid ≡ bid) × (e.due ≡ due) × (has_due dests due bid e.journey.index ≡ false))
        → IsIn e (map (λ (j : Journey). record { bid = bid; due = due; journey = j }) (cond (not test) (x ∷ lacking_of bid due dests js) (lacking_of bid due dests js)))
        → IsIn e.journey (x ∷ js) × (e.bid ≡ bid) × (e.due ≡ due) × (has_due dests due bid e.journey.index ≡ false)
    go true t later i = let found = later i in (inr found.0, found.1, found.2, found.3)
    go false t later (inl here) =
        (inl (ap (λ (y : Errand). y.journey) here), ap (λ (y : Errand). y.bid) here, ap (λ (y : Errand). y.due) here, ap (λ (y : Errand). has_due dests due bid y.journey.index) here ∙ t)
    go false t later (inr there) = let found = later there in (inr found.0, found.1, found.2, found.3)

by_blobs : (work : Work) (dests heard : List Listing) (bids : List ℕ) (e : Errand) → IsIn e (errands_over work dests heard bids) → IsErrandBy work heard dests e
by_blobs work dests heard [] e i = absurd i
by_blobs work dests heard (b ∷ bids) e i = elim (in_either e (errands_of b (due_of (data_count work.mode) heard b) dests work.journeys) (errands_over work dests heard bids) i) [
  | inl front ↦
      let found = by_blob b (due_of (data_count work.mode) heard b) dests work.journeys e front in
      record {
        journey = found.0;
        due = found.2 ∙ ap (due_of (data_count work.mode) heard) (sym found.1);
        lacks = (λ k. has_due dests (found.2 k) (found.1 k) e.journey.index) ∙ found.3;
      }
  | inr back ↦ by_blobs work dests heard bids e back
]

-- the errands of all blobs up to a last one
pub record AreErrandsOf (work : Work) (dests heard : List Listing) (last : ℕ) (es : List Errand) : Type 0 where
  pub all : (bid : ℕ) (j : Journey) → 1 ≤ bid → bid ≤ last → IsIn j work.journeys → has_due dests (due_of (data_count work.mode) heard bid) bid j.index ≡ false
      → IsIn {A = Errand} (record { bid = bid; due = due_of (data_count work.mode) heard bid; journey = j }) es
  pub each : (e : Errand) → IsIn e es → IsErrandBy work heard dests e

up_to : (work : Work) (dests heard : List Listing) (last : ℕ) → AreErrandsOf work dests heard last (errands_up_to last work dests heard)
unfolding errands_up_to
up_to work dests heard last = record {
  all = λ bid j first below there lacks. over_blobs work dests heard (range_with_len 1 last) bid j (in_range bid 1 last first (omega (arith, below))) there lacks;
  each = λ e i. by_blobs work dests heard (range_with_len 1 last) e i;
}

pub all_errands : (work : Work) (dests heard : List Listing) → AreErrandsOf work dests heard last_time (errands work dests heard)
unfolding errands
all_errands work dests heard = up_to work dests heard last_time
