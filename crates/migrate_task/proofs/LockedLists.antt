-- From a task's lock to the last listing: what is next at each point.
use Rattle.std.proofs.Common.{◌≡◌, ℕ, zero, suc, ◌+◌, ◌<◌, ◌⊎◌, inl, inr, Bool, true, false, cond, not, ◌&&◌, ◌||◌, ◌==◌, List, [], ◌∷◌, length, None, refl, sym, ◌∙◌, ap, subst, arith}
use Rattle.std.specs.Prelude.{nat_lt, get_or}
use Rattle.std.proofs.lemmas.Bool.{eqb-true, le-ltb}
use Rattle.std.proofs.lemmas.List.{append-nil}
use Rattle.unit_id.specs.Lists.{IsIn, is_in}
use Rattle.unit_id.specs.Place.{Location}
use Rattle.unit_id.specs.declared.homes.Home.{Home}
use Rattle.unit_id.proofs.Bools.{and_left, and_right, or_cases, or_left, or_right, either}
use Rattle.unit_id.proofs.Membership.{any_gives}
use Rattle.code_mode.specs.Mode.{data_count, sight}
use Rattle.code_mode.specs.VolumeShape.{last_time}
use Rattle.volume_entry.specs.Manager.{Transfer, Manager, home_at}
use Rattle.volume_entry.specs.View.{homes_shown, moves_shown}
use Rattle.volume_entry.specs.Benchmark.{Due, was_heard, is_settled}
use Rattle.volume_world.specs.BlobStatus.{is_begun}
use Rattle.volume_world.specs.State.{Puts}
use Rattle.volume_world.specs.Run.{World}
use Rattle.migrate_task.specs.declared.work.Journey.{Journey}
use Rattle.migrate_task.specs.declared.listing.Listing.{Listing}
use Rattle.migrate_task.specs.declared.copying.Errand.{Errand}
use Rattle.migrate_task.specs.declared.copying.Due.{Due as CodeDue}
use Rattle.migrate_task.specs.declared.copying.Due.TheVariants as dues
use Rattle.migrate_task.specs.declared.stage.Why.TheVariants as why
use Rattle.migrate_task.specs.Work.{nowhere, home_of, journeys_to, with_old_units, unbroken, due_of, has_due, errands}
use Rattle.migrate_task.specs.Copies.{next_errand}
use Rattle.migrate_task.specs.AdvanceCall.{waits, copying, listing_units, listing_dests, fencing, creating}
use Rattle.migrate_task.specs.GatherParts.{IsDue}
use Rattle.migrate_task.proofs.Scenes.{Scene, Ground, Standing}
use Rattle.migrate_task.proofs.ShownUnits.{due_by, as_due, shown_units, AreListed, AreExact, exact_long, units_current, due_is, shown_enough}
use Rattle.migrate_task.proofs.LockedAnswers.{IsTo}
use Rattle.migrate_task.proofs.LockedWrites.{mark_asked, copy_begun}
use Rattle.migrate_task.proofs.LockedPoints.{shown_homes, work_for, Point, AreOfLock, IsLeft, Makes, Fences, Ready, AreHeard, ListsDests, ListsUnits, Owes, Onward, errand_on, AreErrandsOf, all_errands}

-- ---- journeys and units that are shown

shown_at : (vid index : ℕ) (broken : ℕ → Bool) (homes : List Location) (i : ℕ) → i < length homes
    → get_or (homes_shown vid index broken homes) i nowhere ≡ record { unit = record { vid = vid; index = index + i; epoch = (home_at homes i).epoch }; disk = (home_at homes i).disk; broken = broken (home_at homes i).disk }
shown_at vid index broken [] i below = absurd (omega arith)
shown_at vid index broken (home ∷ homes) zero below =
    ap (λ n. record { unit = record { vid = vid; index = n; epoch = home.epoch }; disk = home.disk; broken = broken home.disk }) (omega arith)
shown_at vid index broken (home ∷ homes) (suc i) below =
    shown_at vid (suc index) broken homes i (omega arith)
    ∙ ap (λ n. record { unit = record { vid = vid; index = n; epoch = (home_at homes i).epoch }; disk = (home_at homes i).disk; broken = broken (home_at homes i).disk }) (omega arith)

old_shown : (s : Scene) (t : Transfer) → Ground s → IsIn t s.lock.transfers
    → home_of (shown_homes s) t.index ≡ record { unit = record { vid = s.origin.vid; index = t.index; epoch = t.old.epoch }; disk = t.old.disk; broken = s.broken t.old.disk }
old_shown s t g i =
    shown_at s.origin.vid 0 s.broken s.homes t.index (subst (λ n. t.index < n) (sym g.count) (g.below t i))
    ∙ ap (λ n. record { unit = record { vid = s.origin.vid; index = n; epoch = (home_at s.homes t.index).epoch }; disk = (home_at s.homes t.index).disk; broken = s.broken (home_at s.homes t.index).disk }) (omega arith)
    ∙ ap (λ (l : Location). record { unit = record { vid = s.origin.vid; index = t.index; epoch = l.epoch }; disk = l.disk; broken = s.broken l.disk }) (g.olds t i)

-- the journey of a transfer
abbrev journey_of : Scene → Transfer → Journey
journey_of s t = record {
  index = t.index;
  old = home_of (shown_homes s) t.index;
  dest = record { unit = record { vid = s.origin.vid; index = t.index; epoch = t.dest.epoch }; disk = t.dest.disk; broken = s.broken t.dest.disk };
}

is_to : (s : Scene) (t : Transfer) → Ground s → IsIn t s.lock.transfers → IsTo s t (journey_of s t)
is_to s t g i = record {
  index = refl;
  old_unit = ap (λ (home : Home). home.unit) (old_shown s t g i);
  old_disk = ap (λ (home : Home). home.disk) (old_shown s t g i);
  old_broken = ap (λ (home : Home). home.broken) (old_shown s t g i);
  dest_unit = refl;
  dest_disk = refl;
}

journey_there : (s : Scene) (ts : List Transfer) (t : Transfer) → IsIn t ts → IsIn (journey_of s t) (journeys_to (shown_homes s) (moves_shown s.origin.vid s.broken false ts))
journey_there s [] t i = absurd i
journey_there s (x ∷ ts) t (inl here) = inl (ap (journey_of s) here)
journey_there s (x ∷ ts) t (inr there) = inr (journey_there s ts t there)

there_journey : (s : Scene) (ts : List Transfer) (j : Journey) → IsIn j (journeys_to (shown_homes s) (moves_shown s.origin.vid s.broken false ts)) → (t : Transfer) × IsIn t ts × (j ≡ journey_of s t)
there_journey s [] j i = absurd i
there_journey s (x ∷ ts) j (inl here) = (x, inl refl, here)
there_journey s (x ∷ ts) j (inr there) = let found = there_journey s ts j there in (found.0, inr found.1, found.2)

pub all_of_lock : (s : Scene) → Ground s → AreOfLock s (work_for s).journeys
all_of_lock s g j i = let found = there_journey s s.lock.transfers j i in (found.0, found.1, subst (IsTo s found.0) (sym found.2) (is_to s found.0 g found.1))

pub all_left : (s : Scene) (t : Transfer) → Ground s → IsIn t s.lock.transfers → IsLeft s (work_for s).journeys t
all_left s t g i = (journey_of s t, journey_there s s.lock.transfers t i, is_to s t g i)

-- an unbroken unit is among those that are shown
shown_there : (vid index : ℕ) (broken : ℕ → Bool) (homes : List Location) (i : ℕ) → i < length homes → broken (home_at homes i).disk ≡ false
    → (home : Home) × IsIn home (unbroken (homes_shown vid index broken homes)) × (home.unit.index ≡ index + i)
shown_there vid index broken [] i below sound = absurd (omega arith)
shown_there vid index broken (x ∷ homes) zero below sound = go (broken x.disk) sound where
  go : (test : Bool) → test ≡ false
      → (home : Home) × IsIn home (cond (not test) (record { unit = record { vid = vid; index = index; epoch = x.epoch }; disk = x.disk; broken = broken x.disk } ∷ unbroken (homes_shown vid (suc index) broken homes)) (unbroken (homes_shown vid (suc index) broken homes)))
      × (home.unit.index ≡ index + 0)
  go true e = absurd (cc)
  go false e = (record { unit = record { vid = vid; index = index; epoch = x.epoch }; disk = x.disk; broken = broken x.disk }, inl refl, omega arith)
shown_there vid index broken (x ∷ homes) (suc i) below sound = let rest = shown_there vid (suc index) broken homes i (omega arith) sound in (rest.0, go (broken x.disk) rest.0 rest.1, rest.2 ∙ omega arith) where
  go : (test : Bool) (home : Home) → IsIn home (unbroken (homes_shown vid (suc index) broken homes))
      → IsIn home (cond (not test) (record { unit = record { vid = vid; index = index; epoch = x.epoch }; disk = x.disk; broken = broken x.disk } ∷ unbroken (homes_shown vid (suc index) broken homes)) (unbroken (homes_shown vid (suc index) broken homes)))
  go true home h = h
  go false home h = inr h

-- ---- behind the last listing

-- what destinations were heard to have is settled
has_settled : (m : Manager) (dests : List Listing) (due : CodeDue) (bid index : ℕ) → AreHeard m dests → has_due dests due bid index ≡ true → is_settled m.heard bid (as_due due) index ≡ true
has_settled m dests dues.Mark bid index heard has =
    let found = any_gives (λ (l : Listing). (l.index == index) && is_in bid l.marked) dests has in
    let l = found.0 in
    let same = eqb-true l.index index (and_left (l.index == index) (is_in bid l.marked) found.2) in
    subst (λ n. was_heard m.heard.marked n bid ≡ true) same ((heard l found.1 bid).1 (and_right (l.index == index) (is_in bid l.marked) found.2))
has_settled m dests dues.Copy bid index heard has =
    let found = any_gives (λ (l : Listing). (l.index == index) && (is_in bid l.live || is_in bid l.marked)) dests has in
    let l = found.0 in
    let same = eqb-true l.index index (and_left (l.index == index) (is_in bid l.live || is_in bid l.marked) found.2) in
    elim (or_cases (is_in bid l.live) (is_in bid l.marked) (and_right (l.index == index) (is_in bid l.live || is_in bid l.marked) found.2)) [
      | inl live ↦ or_left (was_heard m.heard.live index bid) (was_heard m.heard.marked index bid) (subst (λ n. was_heard m.heard.live n bid ≡ true) same ((heard l found.1 bid).0 live))
      | inr marked ↦ or_right (was_heard m.heard.live index bid) (was_heard m.heard.marked index bid) (subst (λ n. was_heard m.heard.marked n bid ≡ true) same ((heard l found.1 bid).1 marked))
    ]
has_settled m dests dues.Left bid index heard has = refl

-- a blob that some destination lacks was begun
lacking_begun : (s : Scene) (w : World) (due : CodeDue) (dests : List Listing) (bid index : ℕ) → Standing s w → as_due due ≡ due_by s bid → has_due dests due bid index ≡ false → is_begun (s.puts.status bid) ≡ true
lacking_begun s w dues.Mark dests bid index h is lacks = ap (λ (puts : Puts). is_begun (puts.status bid)) (sym h.puts_are) ∙ h.kept.support.asks.asked_is_begun bid (mark_asked s w bid h (sym is))
lacking_begun s w dues.Copy dests bid index h is lacks = copy_begun s w bid h (sym is)
lacking_begun s w dues.Left dests bid index h is lacks = absurd (cc)

lacking_some : (due : CodeDue) (dests : List Listing) (bid index : ℕ) → has_due dests due bid index ≡ false → IsDue due
lacking_some dues.Mark dests bid index lacks = tt
lacking_some dues.Copy dests bid index lacks = tt
lacking_some dues.Left dests bid index lacks = absurd (cc)

errands_owed : (s : Scene) (w : World) (dests heard : List Listing) (es : List Errand) → Ground s → Ready s w → AreListed s w.state.manager → AreHeard w.state.manager dests → AreExact s (shown_units s) heard
    → AreErrandsOf (work_for s) dests heard last_time es → Owes s w es
errands_owed s w dests heard es g ready listed has exact of = record {
  ready = ready;
  listed = listed;
  settled = λ bid t i. owed bid t i;
  each = λ e i.
      let by = of.each e i in
      let its = all_of_lock s g e.journey by.journey in
      record { t = its.0; there = its.1; to = its.2; due = ap as_due by.due ∙ due_is s e.bid heard g.count exact; some = lacking_some e.due dests e.bid e.journey.index by.lacks };
}
  where
    owed : (bid : ℕ) (t : Transfer) → IsIn t s.lock.transfers → (is_settled w.state.manager.heard bid (due_by s bid) t.index ≡ true) ⊎ ((e : Errand) × IsIn e es × (e.bid ≡ bid) × IsTo s t e.journey)
    owed bid t i =
        let left = all_left s t g i in
        let j = left.0 in
        let due = due_of (data_count s.origin.mode) heard bid in
        let is = due_is s bid heard g.count exact in
        elim (either (has_due dests due bid j.index)) [
          | inl has_it ↦ inl (subst (λ (d : Due). is_settled w.state.manager.heard bid d t.index ≡ true) is
              (subst (λ n. is_settled w.state.manager.heard bid (as_due due) n ≡ true) left.2.index (has_settled w.state.manager dests due bid j.index has has_it)))
          | inr lacks ↦
              let number = (g.blobs bid (lacking_begun s w due dests bid j.index ready.stands is lacks)).number in
              inr (record { bid = bid; due = due; journey = j }, of.all bid j number.first number.last left.1 lacks, refl, left.2)
        ]

pub units_on : (s : Scene) (w : World) (dests heard : List Listing) (left : List Home) → Ground s → ListsUnits s w dests heard left → Onward s w (listing_units (work_for s) dests heard left)
unfolding listing_units
units_on s w dests heard (home ∷ left) g h = record { point = Point.ListingUnit dests heard home left; is = refl; holds = h }
units_on s w dests heard [] g h =
    let whole : h.done ≡ shown_units s = sym (h.split ∙ append-nil h.done) in
    let exact = subst (λ homes. AreExact s homes heard) whole h.exact in
    let long = exact_long s (shown_units s) heard exact in
    let enough = shown_enough s (sight s.origin.mode) g.count g.enough in
    let seen : nat_lt (length heard) (sight s.origin.mode) ≡ false = le-ltb (length heard) (sight s.origin.mode) (omega (arith, long, enough)) in
    let owes = errands_owed s w dests heard (errands (work_for s) dests heard) g h.ready (λ i below sound. elim (h.listed i below sound) [ inl l ↦ l | inr more ↦ absurd more.1 ]) h.has exact (all_errands (work_for s) dests heard) in
    let next = errand_on s w None (errands (work_for s) dests heard) g owes tt in
    record {
      point = next.point;
      is = ap (λ b. cond b (waits (why.Short (length heard))) (copying (work_for s) (next_errand (work_for s) None (errands (work_for s) dests heard)))) seen ∙ next.is;
      holds = next.holds;
    }

pub dests_on : (s : Scene) (w : World) (dests : List Listing) (left : List Journey) → Ground s → ListsDests s w dests left → Onward s w (listing_dests (work_for s) dests left)
unfolding listing_dests
dests_on s w dests (j ∷ left) g h = record { point = Point.ListingDest dests j left; is = refl; holds = h }
dests_on s w dests [] g h = units_on s w dests [] (shown_units s) g (record {
  ready = h.ready;
  has = h.heard;
  done = [];
  split = refl;
  exact = tt;
  listed = λ i below sound. inr
      (let found = shown_there s.origin.vid 0 s.broken s.homes i (subst (λ n. i < n) (sym g.count) below) sound in (found.0, found.1, found.2 ∙ omega arith));
  current = units_current s g.count;
})

pub fence_on : (s : Scene) (w : World) (left : List Journey) → Ground s → Fences s w left → Onward s w (fencing (work_for s) left)
unfolding fencing
fence_on s w (j ∷ left) g h = record { point = Point.Fencing j left; is = refl; holds = h }
fence_on s w [] g h = dests_on s w [] (work_for s).journeys g (record {
  ready = record { stands = h.stands; made = h.made; cut = λ t i. elim (h.cut t i) [ inl cut ↦ cut | inr more ↦ absurd more.1 ] };
  heard = λ l i. absurd i;
  each = all_of_lock s g;
})

-- the journeys whose old units are on unbroken disks
pub old_kept : (js : List Journey) (j : Journey) → IsIn j js → j.old.broken ≡ false → IsIn j (with_old_units js)
old_kept [] j i sound = absurd i
old_kept (x ∷ js) j (inl here) sound = go x.old.broken (ap (λ (k : Journey). k.old.broken) (sym here) ∙ sound) where
  go : (test : Bool) → test ≡ false → IsIn j (cond (not test) (x ∷ with_old_units js) (with_old_units js))
  go true e = absurd (cc)
  go false e = inl here
old_kept (x ∷ js) j (inr there) sound = go (not x.old.broken) (old_kept js j there sound) where
  go : (test : Bool) → IsIn j (with_old_units js) → IsIn j (cond test (x ∷ with_old_units js) (with_old_units js))
  go true i = inr i
  go false i = i

pub kept_old : (js : List Journey) (j : Journey) → IsIn j (with_old_units js) → IsIn j js × (j.old.broken ≡ false)
kept_old [] j i = absurd i
kept_old (x ∷ js) j i = go x.old.broken refl (kept_old js j) i where
  go : (test : Bool) → x.old.broken ≡ test → (IsIn j (with_old_units js) → IsIn j js × (j.old.broken ≡ false)) → IsIn j (cond (not test) (x ∷ with_old_units js) (with_old_units js)) → IsIn j (x ∷ js) × (j.old.broken ≡ false)
  go true e later i = let found = later i in (inr found.0, found.1)
  go false e later (inl here) = (inl here, ap (λ (k : Journey). k.old.broken) here ∙ e)
  go false e later (inr there) = let found = later there in (inr found.0, found.1)

pub make_on : (s : Scene) (w : World) (left : List Journey) → Ground s → Makes s w left → Onward s w (creating (work_for s) left)
unfolding creating
make_on s w (j ∷ left) g h = record { point = Point.Creating j left; is = refl; holds = h }
make_on s w [] g h = fence_on s w (with_old_units (work_for s).journeys) g (record {
  stands = h.stands;
  made = λ t i. elim (h.made t i) [ inl made ↦ made | inr more ↦ absurd more.1 ];
  cut = λ t i. elim (either (s.broken t.old.disk)) [
    | inl is_broken ↦ inl (inr is_broken)
    | inr sound ↦ let left = all_left s t g i in inr (left.0, old_kept (work_for s).journeys left.0 left.1 (left.2.old_broken ∙ sound), left.2)
  ];
  each = λ j i. all_of_lock s g j (kept_old (work_for s).journeys j i).0;
  sound = λ j i. (kept_old (work_for s).journeys j i).1;
})
