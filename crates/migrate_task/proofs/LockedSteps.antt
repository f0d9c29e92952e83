-- What each event leaves of a task's call, from its lock to the swap.
use Rattle.std.proofs.Common.{◌≡◌, ℕ, ◌+◌, ◌<◌, ◌≤◌, inl, inr, Bool, true, false, cond, not, ◌&&◌, ◌||◌, ◌==◌, List, [], ◌∷◌, ◌++◌, length, Option, Some, None, refl, sym, ◌∙◌, ap, subst, arith, append_assoc}
use Rattle.std.specs.Prelude.{nat_le}
use Rattle.std.proofs.lemmas.Bool.{eqb-true, eqb-false, le-leb}
use Rattle.unit_id.specs.Lists.{is_in}
use Rattle.unit_id.specs.UnitName.{Name}
use Rattle.unit_id.specs.Place.{Place}
use Rattle.unit_id.specs.declared.homes.Home.{Home}
use Rattle.unit_id.specs.declared.request.Request.TheVariants as requests
use Rattle.unit_id.specs.declared.answer.Answer.{Answer as ToldAnswer}
use Rattle.unit_id.specs.declared.answer.Answer.TheVariants as answers
use Rattle.unit_id.specs.Shown.{Shown}
use Rattle.unit_id.proofs.Bools.{and_both, and_left, or_cases, or_left, or_right, either, equal_test}
use Rattle.blob_node.specs.Units.{RowState, is_live, is_deleted}
use Rattle.code_mode.specs.Mode.{data_count, shard_size}
use Rattle.code_mode.specs.PayloadShard.{PayloadShard}
use Rattle.code_mode.specs.declared.stripe.TheConstants.{BLOB_LIMIT}
use Rattle.code_mode.proofs.AnyShards.{length-shard_of}
use Rattle.rs_code.specs.ShardValue.{rebuilt}
use Rattle.volume_entry.specs.Manager.{Transfer, Manager, Heard, HeardRow, home_at, current, transfers_of, is_destination}
use Rattle.volume_entry.specs.ManagerStep.{rows_at}
use Rattle.volume_entry.specs.Benchmark.{Due, was_heard, is_settled, listing_at, listing_of}
use Rattle.volume_world.specs.Run.{World}
use Rattle.volume_world.specs.Course.{IsDone, GivesRight}
use Rattle.volume_world.specs.declared.event.Event.TheVariants as events
use Rattle.volume_world.specs.declared.reply.Reply.{Reply as CodeReply}
use Rattle.volume_world.specs.declared.reply.Reply.TheVariants as replies
use Rattle.migrate_task.specs.declared.work.Journey.{Journey}
use Rattle.migrate_task.specs.declared.listing.Listing.{Listing}
use Rattle.migrate_task.specs.declared.copying.Errand.{Errand}
use Rattle.migrate_task.specs.declared.copying.Due.TheVariants as dues
use Rattle.migrate_task.specs.declared.usable.KnownSize.{KnownSize}
use Rattle.migrate_task.specs.declared.gathering.Gathered.{Gathered}
use Rattle.migrate_task.specs.declared.stage.Why.TheVariants as why
use Rattle.migrate_task.specs.Copies.{CopyStage, CopyNext, agrees, is_usable, knowing, nothing_gathered, others_than, reading, with_shard, gathering, next_errand, after_old, after_other, copy_asks}
use Rattle.migrate_task.specs.AdvanceCall.{waits, copying, listing_units, listing_dests, with_listing, after_create, after_fence, after_dest, after_unit, after_copy}
use Rattle.migrate_task.specs.Completion.{IsUntroubled}
use Rattle.migrate_task.proofs.Scenes.{Scene, Ground, Standing, dest_of, dest_fresh, current_fresh}
use Rattle.migrate_task.proofs.ShownUnits.{holds, due_by, as_due, IsListed, AreListed, IsExact, AreExact}
use Rattle.migrate_task.proofs.LockedAnswers.{IsTo, dest_at, old_at, Created, Fenced, Listed, ReadGives, Read, create_goes, fence_goes, list_goes, read_goes, old_unbroken}
use Rattle.migrate_task.proofs.LockedWrites.{Grows, Wrote, IsMarkDone, IsCopyDone, Marked, Copied, dest_test, mark_goes, copy_goes, mark_asked, copy_begun}
use Rattle.migrate_task.proofs.LockedPoints.{shown_homes, work_for, Point, Makes, Fences, Ready, AreHeard, ListsDests, ListsUnits, Owes, IsKnown, Gathers, CopyHolds, Onward, in_either, reading_on, others_gather, errand_on}
use Rattle.migrate_task.proofs.LockedLists.{units_on, dests_on, fence_on, make_on}

-- ---- destinations and old units

-- one journey names one transfer
same_transfer : (s : Scene) (t x : Transfer) (k j : Journey) → k ≡ j → IsTo s t k → IsTo s x j → t.index ≡ x.index
same_transfer s t x k j e a b = sym a.index ∙ ap (λ (y : Journey). y.index) e ∙ b.index

pub create_step : (s : Scene) (w u : World) (j : Journey) (left : List Journey) (reply : CodeReply) → Ground s → Makes s w (j ∷ left) → IsDone s.origin w (events.Send (requests.Create j.dest.unit j.dest.disk)) reply u → IsUntroubled reply
    → Onward s u (after_create (work_for s) j.dest.disk left reply)
create_step s w u j left reply g h done calm =
    let its = h.each j (inl refl) in
    let c : Created s w u its.0 reply = create_goes s w u its.0 j reply g h.stands its.1 its.2 done calm in
    let next = make_on s u left g (record {
      stands = c.stands;
      made = λ t i. elim (h.made t i) [
        | inl made ↦ inl (c.others (dest_of t) made)
        | inr (k, inl here, to) ↦ inl (subst (λ (x : Transfer). u.state.units.is_made (dest_of x) ≡ true) (g.one its.0 t its.1 i (sym (same_transfer s t its.0 k j here to its.2))) c.made)
        | inr (k, inr there, to) ↦ inr (k, there, to)
      ];
      each = λ k i. h.each k (inr i);
    }) in
    elim c.done [
      | inl e ↦ subst (λ r. Onward s u (after_create (work_for s) j.dest.disk left r)) (sym (c.is ∙ ap (λ a. replies.Heard a) e)) next
      | inr e ↦ subst (λ r. Onward s u (after_create (work_for s) j.dest.disk left r)) (sym (c.is ∙ ap (λ a. replies.Heard a) e)) next
    ]

pub fence_step : (s : Scene) (w u : World) (j : Journey) (left : List Journey) (reply : CodeReply) → Ground s → Fences s w (j ∷ left) → IsDone s.origin w (events.Send (requests.Fence j.old.unit j.old.disk s.lock.number)) reply u → IsUntroubled reply
    → Onward s u (after_fence (work_for s) j.old.disk left reply)
fence_step s w u j left reply g h done calm =
    let its = h.each j (inl refl) in
    let c : Fenced s w u its.0 reply = fence_goes s w u its.0 j reply g h.stands its.1 its.2 (sym its.2.old_broken ∙ h.sound j (inl refl)) done calm in
    let next = fence_on s u left g (record {
      stands = c.stands;
      made = λ t i. c.made (dest_of t) (h.made t i);
      cut = λ t i. elim (h.cut t i) [
        | inl (inl fenced) ↦ inl (inl (c.before t.index fenced))
        | inl (inr is_broken) ↦ inl (inr is_broken)
        | inr (k, inl here, to) ↦ inl (inl (subst (λ n. is_in n u.state.manager.heard.fenced ≡ true) (sym (same_transfer s t its.0 k j here to its.2)) c.here))
        | inr (k, inr there, to) ↦ inr (k, there, to)
      ];
      each = λ k i. h.each k (inr i);
      sound = λ k i. h.sound k (inr i);
    }) in
    subst (λ r. Onward s u (after_fence (work_for s) j.old.disk left r)) (sym c.is) next

-- ---- listings

ready_on : (s : Scene) (w u : World) → Ready s w → Standing s u → ((q : Place) → w.state.units.is_made q ≡ true → u.state.units.is_made q ≡ true)
    → ((i : ℕ) → is_in i w.state.manager.heard.fenced ≡ true → is_in i u.state.manager.heard.fenced ≡ true) → Ready s u
ready_on s w u h stands made fenced = record {
  stands = stands;
  made = λ t i. made (dest_of t) (h.made t i);
  cut = λ t i. elim (h.cut t i) [ inl there ↦ inl (fenced t.index there) | inr is_broken ↦ inr is_broken ];
}

was_later : (xs ys : List HeardRow) (i bid : ℕ) → was_heard ys i bid ≡ true → was_heard (xs ++ ys) i bid ≡ true
was_later [] ys i bid h = h
was_later (x ∷ xs) ys i bid h = or_right ((x.index == i) && (x.bid == bid)) (was_heard (xs ++ ys) i bid) (was_later xs ys i bid h)

-- what a listing adds leaves what was heard
was_still : (test : Bool) (xs ys : List HeardRow) (i bid : ℕ) → was_heard ys i bid ≡ true → was_heard (cond test (xs ++ ys) ys) i bid ≡ true
was_still true xs ys i bid h = was_later xs ys i bid h
was_still false xs ys i bid h = h

rows_heard : (index bid : ℕ) (bids : List ℕ) (ys : List HeardRow) → is_in bid bids ≡ true → was_heard (rows_at index bids ++ ys) index bid ≡ true
rows_heard index bid [] ys h = absurd (cc)
rows_heard index bid (b ∷ bids) ys h = elim (or_cases (bid == b) (is_in bid bids) h) [
  | inl here ↦ or_left ((index == index) && (b == bid)) (was_heard (rows_at index bids ++ ys) index bid) (and_both (index == index) (b == bid) (equal_test index index refl) (equal_test b bid (sym (eqb-true bid b here))))
  | inr there ↦ or_right ((index == index) && (b == bid)) (was_heard (rows_at index bids ++ ys) index bid) (rows_heard index bid bids ys there)
]

heard_still : (s : Scene) (w u : World) (p : Place) (reply : CodeReply) (dests : List Listing) → Listed s w u p reply → AreHeard w.state.manager dests → AreHeard u.state.manager dests
heard_still s w u p reply dests l h d i bid = (
  λ live. ap (λ (x : Heard). was_heard x.live d.index bid) l.heard
      ∙ was_still (is_destination (transfers_of w.state.manager.lock) p) (rows_at p.index l.live) w.state.manager.heard.live d.index bid ((h d i bid).0 live),
  λ marked. ap (λ (x : Heard). was_heard x.marked d.index bid) l.heard
      ∙ was_still (is_destination (transfers_of w.state.manager.lock) p) (rows_at p.index l.marked) w.state.manager.heard.marked d.index bid ((h d i bid).1 marked),
)

-- what a destination lists is heard
dest_heard : (s : Scene) (w u : World) (t : Transfer) (j : Journey) (reply : CodeReply) (dests : List Listing) → IsTo s t j → is_destination (transfers_of w.state.manager.lock) (dest_of t) ≡ true → (l : Listed s w u (dest_of t) reply)
    → AreHeard w.state.manager dests → AreHeard u.state.manager (with_listing dests j.index l.live l.marked)
dest_heard s w u t j reply dests to dest l h d i bid = elim (in_either d dests (record { index = j.index; live = l.live; marked = l.marked } ∷ []) i) [
  | inl front ↦ heard_still s w u (dest_of t) reply dests l h d front bid
  | inr (inl new) ↦ subst (λ (x : Listing). (is_in bid x.live ≡ true → was_heard u.state.manager.heard.live x.index bid ≡ true) × (is_in bid x.marked ≡ true → was_heard u.state.manager.heard.marked x.index bid ≡ true)) (sym new) (
    λ live. ap (λ (x : Heard). was_heard x.live j.index bid) l.heard
        ∙ ap (λ b. was_heard (cond b (rows_at t.index l.live ++ w.state.manager.heard.live) w.state.manager.heard.live) j.index bid) dest
        ∙ subst (λ n. was_heard (rows_at t.index l.live ++ w.state.manager.heard.live) n bid ≡ true) (sym to.index) (rows_heard t.index bid l.live w.state.manager.heard.live live),
    λ marked. ap (λ (x : Heard). was_heard x.marked j.index bid) l.heard
        ∙ ap (λ b. was_heard (cond b (rows_at t.index l.marked ++ w.state.manager.heard.marked) w.state.manager.heard.marked) j.index bid) dest
        ∙ subst (λ n. was_heard (rows_at t.index l.marked ++ w.state.manager.heard.marked) n bid ≡ true) (sym to.index) (rows_heard t.index bid l.marked w.state.manager.heard.marked marked),
  )
  | inr (inr none) ↦ absurd none
]

pub dest_step : (s : Scene) (w u : World) (dests : List Listing) (j : Journey) (left : List Journey) (reply : CodeReply) → Ground s → ListsDests s w dests (j ∷ left)
    → IsDone s.origin w (events.Send (requests.List j.dest.unit j.dest.disk s.lock.number)) reply u → IsUntroubled reply → Onward s u (after_dest (work_for s) dests j left reply)
dest_step s w u dests j left reply g h done calm =
    let its = h.each j (inl refl) in
    let t = its.0 in
    let l : Listed s w u (dest_of t) reply =
    list_goes s w u j.dest.unit j.dest.disk (dest_of t) reply h.ready.stands (dest_at s t j its.2) (dest_fresh s w t g h.ready.stands its.1) (h.ready.made t its.1) done calm in
    let next = dests_on s u (with_listing dests j.index l.live l.marked) left g (record {
      ready = ready_on s w u h.ready l.stands l.made (λ i there. ap (λ (x : Heard). is_in i x.fenced) l.heard ∙ there);
      heard = dest_heard s w u t j reply dests its.2 (dest_test s w t h.ready.stands its.1) l h.heard;
      each = λ k i. h.each k (inr i);
    }) in
    subst (λ r. Onward s u (after_dest (work_for s) dests j left r)) (sym l.is)
    (subst (λ b. Onward s u (cond b (listing_dests (work_for s) (with_listing dests j.index l.live l.marked) left) (waits (why.Sick j.dest.disk)))) (sym (equal_test s.lock.number s.lock.number refl)) next)

exact_more : (s : Scene) (homes : List Home) (ls : List Listing) (home : Home) (l : Listing) → AreExact s homes ls → IsExact s home.unit.index l → AreExact s (homes ++ home ∷ []) (ls ++ l ∷ [])
exact_more s [] [] home l h k = (k, tt)
exact_more s (x ∷ homes) (y ∷ ls) home l h k = (h.0, exact_more s homes ls home l h.1 k)
exact_more s [] (y ∷ ls) home l h k = absurd h
exact_more s (x ∷ homes) [] home l h k = absurd h

-- the current unit of an index was listed anew
listed_here : (s : Scene) (m n : Manager) (i : ℕ) (shown : Shown) → n.heard.listings ≡ record { index = i; epoch = (home_at s.homes i).epoch; shown = shown } ∷ m.heard.listings
    → ((bid : ℕ) → is_in bid shown.live ≡ is_live (s.row i bid)) → ((bid : ℕ) → is_in bid shown.marked ≡ is_deleted (s.row i bid)) → IsListed s n i
listed_here s m n i shown e live marked = record {
  shown = shown;
  is = ap (λ ls. listing_at s.homes ls i) e
      ∙ ap (λ b. cond b (Some shown) (listing_of m.heard.listings i (home_at s.homes i).epoch))
      (and_both (i == i) ((home_at s.homes i).epoch == (home_at s.homes i).epoch) (equal_test i i refl) (equal_test (home_at s.homes i).epoch (home_at s.homes i).epoch refl));
  live = live;
  marked = marked;
}

-- one that was listed before still is
listed_still : (s : Scene) (m n : Manager) (i k : ℕ) (shown : Shown) → n.heard.listings ≡ record { index = i; epoch = (home_at s.homes i).epoch; shown = shown } ∷ m.heard.listings
    → ((bid : ℕ) → is_in bid shown.live ≡ is_live (s.row i bid)) → ((bid : ℕ) → is_in bid shown.marked ≡ is_deleted (s.row i bid)) → IsListed s m k → IsListed s n k
listed_still s m n i k shown e live marked was = elim (either ((i == k) && ((home_at s.homes i).epoch == (home_at s.homes k).epoch))) [
  | inl here ↦ subst (IsListed s n) (eqb-true i k (and_left (i == k) ((home_at s.homes i).epoch == (home_at s.homes k).epoch) here)) (listed_here s m n i shown e live marked)
  | inr other ↦ record {
    shown = was.shown;
    is = ap (λ ls. listing_at s.homes ls k) e ∙ ap (λ b. cond b (Some shown) (listing_of m.heard.listings k (home_at s.homes k).epoch)) other ∙ was.is;
    live = was.live;
    marked = was.marked;
  }
]

pub unit_step : (s : Scene) (w u : World) (dests heard : List Listing) (home : Home) (left : List Home) (reply : CodeReply) → Ground s → ListsUnits s w dests heard (home ∷ left)
    → IsDone s.origin w (events.Send (requests.List home.unit home.disk s.lock.number)) reply u → IsUntroubled reply → Onward s u (after_unit (work_for s) dests heard home left reply)
unit_step s w u dests heard home left reply g h done calm =
    let c = h.current.0 in
    let i = home.unit.index in
    let p = current s.homes i in
    let stands = h.ready.stands in
    let l : Listed s w u p reply = list_goes s w u home.unit home.disk p reply stands c.at (current_fresh s w i g stands c.below c.sound) (stands.made i c.below c.sound) done calm in
    let live : (bid : ℕ) → is_in bid l.live ≡ is_live (s.row i bid) = λ bid. l.shows.live bid ∙ ap is_live (stands.rows i c.below bid) in
    let marked : (bid : ℕ) → is_in bid l.marked ≡ is_deleted (s.row i bid) = λ bid. l.shows.marked bid ∙ ap is_deleted (stands.rows i c.below bid) in
    let shown : Shown = record { live = l.live; marked = l.marked } in
    let listings : u.state.manager.heard.listings ≡ record { index = i; epoch = (home_at s.homes i).epoch; shown = shown } ∷ w.state.manager.heard.listings = ap (λ (x : Heard). x.listings) l.heard in
    let next = units_on s u dests (with_listing heard i l.live l.marked) left g (record {
      ready = ready_on s w u h.ready l.stands l.made (λ k there. ap (λ (x : Heard). is_in k x.fenced) l.heard ∙ there);
      has = heard_still s w u p reply dests l h.has;
      done = h.done ++ home ∷ [];
      split = h.split ∙ sym (append_assoc h.done (home ∷ []) left);
      exact = exact_more s h.done heard home (record { index = i; live = l.live; marked = l.marked }) h.exact (record { live = live; marked = marked });
      listed = λ k below sound. elim (h.listed k below sound) [
        | inl was ↦ inl (listed_still s w.state.manager u.state.manager i k shown listings live marked was)
        | inr (x, inl here, is) ↦ inl (subst (IsListed s u.state.manager) (ap (λ (y : Home). y.unit.index) (sym here) ∙ is) (listed_here s w.state.manager u.state.manager i shown listings live marked))
        | inr (x, inr there, is) ↦ inr (x, there, is)
      ];
      current = h.current.1;
    }) in
    subst (λ r. Onward s u (after_unit (work_for s) dests heard home left r)) (sym l.is)
    (subst (λ b. Onward s u (cond b (listing_units (work_for s) dests (with_listing heard i l.live l.marked) left) (listing_units (work_for s) dests heard left))) (sym (equal_test s.lock.number s.lock.number refl)) next)

-- ---- marks and copies

settled_more : (m n : Manager) (bid index : ℕ) (due : Due) → Grows m n → is_settled m.heard bid due index ≡ true → is_settled n.heard bid due index ≡ true
settled_more m n bid index Due.Mark grows h = grows.marked index bid h
settled_more m n bid index Due.Copy grows h = elim (or_cases (was_heard m.heard.live index bid) (was_heard m.heard.marked index bid) h) [
  | inl live ↦ or_left (was_heard n.heard.live index bid) (was_heard n.heard.marked index bid) (grows.live index bid live)
  | inr marked ↦ or_right (was_heard n.heard.live index bid) (was_heard n.heard.marked index bid) (grows.marked index bid marked)
]
settled_more m n bid index Due.Left grows h = refl

listed_on : (s : Scene) (m n : Manager) → n.heard.listings ≡ m.heard.listings → AreListed s m → AreListed s n
listed_on s m n same h i below sound =
    let l = h i below sound in record { shown = l.shown; is = ap (λ ls. listing_at s.homes ls i) same ∙ l.is; live = l.live; marked = l.marked }

-- an errand is done
owes_less : (s : Scene) (w u : World) (e : Errand) (left : List Errand) (t : Transfer) → Owes s w (e ∷ left) → IsTo s t e.journey → Wrote s w u t e.bid (due_by s e.bid) → Owes s u left
owes_less s w u e left t h to wrote = record {
  ready = ready_on s w u h.ready wrote.stands wrote.made wrote.grows.fenced;
  listed = listed_on s w.state.manager u.state.manager wrote.grows.listings h.listed;
  settled = λ bid x i. elim (h.settled bid x i) [
    | inl was ↦ inl (settled_more w.state.manager u.state.manager bid x.index (due_by s bid) wrote.grows was)
    | inr (k, inl here, is, its) ↦ inl (here_settled bid x (ap (λ (y : Errand). y.bid) (sym here) ∙ is) (sym to.index ∙ ap (λ (y : Errand). y.journey.index) (sym here) ∙ its.index))
    | inr (k, inr there, is, its) ↦ inr (k, there, is, its)
  ];
  each = λ k i. h.each k (inr i);
}
  where
    here_settled : (bid : ℕ) (x : Transfer) → e.bid ≡ bid → t.index ≡ x.index → is_settled u.state.manager.heard bid (due_by s bid) x.index ≡ true
    here_settled bid x is index =
        subst (λ n. is_settled u.state.manager.heard bid (due_by s bid) n ≡ true) index (subst (λ b. is_settled u.state.manager.heard b (due_by s b) t.index ≡ true) is wrote.settled)

marked_next : (s : Scene) (known : Option KnownSize) (e : Errand) (left : List Errand) (answer : ToldAnswer) → IsMarkDone answer
    → after_copy (work_for s) (CopyStage.Marking known e left) (replies.Heard answer) ≡ copying (work_for s) (next_errand (work_for s) known left)
marked_next s known e left answers.Done h = refl
marked_next s known e left answers.Already h = refl
marked_next s known e left answer h = absurd h

copied_next : (s : Scene) (known : Option KnownSize) (e : Errand) (left : List Errand) (size : ℕ) (bytes : List ℕ) (answer : ToldAnswer) → IsCopyDone answer
    → after_copy (work_for s) (CopyStage.Writing known e left size bytes) (replies.Heard answer) ≡ copying (work_for s) (next_errand (work_for s) known left)
copied_next s known e left size bytes answers.Done h = refl
copied_next s known e left size bytes answers.Already h = refl
copied_next s known e left size bytes answers.Deleted h = refl
copied_next s known e left size bytes answer h = absurd h

mark_step : (s : Scene) (w u : World) (known : Option KnownSize) (e : Errand) (left : List Errand) (reply : CodeReply) → Ground s → CopyHolds s w (CopyStage.Marking known e left)
    → IsDone s.origin w (events.Send (requests.Mark e.journey.dest.unit e.journey.dest.disk e.bid)) reply u → IsUntroubled reply → Onward s u (after_copy (work_for s) (CopyStage.Marking known e left) reply)
mark_step s w u known e left reply g h done calm =
    let owes = h.0 in
    let it = owes.each e (inl refl) in
    let due : due_by s e.bid ≡ Due.Mark = sym it.due ∙ ap as_due h.2 in
    let stands = owes.ready.stands in
    let m : Marked s w u it.t e.bid reply =
    mark_goes s w u it.t e.bid e.journey.dest reply g stands it.there (dest_at s it.t e.journey it.to) (owes.ready.made it.t it.there) (mark_asked s w e.bid stands due) done calm in
    let next = errand_on s u known left g (owes_less s w u e left it.t owes it.to (subst (Wrote s w u it.t e.bid) (sym due) m.wrote)) h.1 in
    subst (λ r. Onward s u (after_copy (work_for s) (CopyStage.Marking known e left) r)) (sym m.is) (subst (Onward s u) (sym (marked_next s known e left m.answer m.done)) next)

write_step : (s : Scene) (w u : World) (known : Option KnownSize) (e : Errand) (left : List Errand) (size : ℕ) (bytes : List ℕ) (reply : CodeReply) → Ground s → CopyHolds s w (CopyStage.Writing known e left size bytes)
    → IsDone s.origin w (events.Send (requests.Copy e.journey.dest.unit e.journey.dest.disk e.bid size bytes)) reply u → IsUntroubled reply → Onward s u (after_copy (work_for s) (CopyStage.Writing known e left size bytes) reply)
write_step s w u known e left size bytes reply g h done calm =
    let owes = h.0 in
    let it = owes.each e (inl refl) in
    let due : due_by s e.bid ≡ Due.Copy = sym it.due ∙ ap as_due h.2 in
    let stands = owes.ready.stands in
    let m : Copied s w u it.t e.bid reply =
    copy_goes s w u it.t e.bid size bytes e.journey.dest reply g stands it.there (dest_at s it.t e.journey it.to) (owes.ready.made it.t it.there) (copy_begun s w e.bid stands due) done calm in
    let next = errand_on s u known left g (owes_less s w u e left it.t owes it.to (subst (Wrote s w u it.t e.bid) (sym due) m.wrote)) h.1 in
    subst (λ r. Onward s u (after_copy (work_for s) (CopyStage.Writing known e left size bytes) r)) (sym m.is) (subst (Onward s u) (sym (copied_next s known e left size bytes m.answer m.done)) next)

-- ---- reads

owes_on : (s : Scene) (w u : World) (es : List Errand) → Owes s w es → Standing s u → ((q : Place) → w.state.units.is_made q ≡ true → u.state.units.is_made q ≡ true) → u.state.manager ≡ w.state.manager → Owes s u es
owes_on s w u es h stands made same = record {
  ready = ready_on s w u h.ready stands made (λ i there. ap (λ (m : Manager). is_in i m.heard.fenced) same ∙ there);
  listed = listed_on s w.state.manager u.state.manager (ap (λ (m : Manager). m.heard.listings) same) h.listed;
  settled = λ bid t i. elim (h.settled bid t i) [ inl was ↦ inl (ap (λ (m : Manager). is_settled m.heard bid (due_by s bid) t.index) same ∙ was) | inr left ↦ inr left ];
  each = h.each;
}

-- a size that is known is the only one of its blob
known_agrees : (s : Scene) (known : Option KnownSize) (bid size : ℕ) → IsKnown s known → size ≡ length (s.puts.payload bid) → agrees known bid size ≡ true
known_agrees s None bid size known_is is = refl
known_agrees s (Some known) bid size known_is is = elim (either (known.bid == bid)) [
  | inl here ↦
      let same : known.size ≡ size = known_is ∙ ap (λ b. length (s.puts.payload b)) (eqb-true known.bid bid here) ∙ sym is in
      or_right (not (known.bid == bid)) (known.size == size) (equal_test known.size size same)
  | inr other ↦ ap (λ b. not b || (known.size == size)) other
]

-- the shard of a unit can be used
record CanUse (s : Scene) (known : Option KnownSize) (bid size : ℕ) (bytes : List ℕ) : Type 0 where
  usable : is_usable s.origin.mode known bid size bytes ≡ true
  long : size ≡ length (s.puts.payload bid)

can_use : (s : Scene) (known : Option KnownSize) (unit : Name) (disk bid size : ℕ) (bytes : List ℕ) → Ground s → IsKnown s known → GivesRight s.origin.mode s.puts (requests.Read unit disk bid) (answers.Live size bytes)
    → CanUse s known bid size bytes
can_use s known unit disk bid size bytes g known_is right =
    let blob = g.blobs bid right.0 in
    let long : size ≡ length (s.puts.payload bid) = ap (λ (x : PayloadShard). x.blob_size) right.1 in
    let bytes_long : length bytes ≡ shard_size s.origin.mode size = ap (λ (x : PayloadShard). length x.bytes) right.1 ∙ length-shard_of s.origin.mode (s.puts.payload bid) unit.index ∙ ap (shard_size s.origin.mode) (sym long) in
    let first = blob.some in
    let last = blob.most in
    record {
      usable = and_both (nat_le 1 size && nat_le size BLOB_LIMIT) ((length bytes == shard_size s.origin.mode size) && agrees known bid size)
          (and_both (nat_le 1 size) (nat_le size BLOB_LIMIT) (le-leb 1 size (omega (arith, long, first))) (le-leb size BLOB_LIMIT (omega (arith, long, last))))
          (and_both (length bytes == shard_size s.origin.mode size) (agrees known bid size) (equal_test (length bytes) (shard_size s.origin.mode size) bytes_long) (known_agrees s known bid size known_is long));
      long = long;
    }

old_next : (s : Scene) (u : World) (known : Option KnownSize) (e : Errand) (left : List Errand) (row : Option RowState) (answer : ToldAnswer) → Ground s → Owes s u (e ∷ left) → IsKnown s known → e.due ≡ dues.Copy
    → (is_live row ≡ false → Gathers s e.bid (nothing_gathered s.origin.mode) (others_than e.journey.index (shown_homes s))) → ReadGives s e.journey.old.unit e.journey.old.disk e.bid row answer
    → Onward s u (copying (work_for s) (after_old (work_for s) known e left (replies.Heard answer)))
old_next s u known e left row (answers.Live size bytes) g owes known_is due others gives =
    let used = can_use s known e.journey.old.unit e.journey.old.disk e.bid size bytes g known_is gives.1 in
    subst (λ b. Onward s u (copying (work_for s) (cond b (CopyNext.Asks (CopyStage.Writing (knowing e.bid size) e left size bytes)) (reading known e left (nothing_gathered s.origin.mode) (others_than e.journey.index (shown_homes s)))))) (sym used.usable)
    (record { point = Point.Copying (CopyStage.Writing (knowing e.bid size) e left size bytes); is = refl; holds = (owes, used.long, due) })
old_next s u known e left row answer g owes known_is due others gives =
    reading_on s u known e left (nothing_gathered s.origin.mode) (others_than e.journey.index (shown_homes s)) owes known_is due (others gives)

no_hold : (s : Scene) (bid i : ℕ) → is_live (s.row i bid) ≡ false → holds s bid i ≡ false
no_hold s bid i dead = ap (λ b. not (s.broken (home_at s.homes i).disk) && b) dead ∙ none (not (s.broken (home_at s.homes i).disk)) where
  none : (b : Bool) → b && false ≡ false
  none true = refl
  none false = refl

old_step : (s : Scene) (w u : World) (known : Option KnownSize) (e : Errand) (left : List Errand) (reply : CodeReply) → Ground s → CopyHolds s w (CopyStage.ReadingOld known e left)
    → IsDone s.origin w (events.Send (requests.Read e.journey.old.unit e.journey.old.disk e.bid)) reply u → IsUntroubled reply → Onward s u (after_copy (work_for s) (CopyStage.ReadingOld known e left) reply)
old_step s w u known e left reply g h done calm =
    let owes = h.0 in
    let it = owes.each e (inl refl) in
    let t = it.t in
    let due : due_by s e.bid ≡ Due.Copy = sym it.due ∙ ap as_due h.2 in
    let sound = old_unbroken s t g it.there (sym it.to.old_broken ∙ h.3) in
    let r : Read s w u e.journey.old.unit e.journey.old.disk e.bid (s.row t.index e.bid) reply =
    read_goes s w u e.journey.old.unit e.journey.old.disk e.bid t.index reply g owes.ready.stands (old_at s t e.journey g it.there it.to) (g.below t it.there) sound done calm in
    let others : is_live (s.row t.index e.bid) ≡ false → Gathers s e.bid (nothing_gathered s.origin.mode) (others_than e.journey.index (shown_homes s)) =
    λ dead. others_gather s e.bid e.journey.index (nothing_gathered s.origin.mode) g due (ap (holds s e.bid) it.to.index ∙ no_hold s e.bid t.index dead) refl in
    subst (λ x. Onward s u (after_copy (work_for s) (CopyStage.ReadingOld known e left) x)) (sym r.is)
    (old_next s u known e left (s.row t.index e.bid) r.answer g (owes_on s w u (e ∷ left) owes r.stands r.made r.heard) h.1 h.2 others r.gives)

one_most : (b : Bool) → cond {A = ℕ} b 1 0 ≤ 1
one_most true = omega arith
one_most false = omega arith

-- one shard more
gather_more : (s : Scene) (bid : ℕ) (gathered : Gathered) (home : Home) (homes : List Home) (bytes : List ℕ) → (gathered.live + 1 == data_count s.origin.mode) ≡ false → Gathers s bid gathered (home ∷ homes)
    → Gathers s bid (with_shard gathered home.unit.index bytes) homes
gather_more s bid gathered home homes bytes short h =
    let few = h.few in
    let many = h.many in
    let one = one_most (holds s bid home.unit.index) in
    let apart = eqb-false (gathered.live + 1) (data_count s.origin.mode) short in
    record { few = below few apart; many = omega (arith, many, one); current = h.current.1 }
  where
    below : gathered.live < data_count s.origin.mode → (gathered.live + 1 ≡ data_count s.origin.mode → ⊥) → gathered.live + 1 < data_count s.origin.mode
    below few apart = omega arith

gather_none : (s : Scene) (bid : ℕ) (gathered : Gathered) (home : Home) (homes : List Home) → is_live (s.row home.unit.index bid) ≡ false → Gathers s bid gathered (home ∷ homes) → Gathers s bid gathered homes
gather_none s bid gathered home homes dead h =
    let few = h.few in
    let many = h.many in
    let none : cond {A = ℕ} (holds s bid home.unit.index) 1 0 ≡ 0 = ap (λ b. cond {A = ℕ} b 1 0) (no_hold s bid home.unit.index dead) in
    record { few = few; many = omega (arith, many, none); current = h.current.1 }

other_next : (s : Scene) (u : World) (known : Option KnownSize) (e : Errand) (left : List Errand) (gathered : Gathered) (home : Home) (homes : List Home) (answer : ToldAnswer) → Ground s → Owes s u (e ∷ left) → IsKnown s known
    → e.due ≡ dues.Copy → Gathers s e.bid gathered (home ∷ homes) → ReadGives s home.unit home.disk e.bid (s.row home.unit.index e.bid) answer
    → Onward s u (copying (work_for s) (after_other (work_for s) known e left gathered home homes (replies.Heard answer)))
other_next s u known e left gathered home homes (answers.Live size bytes) g owes known_is due gathers gives =
    let used = can_use s known home.unit home.disk e.bid size bytes g known_is gives.1 in
    let more = with_shard gathered home.unit.index bytes in
    subst (λ b. Onward s u (copying (work_for s) (cond b (gathering (work_for s) e left more homes size) (reading known e left gathered homes)))) (sym used.usable) (go (gathered.live + 1 == data_count s.origin.mode) refl used.long)
  where
    go : (test : Bool) → (gathered.live + 1 == data_count s.origin.mode) ≡ test → size ≡ length (s.puts.payload e.bid)
        → Onward s u (copying (work_for s) (cond test
        (CopyNext.Asks (CopyStage.Writing (knowing e.bid size) e left size (rebuilt (data_count s.origin.mode) (with_shard gathered home.unit.index bytes).shards e.journey.index)))
        (reading (knowing e.bid size) e left (with_shard gathered home.unit.index bytes) homes)))
    go true e_test long =
        record {
          point = Point.Copying (CopyStage.Writing (knowing e.bid size) e left size (rebuilt (data_count s.origin.mode) (with_shard gathered home.unit.index bytes).shards e.journey.index));
          is = refl;
          holds = (owes, long, due);
        }
    go false short long = reading_on s u (knowing e.bid size) e left (with_shard gathered home.unit.index bytes) homes owes long due (gather_more s e.bid gathered home homes bytes short gathers)
other_next s u known e left gathered home homes answer g owes known_is due gathers gives =
    reading_on s u known e left gathered homes owes known_is due (gather_none s e.bid gathered home homes gives gathers)

other_step : (s : Scene) (w u : World) (known : Option KnownSize) (e : Errand) (left : List Errand) (gathered : Gathered) (home : Home) (homes : List Home) (reply : CodeReply) → Ground s
    → CopyHolds s w (CopyStage.ReadingOther known e left gathered home homes) → IsDone s.origin w (events.Send (requests.Read home.unit home.disk e.bid)) reply u → IsUntroubled reply
    → Onward s u (after_copy (work_for s) (CopyStage.ReadingOther known e left gathered home homes) reply)
other_step s w u known e left gathered home homes reply g h done calm =
    let owes = h.0 in
    let c = h.3.current.0 in
    let r : Read s w u home.unit home.disk e.bid (s.row home.unit.index e.bid) reply =
    read_goes s w u home.unit home.disk e.bid home.unit.index reply g owes.ready.stands c.at c.below c.sound done calm in
    subst (λ x. Onward s u (after_copy (work_for s) (CopyStage.ReadingOther known e left gathered home homes) x)) (sym r.is)
    (other_next s u known e left gathered home homes r.answer g (owes_on s w u (e ∷ left) owes r.stands r.made r.heard) h.1 h.2 h.3 r.gives)

pub copy_step : (s : Scene) (w u : World) (copy : CopyStage) (reply : CodeReply) → Ground s → CopyHolds s w copy → IsDone s.origin w (events.Send (copy_asks copy)) reply u → IsUntroubled reply
    → Onward s u (after_copy (work_for s) copy reply)
copy_step s w u (CopyStage.Marking known e left) reply g h done calm = mark_step s w u known e left reply g h done calm
copy_step s w u (CopyStage.ReadingOld known e left) reply g h done calm = old_step s w u known e left reply g h done calm
copy_step s w u (CopyStage.ReadingOther known e left gathered home homes) reply g h done calm = other_step s w u known e left gathered home homes reply g h done calm
copy_step s w u (CopyStage.Writing known e left size bytes) reply g h done calm = write_step s w u known e left size bytes reply g h done calm
