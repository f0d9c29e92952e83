-- What the tests of a swap say of its record: enough is listed, so every blob that must be at a destination is.
use Rattle.std.proofs.Common.{◌≡◌, ℕ, ◌≤◌, ◌⊎◌, inl, inr, Bool, true, false, List, [], ◌∷◌, Option, Some, None, refl, ◌∙◌, ap, subst, cond, arith}
use Rattle.std.specs.Prelude.{◌&&◌, ◌||◌, ◌==◌, not, nat_le, is_some}
use Rattle.std.proofs.lemmas.Bool.{eqb-true, le-leb}
use Rattle.unit_id.specs.Lists.{IsIn, any, is_in, count_below, some_below}
use Rattle.unit_id.specs.Place.{Location, Place, at_home}
use Rattle.code_mode.specs.VolumeShape.{VolumeShape, IsVolumeShape}
use Rattle.unit_id.specs.Shown.{Shown}
use Rattle.unit_id.specs.Request.{Request, Answer}
use Rattle.blob_node.specs.Units.{RowState, has_row, is_deleted, is_live}
use Rattle.volume_entry.specs.Manager.{Transfer, HeardListing, ManagerRecord, home_at, current, transfers_of, is_swapped, has_number}
use Rattle.volume_entry.specs.Benchmark.{Due, listing_of, listing_at, shows_live, shows_marked, is_listed, is_listed_live, is_listed_marked, listed_count, benchmark_of, was_heard, is_settled}
use Rattle.volume_entry.specs.ManagerStep.{has_unheard, AreAllSettled}
use Rattle.volume_world.specs.State.{State}
use Rattle.volume_world.specs.BlobStatus.{is_begun}
use Rattle.volume_world.specs.Blind.{listing_given, lists_without, hides_live, hides_mark, is_blind_live, is_blind_mark}
use Rattle.volume_world.specs.Durability.{IsHeld}
use Rattle.volume_world.specs.Invariant.{Kept}
use Rattle.unit_id.proofs.Bools.{and_left, and_right, and_both, or_right, or_cases, true_not, contrary, equal_test, either}
use Rattle.unit_id.proofs.Counts.{count_either, none_counted, counted_some}
use Rattle.unit_id.proofs.Membership.{gives_any, none_passes}
use Rattle.unit_id.proofs.Places.{same_place}
use Rattle.volume_world.proofs.BeginEnd.{row_lives}
use Rattle.volume_world.proofs.Doubt.{MayBeDoubted}

-- the listing that was found was heard of that unit
listing_gives : (ls : List HeardListing) (i e : ℕ) (shown : Shown) → listing_of ls i e ≡ Some shown → (l : HeardListing) × IsIn l ls × (l.index ≡ i) × (l.epoch ≡ e) × (l.shown ≡ shown)
listing_gives [] i e shown h = cc
listing_gives (l ∷ ls) i e shown h = go ((l.index == i) && (l.epoch == e)) refl h (listing_gives ls i e shown) where
  go : (test : Bool) → (l.index == i) && (l.epoch == e) ≡ test → cond test (Some l.shown) (listing_of ls i e) ≡ Some shown
      → (listing_of ls i e ≡ Some shown → (l : HeardListing) × IsIn l ls × (l.index ≡ i) × (l.epoch ≡ e) × (l.shown ≡ shown))
      → (m : HeardListing) × IsIn m (l ∷ ls) × (m.index ≡ i) × (m.epoch ≡ e) × (m.shown ≡ shown)
  go true t k rest = (l, inl refl, eqb-true l.index i (and_left (l.index == i) (l.epoch == e) t), eqb-true l.epoch e (and_right (l.index == i) (l.epoch == e) t), cc)
  go false t k rest = let r = rest k in (r.0, inr r.1, r.2, r.3, r.4)

-- the listing of an index that was heard was given by the current unit under the lock
pub record IsGivenBy (s : State) (i : ℕ) (shown : Shown) : Type 0 where
  pub place : Place
  pub number : ℕ
  pub said : ℕ
  pub index : place.index ≡ i
  pub epoch : place.epoch ≡ (home_at s.manager.homes i).epoch
  pub under : has_number s.manager.lock number ≡ true
  pub given : IsIn (record { request = Request.List place number; answer = Answer.Listing said shown }) s.post.given

module _ (shape : VolumeShape) (good : IsVolumeShape shape) (s : State) (k : Kept shape s) (locked : is_some s.manager.lock ≡ true) (unswapped : is_swapped s.manager.lock ≡ false) where
  given_by : (i : ℕ) (shown : Shown) → listing_at s.manager.homes s.manager.heard.listings i ≡ Some shown → IsGivenBy s i shown
  given_by i shown h =
      let found = listing_gives s.manager.heard.listings i (home_at s.manager.homes i).epoch shown h in
      let was = k.sight.listings_given locked unswapped found.0 found.1 in
      record {
        place = was.place;
        number = was.number;
        said = was.said;
        index = was.index ∙ found.2;
        epoch = was.epoch ∙ found.3;
        under = was.under;
        given = subst (λ x. IsIn (record { request = Request.List was.place was.number; answer = Answer.Listing was.said x }) s.post.given) found.4 was.given;
      }

  -- the unit's listing under the lock, as the blind sets see it
  seen_given : (i : ℕ) (shown : Shown) (by : IsGivenBy s i shown)
      → listing_given s.manager.lock (current s.manager.homes i) (Request.List by.place by.number) (Answer.Listing by.said shown) ≡ Some shown
  seen_given i shown by = ap (λ test. cond test (Some shown) None) (and_both (has_number s.manager.lock by.number) ((by.place.index == i) && (by.place.epoch == (home_at s.manager.homes i).epoch)) by.under
      (and_both (by.place.index == i) (by.place.epoch == (home_at s.manager.homes i).epoch) (equal_test by.place.index i by.index) (equal_test by.place.epoch (home_at s.manager.homes i).epoch by.epoch)))

  -- a listed unit shows a blob live, or is blind to it
  live_or_blind : (b i : ℕ) → is_listed s.manager.homes s.broken s.manager.heard.listings i ≡ true
      → (is_blind_live s.manager.lock s.manager.homes s.broken s.units.row s.post.given b i ≡ true) ⊎ (is_listed_live s.manager.homes s.broken s.manager.heard.listings b i ≡ true)
  live_or_blind b i h = go (listing_at s.manager.homes s.manager.heard.listings i) refl
      (and_left (not (s.broken (home_at s.manager.homes i).disk)) (is_some (listing_at s.manager.homes s.manager.heard.listings i)) h)
      (and_right (not (s.broken (home_at s.manager.homes i).disk)) (is_some (listing_at s.manager.homes s.manager.heard.listings i)) h) where
        go : (found : Option Shown) → listing_at s.manager.homes s.manager.heard.listings i ≡ found → not (s.broken (home_at s.manager.homes i).disk) ≡ true → is_some found ≡ true
            → (is_blind_live s.manager.lock s.manager.homes s.broken s.units.row s.post.given b i ≡ true) ⊎ (not (s.broken (home_at s.manager.homes i).disk) && shows_live (listing_at s.manager.homes s.manager.heard.listings i) b ≡ true)
        go None e u f = cc
        go (Some shown) e u f = elim (either (is_in b shown.live)) [
          | inl live ↦ inr (and_both (not (s.broken (home_at s.manager.homes i).disk)) (shows_live (listing_at s.manager.homes s.manager.heard.listings i) b) u (ap (λ x. shows_live x b) e ∙ live))
          | inr hidden ↦ inl (and_both (not (s.broken (home_at s.manager.homes i).disk)) (not (is_live (s.units.row (current s.manager.homes i) b)) || any (hides_live s.manager.lock (current s.manager.homes i) b) s.post.given) u
              (or_right (not (is_live (s.units.row (current s.manager.homes i) b))) (any (hides_live s.manager.lock (current s.manager.homes i) b) s.post.given)
              (let by = given_by i shown e in
              gives_any (hides_live s.manager.lock (current s.manager.homes i) b) s.post.given (record { request = Request.List by.place by.number; answer = Answer.Listing by.said shown }) by.given
              (ap (λ x. lists_without x (shows_live x b)) (seen_given i shown by) ∙ true_not (is_in b shown.live) hidden))))
        ]

  mark_or_blind : (b i : ℕ) → is_listed s.manager.homes s.broken s.manager.heard.listings i ≡ true
      → (is_blind_mark s.manager.lock s.manager.homes s.broken s.units.row s.post.given b i ≡ true) ⊎ (is_listed_marked s.manager.homes s.broken s.manager.heard.listings b i ≡ true)
  mark_or_blind b i h = go (listing_at s.manager.homes s.manager.heard.listings i) refl
      (and_left (not (s.broken (home_at s.manager.homes i).disk)) (is_some (listing_at s.manager.homes s.manager.heard.listings i)) h)
      (and_right (not (s.broken (home_at s.manager.homes i).disk)) (is_some (listing_at s.manager.homes s.manager.heard.listings i)) h) where
        go : (found : Option Shown) → listing_at s.manager.homes s.manager.heard.listings i ≡ found → not (s.broken (home_at s.manager.homes i).disk) ≡ true → is_some found ≡ true
            → (is_blind_mark s.manager.lock s.manager.homes s.broken s.units.row s.post.given b i ≡ true) ⊎ (not (s.broken (home_at s.manager.homes i).disk) && shows_marked (listing_at s.manager.homes s.manager.heard.listings i) b ≡ true)
        go None e u f = cc
        go (Some shown) e u f = elim (either (is_in b shown.marked)) [
          | inl marked ↦ inr (and_both (not (s.broken (home_at s.manager.homes i).disk)) (shows_marked (listing_at s.manager.homes s.manager.heard.listings i) b) u (ap (λ x. shows_marked x b) e ∙ marked))
          | inr hidden ↦ inl (and_both (not (s.broken (home_at s.manager.homes i).disk)) (not (is_deleted (s.units.row (current s.manager.homes i) b)) || any (hides_mark s.manager.lock (current s.manager.homes i) b) s.post.given) u
              (or_right (not (is_deleted (s.units.row (current s.manager.homes i) b))) (any (hides_mark s.manager.lock (current s.manager.homes i) b) s.post.given)
              (let by = given_by i shown e in
              gives_any (hides_mark s.manager.lock (current s.manager.homes i) b) s.post.given (record { request = Request.List by.place by.number; answer = Answer.Listing by.said shown }) by.given
              (ap (λ x. lists_without x (shows_marked x b)) (seen_given i shown by) ∙ true_not (is_in b shown.marked) hidden))))
        ]

  -- no listing shows a mark of a blob that isn't asked
  none_marked : (b : ℕ) → is_in b s.manager.asked ≡ false → some_below shape.total (is_listed_marked s.manager.homes s.broken s.manager.heard.listings b) ≡ false
  none_marked b unasked = none_counted shape.total (is_listed_marked s.manager.homes s.broken s.manager.heard.listings b) (λ i below h.
      go i (listing_at s.manager.homes s.manager.heard.listings i) refl (and_right (not (s.broken (home_at s.manager.homes i).disk)) (shows_marked (listing_at s.manager.homes s.manager.heard.listings i) b) h)) where
        go : (i : ℕ) (found : Option Shown) → listing_at s.manager.homes s.manager.heard.listings i ≡ found → shows_marked found b ≡ true → ⊥
        go i None e h = cc
        go i (Some shown) e h = let by = given_by i shown e in
            let right = k.provenance.answers (record { request = Request.List by.place by.number; answer = Answer.Listing by.said shown }) by.given in
            contrary (is_in b s.manager.asked) (right.marked_asked b h) unasked

  module _ (enough : shape.sight ≤ listed_count shape.total s.manager.homes s.broken s.manager.heard.listings) where
    -- a held blob gets a copy
    gets_copy : (b : ℕ) → IsHeld s.puts.status s.manager.asked b → benchmark_of shape s.manager.homes s.broken s.manager.heard.listings b ≡ Due.Copy
    gets_copy b held =
        let counted = count_either shape.total (is_listed s.manager.homes s.broken s.manager.heard.listings) (is_blind_live s.manager.lock s.manager.homes s.broken s.units.row s.post.given b)
        (is_listed_live s.manager.homes s.broken s.manager.heard.listings b) (λ i below. live_or_blind b i) in
        let few = k.sight.few_blind_live locked unswapped b held in
        let many : shape.data_count ≤ count_below shape.total (is_listed_live s.manager.homes s.broken s.manager.heard.listings b) = omega (arith, counted, few, enough, good.overlap) in
        ap (λ test. cond test Due.Mark (cond (nat_le shape.data_count (count_below shape.total (is_listed_live s.manager.homes s.broken s.manager.heard.listings b))) Due.Copy Due.Left)) (none_marked b held.unasked)
        ∙ ap (λ test. cond test Due.Copy Due.Left) (le-leb shape.data_count (count_below shape.total (is_listed_live s.manager.homes s.broken s.manager.heard.listings b)) many)

    -- a committed delete gets a mark
    gets_mark : (b : ℕ) → is_in b s.manager.committed ≡ true → benchmark_of shape s.manager.homes s.broken s.manager.heard.listings b ≡ Due.Mark
    gets_mark b committed =
        let counted = count_either shape.total (is_listed s.manager.homes s.broken s.manager.heard.listings) (is_blind_mark s.manager.lock s.manager.homes s.broken s.units.row s.post.given b)
        (is_listed_marked s.manager.homes s.broken s.manager.heard.listings b) (λ i below. mark_or_blind b i) in
        let few = k.sight.few_blind_mark locked unswapped b committed in
        let one : 1 ≤ count_below shape.total (is_listed_marked s.manager.homes s.broken s.manager.heard.listings b) = omega (arith, counted, few, enough, good.beyond) in
        ap (λ test. cond test Due.Mark (cond (nat_le shape.data_count (count_below shape.total (is_listed_live s.manager.homes s.broken s.manager.heard.listings b))) Due.Copy Due.Left))
        (counted_some shape.total (is_listed_marked s.manager.homes s.broken s.manager.heard.listings b) one)

    module _ (all_settled : AreAllSettled shape s.broken s.manager) where
      settled_at : (b : ℕ) (due : Due) → benchmark_of shape s.manager.homes s.broken s.manager.heard.listings b ≡ due → (t : Transfer) → IsIn t (transfers_of s.manager.lock) → is_settled s.manager.heard b due t.index ≡ true
      settled_at b due e t i = subst (λ d. is_settled s.manager.heard b d t.index ≡ true) e
          (not_not (is_settled s.manager.heard b (benchmark_of shape s.manager.homes s.broken s.manager.heard.listings b) t.index)
          (none_passes (λ u. not (is_settled s.manager.heard b (benchmark_of shape s.manager.homes s.broken s.manager.heard.listings b) u.index)) (transfers_of s.manager.lock) (all_settled b) t i)) where
            not_not : (a : Bool) → not a ≡ false → a ≡ true
            not_not true h = refl
            not_not false h = cc

      pub acked_there : (t : Transfer) → IsIn t (transfers_of s.manager.lock) → (b : ℕ) → IsHeld s.puts.status s.manager.asked b → is_live (s.units.row (at_home t.index t.dest) b) ≡ true
      acked_there t i b held = lives (or_cases (was_heard s.manager.heard.live t.index b) (was_heard s.manager.heard.marked t.index b) (settled_at b Due.Copy (gets_copy b held) t i)) where
        row_stands : has_row (s.units.row (at_home t.index t.dest) b) ≡ true → is_live (s.units.row (at_home t.index t.dest) b) ≡ true
        row_stands = row_lives (is_begun (s.puts.status b)) (is_in b s.manager.asked) (is_in b s.manager.committed) (s.units.row (at_home t.index t.dest) b) (k.authority.requests.committed_asked b) held.unasked
            (k.provenance.rows (at_home t.index t.dest) b)

        deleted_has_row : (row : Option RowState) → is_deleted row ≡ true → has_row row ≡ true
        deleted_has_row None h = h
        deleted_has_row (Some row) h = refl

        lives : (was_heard s.manager.heard.live t.index b ≡ true) ⊎ (was_heard s.manager.heard.marked t.index b ≡ true) → is_live (s.units.row (at_home t.index t.dest) b) ≡ true
        lives (inl live) = row_stands (k.sight.live_rows_stand unswapped t b i live)
        lives (inr marked) = row_stands (deleted_has_row (s.units.row (at_home t.index t.dest) b) (k.sight.marked_rows_stand unswapped t b i marked))

      pub committed_there : (t : Transfer) → IsIn t (transfers_of s.manager.lock) → (b : ℕ) → is_in b s.manager.committed ≡ true → is_deleted (s.units.row (at_home t.index t.dest) b) ≡ true
      committed_there t i b committed = k.sight.marked_rows_stand unswapped t b i (settled_at b Due.Mark (gets_mark b committed) t i)

  -- an old unit that was heard to be fenced is
  fenced_there : (t : Transfer) → IsIn t (transfers_of s.manager.lock) → is_in t.index s.manager.heard.fenced ≡ true → is_some (s.units.fence (at_home t.index t.old)) ≡ true
  fenced_there t i h =
      let was = k.authority.hearing.fenced_given t i h in
      let home : home_at s.manager.homes t.index ≡ t.old = k.support.locks.old_units_current unswapped t i in
      elim (k.provenance.answers (record { request = Request.Fence was.place was.number; answer = Answer.Done }) was.given) [
        | inl released ↦
            let below = k.authority.releases.released_below was.place released in
            let e = ap (λ n. (home_at s.manager.homes n).epoch) was.index in
            let f = ap (λ (x : Location). x.epoch) home in
            absurd (omega (arith, below, e, f, was.epoch))
        | inr fenced ↦
            let has : is_some (s.units.fence was.place) ≡ true = ap is_some fenced in
            let at : was.place ≡ at_home t.index t.old = same_place was.place (at_home t.index t.old) was.index was.epoch
            (k.placement.old_at_home was.place t (fence_made was.place has (s.units.is_made was.place) refl) i was.index was.epoch) in
            subst (λ p. is_some (s.units.fence p) ≡ true) at has
      ] where
        fence_made : (p : Place) → is_some (s.units.fence p) ≡ true → (test : Bool) → s.units.is_made p ≡ test → test ≡ true
        fence_made p f true e = refl
        fence_made p f false e = absurd (contrary (is_some (s.units.fence p)) f (ap is_some (k.form.units.unmade_has_no_fence p e)))

  fenced_or_broken : has_unheard s.broken (transfers_of s.manager.lock) s.manager.heard.fenced ≡ false → (t : Transfer) → IsIn t (transfers_of s.manager.lock)
      → (s.broken t.old.disk ≡ true) ⊎ (is_some (s.units.fence (at_home t.index t.old)) ≡ true)
  fenced_or_broken h t i = go (is_in t.index s.manager.heard.fenced) (s.broken t.old.disk) refl refl
      (none_passes (λ u. not (is_in u.index s.manager.heard.fenced) && not (s.broken u.old.disk)) (transfers_of s.manager.lock) h t i) where
        go : (f u : Bool) → is_in t.index s.manager.heard.fenced ≡ f → s.broken t.old.disk ≡ u → not f && not u ≡ false → (s.broken t.old.disk ≡ true) ⊎ (is_some (s.units.fence (at_home t.index t.old)) ≡ true)
        go true u e g x = inr (fenced_there t i e)
        go false true e g x = inl g
        go false false e g x = cc

  -- a swap may be left in doubt once its tests pass
  pub swap_doubted : has_unheard s.broken (transfers_of s.manager.lock) s.manager.heard.fenced ≡ false
      → shape.sight ≤ listed_count shape.total s.manager.homes s.broken s.manager.heard.listings → AreAllSettled shape s.broken s.manager → MayBeDoubted shape s ManagerRecord.Swapped
  swap_doubted heard enough all_settled = record {
    sound = (locked, unswapped, fenced_or_broken heard);
    bare = λ b e. cc;
    unlocked = λ b e. cc;
    acked = λ e. acked_there enough all_settled;
    committed = λ e. committed_there enough all_settled;
    term = λ end e. cc;
    begun = λ b e. cc;
  }
