-- A lock keeps what is kept: its tests, and its record found written.
use Rattle.std.proofs.Common.{◌≡◌, ℕ, ◌<◌, ◌≤◌, inl, inr, Bool, true, false, List, [], length, Option, Some, None, refl, sym, ◌∙◌, ap, subst, cond, arith}
use Rattle.std.specs.Prelude.{◌&&◌, ◌||◌, ◌==◌, not}
use Rattle.std.proofs.lemmas.Bool.{eqb-true}
use Rattle.unit_id.specs.Lists.{IsIn, any}
use Rattle.unit_id.specs.Place.{Location, Place}
use Rattle.code_mode.specs.VolumeShape.{VolumeShape, last_epoch}
use Rattle.unit_id.specs.Request.{Request, Answer, Given}
use Rattle.blob_node.specs.Units.{is_deleted, is_live}
use Rattle.volume_entry.specs.Manager.{Transfer, Lock, Grant, ManagerRecord, home_at, greatest_at, current, transfers_of, is_swapped, has_number, is_destination, is_old, is_destination_there, raised, transfers_to, IsLegalLock, settled, written}
use Rattle.volume_world.specs.State.{State}
use Rattle.volume_world.specs.BlobStatus.{lacks, is_bare}
use Rattle.volume_world.specs.Blind.{listing_given, lists_without, hides_live, hides_mark, is_blind_live, is_blind_mark}
use Rattle.volume_entry.specs.Benchmark.{shows_live, shows_marked}
use Rattle.volume_world.specs.Placement.{Placement}
use Rattle.volume_world.specs.Authority.{PlacementWith, IsLicensed}
use Rattle.volume_world.specs.Fencing.{IsFenceOf}
use Rattle.volume_world.specs.Invariant.{Kept}
use Rattle.unit_id.proofs.Bools.{and_left, contrary}
use Rattle.unit_id.proofs.Counts.{count_more}
use Rattle.unit_id.proofs.Membership.{any_gives}
use Rattle.volume_entry.proofs.Raised.{epoch_cases, raised_length, transfer_gives, one_grant}
use Rattle.volume_world.proofs.Doubt.{doubting}

-- the lock that is granted
abbrev pub lock_of : ℕ → ℕ → List Grant → List Location → Lock
lock_of task number grants homes = record { task = task; number = number; transfers = transfers_to grants homes; is_swapped = false }

none_of : (A : Type 0) (lock : Option Lock) (test : List Transfer → Bool) → lock ≡ None → test [] ≡ false → test (transfers_of lock) ≡ true → A
none_of A lock test unlocked e h = absurd (contrary (test (transfers_of lock)) h (ap (λ l. test (transfers_of l)) unlocked ∙ e))

-- placement once a legal lock is written
module _ (shape : VolumeShape) (homes : List Location) (greatest : List ℕ) (lease_end granted : ℕ) (lock : Option Lock) (broken : ℕ → Bool) (is_made : Place → Bool) (task number : ℕ) (grants : List Grant)
    (homes_count : length homes ≡ shape.total) (greatest_count : length greatest ≡ shape.total)
    (legal : IsLegalLock shape homes greatest lease_end granted lock number grants) where
  -- a grant's epoch is the greatest
  grant_greatest : (u : Grant) → IsIn u grants → greatest_at (raised 0 grants greatest) u.index ≡ u.dest.epoch
  grant_greatest u i = elim (epoch_cases grants greatest u.index (let b = (legal.homes u i).index in omega (arith, b, greatest_count))) [
    | inl found ↦ found.3 ∙ ap (λ (t : Grant). t.dest.epoch) (one_grant grants legal.order found.0 u found.1 i found.2)
    | inr left ↦ absurd (left.1 u i refl)
  ]

  pub epochs_rise : (i : ℕ) → i < shape.total → greatest_at greatest i ≤ greatest_at (raised 0 grants greatest) i
  epochs_rise i below = elim (epoch_cases grants greatest i (omega (arith, below, greatest_count))) [
    | inl found ↦ go found.0 found.1 found.2 found.3
    | inr left ↦ let e = left.0 in omega (arith, e)
  ] where
    go : (u : Grant) → IsIn u grants → u.index ≡ i → greatest_at (raised 0 grants greatest) i ≡ u.dest.epoch → greatest_at greatest i ≤ greatest_at (raised 0 grants greatest) i
    go u h e f = let n = (legal.homes u h).epoch in let g = ap (greatest_at greatest) e in omega (arith, n, g, f)

  pub epochs_within : ((i : ℕ) → i < shape.total → greatest_at greatest i ≤ last_epoch) → (i : ℕ) → i < shape.total → greatest_at (raised 0 grants greatest) i ≤ last_epoch
  epochs_within within i below = elim (epoch_cases grants greatest i (omega (arith, below, greatest_count))) [
    | inl found ↦ let l = (legal.homes found.0 found.1).last in let f = found.3 in omega (arith, l, f)
    | inr left ↦ let e = left.0 in let w = within i below in omega (arith, e, w)
  ]

  pub placement_locked : Placement shape.total homes greatest lock broken is_made → PlacementWith shape.total homes greatest (Some (lock_of task number grants homes)) broken is_made grants
  placement_locked k = record {
    made_index = k.made_index;
    one_disk = k.one_disk;
    current_at_home = k.current_at_home;
    destination_at_home = λ p t m i e f. absurd (too_new p t m e f (transfer_gives grants homes t i));
    old_at_home = λ p t m i e f. at_old p t m e f (transfer_gives grants homes t i);
    homes_apart = k.homes_apart;
    destinations_free = λ w t i j below e. free t j below e (transfer_gives grants homes t i);
    destinations_apart = λ w t u i j e. apart t u e (transfer_gives grants homes t i) (transfer_gives grants homes u j);
    made_given = λ p m. let a = k.made_given p m in let b = epochs_rise p.index (k.made_index p m) in omega (arith, a, b);
    current_given = λ i below. let a = k.current_given i below in let b = epochs_rise i below in omega (arith, a, b);
    destination_given = λ t i. given t (transfer_gives grants homes t i);
    above_current = λ p m h. elim (k.above_current p m h) [
      | inl b ↦ inl b
      | inr d ↦ none_of _ lock (λ ts. is_destination ts p) legal.unlocked refl d
    ];
    old_disk_left = λ w. cc;
    old_disk_newest = λ w. cc;
  } where
    Found : Transfer → Type 0
    Found t = (u : Grant) × IsIn u grants × (t ≡ record { index = u.index; old = home_at homes u.index; dest = u.dest })

    too_new : (p : Place) (t : Transfer) → is_made p ≡ true → p.index ≡ t.index → p.epoch ≡ t.dest.epoch
        → ((u : Grant) × IsIn u grants × (t ≡ record { index = u.index; old = home_at homes u.index; dest = u.dest })) → ⊥
    too_new p t m e f found =
        let a = k.made_given p m in
        let n = (legal.homes found.0 found.1).epoch in
        let g = ap (λ (x : Transfer). x.dest.epoch) found.2 in
        let h = ap (greatest_at greatest) (e ∙ ap (λ (x : Transfer). x.index) found.2) in
        omega (arith, a, n, g, h, f)

    at_old : (p : Place) (t : Transfer) → is_made p ≡ true → p.index ≡ t.index → p.epoch ≡ t.old.epoch
        → ((u : Grant) × IsIn u grants × (t ≡ record { index = u.index; old = home_at homes u.index; dest = u.dest })) → p.disk ≡ t.old.disk
    at_old p t m e f found =
        let old : t.old ≡ home_at homes p.index = ap (λ (x : Transfer). x.old) found.2 ∙ ap (home_at homes) (sym (e ∙ ap (λ (x : Transfer). x.index) found.2)) in
        k.current_at_home p m (f ∙ ap (λ (h : Location). h.epoch) old) ∙ ap (λ (h : Location). h.disk) (sym old)

    free : (t : Transfer) (j : ℕ) → j < shape.total → (home_at homes j).disk ≡ t.dest.disk
        → ((u : Grant) × IsIn u grants × (t ≡ record { index = u.index; old = home_at homes u.index; dest = u.dest })) → ⊥
    free t j below e found = (legal.homes found.0 found.1).free j (omega (arith, below, homes_count)) (e ∙ ap (λ (x : Transfer). x.dest.disk) found.2)

    apart : (t u : Transfer) → t.dest.disk ≡ u.dest.disk
        → ((v : Grant) × IsIn v grants × (t ≡ record { index = v.index; old = home_at homes v.index; dest = v.dest }))
        → ((v : Grant) × IsIn v grants × (u ≡ record { index = v.index; old = home_at homes v.index; dest = v.dest })) → t.index ≡ u.index
    apart t u e x y = ap (λ (z : Transfer). z.index) x.2
        ∙ legal.apart x.0 y.0 x.1 y.1 (ap (λ (z : Transfer). z.dest.disk) (sym x.2) ∙ e ∙ ap (λ (z : Transfer). z.dest.disk) y.2) ∙ ap (λ (z : Transfer). z.index) (sym y.2)

    given : (t : Transfer) → ((u : Grant) × IsIn u grants × (t ≡ record { index = u.index; old = home_at homes u.index; dest = u.dest })) → t.dest.epoch ≤ greatest_at (raised 0 grants greatest) t.index
    given t found =
        let g = grant_greatest found.0 found.1 in
        let e = ap (λ (x : Transfer). x.dest.epoch) found.2 in
        let f = ap (λ (x : Transfer). greatest_at (raised 0 grants greatest) x.index) found.2 in
        omega (arith, g, e, f)

-- a listing that counts under a lock was asked for under its number
hides_by_number : (lock : Option Lock) (place : Place) (r : Request) (a : Answer) (is_shown : Bool) → lists_without (listing_given lock place r a) is_shown ≡ true
    → (p : Place) × (n : ℕ) × (r ≡ Request.List p n) × (has_number lock n ≡ true)
hides_by_number lock place (Request.List to n) (Answer.Listing said shown) is_shown h =
    (to, n, refl, and_left (has_number lock n) ((to.index == place.index) && (to.epoch == place.epoch)) (go (has_number lock n && ((to.index == place.index) && (to.epoch == place.epoch))) h)) where
      go : (test : Bool) → lists_without (cond test (Some shown) None) is_shown ≡ true → test ≡ true
      go true h = refl
      go false h = cc
hides_by_number lock place r a is_shown h = cc

module _ (shape : VolumeShape) (s : State) (task number : ℕ) (grants : List Grant) (k : Kept shape (doubting s (ManagerRecord.Locked task number grants))) where
  legal : IsLegalLock shape s.manager.homes s.manager.greatest s.manager.lease_end s.manager.granted s.manager.lock number grants
  legal = k.authority.doubt_sound.0

  new_lock : Option Lock
  new_lock = Some (lock_of task number grants s.manager.homes)

  -- nobody was listed under the new number yet
  none_hides : (place : Place) (b : ℕ) (g : Given) (is_shown : Bool) → IsIn g s.post.given
      → lists_without (listing_given (Some (lock_of task number grants s.manager.homes)) place g.request g.answer) is_shown ≡ true → ⊥
  none_hides place b g is_shown i h =
      let found = hides_by_number (Some (lock_of task number grants s.manager.homes)) place g.request g.answer is_shown h in
      let issued = k.authority.requests.issued g.request (k.support.post.given_were_issued g i) in
      let n : found.1 ≤ s.manager.granted = subst (IsLicensed shape.total s.manager.homes s.manager.lock s.manager.granted s.manager.asked s.manager.committed s.puts.status s.broken s.units.is_made) found.2 issued in
      let e = eqb-true number found.1 found.3 in
      let next = legal.next in
      omega (arith, n, e, next)

  blind_lacks : (b i : ℕ) → is_blind_live (Some (lock_of task number grants s.manager.homes)) s.manager.homes s.broken s.units.row s.post.given b i ≡ true → lacks s.manager.homes s.broken s.units.row b i ≡ true
  blind_lacks b i h = go (not (s.broken (home_at s.manager.homes i).disk)) (not (is_live (s.units.row (current s.manager.homes i) b)))
      (any (hides_live (Some (lock_of task number grants s.manager.homes)) (current s.manager.homes i) b) s.post.given) (λ x.
      let found = any_gives (hides_live (Some (lock_of task number grants s.manager.homes)) (current s.manager.homes i) b) s.post.given x in
      none_hides (current s.manager.homes i) b found.0 (shows_live (listing_given (Some (lock_of task number grants s.manager.homes)) (current s.manager.homes i) found.0.request found.0.answer) b) found.1 found.2) h where
        go : (u l x : Bool) → (x ≡ true → ⊥) → u && (l || x) ≡ true → u && l ≡ true
        go false l x f h = h
        go true true x f h = refl
        go true false x f h = absurd (f h)

  blind_bare : (b i : ℕ) → is_blind_mark (Some (lock_of task number grants s.manager.homes)) s.manager.homes s.broken s.units.row s.post.given b i ≡ true → is_bare s.manager.homes s.broken s.units.row b i ≡ true
  blind_bare b i h = go (not (s.broken (home_at s.manager.homes i).disk)) (not (is_deleted (s.units.row (current s.manager.homes i) b)))
      (any (hides_mark (Some (lock_of task number grants s.manager.homes)) (current s.manager.homes i) b) s.post.given) (λ x.
      let found = any_gives (hides_mark (Some (lock_of task number grants s.manager.homes)) (current s.manager.homes i) b) s.post.given x in
      none_hides (current s.manager.homes i) b found.0 (shows_marked (listing_given (Some (lock_of task number grants s.manager.homes)) (current s.manager.homes i) found.0.request found.0.answer) b) found.1 found.2) h where
        go : (u l x : Bool) → (x ≡ true → ⊥) → u && (l || x) ≡ true → u && l ≡ true
        go false l x f h = h
        go true true x f h = refl
        go true false x f h = absurd (f h)

  fence_below : (p : Place) (n : ℕ) → IsFenceOf s.manager.lock s.manager.homes p n → IsFenceOf (Some (lock_of task number grants s.manager.homes)) s.manager.homes p n
  fence_below p n (inl old) = none_of _ s.manager.lock (λ ts. is_old ts p) legal.unlocked refl old.0
  fence_below p n (inr below) = inr below

  license : (r : Request) → IsLicensed shape.total s.manager.homes s.manager.lock s.manager.granted s.manager.asked s.manager.committed s.puts.status s.broken s.units.is_made r
      → IsLicensed shape.total s.manager.homes (Some (lock_of task number grants s.manager.homes)) number s.manager.asked s.manager.committed s.puts.status s.broken s.units.is_made r
  license (Request.Create p) (inl broken) = inl broken
  license (Request.Create p) (inr (inl made)) = inr (inl made)
  license (Request.Create p) (inr (inr (inl here))) = inr (inr (inl here))
  license (Request.Create p) (inr (inr (inr dest))) = none_of _ s.manager.lock (λ ts. is_destination_there ts p) legal.unlocked refl dest
  license (Request.List p n) h = let next = legal.next in omega (arith, h, next)
  license (Request.Put p b) h = h
  license (Request.Release p) h = h
  license (Request.Fence p n) h = h
  license (Request.Read p b) h = h
  license (Request.Copy p b) h = h
  license (Request.Mark p b) h = h
  license (Request.Free p b) h = h

  -- a transfer's home and epochs
  from_home : (t : Transfer) → IsIn t (transfers_to grants s.manager.homes) → home_at s.manager.homes t.index ≡ t.old
  from_home t i = let found = transfer_gives grants s.manager.homes t i in
      ap (λ (x : Transfer). home_at s.manager.homes x.index) found.2 ∙ ap (λ (x : Transfer). x.old) (sym found.2)

  within : (t : Transfer) → IsIn t (transfers_to grants s.manager.homes) → t.index < shape.total
  within t i = let found = transfer_gives grants s.manager.homes t i in
      let e = ap (λ (x : Transfer). x.index) found.2 in let b = (legal.homes found.0 found.1).index in omega (arith, e, b)

  above_home : (t : Transfer) → IsIn t (transfers_to grants s.manager.homes) → (home_at s.manager.homes t.index).epoch < t.dest.epoch
  above_home t i = let found = transfer_gives grants s.manager.homes t i in
      let n = (legal.homes found.0 found.1).epoch in
      let c = k.placement.current_given t.index (within t i) in
      let e = ap (λ (x : Transfer). x.dest.epoch) found.2 in
      let g = ap (λ (x : Transfer). greatest_at s.manager.greatest x.index) found.2 in
      omega (arith, n, c, e, g)

  one : (t u : Transfer) → IsIn t (transfers_to grants s.manager.homes) → IsIn u (transfers_to grants s.manager.homes) → t.index ≡ u.index → t ≡ u
  one t u i j e =
      let x = transfer_gives grants s.manager.homes t i in
      let y = transfer_gives grants s.manager.homes u j in
      let same_grant : x.0 ≡ y.0 = one_grant grants legal.order x.0 y.0 x.1 y.1 (ap (λ (z : Transfer). z.index) (sym x.2) ∙ e ∙ ap (λ (z : Transfer). z.index) y.2) in
      x.2 ∙ (λ n. record { index = (same_grant n).index; old = home_at s.manager.homes (same_grant n).index; dest = (same_grant n).dest }) ∙ sym y.2

  pub after_lock : Kept shape (record s { manager = settled (written (ManagerRecord.Locked task number grants) s.manager) })
  after_lock = record {
    placement = k.authority.doubt_sound.2;
    provenance = k.provenance;
    leases = record {
      seen_end = k.leases.seen_end;
      locked_after = λ l. k.authority.doubt_sound.1;
      taken_by_current = k.leases.taken_by_current;
      acceptance_answered = k.leases.acceptance_answered;
    };
    fencing = record {
      below_is_cut_off = k.fencing.below_is_cut_off;
      below_is_given_up = λ p m h. elim (k.fencing.below_is_given_up p m h) [
        | inl broken ↦ inl broken
        | inr (inl released) ↦ inr (inl released)
        | inr (inr swapped) ↦ absurd (contrary (is_swapped s.manager.lock) swapped.0 (ap is_swapped legal.unlocked))
      ];
      fenced = λ p n h. fence_below p n (k.fencing.fenced p n h);
      fence_issued = λ p n h. fence_below p n (k.fencing.fence_issued p n h);
    };
    durability = k.durability;
    deletion = record { committed_bare = k.deletion.committed_bare; doubtful_bare = λ b e. cc; doubtful_unlocked = λ b e. cc };
    sight = record {
      few_blind_live = λ l u b h.
          let c = count_more shape.total (is_blind_live (Some (lock_of task number grants s.manager.homes)) s.manager.homes s.broken s.units.row s.post.given b) (lacks s.manager.homes s.broken s.units.row b) (λ i below. blind_lacks b i) in
          let d = k.durability b h in omega (arith, c, d);
      few_blind_mark = λ l u b h.
          let c = count_more shape.total (is_blind_mark (Some (lock_of task number grants s.manager.homes)) s.manager.homes s.broken s.units.row s.post.given b) (is_bare s.manager.homes s.broken s.units.row b) (λ i below. blind_bare b i) in
          let d = k.deletion.committed_bare b h in omega (arith, c, d);
      listings_given = λ l u i h. absurd h;
      live_rows_stand = λ u t b i h. cc;
      marked_rows_stand = λ u t b i h. cc;
    };
    succession = record { holds_acked = λ e. cc; holds_committed = λ e. cc; is_current = λ e. cc };
    authority = record {
      requests = record { committed_asked = k.authority.requests.committed_asked; issued = λ r i. license r (k.authority.requests.issued r i) };
      releases = k.authority.releases;
      hearing = record { mark_given = k.authority.hearing.mark_given; fenced_given = λ t i h. cc; released_given = λ t i h. cc };
      doubt_sound = tt;
    };
    support = record {
      locks = record {
        lock_number_granted = λ n e. let f = eqb-true number n e in omega (arith, f);
        old_units_current = λ u. from_home;
        destinations_above_current = λ u. above_home;
        old_units_below_current = λ w. cc;
      };
      leases = record { lease_within_term = k.support.leases.lease_within_term; doubtful_lease_within_term = λ end e. cc };
      asks = record { asked_is_begun = k.support.asks.asked_is_begun; doubtful_ask_is_begun = λ b e. cc };
      post = k.support.post;
      units = k.support.units;
    };
    form = record {
      lists = record {
        homes_count = k.form.lists.homes_count;
        greatest_count = raised_length grants s.manager.greatest ∙ k.form.lists.greatest_count;
        greatest_within = epochs_within shape s.manager.homes s.manager.greatest s.manager.lease_end s.manager.granted s.manager.lock s.broken s.units.is_made task number grants
            k.form.lists.homes_count k.form.lists.greatest_count legal k.form.lists.greatest_within;
        time_within = k.form.lists.time_within;
      };
      log = record { doubt_while_shut = λ e. refl };
      lock = record { transfer_index = within; one_by_index = one };
      units = k.form.units;
    };
  }
