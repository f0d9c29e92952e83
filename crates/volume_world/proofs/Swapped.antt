-- A swap that is found written keeps what is kept.
use Rattle.std.proofs.Common.{◌≡◌, ℕ, ◌<◌, ◌≤◌, ◌⊎◌, inl, inr, Bool, true, false, List, Some, refl, sym, ◌∙◌, ap, subst, arith}
use Rattle.std.specs.Prelude.{◌&&◌, not, nat_lt, is_some}
use Rattle.std.proofs.lemmas.Bool.{ltb-true, ltb-false}
use Rattle.unit_id.specs.Lists.{IsIn, is_in}
use Rattle.unit_id.specs.Place.{Location, Place, at_home}
use Rattle.code_mode.specs.VolumeShape.{VolumeShape}
use Rattle.unit_id.specs.Request.{Request}
use Rattle.blob_node.specs.Units.{is_deleted, is_live}
use Rattle.volume_entry.specs.Manager.{Transfer, Lock, ManagerRecord, home_at, greatest_at, is_destination, moved, in_doubt, settled, written}
use Rattle.volume_world.specs.State.{State}
use Rattle.volume_world.specs.BlobStatus.{lacks, lacking, is_bare, bare}
use Rattle.volume_world.specs.Placement.{Placement}
use Rattle.volume_world.specs.Fencing.{IsFenceOf}
use Rattle.volume_world.specs.Durability.{IsHeld}
use Rattle.volume_world.specs.Authority.{IsLicensed, WasFenced}
use Rattle.volume_world.specs.Invariant.{Kept}
use Rattle.unit_id.proofs.Bools.{and_right, or_right, not_true, contrary}
use Rattle.unit_id.proofs.Counts.{count_more}
use Rattle.unit_id.proofs.Places.{same_place}
use Rattle.volume_entry.proofs.Moved.{HomeCases, home_cases, moved_length}
use Rattle.volume_world.proofs.Doubt.{doubting}
use Rattle.volume_world.proofs.Transfers.{destination_gives, lock_there, with_lock, gives_old}

-- before the swap, with the lock at hand
abbrev Before : State → Lock → State
Before s l = doubting (with_lock s l) ManagerRecord.Swapped

abbrev new_homes : State → Lock → List Location
new_homes s l = moved 0 l.transfers s.manager.homes

module _ (shape : VolumeShape) (s : State) (l : Lock) (k : Kept shape (Before s l)) where
  cases : (i : ℕ) → HomeCases l.transfers i (home_at s.manager.homes i) (home_at (new_homes s l) i)
  cases = home_cases l.transfers s.manager.homes (λ t i. let n = k.form.lists.homes_count in omega (arith, k.form.lock.transfer_index t i, n))

  is_unswapped : l.is_swapped ≡ false
  is_unswapped = k.authority.doubt_sound.1

  -- a transfer's home is its destination
  arrived : (t : Transfer) → IsIn t l.transfers → home_at (new_homes s l) t.index ≡ t.dest
  arrived t i = elim (cases t.index) [
    | inl found ↦ found.3 ∙ ap (λ (u : Transfer). u.dest) (k.form.lock.one_by_index found.0 t found.1 i found.2)
    | inr left ↦ absurd (left.1 t i refl)
  ]

  rises : (i : ℕ) → (home_at s.manager.homes i).epoch ≤ (home_at (new_homes s l) i).epoch
  rises i = elim (cases i) [
    | inl found ↦ go found.0 found.1 found.2 found.3
    | inr left ↦ let e = ap (λ (h : Location). h.epoch) left.0 in omega arith
  ] where
    go : (t : Transfer) → IsIn t l.transfers → t.index ≡ i → home_at (new_homes s l) i ≡ t.dest → (home_at s.manager.homes i).epoch ≤ (home_at (new_homes s l) i).epoch
    go t h e f =
        let above = k.support.locks.destinations_above_current is_unswapped t h in
        let g = ap (λ (x : Location). x.epoch) f in
        let j = ap (λ n. (home_at s.manager.homes n).epoch) e in
        omega (arith, above, g, j)

  -- an old unit at its home
  old_epoch : (t : Transfer) → IsIn t l.transfers → t.old.epoch ≡ (home_at s.manager.homes t.index).epoch
  old_epoch t i = ap (λ (h : Location). h.epoch) (sym (k.support.locks.old_units_current is_unswapped t i))

  old_disk : (t : Transfer) → IsIn t l.transfers → t.old.disk ≡ (home_at s.manager.homes t.index).disk
  old_disk t i = ap (λ (h : Location). h.disk) (sym (k.support.locks.old_units_current is_unswapped t i))

  -- a unit above the home of an index that is moved is its destination, or broken
  above_old : (p : Place) (t : Transfer) → IsIn t l.transfers → t.index ≡ p.index → s.units.is_made p ≡ true → (home_at s.manager.homes p.index).epoch < p.epoch
      → (s.broken p.disk ≡ true) ⊎ (p.epoch ≡ t.dest.epoch)
  above_old p t i e m h = elim (k.placement.above_current p m h) [
    | inl broken ↦ inl broken
    | inr dest ↦ inr (go (destination_gives l.transfers p dest))
  ] where
    go : ((u : Transfer) × IsIn u l.transfers × (u.index ≡ p.index) × (u.dest.epoch ≡ p.epoch)) → p.epoch ≡ t.dest.epoch
    go found = sym found.3 ∙ ap (λ (u : Transfer). u.dest.epoch) (k.form.lock.one_by_index found.0 t found.1 i (found.2 ∙ sym e))

  placement : Placement shape.total (new_homes s l) s.manager.greatest (Some (record l { is_swapped = true })) s.broken s.units.is_made
  placement = record {
    made_index = k.placement.made_index;
    one_disk = k.placement.one_disk;
    current_at_home = λ p m e. elim (cases p.index) [
      | inl found ↦ k.placement.destination_at_home p found.0 m found.1 (sym found.2) (e ∙ ap (λ (h : Location). h.epoch) found.3) ∙ ap (λ (h : Location). h.disk) (sym found.3)
      | inr left ↦ k.placement.current_at_home p m (e ∙ ap (λ (h : Location). h.epoch) left.0) ∙ ap (λ (h : Location). h.disk) (sym left.0)
    ];
    destination_at_home = k.placement.destination_at_home;
    old_at_home = k.placement.old_at_home;
    homes_apart = apart;
    destinations_free = λ w. cc;
    destinations_apart = λ w. cc;
    made_given = k.placement.made_given;
    current_given = λ i below. elim (cases i) [
      | inl found ↦ given i found.0 found.1 found.2 found.3
      | inr left ↦ let e = ap (λ (h : Location). h.epoch) left.0 in omega (arith, k.placement.current_given i below)
    ];
    destination_given = k.placement.destination_given;
    above_current = λ p m h. above p m h (cases p.index);
    old_disk_left = λ w t i e. k.placement.destinations_free is_unswapped t i t.index (k.form.lock.transfer_index t i) (sym (old_disk t i) ∙ e ∙ ap (λ (h : Location). h.disk) (arrived t i));
    old_disk_newest = newest;
  } where
    apart : (i j : ℕ) → i < shape.total → j < shape.total → (home_at (new_homes s l) i).disk ≡ (home_at (new_homes s l) j).disk → i ≡ j
    apart i j a b e = go (cases i) (cases j) where
      go : HomeCases l.transfers i (home_at s.manager.homes i) (home_at (new_homes s l) i) → HomeCases l.transfers j (home_at s.manager.homes j) (home_at (new_homes s l) j) → i ≡ j
      go (inl x) (inl y) = sym x.2 ∙ k.placement.destinations_apart is_unswapped x.0 y.0 x.1 y.1 (ap (λ (h : Location). h.disk) (sym x.3) ∙ e ∙ ap (λ (h : Location). h.disk) y.3) ∙ y.2
      go (inl x) (inr y) = absurd (k.placement.destinations_free is_unswapped x.0 x.1 j b (ap (λ (h : Location). h.disk) (sym y.0) ∙ sym e ∙ ap (λ (h : Location). h.disk) x.3))
      go (inr x) (inl y) = absurd (k.placement.destinations_free is_unswapped y.0 y.1 i a (ap (λ (h : Location). h.disk) (sym x.0) ∙ e ∙ ap (λ (h : Location). h.disk) y.3))
      go (inr x) (inr y) = k.placement.homes_apart i j a b (ap (λ (h : Location). h.disk) (sym x.0) ∙ e ∙ ap (λ (h : Location). h.disk) y.0)

    given : (i : ℕ) (t : Transfer) → IsIn t l.transfers → t.index ≡ i → home_at (new_homes s l) i ≡ t.dest → (home_at (new_homes s l) i).epoch ≤ greatest_at s.manager.greatest i
    given i t h e f =
        let g = ap (λ (x : Location). x.epoch) f in
        let j = ap (greatest_at s.manager.greatest) e in
        omega (arith, k.placement.destination_given t h, g, j)

    above : (p : Place) → s.units.is_made p ≡ true → (home_at (new_homes s l) p.index).epoch < p.epoch
        → HomeCases l.transfers p.index (home_at s.manager.homes p.index) (home_at (new_homes s l) p.index) → (s.broken p.disk ≡ true) ⊎ (is_destination l.transfers p ≡ true)
    above p m h c = k.placement.above_current p m (omega (arith, rises p.index, h))

    newest : true ≡ true → (t : Transfer) → IsIn t l.transfers → s.broken t.old.disk ≡ false → (p : Place) → s.units.is_made p ≡ true → p.index ≡ t.index → p.disk ≡ t.old.disk → p.epoch ≤ t.old.epoch
    newest w t i u p m e f = not_above (λ h. elim (above_old p t i (sym e) m h) [
      | inl broken ↦ contrary (s.broken p.disk) broken (ap s.broken f ∙ u)
      | inr dest ↦ k.placement.destinations_free is_unswapped t i t.index (k.form.lock.transfer_index t i)
          (sym (old_disk t i) ∙ sym f ∙ k.placement.destination_at_home p t m i e dest)
    ]) (old_epoch t i) (ap (λ n. (home_at s.manager.homes n).epoch) e) where
      not_above : ((home_at s.manager.homes p.index).epoch < p.epoch → ⊥) → t.old.epoch ≡ (home_at s.manager.homes t.index).epoch
          → (home_at s.manager.homes p.index).epoch ≡ (home_at s.manager.homes t.index).epoch → p.epoch ≤ t.old.epoch
      not_above h a b = omega arith

  -- a successor doesn't lack a held blob
  fewer_lack : (b : ℕ) → IsHeld s.puts.status s.manager.asked b → lacking shape.total (new_homes s l) s.broken s.units.row b ≤ lacking shape.total s.manager.homes s.broken s.units.row b
  fewer_lack b held = count_more shape.total (lacks (new_homes s l) s.broken s.units.row b) (lacks s.manager.homes s.broken s.units.row b) (λ i below h. elim (cases i) [
    | inl found ↦ absurd (go i found.0 found.1 found.2 found.3 h)
    | inr left ↦ subst (λ home. not (s.broken home.disk) && not (is_live (s.units.row (at_home i home) b)) ≡ true) left.0 h
  ]) where
    go : (i : ℕ) (t : Transfer) → IsIn t l.transfers → t.index ≡ i → home_at (new_homes s l) i ≡ t.dest → lacks (new_homes s l) s.broken s.units.row b i ≡ true → ⊥
    go i t u e f h =
        let at : at_home i (home_at (new_homes s l) i) ≡ at_home t.index t.dest = λ j. at_home (sym e j) (f j) in
        let bare_here = and_right (not (s.broken (home_at (new_homes s l) i).disk)) (not (is_live (s.units.row (at_home i (home_at (new_homes s l) i)) b))) h in
        contrary (is_live (s.units.row (at_home t.index t.dest) b)) (k.succession.holds_acked (or_right l.is_swapped true refl) t u b held)
        (ap (λ p. is_live (s.units.row p b)) (sym at) ∙ not_true (is_live (s.units.row (at_home i (home_at (new_homes s l) i)) b)) bare_here)

  -- a successor isn't bare of a committed delete
  fewer_bare : (b : ℕ) → is_in b s.manager.committed ≡ true → bare shape.total (new_homes s l) s.broken s.units.row b ≤ bare shape.total s.manager.homes s.broken s.units.row b
  fewer_bare b committed = count_more shape.total (is_bare (new_homes s l) s.broken s.units.row b) (is_bare s.manager.homes s.broken s.units.row b) (λ i below h. elim (cases i) [
    | inl found ↦ absurd (go i found.0 found.1 found.2 found.3 h)
    | inr left ↦ subst (λ home. not (s.broken home.disk) && not (is_deleted (s.units.row (at_home i home) b)) ≡ true) left.0 h
  ]) where
    go : (i : ℕ) (t : Transfer) → IsIn t l.transfers → t.index ≡ i → home_at (new_homes s l) i ≡ t.dest → is_bare (new_homes s l) s.broken s.units.row b i ≡ true → ⊥
    go i t u e f h =
        let at : at_home i (home_at (new_homes s l) i) ≡ at_home t.index t.dest = λ j. at_home (sym e j) (f j) in
        let bare_here = and_right (not (s.broken (home_at (new_homes s l) i).disk)) (not (is_deleted (s.units.row (at_home i (home_at (new_homes s l) i)) b))) h in
        contrary (is_deleted (s.units.row (at_home t.index t.dest) b)) (k.succession.holds_committed (or_right l.is_swapped true refl) t u b committed)
        (ap (λ p. is_deleted (s.units.row p b)) (sym at) ∙ not_true (is_deleted (s.units.row (at_home i (home_at (new_homes s l) i)) b)) bare_here)

  -- a unit that the swap puts below the current one was below before, is the old unit, or is broken
  below_new : (p : Place) → s.units.is_made p ≡ true → p.epoch < (home_at (new_homes s l) p.index).epoch
      → (s.broken p.disk ≡ true) ⊎ ((p.epoch < (home_at s.manager.homes p.index).epoch) ⊎ ((t : Transfer) × IsIn t l.transfers × (p ≡ at_home t.index t.old)))
  below_new p m h = elim (cases p.index) [
    | inl found ↦ go found.0 found.1 found.2 found.3 (nat_lt p.epoch (home_at s.manager.homes p.index).epoch) (nat_lt (home_at s.manager.homes p.index).epoch p.epoch) refl refl
    | inr left ↦ let e = ap (λ (x : Location). x.epoch) left.0 in inr (inl (omega (arith, e, h)))
  ] where
    go : (t : Transfer) → IsIn t l.transfers → t.index ≡ p.index → home_at (new_homes s l) p.index ≡ t.dest → (below above : Bool)
        → nat_lt p.epoch (home_at s.manager.homes p.index).epoch ≡ below → nat_lt (home_at s.manager.homes p.index).epoch p.epoch ≡ above
        → (s.broken p.disk ≡ true) ⊎ ((p.epoch < (home_at s.manager.homes p.index).epoch) ⊎ ((t : Transfer) × IsIn t l.transfers × (p ≡ at_home t.index t.old)))
    go t i e f true above x y = inr (inl (ltb-true p.epoch (home_at s.manager.homes p.index).epoch x))
    go t i e f false true x y = elim (above_old p t i e m (ltb-true (home_at s.manager.homes p.index).epoch p.epoch y)) [
      | inl broken ↦ inl broken
      | inr dest ↦ let g = ap (λ (x : Location). x.epoch) f in absurd (omega (arith, dest, g, h))
    ]
    go t i e f false false x y =
        let a = ltb-false p.epoch (home_at s.manager.homes p.index).epoch x in
        let b = ltb-false (home_at s.manager.homes p.index).epoch p.epoch y in
        let c = ap (λ n. (home_at s.manager.homes n).epoch) e in
        let d = old_epoch t i in
        let same_epoch : p.epoch ≡ t.old.epoch = omega arith in
        inr (inr (t, i, same_place p (at_home t.index t.old) (sym e) same_epoch (k.placement.old_at_home p t m i (sym e) same_epoch)))

  -- the old unit is fenced or broken
  cut_off : (p : Place) (t : Transfer) → IsIn t l.transfers → p ≡ at_home t.index t.old → (s.broken p.disk ≡ true) ⊎ (is_some (s.units.fence p) ≡ true)
  cut_off p t i e = elim (k.authority.doubt_sound.2 t i) [
    | inl broken ↦ inl (ap (λ (q : Place). s.broken q.disk) e ∙ broken)
    | inr fenced ↦ inr (ap (λ q. is_some (s.units.fence q)) e ∙ fenced)
  ]

  license : (r : Request) → IsLicensed shape.total s.manager.homes (Some l) s.manager.granted s.manager.asked s.manager.committed s.puts.status s.broken s.units.is_made r
      → IsLicensed shape.total (new_homes s l) (Some (record l { is_swapped = true })) s.manager.granted s.manager.asked s.manager.committed s.puts.status s.broken s.units.is_made r
  license (Request.Create p) (inl broken) = inl broken
  license (Request.Create p) (inr (inl made)) = inr (inl made)
  license (Request.Create p) (inr (inr (inr dest))) = inr (inr (inr dest))
  license (Request.Create p) (inr (inr (inl here))) = elim (cases p.index) [
    | inl found ↦ go found.0 found.1 found.2
    | inr left ↦ inr (inr (inl (here.0, here.1 ∙ ap (at_home p.index) (sym left.0))))
  ] where
    go : (t : Transfer) → IsIn t l.transfers → t.index ≡ p.index
        → IsLicensed shape.total (new_homes s l) (Some (record l { is_swapped = true })) s.manager.granted s.manager.asked s.manager.committed s.puts.status s.broken s.units.is_made (Request.Create p)
    go t i e =
        let old : p ≡ at_home t.index t.old = here.1 ∙ (λ j. at_home (sym e j) (home_at s.manager.homes (sym e j))) ∙ ap (at_home t.index) (k.support.locks.old_units_current is_unswapped t i) in
        elim (cut_off p t i old) [
          | inl broken ↦ inl broken
          | inr fenced ↦ inr (inl (made_fenced p fenced (s.units.is_made p) refl))
        ] where
          made_fenced : (p : Place) → is_some (s.units.fence p) ≡ true → (test : Bool) → s.units.is_made p ≡ test → test ≡ true
          made_fenced p f true e = refl
          made_fenced p f false e = absurd (contrary (is_some (s.units.fence p)) f (ap is_some (k.form.units.unmade_has_no_fence p e)))
  license (Request.Put p b) h = (h.0, (let r = rises p.index in omega (arith, h.1, r)))
  license (Request.Release p) h = let r = rises p.index in omega (arith, h, r)
  license (Request.Fence p n) h = h
  license (Request.Read p b) h = h
  license (Request.List p n) h = h
  license (Request.Copy p b) h = h
  license (Request.Mark p b) h = h
  license (Request.Free p b) h = h

  fence_of : (p : Place) (n : ℕ) → IsFenceOf (Some l) s.manager.homes p n → IsFenceOf (Some (record l { is_swapped = true })) (new_homes s l) p n
  fence_of p n (inl old) = inl old
  fence_of p n (inr below) = inr (let r = rises p.index in omega (arith, below, r))

  fenced_again : (t : Transfer) → WasFenced (Some l) s.post.given t → WasFenced (Some (record l { is_swapped = true })) s.post.given t
  fenced_again t h = record { place = h.place; number = h.number; index = h.index; epoch = h.epoch; under = h.under; given = h.given }

  pub after_swap : Kept shape (record (with_lock s l) { manager = settled (written ManagerRecord.Swapped (with_lock s l).manager) })
  after_swap = record {
    placement = placement;
    provenance = k.provenance;
    leases = record {
      seen_end = k.leases.seen_end;
      locked_after = k.leases.locked_after;
      taken_by_current = λ b o later. let a = k.leases.seen_end b o in let c = k.leases.locked_after refl in absurd (omega (arith, a, c, later));
      acceptance_answered = k.leases.acceptance_answered;
    };
    fencing = record {
      below_is_cut_off = λ p m h. elim (below_new p m h) [
        | inl broken ↦ inl broken
        | inr (inl below) ↦ k.fencing.below_is_cut_off p m below
        | inr (inr old) ↦ elim (cut_off p old.0 old.1 old.2) [ inl broken ↦ inl broken | inr fenced ↦ inr (inr fenced) ]
      ];
      below_is_given_up = λ p m h. elim (below_new p m h) [
        | inl broken ↦ inl broken
        | inr (inl below) ↦ elim (k.fencing.below_is_given_up p m below) [
          | inl broken ↦ inl broken
          | inr (inl released) ↦ inr (inl released)
          | inr (inr swapped) ↦ absurd (contrary l.is_swapped swapped.0 is_unswapped)
        ]
        | inr (inr old) ↦ inr (inr (refl, gives_old l.transfers p old.0 old.1 (ap (λ (q : Place). q.index) (sym old.2)) (ap (λ (q : Place). q.epoch) (sym old.2))))
      ];
      fenced = λ p n h. fence_of p n (k.fencing.fenced p n h);
      fence_issued = λ p n h. fence_of p n (k.fencing.fence_issued p n h);
    };
    durability = λ b h. let f = fewer_lack b h in let d = k.durability b h in omega (arith, f, d);
    deletion = record {
      committed_bare = λ b h. let f = fewer_bare b h in let d = k.deletion.committed_bare b h in omega (arith, f, d);
      doubtful_bare = λ b e. cc;
      doubtful_unlocked = λ b e. cc;
    };
    sight = record {
      few_blind_live = λ a w. cc;
      few_blind_mark = λ a w. cc;
      listings_given = λ a w. cc;
      live_rows_stand = λ w. cc;
      marked_rows_stand = λ w. cc;
    };
    succession = record {
      holds_acked = λ e. k.succession.holds_acked (or_right l.is_swapped true refl);
      holds_committed = λ e. k.succession.holds_committed (or_right l.is_swapped true refl);
      is_current = λ w t i. arrived t i;
    };
    authority = record {
      requests = record { committed_asked = k.authority.requests.committed_asked; issued = λ r i. license r (k.authority.requests.issued r i) };
      releases = record {
        released_below = λ p h. let r = rises p.index in let b = k.authority.releases.released_below p h in omega (arith, r, b);
        doubtful_release_below = λ p h. let r = rises p.index in let b = k.authority.releases.doubtful_release_below p h in omega (arith, r, b);
        unit_doubt_issued = k.authority.releases.unit_doubt_issued;
      };
      hearing = record {
        mark_given = k.authority.hearing.mark_given;
        fenced_given = λ t i h. fenced_again t (k.authority.hearing.fenced_given t i h);
        released_given = k.authority.hearing.released_given;
      };
      doubt_sound = tt;
    };
    support = record {
      locks = record {
        lock_number_granted = k.support.locks.lock_number_granted;
        old_units_current = λ w. cc;
        destinations_above_current = λ w. cc;
        old_units_below_current = λ w t i. let a = k.support.locks.destinations_above_current is_unswapped t i in let o = old_epoch t i in let n = ap (λ (h : Location). h.epoch) (arrived t i) in omega (arith, a, o, n);
      };
      leases = record { lease_within_term = k.support.leases.lease_within_term; doubtful_lease_within_term = λ end e. cc };
      asks = record { asked_is_begun = k.support.asks.asked_is_begun; doubtful_ask_is_begun = λ b e. cc };
      post = k.support.post;
      units = k.support.units;
    };
    form = record {
      lists = record {
        homes_count = moved_length l.transfers s.manager.homes ∙ k.form.lists.homes_count;
        greatest_count = k.form.lists.greatest_count;
        greatest_within = k.form.lists.greatest_within;
        time_within = k.form.lists.time_within;
      };
      log = record { doubt_while_shut = λ e. refl };
      lock = record { transfer_index = k.form.lock.transfer_index; one_by_index = k.form.lock.one_by_index };
      units = k.form.units;
    };
  }

pub swap_written : (shape : VolumeShape) (s : State) → Kept shape (doubting s ManagerRecord.Swapped) → Kept shape (record s { manager = settled (written ManagerRecord.Swapped s.manager) })
swap_written shape s k =
    let found = lock_there s.manager.lock k.authority.doubt_sound.0 in
    let before : Kept shape (doubting (with_lock s found.0) ManagerRecord.Swapped) = subst (λ lock. Kept shape (record s { manager = in_doubt ManagerRecord.Swapped (record (s.manager) { lock = lock }) })) found.1 k in
    subst (λ lock. Kept shape (record s { manager = settled (written ManagerRecord.Swapped (record (s.manager) { lock = lock })) })) (sym found.1) (after_swap shape s found.0 before)
