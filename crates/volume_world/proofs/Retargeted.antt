-- A new destination keeps what is kept: its tests, and its record found written.
use Rattle.std.proofs.Common.{◌≡◌, ℕ, ◌<◌, inl, inr, Bool, true, false, List, [], ◌∷◌, Option, Some, None, refl, sym, ◌∙◌, ap, subst, arith}
use Rattle.std.specs.Prelude.{◌&&◌, ◌||◌, ◌==◌, not, is_some}
use Rattle.std.proofs.lemmas.Bool.{eqb-true, eqb-false}
use Rattle.unit_id.specs.Lists.{IsIn, any, is_in}
use Rattle.unit_id.specs.Place.{Location, Place, at_home}
use Rattle.code_mode.specs.VolumeShape.{VolumeShape, last_epoch}
use Rattle.unit_id.specs.Request.{Request, Given}
use Rattle.blob_node.specs.Units.{RowState, has_row, is_deleted, is_live}
use Rattle.volume_entry.specs.Manager.{Transfer, Lock, HeardListing, HeardRow, Grant, ManagerRecord, home_at, greatest_at, current, transfers_of, is_swapped, redirected, without_rows, IsDisk, IsLegalRetarget, in_doubt, settled, written}
use Rattle.volume_entry.specs.Benchmark.{was_heard, shows_live, shows_marked}
use Rattle.volume_entry.specs.ManagerStep.{holder, other_destination, retarget_holder, grant_of, is_spent, is_destination_broken, retarget_record}
use Rattle.volume_world.specs.State.{State}
use Rattle.volume_world.specs.Blind.{lists_without, hides_live, hides_mark, is_blind_live, is_blind_mark}
use Rattle.volume_world.specs.Authority.{IsLicensed, WasFenced, WasReleased}
use Rattle.volume_world.specs.Fencing.{IsFenceOf}
use Rattle.volume_world.specs.Sight.{WasListed}
use Rattle.volume_world.specs.Invariant.{Kept}
use Rattle.unit_id.proofs.Bools.{and_left, and_right, and_both, or_cases, contrary, equal_test}
use Rattle.unit_id.proofs.Counts.{count_more}
use Rattle.unit_id.proofs.Membership.{any_gives, gives_any}
use Rattle.volume_entry.proofs.Raised.{raised_length}
use Rattle.volume_world.proofs.Transfers.{with_lock, lock_there}
use Rattle.volume_world.proofs.Written.{destination_there_gives}
use Rattle.volume_world.proofs.Doubt.{MayBeDoubted, doubting}
use Rattle.volume_entry.proofs.Grants.{or_else_none, holder_free, other_gives}
use Rattle.volume_world.proofs.Redirected.{dest_cases, listing_same, redirect, redirect_gives, same_old, gives_redirect, placement_with, retarget_within, row_left}

abbrev Doubted : State → Lock → Grant → State
Doubted s l grant = doubting (with_lock s l) (ManagerRecord.Retargeted grant)

module _ (shape : VolumeShape) (s : State) (l : Lock) (grant : Grant) (k : Kept shape (Doubted s l grant)) where
  new_lock : Lock
  new_lock = record l { transfers = redirected grant l.transfers }

  unswapped : l.is_swapped ≡ false
  unswapped = k.authority.doubt_sound.0.unswapped

  legal : IsLegalRetarget shape s.manager.homes s.manager.greatest (Some l) grant
  legal = k.authority.doubt_sound.0

  hidden_live : (place : Place) (b : ℕ) (given : List Given) → any (hides_live (Some (record l { transfers = redirected grant l.transfers })) place b) given ≡ true → any (hides_live (Some l) place b) given ≡ true
  hidden_live place b given h =
      let found = any_gives (hides_live (Some (record l { transfers = redirected grant l.transfers })) place b) given h in
      gives_any (hides_live (Some l) place b) given found.0 found.1
      (subst (λ shown. lists_without shown (shows_live shown b) ≡ true) (listing_same l (redirected grant l.transfers) place found.0.request found.0.answer) found.2)

  hidden_mark : (place : Place) (b : ℕ) (given : List Given) → any (hides_mark (Some (record l { transfers = redirected grant l.transfers })) place b) given ≡ true → any (hides_mark (Some l) place b) given ≡ true
  hidden_mark place b given h =
      let found = any_gives (hides_mark (Some (record l { transfers = redirected grant l.transfers })) place b) given h in
      gives_any (hides_mark (Some l) place b) given found.0 found.1
      (subst (λ shown. lists_without shown (shows_marked shown b) ≡ true) (listing_same l (redirected grant l.transfers) place found.0.request found.0.answer) found.2)

  license : (r : Request) → IsLicensed shape.total s.manager.homes (Some l) s.manager.granted s.manager.asked s.manager.committed s.puts.status s.broken s.units.is_made r
      → IsLicensed shape.total s.manager.homes (Some (record l { transfers = redirected grant l.transfers })) s.manager.granted s.manager.asked s.manager.committed s.puts.status s.broken s.units.is_made r
  license (Request.Create p) (inl broken) = inl broken
  license (Request.Create p) (inr (inl made)) = inr (inl made)
  license (Request.Create p) (inr (inr (inl here))) = inr (inr (inl here))
  license (Request.Create p) (inr (inr (inr dest))) =
      let found = destination_there_gives l.transfers p dest in
      elim (dest_cases grant found.0) [
        | inl new ↦ inl (ap (λ (q : Place). s.broken q.disk) found.2 ∙ k.authority.doubt_sound.1 found.0 found.1 new.0)
        | inr old ↦ inr (inr (inr (gives_any (λ u. ((u.index == p.index) && (u.dest.epoch == p.epoch)) && (u.dest.disk == p.disk)) (redirected grant l.transfers) (redirect grant found.0)
            (gives_redirect grant l.transfers found.0 found.1)
            (and_both ((found.0.index == p.index) && ((redirect grant found.0).dest.epoch == p.epoch)) ((redirect grant found.0).dest.disk == p.disk)
            (and_both (found.0.index == p.index) ((redirect grant found.0).dest.epoch == p.epoch) (equal_test found.0.index p.index (ap (λ (q : Place). q.index) (sym found.2)))
            (equal_test (redirect grant found.0).dest.epoch p.epoch (ap (λ (h : Location). h.epoch) old.1 ∙ ap (λ (q : Place). q.epoch) (sym found.2))))
            (equal_test (redirect grant found.0).dest.disk p.disk (ap (λ (h : Location). h.disk) old.1 ∙ ap (λ (q : Place). q.disk) (sym found.2)))))))
      ]
  license (Request.List p n) h = h
  license (Request.Put p b) h = h
  license (Request.Release p) h = h
  license (Request.Fence p n) h = h
  license (Request.Read p b) h = h
  license (Request.Copy p b) h = h
  license (Request.Mark p b) h = h
  license (Request.Free p b) h = h

  fence_of : (p : Place) (n : ℕ) → IsFenceOf (Some l) s.manager.homes p n → IsFenceOf (Some (record l { transfers = redirected grant l.transfers })) s.manager.homes p n
  fence_of p n (inl old) = inl (same_old grant l.transfers p ∙ old.0, old.1)
  fence_of p n (inr below) = inr below

  fenced_again : (t u : Transfer) → t ≡ redirect grant u → WasFenced (Some l) s.post.given u → WasFenced (Some (record l { transfers = redirected grant l.transfers })) s.post.given t
  fenced_again t u e h = record { place = h.place; number = h.number; index = h.index ∙ ap (λ (x : Transfer). x.index) (sym e); epoch = h.epoch ∙ ap (λ (x : Transfer). x.old.epoch) (sym e); under = h.under; given = h.given }

  released_again : (t u : Transfer) → t ≡ redirect grant u → WasReleased s.post.given u → WasReleased s.post.given t
  released_again t u e h = record {
    answer = h.answer;
    releases = h.releases;
    given = subst (λ p. IsIn (record { request = Request.Release p; answer = h.answer }) s.post.given) (λ j. at_home (sym e j).index (sym e j).old) h.given;
  }

  listed_again : (m : HeardListing) → WasListed (Some l) s.post.given m → WasListed (Some (record l { transfers = redirected grant l.transfers })) s.post.given m
  listed_again m h = record { place = h.place; number = h.number; said = h.said; index = h.index; epoch = h.epoch; under = h.under; given = h.given }

  -- a row heard that is left is of a destination that is left
  left_stands : (test : Option RowState → Bool) (rows : List HeardRow) → ((t : Transfer) (b : ℕ) → IsIn t l.transfers → was_heard rows t.index b ≡ true → test (s.units.row (at_home t.index t.dest) b) ≡ true)
      → (t : Transfer) (b : ℕ) → IsIn t (redirected grant l.transfers) → was_heard (without_rows grant.index rows) t.index b ≡ true → test (s.units.row (at_home t.index t.dest) b) ≡ true
  left_stands test rows before t b i h =
      let r = redirect_gives grant l.transfers t i in
      let left = row_left grant.index rows t.index b h in
      let same_index = ap (λ (x : Transfer). x.index) r.2 in
      elim (dest_cases grant r.0) [
        | inl new ↦ absurd (left.0 (same_index ∙ new.0))
        | inr old ↦ subst (λ p. test (s.units.row p b) ≡ true)
            ((λ j. at_home r.0.index (sym old.1 j)) ∙ (λ j. at_home (sym r.2 j).index (sym r.2 j).dest))
            (before r.0 b r.1 (subst (λ n. was_heard rows n b ≡ true) same_index left.1))
      ]

  pub after_retarget : Kept shape (record (with_lock s l) { manager = settled (written (ManagerRecord.Retargeted grant) (with_lock s l).manager) })
  after_retarget = record {
    placement = k.authority.doubt_sound.2;
    provenance = k.provenance;
    leases = record { seen_end = k.leases.seen_end; locked_after = k.leases.locked_after; taken_by_current = k.leases.taken_by_current; acceptance_answered = k.leases.acceptance_answered };
    fencing = record {
      below_is_cut_off = k.fencing.below_is_cut_off;
      below_is_given_up = λ p m h. elim (k.fencing.below_is_given_up p m h) [
        | inl broken ↦ inl broken
        | inr (inl released) ↦ inr (inl released)
        | inr (inr swapped) ↦ inr (inr (swapped.0, same_old grant l.transfers p ∙ swapped.1))
      ];
      fenced = λ p n h. fence_of p n (k.fencing.fenced p n h);
      fence_issued = λ p n h. fence_of p n (k.fencing.fence_issued p n h);
    };
    durability = k.durability;
    deletion = record { committed_bare = k.deletion.committed_bare; doubtful_bare = λ b e. cc; doubtful_unlocked = λ b e. cc };
    sight = record {
      few_blind_live = λ a u b h.
          let c = count_more shape.total (is_blind_live (Some (record l { transfers = redirected grant l.transfers })) s.manager.homes s.broken s.units.row s.post.given b) (is_blind_live (Some l) s.manager.homes s.broken s.units.row s.post.given b)
          (λ i below x. blind (not (s.broken (home_at s.manager.homes i).disk)) (not (is_live (s.units.row (current s.manager.homes i) b))) _ _ (hidden_live (current s.manager.homes i) b s.post.given) x) in
          let d = k.sight.few_blind_live a u b h in omega (arith, c, d);
      few_blind_mark = λ a u b h.
          let c = count_more shape.total (is_blind_mark (Some (record l { transfers = redirected grant l.transfers })) s.manager.homes s.broken s.units.row s.post.given b) (is_blind_mark (Some l) s.manager.homes s.broken s.units.row s.post.given b)
          (λ i below x. blind (not (s.broken (home_at s.manager.homes i).disk)) (not (is_deleted (s.units.row (current s.manager.homes i) b))) _ _ (hidden_mark (current s.manager.homes i) b s.post.given) x) in
          let d = k.sight.few_blind_mark a u b h in omega (arith, c, d);
      listings_given = λ a u m i. listed_again m (k.sight.listings_given a u m i);
      live_rows_stand = λ u. left_stands has_row s.manager.heard.live (k.sight.live_rows_stand u);
      marked_rows_stand = λ u. left_stands is_deleted s.manager.heard.marked (k.sight.marked_rows_stand u);
    };
    succession = record {
      holds_acked = λ e. absurd (no_swap e);
      holds_committed = λ e. absurd (no_swap e);
      is_current = λ w. absurd (contrary l.is_swapped w unswapped);
    };
    authority = record {
      requests = record { committed_asked = k.authority.requests.committed_asked; issued = λ r i. license r (k.authority.requests.issued r i) };
      releases = k.authority.releases;
      hearing = record {
        mark_given = k.authority.hearing.mark_given;
        fenced_given = λ t i h. let r = redirect_gives grant l.transfers t i in
            fenced_again t r.0 r.2 (k.authority.hearing.fenced_given r.0 r.1 (subst (λ n. is_in n s.manager.heard.fenced ≡ true) (ap (λ (x : Transfer). x.index) r.2) h));
        released_given = λ t i h. let r = redirect_gives grant l.transfers t i in
            released_again t r.0 r.2 (k.authority.hearing.released_given r.0 r.1 (subst (λ n. is_in n s.manager.heard.released ≡ true) (ap (λ (x : Transfer). x.index) r.2) h));
      };
      doubt_sound = tt;
    };
    support = record {
      locks = record {
        lock_number_granted = k.support.locks.lock_number_granted;
        old_units_current = λ u t i. let r = redirect_gives grant l.transfers t i in
            ap (λ (x : Transfer). home_at s.manager.homes x.index) r.2 ∙ k.support.locks.old_units_current u r.0 r.1 ∙ ap (λ (x : Transfer). x.old) (sym r.2);
        destinations_above_current = λ u t i. above u t (redirect_gives grant l.transfers t i);
        old_units_below_current = λ w. absurd (contrary l.is_swapped w unswapped);
      };
      leases = record { lease_within_term = k.support.leases.lease_within_term; doubtful_lease_within_term = λ end e. cc };
      asks = record { asked_is_begun = k.support.asks.asked_is_begun; doubtful_ask_is_begun = λ b e. cc };
      post = k.support.post;
      units = k.support.units;
    };
    form = record {
      lists = record {
        homes_count = k.form.lists.homes_count;
        greatest_count = raised_length (grant ∷ []) s.manager.greatest ∙ k.form.lists.greatest_count;
        greatest_within = retarget_within shape s.manager.homes s.manager.greatest l s.broken s.units.is_made grant k.form.lists.homes_count k.form.lists.greatest_count legal k.authority.doubt_sound.1
            k.form.lock.transfer_index k.form.lists.greatest_within;
        time_within = k.form.lists.time_within;
      };
      log = record { doubt_while_shut = λ e. refl };
      lock = record {
        transfer_index = λ t i. let r = redirect_gives grant l.transfers t i in let e = ap (λ (x : Transfer). x.index) r.2 in let w = k.form.lock.transfer_index r.0 r.1 in omega (arith, e, w);
        one_by_index = λ t u i j e.
            let x = redirect_gives grant l.transfers t i in
            let y = redirect_gives grant l.transfers u j in
            x.2 ∙ ap (redirect grant) (k.form.lock.one_by_index x.0 y.0 x.1 y.1 (ap (λ (z : Transfer). z.index) (sym x.2) ∙ e ∙ ap (λ (z : Transfer). z.index) y.2)) ∙ sym y.2;
      };
      units = k.form.units;
    };
  } where
    blind : (u a x y : Bool) → (x ≡ true → y ≡ true) → u && (a || x) ≡ true → u && (a || y) ≡ true
    blind false a x y f h = h
    blind true true x y f h = refl
    blind true false x y f h = f h

    no_swap : l.is_swapped || false ≡ true → ⊥
    no_swap e = elim (or_cases l.is_swapped false e) [ inl w ↦ contrary l.is_swapped w unswapped | inr x ↦ cc ]

    above : (u : l.is_swapped ≡ false) (t : Transfer) → (v : Transfer) × IsIn v l.transfers × (t ≡ redirect grant v) → (home_at s.manager.homes t.index).epoch < t.dest.epoch
    above u t r =
        let x = ap (λ (y : Transfer). y.dest.epoch) r.2 in
        let z = ap (λ (y : Transfer). (home_at s.manager.homes y.index).epoch) r.2 in
        elim (dest_cases grant r.0) [
          | inl new ↦
              let y = ap (λ (h : Location). h.epoch) new.1 in
              let n = legal.home.epoch in
              let c = k.placement.current_given grant.index legal.home.index in
              let w = ap (λ i. (home_at s.manager.homes i).epoch) new.0 in
              omega (arith, x, y, z, n, c, w)
          | inr old ↦
              let y = ap (λ (h : Location). h.epoch) old.1 in
              let b = k.support.locks.destinations_above_current u r.0 r.1 in
              omega (arith, x, y, z, b)
        ]

pub retarget_written : (shape : VolumeShape) (s : State) (grant : Grant) → Kept shape (doubting s (ManagerRecord.Retargeted grant)) → Kept shape (record s { manager = settled (written (ManagerRecord.Retargeted grant) s.manager) })
retarget_written shape s grant k =
    let found = lock_there s.manager.lock k.authority.doubt_sound.0.locked in
    let before : Kept shape (Doubted s found.0 grant) = subst (λ lock. Kept shape (record s { manager = in_doubt (ManagerRecord.Retargeted grant) (record (s.manager) { lock = lock }) })) found.1 k in
    subst (λ lock. Kept shape (record s { manager = settled (written (ManagerRecord.Retargeted grant) (record (s.manager) { lock = lock })) })) (sym found.1) (after_retarget shape s found.0 grant before)

pub retarget_doubted : (shape : VolumeShape) (s : State) (index disk : ℕ) → Kept shape s → IsDisk shape disk → is_some s.manager.lock ≡ true → is_swapped s.manager.lock ≡ false
    → any (λ t. t.index == index) (transfers_of s.manager.lock) ≡ true → is_destination_broken s.broken (transfers_of s.manager.lock) index ≡ true
    → retarget_holder s.manager index disk ≡ None → is_spent s.manager.greatest index ≡ false → MayBeDoubted shape s (retarget_record index disk s.manager)
retarget_doubted shape s index disk k is_disk locked unswapped there broken free unspent = record {
  sound = (
    legal,
    gone,
    placement_with shape s.manager.homes s.manager.greatest s.manager.lock s.broken s.units.is_made (grant_of s.manager.greatest (record { index = index; disk = disk }))
        k.form.lists.homes_count k.form.lists.greatest_count legal gone k.form.lock.transfer_index k.placement,
  );
  bare = λ b e. cc;
  unlocked = λ b e. cc;
  acked = λ e. cc;
  committed = λ e. cc;
  term = λ end e. cc;
  begun = λ b e. cc;
} where
  found : (t : Transfer) × IsIn t (transfers_of s.manager.lock) × (t.index == index ≡ true)
  found = any_gives (λ t. t.index == index) (transfers_of s.manager.lock) there

  below : index < shape.total
  below = let e = eqb-true found.0.index index found.2 in let w = k.form.lock.transfer_index found.0 found.1 in omega (arith, e, w)

  none : (holder 0 s.manager.homes disk ≡ None) × (other_destination (transfers_of s.manager.lock) index disk ≡ None)
  none = or_else_none (holder 0 s.manager.homes disk) (other_destination (transfers_of s.manager.lock) index disk) free

  legal : IsLegalRetarget shape s.manager.homes s.manager.greatest s.manager.lock (grant_of s.manager.greatest (record { index = index; disk = disk }))
  legal = record {
    locked = locked;
    unswapped = unswapped;
    moves = there;
    home = record {
      index = below;
      epoch = refl;
      last = let w = k.form.lists.greatest_within index below in let n = eqb-false (greatest_at s.manager.greatest index) last_epoch unspent in omega (arith, w, n);
      disk = is_disk;
      free = holder_free 0 s.manager.homes disk none.0;
    };
    apart = other_gives (transfers_of s.manager.lock) index disk none.1;
  }

  gone : (t : Transfer) → IsIn t (transfers_of s.manager.lock) → t.index ≡ index → s.broken t.dest.disk ≡ true
  gone t i e =
      let f = any_gives (λ u. (u.index == index) && s.broken u.dest.disk) (transfers_of s.manager.lock) broken in
      let u = f.0 in
      let same_transfer = k.form.lock.one_by_index u t f.1 i (eqb-true u.index index (and_left (u.index == index) (s.broken u.dest.disk) f.2) ∙ sym e) in
      ap (λ (x : Transfer). s.broken x.dest.disk) (sym same_transfer) ∙ and_right (u.index == index) (s.broken u.dest.disk) f.2
