-- A release and a fence keep what is kept.
use Rattle.std.proofs.Common.{◌≡◌, ℕ, ◌<◌, ◌≤◌, ◌⊎◌, inl, inr, Bool, true, false, Option, Some, None, refl, ◌∙◌, ap, subst, cond, arith}
use Rattle.std.specs.Prelude.{◌&&◌, ◌||◌, not, is_some}
use Rattle.unit_id.specs.Lists.{IsIn, any, is_in}
use Rattle.unit_id.specs.Place.{Place, at_home, is_place}
use Rattle.code_mode.specs.VolumeShape.{VolumeShape}
use Rattle.unit_id.specs.Request.{Request, Answer}
use Rattle.blob_node.specs.Units.{RowState, Units, has_row, is_deleted, is_live, with_at}
use Rattle.volume_entry.specs.Manager.{Transfer, ManagerRecord, home_at, current, transfers_of, is_swapped}
use Rattle.volume_world.specs.State.{State}
use Rattle.volume_world.specs.BlobStatus.{is_begun, lacks, is_bare, bare}
use Rattle.volume_world.specs.Blind.{hides_live, hides_mark, is_blind_live, is_blind_mark}
use Rattle.volume_world.specs.Provenance.{HasCause, IsBorneOut}
use Rattle.volume_world.specs.Authority.{IsDoubtSound}
use Rattle.volume_world.specs.Invariant.{Kept}
use Rattle.unit_id.proofs.Bools.{contrary, either}
use Rattle.unit_id.proofs.Counts.{count_more}
use Rattle.blob_node.proofs.Lookups.{at_one, elsewhere}

module _ (shape : VolumeShape) (s : State) (p : Place) (k : Kept shape s) (made : s.units.is_made p ≡ true) (below : p.epoch < (home_at s.manager.homes p.index).epoch) (settled : s.units.doubt p ≡ None) where
  row : Place → ℕ → Option RowState
  row = with_at p (λ bid. None) s.units.row

  fence : Place → Option ℕ
  fence = with_at p None s.units.fence

  is_released : Place → Bool
  is_released = with_at p true s.units.is_released

  released_units : Units
  released_units = record (s.units) { row = with_at p (λ bid. None) s.units.row; fence = with_at p None s.units.fence; is_released = with_at p true s.units.is_released }

  stays_released : (q : Place) → s.units.is_released q ≡ true → with_at p true s.units.is_released q ≡ true
  stays_released q h = at_one p true s.units.is_released (λ q now. now ≡ true) refl q h

  -- what isn't released now is as it was
  still : (A : Type 0) (new : A) (old : Place → A) (q : Place) → with_at p true s.units.is_released q ≡ false → (with_at p new old q ≡ old q) × (s.units.is_released q ≡ false)
  still A new old q = go (is_place q p) where
    go : (test : Bool) → cond test true (s.units.is_released q) ≡ false → (cond test new (old q) ≡ old q) × (s.units.is_released q ≡ false)
    go true h = cc
    go false h = (refl, h)

  borne : (r : Request) (a : Answer) → IsBorneOut s.puts.status s.manager.asked s.units r a
      → IsBorneOut s.puts.status s.manager.asked (record (s.units) { row = with_at p (λ bid. None) s.units.row; fence = with_at p None s.units.fence; is_released = with_at p true s.units.is_released }) r a
  borne (Request.List q n) (Answer.Listing said shown) h = record {
    live_begun = h.live_begun;
    marked_begun = h.marked_begun;
    marked_asked = h.marked_asked;
    live_stands = λ u b i. let o = still (ℕ → Option RowState) (λ bid. None) s.units.row q u in ap (λ f. has_row (f b)) o.0 ∙ h.live_stands o.1 b i;
    marked_stands = λ u b i. let o = still (ℕ → Option RowState) (λ bid. None) s.units.row q u in ap (λ f. is_deleted (f b)) o.0 ∙ h.marked_stands o.1 b i;
  }
  borne (Request.Put q b) Answer.Done h = λ u. let o = still (ℕ → Option RowState) (λ bid. None) s.units.row q u in ap (λ f. has_row (f b)) o.0 ∙ h o.1
  borne (Request.Put q b) Answer.Already h = λ u. let o = still (ℕ → Option RowState) (λ bid. None) s.units.row q u in ap (λ f. has_row (f b)) o.0 ∙ h o.1
  borne (Request.Put q b) Answer.Deleted h = λ u. let o = still (ℕ → Option RowState) (λ bid. None) s.units.row q u in ap (λ f. is_deleted (f b)) o.0 ∙ h o.1
  borne (Request.Copy q b) Answer.Done h = λ u. let o = still (ℕ → Option RowState) (λ bid. None) s.units.row q u in ap (λ f. has_row (f b)) o.0 ∙ h o.1
  borne (Request.Copy q b) Answer.Already h = λ u. let o = still (ℕ → Option RowState) (λ bid. None) s.units.row q u in ap (λ f. has_row (f b)) o.0 ∙ h o.1
  borne (Request.Copy q b) Answer.Deleted h = λ u. let o = still (ℕ → Option RowState) (λ bid. None) s.units.row q u in ap (λ f. is_deleted (f b)) o.0 ∙ h o.1
  borne (Request.Mark q b) Answer.Done h = λ u. let o = still (ℕ → Option RowState) (λ bid. None) s.units.row q u in ap (λ f. is_deleted (f b)) o.0 ∙ h o.1
  borne (Request.Mark q b) Answer.Already h = λ u. let o = still (ℕ → Option RowState) (λ bid. None) s.units.row q u in ap (λ f. is_deleted (f b)) o.0 ∙ h o.1
  borne (Request.Fence q n) Answer.Done h = elim (either (with_at p true s.units.is_released q)) [
    | inl now ↦ inl now
    | inr not_now ↦ let o = still (Option ℕ) None s.units.fence q not_now in elim h [
      | inl released ↦ absurd (contrary (s.units.is_released q) released o.1)
      | inr fenced ↦ inr (o.0 ∙ fenced)
    ]
  ]
  borne (Request.Release q) Answer.Done h = stays_released q h
  borne (Request.Release q) (Answer.Stale have) h = λ m. stays_released q (h m)
  borne r a h = h

  -- a current unit is another one
  current_other : (i : ℕ) → current s.manager.homes i ≡ p → ⊥
  current_other i e =
      let f = ap (λ (q : Place). q.epoch) e in
      let g = ap (λ (q : Place). (home_at s.manager.homes q.index).epoch) e in
      omega (arith, f, g, below)

  current_row : (i : ℕ) → with_at p (λ bid. None) s.units.row (current s.manager.homes i) ≡ s.units.row (current s.manager.homes i)
  current_row i = elsewhere p (λ bid. None) s.units.row (current s.manager.homes i) (current_other i)

  -- so is the destination of a transfer
  destination_other : (t : Transfer) → IsIn t (transfers_of s.manager.lock) → at_home t.index t.dest ≡ p → ⊥
  destination_other t i e = elim (either (is_swapped s.manager.lock)) [
    | inl swapped ↦ current_other t.index (ap (at_home t.index) (k.succession.is_current swapped t i) ∙ e)
    | inr unswapped ↦
        let above = k.support.locks.destinations_above_current unswapped t i in
        let f = ap (λ (q : Place). q.epoch) e in
        let g = ap (λ (q : Place). (home_at s.manager.homes q.index).epoch) e in
        absurd (omega (arith, above, f, g, below))
  ]

  destination_row : (t : Transfer) → IsIn t (transfers_of s.manager.lock) → with_at p (λ bid. None) s.units.row (at_home t.index t.dest) ≡ s.units.row (at_home t.index t.dest)
  destination_row t i = elsewhere p (λ bid. None) s.units.row (at_home t.index t.dest) (destination_other t i)

  sound : (doubt : Option ManagerRecord)
      → IsDoubtSound shape s.manager.homes s.manager.greatest s.manager.lease_end s.manager.granted s.manager.lock s.manager.asked s.manager.committed s.time s.broken s.units.is_made s.units.fence s.units.is_released doubt
      → IsDoubtSound shape s.manager.homes s.manager.greatest s.manager.lease_end s.manager.granted s.manager.lock s.manager.asked s.manager.committed s.time s.broken s.units.is_made
      (with_at p None s.units.fence) (with_at p true s.units.is_released) doubt
  sound None h = h
  sound (Some (ManagerRecord.Made first)) h = h
  sound (Some (ManagerRecord.Leased end)) h = h
  sound (Some (ManagerRecord.Locked task number grants)) h = h
  sound (Some (ManagerRecord.Retargeted grant)) h = h
  sound (Some ManagerRecord.Swapped) h = (
    h.0,
    h.1,
    (λ t i. elim (h.2 t i) [
      | inl broken ↦ inl broken
      | inr fenced ↦ inr (ap is_some (elsewhere p None s.units.fence (at_home t.index t.old) (λ e. current_other t.index (ap (at_home t.index) (k.support.locks.old_units_current h.1 t i) ∙ e))) ∙ fenced)
    ]),
  )
  sound (Some ManagerRecord.Unlocked) h = (h.0, (λ t i. elim (h.1 t i) [ inl broken ↦ inl broken | inr released ↦ inr (stays_released (at_home t.index t.old) released) ]))
  sound (Some (ManagerRecord.Asked b)) h = h
  sound (Some (ManagerRecord.Committed b)) h = h

  some_there : (q : Place) → is_some (with_at p None s.units.fence q) ≡ true → is_some (s.units.fence q) ≡ true
  some_there q = at_one p None s.units.fence (λ q now. is_some now ≡ true → is_some (s.units.fence q) ≡ true) (λ h. cc) q (λ h. h)

  fence_there : (q : Place) (n : ℕ) → with_at p None s.units.fence q ≡ Some n → s.units.fence q ≡ Some n
  fence_there q n = at_one p None s.units.fence (λ q now. now ≡ Some n → s.units.fence q ≡ Some n) (λ h. cc) q (λ h. h)

  pub release_kept : Kept shape (record s { units = record (s.units) { row = with_at p (λ bid. None) s.units.row; fence = with_at p None s.units.fence; is_released = with_at p true s.units.is_released } })
  release_kept = record {
    placement = k.placement;
    provenance = record {
      rows = λ q b. at_one p (λ bid. None) s.units.row (λ q now. HasCause (is_begun (s.puts.status b)) (is_in b s.manager.asked) (is_in b s.manager.committed) (now b)) tt q (k.provenance.rows q b);
      answers = λ g i. borne g.request g.answer (k.provenance.answers g i);
    };
    leases = k.leases;
    fencing = record {
      below_is_cut_off = λ q m h. elim (k.fencing.below_is_cut_off q m h) [
        | inl broken ↦ inl broken
        | inr (inl released) ↦ inr (inl (stays_released q released))
        | inr (inr fenced) ↦ inr (cut q fenced)
      ];
      below_is_given_up = λ q m h. elim (k.fencing.below_is_given_up q m h) [
        | inl broken ↦ inl broken
        | inr (inl released) ↦ inr (inl (stays_released q released))
        | inr (inr swapped) ↦ inr (inr swapped)
      ];
      fenced = λ q n h. k.fencing.fenced q n (fence_there q n h);
      fence_issued = k.fencing.fence_issued;
    };
    durability = λ b h. let f = count_more shape.total (lacks s.manager.homes s.broken (with_at p (λ bid. None) s.units.row) b) (lacks s.manager.homes s.broken s.units.row b) (λ i below_i x. lack b i x) in
        let d = k.durability b h in omega (arith, f, d);
    deletion = record {
      committed_bare = λ b h. let f = fewer_bare b in let d = k.deletion.committed_bare b h in omega (arith, f, d);
      doubtful_bare = λ b h. let f = fewer_bare b in let d = k.deletion.doubtful_bare b h in omega (arith, f, d);
      doubtful_unlocked = k.deletion.doubtful_unlocked;
    };
    sight = record {
      few_blind_live = λ l u b h. let f = count_more shape.total (is_blind_live s.manager.lock s.manager.homes s.broken (with_at p (λ bid. None) s.units.row) s.post.given b) (is_blind_live s.manager.lock s.manager.homes s.broken s.units.row s.post.given b)
          (λ i below_i x. subst (λ r. not (s.broken (home_at s.manager.homes i).disk) && (not (is_live (r b)) || any (hides_live s.manager.lock (current s.manager.homes i) b) s.post.given) ≡ true) (current_row i) x) in
          let d = k.sight.few_blind_live l u b h in omega (arith, f, d);
      few_blind_mark = λ l u b h. let f = count_more shape.total (is_blind_mark s.manager.lock s.manager.homes s.broken (with_at p (λ bid. None) s.units.row) s.post.given b) (is_blind_mark s.manager.lock s.manager.homes s.broken s.units.row s.post.given b)
          (λ i below_i x. subst (λ r. not (s.broken (home_at s.manager.homes i).disk) && (not (is_deleted (r b)) || any (hides_mark s.manager.lock (current s.manager.homes i) b) s.post.given) ≡ true) (current_row i) x) in
          let d = k.sight.few_blind_mark l u b h in omega (arith, f, d);
      listings_given = k.sight.listings_given;
      live_rows_stand = λ u t b i h. ap (λ r. has_row (r b)) (destination_row t i) ∙ k.sight.live_rows_stand u t b i h;
      marked_rows_stand = λ u t b i h. ap (λ r. is_deleted (r b)) (destination_row t i) ∙ k.sight.marked_rows_stand u t b i h;
    };
    succession = record {
      holds_acked = λ e t i b h. ap (λ r. is_live (r b)) (destination_row t i) ∙ k.succession.holds_acked e t i b h;
      holds_committed = λ e t i b h. ap (λ r. is_deleted (r b)) (destination_row t i) ∙ k.succession.holds_committed e t i b h;
      is_current = k.succession.is_current;
    };
    authority = record {
      requests = k.authority.requests;
      releases = record {
        released_below = λ q. at_one p true s.units.is_released (λ q now. now ≡ true → q.epoch < (home_at s.manager.homes q.index).epoch) (λ h. below) q (k.authority.releases.released_below q);
        doubtful_release_below = k.authority.releases.doubtful_release_below;
        unit_doubt_issued = k.authority.releases.unit_doubt_issued;
      };
      hearing = k.authority.hearing;
      doubt_sound = sound s.manager.doubt k.authority.doubt_sound;
    };
    support = record {
      locks = k.support.locks;
      leases = k.support.leases;
      asks = k.support.asks;
      post = record {
        given_were_issued = k.support.post.given_were_issued;
        stale_release_explained = λ q n i. elim (k.support.post.stale_release_explained q n i) [ inl released ↦ inl (stays_released q released) | inr later ↦ inr later ];
      };
      units = record {
        fenced_units_have_no_row_doubt = λ q h. k.support.units.fenced_units_have_no_row_doubt q (some_there q h);
        released_units_have_no_rows = λ q h b. no_rows q b h;
        released_units_have_no_fence = λ q h. no_fence q h;
        released_units_have_no_doubt = λ q. at_one p true s.units.is_released (λ q now. now ≡ true → s.units.doubt q ≡ None) (λ h. settled) q (k.support.units.released_units_have_no_doubt q);
      };
    };
    form = record {
      lists = k.form.lists;
      log = k.form.log;
      lock = k.form.lock;
      units = record {
        unmade_has_no_rows = λ q h b. at_one p (λ bid. None) s.units.row (λ q now. now b ≡ None) refl q (k.form.units.unmade_has_no_rows q h b);
        unmade_has_no_fence = λ q h. at_one p None s.units.fence (λ q now. now ≡ None) refl q (k.form.units.unmade_has_no_fence q h);
        unmade_is_unreleased = λ q h. at_one p true s.units.is_released (λ q now. s.units.is_made q ≡ false → now ≡ false) (λ u. absurd (contrary (s.units.is_made p) made u)) q (k.form.units.unmade_is_unreleased q) h;
        unmade_has_no_doubt = k.form.units.unmade_has_no_doubt;
      };
    };
  } where
    cut : (q : Place) → is_some (s.units.fence q) ≡ true → (with_at p true s.units.is_released q ≡ true) ⊎ (is_some (with_at p None s.units.fence q) ≡ true)
    cut q h = go (is_place q p) where
      go : (test : Bool) → (cond test true (s.units.is_released q) ≡ true) ⊎ (is_some (cond test None (s.units.fence q)) ≡ true)
      go true = inl refl
      go false = inr h

    lack : (b i : ℕ) → lacks s.manager.homes s.broken (with_at p (λ bid. None) s.units.row) b i ≡ true → lacks s.manager.homes s.broken s.units.row b i ≡ true
    lack b i x = subst (λ r. not (s.broken (home_at s.manager.homes i).disk) && not (is_live (r b)) ≡ true) (current_row i) x

    fewer_bare : (b : ℕ) → bare shape.total s.manager.homes s.broken (with_at p (λ bid. None) s.units.row) b ≤ bare shape.total s.manager.homes s.broken s.units.row b
    fewer_bare b = count_more shape.total (is_bare s.manager.homes s.broken (with_at p (λ bid. None) s.units.row) b) (is_bare s.manager.homes s.broken s.units.row b)
        (λ i below_i x. subst (λ r. not (s.broken (home_at s.manager.homes i).disk) && not (is_deleted (r b)) ≡ true) (current_row i) x)

    no_rows : (q : Place) (b : ℕ) → with_at p true s.units.is_released q ≡ true → with_at p (λ bid. None) s.units.row q b ≡ None
    no_rows q b = go (is_place q p) where
      go : (test : Bool) → cond test true (s.units.is_released q) ≡ true → (cond {A = ℕ → Option RowState} test (λ bid. None) (s.units.row q)) b ≡ None
      go true h = refl
      go false h = k.support.units.released_units_have_no_rows q h b

    no_fence : (q : Place) → with_at p true s.units.is_released q ≡ true → with_at p None s.units.fence q ≡ None
    no_fence q = go (is_place q p) where
      go : (test : Bool) → cond test true (s.units.is_released q) ≡ true → cond test None (s.units.fence q) ≡ None
      go true h = refl
      go false h = k.support.units.released_units_have_no_fence q h
