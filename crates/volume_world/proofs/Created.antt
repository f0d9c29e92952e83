-- A unit that is created keeps what is kept.
use Rattle.std.proofs.Common.{◌≡◌, ◌<◌, ◌≤◌, ◌⊎◌, inl, inr, true, false, Option, Some, None, refl, sym, ◌∙◌, ap, subst, arith}
use Rattle.std.specs.Prelude.{◌&&◌, ◌==◌}
use Rattle.unit_id.specs.Lists.{IsIn}
use Rattle.unit_id.specs.Place.{Location, Place, at_home}
use Rattle.code_mode.specs.VolumeShape.{VolumeShape}
use Rattle.unit_id.specs.Request.{Request, Answer, Given}
use Rattle.blob_node.specs.Units.{Units, with_at, with_unit}
use Rattle.blob_node.specs.UnitAnswer.{Effect, Answers, view_at}
use Rattle.volume_entry.specs.Manager.{Transfer, ManagerRecord, home_at, greatest_at, current, transfers_of, is_swapped, is_destination}
use Rattle.volume_world.specs.State.{State}
use Rattle.volume_world.specs.Placement.{Placement}
use Rattle.volume_world.specs.Provenance.{IsBorneOut}
use Rattle.volume_world.specs.Authority.{IsLicensed, IsDoubtSound}
use Rattle.volume_world.specs.Invariant.{Kept}
use Rattle.unit_id.proofs.Bools.{and_both, contrary, equal_test, either}
use Rattle.unit_id.proofs.Membership.{gives_any}
use Rattle.volume_world.proofs.Given.{answer_kept}
use Rattle.volume_world.proofs.GivenByUnits.{handled, inert_given, other_given}
use Rattle.volume_world.proofs.Written.{destination_there_gives}
use Rattle.blob_node.proofs.Lookups.{at_one}
use Rattle.volume_world.proofs.Locked.{placement_locked}
use Rattle.volume_world.proofs.Redirected.{placement_with}

-- a value that stands already
with_same : {A : Type 0} (place : Place) (new : A) (old : Place → A) → old place ≡ new → with_at place new old ≡ old
with_same place new old e = λ i q. at_one place new old (λ q now. now ≡ old q) (sym e) q refl i

-- of a unit that isn't made there is nothing to clear
pub with_unit_is : (shape : VolumeShape) (s : State) (p : Place) → Kept shape s → s.units.is_made p ≡ false
    → with_unit p s.units ≡ record (s.units) { is_made = with_at p true s.units.is_made; is_shut = with_at p false s.units.is_shut }
with_unit_is shape s p k unmade = λ i. record (s.units) {
  is_made = with_at p true s.units.is_made;
  row = with_same p (λ bid. None) s.units.row (λ j bid. k.form.units.unmade_has_no_rows p unmade bid j) i;
  fence = with_same p None s.units.fence (k.form.units.unmade_has_no_fence p unmade) i;
  is_released = with_same p false s.units.is_released (k.form.units.unmade_is_unreleased p unmade) i;
  is_shut = with_at p false s.units.is_shut;
  doubt = with_same p None s.units.doubt (k.form.units.unmade_has_no_doubt p unmade) i;
}

-- where a unit may be made: at the home of its index, or as a destination
abbrev MayStand : VolumeShape → State → Place → Type 0
MayStand shape s p = ((p.index < shape.total) × (p ≡ current s.manager.homes p.index)) ⊎ ((t : Transfer) × IsIn t (transfers_of s.manager.lock) × (p ≡ at_home t.index t.dest))

may_stand : (shape : VolumeShape) (s : State) (p : Place) → s.units.is_made p ≡ false → s.broken p.disk ≡ false
    → IsLicensed shape.total s.manager.homes s.manager.lock s.manager.granted s.manager.asked s.manager.committed s.puts.status s.broken s.units.is_made (Request.Create p) → MayStand shape s p
may_stand shape s p unmade unbroken (inl broken) = absurd (contrary (s.broken p.disk) broken unbroken)
may_stand shape s p unmade unbroken (inr (inl made)) = absurd (contrary (s.units.is_made p) made unmade)
may_stand shape s p unmade unbroken (inr (inr (inl here))) = inl here
may_stand shape s p unmade unbroken (inr (inr (inr dest))) = inr (destination_there_gives (transfers_of s.manager.lock) p dest)

module _ (shape : VolumeShape) (s : State) (p : Place) (k : Kept shape s) (stands : MayStand shape s p) where
  index_within : p.index < shape.total
  index_within = elim stands [
    | inl here ↦ here.0
    | inr dest ↦ let e = ap (λ (q : Place). q.index) dest.2 in let w = k.form.lock.transfer_index dest.0 dest.1 in omega (arith, e, w)
  ]

  -- it stands at the home of its index, or above it as a destination of a lock that isn't swapped
  at_home_or_above : (p ≡ current s.manager.homes p.index) ⊎ ((is_swapped s.manager.lock ≡ false) × ((t : Transfer) × IsIn t (transfers_of s.manager.lock) × (p ≡ at_home t.index t.dest)))
  at_home_or_above = elim stands [
    | inl here ↦ inl here.1
    | inr dest ↦ elim (either (is_swapped s.manager.lock)) [
      | inl swapped ↦ inl (dest.2 ∙ ap (at_home dest.0.index) (sym (k.succession.is_current swapped dest.0 dest.1)) ∙ (λ j. current s.manager.homes (sym (ap (λ (q : Place). q.index) dest.2) j)))
      | inr unswapped ↦ inr (unswapped, (dest.0, dest.1, dest.2))
    ]
  ]

  above_home : is_swapped s.manager.lock ≡ false → (t : Transfer) → IsIn t (transfers_of s.manager.lock) → p ≡ at_home t.index t.dest → (home_at s.manager.homes p.index).epoch < p.epoch
  above_home unswapped t i e =
      let a = k.support.locks.destinations_above_current unswapped t i in
      let f = ap (λ (q : Place). q.epoch) e in
      let g = ap (λ (q : Place). (home_at s.manager.homes q.index).epoch) e in
      omega (arith, a, f, g)

  not_below : (home_at s.manager.homes p.index).epoch ≤ p.epoch
  not_below = elim at_home_or_above [
    | inl here ↦ let e = ap (λ (q : Place). q.epoch) here in omega (arith, e)
    | inr dest ↦ let a = above_home dest.0 dest.1.0 dest.1.1 dest.1.2 in omega (arith, a)
  ]

  home_disk : p.epoch ≡ (home_at s.manager.homes p.index).epoch → p.disk ≡ (home_at s.manager.homes p.index).disk
  home_disk e = elim at_home_or_above [
    | inl here ↦ ap (λ (q : Place). q.disk) here
    | inr dest ↦ let a = above_home dest.0 dest.1.0 dest.1.1 dest.1.2 in absurd (omega (arith, a, e))
  ]

  dest_disk : (t : Transfer) → IsIn t (transfers_of s.manager.lock) → p.index ≡ t.index → p.epoch ≡ t.dest.epoch → p.disk ≡ t.dest.disk
  dest_disk t i e f = elim stands [
    | inr dest ↦ ap (λ (q : Place). q.disk) dest.2 ∙ ap (λ (u : Transfer). u.dest.disk) (k.form.lock.one_by_index dest.0 t dest.1 i (ap (λ (q : Place). q.index) (sym dest.2) ∙ e))
    | inl here ↦ elim (either (is_swapped s.manager.lock)) [
      | inl swapped ↦ ap (λ (q : Place). q.disk) here.1 ∙ ap (λ n. (home_at s.manager.homes n).disk) e ∙ ap (λ (h : Location). h.disk) (k.succession.is_current swapped t i)
      | inr unswapped ↦
          let a = k.support.locks.destinations_above_current unswapped t i in
          let x = ap (λ (q : Place). q.epoch) here.1 in
          let y = ap (λ n. (home_at s.manager.homes n).epoch) e in
          absurd (omega (arith, a, x, y, f))
    ]
  ]

  old_disk : (t : Transfer) → IsIn t (transfers_of s.manager.lock) → p.index ≡ t.index → p.epoch ≡ t.old.epoch → p.disk ≡ t.old.disk
  old_disk t i e f = elim (either (is_swapped s.manager.lock)) [
    | inl swapped ↦
        let a = k.support.locks.old_units_below_current swapped t i in
        let y = ap (λ n. (home_at s.manager.homes n).epoch) e in
        let b = not_below in
        absurd (omega (arith, a, y, b, f))
    | inr unswapped ↦
        let home : home_at s.manager.homes p.index ≡ t.old = ap (home_at s.manager.homes) e ∙ k.support.locks.old_units_current unswapped t i in
        home_disk (f ∙ ap (λ (h : Location). h.epoch) (sym home)) ∙ ap (λ (h : Location). h.disk) home
  ]

  given : p.epoch ≤ greatest_at s.manager.greatest p.index
  given = elim stands [
    | inl here ↦ let e = ap (λ (q : Place). q.epoch) here.1 in let c = k.placement.current_given p.index here.0 in omega (arith, e, c)
    | inr dest ↦
        let e = ap (λ (q : Place). q.epoch) dest.2 in
        let c = k.placement.destination_given dest.0 dest.1 in
        let g = ap (λ (q : Place). greatest_at s.manager.greatest q.index) dest.2 in
        omega (arith, e, c, g)
  ]

  is_dest : (home_at s.manager.homes p.index).epoch < p.epoch → is_destination (transfers_of s.manager.lock) p ≡ true
  is_dest h = elim stands [
    | inl here ↦ let e = ap (λ (q : Place). q.epoch) here.1 in absurd (omega (arith, e, h))
    | inr dest ↦ gives_any (λ t. (t.index == p.index) && (t.dest.epoch == p.epoch)) (transfers_of s.manager.lock) dest.0 dest.1
        (and_both (dest.0.index == p.index) (dest.0.dest.epoch == p.epoch) (equal_test dest.0.index p.index (ap (λ (q : Place). q.index) (sym dest.2))) (equal_test dest.0.dest.epoch p.epoch (ap (λ (q : Place). q.epoch) (sym dest.2))))
  ]

  one_there : (q : Place) → s.units.is_made q ≡ true → q.index ≡ p.index → q.epoch ≡ p.epoch → q.disk ≡ p.disk
  one_there q m e f = elim stands [
    | inl here ↦ k.placement.current_at_home q m (f ∙ ap (λ (x : Place). x.epoch) here.1 ∙ ap (λ n. (home_at s.manager.homes n).epoch) (sym e)) ∙ ap (λ n. (home_at s.manager.homes n).disk) e ∙ ap (λ (x : Place). x.disk) (sym here.1)
    | inr dest ↦ k.placement.destination_at_home q dest.0 m dest.1 (e ∙ ap (λ (x : Place). x.index) dest.2) (f ∙ ap (λ (x : Place). x.epoch) dest.2) ∙ ap (λ (x : Place). x.disk) (sym dest.2)
  ]

  not_left : is_swapped s.manager.lock ≡ true → (t : Transfer) → IsIn t (transfers_of s.manager.lock) → p.index ≡ t.index → p.disk ≡ t.old.disk → ⊥
  not_left swapped t i e f = elim at_home_or_above [
    | inl here ↦ k.placement.old_disk_left swapped t i (sym f ∙ ap (λ (q : Place). q.disk) here ∙ ap (λ n. (home_at s.manager.homes n).disk) e)
    | inr dest ↦ contrary (is_swapped s.manager.lock) swapped dest.0
  ]

  -- what is made now was made, or is the new unit
  was_made : (q : Place) → with_at p true s.units.is_made q ≡ true → (q ≡ p) ⊎ (s.units.is_made q ≡ true)
  was_made q = at_one p true s.units.is_made (λ q now. now ≡ true → (q ≡ p) ⊎ (s.units.is_made q ≡ true)) (λ h. inl refl) q (λ h. inr h)

  stays_made : (q : Place) → s.units.is_made q ≡ true → with_at p true s.units.is_made q ≡ true
  stays_made q h = at_one p true s.units.is_made (λ q now. now ≡ true) refl q h

  still_unmade : (q : Place) → with_at p true s.units.is_made q ≡ false → s.units.is_made q ≡ false
  still_unmade q = at_one p true s.units.is_made (λ q now. now ≡ false → s.units.is_made q ≡ false) (λ h. cc) q (λ h. h)

  placement : Placement shape.total s.manager.homes s.manager.greatest s.manager.lock s.broken (with_at p true s.units.is_made)
  placement = record {
    made_index = λ q m. elim (was_made q m) [ inl e ↦ subst (λ x. x.index < shape.total) (sym e) index_within | inr old ↦ k.placement.made_index q old ];
    one_disk = λ q r m n. one q r (was_made q m) (was_made r n);
    current_at_home = λ q m. elim (was_made q m) [
      | inl e ↦ subst (λ x. x.epoch ≡ (home_at s.manager.homes x.index).epoch → x.disk ≡ (home_at s.manager.homes x.index).disk) (sym e) home_disk
      | inr old ↦ k.placement.current_at_home q old
    ];
    destination_at_home = λ q t m i. elim (was_made q m) [
      | inl e ↦ subst (λ x. x.index ≡ t.index → x.epoch ≡ t.dest.epoch → x.disk ≡ t.dest.disk) (sym e) (dest_disk t i)
      | inr old ↦ k.placement.destination_at_home q t old i
    ];
    old_at_home = λ q t m i. elim (was_made q m) [
      | inl e ↦ subst (λ x. x.index ≡ t.index → x.epoch ≡ t.old.epoch → x.disk ≡ t.old.disk) (sym e) (old_disk t i)
      | inr old ↦ k.placement.old_at_home q t old i
    ];
    homes_apart = k.placement.homes_apart;
    destinations_free = k.placement.destinations_free;
    destinations_apart = k.placement.destinations_apart;
    made_given = λ q m. elim (was_made q m) [ inl e ↦ subst (λ x. x.epoch ≤ greatest_at s.manager.greatest x.index) (sym e) given | inr old ↦ k.placement.made_given q old ];
    current_given = k.placement.current_given;
    destination_given = k.placement.destination_given;
    above_current = λ q m. elim (was_made q m) [
      | inl e ↦ subst (λ x. (home_at s.manager.homes x.index).epoch < x.epoch → (s.broken x.disk ≡ true) ⊎ (is_destination (transfers_of s.manager.lock) x ≡ true)) (sym e) (λ h. inr (is_dest h))
      | inr old ↦ k.placement.above_current q old
    ];
    old_disk_left = k.placement.old_disk_left;
    old_disk_newest = λ w t i u q m. elim (was_made q m) [
      | inl e ↦ subst (λ x. x.index ≡ t.index → x.disk ≡ t.old.disk → x.epoch ≤ t.old.epoch) (sym e) (λ f g. absurd (not_left w t i f g))
      | inr old ↦ k.placement.old_disk_newest w t i u q old
    ];
  } where
    one : (q r : Place) → (q ≡ p) ⊎ (s.units.is_made q ≡ true) → (r ≡ p) ⊎ (s.units.is_made r ≡ true) → q.index ≡ r.index → q.epoch ≡ r.epoch → q.disk ≡ r.disk
    one q r (inl a) (inl b) e f = ap (λ (x : Place). x.disk) (a ∙ sym b)
    one q r (inl a) (inr b) e f = ap (λ (x : Place). x.disk) a ∙ sym (one_there r b (sym e ∙ ap (λ (x : Place). x.index) a) (sym f ∙ ap (λ (x : Place). x.epoch) a))
    one q r (inr a) (inl b) e f = one_there q a (e ∙ ap (λ (x : Place). x.index) b) (f ∙ ap (λ (x : Place). x.epoch) b) ∙ ap (λ (x : Place). x.disk) (sym b)
    one q r (inr a) (inr b) e f = k.placement.one_disk q r a b e f

  new_units : Units
  new_units = record (s.units) { is_made = with_at p true s.units.is_made; is_shut = with_at p false s.units.is_shut }

  borne : (r : Request) (a : Answer) → IsIn r s.post.issued → IsBorneOut s.puts.status s.manager.asked s.units r a
      → IsBorneOut s.puts.status s.manager.asked (record (s.units) { is_made = with_at p true s.units.is_made; is_shut = with_at p false s.units.is_shut }) r a
  borne (Request.Release q) (Answer.Stale have) i h = λ m. elim (was_made q m) [
    | inl e ↦
        let below = subst (λ x. x.epoch < (home_at s.manager.homes x.index).epoch) e (k.authority.requests.issued (Request.Release q) i) in
        let b = not_below in absurd (omega (arith, below, b))
    | inr old ↦ h old
  ]
  borne (Request.Put q b) Answer.Done i h = h
  borne r a i h = h

  license : (r : Request) → IsLicensed shape.total s.manager.homes s.manager.lock s.manager.granted s.manager.asked s.manager.committed s.puts.status s.broken s.units.is_made r
      → IsLicensed shape.total s.manager.homes s.manager.lock s.manager.granted s.manager.asked s.manager.committed s.puts.status s.broken (with_at p true s.units.is_made) r
  license (Request.Create q) (inl broken) = inl broken
  license (Request.Create q) (inr (inl made)) = inr (inl (stays_made q made))
  license (Request.Create q) (inr (inr rest)) = inr (inr rest)
  license (Request.Put q b) h = h
  license (Request.List q n) h = h
  license (Request.Release q) h = h
  license (Request.Fence q n) h = h
  license (Request.Read q b) h = h
  license (Request.Copy q b) h = h
  license (Request.Mark q b) h = h
  license (Request.Free q b) h = h

  sound : (doubt : Option ManagerRecord)
      → IsDoubtSound shape s.manager.homes s.manager.greatest s.manager.lease_end s.manager.granted s.manager.lock s.manager.asked s.manager.committed s.time s.broken s.units.is_made s.units.fence s.units.is_released doubt
      → IsDoubtSound shape s.manager.homes s.manager.greatest s.manager.lease_end s.manager.granted s.manager.lock s.manager.asked s.manager.committed s.time s.broken (with_at p true s.units.is_made) s.units.fence s.units.is_released doubt
  sound None h = h
  sound (Some (ManagerRecord.Made first)) h = h
  sound (Some (ManagerRecord.Leased end)) h = h
  sound (Some (ManagerRecord.Locked task number grants)) h = (
    h.0,
    h.1,
    placement_locked shape s.manager.homes s.manager.greatest s.manager.lease_end s.manager.granted s.manager.lock s.broken (with_at p true s.units.is_made) task number grants
        k.form.lists.homes_count k.form.lists.greatest_count h.0 placement,
  )
  sound (Some (ManagerRecord.Retargeted grant)) h =
      (h.0, h.1, placement_with shape s.manager.homes s.manager.greatest s.manager.lock s.broken (with_at p true s.units.is_made) grant k.form.lists.homes_count k.form.lists.greatest_count h.0 h.1 k.form.lock.transfer_index placement)
  sound (Some ManagerRecord.Swapped) h = h
  sound (Some ManagerRecord.Unlocked) h = h
  sound (Some (ManagerRecord.Asked b)) h = h
  sound (Some (ManagerRecord.Committed b)) h = h

  pub created_kept : Kept shape (record s { units = record (s.units) { is_made = with_at p true s.units.is_made; is_shut = with_at p false s.units.is_shut } })
  created_kept = record {
    placement = placement;
    provenance = record { rows = k.provenance.rows; answers = λ g i. borne g.request g.answer (k.support.post.given_were_issued g i) (k.provenance.answers g i) };
    leases = k.leases;
    fencing = record {
      below_is_cut_off = λ q m h. elim (was_made q m) [ inl e ↦ absurd (below q e h) | inr old ↦ k.fencing.below_is_cut_off q old h ];
      below_is_given_up = λ q m h. elim (was_made q m) [ inl e ↦ absurd (below q e h) | inr old ↦ k.fencing.below_is_given_up q old h ];
      fenced = k.fencing.fenced;
      fence_issued = k.fencing.fence_issued;
    };
    durability = k.durability;
    deletion = k.deletion;
    sight = k.sight;
    succession = k.succession;
    authority = record {
      requests = record { committed_asked = k.authority.requests.committed_asked; issued = λ r i. license r (k.authority.requests.issued r i) };
      releases = k.authority.releases;
      hearing = k.authority.hearing;
      doubt_sound = sound s.manager.doubt k.authority.doubt_sound;
    };
    support = record {
      locks = k.support.locks;
      leases = k.support.leases;
      asks = k.support.asks;
      post = record {
        given_were_issued = k.support.post.given_were_issued;
        stale_release_explained = λ q n i. elim (k.support.post.stale_release_explained q n i) [
          | inl released ↦ inl released
          | inr later ↦ inr (later.0, later.1, stays_made (record { index = q.index; epoch = later.0; disk = q.disk }) later.2)
        ];
      };
      units = k.support.units;
    };
    form = record {
      lists = k.form.lists;
      log = k.form.log;
      lock = k.form.lock;
      units = record {
        unmade_has_no_rows = λ q h. k.form.units.unmade_has_no_rows q (still_unmade q h);
        unmade_has_no_fence = λ q h. k.form.units.unmade_has_no_fence q (still_unmade q h);
        unmade_is_unreleased = λ q h. k.form.units.unmade_is_unreleased q (still_unmade q h);
        unmade_has_no_doubt = λ q h. k.form.units.unmade_has_no_doubt q (still_unmade q h);
      };
    };
  } where
    below : (q : Place) → q ≡ p → q.epoch < (home_at s.manager.homes q.index).epoch → ⊥
    below q e h = let x = subst (λ y. y.epoch < (home_at s.manager.homes y.index).epoch) e h in let b = not_below in omega (arith, x, b)

pub create_handled : (shape : VolumeShape) (s : State) (p : Place) (a : Answer) (e : Effect) → Kept shape s → IsIn (Request.Create p) s.post.issued
    → Answers (view_at s.broken s.units p) (Request.Create p) a e → Kept shape (handled s (Request.Create p) a e)
create_handled shape s p Answer.Broken Effect.Nothing k i h = answer_kept shape s _ k (inert_given shape s (Request.Create p) Answer.Broken i refl)
create_handled shape s p (Answer.Stale have) Effect.Nothing k i h =
    answer_kept shape s _ k (other_given shape s (Request.Create p) (Answer.Stale have) i tt (λ c x. cc) (λ c. refl) (λ q n x. let r = ap (λ (g : Given). g.request) x in cc))
create_handled shape s p Answer.Already Effect.Nothing k i h =
    answer_kept shape s _ k (other_given shape s (Request.Create p) Answer.Already i tt (λ c x. cc) (λ c. refl) (λ q n x. let r = ap (λ (g : Given). g.request) x in cc))
create_handled shape s p Answer.Fault Effect.Nothing k i h = answer_kept shape s _ k (inert_given shape s (Request.Create p) Answer.Fault i refl)
create_handled shape s p Answer.Done Effect.Made k i h =
    let s2 = record s { units = with_unit p s.units } in
    let k2 : Kept shape s2 = subst (λ units. Kept shape (record s { units = units })) (sym (with_unit_is shape s p k h.1))
    (created_kept shape s p k (may_stand shape s p h.1 h.0.unbroken (k.authority.requests.issued (Request.Create p) i))) in
    answer_kept shape s2 _ k2 (other_given shape s2 (Request.Create p) Answer.Done i tt (λ c x. cc) (λ c. refl) (λ q n x. let r = ap (λ (g : Given). g.request) x in cc))
create_handled shape s p a e k i h = absurd h.1
