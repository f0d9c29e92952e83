-- A fence that is set keeps what is kept.
use Rattle.std.proofs.Common.{◌≡◌, ℕ, inl, inr, true, false, Option, Some, None, refl, ◌∙◌, ap, subst}
use Rattle.std.specs.Prelude.{is_some}
use Rattle.unit_id.specs.Place.{Place, at_home}
use Rattle.code_mode.specs.VolumeShape.{VolumeShape}
use Rattle.unit_id.specs.Request.{Request, Answer}
use Rattle.blob_node.specs.Units.{with_at, after_fence}
use Rattle.volume_entry.specs.Manager.{ManagerRecord}
use Rattle.volume_world.specs.State.{State}
use Rattle.volume_world.specs.Provenance.{IsBorneOut}
use Rattle.volume_world.specs.Fencing.{IsFenceOf}
use Rattle.volume_world.specs.Authority.{IsDoubtSound}
use Rattle.blob_node.specs.Units.{is_row_record}
use Rattle.volume_world.specs.Invariant.{Kept}
use Rattle.unit_id.proofs.Bools.{contrary}
use Rattle.blob_node.proofs.Lookups.{at_one}

module _ (shape : VolumeShape) (s : State) (p : Place) (n : ℕ) (k : Kept shape s) (made : s.units.is_made p ≡ true) (unreleased : s.units.is_released p ≡ false)
    (issued : IsFenceOf s.manager.lock s.manager.homes p n) (no_row : is_row_record (s.units.doubt p) ≡ false) where
  -- a fence that stands goes on standing
  stays_fenced : (q : Place) (m : ℕ) → s.units.fence q ≡ Some m → with_at p (after_fence n (s.units.fence p)) s.units.fence q ≡ Some m
  stays_fenced q m = at_one p (after_fence n (s.units.fence p)) s.units.fence (λ q now. s.units.fence q ≡ Some m → now ≡ Some m) (λ h. ap (after_fence n) h) q (λ h. h)

  stays_some : (q : Place) → is_some (s.units.fence q) ≡ true → is_some (with_at p (after_fence n (s.units.fence p)) s.units.fence q) ≡ true
  stays_some q = at_one p (after_fence n (s.units.fence p)) s.units.fence (λ q now. is_some (s.units.fence q) ≡ true → is_some now ≡ true) (go (s.units.fence p)) q (λ h. h) where
    go : (f : Option ℕ) → is_some f ≡ true → is_some (after_fence n f) ≡ true
    go None h = cc
    go (Some m) h = refl

  borne_fenced : (r : Request) (a : Answer) → IsBorneOut s.puts.status s.manager.asked s.units r a
      → IsBorneOut s.puts.status s.manager.asked (record (s.units) { fence = with_at p (after_fence n (s.units.fence p)) s.units.fence }) r a
  borne_fenced (Request.Fence q m) Answer.Done h = elim h [ inl released ↦ inl released | inr fenced ↦ inr (stays_fenced q m fenced) ]
  borne_fenced (Request.Put q b) Answer.Done h = h
  borne_fenced r a h = h

  sound_fenced : (doubt : Option ManagerRecord)
      → IsDoubtSound shape s.manager.homes s.manager.greatest s.manager.lease_end s.manager.granted s.manager.lock s.manager.asked s.manager.committed s.time s.broken s.units.is_made s.units.fence s.units.is_released doubt
      → IsDoubtSound shape s.manager.homes s.manager.greatest s.manager.lease_end s.manager.granted s.manager.lock s.manager.asked s.manager.committed s.time s.broken s.units.is_made
      (with_at p (after_fence n (s.units.fence p)) s.units.fence) s.units.is_released doubt
  sound_fenced None h = h
  sound_fenced (Some (ManagerRecord.Made first)) h = h
  sound_fenced (Some (ManagerRecord.Leased end)) h = h
  sound_fenced (Some (ManagerRecord.Locked task number grants)) h = h
  sound_fenced (Some (ManagerRecord.Retargeted grant)) h = h
  sound_fenced (Some ManagerRecord.Swapped) h = (h.0, h.1, (λ t i. elim (h.2 t i) [ inl broken ↦ inl broken | inr fenced ↦ inr (stays_some (at_home t.index t.old) fenced) ]))
  sound_fenced (Some ManagerRecord.Unlocked) h = h
  sound_fenced (Some (ManagerRecord.Asked b)) h = h
  sound_fenced (Some (ManagerRecord.Committed b)) h = h

  pub fence_kept : Kept shape (record s { units = record (s.units) { fence = with_at p (after_fence n (s.units.fence p)) s.units.fence } })
  fence_kept = record {
    placement = k.placement;
    provenance = record { rows = k.provenance.rows; answers = λ g i. borne_fenced g.request g.answer (k.provenance.answers g i) };
    leases = k.leases;
    fencing = record {
      below_is_cut_off = λ q m h. elim (k.fencing.below_is_cut_off q m h) [
        | inl broken ↦ inl broken
        | inr (inl released) ↦ inr (inl released)
        | inr (inr fenced) ↦ inr (inr (stays_some q fenced))
      ];
      below_is_given_up = k.fencing.below_is_given_up;
      fenced = λ q m. at_one p (after_fence n (s.units.fence p)) s.units.fence (λ q now. now ≡ Some m → IsFenceOf s.manager.lock s.manager.homes q m) (here m (s.units.fence p) refl) q (k.fencing.fenced q m);
      fence_issued = k.fencing.fence_issued;
    };
    durability = k.durability;
    deletion = k.deletion;
    sight = k.sight;
    succession = k.succession;
    authority = record { requests = k.authority.requests; releases = k.authority.releases; hearing = k.authority.hearing; doubt_sound = sound_fenced s.manager.doubt k.authority.doubt_sound };
    support = record {
      locks = k.support.locks;
      leases = k.support.leases;
      asks = k.support.asks;
      post = k.support.post;
      units = record {
        fenced_units_have_no_row_doubt = λ q. at_one p (after_fence n (s.units.fence p)) s.units.fence (λ q now. is_some now ≡ true → is_row_record (s.units.doubt q) ≡ false) (λ h. no_row) q (k.support.units.fenced_units_have_no_row_doubt q);
        released_units_have_no_rows = k.support.units.released_units_have_no_rows;
        released_units_have_no_fence = λ q h. at_one p (after_fence n (s.units.fence p)) s.units.fence (λ q now. s.units.is_released q ≡ true → now ≡ None) (λ r. absurd (contrary (s.units.is_released p) r unreleased)) q
            (k.support.units.released_units_have_no_fence q) h;
        released_units_have_no_doubt = k.support.units.released_units_have_no_doubt;
      };
    };
    form = record {
      lists = k.form.lists;
      log = k.form.log;
      lock = k.form.lock;
      units = record {
        unmade_has_no_rows = k.form.units.unmade_has_no_rows;
        unmade_has_no_fence = λ q h. at_one p (after_fence n (s.units.fence p)) s.units.fence (λ q now. s.units.is_made q ≡ false → now ≡ None) (λ u. absurd (contrary (s.units.is_made p) made u)) q (k.form.units.unmade_has_no_fence q) h;
        unmade_is_unreleased = k.form.units.unmade_is_unreleased;
        unmade_has_no_doubt = k.form.units.unmade_has_no_doubt;
      };
    };
  } where
    here : (m : ℕ) (f : Option ℕ) → s.units.fence p ≡ f → after_fence n f ≡ Some m → IsFenceOf s.manager.lock s.manager.homes p m
    here m None e h = let f : n ≡ m = cc in subst (IsFenceOf s.manager.lock s.manager.homes p) f issued
    here m (Some first) e h = k.fencing.fenced p m (e ∙ h)
