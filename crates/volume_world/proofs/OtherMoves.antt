-- Requests that are issued, the clock, restarts, and records of units that are settled.
use Rattle.std.proofs.Common.{◌≡◌, ℕ, ◌≤◌, ◌⊎◌, inl, inr, Bool, true, false, List, ◌∷◌, Option, Some, None, refl, sym, ap, subst, arith}
use Rattle.std.specs.Prelude.{◌&&◌, ◌==◌, not, is_some}
use Rattle.unit_id.specs.Lists.{IsIn}
use Rattle.unit_id.specs.Place.{Location, Place}
use Rattle.code_mode.specs.VolumeShape.{VolumeShape, last_time}
use Rattle.unit_id.specs.Request.{Request}
use Rattle.blob_node.specs.Units.{UnitRecord, with_at}
use Rattle.blob_node.specs.UnitAnswer.{with_written, settled_at}
use Rattle.volume_entry.specs.Manager.{Lock, ManagerRecord, settled}
use Rattle.volume_entry.specs.Reply.{Reply}
use Rattle.volume_world.specs.State.{State}
use Rattle.volume_world.specs.BlobStatus.{is_begun}
use Rattle.volume_world.specs.Move.{IsSendable, Issues, Ticks, Restarts, RestartsManager, SettlesUnit}
use Rattle.volume_world.specs.Fencing.{IsFenceOf}
use Rattle.volume_world.specs.Authority.{IsLicensed, WasIssued, IsDoubtSound}
use Rattle.blob_node.specs.Units.{is_row_record}
use Rattle.volume_world.specs.Invariant.{Kept}
use Rattle.volume_world.proofs.BeginEnd.{same}
use Rattle.volume_world.proofs.Rows.{shard_kept, mark_kept, free_kept}
use Rattle.volume_world.proofs.Given.{MayBeInDoubt, stock_kept}
use Rattle.volume_world.proofs.Releases.{release_kept}
use Rattle.volume_world.proofs.Fences.{fence_kept}
use Rattle.blob_node.proofs.Lookups.{at_one, there_now}
use Rattle.volume_world.proofs.Doubt.{dropped_kept, forgetful_kept, shut_kept}

-- a request that may be sent is licensed
sendable_licensed : (shape : VolumeShape) (s : State) (r : Request) → Kept shape s → IsSendable shape.total s.puts.status s.manager r
    → IsLicensed shape.total s.manager.homes s.manager.lock s.manager.granted s.manager.asked s.manager.committed s.puts.status s.broken s.units.is_made r
sendable_licensed shape s (Request.Create p) k h = inr (inr (inr h.0))
sendable_licensed shape s (Request.Fence p n) k h = tt
sendable_licensed shape s (Request.Put p b) k h = (h.0, h.2)
sendable_licensed shape s (Request.Read p b) k h = tt
sendable_licensed shape s (Request.List p n) k h = k.support.locks.lock_number_granted n h
sendable_licensed shape s (Request.Copy p b) k h = h.0
sendable_licensed shape s (Request.Mark p b) k h = h.0
sendable_licensed shape s (Request.Free p b) k h = h.0
sendable_licensed shape s (Request.Release p) k h = h.1

issued_more : (issued : List Request) (r : Request) (p : Place) (item : UnitRecord) → WasIssued issued p item → WasIssued (r ∷ issued) p item
issued_more issued r p (UnitRecord.Shard b) (inl h) = inl (inr h)
issued_more issued r p (UnitRecord.Shard b) (inr h) = inr (inr h)
issued_more issued r p (UnitRecord.Mark b) h = inr h
issued_more issued r p (UnitRecord.Free b) h = inr h
issued_more issued r p (UnitRecord.Fence n) h = inr h
issued_more issued r p UnitRecord.Release h = inr h

pub issue_kept : (shape : VolumeShape) (s : State) (r : Request) (t : State) → Kept shape s → Issues shape.total s r t → Kept shape t
issue_kept shape s r t k h = subst (Kept shape) (sym h.2) (record {
  placement = k.placement;
  provenance = k.provenance;
  leases = k.leases;
  fencing = record {
    below_is_cut_off = k.fencing.below_is_cut_off;
    below_is_given_up = k.fencing.below_is_given_up;
    fenced = k.fencing.fenced;
    fence_issued = fence;
  };
  durability = k.durability;
  deletion = k.deletion;
  sight = k.sight;
  succession = k.succession;
  authority = record {
    requests = record { committed_asked = k.authority.requests.committed_asked; issued = licensed };
    releases = record {
      released_below = k.authority.releases.released_below;
      doubtful_release_below = k.authority.releases.doubtful_release_below;
      unit_doubt_issued = λ p item e. issued_more s.post.issued r p item (k.authority.releases.unit_doubt_issued p item e);
    };
    hearing = k.authority.hearing;
    doubt_sound = k.authority.doubt_sound;
  };
  support = record {
    locks = k.support.locks;
    leases = k.support.leases;
    asks = k.support.asks;
    post = record { given_were_issued = λ g i. inr (k.support.post.given_were_issued g i); stale_release_explained = k.support.post.stale_release_explained };
    units = k.support.units;
  };
  form = k.form;
}) where
  fence : (p : Place) (n : ℕ) → IsIn (Request.Fence p n) (r ∷ s.post.issued) → IsFenceOf s.manager.lock s.manager.homes p n
  fence p n (inl e) = let sendable = subst (IsSendable shape.total s.puts.status s.manager) (sym e) h.1 in inl (sendable.0, sendable.1)
  fence p n (inr i) = k.fencing.fence_issued p n i

  licensed : (q : Request) → IsIn q (r ∷ s.post.issued) → IsLicensed shape.total s.manager.homes s.manager.lock s.manager.granted s.manager.asked s.manager.committed s.puts.status s.broken s.units.is_made q
  licensed q (inl e) = subst (IsLicensed shape.total s.manager.homes s.manager.lock s.manager.granted s.manager.asked s.manager.committed s.puts.status s.broken s.units.is_made) (sym e) (sendable_licensed shape s r k h.1)
  licensed q (inr i) = k.authority.requests.issued q i

-- later, what is known of a doubt still holds
doubt_later : (shape : VolumeShape) (homes : List Location) (greatest : List ℕ) (lease_end granted : ℕ) (lock : Option Lock) (asked committed : List ℕ) (old new : ℕ) (broken : ℕ → Bool)
    (is_made : Place → Bool) (fence : Place → Option ℕ) (is_released : Place → Bool) (doubt : Option ManagerRecord) → old ≤ new
    → IsDoubtSound shape homes greatest lease_end granted lock asked committed old broken is_made fence is_released doubt
    → IsDoubtSound shape homes greatest lease_end granted lock asked committed new broken is_made fence is_released doubt
doubt_later shape homes greatest lease_end granted lock asked committed old new broken is_made fence is_released None later h = h
doubt_later shape homes greatest lease_end granted lock asked committed old new broken is_made fence is_released (Some (ManagerRecord.Made first)) later h = h
doubt_later shape homes greatest lease_end granted lock asked committed old new broken is_made fence is_released (Some (ManagerRecord.Leased end)) later h = h
doubt_later shape homes greatest lease_end granted lock asked committed old new broken is_made fence is_released (Some (ManagerRecord.Locked task number grants)) later h =
    (h.0, (let a = h.1 in omega (arith, a, later)), h.2)
doubt_later shape homes greatest lease_end granted lock asked committed old new broken is_made fence is_released (Some (ManagerRecord.Retargeted grant)) later h = h
doubt_later shape homes greatest lease_end granted lock asked committed old new broken is_made fence is_released (Some ManagerRecord.Swapped) later h = h
doubt_later shape homes greatest lease_end granted lock asked committed old new broken is_made fence is_released (Some ManagerRecord.Unlocked) later h = h
doubt_later shape homes greatest lease_end granted lock asked committed old new broken is_made fence is_released (Some (ManagerRecord.Asked b)) later h = h
doubt_later shape homes greatest lease_end granted lock asked committed old new broken is_made fence is_released (Some (ManagerRecord.Committed b)) later h = h

later_kept : (shape : VolumeShape) (s : State) (time : ℕ) → Kept shape s → s.time ≤ time → time ≤ last_time → Kept shape (record s { time = time })
later_kept shape s time k later within = record {
  placement = k.placement;
  provenance = k.provenance;
  leases = record {
    seen_end = k.leases.seen_end;
    locked_after = λ l. let a = k.leases.locked_after l in omega (arith, a, later);
    taken_by_current = λ b o l. k.leases.taken_by_current b o (omega (arith, l, later));
    acceptance_answered = λ b i o l. k.leases.acceptance_answered b i o (omega (arith, l, later));
  };
  fencing = k.fencing;
  durability = k.durability;
  deletion = k.deletion;
  sight = k.sight;
  succession = k.succession;
  authority = record {
    requests = k.authority.requests;
    releases = k.authority.releases;
    hearing = k.authority.hearing;
    doubt_sound = doubt_later shape s.manager.homes s.manager.greatest s.manager.lease_end s.manager.granted s.manager.lock s.manager.asked s.manager.committed s.time time s.broken
        s.units.is_made s.units.fence s.units.is_released s.manager.doubt later k.authority.doubt_sound;
  };
  support = record {
    locks = k.support.locks;
    leases = record {
      lease_within_term = let a = k.support.leases.lease_within_term in omega (arith, a, later);
      doubtful_lease_within_term = λ end e. let a = k.support.leases.doubtful_lease_within_term end e in omega (arith, a, later);
    };
    asks = k.support.asks;
    post = k.support.post;
    units = k.support.units;
  };
  form = record {
    lists = record { homes_count = k.form.lists.homes_count; greatest_count = k.form.lists.greatest_count; greatest_within = k.form.lists.greatest_within; time_within = within };
    log = k.form.log;
    lock = k.form.lock;
    units = k.form.units;
  };
}

pub tick_kept : (shape : VolumeShape) (by : ℕ) (s : State) (reply : Reply) (t : State) → Kept shape s → Ticks by s reply t → Kept shape t
tick_kept shape by s (Reply.Now time) t k h =
    let within = k.form.lists.time_within in
    let e = h.0 in
    subst (Kept shape) (sym h.1) (later_kept shape s time k (omega (arith, e, within)) (omega (arith, e)))
tick_kept shape by s reply t k h = absurd h

pub restart_kept : (shape : VolumeShape) (disk : ℕ) (s : State) (reply : Reply) (t : State) → Kept shape s → Restarts disk s reply t → Kept shape t
restart_kept shape disk s Reply.Done t k (inl h) = same shape s t k h.1
restart_kept shape disk s Reply.Done t k (inr h) =
    subst (Kept shape) (sym h.2) (stock_kept shape s (λ place. not (place.disk == disk) && s.units.is_shut place) s.units.doubt k (λ p item e. inl e))
restart_kept shape disk s Reply.Fault t k h =
    subst (Kept shape) (sym h.2) (subst (λ units. Kept shape (record s { units = units })) (sym h.1.same) (stock_kept shape s t.units.is_shut s.units.doubt k (λ p item e. inl e)))
restart_kept shape disk s reply t k h = absurd h

pub restart_manager_kept : (shape : VolumeShape) (s : State) (reply : Reply) (t : State) → Kept shape s → RestartsManager s reply t → Kept shape t
restart_manager_kept shape s Reply.Done t k h = subst (Kept shape) (sym h.1) (forgetful_kept shape (record s { manager = settled s.manager }) (dropped_kept shape s k))
restart_manager_kept shape s Reply.Fault t k h = subst (Kept shape) (sym h) (shut_kept shape s k)
restart_manager_kept shape s reply t k h = absurd h

-- a chunk that is started with no record in doubt any more
settled_kept : (shape : VolumeShape) (s : State) (p : Place) → Kept shape s → Kept shape (record s { units = settled_at p s.units })
settled_kept shape s p k = stock_kept shape s (with_at p false s.units.is_shut) (with_at p None s.units.doubt) k
    (λ q item. at_one p None s.units.doubt (λ q now. now ≡ Some item → (s.units.doubt q ≡ Some item) ⊎ MayBeInDoubt s q item) (λ e. cc) q (λ e. inl e))

-- a unit with a record in doubt was made, and isn't released
pub doubt_made : (shape : VolumeShape) (s : State) (p : Place) (item : UnitRecord) → Kept shape s → s.units.doubt p ≡ Some item → s.units.is_made p ≡ true
doubt_made shape s p item k e = go (s.units.is_made p) refl where
  go : (m : Bool) → s.units.is_made p ≡ m → m ≡ true
  go true x = refl
  go false x = let f = k.form.units.unmade_has_no_doubt p x in cc

pub doubt_unreleased : (shape : VolumeShape) (s : State) (p : Place) (item : UnitRecord) → Kept shape s → s.units.doubt p ≡ Some item → s.units.is_released p ≡ false
doubt_unreleased shape s p item k e = go (s.units.is_released p) refl where
  go : (m : Bool) → s.units.is_released p ≡ m → m ≡ false
  go true x = let f = k.support.units.released_units_have_no_doubt p x in cc
  go false x = refl

unit_found : (shape : VolumeShape) (s : State) (p : Place) (item : UnitRecord) → Kept shape s → s.units.doubt p ≡ Some item → Kept shape (record s { units = with_written p (Some item) (settled_at p s.units) })
unit_found shape s p (UnitRecord.Shard b) k e =
    shard_kept shape (record s { units = settled_at p s.units }) p b (settled_kept shape s p k) (begun (k.authority.releases.unit_doubt_issued p (UnitRecord.Shard b) e))
    (doubt_made shape s p (UnitRecord.Shard b) k e) (doubt_unreleased shape s p (UnitRecord.Shard b) k e) where
      begun : WasIssued s.post.issued p (UnitRecord.Shard b) → is_begun (s.puts.status b) ≡ true
      begun (inl i) = (k.authority.requests.issued (Request.Put p b) i).0
      begun (inr i) = k.authority.requests.issued (Request.Copy p b) i
unit_found shape s p (UnitRecord.Mark b) k e =
    mark_kept shape (record s { units = settled_at p s.units }) p b (settled_kept shape s p k) (k.authority.requests.issued (Request.Mark p b) (k.authority.releases.unit_doubt_issued p (UnitRecord.Mark b) e))
    (doubt_made shape s p (UnitRecord.Mark b) k e) (doubt_unreleased shape s p (UnitRecord.Mark b) k e)
unit_found shape s p (UnitRecord.Free b) k e =
    free_kept shape (record s { units = settled_at p s.units }) p b (settled_kept shape s p k) (k.authority.requests.issued (Request.Free p b) (k.authority.releases.unit_doubt_issued p (UnitRecord.Free b) e))
    (doubt_made shape s p (UnitRecord.Free b) k e) (doubt_unreleased shape s p (UnitRecord.Free b) k e)
unit_found shape s p (UnitRecord.Fence n) k e =
    fence_kept shape (record s { units = settled_at p s.units }) p n (settled_kept shape s p k) (doubt_made shape s p (UnitRecord.Fence n) k e) (doubt_unreleased shape s p (UnitRecord.Fence n) k e)
    (k.fencing.fence_issued p n (k.authority.releases.unit_doubt_issued p (UnitRecord.Fence n) e)) (ap is_row_record (there_now p None s.units.doubt))
unit_found shape s p UnitRecord.Release k e =
    release_kept shape (record s { units = settled_at p s.units }) p (settled_kept shape s p k) (doubt_made shape s p UnitRecord.Release k e) (k.authority.releases.doubtful_release_below p e) (there_now p None s.units.doubt)

pub settle_unit_kept : (shape : VolumeShape) (p : Place) (s : State) (is_found : Bool) (t : State) → Kept shape s → SettlesUnit p s is_found t → Kept shape t
settle_unit_kept shape p s true t k h = subst (Kept shape) (sym h.2) (go (s.units.doubt p) refl h.1) where
  go : (d : Option UnitRecord) → s.units.doubt p ≡ d → is_some (s.units.doubt p) ≡ true → Kept shape (record s { units = with_written p (s.units.doubt p) (settled_at p s.units) })
  go None e x = cc
  go (Some item) e x = subst (λ d. Kept shape (record s { units = with_written p d (settled_at p s.units) })) (sym e) (unit_found shape s p item k e)
settle_unit_kept shape p s false t k h = subst (Kept shape) (sym h.1) (settled_kept shape s p k)
