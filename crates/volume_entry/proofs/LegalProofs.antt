-- A step that isn't refused writes a legal record.
use Rattle.std.proofs.Common.{◌≡◌, ℕ, ◌+◌, ◌<◌, ◌≤◌, Bool, true, false, List, Option, Some, None, refl, sym, ◌∙◌, ap, subst, arith, []}
use Rattle.std.specs.Prelude.{◌==◌, is_some, is_none}
use Rattle.std.proofs.lemmas.Bool.{eqb-false, ltb-false}
use Rattle.unit_id.specs.Lists.{IsIn, any, is_in}
use Rattle.unit_id.specs.declared.targets.Target.{Target}
use Rattle.unit_id.proofs.Membership.{none_passes}
use Rattle.unit_id.proofs.Tables.{all_fail, AllFail}
use Rattle.code_mode.specs.VolumeShape.{VolumeShape, lease_length, last_time, last_epoch}
use Rattle.volume_entry.specs.Manager.{Grant, Transfer, Lock, ManagerRecord, Manager, greatest_at, transfers_of, is_swapped, IsDisk, IsNextHome, IsLegal}
use Rattle.volume_entry.specs.ManagerStep.{AreTargets, first_held, holder, other_destination, grant_of, is_spent, lease_tests, lease_refusal, lock_tests, lock_refusal, lock_record, retarget_tests, retarget_refusal, retarget_record, retarget_holder, swap_tests, unlock_tests, ask_tests, commit_tests}
use Rattle.volume_entry.specs.Laws.{IsWithinLast, StepsWriteLegalRecords}
use Rattle.volume_entry.proofs.Locks.{no_lock}
use Rattle.volume_entry.proofs.Grants.{or_else_none, none_found, holder_free, held_free, held_apart, grant_gives, grants_length, grants_order, other_gives}
use Rattle.volume_entry.proofs.StepProofs.{false_not}

is_locked : (lock : Option Lock) → is_none lock ≡ false → is_some lock ≡ true
is_locked None e = cc
is_locked (Some lock) e = refl

lease_legal : (shape : VolumeShape) (time : ℕ) (m : Manager) → time ≤ last_time → lease_refusal m ≡ None → IsLegal shape m (ManagerRecord.Leased (time + lease_length))
lease_legal shape time m within h = (no_lock m.lock (all_fail (lease_tests m) h).0, omega (arith, within))

-- an epoch that isn't spent has a next one
next_within : (shape : VolumeShape) (greatest : List ℕ) (index : ℕ) → IsWithinLast shape greatest → index < shape.total → is_spent greatest index ≡ false → greatest_at greatest index + 1 ≤ last_epoch
next_within shape greatest index within below unspent =
    let w = within index below in
    let n = eqb-false (greatest_at greatest index) last_epoch unspent in
    omega (arith, w, n)

lock_legal : (shape : VolumeShape) (broken : ℕ → Bool) (time task : ℕ) (targets : List Target) (m : Manager) → time ≤ last_time → IsWithinLast shape m.greatest → AreTargets shape targets
    → lock_refusal broken time targets m ≡ None → IsLegal shape m (lock_record task targets m)
lock_legal shape broken time task targets m within last are h = record {
  unlocked = no_lock m.lock fails.0;
  in_time = let over = ltb-false time m.lease_end fails.1.0 in omega (arith, over, within);
  next = refl;
  some = let l = grants_length m.greatest targets in let a = are.some in omega (arith, l, a);
  most = let l = grants_length m.greatest targets in let a = are.most in omega (arith, l, a);
  order = grants_order m.greatest targets are.order;
  homes = λ t i. next_home t (grant_gives m.greatest targets t i);
  apart = λ t u i j e.
      let x = grant_gives m.greatest targets t i in
      let y = grant_gives m.greatest targets u j in
      ap (λ (z : Grant). z.index) x.2 ∙ held_apart m.homes [] targets free x.0 y.0 x.1 y.1 (ap (λ (z : Grant). z.dest.disk) (sym x.2) ∙ e ∙ ap (λ (z : Grant). z.dest.disk) y.2) ∙ ap (λ (z : Grant). z.index) (sym y.2);
} where
  fails : AllFail (lock_tests broken time targets m)
  fails = all_fail (lock_tests broken time targets m) h

  free : first_held m.homes [] targets ≡ None
  free = none_found (first_held m.homes [] targets) fails.1.1.1.0

  next_home : (t : Grant) → (w : Target) × IsIn w targets × (t ≡ grant_of m.greatest w) → IsNextHome shape m.homes m.greatest t
  next_home t found = subst (IsNextHome shape m.homes m.greatest) (sym found.2) (record {
    index = (are.each found.0 found.1).index;
    epoch = refl;
    last = next_within shape m.greatest found.0.index last (are.each found.0 found.1).index (none_passes (λ w. is_spent m.greatest w.index) targets fails.1.1.1.1.0 found.0 found.1);
    disk = (are.each found.0 found.1).disk;
    free = holder_free 0 m.homes found.0.disk (held_free m.homes [] targets free found.0 found.1);
  })

retarget_legal : (shape : VolumeShape) (broken : ℕ → Bool) (task index disk : ℕ) (m : Manager) → IsWithinLast shape m.greatest → index < shape.total → IsDisk shape disk
    → retarget_refusal broken task index disk m ≡ None → IsLegal shape m (retarget_record index disk m)
retarget_legal shape broken task index disk m last below good h =
    let fails = all_fail (retarget_tests broken task index disk m) h in
    let none = or_else_none (holder 0 m.homes disk) (other_destination (transfers_of m.lock) index disk) (none_found (retarget_holder m index disk) fails.1.1.1.1.1.1.0) in
    record {
      locked = is_locked m.lock fails.0;
      unswapped = fails.1.1.0;
      moves = false_not (any (λ (t : Transfer). t.index == index) (transfers_of m.lock)) fails.1.1.1.0;
      home = record {
        index = below;
        epoch = refl;
        last = next_within shape m.greatest index last below fails.1.1.1.1.1.1.1.0;
        disk = good;
        free = holder_free 0 m.homes disk none.0;
      };
      apart = λ t i e. other_gives (transfers_of m.lock) index disk none.1 t i e;
    }

pub steps_write_legal_records : StepsWriteLegalRecords
steps_write_legal_records = record {
  lease = lease_legal;
  lock = lock_legal;
  retarget = retarget_legal;
  swap = λ shape broken task m h. let fails = all_fail (swap_tests shape broken task m) h in (is_locked m.lock fails.0, fails.1.1.0);
  unlock = λ shape broken task m h. let fails = all_fail (unlock_tests broken task m) h in false_not (is_swapped m.lock) fails.1.1.0;
  ask = λ shape begun bid m good h. let fails = all_fail (ask_tests begun bid m) h in (good, fails.1.0);
  commit = λ shape bid m good h. let fails = all_fail (commit_tests shape bid m) h in (good, false_not (is_in bid m.asked) fails.0, fails.1.0, no_lock m.lock fails.1.1.0);
}
