-- The steps of the manager keep what is kept.
use Rattle.std.proofs.Common.{◌≡◌, ℕ, ◌+◌, Bool, true, false, List, [], ◌∷◌, Option, Some, None, refl, sym, ◌∙◌, ap, subst}
use Rattle.std.specs.Prelude.{◌==◌, not, is_some, is_none}
use Rattle.std.proofs.lemmas.Bool.{ltb-false}
use Rattle.unit_id.specs.Lists.{any, is_in, first_that_holds}
use Rattle.code_mode.specs.VolumeShape.{VolumeShape, IsVolumeShape, lease_length}
use Rattle.volume_entry.specs.Manager.{Lock, ManagerRecord, transfers_of, is_swapped, settled, forgetful, written, IsBid, IsDisk}
use Rattle.volume_entry.specs.Benchmark.{listed_count}
use Rattle.unit_id.specs.declared.targets.Target.{Target}
use Rattle.volume_entry.specs.Reply.{Reply}
use Rattle.volume_entry.specs.ManagerStep.{task_of, first_held, grants_of, mark_count, retarget_tests, retarget_refusal, retarget_holder, retarget_record, grant_of, is_destination_broken, Retargets, lock_tests, swap_tests, unlock_tests, ask_tests, commit_tests, lock_refusal, swap_refusal, unlock_refusal, ask_refusal, commit_refusal, AreAllSettled, lock_record, GrantsLease, Locks, Swaps, Unlocks, Asks, Commits}
use Rattle.volume_world.specs.State.{State}
use Rattle.volume_world.specs.BlobStatus.{is_begun}
use Rattle.volume_world.specs.Move.{OnlyManager, found, SettlesManager}
use Rattle.volume_entry.specs.ManagerStep.{AreTargets}
use Rattle.volume_world.specs.Invariant.{Kept}
use Rattle.unit_id.proofs.Tables.{first_fails, all_fail}
use Rattle.volume_world.proofs.Doubt.{MayBeDoubted, doubting, done_kept, fault_kept, refused_kept, found_kept, dropped_kept, forgetful_kept}
use Rattle.volume_world.proofs.SwapTests.{swap_doubted}
use Rattle.volume_world.proofs.Swapped.{swap_written}
use Rattle.volume_world.proofs.Locked.{after_lock}
use Rattle.volume_world.proofs.Written.{lease_written, unlock_written, ask_written, commit_written}
use Rattle.volume_world.proofs.Retargeted.{retarget_written, retarget_doubted}
use Rattle.volume_world.proofs.EventTests.{lock_doubted, lease_doubted, ask_doubted, unlock_doubted, commit_doubted}
use Rattle.volume_entry.proofs.Grants.{none_found}

not_false : (a : Bool) → not a ≡ false → a ≡ true
not_false true h = refl
not_false false h = cc

some_there : (o : Option Lock) → is_none o ≡ false → is_some o ≡ true
some_there None h = cc
some_there (Some l) h = refl

lease_may : (shape : VolumeShape) (s : State) → Kept shape s → first_that_holds ((is_some s.manager.lock, Reply.Locked (task_of s.manager.lock)) ∷ []) ≡ None → MayBeDoubted shape s (ManagerRecord.Leased (s.time + lease_length))
lease_may shape s k h = lease_doubted shape s k (first_fails (is_some s.manager.lock) (Reply.Locked (task_of s.manager.lock)) [] h).0

pub lease_kept : (shape : VolumeShape) (s : State) (reply : Reply) (t : State) → Kept shape s → s.manager.is_shut ≡ false → GrantsLease s.time s.manager reply t.manager → OnlyManager s t → Kept shape t
lease_kept shape s Reply.Fault t k started h only = fault_kept shape s t (ManagerRecord.Leased (s.time + lease_length)) k (lease_may shape s k h.0) only h.1
lease_kept shape s (Reply.LeaseTo end) t k started h only =
    done_kept shape s t (ManagerRecord.Leased (s.time + lease_length)) k started (lease_may shape s k h.0) (lease_written shape s (s.time + lease_length)) only
    (h.2 ∙ ap (λ e. written (ManagerRecord.Leased e) s.manager) h.1)
lease_kept shape s reply t k started h only = refused_kept shape s t k only h.1

lock_may : (shape : VolumeShape) (s : State) (task : ℕ) (targets : List Target) → Kept shape s → AreTargets shape targets → lock_refusal s.broken s.time targets s.manager ≡ None → MayBeDoubted shape s (lock_record task targets s.manager)
lock_may shape s task targets k are h =
    let a = all_fail (lock_tests s.broken s.time targets s.manager) h in
    lock_doubted shape s task targets k are a.0 (ltb-false s.time s.manager.lease_end a.1.0) (none_found (first_held s.manager.homes [] targets) a.1.1.1.0) a.1.1.1.1.0

pub lock_kept : (shape : VolumeShape) (task : ℕ) (targets : List Target) (s : State) (reply : Reply) (t : State) → Kept shape s → s.manager.is_shut ≡ false → AreTargets shape targets
    → Locks s.broken s.time task targets s.manager reply t.manager → OnlyManager s t → Kept shape t
lock_kept shape task targets s Reply.Fault t k started are h only = fault_kept shape s t (lock_record task targets s.manager) k (lock_may shape s task targets k are h.0) only h.1
lock_kept shape task targets s (Reply.Granted number transfers) t k started are h only =
    done_kept shape s t (lock_record task targets s.manager) k started (lock_may shape s task targets k are h.0) (after_lock shape s task (s.manager.granted + 1) (grants_of s.manager.greatest targets)) only h.3
lock_kept shape task targets s reply t k started are h only = refused_kept shape s t k only h.1

-- the tests of a swap
swap_may : (shape : VolumeShape) (task : ℕ) (s : State) → IsVolumeShape shape → Kept shape s → swap_refusal shape s.broken task s.manager ≡ None → AreAllSettled shape s.broken s.manager → MayBeDoubted shape s ManagerRecord.Swapped
swap_may shape task s good k h all_settled =
    let a = all_fail (swap_tests shape s.broken task s.manager) h in
    swap_doubted shape good s k (some_there s.manager.lock a.0) a.1.1.0 a.1.1.1.1.0 (ltb-false (listed_count shape.total s.manager.homes s.broken s.manager.heard.listings) shape.sight a.1.1.1.1.1.0) all_settled

pub swap_kept : (shape : VolumeShape) (task : ℕ) (s : State) (reply : Reply) (t : State) → IsVolumeShape shape → Kept shape s → s.manager.is_shut ≡ false → Swaps shape s.broken task s.manager reply t.manager → OnlyManager s t → Kept shape t
swap_kept shape task s Reply.Fault t good k started h only = fault_kept shape s t ManagerRecord.Swapped k (swap_may shape task s good k h.0 h.1) only h.2
swap_kept shape task s Reply.Done t good k started h only = done_kept shape s t ManagerRecord.Swapped k started (swap_may shape task s good k h.0 h.1) (swap_written shape s) only h.2
swap_kept shape task s (Reply.NotCopied bid) t good k started h only = refused_kept shape s t k only h.2
swap_kept shape task s reply t good k started h only = refused_kept shape s t k only h.1

unlock_may : (shape : VolumeShape) (task : ℕ) (s : State) → Kept shape s → unlock_refusal s.broken task s.manager ≡ None → MayBeDoubted shape s ManagerRecord.Unlocked
unlock_may shape task s k h =
    let a = all_fail (unlock_tests s.broken task s.manager) h in
    unlock_doubted shape s k (not_false (is_swapped s.manager.lock) a.1.1.0) a.1.1.1.0

pub unlock_kept : (shape : VolumeShape) (task : ℕ) (s : State) (reply : Reply) (t : State) → Kept shape s → s.manager.is_shut ≡ false → Unlocks s.broken task s.manager reply t.manager → OnlyManager s t → Kept shape t
unlock_kept shape task s Reply.Fault t k started h only = fault_kept shape s t ManagerRecord.Unlocked k (unlock_may shape task s k h.0) only h.1
unlock_kept shape task s Reply.Done t k started h only = done_kept shape s t ManagerRecord.Unlocked k started (unlock_may shape task s k h.0) (unlock_written shape s) only h.1
unlock_kept shape task s reply t k started h only = refused_kept shape s t k only h.1

ask_may : (shape : VolumeShape) (bid : ℕ) (s : State) → Kept shape s → IsBid bid → ask_refusal (is_begun (s.puts.status bid)) bid s.manager ≡ None → MayBeDoubted shape s (ManagerRecord.Asked bid)
ask_may shape bid s k good h =
    let a = all_fail (ask_tests (is_begun (s.puts.status bid)) bid s.manager) h in
    ask_doubted shape s bid k good (not_false (is_begun (s.puts.status bid)) a.0) a.1.0

pub ask_kept : (shape : VolumeShape) (bid : ℕ) (s : State) (reply : Reply) (t : State) → Kept shape s → s.manager.is_shut ≡ false → IsBid bid
    → Asks (is_begun (s.puts.status bid)) bid s.manager reply t.manager → OnlyManager s t → Kept shape t
ask_kept shape bid s Reply.Fault t k started good h only = fault_kept shape s t (ManagerRecord.Asked bid) k (ask_may shape bid s k good h.0) only h.1
ask_kept shape bid s Reply.Done t k started good h only = done_kept shape s t (ManagerRecord.Asked bid) k started (ask_may shape bid s k good h.0) (ask_written shape s bid) only h.1
ask_kept shape bid s reply t k started good h only = refused_kept shape s t k only h.1

commit_may : (shape : VolumeShape) (bid : ℕ) (s : State) → IsVolumeShape shape → Kept shape s → IsBid bid → commit_refusal shape bid s.manager ≡ None → MayBeDoubted shape s (ManagerRecord.Committed bid)
commit_may shape bid s shaped k good h =
    let a = all_fail (commit_tests shape bid s.manager) h in
    commit_doubted shape s bid shaped k good (not_false (is_in bid s.manager.asked) a.0) a.1.0 a.1.1.0 (ltb-false (mark_count shape.total s.manager.homes s.manager.marks bid) shape.sight a.1.1.1.0)

pub commit_kept : (shape : VolumeShape) (bid : ℕ) (s : State) (reply : Reply) (t : State) → IsVolumeShape shape → Kept shape s → s.manager.is_shut ≡ false → IsBid bid
    → Commits shape bid s.manager reply t.manager → OnlyManager s t → Kept shape t
commit_kept shape bid s Reply.Fault t shaped k started good h only = fault_kept shape s t (ManagerRecord.Committed bid) k (commit_may shape bid s shaped k good h.0) only h.1
commit_kept shape bid s Reply.Done t shaped k started good h only = done_kept shape s t (ManagerRecord.Committed bid) k started (commit_may shape bid s shaped k good h.0) (commit_written shape s bid) only h.1
commit_kept shape bid s reply t shaped k started good h only = refused_kept shape s t k only h.1

retarget_may : (shape : VolumeShape) (task index disk : ℕ) (s : State) → Kept shape s → IsDisk shape disk → retarget_refusal s.broken task index disk s.manager ≡ None → MayBeDoubted shape s (retarget_record index disk s.manager)
retarget_may shape task index disk s k is_disk h =
    let a = all_fail (retarget_tests s.broken task index disk s.manager) h in
    retarget_doubted shape s index disk k is_disk (some_there s.manager.lock a.0) a.1.1.0 (not_false (any (λ t. t.index == index) (transfers_of s.manager.lock)) a.1.1.1.0)
    (not_false (is_destination_broken s.broken (transfers_of s.manager.lock) index) a.1.1.1.1.0) (none_found (retarget_holder s.manager index disk) a.1.1.1.1.1.1.0) a.1.1.1.1.1.1.1.0

pub retarget_kept : (shape : VolumeShape) (task index disk : ℕ) (s : State) (reply : Reply) (t : State) → Kept shape s → s.manager.is_shut ≡ false → IsDisk shape disk
    → Retargets s.broken task index disk s.manager reply t.manager → OnlyManager s t → Kept shape t
retarget_kept shape task index disk s Reply.Fault t k started is_disk h only = fault_kept shape s t (retarget_record index disk s.manager) k (retarget_may shape task index disk s k is_disk h.0) only h.1
retarget_kept shape task index disk s (Reply.Granted number transfers) t k started is_disk h only =
    done_kept shape s t (retarget_record index disk s.manager) k started (retarget_may shape task index disk s k is_disk h.0)
    (retarget_written shape s (grant_of s.manager.greatest (record { index = index; disk = disk }))) only h.3
retarget_kept shape task index disk s reply t k started is_disk h only = refused_kept shape s t k only h.1

-- any record in doubt that is found written
pub found_written : (shape : VolumeShape) (s : State) (item : ManagerRecord) → Kept shape (doubting s item) → Kept shape (record s { manager = settled (written item s.manager) })
found_written shape s (ManagerRecord.Made homes) k = absurd k.authority.doubt_sound
found_written shape s (ManagerRecord.Leased end) k = lease_written shape s end k
found_written shape s (ManagerRecord.Locked task number grants) k = after_lock shape s task number grants k
found_written shape s (ManagerRecord.Retargeted grant) k = retarget_written shape s grant k
found_written shape s ManagerRecord.Swapped k = swap_written shape s k
found_written shape s ManagerRecord.Unlocked k = unlock_written shape s k
found_written shape s (ManagerRecord.Asked bid) k = ask_written shape s bid k
found_written shape s (ManagerRecord.Committed bid) k = commit_written shape s bid k

pub settle_manager_kept : (shape : VolumeShape) (s : State) (is_found : Bool) (t : State) → Kept shape s → SettlesManager s is_found t → Kept shape t
settle_manager_kept shape s true t k h = subst (Kept shape) (sym h.2) (go s.manager.doubt refl h.1) where
  go : (d : Option ManagerRecord) → s.manager.doubt ≡ d → is_some s.manager.doubt ≡ true → Kept shape (record s { manager = forgetful (settled (found s.manager.doubt s.manager)) })
  go None e x = cc
  go (Some item) e x = subst (λ d. Kept shape (record s { manager = forgetful (settled (found d s.manager)) })) (sym e) (found_kept shape s item k h.0 e (found_written shape s item))
settle_manager_kept shape s false t k h = subst (Kept shape) (sym h.1) (forgetful_kept shape (record s { manager = settled s.manager }) (dropped_kept shape s k))
