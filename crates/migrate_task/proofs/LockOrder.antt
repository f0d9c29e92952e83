-- In each state to which a history leads, a lock moves no index twice.
use Rattle.std.proofs.Common.{◌≡◌, ℕ, inl, inr, Bool, true, false, List, [], ◌∷◌, Option, Some, None, refl, sym, ◌∙◌, ap, subst, arith}
use Rattle.unit_id.specs.Lists.{IsIn}
use Rattle.unit_id.specs.Place.{Location, Place}
use Rattle.unit_id.specs.declared.targets.Target.{Target}
use Rattle.code_mode.specs.VolumeShape.{VolumeShape}
use Rattle.code_mode.proofs.Numbers.{sound_shapes}
use Rattle.volume_entry.specs.Manager.{Transfer, Lock, Grant, ManagerRecord, Manager, AreInOrder, transfers_of, transfers_to, redirected, redirected_lock, swapped_lock}
use Rattle.volume_entry.specs.ManagerStep.{AreTargetsInOrder, grant_of, grants_of, GrantsLease, Locks, Retargets, Swaps, Unlocks, Asks, Commits}
use Rattle.volume_entry.specs.Reply.{Reply}
use Rattle.volume_world.specs.Event.{Event}
use Rattle.volume_world.specs.State.{State}
use Rattle.volume_world.specs.BlobStatus.{is_begun}
use Rattle.volume_world.specs.Invariant.{Kept}
use Rattle.volume_world.specs.Authority.{IsDoubtSound}
use Rattle.volume_world.specs.Move.{Move, Moves, Begins, Ends, Happens, Ticks, Breaks, Restarts, RestartsManager, Looks, SettlesManager, SettlesUnit, found}
use Rattle.volume_world.specs.Run.{World}
use Rattle.volume_world.specs.Told.{MayRun}
use Rattle.volume_world.specs.Way.{Origin, shape_of}
use Rattle.volume_world.specs.Possible.{IsPossible}
use Rattle.volume_world.specs.declared.trace.Trace.{Trace}
use Rattle.volume_world.proofs.EntryMoves.{entry_lasts}
use Rattle.volume_world.proofs.LawProofs.{always_kept, starts_kept}
use Rattle.volume_world.proofs.Redirected.{redirect_gives}
use Rattle.migrate_task.proofs.Scenes.{hear_keeps}

-- no index stands there twice
abbrev pub AreApart : List Transfer → Type 0
AreApart [] = Unit {0}
AreApart (t ∷ ts) = ((u : Transfer) → IsIn u ts → u.index ≡ t.index → ⊥) × AreApart ts

abbrev IsOrdered : State → Type 0
IsOrdered s = AreApart (transfers_of s.manager.lock)

same_order : (s t : State) → t.manager.lock ≡ s.manager.lock → IsOrdered s → IsOrdered t
same_order s t same h = subst (λ l. AreApart (transfers_of l)) (sym same) h

-- ---- what changes a lock

granted_there : (grants : List Grant) (homes : List Location) (t : Transfer) → IsIn t (transfers_to grants homes) → (g : Grant) × IsIn g grants × (t.index ≡ g.index)
granted_there [] homes t i = absurd i
granted_there (g ∷ grants) homes t (inl here) = (g, inl refl, ap (λ (x : Transfer). x.index) here)
granted_there (g ∷ grants) homes t (inr there) = let found = granted_there grants homes t there in (found.0, inr found.1, found.2)

grants_apart : (grants : List Grant) (homes : List Location) → AreInOrder grants → AreApart (transfers_to grants homes)
grants_apart [] homes h = tt
grants_apart (g ∷ grants) homes h = (
  λ u i same. let found = granted_there grants homes u i in let more = h.0 found.0 found.1 in let is = found.2 in omega (arith, more, is, same),
  grants_apart grants homes h.1,
)

target_there : (greatest : List ℕ) (targets : List Target) (g : Grant) → IsIn g (grants_of greatest targets) → (t : Target) × IsIn t targets × (g.index ≡ t.index)
target_there greatest [] g i = absurd i
target_there greatest (t ∷ targets) g (inl here) = (t, inl refl, ap (λ (x : Grant). x.index) here)
target_there greatest (t ∷ targets) g (inr there) = let found = target_there greatest targets g there in (found.0, inr found.1, found.2)

targets_order : (greatest : List ℕ) (targets : List Target) → AreTargetsInOrder targets → AreInOrder (grants_of greatest targets)
targets_order greatest [] h = tt
targets_order greatest (t ∷ targets) h = (
  λ u i. let found = target_there greatest targets u i in let more = h.0 found.0 found.1 in let is = found.2 in omega (arith, more, is),
  targets_order greatest targets h.1,
)

redirected_apart : (grant : Grant) (ts : List Transfer) → AreApart ts → AreApart (redirected grant ts)
redirected_apart grant [] h = tt
redirected_apart grant (t ∷ ts) h = (
  λ u i same. let found = redirect_gives grant ts u i in h.0 found.0 found.1 (sym (ap (λ (x : Transfer). x.index) found.2) ∙ same),
  redirected_apart grant ts h.1,
)

redirected_order : (grant : Grant) (lock : Option Lock) → AreApart (transfers_of lock) → AreApart (transfers_of (redirected_lock grant lock))
redirected_order grant None h = h
redirected_order grant (Some lock) h = redirected_apart grant lock.transfers h

swapped_order : (lock : Option Lock) → AreApart (transfers_of lock) → AreApart (transfers_of (swapped_lock lock))
swapped_order None h = h
swapped_order (Some lock) h = h

-- ---- steps of the manager

abbrev Ordered : Manager → Type 0
Ordered m = AreApart (transfers_of m.lock)

lock_is : (m n : Manager) (lock : Option Lock) → n.lock ≡ lock → AreApart (transfers_of lock) → Ordered n
lock_is m n lock is h = subst (λ l. AreApart (transfers_of l)) (sym is) h

lease_order : (time : ℕ) (m n : Manager) (reply : Reply) → GrantsLease time m reply n → Ordered m → Ordered n
lease_order time m n Reply.Fault h k = lock_is m n m.lock (ap (λ (x : Manager). x.lock) h.1) k
lease_order time m n (Reply.LeaseTo end) h k = lock_is m n m.lock (ap (λ (x : Manager). x.lock) h.2) k
lease_order time m n reply h k = lock_is m n m.lock (ap (λ (x : Manager). x.lock) h.1) k

lock_order : (broken : ℕ → Bool) (time task : ℕ) (targets : List Target) (m n : Manager) (reply : Reply) → AreTargetsInOrder targets → Locks broken time task targets m reply n → Ordered m → Ordered n
lock_order broken time task targets m n Reply.Fault order h k = lock_is m n m.lock (ap (λ (x : Manager). x.lock) h.1) k
lock_order broken time task targets m n (Reply.Granted number transfers) order h k =
    subst Ordered (sym h.3) (grants_apart (grants_of m.greatest targets) m.homes (targets_order m.greatest targets order))
lock_order broken time task targets m n reply order h k = lock_is m n m.lock (ap (λ (x : Manager). x.lock) h.1) k

retarget_order : (broken : ℕ → Bool) (task index disk : ℕ) (m n : Manager) (reply : Reply) → Retargets broken task index disk m reply n → Ordered m → Ordered n
retarget_order broken task index disk m n Reply.Fault h k = lock_is m n m.lock (ap (λ (x : Manager). x.lock) h.1) k
retarget_order broken task index disk m n (Reply.Granted number transfers) h k = subst Ordered (sym h.3) (redirected_order (grant_of m.greatest (record { index = index; disk = disk })) m.lock k)
retarget_order broken task index disk m n reply h k = lock_is m n m.lock (ap (λ (x : Manager). x.lock) h.1) k

swap_order : (shape : VolumeShape) (broken : ℕ → Bool) (task : ℕ) (m n : Manager) (reply : Reply) → Swaps shape broken task m reply n → Ordered m → Ordered n
swap_order shape broken task m n Reply.Fault h k = lock_is m n m.lock (ap (λ (x : Manager). x.lock) h.2) k
swap_order shape broken task m n Reply.Done h k = lock_is m n (swapped_lock m.lock) (ap (λ (x : Manager). x.lock) h.2) (swapped_order m.lock k)
swap_order shape broken task m n (Reply.NotCopied bid) h k = lock_is m n m.lock (ap (λ (x : Manager). x.lock) h.2) k
swap_order shape broken task m n reply h k = lock_is m n m.lock (ap (λ (x : Manager). x.lock) h.1) k

unlock_order : (broken : ℕ → Bool) (task : ℕ) (m n : Manager) (reply : Reply) → Unlocks broken task m reply n → Ordered m → Ordered n
unlock_order broken task m n Reply.Fault h k = lock_is m n m.lock (ap (λ (x : Manager). x.lock) h.1) k
unlock_order broken task m n Reply.Done h k = lock_is m n None (ap (λ (x : Manager). x.lock) h.1) tt
unlock_order broken task m n reply h k = lock_is m n m.lock (ap (λ (x : Manager). x.lock) h.1) k

ask_order : (begun : Bool) (bid : ℕ) (m n : Manager) (reply : Reply) → Asks begun bid m reply n → Ordered m → Ordered n
ask_order begun bid m n Reply.Fault h k = lock_is m n m.lock (ap (λ (x : Manager). x.lock) h.1) k
ask_order begun bid m n Reply.Done h k = lock_is m n m.lock (ap (λ (x : Manager). x.lock) h.1) k
ask_order begun bid m n reply h k = lock_is m n m.lock (ap (λ (x : Manager). x.lock) h.1) k

commit_order : (shape : VolumeShape) (bid : ℕ) (m n : Manager) (reply : Reply) → Commits shape bid m reply n → Ordered m → Ordered n
commit_order shape bid m n Reply.Fault h k = lock_is m n m.lock (ap (λ (x : Manager). x.lock) h.1) k
commit_order shape bid m n Reply.Done h k = lock_is m n m.lock (ap (λ (x : Manager). x.lock) h.1) k
commit_order shape bid m n reply h k = lock_is m n m.lock (ap (λ (x : Manager). x.lock) h.1) k

-- ---- other events

tick_order : (by : ℕ) (s : State) (reply : Reply) (t : State) → Ticks by s reply t → IsOrdered s → IsOrdered t
tick_order by s (Reply.Now time) t h = same_order s t (ap (λ (x : State). x.manager.lock) h.1)
tick_order by s reply t h = absurd h

break_order : (disk : ℕ) (s : State) (reply : Reply) (t : State) → Breaks disk s reply t → IsOrdered s → IsOrdered t
break_order disk s Reply.Done t h = same_order s t (ap (λ (x : State). x.manager.lock) h)
break_order disk s reply t h = absurd h

restart_order : (disk : ℕ) (s : State) (reply : Reply) (t : State) → Restarts disk s reply t → IsOrdered s → IsOrdered t
restart_order disk s Reply.Done t (inl h) = same_order s t (ap (λ (x : State). x.manager.lock) h.1)
restart_order disk s Reply.Done t (inr h) = same_order s t (ap (λ (x : State). x.manager.lock) h.2)
restart_order disk s Reply.Fault t h = same_order s t (ap (λ (x : State). x.manager.lock) h.2)
restart_order disk s reply t h = absurd h

manager_order : (s : State) (reply : Reply) (t : State) → RestartsManager s reply t → IsOrdered s → IsOrdered t
manager_order s Reply.Done t h = same_order s t (ap (λ (x : State). x.manager.lock) h.1)
manager_order s Reply.Fault t h = same_order s t (ap (λ (x : State). x.manager.lock) h)
manager_order s reply t h = absurd h

begin_order : (bid : ℕ) (payload : List ℕ) (s : State) (reply : Reply) (t : State) → Begins bid payload s reply t → IsOrdered s → IsOrdered t
begin_order bid payload s (Reply.Begun end homes flags) t h = same_order s t (ap (λ (x : State). x.manager.lock) h.4)
begin_order bid payload s reply t h = same_order s t (ap (λ (x : State). x.manager.lock) h.1)

end_order : (shape : VolumeShape) (bid : ℕ) (s : State) (reply : Reply) (t : State) → Ends shape bid s reply t → IsOrdered s → IsOrdered t
end_order shape bid s Reply.NotOpen t h = same_order s t (ap (λ (x : State). x.manager.lock) h.1)
end_order shape bid s (Reply.LeaseOver end time) t h = same_order s t (ap (λ (x : State). x.manager.lock) h.4)
end_order shape bid s (Reply.Quorum n) t h = same_order s t (ap (λ (x : State). x.manager.lock) h.4)
end_order shape bid s (Reply.Acked n) t h = same_order s t (ap (λ (x : State). x.manager.lock) h.4)
end_order shape bid s reply t h = absurd h

look_order : (s : State) (reply : Reply) (t : State) → Looks s reply t → IsOrdered s → IsOrdered t
look_order s (Reply.Seen view) t h = same_order s t (ap (λ (x : State). x.manager.lock) h.1)
look_order s reply t h = absurd h

happen_order : (shape : VolumeShape) (s : State) (event : Event) (reply : Reply) (t : State) → Happens shape s event reply t → IsOrdered s → IsOrdered t
happen_order shape s (Event.Tick by) reply t h = tick_order by s reply t h
happen_order shape s (Event.Plan disk fate count) reply t h = same_order s t (ap (λ (x : State). x.manager.lock) h.1)
happen_order shape s (Event.Break disk) reply t h = break_order disk s reply t h
happen_order shape s (Event.Restart disk) reply t h = restart_order disk s reply t h
happen_order shape s Event.RestartManager reply t h = manager_order s reply t h
happen_order shape s Event.Lease reply t h = lease_order s.time s.manager t.manager reply h.1.0
happen_order shape s (Event.Begin bid payload) reply t h = begin_order bid payload s reply t h.1.1
happen_order shape s (Event.End bid) reply t h = end_order shape bid s reply t h.1
happen_order shape s (Event.Lock task targets) reply t h = lock_order s.broken s.time task targets s.manager t.manager reply h.1.0.order h.1.1
happen_order shape s (Event.Retarget task index disk) reply t h = retarget_order s.broken task index disk s.manager t.manager reply h.1.1
happen_order shape s (Event.Swap task) reply t h = swap_order shape s.broken task s.manager t.manager reply h.1.0
happen_order shape s (Event.Unlock task) reply t h = unlock_order s.broken task s.manager t.manager reply h.1.0
happen_order shape s (Event.Ask bid) reply t h = ask_order (is_begun (s.puts.status bid)) bid s.manager t.manager reply h.1.1
happen_order shape s (Event.Commit bid) reply t h = commit_order shape bid s.manager t.manager reply h.1.1
happen_order shape s Event.Look reply t h = look_order s reply t h.1
happen_order shape s event reply t h = absurd h.1

-- ---- settlings

-- a record in doubt that is found
found_order : (shape : VolumeShape) (s : State) (doubt : Option ManagerRecord) → s.manager.doubt ≡ doubt → Kept shape s → IsOrdered s → AreApart (transfers_of (found doubt s.manager).lock)
found_order shape s None e kept h = h
found_order shape s (Some (ManagerRecord.Made homes)) e kept h = h
found_order shape s (Some (ManagerRecord.Leased end)) e kept h = h
found_order shape s (Some (ManagerRecord.Locked task number grants)) e kept h =
    let m = s.manager in
    let sound = subst (λ d. IsDoubtSound shape m.homes m.greatest m.lease_end m.granted m.lock m.asked m.committed s.time s.broken s.units.is_made s.units.fence s.units.is_released d) e kept.authority.doubt_sound in
    grants_apart grants m.homes sound.0.order
found_order shape s (Some (ManagerRecord.Retargeted grant)) e kept h = redirected_order grant s.manager.lock h
found_order shape s (Some ManagerRecord.Swapped) e kept h = swapped_order s.manager.lock h
found_order shape s (Some ManagerRecord.Unlocked) e kept h = tt
found_order shape s (Some (ManagerRecord.Asked bid)) e kept h = h
found_order shape s (Some (ManagerRecord.Committed bid)) e kept h = h

settle_order : (shape : VolumeShape) (s : State) (is_found : Bool) (t : State) → SettlesManager s is_found t → Kept shape s → IsOrdered s → IsOrdered t
settle_order shape s true t h kept k = subst (λ (x : State). IsOrdered x) (sym h.2) (found_order shape s s.manager.doubt refl kept k)
settle_order shape s false t h kept k = same_order s t (ap (λ (x : State). x.manager.lock) h.1) k

unit_order : (p : Place) (s : State) (is_found : Bool) (t : State) → SettlesUnit p s is_found t → IsOrdered s → IsOrdered t
unit_order p s true t h = same_order s t (ap (λ (x : State). x.manager.lock) h.2)
unit_order p s false t h = same_order s t (ap (λ (x : State). x.manager.lock) h.1)

move_order : (shape : VolumeShape) (s : State) (move : Move) (t : State) → Moves shape s move t → Kept shape s → IsOrdered s → IsOrdered t
move_order shape s (Move.Issue r) t h kept = same_order s t (ap (λ (x : State). x.manager.lock) h.2)
move_order shape s (Move.Handle r a e) t h kept = same_order s t (ap (λ (x : State). x.manager.lock) h.2)
move_order shape s (Move.Hear r a) t h kept = same_order s t (ap (λ (x : State). x.manager.lock) h.1 ∙ (hear_keeps r a s.manager).lock)
move_order shape s (Move.SettleManager is_found) t h kept = settle_order shape s is_found t h kept
move_order shape s (Move.SettleUnit p is_found) t h kept = unit_order p s is_found t h
move_order shape s (Move.Happen event reply) t h kept = happen_order shape s event reply t h

-- ---- runs

abbrev KeptOrdered : VolumeShape → State → Type 0
KeptOrdered shape s = Kept shape s × IsOrdered s

run_order : (origin : Origin) (w : World) (traces : List Trace) (v : World) → KeptOrdered (shape_of origin) w.state → MayRun origin.vid (shape_of origin) w traces v → IsOrdered v.state
run_order origin w [] v k h = subst (λ (x : World). IsOrdered x.state) (sym h) k.1
run_order origin w (trace ∷ traces) v k h =
    let shape = shape_of origin in
    run_order origin h.0 traces v
    (entry_lasts shape (KeptOrdered shape)
    (λ s move t moved both. (always_kept shape s t (move ∷ []) (sound_shapes origin.mode origin.disks) both.0 (t, moved, refl), move_order shape s move t moved both.0 both.1)) w h.1.step h.0 h.1.leads k) h.2

-- no index is moved twice
pub lock_ordered : (origin : Origin) (w : World) → IsPossible origin w → AreApart (transfers_of w.state.manager.lock)
lock_ordered origin w h =
    let begins : KeptOrdered (shape_of origin) origin.start.state =
    subst (λ (x : World). KeptOrdered (shape_of origin) x.state) (sym h.first.state) (starts_kept (shape_of origin) h.first.homes h.first.is_made h.first.legal h.first.made, tt) in
    run_order origin origin.start h.entries w begins h.led
