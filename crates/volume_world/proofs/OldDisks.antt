-- Every move keeps what is known of the disks that a swap leaves.
use Rattle.std.proofs.Common.{◌≡◌, ℕ, ◌<◌, ◌⊎◌, inl, inr, Bool, true, false, List, length, Option, Some, None, refl, sym, ◌∙◌, ap, subst, arith}
use Rattle.std.specs.Prelude.{is_some}
use Rattle.unit_id.specs.Lists.{IsIn}
use Rattle.unit_id.specs.Place.{Location, Place}
use Rattle.unit_id.specs.Request.{Request, Answer}
use Rattle.unit_id.specs.declared.targets.Target.{Target}
use Rattle.unit_id.proofs.Bools.{either}
use Rattle.code_mode.specs.VolumeShape.{VolumeShape}
use Rattle.volume_entry.specs.Manager.{Transfer, Lock, Grant, ManagerRecord, Manager, home_at, transfers_of, moved, redirected_lock, swapped_lock, written, in_doubt, forgetful, settled}
use Rattle.volume_entry.specs.Reply.{Reply}
use Rattle.volume_entry.specs.ManagerStep.{GrantsLease, Locks, Retargets, Swaps, Unlocks, Asks, Commits, hear, lock_record, retarget_record}
use Rattle.volume_entry.proofs.Moved.{HomeCases, home_cases}
use Rattle.volume_world.specs.Event.{Event}
use Rattle.volume_world.specs.State.{State}
use Rattle.volume_world.specs.BlobStatus.{is_begun}
use Rattle.volume_world.specs.Move.{Move, Moves, Begins, Ends, Ticks, Breaks, Restarts, RestartsManager, Looks, Happens, SettlesManager, SettlesUnit, found}
use Rattle.volume_world.specs.OldDisks.{OldDisks}
use Rattle.volume_world.specs.Invariant.{Kept}
use Rattle.volume_world.proofs.Redirected.{redirect_gives}

-- what a swap leaves, over homes and transfers alone
module _ (total : ℕ) (homes : List Location) (ts : List Transfer) (count : length homes ≡ total) (within : (t : Transfer) → IsIn t ts → t.index < total) where
  cases : (i : ℕ) → HomeCases ts i (home_at homes i) (home_at (moved 0 ts homes) i)
  cases = home_cases ts homes (λ t i. let b = within t i in omega (arith, b, count))

  -- transfers that are done move nothing again
  moved_again : ((t : Transfer) → IsIn t ts → home_at homes t.index ≡ t.dest) → (i : ℕ) → home_at (moved 0 ts homes) i ≡ home_at homes i
  moved_again done i = elim (cases i) [
    | inl found ↦ found.3 ∙ sym (done found.0 found.1) ∙ ap (home_at homes) found.2
    | inr left ↦ left.0
  ]

  module _ (at_home : (t : Transfer) → IsIn t ts → home_at homes t.index ≡ t.old) (homes_apart : (i j : ℕ) → i < total → j < total → (home_at homes i).disk ≡ (home_at homes j).disk → i ≡ j) where
    old_disk : (t : Transfer) → IsIn t ts → (home_at homes t.index).disk ≡ t.old.disk
    old_disk t i = ap (λ (h : Location). h.disk) (at_home t i)

    left_free : ((t : Transfer) → IsIn t ts → (i : ℕ) → i < total → (home_at homes i).disk ≡ t.dest.disk → ⊥)
        → (t : Transfer) → IsIn t ts → (i : ℕ) → i < total → (home_at (moved 0 ts homes) i).disk ≡ t.old.disk → ⊥
    left_free free t here i below e = elim (cases i) [
      | inl found ↦ free found.0 found.1 t.index (within t here) (old_disk t here ∙ sym e ∙ ap (λ (h : Location). h.disk) found.3)
      | inr left ↦ left.1 t here (homes_apart t.index i (within t here) below (old_disk t here ∙ sym e ∙ ap (λ (h : Location). h.disk) left.0))
    ]

    left_apart : (t u : Transfer) → IsIn t ts → IsIn u ts → t.old.disk ≡ u.old.disk → t.index ≡ u.index
    left_apart t u i j e = homes_apart t.index u.index (within t i) (within u j) (old_disk t i ∙ e ∙ sym (old_disk u j))

abbrev Alone : VolumeShape → Manager → Type 0
Alone shape m = OldDisks shape.total m.homes m.lock

-- a swap begins it; written again, it changes nothing
after_swap : (shape : VolumeShape) (s : State) (lock : Option Lock) → s.manager.lock ≡ lock → Kept shape (record s { manager = record (s.manager) { lock = lock } }) → OldDisks shape.total s.manager.homes lock
    → OldDisks shape.total (moved 0 (transfers_of lock) s.manager.homes) (swapped_lock lock)
after_swap shape s None e k h = record { free = λ w. cc; apart = λ w. cc }
after_swap shape s (Some l) e k h = elim (either l.is_swapped) [
  | inl swapped ↦ record {
    free = λ w t i j below f. h.free swapped t i j below
        (ap (λ (x : Location). x.disk) (sym (moved_again shape.total s.manager.homes l.transfers k.form.lists.homes_count k.form.lock.transfer_index (k.succession.is_current swapped) j)) ∙ f);
    apart = λ w. h.apart swapped;
  }
  | inr unswapped ↦ record {
    free = λ w. left_free shape.total s.manager.homes l.transfers k.form.lists.homes_count k.form.lock.transfer_index (k.support.locks.old_units_current unswapped) k.placement.homes_apart
        (k.placement.destinations_free unswapped);
    apart = λ w. left_apart shape.total s.manager.homes l.transfers k.form.lists.homes_count k.form.lock.transfer_index (k.support.locks.old_units_current unswapped) k.placement.homes_apart;
  }
]

-- a new destination changes no old unit
after_retarget : (total : ℕ) (homes : List Location) (lock : Option Lock) (grant : Grant) → OldDisks total homes lock → OldDisks total homes (redirected_lock grant lock)
after_retarget total homes None grant h = h
after_retarget total homes (Some l) grant h = record {
  free = λ w t i j below e. let r = redirect_gives grant l.transfers t i in h.free w r.0 r.1 j below (e ∙ ap (λ (x : Transfer). x.old.disk) r.2);
  apart = λ w t u i j e.
      let x = redirect_gives grant l.transfers t i in
      let y = redirect_gives grant l.transfers u j in
      ap (λ (z : Transfer). z.index) x.2 ∙ h.apart w x.0 y.0 x.1 y.1 (ap (λ (z : Transfer). z.old.disk) (sym x.2) ∙ e ∙ ap (λ (z : Transfer). z.old.disk) y.2) ∙ ap (λ (z : Transfer). z.index) (sym y.2);
}

-- each record of the manager
after_record : (shape : VolumeShape) (s : State) (item : ManagerRecord) → Kept shape s → Alone shape s.manager → Alone shape (written item s.manager)
after_record shape s (ManagerRecord.Made homes) k h = h
after_record shape s (ManagerRecord.Leased end) k h = h
after_record shape s (ManagerRecord.Locked task number grants) k h = record { free = λ w. cc; apart = λ w. cc }
after_record shape s (ManagerRecord.Retargeted grant) k h = after_retarget shape.total s.manager.homes s.manager.lock grant h
after_record shape s ManagerRecord.Swapped k h = after_swap shape s s.manager.lock refl k h
after_record shape s ManagerRecord.Unlocked k h = record { free = λ w. cc; apart = λ w. cc }
after_record shape s (ManagerRecord.Asked bid) k h = h
after_record shape s (ManagerRecord.Committed bid) k h = h

-- homes and lock are as they were, or as a record leaves them
abbrev Rehomes : Manager → Manager → Type 0
Rehomes m n = ((n.homes ≡ m.homes) × (n.lock ≡ m.lock)) ⊎ ((item : ManagerRecord) × (n.homes ≡ (written item m).homes) × (n.lock ≡ (written item m).lock))

same_homes : (m n : Manager) → n ≡ m → Rehomes m n
same_homes m n e = inl (ap (λ (x : Manager). x.homes) e, ap (λ (x : Manager). x.lock) e)

left_in_doubt : (m n : Manager) (item : ManagerRecord) → n ≡ in_doubt item m → Rehomes m n
left_in_doubt m n item e = inl (ap (λ (x : Manager). x.homes) e, ap (λ (x : Manager). x.lock) e)

is_written : (m n : Manager) (item : ManagerRecord) → n ≡ written item m → Rehomes m n
is_written m n item e = inr (item, ap (λ (x : Manager). x.homes) e, ap (λ (x : Manager). x.lock) e)

leased : (time : ℕ) (m : Manager) (reply : Reply) (n : Manager) → GrantsLease time m reply n → Rehomes m n
leased time m Reply.Fault n h = left_in_doubt m n _ h.1
leased time m (Reply.LeaseTo end) n h = is_written m n (ManagerRecord.Leased end) h.2
leased time m reply n h = same_homes m n h.1

locked : (broken : ℕ → Bool) (time task : ℕ) (targets : List Target) (m : Manager) (reply : Reply) (n : Manager) → Locks broken time task targets m reply n → Rehomes m n
locked broken time task targets m Reply.Fault n h = left_in_doubt m n (lock_record task targets m) h.1
locked broken time task targets m (Reply.Granted number transfers) n h = is_written m n (lock_record task targets m) h.3
locked broken time task targets m reply n h = same_homes m n h.1

retargeted : (broken : ℕ → Bool) (task index disk : ℕ) (m : Manager) (reply : Reply) (n : Manager) → Retargets broken task index disk m reply n → Rehomes m n
retargeted broken task index disk m Reply.Fault n h = left_in_doubt m n (retarget_record index disk m) h.1
retargeted broken task index disk m (Reply.Granted number transfers) n h = is_written m n (retarget_record index disk m) h.3
retargeted broken task index disk m reply n h = same_homes m n h.1

swapped : (shape : VolumeShape) (broken : ℕ → Bool) (task : ℕ) (m : Manager) (reply : Reply) (n : Manager) → Swaps shape broken task m reply n → Rehomes m n
swapped shape broken task m Reply.Fault n h = left_in_doubt m n ManagerRecord.Swapped h.2
swapped shape broken task m Reply.Done n h = is_written m n ManagerRecord.Swapped h.2
swapped shape broken task m (Reply.NotCopied bid) n h = same_homes m n h.2
swapped shape broken task m reply n h = same_homes m n h.1

unlocked : (broken : ℕ → Bool) (task : ℕ) (m : Manager) (reply : Reply) (n : Manager) → Unlocks broken task m reply n → Rehomes m n
unlocked broken task m Reply.Fault n h = left_in_doubt m n ManagerRecord.Unlocked h.1
unlocked broken task m Reply.Done n h = is_written m n ManagerRecord.Unlocked h.1
unlocked broken task m reply n h = same_homes m n h.1

asked : (begun : Bool) (bid : ℕ) (m : Manager) (reply : Reply) (n : Manager) → Asks begun bid m reply n → Rehomes m n
asked begun bid m Reply.Fault n h = left_in_doubt m n (ManagerRecord.Asked bid) h.1
asked begun bid m Reply.Done n h = is_written m n (ManagerRecord.Asked bid) h.1
asked begun bid m reply n h = same_homes m n h.1

committed : (shape : VolumeShape) (bid : ℕ) (m : Manager) (reply : Reply) (n : Manager) → Commits shape bid m reply n → Rehomes m n
committed shape bid m Reply.Fault n h = left_in_doubt m n (ManagerRecord.Committed bid) h.1
committed shape bid m Reply.Done n h = is_written m n (ManagerRecord.Committed bid) h.1
committed shape bid m reply n h = same_homes m n h.1

-- a state whose manager is this one's, but for what was heard and for the log's own state
same_manager : (s t x : State) → t ≡ x → x.manager.homes ≡ s.manager.homes → x.manager.lock ≡ s.manager.lock → Rehomes s.manager t.manager
same_manager s t x e f g = inl (ap (λ (y : State). y.manager.homes) e ∙ f, ap (λ (y : State). y.manager.lock) e ∙ g)

begins : (bid : ℕ) (payload : List ℕ) (s : State) (reply : Reply) (t : State) → Begins bid payload s reply t → Rehomes s.manager t.manager
begins bid payload s (Reply.Begun end homes flags) t h = same_manager s t _ h.4 refl refl
begins bid payload s reply t h = same_manager s t s h.1 refl refl

ends : (shape : VolumeShape) (bid : ℕ) (s : State) (reply : Reply) (t : State) → Ends shape bid s reply t → Rehomes s.manager t.manager
ends shape bid s Reply.NotOpen t h = same_manager s t s h.1 refl refl
ends shape bid s (Reply.LeaseOver end time) t h = same_manager s t _ h.4 refl refl
ends shape bid s (Reply.Quorum n) t h = same_manager s t _ h.4 refl refl
ends shape bid s (Reply.Acked n) t h = same_manager s t _ h.4 refl refl
ends shape bid s reply t h = absurd h

ticks : (by : ℕ) (s : State) (reply : Reply) (t : State) → Ticks by s reply t → Rehomes s.manager t.manager
ticks by s (Reply.Now time) t h = same_manager s t _ h.1 refl refl
ticks by s reply t h = absurd h

breaks : (disk : ℕ) (s : State) (reply : Reply) (t : State) → Breaks disk s reply t → Rehomes s.manager t.manager
breaks disk s Reply.Done t h = same_manager s t _ h refl refl
breaks disk s reply t h = absurd h

restarts : (disk : ℕ) (s : State) (reply : Reply) (t : State) → Restarts disk s reply t → Rehomes s.manager t.manager
restarts disk s Reply.Done t (inl h) = same_manager s t s h.1 refl refl
restarts disk s Reply.Done t (inr h) = same_manager s t _ h.2 refl refl
restarts disk s Reply.Fault t h = same_manager s t _ h.2 refl refl
restarts disk s reply t h = absurd h

restarts_manager : (s : State) (reply : Reply) (t : State) → RestartsManager s reply t → Rehomes s.manager t.manager
restarts_manager s Reply.Done t h = same_manager s t _ h.1 refl refl
restarts_manager s Reply.Fault t h = same_manager s t _ h refl refl
restarts_manager s reply t h = absurd h

looks : (s : State) (reply : Reply) (t : State) → Looks s reply t → Rehomes s.manager t.manager
looks s (Reply.Seen view) t h = same_manager s t s h.1 refl refl
looks s reply t h = absurd h

happens : (shape : VolumeShape) (s : State) (event : Event) (reply : Reply) (t : State) → Happens shape s event reply t → Rehomes s.manager t.manager
happens shape s (Event.Tick by) reply t h = ticks by s reply t h
happens shape s (Event.Plan disk fate count) reply t h = same_manager s t s h.1 refl refl
happens shape s (Event.Break disk) reply t h = breaks disk s reply t h
happens shape s (Event.Restart disk) reply t h = restarts disk s reply t h
happens shape s Event.RestartManager reply t h = restarts_manager s reply t h
happens shape s Event.Lease reply t h = leased s.time s.manager reply t.manager h.1.0
happens shape s (Event.Begin bid payload) reply t h = begins bid payload s reply t h.1.1
happens shape s (Event.End bid) reply t h = ends shape bid s reply t h.1
happens shape s (Event.Lock task targets) reply t h = locked s.broken s.time task targets s.manager reply t.manager h.1.1
happens shape s (Event.Retarget task index disk) reply t h = retargeted s.broken task index disk s.manager reply t.manager h.1.1
happens shape s (Event.Swap task) reply t h = swapped shape s.broken task s.manager reply t.manager h.1.0
happens shape s (Event.Unlock task) reply t h = unlocked s.broken task s.manager reply t.manager h.1.0
happens shape s (Event.Ask bid) reply t h = asked (is_begun (s.puts.status bid)) bid s.manager reply t.manager h.1.1
happens shape s (Event.Commit bid) reply t h = committed shape bid s.manager reply t.manager h.1.1
happens shape s Event.Look reply t h = looks s reply t h.1
happens shape s event reply t h = absurd h.1

-- hearing leaves homes and lock
hears : (r : Request) (a : Answer) (m : Manager) → ((hear r a m).homes ≡ m.homes) × ((hear r a m).lock ≡ m.lock)
hears (Request.List p n) (Answer.Listing said shown) m = (refl, refl)
hears (Request.Copy p b) Answer.Done m = (refl, refl)
hears (Request.Copy p b) Answer.Already m = (refl, refl)
hears (Request.Copy p b) Answer.Deleted m = (refl, refl)
hears (Request.Mark p b) Answer.Done m = (refl, refl)
hears (Request.Mark p b) Answer.Already m = (refl, refl)
hears (Request.Fence p n) Answer.Done m = (refl, refl)
hears (Request.Release p) Answer.Done m = (refl, refl)
hears (Request.Release p) (Answer.Stale have) m = (refl, refl)
hears r a m = (refl, refl)

settles : (s : State) (is_found : Bool) (t : State) → SettlesManager s is_found t → Rehomes s.manager t.manager
settles s true t h = go s.manager.doubt h.1 h.2 where
  go : (d : Option ManagerRecord) → is_some d ≡ true → t ≡ record s { manager = forgetful (settled (found d s.manager)) } → Rehomes s.manager t.manager
  go None x e = cc
  go (Some item) x e = inr (item, ap (λ (y : State). y.manager.homes) e, ap (λ (y : State). y.manager.lock) e)
settles s false t h = same_manager s t _ h.1 refl refl

settles_unit : (p : Place) (s : State) (is_found : Bool) (t : State) → SettlesUnit p s is_found t → Rehomes s.manager t.manager
settles_unit p s true t h = same_manager s t _ h.2 refl refl
settles_unit p s false t h = same_manager s t _ h.1 refl refl

rehomes : (shape : VolumeShape) (s : State) (move : Move) (t : State) → Moves shape s move t → Rehomes s.manager t.manager
rehomes shape s (Move.Issue r) t h = same_manager s t _ h.2 refl refl
rehomes shape s (Move.Handle r a e) t h = same_manager s t _ h.2 refl refl
rehomes shape s (Move.Hear r a) t h = let same = hears r a s.manager in same_manager s t _ h.1 same.0 same.1
rehomes shape s (Move.SettleManager is_found) t h = settles s is_found t h
rehomes shape s (Move.SettleUnit p is_found) t h = settles_unit p s is_found t h
rehomes shape s (Move.Happen event reply) t h = happens shape s event reply t h

by_homes : (total : ℕ) (homes : List Location) (lock : Option Lock) (m : Manager) → m.homes ≡ homes → m.lock ≡ lock → OldDisks total homes lock → OldDisks total m.homes m.lock
by_homes total homes lock m e f h = subst (λ x. OldDisks total x m.lock) (sym e) (subst (OldDisks total homes) (sym f) h)

-- every move keeps it
pub old_disks_last : (shape : VolumeShape) (s : State) (move : Move) (t : State) → Kept shape s → Moves shape s move t → Alone shape s.manager → Alone shape t.manager
old_disks_last shape s move t k moved h = elim (rehomes shape s move t moved) [
  | inl same ↦ by_homes shape.total s.manager.homes s.manager.lock t.manager same.0 same.1 h
  | inr done ↦ by_homes shape.total (written done.0 s.manager).homes (written done.0 s.manager).lock t.manager done.1 done.2 (after_record shape s done.0 k h)
]
