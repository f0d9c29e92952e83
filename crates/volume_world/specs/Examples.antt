-- Worked examples.
use Rattle.std.specs.Prelude.{ℕ, ◌≡◌, ◌+◌, Bool, true, false, ◌==◌, ◌&&◌, ◌||◌, cond, nat_lt, List, [], ◌∷◌, Option, Some, None}
use Rattle.unit_id.specs.Place.{Location, Place}
use Rattle.code_mode.specs.VolumeShape.{VolumeShape}
use Rattle.unit_id.specs.Request.{Request, Answer}
use Rattle.blob_node.specs.Units.{RowState, UnitRecord}
use Rattle.unit_id.specs.Shown.{Shown}
use Rattle.blob_node.specs.UnitAnswer.{UnitView, Effect, Answers}
use Rattle.volume_entry.specs.Manager.{Transfer, ManagerRecord, Manager, written, forgetful, settled, fresh_manager, in_doubt}
use Rattle.unit_id.specs.declared.targets.Target.{Target}
use Rattle.volume_entry.specs.Reply.{Reply}
use Rattle.volume_world.specs.Event.{Event}
use Rattle.volume_entry.specs.ManagerStep.{GrantsLease, Locks, Retargets, Swaps, Unlocks, hear, lock_record, retarget_record}
use Rattle.volume_world.specs.State.{State, fresh}
use Rattle.volume_world.specs.Move.{Begins, Ends, IsSendable, opened, Happens, SettlesManager}

-- six data shards and three more, eight acceptances, seven units seen; twelve disks
abbrev pub small : VolumeShape
small = record { data_count = 6; total = 9; quorum = 8; sight = 7; disks = 12 }

abbrev pub homes_from : ℕ → List ℕ → List Location
homes_from epoch [] = []
homes_from epoch (disk ∷ disks) = record { epoch = epoch; disk = disk } ∷ homes_from epoch disks

-- homes on disks 1 to 9
abbrev pub nine_homes : List Location
nine_homes = homes_from 1 (1 ∷ 2 ∷ 3 ∷ 4 ∷ 5 ∷ 6 ∷ 7 ∷ 8 ∷ 9 ∷ [])

-- none of their disks is broken
abbrev pub nine_fine : List Bool
nine_fine = false ∷ false ∷ false ∷ false ∷ false ∷ false ∷ false ∷ false ∷ false ∷ []

abbrev pub made : Manager
made = fresh_manager nine_homes

abbrev pub none_broken : ℕ → Bool
none_broken disk = false

abbrev pub tenth_broken : ℕ → Bool
tenth_broken disk = disk == 10

abbrev pub to_disk : ℕ → List Target
to_disk disk = record { index = 0; disk = disk } ∷ []

abbrev pub leased : Manager
leased = written (ManagerRecord.Leased 10) made

abbrev pub locked : Manager
locked = written (lock_record 1 (to_disk 10) leased) leased

abbrev pub first_transfer : ℕ → ℕ → Transfer
first_transfer epoch disk = record { index = 0; old = record { epoch = 1; disk = 1 }; dest = record { epoch = epoch; disk = disk } }

abbrev pub fenced : Manager
fenced = hear (Request.Fence (record { index = 0; epoch = 1; disk = 1 }) 1) Answer.Done locked

abbrev pub retargeted : Manager
retargeted = written (retarget_record 0 11 fenced) fenced

-- A lock waits for the lease, takes a free disk with the next epoch, isn't granted twice, and isn't swapped before its old unit is
-- fenced and enough units are listed; a new destination wants a broken one, and a restart forgets that the old unit was fenced.
pub record TheManagersTour : Type 0 where
  pub lease : GrantsLease 0 made (Reply.LeaseTo 10) leased
  pub too_early : Locks none_broken 9 1 (to_disk 10) leased (Reply.LeaseRuns 10) leased
  pub held : Locks none_broken 10 1 (to_disk 2) leased (Reply.DestHeld 1) leased
  pub lock : Locks none_broken 10 1 (to_disk 10) leased (Reply.Granted 1 (first_transfer 2 10 ∷ [])) locked
  pub again : Locks none_broken 10 2 (to_disk 11) locked (Reply.Locked 1) locked
  pub not_fenced : Swaps small none_broken 1 locked Reply.NotFenced locked
  pub not_listed : Swaps small none_broken 1 fenced (Reply.NotListed 0) fenced
  pub not_swapped : Unlocks none_broken 1 fenced Reply.NotSwapped fenced
  pub good : Retargets none_broken 1 0 11 fenced Reply.DestGood fenced
  pub retarget : Retargets tenth_broken 1 0 11 fenced (Reply.Granted 1 (first_transfer 3 11 ∷ [])) retargeted
  pub forgotten : Swaps small tenth_broken 1 (forgetful (settled retargeted)) Reply.NotFenced (forgetful (settled retargeted))

-- the volume as made, with units of epoch 1 on disks 1 to 9
abbrev pub nine_units : State
nine_units = fresh nine_homes (λ p. nat_lt p.index 9 && ((p.epoch == 1) && (p.disk == p.index + 1)))

-- the volume with a blob that was begun in a lease up to 10
abbrev pub one_begun : State
one_begun = record (record nine_units { manager = leased }) { puts = opened 1 (104 ∷ []) 10 nine_units.puts }

-- a put of a blob that wasn't begun isn't sendable, nothing ends that isn't open, and a blob is begun once
pub record TheFirstSteps : Type 0 where
  pub barred : IsSendable 9 nine_units.puts.status nine_units.manager (Request.Put (record { index = 0; epoch = 1; disk = 1 }) 1) → ⊥
  pub not_open : Ends small 1 nine_units Reply.NotOpen nine_units
  pub begun : Begins 1 (104 ∷ []) (record nine_units { manager = leased }) (Reply.Begun 10 nine_homes nine_fine) one_begun
  pub twice : Begins 1 (105 ∷ []) one_begun Reply.BeginTwice one_begun

-- a unit of index 0 and epoch 2 on its disk, with live rows of the blobs 1 and 2, and a mark of the blob 3
abbrev pub busy_rows : ℕ → Option RowState
busy_rows bid = cond (bid == 1) (Some RowState.Live) (cond (bid == 2) (Some RowState.Live) (cond (bid == 3) (Some RowState.Marked) None))

abbrev pub busy : UnitView
busy = record { is_broken = false; epoch = 2; was_made = λ e. (e == 1) || (e == 2); row = busy_rows; fence = None; is_released = false; is_shut = false; doubt = None }

abbrev pub busy_place : Place
busy_place = record { index = 0; epoch = 2; disk = 4 }

abbrev pub put_to_it : ℕ → Request
put_to_it bid = Request.Put busy_place bid

-- each answer that a put can have
pub record EachAnswer : Type 0 where
  pub done : Answers busy (put_to_it 4) Answer.Done Effect.Wrote
  pub already : Answers busy (put_to_it 2) Answer.Already Effect.Started
  pub deleted : Answers busy (put_to_it 3) Answer.Deleted Effect.Started
  pub full : Answers busy (put_to_it 4) (Answer.Full 99) Effect.Started
  pub doubted : Answers busy (put_to_it 4) Answer.Fault Effect.Doubted
  pub fenced : Answers (record busy { fence = Some 7 }) (put_to_it 4) (Answer.Fenced 7) Effect.Started
  pub unstarted : Answers (record busy { is_shut = true; doubt = Some (UnitRecord.Shard 4) }) (put_to_it 4) Answer.Fault Effect.Nothing
  pub not_in_doubt : Answers (record busy { is_shut = true; doubt = Some (UnitRecord.Shard 4) }) (put_to_it 4) Answer.Done Effect.Wrote → ⊥
  pub no_unit : Answers (record busy { epoch = 3 }) (put_to_it 4) Answer.NoUnit Effect.Nothing
  pub stale : Answers (record busy { epoch = 1 }) (put_to_it 4) (Answer.Stale 2) Effect.Nothing
  pub released : Answers (record busy { is_released = true }) (put_to_it 4) (Answer.Stale 2) Effect.Nothing
  pub broken : Answers (record busy { is_broken = true }) (put_to_it 4) Answer.Broken Effect.Nothing

-- A lock of two moves: index 0 goes to disk 10, and index 1 to disk 11.
abbrev pub two_targets : List Target
two_targets = record { index = 0; disk = 10 } ∷ record { index = 1; disk = 11 } ∷ []

abbrev pub second_transfer : Transfer
second_transfer = record { index = 1; old = record { epoch = 1; disk = 2 }; dest = record { epoch = 2; disk = 11 } }

abbrev pub both_locked : Manager
both_locked = written (lock_record 1 two_targets leased) leased

abbrev pub first_unit : ℕ → Place
first_unit index = record { index = index; epoch = 1; disk = index + 1 }

-- a listing that shows blob 7
abbrev pub shows_seven : Shown
shows_seven = record { live = 7 ∷ []; marked = [] }

-- these units' listings are heard
abbrev pub hear_listings : List ℕ → Manager → Manager
hear_listings [] m = m
hear_listings (index ∷ indexes) m = hear (Request.List (first_unit index) 1) (Answer.Listing 1 shows_seven) (hear_listings indexes m)

-- seven units are listed, one old unit is fenced, then both; and the blob is copied to both destinations
abbrev pub both_listed : Manager
both_listed = hear_listings (0 ∷ 1 ∷ 2 ∷ 3 ∷ 4 ∷ 5 ∷ 6 ∷ []) both_locked

abbrev pub one_fenced : Manager
one_fenced = hear (Request.Fence (first_unit 0) 1) Answer.Done both_listed

abbrev pub both_fenced : Manager
both_fenced = hear (Request.Fence (first_unit 1) 1) Answer.Done one_fenced

abbrev pub copied_to : ℕ → ℕ → ℕ → Manager → Manager
copied_to index epoch disk m = hear (Request.Copy (record { index = index; epoch = epoch; disk = disk }) 7) Answer.Done m

abbrev pub both_copied : Manager
both_copied = copied_to 1 2 11 (copied_to 0 2 10 both_fenced)

-- the first destination breaks, and gets a new one, which has to be copied to anew
abbrev pub one_retargeted : Manager
one_retargeted = written (retarget_record 0 12 both_copied) both_copied

abbrev pub copied_again : Manager
copied_again = copied_to 0 3 12 one_retargeted

abbrev pub both_swapped : Manager
both_swapped = written ManagerRecord.Swapped copied_again

abbrev pub one_released : Manager
one_released = hear (Request.Release (first_unit 0)) Answer.Done both_swapped

abbrev pub both_released : Manager
both_released = hear (Request.Release (first_unit 1)) (Answer.Stale 3) one_released

-- Two units are moved by one lock, and a destination breaks between. The swap waits for each fence and for each destination, and the
-- unlock for each release; what was heard of the other move is kept.
pub record TwoAreMoved : Type 0 where
  pub same_disk : Locks none_broken 10 1 (record { index = 0; disk = 10 } ∷ record { index = 1; disk = 10 } ∷ []) leased (Reply.DestHeld 0) leased
  pub lock : Locks none_broken 10 1 two_targets leased (Reply.Granted 1 (first_transfer 2 10 ∷ second_transfer ∷ [])) both_locked
  pub not_fenced : Swaps small none_broken 1 one_fenced Reply.NotFenced one_fenced
  pub not_copied : Swaps small none_broken 1 both_fenced (Reply.NotCopied 7) both_fenced
  pub broken : Swaps small tenth_broken 1 both_copied Reply.DestBroken both_copied
  pub not_moved : Retargets tenth_broken 1 2 12 both_copied Reply.NotMoved both_copied
  pub held : Retargets tenth_broken 1 0 11 both_copied (Reply.DestHeld 1) both_copied
  pub good : Retargets tenth_broken 1 1 12 both_copied Reply.DestGood both_copied
  pub retarget : Retargets tenth_broken 1 0 12 both_copied (Reply.Granted 1 (first_transfer 3 12 ∷ second_transfer ∷ [])) one_retargeted
  pub forgotten : Swaps small tenth_broken 1 one_retargeted (Reply.NotCopied 7) one_retargeted
  pub swap : Swaps small tenth_broken 1 copied_again Reply.Done both_swapped
  pub moved : both_swapped.homes ≡ record { epoch = 3; disk = 12 } ∷ record { epoch = 2; disk = 11 } ∷ homes_from 1 (3 ∷ 4 ∷ 5 ∷ 6 ∷ 7 ∷ 8 ∷ 9 ∷ [])
  pub not_released : Unlocks tenth_broken 1 one_released Reply.NotReleased one_released
  pub unlock : Unlocks tenth_broken 1 both_released Reply.Done (written ManagerRecord.Unlocked both_released)

-- an event whose record may stand in the log or not, and both ways of its settling
pub record IsDoubtful (s : State) (event : Event) (item : ManagerRecord) : Type 0 where
  pub fault : Happens small s event Reply.Fault (record s { manager = in_doubt item s.manager })
  pub found : SettlesManager (record s { manager = in_doubt item s.manager }) true (record s { manager = forgetful (written item s.manager) })
  pub lost : SettlesManager (record s { manager = in_doubt item s.manager }) false (record s { manager = forgetful s.manager })
  pub shut : Happens small (record s { manager = in_doubt item s.manager }) Event.Lease Reply.Fault s → ⊥

abbrev pub at_ten : Manager → State
at_ten m = record one_begun { manager = m; time = 10 }

abbrev pub one_asked : Manager
one_asked = written (ManagerRecord.Asked 1) leased

-- marks of the first blob, heard of these units
abbrev pub hear_marks : List ℕ → Manager → Manager
hear_marks [] m = m
hear_marks (index ∷ indexes) m = hear (Request.Mark (first_unit index) 1) Answer.Done (hear_marks indexes m)

abbrev pub one_marked : Manager
one_marked = hear_marks (0 ∷ 1 ∷ 2 ∷ 3 ∷ 4 ∷ 5 ∷ 6 ∷ []) one_asked

-- each record of the manager may be left in doubt
pub record EachDoubt : Type 0 where
  pub lease : IsDoubtful nine_units Event.Lease (ManagerRecord.Leased 10)
  pub lock : IsDoubtful (at_ten leased) (Event.Lock 1 two_targets) (lock_record 1 two_targets leased)
  pub retarget : IsDoubtful (record (at_ten both_copied) { broken = tenth_broken }) (Event.Retarget 1 0 12) (retarget_record 0 12 both_copied)
  pub swap : IsDoubtful (record (at_ten copied_again) { broken = tenth_broken }) (Event.Swap 1) ManagerRecord.Swapped
  pub unlock : IsDoubtful (record (at_ten both_released) { broken = tenth_broken }) (Event.Unlock 1) ManagerRecord.Unlocked
  pub ask : IsDoubtful (at_ten leased) (Event.Ask 1) (ManagerRecord.Asked 1)
  pub commit : IsDoubtful (at_ten one_marked) (Event.Commit 1) (ManagerRecord.Committed 1)
