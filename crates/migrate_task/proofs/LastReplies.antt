-- The last reply of a call tells its answer, and some replies are always the last.
use Rattle.std.proofs.Common.{◌≡◌, ℕ, ◌+◌, ◌<◌, ◌≤◌, ◌⊎◌, inl, inr, nat_lt, Bool, true, false, cond, ◌==◌, List, [], ◌∷◌, length, filter, Option, Some, None, Result, Ok, Err, refl, sym, ◌∙◌, ap, subst, arith}
use Rattle.std.specs.Prelude.{IfSome}
use Rattle.std.specs.List.{list_any}
use Rattle.std.proofs.lemmas.Bool.{eqb-true, eqb-false, ltb-true}
use Rattle.std.proofs.Math.Nat.{eq-or-lt_of_le}
use Rattle.unit_id.specs.Lists.{IsIn}
use Rattle.unit_id.specs.declared.homes.Home.{Home}
use Rattle.unit_id.specs.declared.moves.Move.{Move}
use Rattle.unit_id.specs.declared.targets.Target.{Target}
use Rattle.unit_id.specs.declared.task.Task.{Task}
use Rattle.unit_id.specs.declared.answer.Answer.TheVariants as answers
use Rattle.rs_code.specs.ShardValue.{rebuilt}
use Rattle.code_mode.specs.declared.mode.Mode.{Mode}
use Rattle.code_mode.specs.Mode.{data_count, sight}
use Rattle.code_mode.proofs.Numbers.{sound_numbers}
use Rattle.volume_entry.specs.declared.view.LockView.{LockView}
use Rattle.volume_entry.specs.declared.view.View.{View}
use Rattle.volume_world.specs.declared.event.Event.{Event}
use Rattle.volume_world.specs.declared.event.Event.TheVariants as events
use Rattle.volume_world.specs.declared.reply.Reply.{Reply}
use Rattle.volume_world.specs.declared.reply.Reply.TheVariants as replies
use Rattle.volume_world.specs.Way.{Origin}
use Rattle.volume_world.specs.Replying.{MayReply, RepliesLook, RepliesSend, RepliesLock, RepliesRetarget, RepliesSwap, RepliesUnlock}
use Rattle.volume_world.specs.Course.{Part}
use Rattle.volume_world.specs.Call.{Next}
use Rattle.migrate_task.specs.declared.stage.Stage.{Stage}
use Rattle.migrate_task.specs.declared.stage.Stage.TheVariants as stages
use Rattle.migrate_task.specs.declared.stage.Why.TheVariants as why
use Rattle.migrate_task.specs.declared.stage.TaskFault.{TaskFault}
use Rattle.migrate_task.specs.declared.stage.TaskFault.TheVariants as faults
use Rattle.migrate_task.specs.declared.work.Journey.{Journey}
use Rattle.migrate_task.specs.declared.listing.Listing.{Listing}
use Rattle.migrate_task.specs.declared.copying.Errand.{Errand}
use Rattle.migrate_task.specs.declared.copying.Due.{Due}
use Rattle.migrate_task.specs.declared.copying.Due.TheVariants as dues
use Rattle.migrate_task.specs.declared.usable.KnownSize.{KnownSize}
use Rattle.migrate_task.specs.declared.gathering.Gathered.{Gathered}
use Rattle.migrate_task.specs.Work.{Work, journeys_to, journeys_from, with_broken, with_old_units, unbroken, errands}
use Rattle.migrate_task.specs.Copies as copies
use Rattle.migrate_task.specs.Copies.{CopyStage, CopyNext, copy_asks, copy_after, next_errand, is_usable, knowing, nothing_gathered, one_unheard, others_than, reading, gathering, with_shard, copy_begins, errand_begins, after_mark, after_old, after_other, after_write}
use Rattle.migrate_task.specs.AdvanceCall.{TaskStage, TaskNext, task_asks, task_call, task_after, waits, copying, listing_units, listing_dests, fencing, creating, retargeting, releasing, target_disk, unless_failed, not_its_lock, no_use, with_listing, after_view, after_look, after_lock, after_retarget, after_create, after_fence, after_dest, after_unit, after_swap, after_release, after_unlock, after_copy, units_in, AdvancesBy}
use Rattle.migrate_task.specs.Endings.{Asked, asked_in, WasAsked, LeavesOpen, IsSentTo, HasOther, TellsShort, TellsShortShards, TellsWhy, Tells, BreaksOff, HasLast, LastRepliesTell, final_answer, RepliesEndCalls, UnlockedIsDone}
use Rattle.migrate_task.proofs.DoneCalls.{Gives, rest_gives, Fit, fit_asked}

-- ---- what holds of a call's points

-- a work of this task, in this mode
record IsWorkOf (mode : Mode) (task : Task) (work : Work) : Type 0 where
  in_mode : work.mode ≡ mode
  for_task : work.task ≡ task.id

-- fewer shards are gathered than suffice
abbrev IsCopyIn : Mode → CopyStage → Type 0
IsCopyIn mode (CopyStage.ReadingOther known e left gathered home homes) = gathered.live < data_count mode
IsCopyIn mode copy = Unit {0}

abbrev AreBroken : List Move → Type 0
AreBroken moves = (move : Move) → IsIn move moves → move.dest_broken ≡ true

-- what is next behind this event with this reply
abbrev Stands : Mode → Task → Event → Reply → TaskNext → Type 0
Stands mode task event reply (Next.Go TaskStage.Looking) = Unit {0}
Stands mode task event reply (Next.Go (TaskStage.Locking homes)) = Unit {0}
Stands mode task event reply (Next.Go (TaskStage.Retargeting work move left)) = IsWorkOf mode task work × AreBroken left
Stands mode task event reply (Next.Go (TaskStage.Creating work j left)) = IsWorkOf mode task work
Stands mode task event reply (Next.Go (TaskStage.Fencing work j left)) = IsWorkOf mode task work
Stands mode task event reply (Next.Go (TaskStage.ListingDest work dests j left)) = IsWorkOf mode task work
Stands mode task event reply (Next.Go (TaskStage.ListingUnit work dests heard home left)) = IsWorkOf mode task work
Stands mode task event reply (Next.Go (TaskStage.Copying work copy)) = IsWorkOf mode task work × IsCopyIn mode copy
Stands mode task event reply (Next.Go (TaskStage.Swapping work)) = IsWorkOf mode task work
Stands mode task event reply (Next.Go (TaskStage.Releasing work j left)) = IsWorkOf mode task work
Stands mode task event reply (Next.Go (TaskStage.Unlocking work)) = IsWorkOf mode task work
Stands mode task event reply (Next.Over given) = Tells mode task event reply given
Stands mode task event reply Next.Never = Unit {0}

choice_stands : (mode : Mode) (task : Task) (event : Event) (reply : Reply) (test : Bool) (a b : TaskNext) → (test ≡ true → Stands mode task event reply a) → (test ≡ false → Stands mode task event reply b) → Stands mode task event reply (cond test a b)
choice_stands mode task event reply true a b h k = h refl
choice_stands mode task event reply false a b h k = k refl

lt_holds : (a b : ℕ) → nat_lt a b ≡ true → a < b
lt_holds a b e = ltb-true a b e

short_told : (mode : Mode) (listed : ℕ) (reply : Reply) → LeavesOpen reply → listed < sight mode → TellsShort mode listed reply
short_told mode listed (replies.Seen view) plain less = (tt, less)
short_told mode listed (replies.Granted lock moves) plain less = (tt, less)
short_told mode listed (replies.Heard answer) plain less = (tt, less)
short_told mode listed replies.Unheard plain less = (tt, less)
short_told mode listed replies.Barred plain less = (tt, less)
short_told mode listed reply plain less = absurd plain

shards_told : (mode : Mode) (bid live unheard : ℕ) (reply : Reply) → LeavesOpen reply → live < data_count mode → TellsShortShards mode bid live unheard reply
shards_told mode bid live unheard (replies.Seen view) plain less = (tt, less)
shards_told mode bid live unheard (replies.Granted lock moves) plain less = (tt, less)
shards_told mode bid live unheard (replies.Heard answer) plain less = (tt, less)
shards_told mode bid live unheard replies.Unheard plain less = (tt, less)
shards_told mode bid live unheard replies.Barred plain less = (tt, less)
shards_told mode bid live unheard reply plain less = absurd plain

-- ---- copies

abbrev CopyStands : Mode → Task → Event → Reply → CopyNext → Type 0
CopyStands mode task event reply (CopyNext.Asks copy) = IsCopyIn mode copy
CopyStands mode task event reply CopyNext.AllDone = Unit {0}
CopyStands mode task event reply (CopyNext.Waits reason) = TellsWhy mode task event reply reason
CopyStands mode task event reply CopyNext.Never = Unit {0}

copying_stands : (mode : Mode) (task : Task) (event : Event) (reply : Reply) (work : Work) (next : CopyNext) → IsWorkOf mode task work → CopyStands mode task event reply next → Stands mode task event reply (copying work next)
copying_stands mode task event reply work (CopyNext.Asks copy) w h = (w, h)
copying_stands mode task event reply work CopyNext.AllDone w h = w
copying_stands mode task event reply work (CopyNext.Waits reason) w h = h
copying_stands mode task event reply work CopyNext.Never w h = tt

reading_stands : (mode : Mode) (task : Task) (event : Event) (reply : Reply) (known : Option KnownSize) (e : Errand) (left : List Errand) (gathered : Gathered) (homes : List Home) → LeavesOpen reply → gathered.live < data_count mode
    → CopyStands mode task event reply (reading known e left gathered homes)
reading_stands mode task event reply known e left gathered [] plain less = shards_told mode e.bid gathered.live gathered.unheard reply plain less
reading_stands mode task event reply known e left gathered (home ∷ homes) plain less = less

begins_stands : (mode : Mode) (task : Task) (event : Event) (reply : Reply) (work : Work) (known : Option KnownSize) (e : Errand) (left : List Errand) (broken : Bool) → LeavesOpen reply
    → CopyStands mode task event reply (cond broken (reading known e left (nothing_gathered work.mode) (others_than e.journey.index work.homes)) (CopyNext.Asks (CopyStage.ReadingOld known e left)))
begins_stands mode task event reply work known e left true plain =
    reading_stands mode task event reply known e left (nothing_gathered work.mode) (others_than e.journey.index work.homes) plain (sound_numbers mode).some_data
begins_stands mode task event reply work known e left false plain = tt

due_stands : (mode : Mode) (task : Task) (event : Event) (reply : Reply) (work : Work) (known : Option KnownSize) (e : Errand) (left : List Errand) (due : Due) → LeavesOpen reply
    → CopyStands mode task event reply (errand_begins work known e left due)
due_stands mode task event reply work known e left dues.Mark plain = tt
due_stands mode task event reply work known e left dues.Copy plain = begins_stands mode task event reply work known e left e.journey.old.broken plain
due_stands mode task event reply work known e left dues.Left plain = tt

errand_stands : (mode : Mode) (task : Task) (event : Event) (reply : Reply) (work : Work) (known : Option KnownSize) (left : List Errand) → LeavesOpen reply → CopyStands mode task event reply (next_errand work known left)
unfolding next_errand
errand_stands mode task event reply work known [] plain = tt
errand_stands mode task event reply work known (e ∷ left) plain = due_stands mode task event reply work known e left e.due plain

-- a send that is of no use to a copy
sent_useless : (mode : Mode) (task : Task) (event : Event) (disk : ℕ) (reply : Reply) → IsSentTo disk event → CopyStands mode task event reply (copies.no_use disk reply)
sent_useless mode task event disk (replies.Heard answers.Broken) to = tt
sent_useless mode task event disk (replies.Heard answer) to = to
sent_useless mode task event disk replies.Unheard to = (to, refl)
sent_useless mode task event disk replies.Barred to = to
sent_useless mode task event disk reply to = tt

mark_stands : (mode : Mode) (task : Task) (event : Event) (work : Work) (known : Option KnownSize) (e : Errand) (left : List Errand) (reply : Reply) → IsSentTo e.journey.dest.disk event
    → CopyStands mode task event reply (after_mark work known e left reply)
mark_stands mode task event work known e left (replies.Heard answers.Done) to = errand_stands mode task event (replies.Heard answers.Done) work known left tt
mark_stands mode task event work known e left (replies.Heard answers.Already) to = errand_stands mode task event (replies.Heard answers.Already) work known left tt
mark_stands mode task event work known e left reply to = sent_useless mode task event e.journey.dest.disk reply to

write_stands : (mode : Mode) (task : Task) (event : Event) (work : Work) (known : Option KnownSize) (e : Errand) (left : List Errand) (reply : Reply) → IsSentTo e.journey.dest.disk event
    → CopyStands mode task event reply (after_write work known e left reply)
write_stands mode task event work known e left (replies.Heard answers.Done) to = errand_stands mode task event (replies.Heard answers.Done) work known left tt
write_stands mode task event work known e left (replies.Heard answers.Already) to = errand_stands mode task event (replies.Heard answers.Already) work known left tt
write_stands mode task event work known e left (replies.Heard answers.Deleted) to = errand_stands mode task event (replies.Heard answers.Deleted) work known left tt
write_stands mode task event work known e left reply to = sent_useless mode task event e.journey.dest.disk reply to

old_stands : (mode : Mode) (task : Task) (event : Event) (work : Work) (known : Option KnownSize) (e : Errand) (left : List Errand) (reply : Reply) → CopyStands mode task event reply (after_old work known e left reply)
old_stands mode task event work known e left (replies.Heard (answers.Live size bytes)) = usable (is_usable work.mode known e.bid size bytes)
  where
    usable : (test : Bool) → CopyStands mode task event (replies.Heard (answers.Live size bytes))
        (cond test (CopyNext.Asks (CopyStage.Writing (knowing e.bid size) e left size bytes)) (reading known e left (nothing_gathered work.mode) (others_than e.journey.index work.homes)))
    usable true = tt
    usable false = reading_stands mode task event (replies.Heard (answers.Live size bytes)) known e left (nothing_gathered work.mode) (others_than e.journey.index work.homes) tt (sound_numbers mode).some_data
old_stands mode task event work known e left (replies.Heard answer) =
    reading_stands mode task event (replies.Heard answer) known e left (nothing_gathered work.mode) (others_than e.journey.index work.homes) tt (sound_numbers mode).some_data
old_stands mode task event work known e left replies.Unheard =
    reading_stands mode task event replies.Unheard known e left (one_unheard (nothing_gathered work.mode)) (others_than e.journey.index work.homes) tt (sound_numbers mode).some_data
old_stands mode task event work known e left replies.Barred =
    reading_stands mode task event replies.Barred known e left (nothing_gathered work.mode) (others_than e.journey.index work.homes) tt (sound_numbers mode).some_data
old_stands mode task event work known e left reply = tt

-- one shard more, and still fewer than suffice, or as many
gathered_less : (live count : ℕ) → live < count → (live + 1 == count) ≡ false → live + 1 < count
gathered_less live count less e =
    let most : live + 1 ≤ count = omega arith in
    elim (eq-or-lt_of_le most) [ inl same ↦ absurd (eqb-false (live + 1) count e same) | inr fewer ↦ fewer ]

gathering_stands : (mode : Mode) (task : Task) (event : Event) (reply : Reply) (work : Work) (e : Errand) (left : List Errand) (gathered : Gathered) (index : ℕ) (bytes : List ℕ) (homes : List Home) (size : ℕ) → LeavesOpen reply
    → IsWorkOf mode task work → gathered.live < data_count mode → CopyStands mode task event reply (gathering work e left (with_shard gathered index bytes) homes size)
gathering_stands mode task event reply work e left gathered index bytes homes size plain w less = enough (gathered.live + 1 == data_count work.mode) refl
  where
    enough : (test : Bool) → (gathered.live + 1 == data_count work.mode) ≡ test → CopyStands mode task event reply
        (cond test (CopyNext.Asks (CopyStage.Writing (knowing e.bid size) e left size (rebuilt (data_count work.mode) (with_shard gathered index bytes).shards e.journey.index)))
        (reading (knowing e.bid size) e left (with_shard gathered index bytes) homes))
    enough true test = tt
    enough false test =
        reading_stands mode task event reply (knowing e.bid size) e left (with_shard gathered index bytes) homes plain
        (gathered_less gathered.live (data_count mode) less (ap (λ m. gathered.live + 1 == data_count m) (sym w.in_mode) ∙ test))

other_stands : (mode : Mode) (task : Task) (event : Event) (work : Work) (known : Option KnownSize) (e : Errand) (left : List Errand) (gathered : Gathered) (home : Home) (homes : List Home) (reply : Reply) → IsWorkOf mode task work
    → gathered.live < data_count mode → CopyStands mode task event reply (after_other work known e left gathered home homes reply)
other_stands mode task event work known e left gathered home homes (replies.Heard (answers.Live size bytes)) w less = usable (is_usable work.mode known e.bid size bytes)
  where
    usable : (test : Bool) → CopyStands mode task event (replies.Heard (answers.Live size bytes))
        (cond test (gathering work e left (with_shard gathered home.unit.index bytes) homes size) (reading known e left gathered homes))
    usable true = gathering_stands mode task event (replies.Heard (answers.Live size bytes)) work e left gathered home.unit.index bytes homes size tt w less
    usable false = reading_stands mode task event (replies.Heard (answers.Live size bytes)) known e left gathered homes tt less
other_stands mode task event work known e left gathered home homes (replies.Heard answer) w less = reading_stands mode task event (replies.Heard answer) known e left gathered homes tt less
other_stands mode task event work known e left gathered home homes replies.Unheard w less = reading_stands mode task event replies.Unheard known e left (one_unheard gathered) homes tt less
other_stands mode task event work known e left gathered home homes replies.Barred w less = reading_stands mode task event replies.Barred known e left gathered homes tt less
other_stands mode task event work known e left gathered home homes reply w less = tt

copy_stands : (mode : Mode) (task : Task) (work : Work) (copy : CopyStage) (reply : Reply) → IsWorkOf mode task work → IsCopyIn mode copy
    → CopyStands mode task (events.Send (copy_asks copy)) reply (copy_after work copy reply)
copy_stands mode task work (CopyStage.Marking known e left) reply w h = mark_stands mode task (events.Send (copy_asks (CopyStage.Marking known e left))) work known e left reply refl
copy_stands mode task work (CopyStage.ReadingOld known e left) reply w h = old_stands mode task (events.Send (copy_asks (CopyStage.ReadingOld known e left))) work known e left reply
copy_stands mode task work (CopyStage.ReadingOther known e left gathered home homes) reply w h =
    other_stands mode task (events.Send (copy_asks (CopyStage.ReadingOther known e left gathered home homes))) work known e left gathered home homes reply w h
copy_stands mode task work (CopyStage.Writing known e left size bytes) reply w h = write_stands mode task (events.Send (copy_asks (CopyStage.Writing known e left size bytes))) work known e left reply refl

-- ---- what is next

units_stand : (mode : Mode) (task : Task) (event : Event) (reply : Reply) (work : Work) (dests heard : List Listing) (homes : List Home) → LeavesOpen reply → IsWorkOf mode task work
    → Stands mode task event reply (listing_units work dests heard homes)
unfolding listing_units
units_stand mode task event reply work dests heard [] plain w =
    choice_stands mode task event reply (nat_lt (length heard) (sight work.mode)) (waits (why.Short (length heard))) (copying work (next_errand work None (errands work dests heard)))
    (λ e. short_told mode (length heard) reply plain (lt_holds (length heard) (sight mode) (ap (λ m. nat_lt (length heard) (sight m)) (sym w.in_mode) ∙ e)))
    (λ e. copying_stands mode task event reply work (next_errand work None (errands work dests heard)) w (errand_stands mode task event reply work None (errands work dests heard) plain))
units_stand mode task event reply work dests heard (home ∷ left) plain w = w

dests_stand : (mode : Mode) (task : Task) (event : Event) (reply : Reply) (work : Work) (dests : List Listing) (left : List Journey) → LeavesOpen reply → IsWorkOf mode task work
    → Stands mode task event reply (listing_dests work dests left)
unfolding listing_dests
dests_stand mode task event reply work dests [] plain w = units_stand mode task event reply work dests [] (unbroken work.homes) plain w
dests_stand mode task event reply work dests (j ∷ left) plain w = w

fencing_stands : (mode : Mode) (task : Task) (event : Event) (reply : Reply) (work : Work) (left : List Journey) → LeavesOpen reply → IsWorkOf mode task work → Stands mode task event reply (fencing work left)
unfolding fencing
fencing_stands mode task event reply work [] plain w = dests_stand mode task event reply work [] work.journeys plain w
fencing_stands mode task event reply work (j ∷ left) plain w = w

creating_stands : (mode : Mode) (task : Task) (event : Event) (reply : Reply) (work : Work) (left : List Journey) → LeavesOpen reply → IsWorkOf mode task work → Stands mode task event reply (creating work left)
unfolding creating
creating_stands mode task event reply work [] plain w = fencing_stands mode task event reply work (with_old_units work.journeys) plain w
creating_stands mode task event reply work (j ∷ left) plain w = w

-- a target's disk, as a reply that shows a lock leaves it
record AreTold (mode : Mode) (task : Task) (event : Event) (reply : Reply) : Type 0 where
  no_disk : (move : Move) → move.dest_broken ≡ true → target_disk task.targets move.index ≡ 0 → TellsWhy mode task event reply why.NoDisk
  broken : (move : Move) → move.dest_broken ≡ true → target_disk task.targets move.index ≡ move.disk → TellsWhy mode task event reply why.DestBroken

retargeting_stands : (mode : Mode) (task : Task) (event : Event) (reply : Reply) (work : Work) (left : List Move) → LeavesOpen reply → AreTold mode task event reply → AreBroken left → IsWorkOf mode task work
    → Stands mode task event reply (retargeting task.targets work left)
unfolding retargeting
retargeting_stands mode task event reply work [] plain told broken w = creating_stands mode task event reply work work.journeys plain w
retargeting_stands mode task event reply work (move ∷ left) plain told broken w =
    choice_stands mode task event reply (target_disk task.targets move.index == 0) (waits why.NoDisk)
    (cond (target_disk task.targets move.index == move.disk) (waits why.DestBroken) (Next.Go (TaskStage.Retargeting work move left)))
    (λ e. told.no_disk move (broken move (inl refl)) (eqb-true (target_disk task.targets move.index) 0 e))
    (λ e. choice_stands mode task event reply (target_disk task.targets move.index == move.disk) (waits why.DestBroken) (Next.Go (TaskStage.Retargeting work move left))
    (λ same. told.broken move (broken move (inl refl)) (eqb-true (target_disk task.targets move.index) move.disk same)) (λ other. (w, λ m i. broken m (inr i))))

-- ---- what replies make of it

failure_stands : (mode : Mode) (task : Task) (event : Event) (reply : Reply) → Stands mode task event reply (unless_failed reply)
failure_stands mode task event replies.Fault = refl
failure_stands mode task event (replies.Spoiled place) = refl
failure_stands mode task event reply = tt

lock_stands : (mode : Mode) (task : Task) (event : Event) (own : ℕ) (reply : Reply) → own ≡ task.id → Stands mode task event reply (not_its_lock own reply)
lock_stands mode task event own replies.NotLocked e = e
lock_stands mode task event own (replies.OtherTask other) e = refl
lock_stands mode task event own replies.AlreadySwapped e = e
lock_stands mode task event own replies.NotSwapped e = e
lock_stands mode task event own replies.NotMoved e = e
lock_stands mode task event own replies.DestGood e = e
lock_stands mode task event own reply e = failure_stands mode task event reply

use_stands : (mode : Mode) (task : Task) (event : Event) (disk : ℕ) (reply : Reply) → IsSentTo disk event → Stands mode task event reply (no_use disk reply)
use_stands mode task event disk (replies.Heard answer) to = to
use_stands mode task event disk replies.Unheard to = (to, refl)
use_stands mode task event disk replies.Barred to = to
use_stands mode task event disk reply to = failure_stands mode task event reply

some_broken : (moves : List Move) → AreBroken (filter (λ (move : Move). move.dest_broken) moves)
some_broken [] m i = absurd i
some_broken (x ∷ moves) m i = kept x.dest_broken refl (some_broken moves m) i
  where
    kept : (test : Bool) → x.dest_broken ≡ test → (IsIn m (filter (λ (move : Move). move.dest_broken) moves) → m.dest_broken ≡ true)
        → IsIn m (cond test (x ∷ filter (λ (move : Move). move.dest_broken) moves) (filter (λ (move : Move). move.dest_broken) moves)) → m.dest_broken ≡ true
    kept true e rest (inl here) = ap (λ (y : Move). y.dest_broken) here ∙ e
    kept true e rest (inr there) = rest there
    kept false e rest there = rest there

releasing_stands : (mode : Mode) (task : Task) (event : Event) (reply : Reply) (work : Work) (left : List Journey) → IsWorkOf mode task work → Stands mode task event reply (Next.Go (releasing work left))
releasing_stands mode task event reply work [] w = w
releasing_stands mode task event reply work (j ∷ left) w = w

held_stands : (mode : Mode) (task : Task) (view : View) (lock : LockView) → view.held ≡ Some lock → Stands mode task events.Look (replies.Seen view) (after_view mode task view (Some lock))
held_stands mode task view lock held = own (lock.task == task.id) lock.swapped refl
  where
    own : (own swapped : Bool) → (lock.task == task.id) ≡ own → Stands mode task events.Look (replies.Seen view)
        (cond own
        (cond swapped
        (Next.Go (releasing (record { mode = mode; task = task.id; lock = lock.lock; homes = view.units; journeys = journeys_from view.units lock.moves }) (journeys_from view.units lock.moves)))
        (retargeting task.targets (record { mode = mode; task = task.id; lock = lock.lock; homes = view.units; journeys = journeys_to view.units lock.moves })
        (filter (λ (move : Move). move.dest_broken) lock.moves)))
        (waits (why.Locked lock.task)))
    own false swapped e = subst (HasOther task lock.task) (sym held) (e, refl)
    own true true e = releasing_stands mode task events.Look (replies.Seen view) (record { mode = mode; task = task.id; lock = lock.lock; homes = view.units; journeys = journeys_from view.units lock.moves })
        (journeys_from view.units lock.moves) (record { in_mode = refl; for_task = refl })
    own true false e = retargeting_stands mode task events.Look (replies.Seen view) (record { mode = mode; task = task.id; lock = lock.lock; homes = view.units; journeys = journeys_to view.units lock.moves })
        (filter (λ (move : Move). move.dest_broken) lock.moves) tt
        (record { no_disk = λ move broken none. inr (move, broken, none); broken = λ move broken same. (move, broken, same) }) (some_broken lock.moves) (record { in_mode = refl; for_task = refl })

view_stands : (mode : Mode) (task : Task) (view : View) (held : Option LockView) → view.held ≡ held → Stands mode task events.Look (replies.Seen view) (after_view mode task view held)
view_stands mode task view None held =
    choice_stands mode task events.Look (replies.Seen view) (list_any (λ (t : Target). t.disk == 0) task.targets) (waits why.NoDisk) (Next.Go (TaskStage.Locking view.units)) (λ lacks. inl (held, lacks)) (λ e. tt)
view_stands mode task view (Some lock) held = held_stands mode task view lock held

look_stands : (mode : Mode) (task : Task) (reply : Reply) → Stands mode task events.Look reply (after_look mode task reply)
look_stands mode task (replies.Seen view) = view_stands mode task view view.held refl
look_stands mode task reply = failure_stands mode task events.Look reply

grant_stands : (mode : Mode) (task : Task) (event : Event) (homes : List Home) (reply : Reply) → Stands mode task event reply (after_lock mode task homes reply)
grant_stands mode task event homes (replies.Granted lock moves) =
    creating_stands mode task event (replies.Granted lock moves) (record { mode = mode; task = task.id; lock = lock; homes = homes; journeys = journeys_to homes moves }) (journeys_to homes moves) tt (record { in_mode = refl; for_task = refl })
grant_stands mode task event homes (replies.Locked other) = refl
grant_stands mode task event homes (replies.LeaseRuns end) = refl
grant_stands mode task event homes replies.DestBroken = tt
grant_stands mode task event homes (replies.DestHeld index) = refl
grant_stands mode task event homes replies.EpochSpent = refl
grant_stands mode task event homes reply = failure_stands mode task event reply

retarget_stands : (mode : Mode) (task : Task) (event : Event) (work : Work) (left : List Move) (reply : Reply) → IsWorkOf mode task work → AreBroken left → Stands mode task event reply (after_retarget task work left reply)
retarget_stands mode task event work left (replies.Granted lock moves) w broken =
    retargeting_stands mode task event (replies.Granted lock moves) (record work { journeys = journeys_to work.homes moves }) left tt
    (record { no_disk = λ move is none. (move, is, none); broken = λ move is same. (move, is, same) }) broken (record { in_mode = w.in_mode; for_task = w.for_task })
retarget_stands mode task event work left replies.DestBroken w broken = tt
retarget_stands mode task event work left (replies.DestHeld index) w broken = refl
retarget_stands mode task event work left replies.EpochSpent w broken = refl
retarget_stands mode task event work left reply w broken = lock_stands mode task event task.id reply refl

create_stands : (mode : Mode) (task : Task) (event : Event) (work : Work) (disk : ℕ) (left : List Journey) (reply : Reply) → IsSentTo disk event → IsWorkOf mode task work → Stands mode task event reply (after_create work disk left reply)
create_stands mode task event work disk left (replies.Heard answers.Done) to w = creating_stands mode task event (replies.Heard answers.Done) work left tt w
create_stands mode task event work disk left (replies.Heard answers.Already) to w = creating_stands mode task event (replies.Heard answers.Already) work left tt w
create_stands mode task event work disk left (replies.Heard answers.Broken) to w = tt
create_stands mode task event work disk left reply to w = use_stands mode task event disk reply to

fence_stands : (mode : Mode) (task : Task) (event : Event) (work : Work) (disk : ℕ) (left : List Journey) (reply : Reply) → IsSentTo disk event → IsWorkOf mode task work → Stands mode task event reply (after_fence work disk left reply)
fence_stands mode task event work disk left (replies.Heard answers.Done) to w = fencing_stands mode task event (replies.Heard answers.Done) work left tt w
fence_stands mode task event work disk left (replies.Heard answers.Broken) to w =
    fencing_stands mode task event (replies.Heard answers.Broken) (with_broken disk work) left tt (record { in_mode = w.in_mode; for_task = w.for_task })
fence_stands mode task event work disk left reply to w = use_stands mode task event disk reply to

dest_stands : (mode : Mode) (task : Task) (event : Event) (work : Work) (dests : List Listing) (j : Journey) (left : List Journey) (reply : Reply) → IsSentTo j.dest.disk event → IsWorkOf mode task work
    → Stands mode task event reply (after_dest work dests j left reply)
dest_stands mode task event work dests j left (replies.Heard (answers.Listing lock live marked)) to w =
    choice_stands mode task event (replies.Heard (answers.Listing lock live marked)) (lock == work.lock) (listing_dests work (with_listing dests j.index live marked) left) (waits (why.Sick j.dest.disk))
    (λ e. dests_stand mode task event (replies.Heard (answers.Listing lock live marked)) work (with_listing dests j.index live marked) left tt w) (λ e. to)
dest_stands mode task event work dests j left replies.Unheard to w = dests_stand mode task event replies.Unheard work dests left tt w
dest_stands mode task event work dests j left (replies.Heard answers.Broken) to w = tt
dest_stands mode task event work dests j left reply to w = use_stands mode task event j.dest.disk reply to

unit_stands : (mode : Mode) (task : Task) (event : Event) (work : Work) (dests heard : List Listing) (home : Home) (left : List Home) (reply : Reply) → IsWorkOf mode task work
    → Stands mode task event reply (after_unit work dests heard home left reply)
unit_stands mode task event work dests heard home left (replies.Heard (answers.Listing lock live marked)) w =
    choice_stands mode task event (replies.Heard (answers.Listing lock live marked)) (lock == work.lock) (listing_units work dests (with_listing heard home.unit.index live marked) left) (listing_units work dests heard left)
    (λ e. units_stand mode task event (replies.Heard (answers.Listing lock live marked)) work dests (with_listing heard home.unit.index live marked) left tt w)
    (λ e. units_stand mode task event (replies.Heard (answers.Listing lock live marked)) work dests heard left tt w)
unit_stands mode task event work dests heard home left (replies.Heard answer) w = units_stand mode task event (replies.Heard answer) work dests heard left tt w
unit_stands mode task event work dests heard home left replies.Unheard w = units_stand mode task event replies.Unheard work dests heard left tt w
unit_stands mode task event work dests heard home left replies.Barred w = units_stand mode task event replies.Barred work dests heard left tt w
unit_stands mode task event work dests heard home left reply w = failure_stands mode task event reply

copied_stands : (mode : Mode) (task : Task) (work : Work) (copy : CopyStage) (reply : Reply) → IsWorkOf mode task work → IsCopyIn mode copy
    → Stands mode task (events.Send (copy_asks copy)) reply (after_copy work copy reply)
copied_stands mode task work copy replies.Fault w h = refl
copied_stands mode task work copy (replies.Spoiled place) w h = refl
copied_stands mode task work copy reply w h = copying_stands mode task (events.Send (copy_asks copy)) reply work (copy_after work copy reply) w (copy_stands mode task work copy reply w h)

swap_stands : (mode : Mode) (task : Task) (event : Event) (work : Work) (reply : Reply) → IsWorkOf mode task work → Stands mode task event reply (after_swap work reply)
swap_stands mode task event work replies.Done w = releasing_stands mode task event replies.Done work (with_old_units work.journeys) w
swap_stands mode task event work (replies.NotListed have) w = refl
swap_stands mode task event work replies.DestBroken w = tt
swap_stands mode task event work replies.NotFenced w = tt
swap_stands mode task event work (replies.NotCopied bid) w = (refl, refl, refl)
swap_stands mode task event work reply w = lock_stands mode task event work.task reply w.for_task

release_stands : (mode : Mode) (task : Task) (event : Event) (work : Work) (disk : ℕ) (left : List Journey) (reply : Reply) → IsSentTo disk event → IsWorkOf mode task work → Stands mode task event reply (after_release work disk left reply)
release_stands mode task event work disk left (replies.Heard answers.Done) to w = releasing_stands mode task event (replies.Heard answers.Done) work left w
release_stands mode task event work disk left (replies.Heard (answers.Stale have)) to w = releasing_stands mode task event (replies.Heard (answers.Stale have)) work left w
release_stands mode task event work disk left (replies.Heard answers.Broken) to w =
    releasing_stands mode task event (replies.Heard answers.Broken) (with_broken disk work) left (record { in_mode = w.in_mode; for_task = w.for_task })
release_stands mode task event work disk left reply to w = use_stands mode task event disk reply to

unlock_stands : (mode : Mode) (task : Task) (event : Event) (work : Work) (reply : Reply) → event ≡ events.Unlock task.id → IsWorkOf mode task work → Stands mode task event reply (after_unlock work reply)
unlock_stands mode task event work replies.Done e w = (e, refl)
unlock_stands mode task event work replies.NotReleased e w = tt
unlock_stands mode task event work reply e w = lock_stands mode task event work.task reply w.for_task

stage_stands : (mode : Mode) (task : Task) (before : Event) (last : Reply) (stage : TaskStage) (reply : Reply) → Stands mode task before last (Next.Go stage) → Stands mode task (task_asks task stage) reply (task_after mode task stage reply)
stage_stands mode task before last TaskStage.Looking reply h = look_stands mode task reply
stage_stands mode task before last (TaskStage.Locking homes) reply h = grant_stands mode task (events.Lock task.id task.targets) homes reply
stage_stands mode task before last (TaskStage.Retargeting work move left) reply h = retarget_stands mode task (task_asks task (TaskStage.Retargeting work move left)) work left reply h.0 h.1
stage_stands mode task before last (TaskStage.Creating work j left) reply h = create_stands mode task (task_asks task (TaskStage.Creating work j left)) work j.dest.disk left reply refl h
stage_stands mode task before last (TaskStage.Fencing work j left) reply h = fence_stands mode task (task_asks task (TaskStage.Fencing work j left)) work j.old.disk left reply refl h
stage_stands mode task before last (TaskStage.ListingDest work dests j left) reply h = dest_stands mode task (task_asks task (TaskStage.ListingDest work dests j left)) work dests j left reply refl h
stage_stands mode task before last (TaskStage.ListingUnit work dests heard home left) reply h = unit_stands mode task (task_asks task (TaskStage.ListingUnit work dests heard home left)) work dests heard home left reply h
stage_stands mode task before last (TaskStage.Copying work copy) reply h = copied_stands mode task work copy reply h.0 h.1
stage_stands mode task before last (TaskStage.Swapping work) reply h = swap_stands mode task (events.Swap task.id) work reply h
stage_stands mode task before last (TaskStage.Releasing work j left) reply h = release_stands mode task (task_asks task (TaskStage.Releasing work j left)) work j.old.disk left reply refl h
stage_stands mode task before last (TaskStage.Unlocking work) reply h = unlock_stands mode task (events.Unlock task.id) work reply refl h

-- ---- the last reply

last_later : (mode : Mode) (task : Task) (a : Asked) (asked : List Asked) (result : Result Stage TaskFault) → HasLast mode task asked result → HasLast mode task (a ∷ asked) result
last_later mode task a asked result h =
    record { event = h.event; reply = h.reply; ends = record { before = a ∷ h.ends.before; split = ap (λ xs. a ∷ xs) h.ends.split }; tells = h.tells }

asked_stands : (mode : Mode) (task : Task) (before : Event) (last : Reply) (stage : TaskStage) (a : Asked) → a.event ≡ task_asks task stage → Stands mode task before last (Next.Go stage)
    → Stands mode task a.event a.reply (task_after mode task stage a.reply)
asked_stands mode task before last stage a e h = subst (λ x. Stands mode task x a.reply (task_after mode task stage a.reply)) (sym e) (stage_stands mode task before last stage a.reply h)

tells_last : (mode : Mode) (task : Task) (result : Result Stage TaskFault) (a : Asked) (from : TaskNext) (asked : List Asked) → Stands mode task a.event a.reply from → Gives (task_call mode task) from asked result
    → HasLast mode task (a ∷ asked) result
tells_last mode task result a (Next.Over given) [] h g =
    record { event = a.event; reply = a.reply; ends = record { before = []; split = refl }; tells = subst (Tells mode task a.event a.reply) (sym g) h }
tells_last mode task result a (Next.Go stage) [] h g = absurd g
tells_last mode task result a Next.Never [] h g = absurd g
tells_last mode task result a (Next.Go stage) (b ∷ asked) h g =
    last_later mode task a (b ∷ asked) result (tells_last mode task result b (task_after mode task stage b.reply) asked (asked_stands mode task a.event a.reply stage b g.0 h) g.1)
tells_last mode task result a (Next.Over given) (b ∷ asked) h g = absurd g
tells_last mode task result a Next.Never (b ∷ asked) h g = absurd g

tells_first : (mode : Mode) (task : Task) (result : Result Stage TaskFault) (asked : List Asked) → Gives (task_call mode task) (Next.Go TaskStage.Looking) asked result → HasLast mode task asked result
tells_first mode task result [] g = absurd g
tells_first mode task result (a ∷ asked) g =
    tells_last mode task result a (task_after mode task TaskStage.Looking a.reply) asked (asked_stands mode task a.event a.reply TaskStage.Looking a g.0 tt) g.1

-- a call that doesn't break off comes to its answer
pub whole_gives : (mode : Mode) (task : Task) (parts : List Part) (result : Result Stage TaskFault) → AdvancesBy mode task parts result → Gives (task_call mode task) (Next.Go TaskStage.Looking) (asked_in parts) result ⊎ BreaksOff result
whole_gives mode task parts (Err faults.HistoryFull) h = inr tt
whole_gives mode task parts (Err faults.Memory) h = inr tt
whole_gives mode task parts (Err faults.EpochSpent) h = inl (rest_gives (task_call mode task) (Next.Go TaskStage.Looking) parts (Err faults.EpochSpent) h)
whole_gives mode task parts (Err faults.Fault) h = inl (rest_gives (task_call mode task) (Next.Go TaskStage.Looking) parts (Err faults.Fault) h)
whole_gives mode task parts (Err (faults.Spoiled place)) h = inl (rest_gives (task_call mode task) (Next.Go TaskStage.Looking) parts (Err (faults.Spoiled place)) h)
whole_gives mode task parts (Ok stage) h = inl (rest_gives (task_call mode task) (Next.Go TaskStage.Looking) parts (Ok stage) h)

pub last_replies_tell : LastRepliesTell
last_replies_tell origin task parts result fits call =
    elim (whole_gives origin.mode task parts result call) [ inl g ↦ inl (tells_first origin.mode task result (asked_in parts) g) | inr off ↦ inr off ]

-- ---- replies that end a call

over_given : (mode : Mode) (task : Task) (given result : Result Stage TaskFault) (asked : List Asked) → Gives (task_call mode task) (Next.Over given) asked result → result ≡ given
over_given mode task given result [] g = g
over_given mode task given result (a ∷ asked) g = absurd g

-- this reply, at this stage, makes its answer that of the call
abbrev Ends : Mode → Task → TaskStage → Reply → Type 0
Ends mode task stage reply = IfSome (final_answer task reply) (λ given. task_after mode task stage reply ≡ Next.Over given)

look_ends : (origin : Origin) (task : Task) (reply : Reply) → RepliesLook origin reply → Ends origin.mode task TaskStage.Looking reply
look_ends origin task (replies.Seen view) fits = tt
look_ends origin task replies.Fault fits = refl
look_ends origin task (replies.Spoiled place) fits = refl
look_ends origin task reply fits = absurd fits

grant_ends : (mode : Mode) (task : Task) (homes : List Home) (reply : Reply) → RepliesLock reply → Ends mode task (TaskStage.Locking homes) reply
grant_ends mode task homes (replies.Granted lock moves) fits = tt
grant_ends mode task homes (replies.Locked other) fits = refl
grant_ends mode task homes (replies.LeaseRuns end) fits = refl
grant_ends mode task homes replies.DestBroken fits = refl
grant_ends mode task homes (replies.DestHeld index) fits = refl
grant_ends mode task homes replies.EpochSpent fits = refl
grant_ends mode task homes replies.Fault fits = refl
grant_ends mode task homes (replies.Spoiled place) fits = refl
grant_ends mode task homes reply fits = absurd fits

retarget_ends : (mode : Mode) (task : Task) (work : Work) (move : Move) (left : List Move) (reply : Reply) → RepliesRetarget reply → Ends mode task (TaskStage.Retargeting work move left) reply
retarget_ends mode task work move left (replies.Granted lock moves) fits = tt
retarget_ends mode task work move left replies.DestBroken fits = refl
retarget_ends mode task work move left (replies.DestHeld index) fits = refl
retarget_ends mode task work move left replies.EpochSpent fits = refl
retarget_ends mode task work move left replies.NotLocked fits = refl
retarget_ends mode task work move left (replies.OtherTask other) fits = refl
retarget_ends mode task work move left replies.AlreadySwapped fits = refl
retarget_ends mode task work move left replies.NotMoved fits = refl
retarget_ends mode task work move left replies.DestGood fits = refl
retarget_ends mode task work move left replies.Fault fits = refl
retarget_ends mode task work move left (replies.Spoiled place) fits = refl
retarget_ends mode task work move left reply fits = absurd fits

swap_ends : (mode : Mode) (task : Task) (work : Work) (reply : Reply) → work.task ≡ task.id → RepliesSwap reply → Ends mode task (TaskStage.Swapping work) reply
swap_ends mode task work replies.Done own fits = tt
swap_ends mode task work replies.NotLocked own fits = ap (λ n. waits (why.Locked n)) own
swap_ends mode task work (replies.OtherTask other) own fits = refl
swap_ends mode task work replies.AlreadySwapped own fits = ap (λ n. waits (why.Locked n)) own
swap_ends mode task work replies.DestBroken own fits = refl
swap_ends mode task work replies.NotFenced own fits = tt
swap_ends mode task work (replies.NotListed have) own fits = refl
swap_ends mode task work (replies.NotCopied bid) own fits = refl
swap_ends mode task work replies.Fault own fits = refl
swap_ends mode task work (replies.Spoiled place) own fits = refl
swap_ends mode task work reply own fits = absurd fits

unlock_ends : (mode : Mode) (task : Task) (work : Work) (reply : Reply) → work.task ≡ task.id → RepliesUnlock reply → Ends mode task (TaskStage.Unlocking work) reply
unlock_ends mode task work replies.Done own fits = tt
unlock_ends mode task work replies.NotLocked own fits = ap (λ n. waits (why.Locked n)) own
unlock_ends mode task work (replies.OtherTask other) own fits = refl
unlock_ends mode task work replies.NotSwapped own fits = ap (λ n. waits (why.Locked n)) own
unlock_ends mode task work replies.NotReleased own fits = tt
unlock_ends mode task work replies.Fault own fits = refl
unlock_ends mode task work (replies.Spoiled place) own fits = refl
unlock_ends mode task work reply own fits = absurd fits

-- a send: the answer is final only where the log failed
send_ends : (task : Task) (after : Reply → TaskNext) (reply : Reply) → RepliesSend reply → after replies.Fault ≡ Next.Over (Err faults.Fault) → ((place : ℕ) → after (replies.Spoiled place) ≡ Next.Over (Err (faults.Spoiled place)))
    → IfSome (final_answer task reply) (λ given. after reply ≡ Next.Over given)
send_ends task after (replies.Heard answer) fits failed damaged = tt
send_ends task after replies.Unheard fits failed damaged = tt
send_ends task after replies.Barred fits failed damaged = tt
send_ends task after replies.Fault fits failed damaged = failed
send_ends task after (replies.Spoiled place) fits failed damaged = damaged place
send_ends task after reply fits failed damaged = absurd fits

stage_ends : (origin : Origin) (task : Task) (event : Event) (last : Reply) (stage : TaskStage) (reply : Reply) → Stands origin.mode task event last (Next.Go stage) → MayReply origin (task_asks task stage) reply
    → Ends origin.mode task stage reply
stage_ends origin task event last TaskStage.Looking reply h fits = look_ends origin task reply fits
stage_ends origin task event last (TaskStage.Locking homes) reply h fits = grant_ends origin.mode task homes reply fits
stage_ends origin task event last (TaskStage.Retargeting work move left) reply h fits = retarget_ends origin.mode task work move left reply fits
stage_ends origin task event last (TaskStage.Creating work j left) reply h fits = send_ends task (after_create work j.dest.disk left) reply fits refl (λ place. refl)
stage_ends origin task event last (TaskStage.Fencing work j left) reply h fits = send_ends task (after_fence work j.old.disk left) reply fits refl (λ place. refl)
stage_ends origin task event last (TaskStage.ListingDest work dests j left) reply h fits = send_ends task (after_dest work dests j left) reply fits refl (λ place. refl)
stage_ends origin task event last (TaskStage.ListingUnit work dests heard home left) reply h fits = send_ends task (after_unit work dests heard home left) reply fits refl (λ place. refl)
stage_ends origin task event last (TaskStage.Copying work copy) reply h fits = send_ends task (after_copy work copy) reply fits refl (λ place. refl)
stage_ends origin task event last (TaskStage.Swapping work) reply h fits = swap_ends origin.mode task work reply h.for_task fits
stage_ends origin task event last (TaskStage.Releasing work j left) reply h fits = send_ends task (after_release work j.old.disk left) reply fits refl (λ place. refl)
stage_ends origin task event last (TaskStage.Unlocking work) reply h fits = unlock_ends origin.mode task work reply h.for_task fits

ended_so : (mode : Mode) (task : Task) (stage : TaskStage) (asked : List Asked) (result : Result Stage TaskFault) (reply : Reply) (given : Option (Result Stage TaskFault))
    → IfSome given (λ x. task_after mode task stage reply ≡ Next.Over x) → Gives (task_call mode task) (task_after mode task stage reply) asked result → IfSome given (λ x. result ≡ x)
ended_so mode task stage asked result reply None h g = tt
ended_so mode task stage asked result reply (Some x) h g = over_given mode task x result asked (subst (λ next. Gives (task_call mode task) next asked result) h g)

reply_ends : (origin : Origin) (task : Task) (result : Result Stage TaskFault) (event : Event) (reply : Reply) (before : Event) (last : Reply) (from : TaskNext) (asked : List Asked) → Stands origin.mode task before last from → Fit origin asked
    → Gives (task_call origin.mode task) from asked result → WasAsked asked event reply → IfSome (final_answer task reply) (λ given. result ≡ given)
reply_ends origin task result event reply before last from [] h fits g i = absurd i
reply_ends origin task result event reply before last (Next.Over given) (a ∷ asked) h fits g i = absurd g
reply_ends origin task result event reply before last Next.Never (a ∷ asked) h fits g i = absurd g
reply_ends origin task result event reply before last (Next.Go stage) (a ∷ asked) h fits g (inr there) =
    reply_ends origin task result event reply a.event a.reply (task_after origin.mode task stage a.reply) asked (asked_stands origin.mode task before last stage a g.0 h) fits.1 g.1 there
reply_ends origin task result event reply before last (Next.Go stage) (a ∷ asked) h fits g (inl here) =
    let same : reply ≡ a.reply = ap (λ (x : Asked). x.reply) here in
    subst (λ r. IfSome (final_answer task r) (λ given. result ≡ given)) (sym same)
    (ended_so origin.mode task stage asked result a.reply (final_answer task a.reply)
    (stage_ends origin task before last stage a.reply h (subst (λ x. MayReply origin x a.reply) g.0 fits.0)) g.1)

some_either : (given : Option (Result Stage TaskFault)) (result : Result Stage TaskFault) → IfSome given (λ x. result ≡ x) → IfSome given (λ x. (result ≡ x) ⊎ BreaksOff result)
some_either None result h = tt
some_either (Some x) result h = inl h

some_off : (given : Option (Result Stage TaskFault)) (result : Result Stage TaskFault) → BreaksOff result → IfSome given (λ x. (result ≡ x) ⊎ BreaksOff result)
some_off None result h = tt
some_off (Some x) result h = inr h

pub replies_end_calls : RepliesEndCalls
replies_end_calls origin task parts result event reply fits call i =
    elim (whole_gives origin.mode task parts result call) [
      | inl g ↦ some_either (final_answer task reply) result (reply_ends origin task result event reply event reply (Next.Go TaskStage.Looking) (asked_in parts) tt (fit_asked origin parts fits) g i)
      | inr off ↦ some_off (final_answer task reply) result off
    ]

-- ---- an unlock that is done

is_unlocking : (mode : Mode) (task : Task) (stage : TaskStage) (asked : List Asked) (result : Result Stage TaskFault) → events.Unlock task.id ≡ task_asks task stage
    → Gives (task_call mode task) (task_after mode task stage replies.Done) asked result → (units : List Home) × (result ≡ Ok (stages.Done units))
is_unlocking mode task (TaskStage.Unlocking work) asked result e g = (units_in work.journeys, over_given mode task (Ok (stages.Done (units_in work.journeys))) result asked g)
is_unlocking mode task stage asked result e g = absurd (cc)

unlock_is_done : (mode : Mode) (task : Task) (result : Result Stage TaskFault) (from : TaskNext) (asked : List Asked) → Gives (task_call mode task) from asked result → WasAsked asked (events.Unlock task.id) replies.Done
    → (units : List Home) × (result ≡ Ok (stages.Done units))
unlock_is_done mode task result from [] g i = absurd i
unlock_is_done mode task result (Next.Over given) (a ∷ asked) g i = absurd g
unlock_is_done mode task result Next.Never (a ∷ asked) g i = absurd g
unlock_is_done mode task result (Next.Go stage) (a ∷ asked) g (inr there) = unlock_is_done mode task result (task_after mode task stage a.reply) asked g.1 there
unlock_is_done mode task result (Next.Go stage) (a ∷ asked) g (inl here) =
    let event : events.Unlock task.id ≡ a.event = ap (λ (x : Asked). x.event) here in
    let reply : replies.Done ≡ a.reply = ap (λ (x : Asked). x.reply) here in
    is_unlocking mode task stage asked result (event ∙ g.0) (subst (λ r. Gives (task_call mode task) (task_after mode task stage r) asked result) (sym reply) g.1)

asked_part : (event : Event) (reply : Reply) (parts : List Part) → WasAsked (asked_in parts) event reply → IsIn (Part.Asking event reply) parts
asked_part event reply [] i = absurd i
asked_part event reply (Part.Beside trace ∷ parts) i = inr (asked_part event reply parts i)
asked_part event reply (Part.Settling trace ∷ parts) i = inr (asked_part event reply parts i)
asked_part event reply (Part.Asking other given ∷ parts) (inl here) = inl (ap (λ (x : Asked). Part.Asking x.event x.reply) here)
asked_part event reply (Part.Asking other given ∷ parts) (inr there) = inr (asked_part event reply parts there)

whole_unlocks : (mode : Mode) (task : Task) (parts : List Part) (result : Result Stage TaskFault) → Gives (task_call mode task) (Next.Go TaskStage.Looking) (asked_in parts) result → WasAsked (asked_in parts) (events.Unlock task.id) replies.Done
    → (units : List Home) × (result ≡ Ok (stages.Done units))
whole_unlocks mode task parts result g i = unlock_is_done mode task result (Next.Go TaskStage.Looking) (asked_in parts) g i

pub unlocked_is_done : UnlockedIsDone
unlocked_is_done origin task parts (Err faults.HistoryFull) call i = absurd (call.1 (asked_part (events.Unlock task.id) replies.Done parts i))
unlocked_is_done origin task parts (Err faults.Memory) call i = absurd (call.1 (asked_part (events.Unlock task.id) replies.Done parts i))
unlocked_is_done origin task parts (Err other) call i = whole_unlocks origin.mode task parts (Err other) (rest_gives (task_call origin.mode task) (Next.Go TaskStage.Looking) parts (Err other) call) i
unlocked_is_done origin task parts (Ok stage) call i = whole_unlocks origin.mode task parts (Ok stage) (rest_gives (task_call origin.mode task) (Next.Go TaskStage.Looking) parts (Ok stage) call) i
