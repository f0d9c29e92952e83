-- A call of a task: the lock, the destinations made, the old units fenced, listings, copies, the swap, the old units released, and the unlock.
use Rattle.std.specs.Prelude.{ℕ, ◌≡◌, ◌≤◌, false, cond, ◌==◌, nat_lt, List, [], ◌∷◌, ◌++◌, length, map, filter, Option, Some, None, Result, Ok, Err}
use Rattle.std.specs.List.{list_any}
use Rattle.unit_id.specs.Lists.{IsIn}
use Rattle.unit_id.specs.declared.homes.Home.{Home}
use Rattle.unit_id.specs.declared.moves.Move.{Move}
use Rattle.unit_id.specs.declared.targets.Target.{Target}
use Rattle.unit_id.specs.declared.task.Task.{Task}
use Rattle.unit_id.specs.declared.request.Request.TheVariants as requests
use Rattle.unit_id.specs.declared.answer.Answer.TheVariants as answers
use Rattle.code_mode.specs.declared.mode.Mode.{Mode}
use Rattle.code_mode.specs.Mode.{sight}
use Rattle.volume_entry.specs.declared.view.LockView.{LockView}
use Rattle.volume_entry.specs.declared.view.View.{View}
use Rattle.volume_world.specs.declared.event.Event.{Event}
use Rattle.volume_world.specs.declared.event.Event.TheVariants as events
use Rattle.volume_world.specs.declared.reply.Reply.{Reply}
use Rattle.volume_world.specs.declared.reply.Reply.TheVariants as replies
use Rattle.volume_world.specs.Way.{WayView, longest_history}
use Rattle.volume_world.specs.Course.{Part, Goes}
use Rattle.volume_world.specs.Call.{Next, Call, IsRest, IsFront}
use Rattle.volume_world.specs.Progress.{AllFit}
use Rattle.migrate_task.specs.declared.stage.Stage.{Stage}
use Rattle.migrate_task.specs.declared.stage.Stage.TheVariants as stages
use Rattle.migrate_task.specs.declared.stage.Why.{Why}
use Rattle.migrate_task.specs.declared.stage.Why.TheVariants as why
use Rattle.migrate_task.specs.declared.stage.TaskFault.{TaskFault}
use Rattle.migrate_task.specs.declared.stage.TaskFault.TheVariants as faults
use Rattle.migrate_task.specs.declared.work.Journey.{Journey}
use Rattle.migrate_task.specs.declared.listing.Listing.{Listing}
use Rattle.migrate_task.specs.Work.{Work, journeys_to, journeys_from, with_broken, with_old_units, unbroken, errands}
use Rattle.migrate_task.specs.Copies.{CopyStage, CopyNext, copy_asks, copy_after, next_errand}

-- Each stage that asks has the journey or unit that it asks about, and those behind it. Listings are those of destinations, and of current units.
pub data TaskStage : Type 0 where
  Looking : TaskStage
  Locking : List Home → TaskStage
  Retargeting : Work → Move → List Move → TaskStage
  Creating : Work → Journey → List Journey → TaskStage
  Fencing : Work → Journey → List Journey → TaskStage
  ListingDest : Work → List Listing → Journey → List Journey → TaskStage
  ListingUnit : Work → List Listing → List Listing → Home → List Home → TaskStage
  Copying : Work → CopyStage → TaskStage
  Swapping : Work → TaskStage
  Releasing : Work → Journey → List Journey → TaskStage
  Unlocking : Work → TaskStage

abbrev pub TaskNext : Type 0
TaskNext = Next TaskStage (Result Stage TaskFault)

abbrev pub waits : Why → TaskNext
waits reason = Next.Over (Ok (stages.Waits reason))

-- the disk of the target of this index; 0 where there is none
abbrev pub target_disk : List Target → ℕ → ℕ
target_disk [] index = 0
target_disk (t ∷ ts) index = cond (t.index == index) t.disk (target_disk ts index)

abbrev pub task_asks : Task → TaskStage → Event
task_asks task TaskStage.Looking = events.Look
task_asks task (TaskStage.Locking homes) = events.Lock task.id task.targets
task_asks task (TaskStage.Retargeting work move left) = events.Retarget task.id move.index (target_disk task.targets move.index)
task_asks task (TaskStage.Creating work j left) = events.Send (requests.Create j.dest.unit j.dest.disk)
task_asks task (TaskStage.Fencing work j left) = events.Send (requests.Fence j.old.unit j.old.disk work.lock)
task_asks task (TaskStage.ListingDest work dests j left) = events.Send (requests.List j.dest.unit j.dest.disk work.lock)
task_asks task (TaskStage.ListingUnit work dests heard home left) = events.Send (requests.List home.unit home.disk work.lock)
task_asks task (TaskStage.Copying work copy) = events.Send (copy_asks copy)
task_asks task (TaskStage.Swapping work) = events.Swap task.id
task_asks task (TaskStage.Releasing work j left) = events.Send (requests.Release j.old.unit j.old.disk)
task_asks task (TaskStage.Unlocking work) = events.Unlock task.id

-- ---- what is next

abbrev pub releasing : Work → List Journey → TaskStage
releasing work [] = TaskStage.Unlocking work
releasing work (j ∷ left) = TaskStage.Releasing work j left

-- where no errand is left, the swap is next
abbrev pub copying : Work → CopyNext → TaskNext
copying work (CopyNext.Asks copy) = Next.Go (TaskStage.Copying work copy)
copying work CopyNext.AllDone = Next.Go (TaskStage.Swapping work)
copying work (CopyNext.Waits reason) = waits reason
copying work CopyNext.Never = Next.Never

-- current units are listed one by one; fewer than are enough to see are too few
unfoldable pub listing_units : Work → List Listing → List Listing → List Home → TaskNext
listing_units work dests heard [] =
    cond (nat_lt (length heard) (sight work.mode)) (waits (why.Short (length heard))) (copying work (next_errand work None (errands work dests heard)))
listing_units work dests heard (home ∷ left) = Next.Go (TaskStage.ListingUnit work dests heard home left)

unfoldable pub listing_dests : Work → List Listing → List Journey → TaskNext
listing_dests work dests [] = listing_units work dests [] (unbroken work.homes)
listing_dests work dests (j ∷ left) = Next.Go (TaskStage.ListingDest work dests j left)

unfoldable pub fencing : Work → List Journey → TaskNext
fencing work [] = listing_dests work [] work.journeys
fencing work (j ∷ left) = Next.Go (TaskStage.Fencing work j left)

unfoldable pub creating : Work → List Journey → TaskNext
creating work [] = fencing work (with_old_units work.journeys)
creating work (j ∷ left) = Next.Go (TaskStage.Creating work j left)

-- each destination on a broken disk gets another disk, if its target has one
unfoldable pub retargeting : List Target → Work → List Move → TaskNext
retargeting targets work [] = creating work work.journeys
retargeting targets work (move ∷ left) =
    cond (target_disk targets move.index == 0) (waits why.NoDisk)
    (cond (target_disk targets move.index == move.disk) (waits why.DestBroken) (Next.Go (TaskStage.Retargeting work move left)))

-- ---- what replies make of it

-- a fault of the manager's log ends the call
abbrev pub unless_failed : Reply → TaskNext
unless_failed replies.Fault = Next.Over (Err faults.Fault)
unless_failed (replies.Spoiled place) = Next.Over (Err (faults.Spoiled place))
unless_failed reply = Next.Never

-- the lock isn't the task's to change; the number is that of the task that has it, or its own
abbrev pub not_its_lock : ℕ → Reply → TaskNext
not_its_lock task replies.NotLocked = waits (why.Locked task)
not_its_lock task (replies.OtherTask other) = waits (why.Locked other)
not_its_lock task replies.AlreadySwapped = waits (why.Locked task)
not_its_lock task replies.NotSwapped = waits (why.Locked task)
not_its_lock task replies.NotMoved = waits (why.Locked task)
not_its_lock task replies.DestGood = waits (why.Locked task)
not_its_lock task reply = unless_failed reply

-- an answer that the step can't use, or none
abbrev pub no_use : ℕ → Reply → TaskNext
no_use disk (replies.Heard answer) = waits (why.Sick disk)
no_use disk replies.Unheard = waits (why.Unheard disk)
no_use disk replies.Barred = waits (why.Sick disk)
no_use disk reply = unless_failed reply

abbrev pub with_lock : Mode → Task → List Home → LockView → TaskNext
with_lock mode task homes lock =
    cond (lock.task == task.id)
    (cond lock.swapped
    (Next.Go (releasing (record { mode = mode; task = task.id; lock = lock.lock; homes = homes; journeys = journeys_from homes lock.moves }) (journeys_from homes lock.moves)))
    (retargeting task.targets (record { mode = mode; task = task.id; lock = lock.lock; homes = homes; journeys = journeys_to homes lock.moves })
    (filter (λ (move : Move). move.dest_broken) lock.moves)))
    (waits (why.Locked lock.task))

abbrev pub after_view : Mode → Task → View → Option LockView → TaskNext
after_view mode task view None = cond (list_any (λ (t : Target). t.disk == 0) task.targets) (waits why.NoDisk) (Next.Go (TaskStage.Locking view.units))
after_view mode task view (Some lock) = with_lock mode task view.units lock

abbrev pub after_look : Mode → Task → Reply → TaskNext
after_look mode task (replies.Seen view) = after_view mode task view view.held
after_look mode task reply = unless_failed reply

abbrev pub after_lock : Mode → Task → List Home → Reply → TaskNext
after_lock mode task homes (replies.Granted lock moves) =
    creating (record { mode = mode; task = task.id; lock = lock; homes = homes; journeys = journeys_to homes moves }) (journeys_to homes moves)
after_lock mode task homes (replies.Locked other) = waits (why.Locked other)
after_lock mode task homes (replies.LeaseRuns end) = waits (why.Leased end)
after_lock mode task homes replies.DestBroken = waits why.DestBroken
after_lock mode task homes (replies.DestHeld index) = waits (why.DestHeld index)
after_lock mode task homes replies.EpochSpent = Next.Over (Err faults.EpochSpent)
after_lock mode task homes reply = unless_failed reply

abbrev pub after_retarget : Task → Work → List Move → Reply → TaskNext
after_retarget task work left (replies.Granted lock moves) = retargeting task.targets (record work { journeys = journeys_to work.homes moves }) left
after_retarget task work left replies.DestBroken = waits why.DestBroken
after_retarget task work left (replies.DestHeld index) = waits (why.DestHeld index)
after_retarget task work left replies.EpochSpent = Next.Over (Err faults.EpochSpent)
after_retarget task work left reply = not_its_lock task.id reply

abbrev pub after_create : Work → ℕ → List Journey → Reply → TaskNext
after_create work disk left (replies.Heard answers.Done) = creating work left
after_create work disk left (replies.Heard answers.Already) = creating work left
after_create work disk left (replies.Heard answers.Broken) = waits why.DestBroken
after_create work disk left reply = no_use disk reply

-- the disk of an old unit that answers Broken counts as broken
abbrev pub after_fence : Work → ℕ → List Journey → Reply → TaskNext
after_fence work disk left (replies.Heard answers.Done) = fencing work left
after_fence work disk left (replies.Heard answers.Broken) = fencing (with_broken disk work) left
after_fence work disk left reply = no_use disk reply

abbrev pub with_listing : List Listing → ℕ → List ℕ → List ℕ → List Listing
with_listing heard index live marked = heard ++ record { index = index; live = live; marked = marked } ∷ []

-- a destination that isn't heard counts as one that lists nothing
abbrev pub after_dest : Work → List Listing → Journey → List Journey → Reply → TaskNext
after_dest work dests j left (replies.Heard (answers.Listing lock live marked)) =
    cond (lock == work.lock) (listing_dests work (with_listing dests j.index live marked) left) (waits (why.Sick j.dest.disk))
after_dest work dests j left replies.Unheard = listing_dests work dests left
after_dest work dests j left (replies.Heard answers.Broken) = waits why.DestBroken
after_dest work dests j left reply = no_use j.dest.disk reply

-- a current unit that isn't heard, or gives no listing, is passed over
abbrev pub after_unit : Work → List Listing → List Listing → Home → List Home → Reply → TaskNext
after_unit work dests heard home left (replies.Heard (answers.Listing lock live marked)) =
    cond (lock == work.lock) (listing_units work dests (with_listing heard home.unit.index live marked) left) (listing_units work dests heard left)
after_unit work dests heard home left (replies.Heard answer) = listing_units work dests heard left
after_unit work dests heard home left replies.Unheard = listing_units work dests heard left
after_unit work dests heard home left replies.Barred = listing_units work dests heard left
after_unit work dests heard home left reply = unless_failed reply

abbrev pub first_old : List Journey → ℕ
first_old [] = 0
first_old (j ∷ left) = j.old.disk

-- an old unit wasn't heard to be fenced or released: the first one on a disk that doesn't count as broken
abbrev pub sick_old : List Journey → TaskNext
sick_old journeys = waits (why.Sick (first_old (with_old_units journeys ++ journeys)))

abbrev pub after_swap : Work → Reply → TaskNext
after_swap work replies.Done = Next.Go (releasing work (with_old_units work.journeys))
after_swap work (replies.NotListed have) = waits (why.Short have)
after_swap work replies.DestBroken = waits why.DestBroken
after_swap work replies.NotFenced = sick_old work.journeys
after_swap work (replies.NotCopied bid) = waits (why.ShortShards bid 0 0)
after_swap work reply = not_its_lock work.task reply

abbrev pub after_release : Work → ℕ → List Journey → Reply → TaskNext
after_release work disk left (replies.Heard answers.Done) = Next.Go (releasing work left)
after_release work disk left (replies.Heard (answers.Stale have)) = Next.Go (releasing work left)
after_release work disk left (replies.Heard answers.Broken) = Next.Go (releasing (with_broken disk work) left)
after_release work disk left reply = no_use disk reply

-- the units that the swap put in
abbrev pub units_in : List Journey → List Home
units_in journeys = map (λ (j : Journey). record (j.dest) { broken = false }) journeys

abbrev pub after_unlock : Work → Reply → TaskNext
after_unlock work replies.Done = Next.Over (Ok (stages.Done (units_in work.journeys)))
after_unlock work replies.NotReleased = sick_old work.journeys
after_unlock work reply = not_its_lock work.task reply

abbrev pub after_copy : Work → CopyStage → Reply → TaskNext
after_copy work copy replies.Fault = Next.Over (Err faults.Fault)
after_copy work copy (replies.Spoiled place) = Next.Over (Err (faults.Spoiled place))
after_copy work copy reply = copying work (copy_after work copy reply)

abbrev pub task_after : Mode → Task → TaskStage → Reply → TaskNext
task_after mode task TaskStage.Looking reply = after_look mode task reply
task_after mode task (TaskStage.Locking homes) reply = after_lock mode task homes reply
task_after mode task (TaskStage.Retargeting work move left) reply = after_retarget task work left reply
task_after mode task (TaskStage.Creating work j left) reply = after_create work j.dest.disk left reply
task_after mode task (TaskStage.Fencing work j left) reply = after_fence work j.old.disk left reply
task_after mode task (TaskStage.ListingDest work dests j left) reply = after_dest work dests j left reply
task_after mode task (TaskStage.ListingUnit work dests heard home left) reply = after_unit work dests heard home left reply
task_after mode task (TaskStage.Copying work copy) reply = after_copy work copy reply
task_after mode task (TaskStage.Swapping work) reply = after_swap work reply
task_after mode task (TaskStage.Releasing work j left) reply = after_release work j.old.disk left reply
task_after mode task (TaskStage.Unlocking work) reply = after_unlock work reply

abbrev pub task_call : Mode → Task → Call TaskStage (Result Stage TaskFault)
task_call mode task = record { asks = task_asks task; after = task_after mode task }

-- no unlock of the task was done
abbrev pub IsUndone : Task → List Part → Type 0
IsUndone task parts = IsIn (Part.Asking (events.Unlock task.id) replies.Done) parts → ⊥

-- what a task asks in this stretch, and what it answers: where the history is full or memory is out, it breaks off before all is done
abbrev pub AdvancesBy : Mode → Task → List Part → Result Stage TaskFault → Type 0
AdvancesBy mode task parts (Err faults.HistoryFull) = IsFront (task_call mode task) (Next.Go TaskStage.Looking) parts × IsUndone task parts
AdvancesBy mode task parts (Err faults.Memory) = IsFront (task_call mode task) (Next.Go TaskStage.Looking) parts × IsUndone task parts
AdvancesBy mode task parts result = IsRest (task_call mode task) (Next.Go TaskStage.Looking) parts result

-- One call of a task over a way. Each reply is one that its event may have. The history is said to be full only where it is.
pub record Advances (old new : WayView) (task : Task) (result : Result Stage TaskFault) : Type 0 where
  pub parts : List Part
  pub goes : Goes old new parts
  pub fits : AllFit old.origin parts
  pub call : AdvancesBy old.origin.mode task parts result
  pub full : result ≡ Err faults.HistoryFull → longest_history ≤ length new.entries
