-- No reply makes of a task's call that the history is full, and none but that of the unlock that all is done.
use Rattle.std.proofs.Common.{◌≡◌, ℕ, ◌==◌, nat_lt, Bool, true, false, cond, List, [], ◌∷◌, length, filter, Option, Some, None, Result, Ok, Err, inl, inr, refl, sym, ◌∙◌, ap, subst}
use Rattle.std.specs.List.{list_any}
use Rattle.unit_id.specs.declared.homes.Home.{Home}
use Rattle.unit_id.specs.declared.moves.Move.{Move}
use Rattle.unit_id.specs.declared.targets.Target.{Target}
use Rattle.unit_id.specs.declared.task.Task.{Task}
use Rattle.unit_id.specs.declared.answer.Answer.TheVariants as answers
use Rattle.code_mode.specs.declared.mode.Mode.{Mode}
use Rattle.code_mode.specs.Mode.{sight}
use Rattle.volume_entry.specs.declared.view.LockView.{LockView}
use Rattle.volume_entry.specs.declared.view.View.{View}
use Rattle.volume_world.specs.declared.event.Event.{Event}
use Rattle.volume_world.specs.declared.event.Event.TheVariants as events
use Rattle.volume_world.specs.declared.reply.Reply.{Reply}
use Rattle.volume_world.specs.declared.reply.Reply.TheVariants as replies
use Rattle.volume_world.specs.Course.{Part}
use Rattle.volume_world.specs.Call.{Next}
use Rattle.volume_world.specs.Progress.{Comes}
use Rattle.migrate_task.specs.declared.stage.Stage.{Stage}
use Rattle.migrate_task.specs.declared.stage.Stage.TheVariants as stages
use Rattle.migrate_task.specs.declared.stage.TaskFault.{TaskFault}
use Rattle.migrate_task.specs.declared.stage.TaskFault.TheVariants as faults
use Rattle.migrate_task.specs.declared.stage.Why.TheVariants as why
use Rattle.migrate_task.specs.declared.work.Journey.{Journey}
use Rattle.migrate_task.specs.declared.listing.Listing.{Listing}
use Rattle.migrate_task.specs.Work.{Work, journeys_to, journeys_from, with_broken, with_old_units, unbroken, errands}
use Rattle.migrate_task.specs.Copies.{CopyStage, CopyNext, copy_after, next_errand}
use Rattle.migrate_task.specs.AdvanceCall.{TaskStage, TaskNext, task_call, task_after, waits, copying, listing_units, listing_dests, fencing, creating, retargeting, releasing, target_disk, unless_failed, not_its_lock, no_use, with_listing, after_view, after_look, after_lock, after_retarget, after_create, after_fence, after_dest, after_unit, after_swap, after_release, after_unlock, after_copy, task_asks, units_in, IsUndone}
use Rattle.migrate_task.specs.TaskParts.{is_cut, is_done, own_lock, work_to}

-- the call is over since all is done, or since the history is full
abbrev is_end : TaskNext → Bool
is_end (Next.Over (Ok (stages.Done units))) = true
is_end (Next.Over (Err faults.HistoryFull)) = true
is_end next = false

choice_open : (test : Bool) (a b : TaskNext) → is_end a ≡ false → is_end b ≡ false → is_end (cond test a b) ≡ false
choice_open true a b h k = h
choice_open false a b h k = k

-- ---- what is next

pub copying_open : (work : Work) (next : CopyNext) → is_end (copying work next) ≡ false
copying_open work (CopyNext.Asks copy) = refl
copying_open work CopyNext.AllDone = refl
copying_open work (CopyNext.Waits reason) = refl
copying_open work CopyNext.Never = refl

pub units_open : (work : Work) (dests heard : List Listing) (homes : List Home) → is_end (listing_units work dests heard homes) ≡ false
unfolding listing_units
units_open work dests heard [] =
    choice_open (nat_lt (length heard) (sight work.mode)) (waits (why.Short (length heard))) (copying work (next_errand work None (errands work dests heard))) refl
    (copying_open work (next_errand work None (errands work dests heard)))
units_open work dests heard (home ∷ left) = refl

pub dests_open : (work : Work) (dests : List Listing) (journeys : List Journey) → is_end (listing_dests work dests journeys) ≡ false
unfolding listing_dests
dests_open work dests [] = units_open work dests [] (unbroken work.homes)
dests_open work dests (j ∷ left) = refl

pub fencing_open : (work : Work) (journeys : List Journey) → is_end (fencing work journeys) ≡ false
unfolding fencing
fencing_open work [] = dests_open work [] work.journeys
fencing_open work (j ∷ left) = refl

pub creating_open : (work : Work) (journeys : List Journey) → is_end (creating work journeys) ≡ false
unfolding creating
creating_open work [] = fencing_open work (with_old_units work.journeys)
creating_open work (j ∷ left) = refl

pub retargeting_open : (targets : List Target) (work : Work) (moves : List Move) → is_end (retargeting targets work moves) ≡ false
unfolding retargeting
retargeting_open targets work [] = creating_open work work.journeys
retargeting_open targets work (move ∷ left) =
    choice_open (target_disk targets move.index == 0) (waits why.NoDisk)
    (cond (target_disk targets move.index == move.disk) (waits why.DestBroken) (Next.Go (TaskStage.Retargeting work move left))) refl
    (choice_open (target_disk targets move.index == move.disk) (waits why.DestBroken) (Next.Go (TaskStage.Retargeting work move left)) refl refl)

-- ---- what replies make of it

failure_open : (reply : Reply) → is_end (unless_failed reply) ≡ false
failure_open replies.Fault = refl
failure_open (replies.Spoiled place) = refl
failure_open reply = refl

lock_open : (task : ℕ) (reply : Reply) → is_end (not_its_lock task reply) ≡ false
lock_open task replies.NotLocked = refl
lock_open task (replies.OtherTask other) = refl
lock_open task replies.AlreadySwapped = refl
lock_open task replies.NotSwapped = refl
lock_open task replies.NotMoved = refl
lock_open task replies.DestGood = refl
lock_open task reply = failure_open reply

use_open : (disk : ℕ) (reply : Reply) → is_end (no_use disk reply) ≡ false
use_open disk (replies.Heard answer) = refl
use_open disk replies.Unheard = refl
use_open disk replies.Barred = refl
use_open disk reply = failure_open reply

pub own_open : (mode : Mode) (task : Task) (homes : List Home) (lock : LockView) → is_end (own_lock mode task homes lock) ≡ false
own_open mode task homes lock =
    let after : Work = record { mode = mode; task = task.id; lock = lock.lock; homes = homes; journeys = journeys_from homes lock.moves } in
    let before : Work = work_to mode task homes lock.lock lock.moves in
    let broken = filter (λ (move : Move). move.dest_broken) lock.moves in
    choice_open lock.swapped (Next.Go (releasing after (journeys_from homes lock.moves))) (retargeting task.targets before broken) refl (retargeting_open task.targets before broken)

view_open : (mode : Mode) (task : Task) (view : View) (held : Option LockView) → is_end (after_view mode task view held) ≡ false
view_open mode task view None = choice_open (list_any (λ (t : Target). t.disk == 0) task.targets) (waits why.NoDisk) (Next.Go (TaskStage.Locking view.units)) refl refl
view_open mode task view (Some lock) = choice_open (lock.task == task.id) (own_lock mode task view.units lock) (waits (why.Locked lock.task)) (own_open mode task view.units lock) refl

look_open : (mode : Mode) (task : Task) (reply : Reply) → is_end (after_look mode task reply) ≡ false
look_open mode task (replies.Seen view) = view_open mode task view view.held
look_open mode task reply = failure_open reply

grant_open : (mode : Mode) (task : Task) (homes : List Home) (reply : Reply) → is_end (after_lock mode task homes reply) ≡ false
grant_open mode task homes (replies.Granted lock moves) =
    creating_open (record { mode = mode; task = task.id; lock = lock; homes = homes; journeys = journeys_to homes moves }) (journeys_to homes moves)
grant_open mode task homes (replies.Locked other) = refl
grant_open mode task homes (replies.LeaseRuns end) = refl
grant_open mode task homes replies.DestBroken = refl
grant_open mode task homes (replies.DestHeld index) = refl
grant_open mode task homes replies.EpochSpent = refl
grant_open mode task homes reply = failure_open reply

retarget_open : (task : Task) (work : Work) (left : List Move) (reply : Reply) → is_end (after_retarget task work left reply) ≡ false
retarget_open task work left (replies.Granted lock moves) = retargeting_open task.targets (record work { journeys = journeys_to work.homes moves }) left
retarget_open task work left replies.DestBroken = refl
retarget_open task work left (replies.DestHeld index) = refl
retarget_open task work left replies.EpochSpent = refl
retarget_open task work left reply = lock_open task.id reply

create_open : (work : Work) (disk : ℕ) (left : List Journey) (reply : Reply) → is_end (after_create work disk left reply) ≡ false
create_open work disk left (replies.Heard answers.Done) = creating_open work left
create_open work disk left (replies.Heard answers.Already) = creating_open work left
create_open work disk left (replies.Heard answers.Broken) = refl
create_open work disk left reply = use_open disk reply

fence_open : (work : Work) (disk : ℕ) (left : List Journey) (reply : Reply) → is_end (after_fence work disk left reply) ≡ false
fence_open work disk left (replies.Heard answers.Done) = fencing_open work left
fence_open work disk left (replies.Heard answers.Broken) = fencing_open (with_broken disk work) left
fence_open work disk left reply = use_open disk reply

dest_open : (work : Work) (dests : List Listing) (j : Journey) (left : List Journey) (reply : Reply) → is_end (after_dest work dests j left reply) ≡ false
dest_open work dests j left (replies.Heard (answers.Listing lock live marked)) =
    choice_open (lock == work.lock) (listing_dests work (with_listing dests j.index live marked) left) (waits (why.Sick j.dest.disk)) (dests_open work (with_listing dests j.index live marked) left) refl
dest_open work dests j left replies.Unheard = dests_open work dests left
dest_open work dests j left (replies.Heard answers.Broken) = refl
dest_open work dests j left reply = use_open j.dest.disk reply

unit_open : (work : Work) (dests heard : List Listing) (home : Home) (left : List Home) (reply : Reply) → is_end (after_unit work dests heard home left reply) ≡ false
unit_open work dests heard home left (replies.Heard (answers.Listing lock live marked)) =
    choice_open (lock == work.lock) (listing_units work dests (with_listing heard home.unit.index live marked) left) (listing_units work dests heard left)
    (units_open work dests (with_listing heard home.unit.index live marked) left) (units_open work dests heard left)
unit_open work dests heard home left (replies.Heard answer) = units_open work dests heard left
unit_open work dests heard home left replies.Unheard = units_open work dests heard left
unit_open work dests heard home left replies.Barred = units_open work dests heard left
unit_open work dests heard home left reply = failure_open reply

pub copy_open : (work : Work) (copy : CopyStage) (reply : Reply) → is_end (after_copy work copy reply) ≡ false
copy_open work copy replies.Fault = refl
copy_open work copy (replies.Spoiled place) = refl
copy_open work copy reply = copying_open work (copy_after work copy reply)

swap_open : (work : Work) (reply : Reply) → is_end (after_swap work reply) ≡ false
swap_open work replies.Done = refl
swap_open work (replies.NotListed have) = refl
swap_open work replies.DestBroken = refl
swap_open work replies.NotFenced = refl
swap_open work (replies.NotCopied bid) = refl
swap_open work reply = lock_open work.task reply

release_open : (work : Work) (disk : ℕ) (left : List Journey) (reply : Reply) → is_end (after_release work disk left reply) ≡ false
release_open work disk left (replies.Heard answers.Done) = refl
release_open work disk left (replies.Heard (answers.Stale have)) = refl
release_open work disk left (replies.Heard answers.Broken) = refl
release_open work disk left reply = use_open disk reply

-- a call that isn't over so, isn't over since the history is full, nor since all is done
pub end_cut : (next : TaskNext) → is_end next ≡ false → is_cut next ≡ false
end_cut (Next.Go stage) e = refl
end_cut (Next.Over (Ok (stages.Done units))) e = refl
end_cut (Next.Over (Ok (stages.Waits reason))) e = refl
end_cut (Next.Over (Err faults.HistoryFull)) e = absurd (cc)
end_cut (Next.Over (Err other)) e = refl
end_cut Next.Never e = refl

pub end_done : (next : TaskNext) → is_end next ≡ false → is_done next ≡ false
end_done (Next.Go stage) e = refl
end_done (Next.Over (Ok (stages.Done units))) e = absurd (cc)
end_done (Next.Over (Ok (stages.Waits reason))) e = refl
end_done (Next.Over (Err other)) e = refl
end_done Next.Never e = refl

unlock_uncut : (work : Work) (reply : Reply) → is_cut (after_unlock work reply) ≡ false
unlock_uncut work replies.Done = refl
unlock_uncut work replies.NotReleased = refl
unlock_uncut work reply = end_cut (not_its_lock work.task reply) (lock_open work.task reply)

never_cut : (mode : Mode) (task : Task) (stage : TaskStage) (reply : Reply) → is_cut (task_after mode task stage reply) ≡ false
never_cut mode task TaskStage.Looking reply = end_cut (after_look mode task reply) (look_open mode task reply)
never_cut mode task (TaskStage.Locking homes) reply = end_cut (after_lock mode task homes reply) (grant_open mode task homes reply)
never_cut mode task (TaskStage.Retargeting work move left) reply = end_cut (after_retarget task work left reply) (retarget_open task work left reply)
never_cut mode task (TaskStage.Creating work j left) reply = end_cut (after_create work j.dest.disk left reply) (create_open work j.dest.disk left reply)
never_cut mode task (TaskStage.Fencing work j left) reply = end_cut (after_fence work j.old.disk left reply) (fence_open work j.old.disk left reply)
never_cut mode task (TaskStage.ListingDest work dests j left) reply = end_cut (after_dest work dests j left reply) (dest_open work dests j left reply)
never_cut mode task (TaskStage.ListingUnit work dests heard home left) reply = end_cut (after_unit work dests heard home left reply) (unit_open work dests heard home left reply)
never_cut mode task (TaskStage.Copying work copy) reply = end_cut (after_copy work copy reply) (copy_open work copy reply)
never_cut mode task (TaskStage.Swapping work) reply = end_cut (after_swap work reply) (swap_open work reply)
never_cut mode task (TaskStage.Releasing work j left) reply = end_cut (after_release work j.old.disk left reply) (release_open work j.old.disk left reply)
never_cut mode task (TaskStage.Unlocking work) reply = unlock_uncut work reply

-- wherever a call comes from a point where it isn't over so
pub comes_uncut : (mode : Mode) (task : Task) (from : TaskNext) (parts : List Part) (to : TaskNext) → is_cut from ≡ false → Comes (task_call mode task) from parts to → is_cut to ≡ false
comes_uncut mode task from [] to uncut h = subst (λ next. is_cut next ≡ false) (sym h) uncut
comes_uncut mode task from (Part.Beside trace ∷ parts) to uncut h = comes_uncut mode task from parts to uncut h
comes_uncut mode task from (Part.Settling trace ∷ parts) to uncut h = comes_uncut mode task from parts to uncut h
comes_uncut mode task (Next.Go stage) (Part.Asking event reply ∷ parts) to uncut h = comes_uncut mode task (task_after mode task stage reply) parts to (never_cut mode task stage reply) h.1
comes_uncut mode task (Next.Over given) (Part.Asking event reply ∷ parts) to uncut h = absurd h
comes_uncut mode task Next.Never (Part.Asking event reply ∷ parts) to uncut h = absurd h

-- ---- all is done

over_stays : (mode : Mode) (task : Task) (given : Result Stage TaskFault) (parts : List Part) (to : TaskNext) → Comes (task_call mode task) (Next.Over given) parts to → to ≡ Next.Over given
over_stays mode task given [] to h = h
over_stays mode task given (Part.Beside trace ∷ parts) to h = over_stays mode task given parts to h
over_stays mode task given (Part.Settling trace ∷ parts) to h = over_stays mode task given parts to h
over_stays mode task given (Part.Asking event reply ∷ parts) to h = absurd h

unlock_over : (mode : Mode) (task : Task) (stage : TaskStage) (parts : List Part) (to : TaskNext) → events.Unlock task.id ≡ task_asks task stage → is_done to ≡ false
    → Comes (task_call mode task) (task_after mode task stage replies.Done) parts to → ⊥
unlock_over mode task (TaskStage.Unlocking work) parts to e undone h =
    let over = over_stays mode task (Ok (stages.Done (units_in work.journeys))) parts to h in
    let done : true ≡ is_done to = ap is_done (sym over) in
    let both : true ≡ false = done ∙ undone in
    cc
unlock_over mode task stage parts to e undone h = absurd (cc)

-- the event and the reply of a part of our own
abbrev event_at : Event → Part → Event
event_at other (Part.Asking event reply) = event
event_at other part = other

abbrev reply_at : Reply → Part → Reply
reply_at other (Part.Asking event reply) = reply
reply_at other part = other

-- a call that comes to a point where not all is done hasn't heard that the volume is unlocked
pub comes_undone : (mode : Mode) (task : Task) (from : TaskNext) (parts : List Part) (to : TaskNext) → is_done to ≡ false → Comes (task_call mode task) from parts to → IsUndone task parts
comes_undone mode task from [] to undone h i = absurd i
comes_undone mode task from (Part.Beside trace ∷ parts) to undone h (inl e) = absurd (cc)
comes_undone mode task from (Part.Beside trace ∷ parts) to undone h (inr there) = comes_undone mode task from parts to undone h there
comes_undone mode task from (Part.Settling trace ∷ parts) to undone h (inl e) = absurd (cc)
comes_undone mode task from (Part.Settling trace ∷ parts) to undone h (inr there) = comes_undone mode task from parts to undone h there
comes_undone mode task (Next.Go stage) (Part.Asking event reply ∷ parts) to undone h (inr there) = comes_undone mode task (task_after mode task stage reply) parts to undone h.1 there
comes_undone mode task (Next.Go stage) (Part.Asking event reply ∷ parts) to undone h (inl e) =
    let asked : events.Unlock task.id ≡ event = ap (event_at event) e in
    let done : replies.Done ≡ reply = ap (reply_at reply) e in
    unlock_over mode task stage parts to (asked ∙ h.0) undone (subst (λ r. Comes (task_call mode task) (task_after mode task stage r) parts to) (sym done) h.1)
comes_undone mode task (Next.Over given) (Part.Asking event reply ∷ parts) to undone h i = absurd h
comes_undone mode task Next.Never (Part.Asking event reply ∷ parts) to undone h i = absurd h
