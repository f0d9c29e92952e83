-- A call that answers that all is done has swapped and unlocked the volume, and given up each old unit.
use Rattle.std.proofs.Common.{◌≡◌, ℕ, zero, suc, ◌<◌, ◌⊎◌, inl, inr, nat_lt, Bool, true, false, cond, not, ◌||◌, ◌==◌, List, [], ◌∷◌, ◌++◌, length, map, filter, Option, Some, None, Result, Ok, Err, refl, sym, ◌∙◌, ap, subst, arith}
use Rattle.std.specs.List.{list_any}
use Rattle.std.proofs.lemmas.Bool.{eqb-true}
use Rattle.unit_id.specs.Lists.{IsIn}
use Rattle.unit_id.specs.UnitName.{Name}
use Rattle.unit_id.specs.declared.homes.Home.{Home}
use Rattle.unit_id.specs.declared.moves.Move.{Move}
use Rattle.unit_id.specs.declared.targets.Target.{Target}
use Rattle.unit_id.specs.declared.task.Task.{Task}
use Rattle.unit_id.specs.declared.request.Request.TheVariants as requests
use Rattle.unit_id.specs.declared.answer.Answer.TheVariants as answers
use Rattle.code_mode.specs.declared.mode.Mode.{Mode}
use Rattle.code_mode.specs.Mode.{total_count, sight}
use Rattle.volume_entry.specs.declared.view.LockView.{LockView}
use Rattle.volume_entry.specs.declared.view.View.{View}
use Rattle.volume_world.specs.declared.event.Event.{Event}
use Rattle.volume_world.specs.declared.event.Event.TheVariants as events
use Rattle.volume_world.specs.declared.reply.Reply.{Reply}
use Rattle.volume_world.specs.declared.reply.Reply.TheVariants as replies
use Rattle.volume_world.specs.Way.{Origin}
use Rattle.volume_world.specs.Replying.{MayReply, RepliesSend}
use Rattle.volume_world.specs.Course.{Part}
use Rattle.volume_world.specs.Call.{Next, Call, IsRest}
use Rattle.volume_world.specs.Progress.{AllFit}
use Rattle.migrate_task.specs.declared.stage.Stage.{Stage}
use Rattle.migrate_task.specs.declared.stage.Stage.TheVariants as stages
use Rattle.migrate_task.specs.declared.stage.Why.TheVariants as why
use Rattle.migrate_task.specs.declared.stage.TaskFault.{TaskFault}
use Rattle.migrate_task.specs.declared.stage.TaskFault.TheVariants as faults
use Rattle.migrate_task.specs.declared.work.Journey.{Journey}
use Rattle.migrate_task.specs.declared.listing.Listing.{Listing}
use Rattle.migrate_task.specs.Work.{Work, home_of, journeys_to, journeys_from, old_broken_at, with_broken, with_old_units, unbroken, errands}
use Rattle.migrate_task.specs.Copies.{CopyStage, CopyNext, copy_after, next_errand}
use Rattle.migrate_task.specs.AdvanceCall.{TaskStage, TaskNext, task_asks, task_call, task_after, waits, copying, listing_units, listing_dests, fencing, creating, retargeting, releasing, target_disk, unless_failed, not_its_lock, no_use, with_listing, after_view, after_look, after_lock, after_retarget, after_create, after_fence, after_dest, after_unit, after_swap, after_release, after_unlock, after_copy, units_in}
use Rattle.migrate_task.specs.Endings.{Asked, asked_in, WasAsked, EndsWith, IsToldBroken, IsGivenUp, granted_by, granted_last, held_moves, Swapped, IsDoneBy, DoneIsUnlocked}

-- ---- what a call asked

-- what was asked is what a call asks from here on, and this is its answer
abbrev pub Gives : {S A : Type 0} → Call S A → Next S A → List Asked → A → Type 0
Gives call (Next.Over given) [] answer = answer ≡ given
Gives call next [] answer = ⊥
Gives call (Next.Go stage) (a ∷ asked) answer = (a.event ≡ call.asks stage) × Gives call (call.after stage a.reply) asked answer
Gives call next (a ∷ asked) answer = ⊥

pub rest_gives : {S A : Type 0} (call : Call S A) (from : Next S A) (parts : List Part) (answer : A) → IsRest call from parts answer → Gives call from (asked_in parts) answer
rest_gives call (Next.Go stage) [] answer h = h
rest_gives call (Next.Over given) [] answer h = h
rest_gives call Next.Never [] answer h = h
rest_gives call (Next.Go stage) (Part.Beside trace ∷ parts) answer h = rest_gives call (Next.Go stage) parts answer h
rest_gives call (Next.Over given) (Part.Beside trace ∷ parts) answer h = rest_gives call (Next.Over given) parts answer h
rest_gives call Next.Never (Part.Beside trace ∷ parts) answer h = rest_gives call Next.Never parts answer h
rest_gives call (Next.Go stage) (Part.Settling trace ∷ parts) answer h = rest_gives call (Next.Go stage) parts answer h
rest_gives call (Next.Over given) (Part.Settling trace ∷ parts) answer h = rest_gives call (Next.Over given) parts answer h
rest_gives call Next.Never (Part.Settling trace ∷ parts) answer h = rest_gives call Next.Never parts answer h
rest_gives call (Next.Go stage) (Part.Asking event reply ∷ parts) answer h = (h.0, rest_gives call (call.after stage reply) parts answer h.1)
rest_gives call (Next.Over given) (Part.Asking event reply ∷ parts) answer h = absurd h
rest_gives call Next.Never (Part.Asking event reply ∷ parts) answer h = absurd h

-- each of them has a reply that it may have
abbrev pub Fit : Origin → List Asked → Type 0
Fit origin [] = Unit {0}
Fit origin (a ∷ asked) = MayReply origin a.event a.reply × Fit origin asked

pub fit_asked : (origin : Origin) (parts : List Part) → AllFit origin parts → Fit origin (asked_in parts)
fit_asked origin [] h = tt
fit_asked origin (Part.Beside trace ∷ parts) h = fit_asked origin parts h
fit_asked origin (Part.Settling trace ∷ parts) h = fit_asked origin parts h
fit_asked origin (Part.Asking event reply ∷ parts) h = (h.0, fit_asked origin parts h.1)

-- ---- units that are told to be on broken disks

-- the same units move to the same places, and those that count as broken were told to be
record IsSame (Told : Journey → Type 0) (k j : Journey) : Type 0 where
  unit : j.old.unit ≡ k.old.unit
  disk : j.old.disk ≡ k.old.disk
  dest : j.dest ≡ k.dest
  broken : j.old.broken ≡ true → Told k

abbrev AreSame : (Journey → Type 0) → List Journey → List Journey → Type 0
AreSame Told [] [] = Unit {0}
AreSame Told (k ∷ ks) (j ∷ js) = IsSame Told k j × AreSame Told ks js
AreSame Told ks js = ⊥

or_true : (a b : Bool) → a || b ≡ true → (a ≡ true) ⊎ (b ≡ true)
or_true true b e = inl refl
or_true false b e = inr e

-- a disk counts as broken from now on, and each unit on it was told to be
same_broken : (Told : Journey → Type 0) (disk : ℕ) (ks js : List Journey) → ((k : Journey) → k.old.disk ≡ disk → Told k) → AreSame Told ks js → AreSame Told ks (map (old_broken_at disk) js)
same_broken Told disk [] [] new h = tt
same_broken Told disk [] (j ∷ js) new h = absurd h
same_broken Told disk (k ∷ ks) [] new h = absurd h
same_broken Told disk (k ∷ ks) (j ∷ js) new h = (
  record {
    unit = h.0.unit;
    disk = h.0.disk;
    dest = h.0.dest;
    broken = λ e. elim (or_true (j.old.disk == disk) j.old.broken e) [ inl here ↦ new k (sym h.0.disk ∙ eqb-true j.old.disk disk here) | inr was ↦ h.0.broken was ];
  },
  same_broken Told disk ks js new h.1,
)

same_units : (Told : Journey → Type 0) (ks js : List Journey) → AreSame Told ks js → units_in js ≡ units_in ks
same_units Told [] [] h = refl
same_units Told [] (j ∷ js) h = absurd h
same_units Told (k ∷ ks) [] h = absurd h
same_units Told (k ∷ ks) (j ∷ js) h =
    ap (λ (d : Home). record d { broken = false } ∷ units_in js) h.0.dest ∙ ap (λ us. record (k.dest) { broken = false } ∷ us) (same_units Told ks js h.1)

-- a unit has still to be released, or is given up
abbrev Owes : (Journey → Type 0) → List Journey → Journey → Type 0
Owes Gone left k = Gone k ⊎ ((j : Journey) × IsIn j left × (j.old.unit ≡ k.old.unit) × (j.old.disk ≡ k.old.disk))

owes_more : (Gone : Journey → Type 0) (left : List Journey) (j k : Journey) → Owes Gone left k → Owes Gone (j ∷ left) k
owes_more Gone left j k (inl gone) = inl gone
owes_more Gone left j k (inr more) = inr (more.0, inr more.1, more.2, more.3)

-- what is told to be broken is given up; all others are to be released
old_owed : (Told Gone : Journey → Type 0) (ks js : List Journey) → ((k : Journey) → Told k → Gone k) → AreSame Told ks js → (k : Journey) → IsIn k ks → Owes Gone (with_old_units js) k
old_owed Told Gone [] js gone h k i = absurd i
old_owed Told Gone (x ∷ ks) [] gone h k i = absurd h
old_owed Told Gone (x ∷ ks) (j ∷ js) gone h k (inr there) = kept (not j.old.broken) (old_owed Told Gone ks js gone h.1 k there)
  where
    kept : (test : Bool) → Owes Gone (with_old_units js) k → Owes Gone (cond test (j ∷ with_old_units js) (with_old_units js)) k
    kept true o = owes_more Gone (with_old_units js) j k o
    kept false o = o
old_owed Told Gone (x ∷ ks) (j ∷ js) gone h k (inl here) = first j.old.broken refl
  where
    first : (test : Bool) → j.old.broken ≡ test → Owes Gone (cond (not test) (j ∷ with_old_units js) (with_old_units js)) k
    first true e = inl (subst Gone (sym here) (gone x (h.0.broken e)))
    first false e = inr (j, inl refl, h.0.unit ∙ ap (λ (y : Journey). y.old.unit) (sym here), h.0.disk ∙ ap (λ (y : Journey). y.old.disk) (sym here))

-- ---- from the swap to the unlock

was : (asked : List Asked) (a : Asked) (event : Event) (reply : Reply) → a.event ≡ event → a.reply ≡ reply → IsIn a asked → WasAsked asked event reply
was asked a event reply e r i = subst (λ (x : Asked). IsIn x asked) (ap (λ x. record { event = x; reply = a.reply }) e ∙ ap (λ x. record { event = event; reply = x }) r) i

-- of these units each is given up or still to be released, and the units that are put in are theirs
record Freeing (Gone : Journey → Type 0) (ks : List Journey) (work : Work) (left : List Journey) : Type 0 where
  owes : (k : Journey) → IsIn k ks → Owes Gone left k
  units : units_in work.journeys ≡ units_in ks

-- what is next behind this event with this reply
abbrev Frees : Task → (Journey → Type 0) → List Journey → Event → Reply → TaskNext → Type 0
Frees task Gone ks event reply (Next.Go (TaskStage.Releasing work j left)) = Freeing Gone ks work (j ∷ left)
Frees task Gone ks event reply (Next.Go (TaskStage.Unlocking work)) = Freeing Gone ks work []
Frees task Gone ks event reply (Next.Go stage) = ⊥
Frees task Gone ks event reply (Next.Over (Ok (stages.Done units))) =
    (event ≡ events.Unlock task.id) × (reply ≡ replies.Done) × ((k : Journey) → IsIn k ks → Gone k) × (units ≡ units_in ks)
Frees task Gone ks event reply (Next.Over given) = Unit {0}
Frees task Gone ks event reply Next.Never = Unit {0}

releasing_frees : (task : Task) (Gone : Journey → Type 0) (ks : List Journey) (event : Event) (reply : Reply) (work : Work) (left : List Journey) → Freeing Gone ks work left
    → Frees task Gone ks event reply (Next.Go (releasing work left))
releasing_frees task Gone ks event reply work [] h = h
releasing_frees task Gone ks event reply work (j ∷ left) h = h

failure_frees : (task : Task) (Gone : Journey → Type 0) (ks : List Journey) (event : Event) (kept reply : Reply) → Frees task Gone ks event kept (unless_failed reply)
failure_frees task Gone ks event kept replies.Fault = tt
failure_frees task Gone ks event kept (replies.Spoiled place) = tt
failure_frees task Gone ks event kept reply = tt

lock_frees : (task : Task) (Gone : Journey → Type 0) (ks : List Journey) (event : Event) (kept : Reply) (own : ℕ) (reply : Reply) → Frees task Gone ks event kept (not_its_lock own reply)
lock_frees task Gone ks event kept own replies.NotLocked = tt
lock_frees task Gone ks event kept own (replies.OtherTask other) = tt
lock_frees task Gone ks event kept own replies.AlreadySwapped = tt
lock_frees task Gone ks event kept own replies.NotSwapped = tt
lock_frees task Gone ks event kept own replies.NotMoved = tt
lock_frees task Gone ks event kept own replies.DestGood = tt
lock_frees task Gone ks event kept own reply = failure_frees task Gone ks event kept reply

use_frees : (task : Task) (Gone : Journey → Type 0) (ks : List Journey) (event : Event) (kept : Reply) (disk : ℕ) (reply : Reply) → Frees task Gone ks event kept (no_use disk reply)
use_frees task Gone ks event kept disk (replies.Heard answer) = tt
use_frees task Gone ks event kept disk replies.Unheard = tt
use_frees task Gone ks event kept disk replies.Barred = tt
use_frees task Gone ks event kept disk reply = failure_frees task Gone ks event kept reply

paid : (Gone : Journey → Type 0) (left : List Journey) (j k : Journey) → (j.old.unit ≡ k.old.unit → j.old.disk ≡ k.old.disk → Gone k) → Owes Gone (j ∷ left) k → Owes Gone left k
paid Gone left j k gone (inl had) = inl had
paid Gone left j k gone (inr (x, inl here, unit, disk)) = inl (gone (ap (λ (y : Journey). y.old.unit) (sym here) ∙ unit) (ap (λ (y : Journey). y.old.disk) (sym here) ∙ disk))
paid Gone left j k gone (inr (x, inr there, unit, disk)) = inr (x, there, unit, disk)

broken_units : (disk : ℕ) (js : List Journey) → units_in (map (old_broken_at disk) js) ≡ units_in js
broken_units disk [] = refl
broken_units disk (j ∷ js) = ap (λ us. record (j.dest) { broken = false } ∷ us) (broken_units disk js)

-- what an answer to this release tells of units
record Pays (Gone : Journey → Type 0) (j : Journey) (event : Event) (reply : Reply) : Type 0 where
  done : reply ≡ replies.Heard answers.Done → (k : Journey) → j.old.unit ≡ k.old.unit → j.old.disk ≡ k.old.disk → Gone k
  stale : (have : ℕ) → reply ≡ replies.Heard (answers.Stale have) → (k : Journey) → j.old.unit ≡ k.old.unit → j.old.disk ≡ k.old.disk → Gone k
  broken : reply ≡ replies.Heard answers.Broken → (k : Journey) → j.old.disk ≡ k.old.disk → Gone k

release_frees : (task : Task) (Gone : Journey → Type 0) (ks : List Journey) (event : Event) (work : Work) (j : Journey) (left : List Journey) (reply : Reply) → Pays Gone j event reply → Freeing Gone ks work (j ∷ left)
    → Frees task Gone ks event reply (after_release work j.old.disk left reply)
release_frees task Gone ks event work j left (replies.Heard answers.Done) pays h =
    releasing_frees task Gone ks event (replies.Heard answers.Done) work left (record { owes = λ k i. paid Gone left j k (pays.done refl k) (h.owes k i); units = h.units })
release_frees task Gone ks event work j left (replies.Heard (answers.Stale have)) pays h =
    releasing_frees task Gone ks event (replies.Heard (answers.Stale have)) work left (record { owes = λ k i. paid Gone left j k (pays.stale have refl k) (h.owes k i); units = h.units })
release_frees task Gone ks event work j left (replies.Heard answers.Broken) pays h =
    releasing_frees task Gone ks event (replies.Heard answers.Broken) (with_broken j.old.disk work) left
    (record { owes = λ k i. paid Gone left j k (λ unit disk. pays.broken refl k disk) (h.owes k i); units = broken_units j.old.disk work.journeys ∙ h.units })
release_frees task Gone ks event work j left reply pays h = use_frees task Gone ks event reply j.old.disk reply

none_owed : (Gone : Journey → Type 0) (k : Journey) → Owes Gone [] k → Gone k
none_owed Gone k (inl gone) = gone
none_owed Gone k (inr more) = absurd more.1

unlock_frees : (task : Task) (Gone : Journey → Type 0) (ks : List Journey) (event : Event) (work : Work) (reply : Reply) → event ≡ events.Unlock task.id → Freeing Gone ks work []
    → Frees task Gone ks event reply (after_unlock work reply)
unlock_frees task Gone ks event work replies.Done e h = (e, refl, λ k i. none_owed Gone k (h.owes k i), h.units)
unlock_frees task Gone ks event work replies.NotReleased e h = tt
unlock_frees task Gone ks event work reply e h = lock_frees task Gone ks event reply work.task reply

-- what was asked last, and what holds of the units in the end
record Freed (task : Task) (Gone : Journey → Type 0) (ks : List Journey) (asked : List Asked) (units : List Home) : Type 0 where
  ends : EndsWith asked (events.Unlock task.id) replies.Done
  gone : (k : Journey) → IsIn k ks → Gone k
  put_in : units ≡ units_in ks

freed_later : (task : Task) (Gone : Journey → Type 0) (ks : List Journey) (a : Asked) (asked : List Asked) (units : List Home) → Freed task Gone ks asked units → Freed task Gone ks (a ∷ asked) units
freed_later task Gone ks a asked units h =
    record { ends = record { before = a ∷ h.ends.before; split = ap (λ xs. a ∷ xs) h.ends.split }; gone = h.gone; put_in = h.put_in }

-- how each release tells of units
abbrev AllPay : (Journey → Type 0) → List Asked → Type 0
AllPay Gone asked = (a : Asked) (j : Journey) → IsIn a asked → a.event ≡ events.Send (requests.Release j.old.unit j.old.disk) → Pays Gone j a.event a.reply

stage_frees : (mode : Mode) (task : Task) (Gone : Journey → Type 0) (ks : List Journey) (stage : TaskStage) (a : Asked) → ((j : Journey) → a.event ≡ events.Send (requests.Release j.old.unit j.old.disk) → Pays Gone j a.event a.reply)
    → (event : Event) (reply : Reply) → Frees task Gone ks event reply (Next.Go stage) → a.event ≡ task_asks task stage → Frees task Gone ks a.event a.reply (task_after mode task stage a.reply)
stage_frees mode task Gone ks (TaskStage.Releasing work j left) a pays event reply h e = release_frees task Gone ks a.event work j left a.reply (pays j e) h
stage_frees mode task Gone ks (TaskStage.Unlocking work) a pays event reply h e = unlock_frees task Gone ks a.event work a.reply e h
stage_frees mode task Gone ks stage a pays event reply h e = absurd h

frees : (mode : Mode) (task : Task) (Gone : Journey → Type 0) (ks : List Journey) (units : List Home) (a : Asked) (from : TaskNext) (asked : List Asked) → AllPay Gone asked → Frees task Gone ks a.event a.reply from
    → Gives (task_call mode task) from asked (Ok (stages.Done units)) → Freed task Gone ks (a ∷ asked) units
frees mode task Gone ks units a (Next.Over given) [] pays h g =
    let end : Frees task Gone ks a.event a.reply (Next.Over (Ok (stages.Done units))) = subst (λ x. Frees task Gone ks a.event a.reply (Next.Over x)) (sym g) h in
    record {
      ends = record { before = []; split = ap (λ x. record { event = x; reply = a.reply } ∷ []) end.0 ∙ ap (λ x. record { event = events.Unlock task.id; reply = x } ∷ []) end.1 };
      gone = end.2;
      put_in = end.3;
    }
frees mode task Gone ks units a (Next.Go stage) [] pays h g = absurd g
frees mode task Gone ks units a Next.Never [] pays h g = absurd g
frees mode task Gone ks units a (Next.Go stage) (b ∷ asked) pays h g =
    freed_later task Gone ks a (b ∷ asked) units
    (frees mode task Gone ks units b (task_after mode task stage b.reply) asked (λ x j i. pays x j (inr i))
    (stage_frees mode task Gone ks stage b (λ j. pays b j (inl refl)) a.event a.reply h g.0) g.1)
frees mode task Gone ks units a (Next.Over given) (b ∷ asked) pays h g = absurd g
frees mode task Gone ks units a Next.Never (b ∷ asked) pays h g = absurd g

-- from a release or the unlock on
freed : (mode : Mode) (task : Task) (Gone : Journey → Type 0) (ks : List Journey) (units : List Home) (work : Work) (left : List Journey) (asked : List Asked) → AllPay Gone asked → Freeing Gone ks work left
    → Gives (task_call mode task) (Next.Go (releasing work left)) asked (Ok (stages.Done units)) → Freed task Gone ks asked units
freed mode task Gone ks units work left [] pays h g = absurd g
freed mode task Gone ks units work left (b ∷ asked) pays h g =
    frees mode task Gone ks units b (task_after mode task (releasing work left) b.reply) asked (λ x j i. pays x j (inr i))
    (stage_frees mode task Gone ks (releasing work left) b (λ j. pays b j (inl refl)) b.event b.reply (releasing_frees task Gone ks b.event b.reply work left h) g.0) g.1

-- ---- from the look to the swap

-- what is next before the swap, of these homes and moves
abbrev Knows : (Journey → Type 0) → List Home → List Move → TaskNext → Type 0
Knows Told homes moves (Next.Go TaskStage.Looking) = ⊥
Knows Told homes moves (Next.Go (TaskStage.Locking hs)) = hs ≡ homes
Knows Told homes moves (Next.Go (TaskStage.Retargeting work move left)) = (work.homes ≡ homes) × AreSame Told (journeys_to homes moves) work.journeys
Knows Told homes moves (Next.Go (TaskStage.Creating work j left)) = AreSame Told (journeys_to homes moves) work.journeys
Knows Told homes moves (Next.Go (TaskStage.Fencing work j left)) = AreSame Told (journeys_to homes moves) work.journeys
Knows Told homes moves (Next.Go (TaskStage.ListingDest work dests j left)) = AreSame Told (journeys_to homes moves) work.journeys
Knows Told homes moves (Next.Go (TaskStage.ListingUnit work dests heard home left)) = AreSame Told (journeys_to homes moves) work.journeys
Knows Told homes moves (Next.Go (TaskStage.Copying work copy)) = AreSame Told (journeys_to homes moves) work.journeys
Knows Told homes moves (Next.Go (TaskStage.Swapping work)) = AreSame Told (journeys_to homes moves) work.journeys
Knows Told homes moves (Next.Go (TaskStage.Releasing work j left)) = ⊥
Knows Told homes moves (Next.Go (TaskStage.Unlocking work)) = ⊥
Knows Told homes moves (Next.Over (Ok (stages.Done units))) = ⊥
Knows Told homes moves (Next.Over given) = Unit {0}
Knows Told homes moves Next.Never = Unit {0}

choice_knows : (Told : Journey → Type 0) (homes : List Home) (moves : List Move) (test : Bool) (a b : TaskNext) → Knows Told homes moves a → Knows Told homes moves b → Knows Told homes moves (cond test a b)
choice_knows Told homes moves true a b h k = h
choice_knows Told homes moves false a b h k = k

copying_knows : (Told : Journey → Type 0) (homes : List Home) (moves : List Move) (work : Work) (next : CopyNext) → AreSame Told (journeys_to homes moves) work.journeys → Knows Told homes moves (copying work next)
copying_knows Told homes moves work (CopyNext.Asks copy) h = h
copying_knows Told homes moves work CopyNext.AllDone h = h
copying_knows Told homes moves work (CopyNext.Waits reason) h = tt
copying_knows Told homes moves work CopyNext.Never h = tt

units_knows : (Told : Journey → Type 0) (homes : List Home) (moves : List Move) (work : Work) (dests heard : List Listing) (left : List Home) → AreSame Told (journeys_to homes moves) work.journeys
    → Knows Told homes moves (listing_units work dests heard left)
unfolding listing_units
units_knows Told homes moves work dests heard [] h =
    choice_knows Told homes moves (nat_lt (length heard) (sight work.mode)) (waits (why.Short (length heard))) (copying work (next_errand work None (errands work dests heard))) tt
    (copying_knows Told homes moves work (next_errand work None (errands work dests heard)) h)
units_knows Told homes moves work dests heard (home ∷ left) h = h

dests_knows : (Told : Journey → Type 0) (homes : List Home) (moves : List Move) (work : Work) (dests : List Listing) (left : List Journey) → AreSame Told (journeys_to homes moves) work.journeys
    → Knows Told homes moves (listing_dests work dests left)
unfolding listing_dests
dests_knows Told homes moves work dests [] h = units_knows Told homes moves work dests [] (unbroken work.homes) h
dests_knows Told homes moves work dests (j ∷ left) h = h

fencing_knows : (Told : Journey → Type 0) (homes : List Home) (moves : List Move) (work : Work) (left : List Journey) → AreSame Told (journeys_to homes moves) work.journeys → Knows Told homes moves (fencing work left)
unfolding fencing
fencing_knows Told homes moves work [] h = dests_knows Told homes moves work [] work.journeys h
fencing_knows Told homes moves work (j ∷ left) h = h

creating_knows : (Told : Journey → Type 0) (homes : List Home) (moves : List Move) (work : Work) (left : List Journey) → AreSame Told (journeys_to homes moves) work.journeys → Knows Told homes moves (creating work left)
unfolding creating
creating_knows Told homes moves work [] h = fencing_knows Told homes moves work (with_old_units work.journeys) h
creating_knows Told homes moves work (j ∷ left) h = h

retargeting_knows : (Told : Journey → Type 0) (homes : List Home) (moves : List Move) (targets : List Target) (work : Work) (left : List Move) → work.homes ≡ homes → AreSame Told (journeys_to homes moves) work.journeys
    → Knows Told homes moves (retargeting targets work left)
unfolding retargeting
retargeting_knows Told homes moves targets work [] e h = creating_knows Told homes moves work work.journeys h
retargeting_knows Told homes moves targets work (move ∷ left) e h =
    choice_knows Told homes moves (target_disk targets move.index == 0) (waits why.NoDisk)
    (cond (target_disk targets move.index == move.disk) (waits why.DestBroken) (Next.Go (TaskStage.Retargeting work move left))) tt
    (choice_knows Told homes moves (target_disk targets move.index == move.disk) (waits why.DestBroken) (Next.Go (TaskStage.Retargeting work move left)) tt (e, h))

failure_knows : (Told : Journey → Type 0) (homes : List Home) (moves : List Move) (reply : Reply) → Knows Told homes moves (unless_failed reply)
failure_knows Told homes moves replies.Fault = tt
failure_knows Told homes moves (replies.Spoiled place) = tt
failure_knows Told homes moves reply = tt

lock_knows : (Told : Journey → Type 0) (homes : List Home) (moves : List Move) (task : ℕ) (reply : Reply) → Knows Told homes moves (not_its_lock task reply)
lock_knows Told homes moves task replies.NotLocked = tt
lock_knows Told homes moves task (replies.OtherTask other) = tt
lock_knows Told homes moves task replies.AlreadySwapped = tt
lock_knows Told homes moves task replies.NotSwapped = tt
lock_knows Told homes moves task replies.NotMoved = tt
lock_knows Told homes moves task replies.DestGood = tt
lock_knows Told homes moves task reply = failure_knows Told homes moves reply

use_knows : (Told : Journey → Type 0) (homes : List Home) (moves : List Move) (disk : ℕ) (reply : Reply) → Knows Told homes moves (no_use disk reply)
use_knows Told homes moves disk (replies.Heard answer) = tt
use_knows Told homes moves disk replies.Unheard = tt
use_knows Told homes moves disk replies.Barred = tt
use_knows Told homes moves disk reply = failure_knows Told homes moves reply

-- moves that were granted are those of their homes
abbrev AreFresh : (Journey → Type 0) → List Home → Type 0
AreFresh Told homes = (moves : List Move) → AreSame Told (journeys_to homes moves) (journeys_to homes moves)

grant_knows : (Told : Journey → Type 0) (homes : List Home) (moves : List Move) (mode : Mode) (task : Task) (hs : List Home) (reply : Reply) → AreFresh Told homes → hs ≡ homes
    → Knows Told homes (granted_by moves reply) (after_lock mode task hs reply)
grant_knows Told homes moves mode task hs (replies.Granted lock given) fresh e =
    creating_knows Told homes given (record { mode = mode; task = task.id; lock = lock; homes = hs; journeys = journeys_to hs given }) (journeys_to hs given)
    (subst (λ (xs : List Home). AreSame Told (journeys_to homes given) (journeys_to xs given)) (sym e) (fresh given))
grant_knows Told homes moves mode task hs (replies.Locked other) fresh e = tt
grant_knows Told homes moves mode task hs (replies.LeaseRuns end) fresh e = tt
grant_knows Told homes moves mode task hs replies.DestBroken fresh e = tt
grant_knows Told homes moves mode task hs (replies.DestHeld index) fresh e = tt
grant_knows Told homes moves mode task hs replies.EpochSpent fresh e = tt
grant_knows Told homes moves mode task hs reply fresh e = failure_knows Told homes (granted_by moves reply) reply

retarget_knows : (Told : Journey → Type 0) (homes : List Home) (moves : List Move) (task : Task) (work : Work) (left : List Move) (reply : Reply) → AreFresh Told homes → work.homes ≡ homes
    → Knows Told homes (granted_by moves reply) (after_retarget task work left reply)
retarget_knows Told homes moves task work left (replies.Granted lock given) fresh e =
    retargeting_knows Told homes given task.targets (record work { journeys = journeys_to work.homes given }) left e
    (subst (λ (xs : List Home). AreSame Told (journeys_to homes given) (journeys_to xs given)) (sym e) (fresh given))
retarget_knows Told homes moves task work left replies.DestBroken fresh e = tt
retarget_knows Told homes moves task work left (replies.DestHeld index) fresh e = tt
retarget_knows Told homes moves task work left replies.EpochSpent fresh e = tt
retarget_knows Told homes moves task work left reply fresh e = lock_knows Told homes (granted_by moves reply) task.id reply

create_knows : (Told : Journey → Type 0) (homes : List Home) (moves : List Move) (work : Work) (disk : ℕ) (left : List Journey) (reply : Reply) → AreSame Told (journeys_to homes moves) work.journeys
    → Knows Told homes (granted_by moves reply) (after_create work disk left reply)
create_knows Told homes moves work disk left (replies.Heard answers.Done) h = creating_knows Told homes moves work left h
create_knows Told homes moves work disk left (replies.Heard answers.Already) h = creating_knows Told homes moves work left h
create_knows Told homes moves work disk left (replies.Heard answers.Broken) h = tt
create_knows Told homes moves work disk left reply h = use_knows Told homes (granted_by moves reply) disk reply

fence_knows : (Told : Journey → Type 0) (homes : List Home) (moves : List Move) (work : Work) (disk : ℕ) (left : List Journey) (reply : Reply) → (reply ≡ replies.Heard answers.Broken → (k : Journey) → k.old.disk ≡ disk → Told k)
    → AreSame Told (journeys_to homes moves) work.journeys → Knows Told homes (granted_by moves reply) (after_fence work disk left reply)
fence_knows Told homes moves work disk left (replies.Heard answers.Done) new h = fencing_knows Told homes moves work left h
fence_knows Told homes moves work disk left (replies.Heard answers.Broken) new h =
    fencing_knows Told homes moves (with_broken disk work) left (same_broken Told disk (journeys_to homes moves) work.journeys (new refl) h)
fence_knows Told homes moves work disk left reply new h = use_knows Told homes (granted_by moves reply) disk reply

dest_knows : (Told : Journey → Type 0) (homes : List Home) (moves : List Move) (work : Work) (dests : List Listing) (j : Journey) (left : List Journey) (reply : Reply)
    → AreSame Told (journeys_to homes moves) work.journeys → Knows Told homes (granted_by moves reply) (after_dest work dests j left reply)
dest_knows Told homes moves work dests j left (replies.Heard (answers.Listing lock live marked)) h =
    choice_knows Told homes moves (lock == work.lock) (listing_dests work (with_listing dests j.index live marked) left) (waits (why.Sick j.dest.disk)) (dests_knows Told homes moves work (with_listing dests j.index live marked) left h) tt
dest_knows Told homes moves work dests j left replies.Unheard h = dests_knows Told homes moves work dests left h
dest_knows Told homes moves work dests j left (replies.Heard answers.Broken) h = tt
dest_knows Told homes moves work dests j left reply h = use_knows Told homes (granted_by moves reply) j.dest.disk reply

unit_knows : (Told : Journey → Type 0) (homes : List Home) (moves : List Move) (work : Work) (dests heard : List Listing) (home : Home) (left : List Home) (reply : Reply)
    → AreSame Told (journeys_to homes moves) work.journeys → Knows Told homes (granted_by moves reply) (after_unit work dests heard home left reply)
unit_knows Told homes moves work dests heard home left (replies.Heard (answers.Listing lock live marked)) h =
    choice_knows Told homes moves (lock == work.lock) (listing_units work dests (with_listing heard home.unit.index live marked) left) (listing_units work dests heard left)
    (units_knows Told homes moves work dests (with_listing heard home.unit.index live marked) left h) (units_knows Told homes moves work dests heard left h)
unit_knows Told homes moves work dests heard home left (replies.Heard answer) h = units_knows Told homes moves work dests heard left h
unit_knows Told homes moves work dests heard home left replies.Unheard h = units_knows Told homes moves work dests heard left h
unit_knows Told homes moves work dests heard home left replies.Barred h = units_knows Told homes moves work dests heard left h
unit_knows Told homes moves work dests heard home left reply h = failure_knows Told homes (granted_by moves reply) reply

copy_knows : (Told : Journey → Type 0) (homes : List Home) (moves : List Move) (work : Work) (copy : CopyStage) (reply : Reply) → RepliesSend reply → AreSame Told (journeys_to homes moves) work.journeys
    → Knows Told homes (granted_by moves reply) (after_copy work copy reply)
copy_knows Told homes moves work copy replies.Fault fits h = tt
copy_knows Told homes moves work copy (replies.Spoiled place) fits h = tt
copy_knows Told homes moves work copy (replies.Heard answer) fits h = copying_knows Told homes moves work (copy_after work copy (replies.Heard answer)) h
copy_knows Told homes moves work copy replies.Unheard fits h = copying_knows Told homes moves work (copy_after work copy replies.Unheard) h
copy_knows Told homes moves work copy replies.Barred fits h = copying_knows Told homes moves work (copy_after work copy replies.Barred) h
copy_knows Told homes moves work copy reply fits h = absurd fits

swap_knows : (Told : Journey → Type 0) (homes : List Home) (moves : List Move) (work : Work) (reply : Reply) → (reply ≡ replies.Done) ⊎ Knows Told homes (granted_by moves reply) (after_swap work reply)
swap_knows Told homes moves work replies.Done = inl refl
swap_knows Told homes moves work (replies.NotListed have) = inr tt
swap_knows Told homes moves work replies.DestBroken = inr tt
swap_knows Told homes moves work replies.NotFenced = inr tt
swap_knows Told homes moves work (replies.NotCopied bid) = inr tt
swap_knows Told homes moves work reply = inr (lock_knows Told homes (granted_by moves reply) work.task reply)

-- what holds at each stage but the swap
stage_knows : (Told : Journey → Type 0) (homes : List Home) (moves : List Move) (origin : Origin) (task : Task) (stage : TaskStage) (event : Event) (reply : Reply) → AreFresh Told homes
    → ((unit : Name) (lock disk : ℕ) → event ≡ events.Send (requests.Fence unit disk lock) → reply ≡ replies.Heard answers.Broken → (k : Journey) → k.old.disk ≡ disk → Told k) → MayReply origin event reply
    → event ≡ task_asks task stage → Knows Told homes moves (Next.Go stage) → ((event ≡ events.Swap task.id) × (reply ≡ replies.Done)) ⊎ Knows Told homes (granted_by moves reply) (task_after origin.mode task stage reply)
stage_knows Told homes moves origin task TaskStage.Looking event reply fresh told fits e h = absurd h
stage_knows Told homes moves origin task (TaskStage.Locking hs) event reply fresh told fits e h = inr (grant_knows Told homes moves origin.mode task hs reply fresh h)
stage_knows Told homes moves origin task (TaskStage.Retargeting work move left) event reply fresh told fits e h = inr (retarget_knows Told homes moves task work left reply fresh h.0)
stage_knows Told homes moves origin task (TaskStage.Creating work j left) event reply fresh told fits e h = inr (create_knows Told homes moves work j.dest.disk left reply h)
stage_knows Told homes moves origin task (TaskStage.Fencing work j left) event reply fresh told fits e h = inr (fence_knows Told homes moves work j.old.disk left reply (told j.old.unit work.lock j.old.disk e) h)
stage_knows Told homes moves origin task (TaskStage.ListingDest work dests j left) event reply fresh told fits e h = inr (dest_knows Told homes moves work dests j left reply h)
stage_knows Told homes moves origin task (TaskStage.ListingUnit work dests heard home left) event reply fresh told fits e h = inr (unit_knows Told homes moves work dests heard home left reply h)
stage_knows Told homes moves origin task (TaskStage.Copying work copy) event reply fresh told fits e h =
    inr (copy_knows Told homes moves work copy reply (subst (λ x. MayReply origin x reply) e fits) h)
stage_knows Told homes moves origin task (TaskStage.Swapping work) event reply fresh told fits e h = elim (swap_knows Told homes moves work reply) [ inl done ↦ inl (e, done) | inr more ↦ inr more ]
stage_knows Told homes moves origin task (TaskStage.Releasing work j left) event reply fresh told fits e h = absurd h
stage_knows Told homes moves origin task (TaskStage.Unlocking work) event reply fresh told fits e h = absurd h

-- The swap of the call, with what was asked up to it and behind it.
record HasSwap (Told : Journey → Type 0) (homes : List Home) (moves : List Move) (mode : Mode) (task : Task) (asked : List Asked) (units : List Home) : Type 0 where
  first : List Asked
  behind : List Asked
  work : Work
  split : asked ≡ (first ++ (record { event = events.Swap task.id; reply = replies.Done } ∷ [])) ++ behind
  same : AreSame Told (journeys_to homes (granted_last moves first)) work.journeys
  gives : Gives (task_call mode task) (Next.Go (releasing work (with_old_units work.journeys))) behind (Ok (stages.Done units))

swap_later : (Told : Journey → Type 0) (homes : List Home) (moves : List Move) (mode : Mode) (task : Task) (a : Asked) (asked : List Asked) (units : List Home)
    → HasSwap Told homes (granted_by moves a.reply) mode task asked units → HasSwap Told homes moves mode task (a ∷ asked) units
swap_later Told homes moves mode task a asked units h =
    record { first = a ∷ h.first; behind = h.behind; work = h.work; split = ap (λ xs. a ∷ xs) h.split; same = h.same; gives = h.gives }

-- each fence that was answered so tells that its disk is broken
abbrev FencesTell : (Journey → Type 0) → List Asked → Type 0
FencesTell Told asked =
    (a : Asked) (unit : Name) (lock disk : ℕ) → IsIn a asked → a.event ≡ events.Send (requests.Fence unit disk lock) → a.reply ≡ replies.Heard answers.Broken → (k : Journey) → k.old.disk ≡ disk → Told k

swap_is_in : (Told : Journey → Type 0) (homes : List Home) (moves : List Move) (origin : Origin) (task : Task) (units : List Home) (stage : TaskStage) (a : Asked) (asked : List Asked) → a.event ≡ events.Swap task.id → a.reply ≡ replies.Done
    → a.event ≡ task_asks task stage → Knows Told homes moves (Next.Go stage) → Gives (task_call origin.mode task) (task_after origin.mode task stage a.reply) asked (Ok (stages.Done units))
    → HasSwap Told homes moves origin.mode task (a ∷ asked) units
swap_is_in Told homes moves origin task units (TaskStage.Swapping work) a asked swap done e h g = record {
  first = [];
  behind = asked;
  work = work;
  split = ap (λ x. record { event = x; reply = a.reply } ∷ asked) swap ∙ ap (λ x. record { event = events.Swap task.id; reply = x } ∷ asked) done;
  same = h;
  gives = subst (λ r. Gives (task_call origin.mode task) (after_swap work r) asked (Ok (stages.Done units))) done g;
}
swap_is_in Told homes moves origin task units stage a asked swap done e h g = absurd (let other : events.Swap task.id ≡ task_asks task stage = sym swap ∙ e in cc)

find_swap : (Told : Journey → Type 0) (homes : List Home) (moves : List Move) (origin : Origin) (task : Task) (units : List Home) (from : TaskNext) (asked : List Asked) → AreFresh Told homes → FencesTell Told asked → Fit origin asked
    → Knows Told homes moves from → Gives (task_call origin.mode task) from asked (Ok (stages.Done units)) → HasSwap Told homes moves origin.mode task asked units
find_swap Told homes moves origin task units (Next.Over given) [] fresh told fits h g = absurd (subst (λ x. Knows Told homes moves (Next.Over x)) (sym g) h)
find_swap Told homes moves origin task units (Next.Go stage) [] fresh told fits h g = absurd g
find_swap Told homes moves origin task units Next.Never [] fresh told fits h g = absurd g
find_swap Told homes moves origin task units (Next.Over given) (a ∷ asked) fresh told fits h g = absurd g
find_swap Told homes moves origin task units Next.Never (a ∷ asked) fresh told fits h g = absurd g
find_swap Told homes moves origin task units (Next.Go stage) (a ∷ asked) fresh told fits h g =
    elim (stage_knows Told homes moves origin task stage a.event a.reply fresh (λ unit lock disk. told a unit lock disk (inl refl)) fits.0 g.0 h) [
      | inl now ↦ swap_is_in Told homes moves origin task units stage a asked now.0 now.1 g.0 h g.1
      | inr more ↦ swap_later Told homes moves origin.mode task a asked units
          (find_swap Told homes (granted_by moves a.reply) origin task units (task_after origin.mode task stage a.reply) asked fresh (λ x unit lock disk i. told x unit lock disk (inr i)) fits.1 more g.1)
    ]

-- ---- whole calls

in_back : {A : Type 0} (x : A) (xs ys : List A) → IsIn x ys → IsIn x (xs ++ ys)
in_back x [] ys i = i
in_back x (y ∷ xs) ys i = inr (in_back x xs ys i)

home_in : (homes : List Home) (i : ℕ) → i < length homes → IsIn (home_of homes i) homes
home_in [] i below = absurd (omega arith)
home_in (home ∷ homes) zero below = inl refl
home_in (home ∷ homes) (suc i) below = inr (home_in homes i (omega arith))

-- the old unit of an index of the volume is told to be on a broken disk
abbrev ToldIn : ℕ → List Asked → Journey → Type 0
ToldIn total asked k = k.index < total → IsToldBroken asked k.old.disk

abbrev GoneIn : ℕ → List Asked → List Asked → Journey → Type 0
GoneIn total asked behind k = k.index < total → IsGivenUp asked behind k.old

fresh_told : (total : ℕ) (view : View) (asked : List Asked) → WasAsked asked events.Look (replies.Seen view) → length view.units ≡ total → AreFresh (ToldIn total asked) view.units
fresh_told total view asked look count [] = tt
fresh_told total view asked look count (m ∷ moves) = (
  record {
    unit = refl;
    disk = refl;
    dest = refl;
    broken = λ e below. IsToldBroken.Shown view (home_of view.units m.index) look (home_in view.units m.index (subst (λ n. m.index < n) (sym count) below)) refl e;
  },
  fresh_told total view asked look count moves,
)

fences_tell : (total : ℕ) (asked : List Asked) (some : List Asked) → ((a : Asked) → IsIn a some → IsIn a asked) → FencesTell (ToldIn total asked) some
fences_tell total asked some among a unit lock disk i e r k here below =
    subst (IsToldBroken asked) (sym here) (IsToldBroken.AtFence unit lock (was asked a (events.Send (requests.Fence unit disk lock)) (replies.Heard answers.Broken) e r (among a i)))

all_pay : (total : ℕ) (asked behind : List Asked) → ((a : Asked) → IsIn a behind → IsIn a asked) → AllPay (GoneIn total asked behind) behind
all_pay total asked behind among a j i e = record {
  done = λ r k unit disk below. IsGivenUp.Released (release_was k unit disk (replies.Heard answers.Done) r);
  stale = λ have r k unit disk below. IsGivenUp.Stale have (release_was k unit disk (replies.Heard (answers.Stale have)) r);
  broken = λ r k disk below. IsGivenUp.Broken (subst (IsToldBroken asked) disk
      (IsToldBroken.AtRelease j.old.unit (was asked a (events.Send (requests.Release j.old.unit j.old.disk)) (replies.Heard answers.Broken) e r (among a i))));
} where
  release_was : (k : Journey) → j.old.unit ≡ k.old.unit → j.old.disk ≡ k.old.disk → (reply : Reply) → a.reply ≡ reply → WasAsked behind (events.Send (requests.Release k.old.unit k.old.disk)) reply
  release_was k unit disk reply r =
      was behind a (events.Send (requests.Release k.old.unit k.old.disk)) reply (e ∙ ap (λ x. events.Send (requests.Release x j.old.disk)) unit ∙ ap (λ x. events.Send (requests.Release k.old.unit x)) disk) r i

-- behind the look, from a lock that isn't swapped or none
done_now : (origin : Origin) (task : Task) (units : List Home) (view : View) (from : TaskNext) (asked : List Asked) → length view.units ≡ total_count origin.mode → Fit origin asked
    → ((Told : Journey → Type 0) → AreFresh Told view.units → Knows Told view.units (held_moves view.held) from) → Gives (task_call origin.mode task) from asked (Ok (stages.Done units))
    → IsDoneBy (total_count origin.mode) task (record { event = events.Look; reply = replies.Seen view } ∷ asked) units
done_now origin task units view from asked count fits knows g =
    let total = total_count origin.mode in
    let look : Asked = record { event = events.Look; reply = replies.Seen view } in
    let whole : List Asked = look ∷ asked in
    let Told : Journey → Type 0 = ToldIn total whole in
    let fresh : AreFresh Told view.units = fresh_told total view whole (inl refl) count in
    let swap : HasSwap Told view.units (held_moves view.held) origin.mode task asked units =
    find_swap Told view.units (held_moves view.held) origin task units from asked fresh (fences_tell total whole asked (λ a i. inr i)) fits (knows Told fresh) g in
    let ks = journeys_to view.units (granted_last (held_moves view.held) swap.first) in
    let front : List Asked = swap.first ++ (record { event = events.Swap task.id; reply = replies.Done } ∷ []) in
    let Gone : Journey → Type 0 = GoneIn total whole swap.behind in
    let among : (a : Asked) → IsIn a swap.behind → IsIn a whole = λ a i. inr (subst (IsIn a) (sym swap.split) (in_back a front swap.behind i)) in
    let end : Freed task Gone ks swap.behind units = freed origin.mode task Gone ks units swap.work (with_old_units swap.work.journeys) swap.behind (all_pay total whole swap.behind among)
    (record { owes = old_owed Told Gone ks swap.work.journeys (λ k told below. IsGivenUp.Broken (told below)) swap.same; units = same_units Told ks swap.work.journeys swap.same }) swap.gives in
    record {
      view = view;
      front = front;
      behind = swap.behind;
      journeys = ks;
      split = ap (λ xs. look ∷ xs) swap.split;
      swapped = Swapped.Now swap.first refl refl;
      given_up = end.gone;
      unlocked = end.ends;
      put_in = end.put_in;
    }

-- behind the look, from a lock that is swapped
done_before : (origin : Origin) (task : Task) (units : List Home) (view : View) (lock : LockView) (asked : List Asked) → view.held ≡ Some lock → lock.task ≡ task.id → lock.swapped ≡ true → (work : Work) → work.journeys ≡ journeys_from view.units lock.moves
    → Gives (task_call origin.mode task) (Next.Go (releasing work work.journeys)) asked (Ok (stages.Done units))
    → IsDoneBy (total_count origin.mode) task (record { event = events.Look; reply = replies.Seen view } ∷ asked) units
done_before origin task units view lock asked held own swapped work js g =
    let total = total_count origin.mode in
    let look : Asked = record { event = events.Look; reply = replies.Seen view } in
    let whole : List Asked = look ∷ asked in
    let ks = journeys_from view.units lock.moves in
    let Gone : Journey → Type 0 = GoneIn total whole asked in
    let end : Freed task Gone ks asked units = freed origin.mode task Gone ks units work work.journeys asked (all_pay total whole asked (λ a i. inr i))
    (record { owes = λ k i. inr (k, subst (IsIn k) (sym js) i, refl, refl); units = ap units_in js }) g in
    record {
      view = view;
      front = [];
      behind = asked;
      journeys = ks;
      split = refl;
      swapped = Swapped.Before lock held own swapped refl refl;
      given_up = end.gone;
      unlocked = end.ends;
      put_in = end.put_in;
    }

over_other : (mode : Mode) (task : Task) (units : List Home) (given : Result Stage TaskFault) (asked : List Asked) → ((Ok (stages.Done units) ≡ given) → ⊥) → Gives (task_call mode task) (Next.Over given) asked (Ok (stages.Done units)) → ⊥
over_other mode task units given [] other g = other g
over_other mode task units given (a ∷ asked) other g = g

never_given : (mode : Mode) (task : Task) (units : List Home) (asked : List Asked) → Gives (task_call mode task) Next.Never asked (Ok (stages.Done units)) → ⊥
never_given mode task units [] g = g
never_given mode task units (a ∷ asked) g = g

done_held : (origin : Origin) (task : Task) (units : List Home) (view : View) (lock : LockView) (asked : List Asked) → view.held ≡ Some lock → length view.units ≡ total_count origin.mode → Fit origin asked
    → Gives (task_call origin.mode task) (after_view origin.mode task view (Some lock)) asked (Ok (stages.Done units)) → IsDoneBy (total_count origin.mode) task (record { event = events.Look; reply = replies.Seen view } ∷ asked) units
done_held origin task units view lock asked held count fits g = go (lock.task == task.id) lock.swapped refl refl g
  where
    go : (own swapped : Bool) → (lock.task == task.id) ≡ own → lock.swapped ≡ swapped
        → Gives (task_call origin.mode task)
        (cond own
        (cond swapped
        (Next.Go (releasing (record { mode = origin.mode; task = task.id; lock = lock.lock; homes = view.units; journeys = journeys_from view.units lock.moves }) (journeys_from view.units lock.moves)))
        (retargeting task.targets (record { mode = origin.mode; task = task.id; lock = lock.lock; homes = view.units; journeys = journeys_to view.units lock.moves })
        (filter (λ (move : Move). move.dest_broken) lock.moves)))
        (waits (why.Locked lock.task))) asked (Ok (stages.Done units))
        → IsDoneBy (total_count origin.mode) task (record { event = events.Look; reply = replies.Seen view } ∷ asked) units
    go false swapped e s g = absurd (over_other origin.mode task units (Ok (stages.Waits (why.Locked lock.task))) asked (λ same. cc) g)
    go true true e s g =
        done_before origin task units view lock asked held (eqb-true lock.task task.id e) s (record { mode = origin.mode; task = task.id; lock = lock.lock; homes = view.units; journeys = journeys_from view.units lock.moves }) refl g
    go true false e s g =
        done_now origin task units view
        (retargeting task.targets (record { mode = origin.mode; task = task.id; lock = lock.lock; homes = view.units; journeys = journeys_to view.units lock.moves }) (filter (λ (move : Move). move.dest_broken) lock.moves)) asked count fits
        (λ Told fresh. subst (λ held. Knows Told view.units (held_moves held) (retargeting task.targets (record { mode = origin.mode; task = task.id; lock = lock.lock; homes = view.units; journeys = journeys_to view.units lock.moves })
        (filter (λ (move : Move). move.dest_broken) lock.moves))) (sym held)
        (retargeting_knows Told view.units lock.moves task.targets (record { mode = origin.mode; task = task.id; lock = lock.lock; homes = view.units; journeys = journeys_to view.units lock.moves })
        (filter (λ (move : Move). move.dest_broken) lock.moves) refl (fresh lock.moves))) g

done_free : (origin : Origin) (task : Task) (units : List Home) (view : View) (asked : List Asked) → length view.units ≡ total_count origin.mode → Fit origin asked
    → Gives (task_call origin.mode task) (after_view origin.mode task view None) asked (Ok (stages.Done units)) → IsDoneBy (total_count origin.mode) task (record { event = events.Look; reply = replies.Seen view } ∷ asked) units
done_free origin task units view asked count fits g = go (list_any (λ (t : Target). t.disk == 0) task.targets) g
  where
    go : (lacks : Bool) → Gives (task_call origin.mode task) (cond lacks (waits why.NoDisk) (Next.Go (TaskStage.Locking view.units))) asked (Ok (stages.Done units))
        → IsDoneBy (total_count origin.mode) task (record { event = events.Look; reply = replies.Seen view } ∷ asked) units
    go true g = absurd (over_other origin.mode task units (Ok (stages.Waits why.NoDisk)) asked (λ same. cc) g)
    go false g = done_now origin task units view (Next.Go (TaskStage.Locking view.units)) asked count fits (λ Told fresh. refl) g

done_seen : (origin : Origin) (task : Task) (units : List Home) (view : View) (held : Option LockView) (asked : List Asked) → view.held ≡ held → length view.units ≡ total_count origin.mode → Fit origin asked
    → Gives (task_call origin.mode task) (after_view origin.mode task view held) asked (Ok (stages.Done units)) → IsDoneBy (total_count origin.mode) task (record { event = events.Look; reply = replies.Seen view } ∷ asked) units
done_seen origin task units view None asked held count fits g = done_free origin task units view asked count fits g
done_seen origin task units view (Some lock) asked held count fits g = done_held origin task units view lock asked held count fits g

done_looked : (origin : Origin) (task : Task) (units : List Home) (reply : Reply) (asked : List Asked) → MayReply origin events.Look reply → Fit origin asked
    → Gives (task_call origin.mode task) (after_look origin.mode task reply) asked (Ok (stages.Done units)) → IsDoneBy (total_count origin.mode) task (record { event = events.Look; reply = reply } ∷ asked) units
done_looked origin task units (replies.Seen view) asked may fits g = done_seen origin task units view view.held asked refl may.count fits g
done_looked origin task units replies.Fault asked may fits g = absurd (over_other origin.mode task units (Err faults.Fault) asked (λ same. cc) g)
done_looked origin task units (replies.Spoiled place) asked may fits g = absurd (over_other origin.mode task units (Err (faults.Spoiled place)) asked (λ same. cc) g)
done_looked origin task units reply asked may fits g = absurd may

done_asked : (origin : Origin) (task : Task) (units : List Home) (asked : List Asked) → Fit origin asked → Gives (task_call origin.mode task) (Next.Go TaskStage.Looking) asked (Ok (stages.Done units))
    → IsDoneBy (total_count origin.mode) task asked units
done_asked origin task units [] fits g = absurd g
done_asked origin task units (a ∷ asked) fits g =
    subst (λ x. IsDoneBy (total_count origin.mode) task (record { event = x; reply = a.reply } ∷ asked) units) (sym g.0)
    (done_looked origin task units a.reply asked (subst (λ x. MayReply origin x a.reply) g.0 fits.0) fits.1 g.1)

pub done_is_unlocked : DoneIsUnlocked
done_is_unlocked origin task parts units fits call =
    done_asked origin task units (asked_in parts) (fit_asked origin parts fits) (rest_gives (task_call origin.mode task) (Next.Go TaskStage.Looking) parts (Ok (stages.Done units)) call)
