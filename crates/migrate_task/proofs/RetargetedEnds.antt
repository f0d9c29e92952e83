-- A task that has its lock: destinations on broken disks move to others, and one call takes the task to its end.
use Rattle.std.proofs.Common.{◌≡◌, ℕ, zero, suc, ◌+◌, ◌⊎◌, inl, inr, Bool, true, false, cond, not, ◌&&◌, ◌==◌, List, [], ◌∷◌, filter, Option, Some, None, Result, Ok, Err, refl, sym, ◌∙◌, ap, subst, arith}
use Rattle.std.specs.Prelude.{is_some, is_none}
use Rattle.unit_id.specs.Lists.{IsIn, any, first_that_holds}
use Rattle.unit_id.specs.Place.{Location}
use Rattle.unit_id.specs.declared.homes.Home.{Home}
use Rattle.unit_id.specs.declared.moves.Move.{Move}
use Rattle.unit_id.specs.declared.targets.Target.{Target}
use Rattle.unit_id.specs.declared.task.Task.{Task}
use Rattle.unit_id.proofs.Bools.{contrary, either, not_so, and_both, equal_test, same_number}
use Rattle.unit_id.proofs.Membership.{gives_any}
use Rattle.code_mode.specs.declared.mode.Mode.{Mode}
use Rattle.code_mode.specs.VolumeShape.{VolumeShape, last_epoch}
use Rattle.code_mode.proofs.Numbers.{sound_shapes}
use Rattle.volume_entry.specs.Manager.{Transfer, Lock, Grant, Manager, greatest_at, raised, transfers_of, is_swapped, redirected, redirected_lock, written}
use Rattle.volume_entry.specs.ManagerStep.{task_of, is_of_other, or_else, or_zero, holder, other_destination, grant_of, is_spent, is_destination_broken, retarget_holder, retarget_refusal, retarget_record, Retargets}
use Rattle.volume_entry.specs.View.{homes_shown, moves_shown}
use Rattle.volume_entry.specs.ShownView.{lock_shown}
use Rattle.volume_entry.specs.declared.view.LockView.{LockView}
use Rattle.volume_entry.specs.declared.view.View.{View}
use Rattle.volume_entry.specs.Reply.{Reply}
use Rattle.volume_world.specs.Event.{Event}
use Rattle.volume_world.specs.Run.{World, Step, Leads, Does, IsRefusedByLog}
use Rattle.volume_world.specs.Invariant.{Kept}
use Rattle.volume_world.specs.Told.{Tells}
use Rattle.volume_world.specs.Way.{Origin, shape_of}
use Rattle.volume_world.specs.Possible.{IsPossible}
use Rattle.volume_world.specs.Course.{Part, PartsLead, IsDone}
use Rattle.volume_world.specs.Call.{Next, IsRest}
use Rattle.volume_world.specs.Trace.{reply_kept}
use Rattle.volume_world.specs.declared.event.Event.TheVariants as events
use Rattle.volume_world.specs.declared.reply.Reply.{Reply as CodeReply}
use Rattle.volume_world.specs.declared.reply.Reply.TheVariants as replies
use Rattle.volume_world.proofs.Telling.{entry_keeps}
use Rattle.volume_world.proofs.PossibleStates.{possible_kept}
use Rattle.volume_world.proofs.Redirected.{redirect, redirect_gives, gives_redirect, dest_cases}
use Rattle.migrate_task.specs.declared.stage.Stage.{Stage}
use Rattle.migrate_task.specs.declared.stage.TaskFault.{TaskFault}
use Rattle.migrate_task.specs.declared.stage.TaskFault.TheVariants as faults
use Rattle.migrate_task.specs.declared.stage.Why.TheVariants as why
use Rattle.migrate_task.specs.Work.{Work, journeys_to, journeys_from}
use Rattle.migrate_task.specs.AdvanceCall.{TaskStage, task_call, waits, target_disk, creating, retargeting, releasing, after_view, after_look, after_retarget}
use Rattle.migrate_task.specs.Completion.{IsUntroubled, IsCalm, IsSound, HasOtherDisk, IsLockedFor, LockedTasksGetSwapped}
use Rattle.migrate_task.proofs.BegunNumbers.{AreNumbered, same_numbers, begun_numbers}
use Rattle.migrate_task.proofs.LockOrder.{AreApart, lock_ordered}
use Rattle.migrate_task.proofs.HeardSends.{IsBy, is_by}
use Rattle.migrate_task.proofs.SwappedCalls.{some_none, look_seen}
use Rattle.migrate_task.proofs.LockedPoints.{work_for}
use Rattle.migrate_task.proofs.LockedEnds.{EndsSwapped, IsGoodLock, from_lock, scene_of, first_ground, first_stands, nothing_retargeted, sound_on}

-- ---- lists

-- no index stands there twice
abbrev AreOnce : List Move → Type 0
AreOnce [] = Unit {0}
AreOnce (m ∷ ms) = ((n : Move) → IsIn n ms → n.index ≡ m.index → ⊥) × AreOnce ms

-- how a transfer is shown before the swap
abbrev move_of : ℕ → (ℕ → Bool) → Transfer → Move
move_of vid broken t = record { index = t.index; unit = record { vid = vid; index = t.index; epoch = t.dest.epoch }; disk = t.dest.disk; dest_broken = broken t.dest.disk }

abbrev broken_moves : ℕ → (ℕ → Bool) → List Transfer → List Move
broken_moves vid broken ts = filter (λ (m : Move). m.dest_broken) (moves_shown vid broken false ts)

broken_there : (vid : ℕ) (broken : ℕ → Bool) (ts : List Transfer) (t : Transfer) → IsIn t ts → broken t.dest.disk ≡ true → IsIn (move_of vid broken t) (broken_moves vid broken ts)
broken_there vid broken [] t i is_broken = absurd i
broken_there vid broken (x ∷ ts) t (inl here) is_broken = go (broken x.dest.disk) (ap (λ (y : Transfer). broken y.dest.disk) (sym here) ∙ is_broken) where
  go : (test : Bool) → test ≡ true → IsIn (move_of vid broken t) (cond test (move_of vid broken x ∷ broken_moves vid broken ts) (broken_moves vid broken ts))
  go true e = inl (ap (move_of vid broken) here)
  go false e = absurd (cc)
broken_there vid broken (x ∷ ts) t (inr there) is_broken = go (broken x.dest.disk) (broken_there vid broken ts t there is_broken) where
  go : (test : Bool) → IsIn (move_of vid broken t) (broken_moves vid broken ts) → IsIn (move_of vid broken t) (cond test (move_of vid broken x ∷ broken_moves vid broken ts) (broken_moves vid broken ts))
  go true i = inr i
  go false i = i

there_broken : (vid : ℕ) (broken : ℕ → Bool) (ts : List Transfer) (m : Move) → IsIn m (broken_moves vid broken ts) → (t : Transfer) × IsIn t ts × (m ≡ move_of vid broken t) × (broken t.dest.disk ≡ true)
there_broken vid broken [] m i = absurd i
there_broken vid broken (x ∷ ts) m i = go (broken x.dest.disk) refl (there_broken vid broken ts m) i where
  go : (test : Bool) → broken x.dest.disk ≡ test → (IsIn m (broken_moves vid broken ts) → (t : Transfer) × IsIn t ts × (m ≡ move_of vid broken t) × (broken t.dest.disk ≡ true))
      → IsIn m (cond test (move_of vid broken x ∷ broken_moves vid broken ts) (broken_moves vid broken ts)) → (t : Transfer) × IsIn t (x ∷ ts) × (m ≡ move_of vid broken t) × (broken t.dest.disk ≡ true)
  go true e later (inl here) = (x, inl refl, here, e)
  go true e later (inr there) = let found = later there in (found.0, inr found.1, found.2, found.3)
  go false e later i = let found = later i in (found.0, inr found.1, found.2, found.3)

broken_once : (vid : ℕ) (broken : ℕ → Bool) (ts : List Transfer) → AreApart ts → AreOnce (broken_moves vid broken ts)
broken_once vid broken [] h = tt
broken_once vid broken (x ∷ ts) h = go (broken x.dest.disk) (broken_once vid broken ts h.1) where
  go : (test : Bool) → AreOnce (broken_moves vid broken ts) → AreOnce (cond test (move_of vid broken x ∷ broken_moves vid broken ts) (broken_moves vid broken ts))
  go true rest = (λ n i same. let found = there_broken vid broken ts n i in h.0 found.0 found.1 (sym (ap (λ (y : Move). y.index) found.2) ∙ same), rest)
  go false rest = rest

-- ---- one of them moves

eight_none : {A : Type 0} (a b c d e f g h : Bool) (p q r s t u v w : A) → a ≡ false → b ≡ false → c ≡ false → d ≡ false → e ≡ false → f ≡ false → g ≡ false → h ≡ false
    → first_that_holds ((a, p) ∷ (b, q) ∷ (c, r) ∷ (d, s) ∷ (e, t) ∷ (f, u) ∷ (g, v) ∷ (h, w) ∷ []) ≡ None
eight_none a b c d e f g h p q r s t u v w ea eb ec ed ee ef eg eh = rw (ea, eb, ec, ed, ee, ef, eg, eh) refl

-- the move is of a destination on a broken disk, which can have another
record IsBrokenMove (task : Task) (lock : Lock) (broken : ℕ → Bool) (w : World) (m : Move) : Type 0 where
  t : Transfer
  there : IsIn t lock.transfers
  index : m.index ≡ t.index
  disk : m.disk ≡ t.dest.disk
  is_broken : broken t.dest.disk ≡ true
  other : HasOtherDisk task w m.index

-- the moves that are left are of the destinations on broken disks
record Retargeting (origin : Origin) (task : Task) (lock : Lock) (homes : List Location) (broken : ℕ → Bool) (w : World) (left : List Move) : Type 0 where
  kept : Kept (shape_of origin) w.state
  numbers : AreNumbered w.state
  sound : IsSound (shape_of origin) w
  held : w.state.manager.lock ≡ Some lock
  own : lock.task ≡ task.id
  unswapped : lock.is_swapped ≡ false
  homes_are : w.state.manager.homes ≡ homes
  broken_are : w.state.broken ≡ broken
  good : (t : Transfer) → IsIn t lock.transfers → (broken t.dest.disk ≡ false) ⊎ ((m : Move) × IsIn m left × (m.index ≡ t.index))
  each : (m : Move) → IsIn m left → IsBrokenMove task lock broken w m
  apart : (m n : Move) → IsIn m left → IsIn n left → target_disk task.targets m.index ≡ target_disk task.targets n.index → m.index ≡ n.index
  once : AreOnce left

not_refused : (origin : Origin) (task : Task) (lock : Lock) (homes : List Location) (broken : ℕ → Bool) (w : World) (m : Move) (left : List Move) → Retargeting origin task lock homes broken w (m ∷ left)
    → retarget_refusal w.state.broken task.id m.index (target_disk task.targets m.index) w.state.manager ≡ None
not_refused origin task lock homes broken w m left h =
    let g = w.state.manager in
    let disk = target_disk task.targets m.index in
    let b = h.each m (inl refl) in
    let ts = transfers_of g.lock in
    let there : IsIn b.t ts = subst (λ l. IsIn b.t (transfers_of l)) (sym h.held) b.there in
    let same = equal_test b.t.index m.index (sym b.index) in
    let is_broken : w.state.broken b.t.dest.disk ≡ true = ap (λ (f : ℕ → Bool). f b.t.dest.disk) h.broken_are ∙ b.is_broken in
    eight_none (is_none g.lock) (is_of_other g.lock task.id) (is_swapped g.lock) (not (any (λ (t : Transfer). t.index == m.index) ts)) (not (is_destination_broken w.state.broken ts m.index)) (w.state.broken disk)
    (is_some (retarget_holder g m.index disk)) (is_spent g.greatest m.index)
    Reply.NotLocked (Reply.OtherTask (task_of g.lock)) Reply.AlreadySwapped Reply.NotMoved Reply.DestGood Reply.DestBroken (Reply.DestHeld (or_zero (retarget_holder g m.index disk))) Reply.EpochSpent
    (ap is_none h.held)
    (ap (λ l. is_of_other l task.id) h.held ∙ ap not (equal_test lock.task task.id h.own))
    (ap is_swapped h.held ∙ h.unswapped)
    (ap not (gives_any (λ (t : Transfer). t.index == m.index) ts b.t there same))
    (ap not (gives_any (λ (t : Transfer). (t.index == m.index) && w.state.broken t.dest.disk) ts b.t there (and_both (b.t.index == m.index) (w.state.broken b.t.dest.disk) same is_broken)))
    b.other.unbroken
    (ap is_some b.other.apart)
    b.other.unspent

-- what the reply says of the manager's part behind it
abbrev RetargetGives : ℕ → ℕ → Manager → Manager → Reply → Type 0
RetargetGives index disk m n (Reply.Granted number transfers) = (transfers ≡ transfers_of n.lock) × (n ≡ written (retarget_record index disk m) m)
RetargetGives index disk m n Reply.Fault = Unit {0}
RetargetGives index disk m n reply = ⊥

retargets_give : (broken : ℕ → Bool) (task index disk : ℕ) (m n : Manager) (reply : Reply) → retarget_refusal broken task index disk m ≡ None → Retargets broken task index disk m reply n → RetargetGives index disk m n reply
retargets_give broken task index disk m n (Reply.Granted number transfers) none h = (h.2, h.3)
retargets_give broken task index disk m n Reply.Fault none h = tt
retargets_give broken task index disk m n reply none h = some_none (retarget_refusal broken task index disk m) reply none h.0

retarget_leads : (shape : VolumeShape) (w u : World) (task index disk : ℕ) (step : Step) → step.event ≡ Event.Retarget task index disk → w.state.manager.is_shut ≡ false
    → retarget_refusal w.state.broken task index disk w.state.manager ≡ None → Leads shape w step u → IsBy w u (λ n. RetargetGives index disk w.state.manager n step.reply)
retarget_leads shape w u task index disk step e unshut none (inl h) =
    let does = subst (λ event. Does shape w event step.reply u) e h in
    is_by w u does.0.0 (λ n. RetargetGives index disk w.state.manager n step.reply) (retargets_give w.state.broken task index disk w.state.manager does.0.0.manager step.reply none does.0.1.1.1) does.0.1.1.2 does.0.2 does.1
retarget_leads shape w u task index disk step e unshut none (inr h) =
    let refused = subst (λ event. IsRefusedByLog w event step.reply u) e h in absurd (contrary w.state.manager.is_shut refused.0 unshut)

-- another disk is granted
record IsRegranted (vid index disk : ℕ) (w : World) (n : Manager) (reply : CodeReply) : Type 0 where
  number : ℕ
  moves : List Move
  is : reply ≡ replies.Granted number moves
  shown : moves ≡ moves_shown vid w.state.broken false (transfers_of n.lock)
  record_is : n ≡ written (retarget_record index disk w.state.manager) w.state.manager

told_regrant : (vid index disk : ℕ) (w : World) (n : Manager) (reply : CodeReply) (told : Reply) → IsUntroubled reply → RetargetGives index disk w.state.manager n told → Tells vid w.state (reply_kept reply) told
    → IsRegranted vid index disk w n reply
told_regrant vid index disk w n (replies.Granted number moves) (Reply.Granted said transfers) calm gives tells = record {
  number = number;
  moves = moves;
  is = refl;
  shown = tells.1 ∙ ap (moves_shown vid w.state.broken false) gives.0;
  record_is = gives.1;
}
told_regrant vid index disk w n replies.Fault told calm gives tells = absurd calm
told_regrant vid index disk w n reply (Reply.Granted said transfers) calm gives tells = absurd tells
told_regrant vid index disk w n reply Reply.Fault calm gives tells = absurd tells
told_regrant vid index disk w n reply told calm gives tells = absurd gives

-- ---- what it leaves of the others

both_none : (a b : Option ℕ) → or_else a b ≡ None → (a ≡ None) × (b ≡ None)
both_none None b e = (refl, e)
both_none (Some n) b e = absurd (cc)

no_choice : (test : Bool) (n : ℕ) (rest : Option ℕ) → cond test (Some n) rest ≡ None → (test ≡ false) × (rest ≡ None)
no_choice true n rest e = absurd (cc)
no_choice false n rest e = (refl, e)

-- no destination stands on the disk, nor does the new one
still_free : (grant : Grant) (ts : List Transfer) (index disk : ℕ) → grant.dest.disk == disk ≡ false → other_destination ts index disk ≡ None → other_destination (redirected grant ts) index disk ≡ None
still_free grant [] index disk new none = refl
still_free grant (t ∷ ts) index disk new none =
    let first = no_choice ((t.dest.disk == disk) && not (t.index == index)) t.index (other_destination ts index disk) none in
    go (t.index == grant.index) first.0 (still_free grant ts index disk new first.1)
  where
    go : (test : Bool) → (t.dest.disk == disk) && not (t.index == index) ≡ false → other_destination (redirected grant ts) index disk ≡ None
        → cond (((cond test grant.dest t.dest).disk == disk) && not (t.index == index)) (Some t.index) (other_destination (redirected grant ts) index disk) ≡ None
    go true old rest = ap (λ b. cond (b && not (t.index == index)) (Some t.index) (other_destination (redirected grant ts) index disk)) new ∙ rest
    go false old rest = ap (λ b. cond b (Some t.index) (other_destination (redirected grant ts) index disk)) old ∙ rest

-- the greatest epochs of other indexes stay
same_greatest : (k : ℕ) (grant : Grant) (epochs : List ℕ) (i : ℕ) → (grant.index ≡ k + i → ⊥) → greatest_at (raised k (grant ∷ []) epochs) i ≡ greatest_at epochs i
same_greatest k grant [] i other = refl
same_greatest k grant (epoch ∷ epochs) zero other = ap (λ b. cond b grant.dest.epoch epoch) (not_so (grant.index == k) (λ e. let same = same_number grant.index k e in other (omega (arith, same))))
same_greatest k grant (epoch ∷ epochs) (suc i) other = same_greatest (suc k) grant epochs i (λ e. other (omega (arith, e)))

other_still : (task : Task) (w u : World) (lock : Lock) (m n : ℕ) → w.state.manager.lock ≡ Some lock → u.state.manager ≡ written (retarget_record m (target_disk task.targets m) w.state.manager) w.state.manager → u.state.broken ≡ w.state.broken
    → (n ≡ m → ⊥) → (target_disk task.targets m ≡ target_disk task.targets n → ⊥) → HasOtherDisk task w n → HasOtherDisk task u n
other_still task w u lock m n held is broken other apart h =
    let disk = target_disk task.targets n in
    let grant = grant_of w.state.manager.greatest (record { index = m; disk = target_disk task.targets m }) in
    let free = both_none (holder 0 w.state.manager.homes disk) (other_destination (transfers_of w.state.manager.lock) n disk) h.apart in
    let before : other_destination lock.transfers n disk ≡ None = ap (λ l. other_destination (transfers_of l) n disk) (sym held) ∙ free.1 in
    let later : other_destination (transfers_of u.state.manager.lock) n disk ≡ None =
    ap (λ (g : Manager). other_destination (transfers_of g.lock) n disk) is ∙ ap (λ l. other_destination (transfers_of (redirected_lock grant l)) n disk) held
    ∙ still_free grant lock.transfers n disk (not_so (target_disk task.targets m == disk) (λ e. apart (same_number (target_disk task.targets m) disk e))) before in
    let home : holder 0 u.state.manager.homes disk ≡ None = ap (λ (g : Manager). holder 0 g.homes disk) is ∙ free.0 in
    let greatest : greatest_at u.state.manager.greatest n ≡ greatest_at w.state.manager.greatest n =
    ap (λ (g : Manager). greatest_at g.greatest n) is ∙ same_greatest 0 grant w.state.manager.greatest n (λ e. other (sym (e ∙ omega arith))) in
    record {
      some = h.some;
      unbroken = ap (λ (f : ℕ → Bool). f disk) broken ∙ h.unbroken;
      apart = ap (λ x. or_else x (other_destination (transfers_of u.state.manager.lock) n disk)) home ∙ later;
      unspent = ap (λ x. x == last_epoch) greatest ∙ h.unspent;
    }

-- ---- from one to the next

-- the disk is granted, and the others are left
record Moved (origin : Origin) (task : Task) (lock : Lock) (homes : List Location) (broken : ℕ → Bool) (u : World) (left : List Move) (reply : CodeReply) : Type 0 where
  transfers : List Transfer
  number : ℕ
  moves : List Move
  is : reply ≡ replies.Granted number moves
  shown : moves ≡ moves_shown origin.vid broken false transfers
  holds : Retargeting origin task (record lock { transfers = transfers }) homes broken u left

retarget_step : (origin : Origin) (task : Task) (lock : Lock) (homes : List Location) (broken : ℕ → Bool) (w u : World) (m : Move) (left : List Move) (reply : CodeReply) → Retargeting origin task lock homes broken w (m ∷ left)
    → IsDone origin w (events.Retarget task.id m.index (target_disk task.targets m.index)) reply u → IsUntroubled reply → Moved origin task lock homes broken u left reply
retarget_step origin task lock homes broken w u m left reply h done calm =
    let disk = target_disk task.targets m.index in
    let grant = grant_of w.state.manager.greatest (record { index = m.index; disk = disk }) in
    let by = retarget_leads (shape_of origin) w u task.id m.index disk done.step done.told.event h.sound.unshut (not_refused origin task lock homes broken w m left h) done.leads in
    let told : IsRegranted origin.vid m.index disk w u.state.manager reply = told_regrant origin.vid m.index disk w u.state.manager reply done.step.reply calm by.gives done.told.reply in
    let homes_same : u.state.manager.homes ≡ w.state.manager.homes = ap (λ (g : Manager). g.homes) told.record_is in
    let held : u.state.manager.lock ≡ Some (record lock { transfers = redirected grant lock.transfers }) = ap (λ (g : Manager). g.lock) told.record_is ∙ ap (redirected_lock grant) h.held in
    let b = h.each m (inl refl) in
    let new_good : broken grant.dest.disk ≡ false = ap (λ (f : ℕ → Bool). f disk) (sym h.broken_are) ∙ b.other.unbroken in
    record {
      transfers = redirected grant lock.transfers;
      number = told.number;
      moves = told.moves;
      is = told.is;
      shown = told.shown ∙ (λ k. moves_shown origin.vid (h.broken_are k) false (transfers_of (held k)));
      holds = record {
        kept = entry_keeps (shape_of origin) w done.step u (sound_shapes origin.mode origin.disks) h.kept done.leads;
        numbers = same_numbers w.state u.state by.puts h.numbers;
        sound = sound_on (shape_of origin) w u h.sound homes_same (ap (λ (g : Manager). g.is_shut) told.record_is) by.units by.puts by.broken by.planned;
        held = held;
        own = h.own;
        unswapped = h.unswapped;
        homes_are = homes_same ∙ h.homes_are;
        broken_are = by.broken ∙ h.broken_are;
        good = λ t i. let found = redirect_gives grant lock.transfers t i in
            let x = found.0 in
            let index : t.index ≡ x.index = ap (λ (y : Transfer). y.index) found.2 in
            let dest : t.dest ≡ (redirect grant x).dest = ap (λ (y : Transfer). y.dest) found.2 in
            elim (dest_cases grant x) [
              | inl moved ↦ inl (ap (λ (l : Location). broken l.disk) (dest ∙ moved.1) ∙ new_good)
              | inr stays ↦ elim (h.good x found.1) [
                | inl good ↦ inl (ap (λ (l : Location). broken l.disk) (dest ∙ stays.1) ∙ good)
                | inr (n, inl here, same) ↦ absurd (stays.0 (sym same ∙ ap (λ (y : Move). y.index) here))
                | inr (n, inr there, same) ↦ inr (n, there, same ∙ sym index)
              ]
            ];
        each = λ n i. let c = h.each n (inr i) in
            let apart : c.t.index ≡ m.index → ⊥ = λ same. h.once.0 n i (c.index ∙ same) in
            let dest : (redirect grant c.t).dest ≡ c.t.dest = elim (dest_cases grant c.t) [ inl moved ↦ absurd (apart moved.0) | inr stays ↦ stays.1 ] in
            record {
              t = redirect grant c.t;
              there = gives_redirect grant lock.transfers c.t c.there;
              index = c.index;
              disk = c.disk ∙ ap (λ (l : Location). l.disk) (sym dest);
              is_broken = ap (λ (l : Location). broken l.disk) dest ∙ c.is_broken;
              other = other_still task w u lock m.index n.index h.held told.record_is by.broken (h.once.0 n i) (λ same. h.once.0 n i (sym (h.apart m n (inl refl) (inr i) same))) c.other;
            };
        apart = λ x y i k. h.apart x y (inr i) (inr k);
        once = h.once.1;
      };
    }

-- what the task knows under a lock with these transfers
abbrev work_at : Origin → Task → Lock → List Location → (ℕ → Bool) → Work
work_at origin task lock homes broken = record {
  mode = origin.mode;
  task = task.id;
  lock = lock.number;
  homes = homes_shown origin.vid 0 broken homes;
  journeys = journeys_to (homes_shown origin.vid 0 broken homes) (moves_shown origin.vid broken false lock.transfers);
}

retarget_asks : (targets : List Target) (work : Work) (m : Move) (left : List Move) → target_disk targets m.index == 0 ≡ false → target_disk targets m.index == m.disk ≡ false
    → retargeting targets work (m ∷ left) ≡ Next.Go (TaskStage.Retargeting work m left)
unfolding retargeting
retarget_asks targets work m left some other =
    ap (λ b. cond b (waits why.NoDisk) (cond (target_disk targets m.index == m.disk) (waits why.DestBroken) (Next.Go (TaskStage.Retargeting work m left)))) some
    ∙ ap (λ b. cond b (waits why.DestBroken) (Next.Go (TaskStage.Retargeting work m left))) other

asks_next : (origin : Origin) (task : Task) (lock : Lock) (homes : List Location) (broken : ℕ → Bool) (w : World) (m : Move) (left : List Move) → Retargeting origin task lock homes broken w (m ∷ left)
    → retargeting task.targets (work_at origin task lock homes broken) (m ∷ left) ≡ Next.Go (TaskStage.Retargeting (work_at origin task lock homes broken) m left)
asks_next origin task lock homes broken w m left h =
    let b = h.each m (inl refl) in
    let disk = target_disk task.targets m.index in
    let sound : broken disk ≡ false = ap (λ (f : ℕ → Bool). f disk) (sym h.broken_are) ∙ b.other.unbroken in
    retarget_asks task.targets (work_at origin task lock homes broken) m left (not_so (disk == 0) (λ e. b.other.some (same_number disk 0 e)))
    (not_so (disk == m.disk) (λ e. contrary (broken disk) (ap broken (same_number disk m.disk e ∙ b.disk) ∙ b.is_broken) sound))

retargeted_ends : (origin : Origin) (task : Task) (lock : Lock) (homes : List Location) (broken : ℕ → Bool) (w v : World) (left : List Move) (parts : List Part) (result : Result Stage TaskFault) → Retargeting origin task lock homes broken w left
    → IsCalm parts → PartsLead origin w parts v → IsRest (task_call origin.mode task) (retargeting task.targets (work_at origin task lock homes broken) left) parts result → EndsSwapped task parts result
retargeted_ends origin task lock homes broken w v [] parts result h calm leads rest =
    let good : IsGoodLock task w = record {
      lock = lock;
      held = h.held;
      own = h.own;
      unswapped = h.unswapped;
      good = λ t i. elim (h.good t i) [ inl sound ↦ ap (λ (f : ℕ → Bool). f t.dest.disk) h.broken_are ∙ sound | inr more ↦ absurd more.1 ];
    } in
    let s = scene_of origin task lock w in
    let next : retargeting task.targets (work_at origin task lock homes broken) [] ≡ creating (work_for s) (work_for s).journeys =
    nothing_retargeted task.targets (work_at origin task lock homes broken)
    ∙ (λ k. creating (work_at origin task lock (sym h.homes_are k) (sym h.broken_are k)) (work_at origin task lock (sym h.homes_are k) (sym h.broken_are k)).journeys) in
    from_lock s w v parts result (first_ground origin task w h.kept h.numbers h.sound good) (first_stands origin task w h.kept h.sound good) calm leads (subst (λ x. IsRest (task_call origin.mode task) x parts result) next rest)
retargeted_ends origin task lock homes broken w v (m ∷ left) [] result h calm leads rest =
    absurd (subst (λ x. IsRest (task_call origin.mode task) x [] result) (asks_next origin task lock homes broken w m left h) rest)
retargeted_ends origin task lock homes broken w v (m ∷ left) (Part.Beside trace ∷ parts) result h calm leads rest = absurd calm
retargeted_ends origin task lock homes broken w v (m ∷ left) (Part.Settling trace ∷ parts) result h calm leads rest = absurd calm
retargeted_ends origin task lock homes broken w v (m ∷ left) (Part.Asking event reply ∷ parts) result h calm leads rest =
    let call = task_call origin.mode task in
    let asked = subst (λ x. IsRest call x (Part.Asking event reply ∷ parts) result) (asks_next origin task lock homes broken w m left h) rest in
    let step = retarget_step origin task lock homes broken w leads.0 m left reply h (subst (λ x. IsDone origin w x reply leads.0) asked.0 leads.1) calm.0 in
    let work = work_at origin task lock homes broken in
    let next : after_retarget task work left (replies.Granted step.number step.moves) ≡ retargeting task.targets (work_at origin task (record lock { transfers = step.transfers }) homes broken) left =
    λ k. retargeting task.targets (record work { journeys = journeys_to (homes_shown origin.vid 0 broken homes) (step.shown k) }) left in
    let more = retargeted_ends origin task (record lock { transfers = step.transfers }) homes broken leads.0 v left parts result step.holds calm.1 leads.2
    (subst (λ x. IsRest call x parts result) next (subst (λ r. IsRest call (after_retarget task work left r) parts result) step.is asked.1)) in
    (more.0, inr more.1)

-- ---- the look

-- by the moves of a lock that isn't swapped
abbrev work_by : Mode → Task → List Home → LockView → Work
work_by mode task homes lock = record { mode = mode; task = task.id; lock = lock.lock; homes = homes; journeys = journeys_to homes lock.moves }

after_own : (mode : Mode) (task : Task) (view : View) (lock : LockView) → view.held ≡ Some lock → lock.task ≡ task.id → lock.swapped ≡ false
    → after_look mode task (replies.Seen view) ≡ retargeting task.targets (work_by mode task view.units lock) (filter (λ (move : Move). move.dest_broken) lock.moves)
after_own mode task view lock held own unswapped =
    let work = work_by mode task view.units lock in
    let freed : Work = record { mode = mode; task = task.id; lock = lock.lock; homes = view.units; journeys = journeys_from view.units lock.moves } in
    ap (after_view mode task view) held
    ∙ ap (λ b. cond b (cond lock.swapped (Next.Go (releasing freed (journeys_from view.units lock.moves))) (retargeting task.targets work (filter (λ (move : Move). move.dest_broken) lock.moves))) (waits (why.Locked lock.task)))
    (equal_test lock.task task.id own)
    ∙ ap (λ b. cond b (Next.Go (releasing freed (journeys_from view.units lock.moves))) (retargeting task.targets work (filter (λ (move : Move). move.dest_broken) lock.moves))) unswapped

first_retargeting : (origin : Origin) (task : Task) (w : World) → IsPossible origin w → IsSound (shape_of origin) w → (ready : IsLockedFor task w)
    → Retargeting origin task ready.lock w.state.manager.homes w.state.broken w (broken_moves origin.vid w.state.broken ready.lock.transfers)
first_retargeting origin task w possible sound ready =
    let broken = w.state.broken in
    let ts = ready.lock.transfers in
    record {
      kept = possible_kept origin w possible;
      numbers = begun_numbers origin w possible;
      sound = sound;
      held = ready.held;
      own = ready.own;
      unswapped = ready.unswapped;
      homes_are = refl;
      broken_are = refl;
      good = λ t i. elim (either (broken t.dest.disk)) [
        | inl is_broken ↦ inr (move_of origin.vid broken t, broken_there origin.vid broken ts t i is_broken, refl)
        | inr good ↦ inl good
      ];
      each = λ m i. let found = there_broken origin.vid broken ts m i in
          let index : m.index ≡ found.0.index = ap (λ (x : Move). x.index) found.2 in
          record {
            t = found.0;
            there = found.1;
            index = index;
            disk = ap (λ (x : Move). x.disk) found.2;
            is_broken = found.3;
            other = subst (HasOtherDisk task w) (sym index) (ready.others found.0 found.1 found.3);
          };
      apart = λ m n i k same. let a = there_broken origin.vid broken ts m i in
          let b = there_broken origin.vid broken ts n k in
          let first : m.index ≡ a.0.index = ap (λ (x : Move). x.index) a.2 in
          let second : n.index ≡ b.0.index = ap (λ (x : Move). x.index) b.2 in
          first ∙ ready.apart a.0 b.0 a.1 b.1 a.3 b.3 (ap (target_disk task.targets) (sym first) ∙ same ∙ ap (target_disk task.targets) second) ∙ sym second;
      once = broken_once origin.vid broken ts (subst (λ l. AreApart (transfers_of l)) ready.held (lock_ordered origin w possible));
    }

pub locked_ends : (origin : Origin) (task : Task) (parts : List Part) (result : Result Stage TaskFault) (w v : World) → IsPossible origin w → IsSound (shape_of origin) w → IsLockedFor task w
    → PartsLead origin w parts v → IsCalm parts → IsRest (task_call origin.mode task) (Next.Go TaskStage.Looking) parts result → EndsSwapped task parts result
locked_ends origin task [] result w v possible sound ready leads calm rest = absurd rest
locked_ends origin task (Part.Beside trace ∷ parts) result w v possible sound ready leads calm rest = absurd calm
locked_ends origin task (Part.Settling trace ∷ parts) result w v possible sound ready leads calm rest = absurd calm
locked_ends origin task (Part.Asking event reply ∷ parts) result w v possible sound ready leads calm rest =
    let seen = look_seen origin w leads.0 reply sound.unshut (subst (λ x. IsDone origin w x reply leads.0) rest.0 leads.1) in
    let lock = ready.lock in
    let homes = w.state.manager.homes in
    let broken = w.state.broken in
    let view = seen.view in
    let moves = moves_shown origin.vid broken false lock.transfers in
    let shown : LockView = record { task = lock.task; lock = lock.number; moves = moves; swapped = false } in
    let held : view.held ≡ Some shown =
    ap (λ (x : View). x.held) seen.shown ∙ ap (lock_shown origin.vid broken) ready.held
    ∙ ap (λ b. Some (record { task = lock.task; lock = lock.number; moves = moves_shown origin.vid broken b lock.transfers; swapped = b })) ready.unswapped in
    let units : view.units ≡ homes_shown origin.vid 0 broken homes = ap (λ (x : View). x.units) seen.shown in
    let left = broken_moves origin.vid broken lock.transfers in
    let next : after_look origin.mode task (replies.Seen view) ≡ retargeting task.targets (work_at origin task lock homes broken) left =
    after_own origin.mode task view shown held ready.own refl ∙ ap (λ us. retargeting task.targets (work_by origin.mode task us shown) left) units in
    let more = retargeted_ends origin task lock homes broken w v left parts result (first_retargeting origin task w possible sound ready) calm.1 (subst (λ x. PartsLead origin x parts v) seen.same leads.2)
    (subst (λ x. IsRest (task_call origin.mode task) x parts result) next (subst (λ r. IsRest (task_call origin.mode task) (after_look origin.mode task r) parts result) seen.is rest.1)) in
    (more.0, inr more.1)

pub locked_tasks_get_swapped : LockedTasksGetSwapped
locked_tasks_get_swapped origin task parts (Err faults.HistoryFull) w v possible sound ready call leads calm = inr tt
locked_tasks_get_swapped origin task parts (Err faults.Memory) w v possible sound ready call leads calm = inr tt
locked_tasks_get_swapped origin task parts (Err other) w v possible sound ready call leads calm = inl (locked_ends origin task parts (Err other) w v possible sound ready leads calm call).1
locked_tasks_get_swapped origin task parts (Ok stage) w v possible sound ready call leads calm = inl (locked_ends origin task parts (Ok stage) w v possible sound ready leads calm call).1
