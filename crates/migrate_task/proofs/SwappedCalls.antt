-- In a calm stretch one call takes a task to its end whose units are swapped.
use Rattle.std.proofs.Common.{◌≡◌, ℕ, ◌<◌, ◌⊎◌, inl, inr, Bool, true, false, cond, not, ◌&&◌, ◌||◌, ◌==◌, List, [], ◌∷◌, filter, Option, Some, None, Result, Ok, Err, refl, sym, ◌∙◌, ap, subst}
use Rattle.std.specs.Prelude.{is_none}
use Rattle.unit_id.specs.Lists.{IsIn, any, is_in, first_that_holds}
use Rattle.unit_id.specs.UnitName.{Name}
use Rattle.unit_id.specs.Place.{Location, Place, at_home}
use Rattle.unit_id.specs.Request.{Request, Answer}
use Rattle.unit_id.specs.Messages.{place_at, answer_of}
use Rattle.unit_id.specs.declared.homes.Home.{Home}
use Rattle.unit_id.specs.declared.moves.Move.{Move}
use Rattle.unit_id.specs.declared.task.Task.{Task}
use Rattle.unit_id.specs.declared.request.Request.TheVariants as requests
use Rattle.unit_id.specs.declared.answer.Answer.{Answer as ToldAnswer}
use Rattle.unit_id.specs.declared.answer.Answer.TheVariants as answers
use Rattle.unit_id.proofs.Bools.{contrary, or_left, or_right, and_both, equal_test}
use Rattle.unit_id.proofs.Membership.{gives_any}
use Rattle.code_mode.specs.declared.mode.Mode.{Mode}
use Rattle.code_mode.specs.VolumeShape.{VolumeShape}
use Rattle.blob_node.specs.Units.{Units}
use Rattle.blob_node.specs.UnitAnswer.{Effect, UnitView, Answers, view_at, units_after}
use Rattle.volume_entry.specs.Manager.{Transfer, Lock, Manager, home_at, transfers_of, is_swapped, is_old_there}
use Rattle.volume_entry.specs.ManagerStep.{is_of_other, has_unheard, unlock_refusal, task_of, Unlocks}
use Rattle.volume_entry.specs.View.{moves_shown}
use Rattle.volume_entry.specs.ShownView.{lock_shown, view_shown}
use Rattle.volume_entry.specs.declared.view.LockView.{LockView}
use Rattle.volume_entry.specs.declared.view.View.{View}
use Rattle.volume_entry.specs.Reply.{Reply}
use Rattle.volume_world.specs.Event.{Event}
use Rattle.volume_world.specs.State.{State}
use Rattle.volume_world.specs.Move.{Looks}
use Rattle.volume_world.specs.Run.{World, Step, Leads, Does, IsRefusedByLog}
use Rattle.volume_world.specs.Invariant.{Kept}
use Rattle.volume_world.specs.Told.{Tells}
use Rattle.volume_world.specs.Way.{Origin, shape_of}
use Rattle.volume_world.specs.Course.{Part, PartsLead, IsDone}
use Rattle.volume_world.specs.Call.{Next, IsRest}
use Rattle.volume_world.specs.Trace.{reply_kept}
use Rattle.volume_world.specs.declared.event.Event.TheVariants as events
use Rattle.volume_world.specs.declared.reply.Reply.{Reply as CodeReply}
use Rattle.volume_world.specs.declared.reply.Reply.TheVariants as replies
use Rattle.volume_world.proofs.PossibleStates.{possible_kept}
use Rattle.migrate_task.specs.declared.stage.Stage.{Stage}
use Rattle.migrate_task.specs.declared.stage.Stage.TheVariants as stages
use Rattle.migrate_task.specs.declared.stage.TaskFault.{TaskFault}
use Rattle.migrate_task.specs.declared.stage.TaskFault.TheVariants as faults
use Rattle.migrate_task.specs.declared.stage.Why.TheVariants as why
use Rattle.migrate_task.specs.declared.work.Journey.{Journey}
use Rattle.migrate_task.specs.Work.{Work, home_of, journeys_to, journeys_from, with_broken}
use Rattle.migrate_task.specs.AdvanceCall.{TaskStage, task_call, waits, retargeting, releasing, after_view, after_look, after_release, after_unlock, units_in}
use Rattle.migrate_task.proofs.HeardSends.{Sent, IsTold, is_told}
use Rattle.migrate_task.specs.Completion.{IsUntroubled, IsCalm, IsSwappedFor, SwappedTasksGetDone}

-- ---- what holds while old units are released

-- the journey is that of the transfer's old unit
pub record IsJourneyOf (vid : ℕ) (t : Transfer) (j : Journey) : Type 0 where
  pub unit : j.old.unit ≡ record { vid = vid; index = t.index; epoch = t.old.epoch }
  pub disk : j.old.disk ≡ t.old.disk

-- the old unit was heard to be released, is on a broken disk, or is still to be released
abbrev pub IsSeenTo : ℕ → (ℕ → Bool) → List ℕ → List Journey → Transfer → Type 0
IsSeenTo vid broken released left t = (is_in t.index released ≡ true) ⊎ ((broken t.old.disk ≡ true) ⊎ ((j : Journey) × IsIn j left × IsJourneyOf vid t j))

-- what doesn't change: the lock, homes, and the disks that are broken
pub record IsUnder (origin : Origin) (task : Task) (lock : Lock) (homes : List Location) (broken : ℕ → Bool) : Type 0 where
  pub own : lock.task ≡ task.id
  pub swapped : lock.is_swapped ≡ true
  pub below : (t : Transfer) → IsIn t lock.transfers → t.index < (shape_of origin).total
  pub older : (t : Transfer) → IsIn t lock.transfers → t.old.epoch < (home_at homes t.index).epoch

pub record Standing (origin : Origin) (lock : Lock) (homes : List Location) (broken : ℕ → Bool) (w : World) (left : List Journey) : Type 0 where
  pub held : w.state.manager.lock ≡ Some lock
  pub homes_are : w.state.manager.homes ≡ homes
  pub unshut : w.state.manager.is_shut ≡ false
  pub unplanned : w.planned ≡ []
  pub broken_are : w.state.broken ≡ broken
  pub olds : (t : Transfer) → IsIn t lock.transfers → broken t.old.disk ≡ false → w.state.units.is_made (at_home t.index t.old) ≡ true
  pub seen_to : (t : Transfer) → IsIn t lock.transfers → IsSeenTo origin.vid broken w.state.manager.heard.released left t
  pub each : (j : Journey) → IsIn j left → (t : Transfer) × IsIn t lock.transfers × IsJourneyOf origin.vid t j

abbrev IsMadeAt : Units → Place → Type 0
IsMadeAt units p = units.is_made p ≡ true

-- ---- a release

-- what an answer to a release tells
abbrev Outcome : UnitView → Answer → Effect → Type 0
Outcome view Answer.Broken Effect.Nothing = view.is_broken ≡ true
Outcome view (Answer.Stale have) Effect.Nothing = Unit {0}
Outcome view Answer.Done Effect.Wrote = Unit {0}
Outcome view (Answer.Full end) effect = Unit {0}
Outcome view Answer.Fault effect = Unit {0}
Outcome view answer effect = ⊥

outcome : (view : UnitView) (p : Place) (a : Answer) (e : Effect) → (view.is_broken ≡ false → view.was_made view.epoch ≡ true) → Answers view (Request.Release p) a e → Outcome view a e
outcome view p Answer.Broken Effect.Nothing made h = h
outcome view p (Answer.Stale have) Effect.Nothing made h = tt
outcome view p Answer.NoUnit Effect.Nothing made h = absurd (contrary (view.was_made view.epoch) (made h.0.unbroken) h.1)
outcome view p Answer.Done Effect.Wrote made h = tt
outcome view p (Answer.Full end) e made h = tt
outcome view p Answer.Fault e made h = tt
outcome view p a e made h = absurd h.1.1

abbrev IsReleasedReply : ToldAnswer → Type 0
IsReleasedReply answers.Done = Unit {0}
IsReleasedReply (answers.Stale have) = Unit {0}
IsReleasedReply answers.Broken = Unit {0}
IsReleasedReply answer = ⊥

-- ---- what a release leaves

record Leaves (origin : Origin) (lock : Lock) (broken : ℕ → Bool) (w u : World) (j : Journey) : Type 0 where
  lock_same : u.state.manager.lock ≡ w.state.manager.lock
  homes_same : u.state.manager.homes ≡ w.state.manager.homes
  shut_same : u.state.manager.is_shut ≡ w.state.manager.is_shut
  planned : u.planned ≡ []
  broken_same : u.state.broken ≡ w.state.broken
  opens : (p : Place) → IsMadeAt w.state.units p → IsMadeAt u.state.units p
  grows : (n : ℕ) → is_in n w.state.manager.heard.released ≡ true → is_in n u.state.manager.heard.released ≡ true
  pays : (t : Transfer) → IsIn t lock.transfers → IsJourneyOf origin.vid t j → (is_in t.index u.state.manager.heard.released ≡ true) ⊎ (broken t.old.disk ≡ true)

seen_later : (origin : Origin) (lock : Lock) (broken : ℕ → Bool) (w u : World) (j : Journey) (left : List Journey) (t : Transfer) → IsIn t lock.transfers → Leaves origin lock broken w u j
    → IsSeenTo origin.vid broken w.state.manager.heard.released (j ∷ left) t → IsSeenTo origin.vid broken u.state.manager.heard.released left t
seen_later origin lock broken w u j left t i l (inl heard) = inl (l.grows t.index heard)
seen_later origin lock broken w u j left t i l (inr (inl is_broken)) = inr (inl is_broken)
seen_later origin lock broken w u j left t i l (inr (inr (k, inr there, of))) = inr (inr (k, there, of))
seen_later origin lock broken w u j left t i l (inr (inr (k, inl here, of))) = elim (l.pays t i (subst (IsJourneyOf origin.vid t) here of)) [ inl heard ↦ inl heard | inr is_broken ↦ inr (inl is_broken) ]

stands_on : (origin : Origin) (lock : Lock) (homes : List Location) (broken : ℕ → Bool) (w u : World) (j : Journey) (left : List Journey) → Standing origin lock homes broken w (j ∷ left) → Leaves origin lock broken w u j
    → Standing origin lock homes broken u left
stands_on origin lock homes broken w u j left h l = record {
  held = l.lock_same ∙ h.held;
  homes_are = l.homes_same ∙ h.homes_are;
  unshut = l.shut_same ∙ h.unshut;
  unplanned = l.planned;
  broken_are = l.broken_same ∙ h.broken_are;
  olds = λ t i unbroken. l.opens (at_home t.index t.old) (h.olds t i unbroken);
  seen_to = λ t i. seen_later origin lock broken w u j left t i l (h.seen_to t i);
  each = λ k i. h.each k (inr i);
}

old_there : (ts : List Transfer) (t : Transfer) → IsIn t ts → is_old_there ts (at_home t.index t.old) ≡ true
old_there ts t i = gives_any (λ x. ((x.index == t.index) && (x.old.epoch == t.old.epoch)) && (x.old.disk == t.old.disk)) ts t i
    (and_both ((t.index == t.index) && (t.old.epoch == t.old.epoch)) (t.old.disk == t.old.disk)
    (and_both (t.index == t.index) (t.old.epoch == t.old.epoch) (equal_test t.index t.index refl) (equal_test t.old.epoch t.old.epoch refl)) (equal_test t.old.disk t.old.disk refl))

same_units : (u v : Units) → v ≡ u → (p : Place) → IsMadeAt u p → IsMadeAt v p
same_units u v e p h = subst (λ x. IsMadeAt x p) (sym e) h

released_units : (u v : Units) (q : Place) → v ≡ units_after q (Request.Release q) Effect.Wrote u → (p : Place) → IsMadeAt u p → IsMadeAt v p
released_units u v q e p h =
    subst (λ x. IsMadeAt x p) (sym e) h

-- a release that was heard: the index is among those released
released_more : (total : ℕ) (lock : Lock) (m n : Manager) (t : Transfer) → IsIn t lock.transfers → m.lock ≡ Some lock
    → n.heard.released ≡ cond (is_old_there (transfers_of m.lock) (at_home t.index t.old)) (t.index ∷ m.heard.released) m.heard.released → n.heard.released ≡ t.index ∷ m.heard.released
released_more total lock m n t i held e =
    let there : is_old_there (transfers_of m.lock) (at_home t.index t.old) ≡ true = ap (λ l. is_old_there (transfers_of l) (at_home t.index t.old)) held ∙ old_there lock.transfers t i in
    e ∙ ap (λ b. cond b (t.index ∷ m.heard.released) m.heard.released) there

same_index : (vid : ℕ) (t x : Transfer) (j : Journey) → IsJourneyOf vid t j → IsJourneyOf vid x j → t.index ≡ x.index
same_index vid t x j a b = ap (λ (n : Name). n.index) (sym a.unit ∙ b.unit)

heard_leaves : (origin : Origin) (lock : Lock) (broken : ℕ → Bool) (w u : World) (j : Journey) (x : Transfer) (e : Effect) → IsIn x lock.transfers → IsJourneyOf origin.vid x j → w.state.manager.lock ≡ Some lock
    → u.state.manager ≡ record (w.state.manager) {
      heard = record (w.state.manager.heard) {
        released = cond (is_old_there (transfers_of w.state.manager.lock) (at_home x.index x.old)) (x.index ∷ w.state.manager.heard.released) w.state.manager.heard.released;
      };
    }
    → u.planned ≡ [] → u.state.broken ≡ w.state.broken → ((p : Place) → IsMadeAt w.state.units p → IsMadeAt u.state.units p) → Leaves origin lock broken w u j
heard_leaves origin lock broken w u j x e i of held manager planned broken_same opens =
    let more = released_more (shape_of origin).total lock w.state.manager u.state.manager x i held (ap (λ (m : Manager). m.heard.released) manager) in
    record {
      lock_same = ap (λ (m : Manager). m.lock) manager;
      homes_same = ap (λ (m : Manager). m.homes) manager;
      shut_same = ap (λ (m : Manager). m.is_shut) manager;
      planned = planned;
      broken_same = broken_same;
      opens = opens;
      grows = λ n there. ap (is_in n) more ∙ or_right (n == x.index) (is_in n w.state.manager.heard.released) there;
      pays = λ t there its. inl (ap (is_in t.index) more ∙ or_left (t.index == x.index) (is_in t.index w.state.manager.heard.released) (equal_test t.index x.index (same_index origin.vid t x j its of)));
    }

broken_leaves : (origin : Origin) (lock : Lock) (broken : ℕ → Bool) (w u : World) (j : Journey) (x : Transfer) → IsJourneyOf origin.vid x j → broken x.old.disk ≡ true → u.state.manager ≡ w.state.manager → u.planned ≡ []
    → u.state.broken ≡ w.state.broken → u.state.units ≡ w.state.units → Leaves origin lock broken w u j
broken_leaves origin lock broken w u j x of is_broken manager planned broken_same units = record {
  lock_same = ap (λ (m : Manager). m.lock) manager;
  homes_same = ap (λ (m : Manager). m.homes) manager;
  shut_same = ap (λ (m : Manager). m.is_shut) manager;
  planned = planned;
  broken_same = broken_same;
  opens = same_units w.state.units u.state.units units;
  grows = λ n there. ap (λ (m : Manager). is_in n m.heard.released) manager ∙ there;
  pays = λ t there its. inr (ap broken (sym its.disk ∙ of.disk) ∙ is_broken);
}

-- what is next once a release was replied to
record Goes (origin : Origin) (lock : Lock) (broken : ℕ → Bool) (w u : World) (j : Journey) (reply : CodeReply) : Type 0 where
  answer : ToldAnswer
  is : reply ≡ replies.Heard answer
  released : IsReleasedReply answer
  leaves : Leaves origin lock broken w u j

by_answer : (origin : Origin) (lock : Lock) (broken : ℕ → Bool) (w u : World) (j : Journey) (x : Transfer) (answer : ToldAnswer) (e : Effect) → IsIn x lock.transfers → IsJourneyOf origin.vid x j → w.state.manager.lock ≡ Some lock
    → w.state.broken ≡ broken → IsUntroubled (replies.Heard answer) → Outcome (view_at w.state.broken w.state.units (at_home x.index x.old)) (answer_of answer) e → Sent w u (Request.Release (at_home x.index x.old)) (answer_of answer) e
    → IsReleasedReply answer × Leaves origin lock broken w u j
by_answer origin lock broken w u j x answers.Done Effect.Wrote i of held same calm out s =
    (tt, heard_leaves origin lock broken w u j x Effect.Wrote i of held s.manager s.planned s.broken (released_units w.state.units u.state.units (at_home x.index x.old) s.units))
by_answer origin lock broken w u j x (answers.Stale have) Effect.Nothing i of held same calm out s =
    (tt, heard_leaves origin lock broken w u j x Effect.Nothing i of held s.manager s.planned s.broken (same_units w.state.units u.state.units s.units))
by_answer origin lock broken w u j x answers.Broken Effect.Nothing i of held same calm out s =
    (tt, broken_leaves origin lock broken w u j x of (ap (λ (b : ℕ → Bool). b x.old.disk) (sym same) ∙ out) s.manager s.planned s.broken s.units)
by_answer origin lock broken w u j x answers.Fault e i of held same calm out s = absurd calm
by_answer origin lock broken w u j x (answers.Full end) e i of held same calm out s = absurd calm
by_answer origin lock broken w u j x answer e i of held same calm out s = absurd out

release_goes : (origin : Origin) (task : Task) (lock : Lock) (homes : List Location) (broken : ℕ → Bool) (w u : World) (j : Journey) (left : List Journey) (reply : CodeReply) → IsUnder origin task lock homes broken
    → Standing origin lock homes broken w (j ∷ left) → IsDone origin w (events.Send (requests.Release j.old.unit j.old.disk)) reply u → IsUntroubled reply → Goes origin lock broken w u j reply
release_goes origin task lock homes broken w u j left reply under h done calm =
    let found = h.each j (inl refl) in
    let x = found.0 in
    let p : Place = at_home x.index x.old in
    let at : place_at j.old.unit j.old.disk ≡ p = ap (λ n. place_at n j.old.disk) found.2.unit ∙ ap (λ d. place_at (record { vid = origin.vid; index = x.index; epoch = x.old.epoch }) d) found.2.disk in
    let older = subst (λ (hs : List Location). x.old.epoch < (home_at hs x.index).epoch) (sym h.homes_are) (under.older x found.1) in
    let heard : IsTold origin w u (requests.Release j.old.unit j.old.disk) (Request.Release p) reply =
    is_told origin w u (requests.Release j.old.unit j.old.disk) (Request.Release p) reply (ap (λ q. Request.Release q) at) h.unshut (under.below x found.1, older) h.unplanned done in
    let out = outcome (view_at w.state.broken w.state.units p) p (answer_of heard.answer) heard.effect
    (λ unbroken. (h.olds x found.1 (ap (λ (b : ℕ → Bool). b x.old.disk) (sym h.broken_are) ∙ unbroken))) heard.leaves.answers in
    let both = by_answer origin lock broken w u j x heard.answer heard.effect found.1 found.2 h.held h.broken_are (subst IsUntroubled heard.is calm) out heard.leaves in
    record { answer = heard.answer; is = heard.is; released = both.0; leaves = both.1 }

-- ---- the unlock

pub any_none : {A : Type 0} (test : A → Bool) (xs : List A) → ((x : A) → IsIn x xs → test x ≡ false) → any test xs ≡ false
any_none test [] none = refl
any_none test (x ∷ xs) none = ap (λ b. b || any test xs) (none x (inl refl)) ∙ any_none test xs (λ y i. none y (inr i))

all_heard : (vid : ℕ) (broken : ℕ → Bool) (released : List ℕ) (t : Transfer) → IsSeenTo vid broken released [] t → not (is_in t.index released) && not (broken t.old.disk) ≡ false
all_heard vid broken released t (inl heard) = ap (λ b. not b && not (broken t.old.disk)) heard
all_heard vid broken released t (inr (inl is_broken)) = ap (λ b. not (is_in t.index released) && not b) is_broken ∙ and_none (not (is_in t.index released))
  where
    and_none : (a : Bool) → a && false ≡ false
    and_none true = refl
    and_none false = refl
all_heard vid broken released t (inr (inr more)) = absurd more.1

four_none : {A : Type 0} (a b c d : Bool) (p q r s : A) → a ≡ false → b ≡ false → c ≡ false → d ≡ false → first_that_holds ((a, p) ∷ (b, q) ∷ (c, r) ∷ (d, s) ∷ []) ≡ None
four_none a b c d p q r s ea eb ec ed = rw (ea, eb, ec, ed) refl

not_refused : (origin : Origin) (task : Task) (lock : Lock) (homes : List Location) (broken : ℕ → Bool) (w : World) → IsUnder origin task lock homes broken → Standing origin lock homes broken w []
    → unlock_refusal w.state.broken task.id w.state.manager ≡ None
not_refused origin task lock homes broken w under h =
    let m = w.state.manager in
    four_none (is_none m.lock) (is_of_other m.lock task.id) (not (is_swapped m.lock)) (has_unheard w.state.broken (transfers_of m.lock) m.heard.released) Reply.NotLocked (Reply.OtherTask (task_of m.lock)) Reply.NotSwapped Reply.NotReleased
    (ap is_none h.held)
    (ap (λ l. is_of_other l task.id) h.held ∙ ap not (equal_test lock.task task.id under.own))
    (ap (λ l. not (is_swapped l)) h.held ∙ ap not under.swapped)
    (ap (λ l. has_unheard w.state.broken (transfers_of l) m.heard.released) h.held ∙ ap (λ b. has_unheard b lock.transfers m.heard.released) h.broken_are
    ∙ any_none (λ t. not (is_in t.index m.heard.released) && not (broken t.old.disk)) lock.transfers (λ t i. all_heard origin.vid broken m.heard.released t (h.seen_to t i)))

abbrev IsDoneOrFault : Reply → Type 0
IsDoneOrFault Reply.Done = Unit {0}
IsDoneOrFault Reply.Fault = Unit {0}
IsDoneOrFault reply = ⊥

pub some_none : {A B : Type 0} (x : Option A) (y : A) → x ≡ None → x ≡ Some y → B
some_none x y e f = absurd (let both : None ≡ Some y = sym e ∙ f in cc)

unlocks_done : (broken : ℕ → Bool) (id : ℕ) (m n : Manager) (reply : Reply) → unlock_refusal broken id m ≡ None → Unlocks broken id m reply n → IsDoneOrFault reply
unlocks_done broken id m n Reply.Done none h = tt
unlocks_done broken id m n Reply.Fault none h = tt
unlocks_done broken id m n reply none h = some_none (unlock_refusal broken id m) reply none h.0

unlock_leads : (shape : VolumeShape) (w u : World) (id : ℕ) (step : Step) → step.event ≡ Event.Unlock id → w.state.manager.is_shut ≡ false → unlock_refusal w.state.broken id w.state.manager ≡ None → Leads shape w step u → IsDoneOrFault step.reply
unlock_leads shape w u id step e unshut none (inl h) =
    let does = subst (λ event. Does shape w event step.reply u) e h in
    unlocks_done w.state.broken id w.state.manager does.0.0.manager step.reply none does.0.1.1.0
unlock_leads shape w u id step e unshut none (inr h) =
    let refused = subst (λ event. IsRefusedByLog w event step.reply u) e h in absurd (contrary w.state.manager.is_shut refused.0 unshut)

told_done : (vid : ℕ) (s : State) (reply : CodeReply) (told : Reply) → IsUntroubled reply → IsDoneOrFault told → Tells vid s (reply_kept reply) told → reply ≡ replies.Done
told_done vid s replies.Done told calm done tells = refl
told_done vid s replies.Fault told calm done tells = absurd calm
told_done vid s reply Reply.Done calm done tells = absurd tells
told_done vid s reply Reply.Fault calm done tells = absurd tells
told_done vid s reply told calm done tells = absurd done

unlock_done : (origin : Origin) (task : Task) (lock : Lock) (homes : List Location) (broken : ℕ → Bool) (w u : World) (reply : CodeReply) → IsUnder origin task lock homes broken → Standing origin lock homes broken w []
    → IsDone origin w (events.Unlock task.id) reply u → IsUntroubled reply → reply ≡ replies.Done
unlock_done origin task lock homes broken w u reply under h done calm =
    told_done origin.vid w.state reply done.step.reply calm
    (unlock_leads (shape_of origin) w u task.id done.step done.told.event h.unshut (not_refused origin task lock homes broken w under h) done.leads) done.told.reply

-- ---- from the swap to the end

abbrev pub Ends : Result Stage TaskFault → Type 0
Ends result = (units : List Home) × (result ≡ Ok (stages.Done units))

over_ends : (mode : Mode) (task : Task) (units : List Home) (parts : List Part) (result : Result Stage TaskFault) → IsRest (task_call mode task) (Next.Over (Ok (stages.Done units))) parts result → Ends result
over_ends mode task units [] result h = (units, h)
over_ends mode task units (Part.Beside trace ∷ parts) result h = over_ends mode task units parts result h
over_ends mode task units (Part.Settling trace ∷ parts) result h = over_ends mode task units parts result h
over_ends mode task units (Part.Asking event reply ∷ parts) result h = absurd h

-- behind a release that was heard, more of them or the unlock are next
next_release : (work : Work) (disk : ℕ) (left : List Journey) (answer : ToldAnswer) → IsReleasedReply answer → (more : Work) × (after_release work disk left (replies.Heard answer) ≡ Next.Go (releasing more left))
next_release work disk left answers.Done h = (work, refl)
next_release work disk left (answers.Stale have) h = (work, refl)
next_release work disk left answers.Broken h = (with_broken disk work, refl)
next_release work disk left answer h = absurd h

pub finishes : (origin : Origin) (task : Task) (lock : Lock) (homes : List Location) (broken : ℕ → Bool) (work : Work) (left : List Journey) (parts : List Part) (w v : World) (result : Result Stage TaskFault) → IsUnder origin task lock homes broken
    → Standing origin lock homes broken w left → IsCalm parts → PartsLead origin w parts v → IsRest (task_call origin.mode task) (Next.Go (releasing work left)) parts result → Ends result
finishes origin task lock homes broken work left [] w v result under h calm leads rest = absurd rest
finishes origin task lock homes broken work left (Part.Beside trace ∷ parts) w v result under h calm leads rest = absurd calm
finishes origin task lock homes broken work left (Part.Settling trace ∷ parts) w v result under h calm leads rest = absurd calm
finishes origin task lock homes broken work [] (Part.Asking event reply ∷ parts) w v result under h calm leads rest =
    let done = unlock_done origin task lock homes broken w leads.0 reply under h (subst (λ x. IsDone origin w x reply leads.0) rest.0 leads.1) calm.0 in
    over_ends origin.mode task (units_in work.journeys) parts result (subst (λ r. IsRest (task_call origin.mode task) (after_unlock work r) parts result) done rest.1)
finishes origin task lock homes broken work (j ∷ left) (Part.Asking event reply ∷ parts) w v result under h calm leads rest =
    let goes = release_goes origin task lock homes broken w leads.0 j left reply under h (subst (λ x. IsDone origin w x reply leads.0) rest.0 leads.1) calm.0 in
    let next = next_release work j.old.disk left goes.answer goes.released in
    finishes origin task lock homes broken next.0 left parts leads.0 v result under (stands_on origin lock homes broken w leads.0 j left h goes.leaves) calm.1 leads.2
    (subst (λ x. IsRest (task_call origin.mode task) x parts result) next.1 (subst (λ r. IsRest (task_call origin.mode task) (after_release work j.old.disk left r) parts result) goes.is rest.1))

-- ---- the look

-- journeys of a swapped lock, and its transfers
from_shown : (vid : ℕ) (broken : ℕ → Bool) (homes : List Home) (ts : List Transfer) (j : Journey) → IsIn j (journeys_from homes (moves_shown vid broken true ts)) → (t : Transfer) × IsIn t ts × IsJourneyOf vid t j
from_shown vid broken homes [] j i = absurd i
from_shown vid broken homes (t ∷ ts) j (inl here) = (t, inl refl, record { unit = ap (λ (k : Journey). k.old.unit) here; disk = ap (λ (k : Journey). k.old.disk) here })
from_shown vid broken homes (t ∷ ts) j (inr there) = let found = from_shown vid broken homes ts j there in (found.0, inr found.1, found.2)

to_shown : (vid : ℕ) (broken : ℕ → Bool) (homes : List Home) (ts : List Transfer) (t : Transfer) → IsIn t ts → (j : Journey) × IsIn j (journeys_from homes (moves_shown vid broken true ts)) × IsJourneyOf vid t j
to_shown vid broken homes [] t i = absurd i
to_shown vid broken homes (x ∷ ts) t (inl here) = (
  record {
    index = x.index;
    old = record { unit = record { vid = vid; index = x.index; epoch = x.old.epoch }; disk = x.old.disk; broken = false };
    dest = home_of homes x.index;
  },
  inl refl,
  record { unit = ap (λ (y : Transfer). record { vid = vid; index = y.index; epoch = y.old.epoch }) (sym here); disk = ap (λ (y : Transfer). y.old.disk) (sym here) },
)
to_shown vid broken homes (x ∷ ts) t (inr there) = let found = to_shown vid broken homes ts t there in (found.0, inr found.1, found.2)

-- what a look shows of such a volume, and that it changes nothing
pub record IsSeen (origin : Origin) (w u : World) (reply : CodeReply) : Type 0 where
  pub view : View
  pub is : reply ≡ replies.Seen view
  pub shown : view ≡ view_shown origin.vid w.state.broken w.state.time w.state.manager
  pub same : u ≡ w

abbrev IsSight : Reply → Type 0
IsSight (Reply.Seen sight) = Unit {0}
IsSight reply = ⊥

looks : (s t : State) (reply : Reply) → Looks s reply t → IsSight reply × (t ≡ s)
looks s t (Reply.Seen sight) h = (tt, h.1)
looks s t reply h = absurd h

told_seen : (vid : ℕ) (s : State) (reply : CodeReply) (told : Reply) → IsSight told → Tells vid s (reply_kept reply) told → (view : View) × (reply ≡ replies.Seen view) × (view ≡ view_shown vid s.broken s.time s.manager)
told_seen vid s (replies.Seen view) (Reply.Seen sight) is tells = (view, refl, tells)
told_seen vid s reply (Reply.Seen sight) is tells = absurd tells
told_seen vid s reply told is tells = absurd is

look_leads : (shape : VolumeShape) (w u : World) (step : Step) → step.event ≡ Event.Look → w.state.manager.is_shut ≡ false → Leads shape w step u → IsSight step.reply × (u ≡ w)
look_leads shape w u step e unshut (inl h) =
    let does = subst (λ event. Does shape w event step.reply u) e h in
    let seen = looks w.state does.0.0 step.reply does.0.1.1 in
    (seen.0, does.1 ∙ ap (λ s. record w { state = s }) (does.0.2 ∙ seen.1))
look_leads shape w u step e unshut (inr h) = let refused = subst (λ event. IsRefusedByLog w event step.reply u) e h in absurd (contrary w.state.manager.is_shut refused.0 unshut)

pub look_seen : (origin : Origin) (w u : World) (reply : CodeReply) → w.state.manager.is_shut ≡ false → IsDone origin w events.Look reply u → IsSeen origin w u reply
look_seen origin w u reply unshut done =
    let sight = look_leads (shape_of origin) w u done.step done.told.event unshut done.leads in
    let seen = told_seen origin.vid w.state reply done.step.reply sight.0 done.told.reply in
    record { view = seen.0; is = seen.1; shown = seen.2; same = sight.1 }

-- the first stage behind the look, of a lock that is shown so
after_swapped : (mode : Mode) (task : Task) (view : View) (lock : LockView) → view.held ≡ Some lock → lock.task ≡ task.id → lock.swapped ≡ true
    → (work : Work) × (after_look mode task (replies.Seen view) ≡ Next.Go (releasing work (journeys_from view.units lock.moves)))
after_swapped mode task view lock held own swapped =
    let work : Work = record { mode = mode; task = task.id; lock = lock.lock; homes = view.units; journeys = journeys_from view.units lock.moves } in (
      work,
      ap (after_view mode task view) held ∙ ap (λ b. cond b (cond lock.swapped (Next.Go (releasing work (journeys_from view.units lock.moves)))
          (retargeting task.targets (record { mode = mode; task = task.id; lock = lock.lock; homes = view.units; journeys = journeys_to view.units lock.moves }) (filter (λ (move : Move). move.dest_broken) lock.moves)))
          (waits (why.Locked lock.task))) (equal_test lock.task task.id own)
          ∙ ap (λ b. cond b (Next.Go (releasing work (journeys_from view.units lock.moves)))
          (retargeting task.targets (record { mode = mode; task = task.id; lock = lock.lock; homes = view.units; journeys = journeys_to view.units lock.moves }) (filter (λ (move : Move). move.dest_broken) lock.moves))) swapped,
    )

first_standing : (origin : Origin) (task : Task) (w : World) (homes : List Home) → Kept (shape_of origin) w.state → (ready : IsSwappedFor task w)
    → IsUnder origin task ready.lock w.state.manager.homes w.state.broken × Standing origin ready.lock w.state.manager.homes w.state.broken w (journeys_from homes (moves_shown origin.vid w.state.broken true ready.lock.transfers))
first_standing origin task w homes kept ready =
    let in_lock : (t : Transfer) → IsIn t ready.lock.transfers → IsIn t (transfers_of w.state.manager.lock) = λ t i. subst (λ l. IsIn t (transfers_of l)) (sym ready.held) i in
    let swapped : is_swapped w.state.manager.lock ≡ true = ap is_swapped ready.held ∙ ready.swapped in (
      record {
        own = ready.own;
        swapped = ready.swapped;
        below = λ t i. kept.form.lock.transfer_index t (in_lock t i);
        older = λ t i. kept.support.locks.old_units_below_current swapped t (in_lock t i);
      },
      record {
        held = ready.held;
        homes_are = refl;
        unshut = ready.unshut;
        unplanned = ready.unplanned;
        broken_are = refl;
        olds = ready.olds;
        seen_to = λ t i. inr (inr (to_shown origin.vid w.state.broken homes ready.lock.transfers t i));
        each = λ j i. from_shown origin.vid w.state.broken homes ready.lock.transfers j i;
      },
    )

look_finishes : (origin : Origin) (task : Task) (parts : List Part) (reply : CodeReply) (result : Result Stage TaskFault) (w u v : World) → Kept (shape_of origin) w.state → IsSwappedFor task w
    → IsDone origin w events.Look reply u → PartsLead origin u parts v → IsCalm parts → IsRest (task_call origin.mode task) (after_look origin.mode task reply) parts result → Ends result
look_finishes origin task parts reply result w u v kept ready done leads calm rest =
    let seen = look_seen origin w u reply ready.unshut done in
    let view = seen.view in
    let lock = ready.lock in
    let shown : LockView = record { task = lock.task; lock = lock.number; moves = moves_shown origin.vid w.state.broken true lock.transfers; swapped = true } in
    let held : view.held ≡ Some shown =
    ap (λ (x : View). x.held) seen.shown ∙ ap (lock_shown origin.vid w.state.broken) ready.held
    ∙ ap (λ b. Some (record { task = lock.task; lock = lock.number; moves = moves_shown origin.vid w.state.broken b lock.transfers; swapped = b })) ready.swapped in
    let next = after_swapped origin.mode task view shown held ready.own refl in
    let stands = first_standing origin task w view.units kept ready in
    finishes origin task lock w.state.manager.homes w.state.broken next.0 (journeys_from view.units shown.moves) parts w v result stands.0 stands.1 calm (subst (λ x. PartsLead origin x parts v) seen.same leads)
    (subst (λ x. IsRest (task_call origin.mode task) x parts result) next.1 (subst (λ r. IsRest (task_call origin.mode task) (after_look origin.mode task r) parts result) seen.is rest))

whole_finishes : (origin : Origin) (task : Task) (parts : List Part) (result : Result Stage TaskFault) (w v : World) → Kept (shape_of origin) w.state → IsSwappedFor task w
    → PartsLead origin w parts v → IsCalm parts → IsRest (task_call origin.mode task) (Next.Go TaskStage.Looking) parts result → Ends result
whole_finishes origin task [] result w v kept ready leads calm rest = absurd rest
whole_finishes origin task (Part.Beside trace ∷ parts) result w v kept ready leads calm rest = absurd calm
whole_finishes origin task (Part.Settling trace ∷ parts) result w v kept ready leads calm rest = absurd calm
whole_finishes origin task (Part.Asking event reply ∷ parts) result w v kept ready leads calm rest =
    look_finishes origin task parts reply result w leads.0 v kept ready (subst (λ x. IsDone origin w x reply leads.0) rest.0 leads.1) leads.2 calm.1 rest.1

pub swapped_tasks_get_done : SwappedTasksGetDone
swapped_tasks_get_done origin task parts (Err faults.HistoryFull) w v possible ready call leads calm = inr tt
swapped_tasks_get_done origin task parts (Err faults.Memory) w v possible ready call leads calm = inr tt
swapped_tasks_get_done origin task parts (Err other) w v possible ready call leads calm = inl (whole_finishes origin task parts (Err other) w v (possible_kept origin w possible) ready leads calm call)
swapped_tasks_get_done origin task parts (Ok stage) w v possible ready call leads calm = inl (whole_finishes origin task parts (Ok stage) w v (possible_kept origin w possible) ready leads calm call)
