-- In a calm stretch one call takes a task from its lock to its end.
use Rattle.std.proofs.Common.{◌≡◌, ℕ, zero, suc, ◌+◌, ◌≤◌, ◌⊎◌, inl, inr, nat_lt, Bool, true, false, cond, not, ◌&&◌, List, [], ◌∷◌, length, Some, None, Result, refl, sym, ◌∙◌, ap, subst, arith}
use Rattle.std.specs.Prelude.{is_none}
use Rattle.std.proofs.lemmas.Bool.{le-ltb}
use Rattle.unit_id.specs.Lists.{IsIn, is_in, count_below, first_that_holds}
use Rattle.unit_id.specs.Place.{at_home}
use Rattle.unit_id.specs.declared.targets.Target.{Target}
use Rattle.unit_id.specs.declared.task.Task.{Task}
use Rattle.unit_id.proofs.Bools.{contrary, either, equal_test}
use Rattle.code_mode.specs.VolumeShape.{VolumeShape}
use Rattle.code_mode.proofs.Numbers.{sound_shapes}
use Rattle.blob_node.specs.Units.{Units}
use Rattle.volume_entry.specs.Manager.{Transfer, Lock, ManagerRecord, Manager, home_at, current, transfers_of, is_swapped, swapped_lock, written}
use Rattle.volume_entry.specs.ManagerStep.{task_of, is_of_other, has_broken_destination, has_unheard, swap_refusal, AreAllSettled, Swaps}
use Rattle.volume_entry.specs.Benchmark.{listed_count, is_settled, benchmark_of, is_unsettled}
use Rattle.volume_entry.specs.Reply.{Reply}
use Rattle.volume_world.specs.Event.{Event}
use Rattle.code_mode.specs.declared.stripe.TheConstants.{BLOB_LIMIT}
use Rattle.volume_world.specs.BlobStatus.{is_begun}
use Rattle.volume_world.specs.State.{Puts, State}
use Rattle.volume_world.specs.Run.{World, Step, Leads, Does, IsRefusedByLog}
use Rattle.volume_world.specs.Invariant.{Kept}
use Rattle.volume_world.specs.Told.{Tells}
use Rattle.volume_world.specs.Way.{Origin, shape_of}
use Rattle.volume_world.specs.Course.{Part, PartsLead, IsDone}
use Rattle.volume_world.specs.Call.{Next, IsRest}
use Rattle.volume_world.specs.Trace.{reply_kept}
use Rattle.volume_world.specs.declared.event.Event.{Event as CodeEvent}
use Rattle.volume_world.specs.declared.event.Event.TheVariants as events
use Rattle.volume_world.specs.declared.reply.Reply.{Reply as CodeReply}
use Rattle.volume_world.specs.declared.reply.Reply.TheVariants as replies
use Rattle.volume_world.proofs.Telling.{entry_keeps}
use Rattle.migrate_task.specs.declared.stage.Stage.{Stage}
use Rattle.migrate_task.specs.declared.stage.TaskFault.{TaskFault}
use Rattle.migrate_task.specs.declared.work.Journey.{Journey}
use Rattle.migrate_task.specs.Work.{Work, with_old_units}
use Rattle.migrate_task.specs.AdvanceCall.{TaskNext, task_asks, task_call, task_after, creating, retargeting, releasing, after_swap}
use Rattle.migrate_task.specs.Endings.{asked_in, WasAsked}
use Rattle.migrate_task.specs.Completion.{IsUntroubled, IsCalm, IsSound}
use Rattle.migrate_task.proofs.BegunNumbers.{AreNumbered}
use Rattle.migrate_task.proofs.HeardSends.{IsBy, is_by}
use Rattle.migrate_task.proofs.SwappedCalls.{IsJourneyOf, IsUnder, Standing as Freeing, finishes, Ends, any_none, some_none}
use Rattle.migrate_task.proofs.Scenes.{Scene, Ground, Standing, total_of, from_held, open_held}
use Rattle.migrate_task.proofs.ShownUnits.{due_by, listed_all, benchmark_is}
use Rattle.migrate_task.proofs.LockedAnswers.{IsTo, old_unbroken}
use Rattle.migrate_task.proofs.LockedPoints.{work_for, Point, stage_of, Holds, Onward, Owes}
use Rattle.migrate_task.proofs.LockedLists.{all_of_lock, all_left, make_on, old_kept, kept_old}
use Rattle.migrate_task.proofs.LockedSteps.{create_step, fence_step, dest_step, unit_step, copy_step}

-- ---- the swap

six_none : {A : Type 0} (a b c d e f : Bool) (p q r s t u : A) → a ≡ false → b ≡ false → c ≡ false → d ≡ false → e ≡ false → f ≡ false
    → first_that_holds ((a, p) ∷ (b, q) ∷ (c, r) ∷ (d, s) ∷ (e, t) ∷ (f, u) ∷ []) ≡ None
six_none a b c d e f p q r s t u ea eb ec ed ee ef = rw (ea, eb, ec, ed, ee, ef) refl

cut_heard : (s : Scene) (w : World) (t : Transfer) → w.state.broken ≡ s.broken → (is_in t.index w.state.manager.heard.fenced ≡ true) ⊎ (s.broken t.old.disk ≡ true)
    → not (is_in t.index w.state.manager.heard.fenced) && not (w.state.broken t.old.disk) ≡ false
cut_heard s w t same (inl fenced) = ap (λ b. not b && not (w.state.broken t.old.disk)) fenced
cut_heard s w t same (inr is_broken) = ap (λ b. not (is_in t.index w.state.manager.heard.fenced) && not b) (ap (λ (b : ℕ → Bool). b t.old.disk) same ∙ is_broken) ∙ none (not (is_in t.index w.state.manager.heard.fenced))
  where
    none : (b : Bool) → b && false ≡ false
    none true = refl
    none false = refl

not_refused : (s : Scene) (w : World) → Ground s → Owes s w [] → swap_refusal (shape_of s.origin) w.state.broken s.task.id w.state.manager ≡ None
not_refused s w g h =
    let m = w.state.manager in
    let stands = h.ready.stands in
    let shape = shape_of s.origin in
    let listed : listed_count shape.total m.homes w.state.broken m.heard.listings ≡ count_below (total_of s) (λ i. not (s.broken (home_at s.homes i).disk)) =
    (λ k. listed_count shape.total (stands.homes_are k) (stands.broken_are k) m.heard.listings) ∙ listed_all s m h.listed in
    let enough = g.enough in
    six_none (is_none m.lock) (is_of_other m.lock s.task.id) (is_swapped m.lock) (has_broken_destination w.state.broken (transfers_of m.lock)) (has_unheard w.state.broken (transfers_of m.lock) m.heard.fenced)
    (nat_lt (listed_count shape.total m.homes w.state.broken m.heard.listings) shape.sight)
    Reply.NotLocked (Reply.OtherTask (task_of m.lock)) Reply.AlreadySwapped Reply.DestBroken Reply.NotFenced (Reply.NotListed (listed_count shape.total m.homes w.state.broken m.heard.listings))
    (ap is_none stands.held)
    (ap (λ l. is_of_other l s.task.id) stands.held ∙ ap not (equal_test s.lock.task s.task.id g.own))
    (open_held s w g stands)
    (any_none (λ (t : Transfer). w.state.broken t.dest.disk) (transfers_of m.lock) (λ t i. ap (λ (b : ℕ → Bool). b t.dest.disk) stands.broken_are ∙ g.good t (from_held s w t stands i)))
    (any_none (λ (t : Transfer). not (is_in t.index m.heard.fenced) && not (w.state.broken t.old.disk)) (transfers_of m.lock) (λ t i. cut_heard s w t stands.broken_are (h.ready.cut t (from_held s w t stands i))))
    (le-ltb (listed_count shape.total m.homes w.state.broken m.heard.listings) shape.sight (omega (arith, listed, enough)))

all_settled : (s : Scene) (w : World) → Ground s → Owes s w [] → AreAllSettled (shape_of s.origin) w.state.broken w.state.manager
all_settled s w g h bid =
    let m = w.state.manager in
    let stands = h.ready.stands in
    let bench : benchmark_of (shape_of s.origin) m.homes w.state.broken m.heard.listings bid ≡ due_by s bid =
    (λ k. benchmark_of (shape_of s.origin) (stands.homes_are k) (stands.broken_are k) m.heard.listings bid) ∙ benchmark_is s m bid h.listed in
    any_none (λ (t : Transfer). not (is_settled m.heard bid (benchmark_of (shape_of s.origin) m.homes w.state.broken m.heard.listings bid) t.index)) (transfers_of m.lock)
    (λ t i. ap (λ d. not (is_settled m.heard bid d t.index)) bench ∙ ap not (elim (h.settled bid t (from_held s w t stands i)) [ inl was ↦ was | inr more ↦ absurd more.1 ]))

abbrev SwapGives : Manager → Manager → Reply → Type 0
SwapGives m n Reply.Done = n ≡ written ManagerRecord.Swapped m
SwapGives m n Reply.Fault = Unit {0}
SwapGives m n reply = ⊥

swaps_done : (shape : VolumeShape) (broken : ℕ → Bool) (task : ℕ) (m n : Manager) (reply : Reply) → swap_refusal shape broken task m ≡ None → AreAllSettled shape broken m → Swaps shape broken task m reply n → SwapGives m n reply
swaps_done shape broken task m n Reply.Done none all h = h.2
swaps_done shape broken task m n Reply.Fault none all h = tt
swaps_done shape broken task m n (Reply.NotCopied bid) none all h = absurd (contrary (is_unsettled shape m.homes broken (transfers_of m.lock) m.heard bid) h.1.unsettled (all bid))
swaps_done shape broken task m n reply none all h = some_none (swap_refusal shape broken task m) reply none h.0

swap_leads : (shape : VolumeShape) (w u : World) (id : ℕ) (step : Step) → step.event ≡ Event.Swap id → w.state.manager.is_shut ≡ false → swap_refusal shape w.state.broken id w.state.manager ≡ None → AreAllSettled shape w.state.broken w.state.manager
    → Leads shape w step u → IsBy w u (λ n. SwapGives w.state.manager n step.reply)
swap_leads shape w u id step e unshut none all (inl h) =
    let does = subst (λ event. Does shape w event step.reply u) e h in
    is_by w u does.0.0 (λ n. SwapGives w.state.manager n step.reply) (swaps_done shape w.state.broken id w.state.manager does.0.0.manager step.reply none all does.0.1.1.0) does.0.1.1.1 does.0.2 does.1
swap_leads shape w u id step e unshut none all (inr h) =
    let refused = subst (λ event. IsRefusedByLog w event step.reply u) e h in absurd (contrary w.state.manager.is_shut refused.0 unshut)

told_swapped : (vid : ℕ) (s : State) (m n : Manager) (reply : CodeReply) (told : Reply) → IsUntroubled reply → SwapGives m n told → Tells vid s (reply_kept reply) told → (reply ≡ replies.Done) × (n ≡ written ManagerRecord.Swapped m)
told_swapped vid s m n replies.Done Reply.Done calm gives tells = (refl, gives)
told_swapped vid s m n replies.Fault told calm gives tells = absurd calm
told_swapped vid s m n reply Reply.Done calm gives tells = absurd tells
told_swapped vid s m n reply Reply.Fault calm gives tells = absurd tells
told_swapped vid s m n reply told calm gives tells = absurd gives

-- the units are swapped, and the old ones are to be released
record IsSwappedBy (s : Scene) (u : World) (reply : CodeReply) : Type 0 where
  is : reply ≡ replies.Done
  lock : Lock
  under : IsUnder s.origin s.task lock u.state.manager.homes s.broken
  stands : Freeing s.origin lock u.state.manager.homes s.broken u (with_old_units (work_for s).journeys)

journey_by : (s : Scene) (t : Transfer) (j : Journey) → IsTo s t j → IsJourneyOf s.origin.vid t j
journey_by s t j to = record { unit = to.old_unit; disk = to.old_disk }

swap_step : (s : Scene) (w u : World) (reply : CodeReply) → Ground s → Owes s w [] → IsDone s.origin w (events.Swap s.task.id) reply u → IsUntroubled reply → IsSwappedBy s u reply
swap_step s w u reply g h done calm =
    let stands = h.ready.stands in
    let by = swap_leads (shape_of s.origin) w u s.task.id done.step done.told.event stands.unshut (not_refused s w g h) (all_settled s w g h) done.leads in
    let told = told_swapped s.origin.vid w.state w.state.manager u.state.manager reply done.step.reply calm by.gives done.told.reply in
    let kept = entry_keeps (shape_of s.origin) w done.step u (sound_shapes s.origin.mode s.origin.disks) stands.kept done.leads in
    let lock : Lock = record (s.lock) { is_swapped = true } in
    let held : u.state.manager.lock ≡ Some lock = ap (λ (m : Manager). m.lock) told.1 ∙ ap swapped_lock stands.held in
    record {
      is = told.0;
      lock = lock;
      under = record {
        own = g.own;
        swapped = refl;
        below = g.below;
        older = λ t i. kept.support.locks.old_units_below_current (ap is_swapped held) t (subst (λ l. IsIn t (transfers_of l)) (sym held) i);
      };
      stands = record {
        held = held;
        homes_are = refl;
        unshut = ap (λ (m : Manager). m.is_shut) told.1 ∙ stands.unshut;
        unplanned = by.planned ∙ stands.unplanned;
        broken_are = by.broken ∙ stands.broken_are;
        olds = λ t i sound. ap (λ (x : Units). x.is_made (at_home t.index t.old)) by.units
            ∙ subst (λ l. w.state.units.is_made (at_home t.index l) ≡ true) (g.olds t i) (stands.made t.index (g.below t i) (old_unbroken s t g i sound));
        seen_to = λ t i. elim (either (s.broken t.old.disk)) [
          | inl is_broken ↦ inr (inl is_broken)
          | inr sound ↦ let left = all_left s t g i in inr (inr (left.0, old_kept (work_for s).journeys left.0 left.1 (left.2.old_broken ∙ sound), journey_by s t left.0 left.2))
        ];
        each = λ j i. let its = all_of_lock s g j (kept_old (work_for s).journeys j i).0 in (its.0, its.1, journey_by s its.0 j its.2);
      };
    }

-- ---- one event

-- what is next: a point before the swap, or the releases behind it
data Goes (s : Scene) (u : World) (event : CodeEvent) (reply : CodeReply) (next : TaskNext) : Type 0 where
  On : Onward s u next → Goes s u event reply next
  Swapped : event ≡ events.Swap s.task.id → IsSwappedBy s u reply → next ≡ Next.Go (releasing (work_for s) (with_old_units (work_for s).journeys)) → Goes s u event reply next

step_goes : (s : Scene) (w u : World) (point : Point) (reply : CodeReply) → Ground s → Holds s w point → IsDone s.origin w (task_asks s.task (stage_of s point)) reply u → IsUntroubled reply
    → Goes s u (task_asks s.task (stage_of s point)) reply (task_after s.origin.mode s.task (stage_of s point) reply)
step_goes s w u (Point.Creating j left) reply g h done calm = Goes.On (create_step s w u j left reply g h done calm)
step_goes s w u (Point.Fencing j left) reply g h done calm = Goes.On (fence_step s w u j left reply g h done calm)
step_goes s w u (Point.ListingDest dests j left) reply g h done calm = Goes.On (dest_step s w u dests j left reply g h done calm)
step_goes s w u (Point.ListingUnit dests heard home left) reply g h done calm = Goes.On (unit_step s w u dests heard home left reply g h done calm)
step_goes s w u (Point.Copying copy) reply g h done calm = Goes.On (copy_step s w u copy reply g h done calm)
step_goes s w u Point.Swapping reply g h done calm =
    let by = swap_step s w u reply g h done calm in
    Goes.Swapped refl by (ap (after_swap (work_for s)) by.is)

-- ---- from the lock to the end

-- the call ends with all done, and swapped the units
abbrev pub EndsSwapped : Task → List Part → Result Stage TaskFault → Type 0
EndsSwapped task parts result = Ends result × WasAsked (asked_in parts) (events.Swap task.id) replies.Done

goes : (s : Scene) (w v : World) (point : Point) (parts : List Part) (result : Result Stage TaskFault) → Ground s → Holds s w point → IsCalm parts → PartsLead s.origin w parts v
    → IsRest (task_call s.origin.mode s.task) (Next.Go (stage_of s point)) parts result → EndsSwapped s.task parts result
goes s w v point [] result g h calm leads rest = absurd rest
goes s w v point (Part.Beside trace ∷ parts) result g h calm leads rest = absurd calm
goes s w v point (Part.Settling trace ∷ parts) result g h calm leads rest = absurd calm
goes s w v point (Part.Asking event reply ∷ parts) result g h calm leads rest =
    let u = leads.0 in
    elim (step_goes s w u point reply g h (subst (λ x. IsDone s.origin w x reply u) rest.0 leads.1) calm.0) [
      | Goes.On onward ↦
          let more = goes s u v onward.point parts result g onward.holds calm.1 leads.2 (subst (λ x. IsRest (task_call s.origin.mode s.task) x parts result) onward.is rest.1) in
          (more.0, inr more.1)
      | Goes.Swapped asked by next ↦ (
        finishes s.origin s.task by.lock u.state.manager.homes s.broken (work_for s) (with_old_units (work_for s).journeys) parts u v result by.under by.stands calm.1 leads.2
            (subst (λ x. IsRest (task_call s.origin.mode s.task) x parts result) next rest.1),
        inl (λ k. record { event = sym (rest.0 ∙ asked) k; reply = sym by.is k }),
      )
    ]

pub from_lock : (s : Scene) (w v : World) (parts : List Part) (result : Result Stage TaskFault) → Ground s → Standing s w → IsCalm parts → PartsLead s.origin w parts v
    → IsRest (task_call s.origin.mode s.task) (creating (work_for s) (work_for s).journeys) parts result → EndsSwapped s.task parts result
from_lock s w v parts result g stands calm leads rest =
    let onward = make_on s w (work_for s).journeys g (record { stands = stands; made = λ t i. inr (all_left s t g i); each = all_of_lock s g }) in
    goes s w v onward.point parts result g onward.holds calm leads (subst (λ x. IsRest (task_call s.origin.mode s.task) x parts result) onward.is rest)

-- ---- a volume under the task's lock

-- the lock is the task's, its units aren't swapped yet, and no destination is on a broken disk
pub record IsGoodLock (task : Task) (w : World) : Type 0 where
  pub lock : Lock
  pub held : w.state.manager.lock ≡ Some lock
  pub own : lock.task ≡ task.id
  pub unswapped : lock.is_swapped ≡ false
  pub good : (t : Transfer) → IsIn t lock.transfers → w.state.broken t.dest.disk ≡ false

abbrev pub scene_of : Origin → Task → Lock → World → Scene
scene_of origin task lock w = record {
  origin = origin;
  task = task;
  lock = lock;
  homes = w.state.manager.homes;
  broken = w.state.broken;
  puts = w.state.puts;
  row = λ i bid. w.state.units.row (current w.state.manager.homes i) bid;
}

split_count : (n : ℕ) (f : ℕ → Bool) → count_below n f + count_below n (λ i. not (f i)) ≡ n
split_count zero f = refl
split_count (suc n) f = go (f n) (split_count n f) where
  go : (test : Bool) → count_below n f + count_below n (λ i. not (f i)) ≡ n → (cond {A = ℕ} test 1 0 + count_below n f) + (cond {A = ℕ} (not test) 1 0 + count_below n (λ i. not (f i))) ≡ suc n
  go true e = omega (arith, e)
  go false e = omega (arith, e)

sees_enough : (origin : Origin) (w : World) → IsSound (shape_of origin) w → (shape_of origin).sight ≤ count_below (shape_of origin).total (λ i. not (w.state.broken (home_at w.state.manager.homes i).disk))
sees_enough origin w h =
    let shape = shape_of origin in
    let sound = sound_shapes origin.mode origin.disks in
    let few = h.few_broken in
    let overlap = sound.overlap in
    let split = split_count shape.total (λ i. w.state.broken (home_at w.state.manager.homes i).disk) in
    omega (arith, few, overlap, split)

pub first_ground : (origin : Origin) (task : Task) (w : World) → Kept (shape_of origin) w.state → AreNumbered w.state → IsSound (shape_of origin) w → (ready : IsGoodLock task w) → Ground (scene_of origin task ready.lock w)
first_ground origin task w kept numbers sound ready =
    let lock_in : (t : Transfer) → IsIn t ready.lock.transfers → IsIn t (transfers_of w.state.manager.lock) = λ t i. subst (λ l. IsIn t (transfers_of l)) (sym ready.held) i in
    let unswapped : is_swapped w.state.manager.lock ≡ false = ap is_swapped ready.held ∙ ready.unswapped in
    record {
      own = ready.own;
      unswapped = ready.unswapped;
      good = ready.good;
      below = λ t i. kept.form.lock.transfer_index t (lock_in t i);
      one = λ t x i k. kept.form.lock.one_by_index t x (lock_in t i) (lock_in x k);
      olds = λ t i. kept.support.locks.old_units_current unswapped t (lock_in t i);
      above = λ t i. kept.support.locks.destinations_above_current unswapped t (lock_in t i);
      count = kept.form.lists.homes_count;
      enough = sees_enough origin w sound;
      blobs = λ bid begun. record { number = numbers bid begun; some = (sound.sizes bid begun).0; most = (sound.sizes bid begun).1 };
    }

pub first_stands : (origin : Origin) (task : Task) (w : World) → Kept (shape_of origin) w.state → IsSound (shape_of origin) w → (ready : IsGoodLock task w) → Standing (scene_of origin task ready.lock w) w
first_stands origin task w kept sound ready = record {
  kept = kept;
  held = ready.held;
  homes_are = refl;
  unshut = sound.unshut;
  unplanned = sound.unplanned;
  broken_are = refl;
  puts_are = refl;
  made = sound.made;
  rows = λ i below bid. refl;
}

pub nothing_retargeted : (targets : List Target) (work : Work) → retargeting targets work [] ≡ creating work work.journeys
unfolding retargeting
nothing_retargeted targets work = refl

-- a volume of which only the lock changes is as sound
pub sound_on : (shape : VolumeShape) (w u : World) → IsSound shape w → u.state.manager.homes ≡ w.state.manager.homes → u.state.manager.is_shut ≡ w.state.manager.is_shut → u.state.units ≡ w.state.units → u.state.puts ≡ w.state.puts
    → u.state.broken ≡ w.state.broken → u.planned ≡ w.planned → IsSound shape u
sound_on shape w u h homes shut units puts broken planned = record {
  unshut = shut ∙ h.unshut;
  unplanned = planned ∙ h.unplanned;
  few_broken = subst (λ (b : ℕ → Bool). shape.data_count + count_below shape.total (λ i. b (home_at u.state.manager.homes i).disk) ≤ shape.quorum) (sym broken)
      (subst (λ hs. shape.data_count + count_below shape.total (λ i. w.state.broken (home_at hs i).disk) ≤ shape.quorum) (sym homes) h.few_broken);
  made = λ i below sound. (λ k. (units k).is_made (current (homes k) i)) ∙ h.made i below ((λ k. (sym broken k) (home_at (sym homes k) i).disk) ∙ sound);
  sizes = λ bid begun. subst (λ (x : Puts). (1 ≤ length (x.payload bid)) × (length (x.payload bid) ≤ BLOB_LIMIT)) (sym puts) (h.sizes bid (ap (λ (x : Puts). is_begun (x.status bid)) (sym puts) ∙ begun));
}
