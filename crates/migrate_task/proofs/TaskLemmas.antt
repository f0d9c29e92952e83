-- Lemmas on the parts of a task's call.
use Rattle.std.proofs.Common.{◌≡◌, ℕ, ◌+◌, ◌<◌, ◌≤◌, true, false, List, [], ◌∷◌, length, drop, get_or, Result, Ok, Err, refl, sym, ◌∙◌, ap, subst, arith}
use Rattle.std.proofs.lemmas.List.{append-nil, at_drop_more, drop_all}
use Rattle.volume_world.specs.declared.event.Event.{Event}
use Rattle.volume_world.specs.declared.reply.Reply.{Reply}
use Rattle.volume_world.specs.declared.fault.StepFault.{StepFault}
use Rattle.volume_world.specs.declared.fault.StepFault.TheVariants as step_faults
use Rattle.volume_world.specs.Way.{WayView, longest_history}
use Rattle.volume_world.specs.Course.{Goes, StepsBy}
use Rattle.volume_world.specs.Progress.{Proceeds}
use Rattle.volume_world.proofs.Comings.{step_proceeds, proceeds_on, comes_rest, comes_front}
use Rattle.volume_world.specs.Call.{Next}
use Rattle.unit_id.specs.declared.homes.Home.{Home}
use Rattle.unit_id.specs.declared.task.Task.{Task}
use Rattle.volume_world.specs.declared.trace.Trace.{Trace}
use Rattle.migrate_task.specs.declared.stage.Stage.{Stage}
use Rattle.migrate_task.specs.declared.stage.Stage.TheVariants as stages
use Rattle.migrate_task.specs.declared.stage.TaskFault.{TaskFault}
use Rattle.migrate_task.specs.declared.stage.TaskFault.TheVariants as faults
use Rattle.migrate_task.specs.declared.halt.Halt.{Halt}
use Rattle.migrate_task.specs.declared.halt.Halt.TheVariants as halts
use Rattle.migrate_task.specs.AdvanceCall.{TaskStage, TaskNext, task_call, AdvancesBy, Advances}
use Rattle.migrate_task.specs.TaskParts.{TaskCall, is_cut, is_done, told, GoesOn, Makes, ended}
use Rattle.migrate_task.proofs.CutLemmas.{comes_uncut, comes_undone}

-- what a reply makes of a stage, and what the answer of a part makes of it, are one
pub goes_told : {T : Type 0} (call : TaskCall) (old new : WayView) (from to : TaskNext) (result : Result T Halt) (then : T → TaskNext) → told result then ≡ to → Proceeds call old new from to
    → GoesOn call old new from result then
goes_told call old new from to (Err (halts.BrokenOff step_faults.HistoryFull)) then e h = record { to = to; proceeds = h; undone = sym (ap is_done e); full = λ uncut. absurd (let both : true ≡ false = ap is_cut e ∙ uncut in cc) }
goes_told call old new from to (Err (halts.BrokenOff step_faults.Memory)) then e h = record { to = to; proceeds = h; undone = sym (ap is_done e) }
goes_told call old new from to (Err (halts.Waits why)) then e h = subst (λ next. Proceeds call old new from next) (sym e) h
goes_told call old new from to (Err halts.EpochSpent) then e h = subst (λ next. Proceeds call old new from next) (sym e) h
goes_told call old new from to (Err halts.Fault) then e h = subst (λ next. Proceeds call old new from next) (sym e) h
goes_told call old new from to (Err (halts.Spoiled place)) then e h = subst (λ next. Proceeds call old new from next) (sym e) h
goes_told call old new from to (Ok given) then e h = subst (λ next. Proceeds call old new from next) (sym e) h

-- .. so too where memory may not suffice
pub goes_made : {T : Type 0} (call : TaskCall) (old new : WayView) (from to : TaskNext) (result : Result T Halt) (then : T → TaskNext) → is_done to ≡ false → Makes result then to → Proceeds call old new from to
    → GoesOn call old new from result then
goes_made call old new from to (Err (halts.BrokenOff step_faults.HistoryFull)) then undone e h = record { to = to; proceeds = h; undone = undone; full = λ uncut. absurd (let both : true ≡ false = ap is_cut e ∙ uncut in cc) }
goes_made call old new from to (Err (halts.BrokenOff step_faults.Memory)) then undone e h = record { to = to; proceeds = h; undone = undone }
goes_made call old new from to (Err (halts.Waits why)) then undone e h = subst (λ next. Proceeds call old new from next) (sym e) h
goes_made call old new from to (Err halts.EpochSpent) then undone e h = subst (λ next. Proceeds call old new from next) (sym e) h
goes_made call old new from to (Err halts.Fault) then undone e h = subst (λ next. Proceeds call old new from next) (sym e) h
goes_made call old new from to (Err (halts.Spoiled place)) then undone e h = subst (λ next. Proceeds call old new from next) (sym e) h
goes_made call old new from to (Ok given) then undone e h = subst (λ next. Proceeds call old new from next) (sym e) h

-- one part behind the other
pub part_on : {T : Type 0} (call : TaskCall) (a b c : WayView) (from at : TaskNext) (result : Result T Halt) (then : T → TaskNext) → Proceeds call a b from at → GoesOn call b c at result then
    → GoesOn call a c from result then
part_on call a b c from at (Err (halts.BrokenOff step_faults.HistoryFull)) then h k = record { to = k.to; proceeds = proceeds_on call a b c from at k.to h k.proceeds; undone = k.undone; full = k.full }
part_on call a b c from at (Err (halts.BrokenOff step_faults.Memory)) then h k = record { to = k.to; proceeds = proceeds_on call a b c from at k.to h k.proceeds; undone = k.undone }
part_on call a b c from at (Err (halts.Waits why)) then h k = proceeds_on call a b c from at (told (Err (halts.Waits why)) then) h k
part_on call a b c from at (Err halts.EpochSpent) then h k = proceeds_on call a b c from at (told (Err halts.EpochSpent) then) h k
part_on call a b c from at (Err halts.Fault) then h k = proceeds_on call a b c from at (told (Err halts.Fault) then) h k
part_on call a b c from at (Err (halts.Spoiled place)) then h k = proceeds_on call a b c from at (told (Err (halts.Spoiled place)) then) h k
part_on call a b c from at (Ok given) then h k = proceeds_on call a b c from at (then given) h k

failed : {T U : Type 0} (call : TaskCall) (old new : WayView) (from : TaskNext) (halt : Halt) (then : T → TaskNext) (after : U → TaskNext) → GoesOn {T = T} call old new from (Err halt) then
    → GoesOn {T = U} call old new from (Err halt) after
failed call old new from (halts.BrokenOff step_faults.HistoryFull) then after h = h
failed call old new from (halts.BrokenOff step_faults.Memory) then after h = h
failed call old new from (halts.Waits why) then after h = h
failed call old new from halts.EpochSpent then after h = h
failed call old new from halts.Fault then after h = h
failed call old new from (halts.Spoiled place) then after h = h

-- a part that fails ends the whole
pub fails_on : {T U : Type 0} (call : TaskCall) (old new : WayView) (from : TaskNext) (halt : Halt) (result : Result U Halt) (then : T → TaskNext) (after : U → TaskNext) → result ≡ Err halt
    → GoesOn {T = T} call old new from (Err halt) then → GoesOn {T = U} call old new from result after
fails_on {T} {U} call old new from halt result then after e h =
    subst (λ r. GoesOn {T = U} call old new from r after) (sym e) (failed {T = T} {U = U} call old new from halt then after h)

-- where memory is out, the call has come as far as before
pub breaks_off : {U : Type 0} (call : TaskCall) (old new : WayView) (from at : TaskNext) (result : Result U Halt) (after : U → TaskNext) → result ≡ Err (halts.BrokenOff step_faults.Memory)
    → is_done at ≡ false → Proceeds call old new from at → GoesOn {T = U} call old new from result after
breaks_off {U} call old new from at result after e undone h = subst (λ r. GoesOn {T = U} call old new from r after) (sym e) (record { to = at; proceeds = h; undone = undone })

-- a step that isn't done
pub stops : {T : Type 0} (call : TaskCall) (old new : WayView) (stage : TaskStage) (event : Event) (fault : StepFault) (then : T → TaskNext) → event ≡ call.asks stage → StepsBy old new event (Err fault)
    → GoesOn {T = T} call old new (Next.Go stage) (Err (halts.BrokenOff fault)) then
stops call old new stage event step_faults.HistoryFull then asked h = record {
  to = Next.Go stage;
  proceeds = step_proceeds call old new stage event (Err step_faults.HistoryFull) asked h;
  undone = refl;
  full = λ uncut. subst (λ (entries : List Trace). longest_history ≤ length entries) (sym h.goes.entries) h.full;
}
stops call old new stage event step_faults.Memory then asked h = record { to = Next.Go stage; proceeds = step_proceeds call old new stage event (Err step_faults.Memory) asked h; undone = refl }

pub goes_nowhere : (a : WayView) → Goes a a []
goes_nowhere a = record {
  origin = refl;
  is_alone = refl;
  entries = sym (append-nil a.entries);
  own = sym (append-nil a.own);
  alone = λ e part i. absurd i;
  count = omega arith;
  faults = omega arith;
  quiet = λ e. refl;
  leads = λ told w at. (w, refl, at);
}

pub proceeds_nowhere : (call : TaskCall) (a : WayView) (from : TaskNext) → Proceeds call a a from from
proceeds_nowhere call a from = record { parts = []; goes = goes_nowhere a; fits = tt; comes = refl }

-- a step leaves the volume's origin as it is
pub same_origin : (old new : WayView) (event : Event) (result : Result Reply StepFault) → StepsBy old new event result → new.origin ≡ old.origin
same_origin old new event (Ok reply) h = h.goes.origin
same_origin old new event (Err step_faults.HistoryFull) h = h.goes.origin
same_origin old new event (Err step_faults.Memory) h = h.goes.origin

-- ---- loops

-- behind some of a list, its next element
pub next_part : {X T : Type 0} (call : TaskCall) (a b c : WayView) (from : TaskNext) (point : List X → TaskNext) (xs : List X) (i : ℕ) (x : X) (result : Result T Halt) (then : T → TaskNext) → i < length xs
    → x ≡ get_or xs i x → Proceeds call a b from (point (drop i xs)) → GoesOn call b c (point (x ∷ drop (i + 1) xs)) result then → GoesOn call a c from result then
next_part call a b c from point xs i x result then below is h k =
    let at : point (drop i xs) ≡ point (x ∷ drop (i + 1) xs) = at_drop_more point xs i x below ∙ ap (λ y. point (y ∷ drop (i + 1) xs)) (sym is) in
    part_on call a b c from (point (x ∷ drop (i + 1) xs)) result then (subst (λ next. Proceeds call a b from next) at h) k

-- behind the whole list
pub all_parts : {X : Type 0} (call : TaskCall) (a b : WayView) (from : TaskNext) (point : List X → TaskNext) (xs : List X) (i : ℕ) → length xs ≤ i → Proceeds call a b from (point (drop i xs))
    → Proceeds call a b from (point [])
all_parts call a b from point xs i over h = subst (λ left. Proceeds call a b from (point left)) (drop_all i xs over) h

-- ---- whole calls

-- a call that comes to its answer
answers_whole : (old new : WayView) (task : Task) (result : Result Stage TaskFault) → (result ≡ Err faults.HistoryFull → ⊥)
    → (h : Proceeds (task_call old.origin.mode task) old new (Next.Go TaskStage.Looking) (Next.Over result)) → AdvancesBy old.origin.mode task h.parts result → Advances old new task result
answers_whole old new task result other h call = record { parts = h.parts; goes = h.goes; fits = h.fits; call = call; full = λ e. absurd (other e) }

-- a call that comes to its end, or breaks off
pub advances_whole : (old new : WayView) (task : Task) (result : Result (List Home) Halt) → GoesOn (task_call old.origin.mode task) old new (Next.Go TaskStage.Looking) result (λ units. Next.Over (Ok (stages.Done units)))
    → Advances old new task (ended result)
advances_whole old new task (Err (halts.BrokenOff step_faults.HistoryFull)) h = record {
  parts = h.proceeds.parts;
  goes = h.proceeds.goes;
  fits = h.proceeds.fits;
  call = (
    comes_front (task_call old.origin.mode task) (Next.Go TaskStage.Looking) h.proceeds.parts h.to h.proceeds.comes,
    comes_undone old.origin.mode task (Next.Go TaskStage.Looking) h.proceeds.parts h.to h.undone h.proceeds.comes,
  );
  full = λ e. h.full (comes_uncut old.origin.mode task (Next.Go TaskStage.Looking) h.proceeds.parts h.to refl h.proceeds.comes);
}
advances_whole old new task (Err (halts.BrokenOff step_faults.Memory)) h = record {
  parts = h.proceeds.parts;
  goes = h.proceeds.goes;
  fits = h.proceeds.fits;
  call = (
    comes_front (task_call old.origin.mode task) (Next.Go TaskStage.Looking) h.proceeds.parts h.to h.proceeds.comes,
    comes_undone old.origin.mode task (Next.Go TaskStage.Looking) h.proceeds.parts h.to h.undone h.proceeds.comes,
  );
  full = λ e. absurd (cc);
}
advances_whole old new task (Err (halts.Waits why)) h = answers_whole old new task (Ok (stages.Waits why)) (λ e. absurd (cc)) h (comes_rest (task_call old.origin.mode task) (Next.Go TaskStage.Looking) h.parts (Ok (stages.Waits why)) h.comes)
advances_whole old new task (Err halts.EpochSpent) h = answers_whole old new task (Err faults.EpochSpent) (λ e. absurd (cc)) h (comes_rest (task_call old.origin.mode task) (Next.Go TaskStage.Looking) h.parts (Err faults.EpochSpent) h.comes)
advances_whole old new task (Err halts.Fault) h = answers_whole old new task (Err faults.Fault) (λ e. absurd (cc)) h (comes_rest (task_call old.origin.mode task) (Next.Go TaskStage.Looking) h.parts (Err faults.Fault) h.comes)
advances_whole old new task (Err (halts.Spoiled place)) h = answers_whole old new task (Err (faults.Spoiled place)) (λ e. absurd (cc)) h (comes_rest (task_call old.origin.mode task) (Next.Go TaskStage.Looking) h.parts (Err (faults.Spoiled place)) h.comes)
advances_whole old new task (Ok units) h = answers_whole old new task (Ok (stages.Done units)) (λ e. absurd (cc)) h (comes_rest (task_call old.origin.mode task) (Next.Go TaskStage.Looking) h.parts (Ok (stages.Done units)) h.comes)
