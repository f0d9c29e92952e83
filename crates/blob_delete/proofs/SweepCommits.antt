-- What a sweep answers to be committed is committed.
use Rattle.std.proofs.Common.{◌≡◌, ℕ, ◌⊎◌, inl, inr, Bool, true, false, cond, List, [], ◌∷◌, ◌++◌, length, Option, Some, None, Ok, refl, sym, ap, subst}
use Rattle.unit_id.specs.Lists.{IsIn, is_in}
use Rattle.unit_id.specs.declared.homes.Home.{Home}
use Rattle.code_mode.specs.VolumeShape.{VolumeShape}
use Rattle.volume_entry.specs.Reply.{Reply as ToldReply}
use Rattle.volume_entry.specs.declared.view.LockView.{LockView}
use Rattle.volume_world.specs.Event.{Event as ToldEvent}
use Rattle.volume_world.specs.State.{State}
use Rattle.volume_world.specs.Run.{World, Step, IsLegalRun}
use Rattle.volume_world.specs.Trace.{reply_kept, trace_of}
use Rattle.volume_world.specs.Told.{Tells, IsTold, MayRun}
use Rattle.volume_world.specs.declared.event.Event.{Event}
use Rattle.volume_world.specs.declared.event.Event.TheVariants as events
use Rattle.volume_world.specs.declared.reply.Reply.{Reply}
use Rattle.volume_world.specs.declared.reply.Reply.TheVariants as replies
use Rattle.volume_world.specs.declared.trace.Trace.{Trace}
use Rattle.volume_world.specs.declared.trace.TraceReply.TheVariants as kept_reply
use Rattle.volume_world.specs.Course.{Part, traces_of}
use Rattle.volume_world.specs.Call.{Next}
use Rattle.volume_world.specs.Progress.{Comes}
use Rattle.volume_world.proofs.RunProofs.{runs_are_borne_out}
use Rattle.blob_delete.specs.declared.sweeping.Swept.TheVariants as swept
use Rattle.blob_delete.specs.SweepCall.{SweepStage, SweepNext, has_done, unbroken, marking, unless_failed, after_view, after_look, after_send, after_mark, after_commit, sweep_asks, sweep_after, sweep_call}

-- ---- runs

record HasRun (shape : VolumeShape) (w v : World) : Type 0 where
  steps : List Step
  legal : IsLegalRun shape w steps v

some_run : (vid : ℕ) (shape : VolumeShape) (w : World) (traces : List Trace) (v : World) → MayRun vid shape w traces v → HasRun shape w v
some_run vid shape w [] v h = record { steps = []; legal = h }
some_run vid shape w (trace ∷ traces) v h = let rest = some_run vid shape h.0 traces v h.2 in record { steps = h.1.step ∷ rest.steps; legal = (h.0, h.1.leads, rest.legal) }

-- a run with such a step
record HasStep (shape : VolumeShape) (w v : World) (step : Step) : Type 0 where
  steps : List Step
  legal : IsLegalRun shape w steps v
  there : IsIn step steps

-- an entry whose kept reply tells only this reply is there as a step
run_with : (vid : ℕ) (shape : VolumeShape) (bid : ℕ) (reply : Reply) (given : ToldReply) → ((s : State) (r : ToldReply) → Tells vid s (reply_kept reply) r → r ≡ given) → (w : World) (traces : List Trace) (v : World)
    → MayRun vid shape w traces v → IsIn (trace_of (events.Commit bid) reply) traces → HasStep shape w v (record { event = ToldEvent.Commit bid; reply = given })
run_with vid shape bid reply given same w [] v h i = absurd i
run_with vid shape bid reply given same w (trace ∷ traces) v h (inl e) =
    let rest = some_run vid shape h.0 traces v h.2 in
    let told : IsTold vid w.state (trace_of (events.Commit bid) reply) h.1.step = subst (λ (t : Trace). IsTold vid w.state t h.1.step) (sym e) h.1.told in
    let is : record { event = ToldEvent.Commit bid; reply = given } ≡ h.1.step = λ i. record { event = sym told.event i; reply = sym (same w.state h.1.step.reply told.reply) i } in
    record { steps = h.1.step ∷ rest.steps; legal = (h.0, h.1.leads, rest.legal); there = inl is }
run_with vid shape bid reply given same w (trace ∷ traces) v h (inr i) =
    let rest = run_with vid shape bid reply given same h.0 traces v h.2 i in
    record { steps = h.1.step ∷ rest.steps; legal = (h.0, h.1.leads, rest.legal); there = inr rest.there }

done_told : (vid : ℕ) (s : State) (r : ToldReply) → Tells vid s kept_reply.Done r → r ≡ ToldReply.Done
done_told vid s ToldReply.Done h = refl
done_told vid s other h = absurd h

already_told : (vid : ℕ) (s : State) (r : ToldReply) → Tells vid s kept_reply.Already r → r ≡ ToldReply.Already
already_told vid s ToldReply.Already h = refl
already_told vid s other h = absurd h

-- some entry says that the blob's deletion is committed
abbrev pub SaysCommitted : ℕ → List Trace → Type 0
SaysCommitted bid traces = IsIn (trace_of (events.Commit bid) replies.Done) traces ⊎ IsIn (trace_of (events.Commit bid) replies.Already) traces

-- then it is so in each state to which the entries lead
pub committed_as_told : (vid : ℕ) (shape : VolumeShape) (w : World) (traces : List Trace) (v : World) (bid : ℕ) → MayRun vid shape w traces v → SaysCommitted bid traces → is_in bid v.state.manager.committed ≡ true
committed_as_told vid shape w traces v bid h (inl i) =
    let run = run_with vid shape bid replies.Done ToldReply.Done (done_told vid) w traces v h i in runs_are_borne_out.committed shape w v run.steps bid run.legal (inl run.there)
committed_as_told vid shape w traces v bid h (inr i) =
    let run = run_with vid shape bid replies.Already ToldReply.Already (already_told vid) w traces v h i in runs_are_borne_out.committed shape w v run.steps bid run.legal (inr run.there)

-- ---- the commit of a sweep

-- the sweep is behind its commit
abbrev pub is_behind : SweepNext → Bool
is_behind (Next.Go (SweepStage.Freeing total freed home homes)) = true
is_behind (Next.Over (Ok swept.Freed)) = true
is_behind (Next.Over (Ok swept.Committed)) = true
is_behind next = false

marking_before : (total : ℕ) (marked homes : List Home) → is_behind (Next.Go (marking total marked homes)) ≡ false
marking_before total marked [] = refl
marking_before total marked (home ∷ homes) = refl

failed_before : (reply : Reply) → is_behind (unless_failed reply) ≡ false
failed_before replies.Fault = refl
failed_before (replies.Spoiled place) = refl
failed_before other = refl

view_before : (held : Option LockView) (units : List Home) → is_behind (after_view held units) ≡ false
view_before (Some lock) units = refl
view_before None units = marking_before (length units) [] (unbroken units)

look_before : (reply : Reply) → is_behind (after_look reply) ≡ false
look_before (replies.Seen view) = view_before view.held view.units
look_before other = failed_before other

mark_before : (total : ℕ) (marked : List Home) (home : Home) (homes : List Home) (reply : Reply) → is_behind (after_send (after_mark total marked home homes) reply) ≡ false
mark_before total marked home homes (replies.Heard answer) = marking_before total (cond (has_done answer) (marked ++ home ∷ []) marked) homes
mark_before total marked home homes replies.Unheard = marking_before total marked homes
mark_before total marked home homes replies.Barred = marking_before total marked homes
mark_before total marked home homes other = failed_before other

-- a commit that leads behind itself is done, now or before
commit_done : (bid total : ℕ) (marked : List Home) (reply : Reply) (parts : List Part) → is_behind (after_commit total marked reply) ≡ true → SaysCommitted bid (traces_of (Part.Asking (events.Commit bid) reply ∷ parts))
commit_done bid total marked replies.Done parts h = inl (inl refl)
commit_done bid total marked replies.Already parts h = inr (inl refl)
commit_done bid total marked (replies.TooFewMarks have) parts h = absurd (cc)
commit_done bid total marked (replies.Locked task) parts h = absurd (cc)
commit_done bid total marked replies.NotAsked parts h = absurd (cc)
commit_done bid total marked other parts h = let no = failed_before other in absurd (cc)

step_done : (bid : ℕ) (stage : SweepStage) (reply : Reply) (parts : List Part) → is_behind (Next.Go stage) ≡ false → is_behind (sweep_after stage reply) ≡ true
    → SaysCommitted bid (traces_of (Part.Asking (sweep_asks bid stage) reply ∷ parts))
step_done bid SweepStage.Looking reply parts before h = let no = look_before reply in absurd (cc)
step_done bid (SweepStage.Marking total marked home homes) reply parts before h = let no = mark_before total marked home homes reply in absurd (cc)
step_done bid (SweepStage.Committing total marked) reply parts before h = commit_done bid total marked reply parts h
step_done bid (SweepStage.Freeing total freed home homes) reply parts before h = absurd (cc)

later : (bid : ℕ) (trace : Trace) (traces : List Trace) → SaysCommitted bid traces → SaysCommitted bid (trace ∷ traces)
later bid trace traces (inl i) = inl (inr i)
later bid trace traces (inr i) = inr (inr i)

-- a stretch that leads a sweep behind its commit has the entry of it
pub commit_there : (bid : ℕ) (parts : List Part) (from to : SweepNext) → Comes (sweep_call bid) from parts to → is_behind from ≡ false → is_behind to ≡ true → SaysCommitted bid (traces_of parts)
commit_there bid [] from to h before behind = let same = ap is_behind h in absurd (cc)
commit_there bid (Part.Beside trace ∷ parts) from to h before behind = later bid trace (traces_of parts) (commit_there bid parts from to h before behind)
commit_there bid (Part.Settling trace ∷ parts) from to h before behind = later bid trace (traces_of parts) (commit_there bid parts from to h before behind)
commit_there bid (Part.Asking event reply ∷ parts) (Next.Go stage) to h before behind = go (is_behind (sweep_after stage reply)) refl (λ e. commit_there bid parts (sweep_after stage reply) to h.1 e behind) where
  go : (b : Bool) → is_behind (sweep_after stage reply) ≡ b → (is_behind (sweep_after stage reply) ≡ false → SaysCommitted bid (traces_of parts)) → SaysCommitted bid (trace_of event reply ∷ traces_of parts)
  go true e rest = subst (λ (x : Event). SaysCommitted bid (trace_of x reply ∷ traces_of parts)) (sym h.0) (step_done bid stage reply parts before e)
  go false e rest = later bid (trace_of event reply) (traces_of parts) (rest e)
commit_there bid (Part.Asking event reply ∷ parts) (Next.Over given) to h before behind = absurd h
commit_there bid (Part.Asking event reply ∷ parts) Next.Never to h before behind = absurd h
