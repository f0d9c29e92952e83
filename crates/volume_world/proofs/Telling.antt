-- What the entries of a way tell of the states in which its volume may be.
use Rattle.std.proofs.Common.{◌≡◌, ℕ, inl, inr, true, Bool, List, [], ◌∷◌, refl, sym, ◌∙◌, subst}
use Rattle.unit_id.specs.Lists.{IsIn}
use Rattle.unit_id.specs.Place.{Location}
use Rattle.unit_id.specs.declared.homes.Home.{Home}
use Rattle.code_mode.specs.VolumeShape.{VolumeShape}
use Rattle.code_mode.specs.declared.payload.Payload.{Payload}
use Rattle.code_mode.specs.Payload.{payload_bytes}
use Rattle.volume_entry.specs.Reply.{Reply}
use Rattle.volume_world.specs.Event.{Event}
use Rattle.volume_world.specs.State.{State}
use Rattle.volume_world.specs.BlobStatus.{is_begun}
use Rattle.volume_world.specs.Run.{World, Step, IsLegalRun}
use Rattle.volume_world.specs.Trace.{trace_of}
use Rattle.volume_world.specs.Told.{Tells, IsTold, MayRun}
use Rattle.volume_world.specs.declared.event.Event.TheVariants as events
use Rattle.volume_world.specs.declared.reply.Reply.TheVariants as replies
use Rattle.volume_world.specs.declared.trace.TraceReply.TheVariants as kept_reply
use Rattle.volume_world.specs.declared.trace.Trace.{Trace}
use Rattle.code_mode.specs.VolumeShape.{IsVolumeShape}
use Rattle.volume_world.specs.Run.{Leads}
use Rattle.volume_world.specs.Way.{WayView, IsWay, shape_of}
use Rattle.volume_world.specs.Invariant.{Kept}
use Rattle.volume_world.proofs.EntryMoves.{entry_lasts}
use Rattle.volume_world.proofs.PutsStay.{PutsStay, move_stay}
use Rattle.volume_world.proofs.LawProofs.{starts_kept, runs_keep}
use Rattle.volume_world.proofs.RunProofs.{runs_are_borne_out}

-- an entry of a run is told of some step of it
record IsToldIn (vid : ℕ) (trace : Trace) (steps : List Step) : Type 0 where
  state : State
  step : Step
  there : IsIn step steps
  told : IsTold vid state trace step

record HasRun (vid : ℕ) (shape : VolumeShape) (w : World) (traces : List Trace) (v : World) : Type 0 where
  steps : List Step
  legal : IsLegalRun shape w steps v
  each : (trace : Trace) → IsIn trace traces → IsToldIn vid trace steps

told_later : (vid : ℕ) (trace : Trace) (step : Step) (steps : List Step) → IsToldIn vid trace steps → IsToldIn vid trace (step ∷ steps)
told_later vid trace step steps h = record { state = h.state; step = h.step; there = inr h.there; told = h.told }

run_told : (vid : ℕ) (shape : VolumeShape) (w : World) (traces : List Trace) (v : World) → MayRun vid shape w traces v → HasRun vid shape w traces v
run_told vid shape w [] v h = record { steps = []; legal = h; each = λ trace i. absurd i }
run_told vid shape w (first ∷ traces) v h =
    let rest = run_told vid shape h.0 traces v h.2 in
    record {
      steps = h.1.step ∷ rest.steps;
      legal = (h.0, h.1.leads, rest.legal);
      each = λ trace i. elim i [
        | inl e ↦ record { state = w.state; step = h.1.step; there = inl refl; told = subst (λ t. IsTold vid w.state t h.1.step) (sym e) h.1.told }
        | inr there ↦ told_later vid trace h.1.step rest.steps (rest.each trace there)
      ];
    }

record IsBegunReply (reply : Reply) : Type 0 where
  end : ℕ
  homes : List Location
  flags : List Bool
  is : reply ≡ Reply.Begun end homes flags

begun_reply : (vid : ℕ) (s : State) (end : ℕ) (units : List Home) (reply : Reply) → Tells vid s (kept_reply.Begun end units) reply → IsBegunReply reply
begun_reply vid s end units (Reply.Begun t homes flags) h = record { end = t; homes = homes; flags = flags; is = refl }
begun_reply vid s end units reply h = absurd h

-- where an entry says that a put was begun, it is begun with these bytes in each state to which the entries lead
pub begun_as_told : (vid : ℕ) (shape : VolumeShape) (w : World) (traces : List Trace) (v : World) (bid : ℕ) (payload : Payload) (end : ℕ) (units : List Home) → MayRun vid shape w traces v
    → IsIn (trace_of (events.Begin bid payload) (replies.Begun end units)) traces
    → (is_begun (v.state.puts.status bid) ≡ true) × (v.state.puts.payload bid ≡ payload_bytes payload)
begun_as_told vid shape w traces v bid payload end units h i =
    let run = run_told vid shape w traces v h in
    let at = run.each _ i in
    let reply = begun_reply vid at.state end units at.step.reply at.told.reply in
    let is : at.step ≡ record { event = Event.Begin bid (payload_bytes payload); reply = Reply.Begun reply.end reply.homes reply.flags } = λ i. record { event = at.told.event i; reply = reply.is i } in
    runs_are_borne_out.begun shape w v run.steps bid (payload_bytes payload) run.legal
    (record { end = reply.end; homes = reply.homes; flags = reply.flags; begun = subst (λ s. IsIn s run.steps) is at.there })

-- what is begun stays so over an entry, with its payload
pub entry_stays : (shape : VolumeShape) (w : World) (step : Step) (v : World) → Leads shape w step v → PutsStay w.state.puts v.state.puts
entry_stays shape w step v h =
    entry_lasts shape (λ s. PutsStay w.state.puts s.puts)
    (λ s move t moved before bid begun. let one = before bid begun in let two = move_stay shape s move t moved bid one.begun in record { begun = two.begun; payload = two.payload ∙ one.payload })
    w step v h (λ bid begun. record { begun = begun; payload = refl })

-- in each state to which the entries of a way lead, what is kept holds
pub way_kept : (way : WayView) (w : World) → IsVolumeShape (shape_of way.origin) → IsWay way → way.origin.is_told ≡ true → way.is_at w → Kept (shape_of way.origin) w.state
way_kept way w good its told at =
    let run = run_told way.origin.vid (shape_of way.origin) way.origin.start way.entries w (its.led told w at) in
    let first = starts_kept (shape_of way.origin) its.first.homes its.first.is_made its.first.legal its.first.made in
    let started = subst (λ (x : World). Kept (shape_of way.origin) x.state) (sym its.first.state) first in
    runs_keep (shape_of way.origin) way.origin.start w run.steps good started run.legal

pub entry_keeps : (shape : VolumeShape) (w : World) (step : Step) (v : World) → IsVolumeShape shape → Kept shape w.state → Leads shape w step v → Kept shape v.state
entry_keeps shape w step v good kept h = runs_keep shape w v (step ∷ []) good kept (v, h, refl)
