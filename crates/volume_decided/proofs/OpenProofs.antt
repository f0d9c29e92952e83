-- That nothing is settled where no log is shut.
use Rattle.std.proofs.Common.{◌≡◌, subst, ℕ, inl, inr, Bool, true, false}
use Rattle.unit_id.specs.Place.{Place}
use Rattle.code_mode.specs.VolumeShape.{VolumeShape}
use Rattle.volume_world.specs.Event.{Event}
use Rattle.volume_world.specs.State.{State}
use Rattle.volume_world.specs.Move.{SettlesManager, SettlesUnit}
use Rattle.volume_world.specs.Run.{World, Step, Leads}
use Rattle.volume_world.specs.Told.{event_told}
use Rattle.volume_world.specs.Course.{IsSettle}
use Rattle.volume_world.specs.declared.trace.TraceEvent.{TraceEvent}
use Rattle.volume_world.specs.declared.trace.TraceEvent.TheVariants as kept_event
use Rattle.volume_world.specs.declared.trace.TraceReply.{TraceReply}
use Rattle.volume_decided.specs.OpenLogs.{IsOpen, NothingSettles}

manager_shut : (s : State) (found : Bool) (t : State) → SettlesManager s found t → s.manager.is_shut ≡ true
manager_shut s true t h = h.0
manager_shut s false t h = h.0

unit_shut : (place : Place) (s : State) (found : Bool) (t : State) → SettlesUnit place s found t → s.units.is_shut place ≡ true
unit_shut place s true t h = h.0
unit_shut place s false t h = h.0

settle_shut : (shape : VolumeShape) (w v : World) (disk : ℕ) (found : Bool) (step : Step) → IsOpen w → Leads shape w (record { event = Event.Settle disk found; reply = step.reply }) v → ⊥
settle_shut shape w v disk found step open_ (inr refused) = absurd refused
settle_shut shape w v disk found step open_ (inl (done_, settles)) = elim settles.0 [
  | inl h ↦ let shut = manager_shut w.state found h.1.0 h.1.1 in let unshut = open_.manager in cc
  | inr h ↦ let shut = unit_shut h.1.place w.state found v.state h.1.settles in let unshut = open_.units h.1.place in cc
]

settle_not : (shape : VolumeShape) (w v : World) (event : TraceEvent) (reply : TraceReply) (step : Step) → IsOpen w → IsSettle event reply → step.event ≡ event_told event → Leads shape w step v → ⊥
settle_not shape w v (kept_event.Settle disk found) reply step open_ settle is h =
    settle_shut shape w v disk found step open_ (subst (λ e. Leads shape w (record { event = e; reply = step.reply }) v) is h)
settle_not shape w v event reply step open_ settle is h = absurd settle

pub nothing_settles : NothingSettles
nothing_settles vid shape w v trace open_ settle may = settle_not shape w v trace.event trace.reply may.step open_ settle may.told.event may.leads
