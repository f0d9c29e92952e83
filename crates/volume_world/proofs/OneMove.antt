-- Events that are one move, and events that their log refuses, as entries of a history.
use Rattle.std.proofs.Common.{◌≡◌, ℕ, refl, inl, inr, true}
use Rattle.code_mode.specs.VolumeShape.{VolumeShape}
use Rattle.volume_entry.specs.Reply.{Reply as ToldReply}
use Rattle.volume_world.specs.Event.{Event as ToldEvent}
use Rattle.volume_world.specs.State.{State}
use Rattle.volume_world.specs.Move.{Happens}
use Rattle.volume_world.specs.Run.{World, Does, IsRefusedByLog}
use Rattle.volume_world.specs.Trace.{event_kept, trace_of}
use Rattle.volume_world.specs.Told.{event_told, Tells, MayBe}
use Rattle.volume_world.specs.Way.{Origin, shape_of}
use Rattle.volume_world.specs.Opening.{NeedsLog}
use Rattle.volume_world.specs.Course.{IsDone}
use Rattle.volume_world.specs.declared.event.Event.{Event}
use Rattle.volume_world.specs.declared.event.Event.TheVariants as events
use Rattle.volume_world.specs.declared.reply.Reply.{Reply}
use Rattle.volume_world.specs.declared.reply.Reply.TheVariants as replies
use Rattle.volume_world.specs.declared.trace.TraceEvent.{TraceEvent}
use Rattle.volume_world.specs.declared.trace.TraceReply.{TraceReply}

-- an event that is a move of its own
abbrev pub IsOneMove : ToldEvent → Type 0
IsOneMove (ToldEvent.Plan disk fate count) = ⊥
IsOneMove (ToldEvent.Send request) = ⊥
IsOneMove ToldEvent.FlushOne = ⊥
IsOneMove (ToldEvent.Settle disk is_found) = ⊥
IsOneMove event = Unit {0}

pub one_move : (shape : VolumeShape) (w : World) (event : ToldEvent) (reply : ToldReply) (t : State) → IsOneMove event → Happens shape w.state event reply t
    → Does shape w event reply (record w { state = t })
one_move shape w (ToldEvent.Plan disk fate count) reply t one h = absurd one
one_move shape w (ToldEvent.Send request) reply t one h = absurd one
one_move shape w ToldEvent.FlushOne reply t one h = absurd one
one_move shape w (ToldEvent.Settle disk is_found) reply t one h = absurd one
one_move shape w event reply t one h = ((t, h, refl), refl)

refused : (w : World) (event : ToldEvent) → NeedsLog event → w.state.manager.is_shut ≡ true → IsRefusedByLog w event ToldReply.Fault w
refused w (ToldEvent.Tick by) needs shut = absurd needs
refused w (ToldEvent.Plan disk fate count) needs shut = absurd needs
refused w (ToldEvent.Break disk) needs shut = absurd needs
refused w (ToldEvent.Restart disk) needs shut = absurd needs
refused w ToldEvent.RestartManager needs shut = absurd needs
refused w (ToldEvent.Settle disk is_found) needs shut = absurd needs
refused w event needs shut = (shut, refl, refl)

-- an entry of what was done
pub entry_of : (vid : ℕ) (shape : VolumeShape) (w : World) (event : TraceEvent) (reply : TraceReply) (told : ToldReply) (v : World)
    → Does shape w (event_told event) told v
    → Tells vid w.state reply told → MayBe vid shape w (record { event = event; reply = reply }) v
entry_of vid shape w event reply told v does tells =
    record { step = record { event = event_told event; reply = told }; told = record { event = refl; reply = tells }; leads = inl does }

-- .. and of one move
pub entry_of_move : (vid : ℕ) (shape : VolumeShape) (w : World) (event : TraceEvent) (reply : TraceReply) (told : ToldReply) (t : State)
    → IsOneMove (event_told event)
    → Happens shape w.state (event_told event) told t → Tells vid w.state reply told
    → MayBe vid shape w (record { event = event; reply = reply }) (record w { state = t })
entry_of_move vid shape w event reply told t one happens tells =
    entry_of vid shape w event reply told (record w { state = t }) (one_move shape w (event_told event) told t one happens) tells

-- an event whose log doesn't start is answered by a fault
pub entry_of_refusal : (vid : ℕ) (shape : VolumeShape) (w : World) (event : Event) → NeedsLog (event_told (event_kept event)) → w.state.manager.is_shut ≡ true
    → MayBe vid shape w (trace_of event replies.Fault) w
entry_of_refusal vid shape w event needs shut =
    record {
      step = record { event = event_told (event_kept event); reply = ToldReply.Fault };
      told = record { event = refl; reply = tt };
      leads = inr (refused w (event_told (event_kept event)) needs shut);
    }

-- an event that isn't a send
abbrev pub IsNoSend : Event → Type 0
IsNoSend (events.Send request) = ⊥
IsNoSend event = Unit {0}

-- its reply is whole as it is told
pub done_by : (origin : Origin) (w : World) (event : Event) (reply : Reply) (v : World) → IsNoSend event
    → MayBe origin.vid (shape_of origin) w (trace_of event reply) v
    → IsDone origin w event reply v
done_by origin w (events.Send request) reply v not_sent may_be = absurd not_sent
done_by origin w event reply v not_sent may_be = record { step = may_be.step; told = may_be.told; whole = tt; leads = may_be.leads }
