-- That steps are decided.
use Rattle.std.proofs.Common.{◌≡◌, ◌∙◌, sym, ap, subst, inl, inr, true, false, List, [], ◌∷◌}
use Rattle.unit_id.specs.Messages.{request_of}
use Rattle.unit_id.specs.Request.{Answer}
use Rattle.unit_id.specs.declared.request.Request as sent
use Rattle.code_mode.specs.VolumeShape.{VolumeShape}
use Rattle.volume_entry.specs.Reply.{Reply as ToldReply}
use Rattle.volume_world.specs.Event.{Event as ToldEvent}
use Rattle.volume_world.specs.Run.{World, Late, Step, Leads, Does, IsRefusedByLog, Flushes}
use Rattle.volume_world.specs.Trace.{event_kept, reply_kept}
use Rattle.volume_world.specs.Told.{event_told}
use Rattle.volume_world.specs.Way.{Origin, shape_of}
use Rattle.volume_world.specs.Course.{IsDone}
use Rattle.volume_world.specs.declared.event.Event.{Event}
use Rattle.volume_world.specs.declared.event.Event.TheVariants as events
use Rattle.volume_world.specs.declared.reply.Reply.{Reply}
use Rattle.volume_world.proofs.KeptMessages.{request_tells}
use Rattle.volume_world.proofs.OneMove.{IsOneMove}
use Rattle.volume_decided.specs.Decided.{StepsAreDecided, is_failure, is_open_about}
use Rattle.volume_decided.proofs.Shown.{is_heard}
use Rattle.volume_decided.proofs.ManagerSteps.{is_sound}
use Rattle.volume_decided.proofs.EventSteps.{does_decided}
use Rattle.volume_decided.proofs.SendSteps.{sends_decided, flushes_decided, live_read}
use Rattle.volume_decided.proofs.UnheardReplies.{does_unheard}
use Rattle.volume_decided.proofs.ToldReplies.{sound_told, well_told, unheard_decided, heard_decided}

refused_fault : (w : World) (event : ToldEvent) (r : ToldReply) (v : World) → IsRefusedByLog w event r v → r ≡ ToldReply.Fault
refused_fault w (ToldEvent.Tick by) r v h = absurd h
refused_fault w (ToldEvent.Plan disk fate count) r v h = absurd h
refused_fault w (ToldEvent.Break disk) r v h = absurd h
refused_fault w (ToldEvent.Restart disk) r v h = absurd h
refused_fault w ToldEvent.RestartManager r v h = absurd h
refused_fault w (ToldEvent.Settle disk is_found) r v h = absurd h
refused_fault w event r v h = h.1

pub led : (shape : VolumeShape) (w : World) (step : Step) (v : World) (event : ToldEvent) → step.event ≡ event → is_sound step.reply ≡ true → Leads shape w step v → Does shape w event step.reply v
led shape w step v event is sound (inl does) = subst (λ e. Does shape w e step.reply v) is does
led shape w step v event is sound (inr refused) = let fails : is_sound step.reply ≡ false = ap is_sound (refused_fault w step.event step.reply v refused) in cc

flushes_unheard : (shape : VolumeShape) (w : World) (late : List Late) (r : ToldReply) (v : World) → Flushes shape w late r v → is_heard r ≡ false
flushes_unheard shape w [] r v h = ap is_heard h.0
flushes_unheard shape w (Late.LateRequest request ∷ rest) r v h = ap is_heard h.0
flushes_unheard shape w (Late.LateAnswer request a ∷ rest) r v h = ap is_heard h.0

module _ (origin : Origin) (w v u : World) where
  -- an event that is one move
  one : (event : Event) (first second : Reply) → IsOneMove (event_told (event_kept event)) → is_failure (reply_kept first) ≡ false → is_failure (reply_kept second) ≡ false
      → IsDone origin w event first v → IsDone origin w event second u → (first ≡ second) × (v ≡ u)
  one event first second lone p q x y =
      let a = sound_told origin.vid w.state (reply_kept first) x.step.reply x.told.reply p in
      let b = sound_told origin.vid w.state (reply_kept second) y.step.reply y.told.reply q in
      let h = led (shape_of origin) w x.step v (event_told (event_kept event)) x.told.event a x.leads in
      let k = led (shape_of origin) w y.step u (event_told (event_kept event)) y.told.event b y.leads in
      let same = does_decided (shape_of origin) w (event_told (event_kept event)) x.step.reply y.step.reply v u lone h k a b in
      let unheard = does_unheard (shape_of origin) w (event_told (event_kept event)) x.step.reply v lone h in
      (unheard_decided origin.vid w.state first second x.step.reply y.step.reply x.told.reply y.told.reply unheard same.0, same.1)

  send : (request : sent.Request) (first second : Reply) → is_open_about w (events.Send request) ≡ true → is_failure (reply_kept first) ≡ false → is_failure (reply_kept second) ≡ false
      → IsDone origin w (events.Send request) first v → IsDone origin w (events.Send request) second u → (first ≡ second) × (v ≡ u)
  send request first second told p q x y =
      let vid = origin.vid in let puts = w.state.puts in
      let a = sound_told vid w.state (reply_kept first) x.step.reply x.told.reply p in
      let b = sound_told vid w.state (reply_kept second) y.step.reply y.told.reply q in
      let event = ToldEvent.Send (request_of request) in
      let h = led (shape_of origin) w x.step v event (x.told.event ∙ ap ToldEvent.Send (sym (request_tells request))) a x.leads in
      let k = led (shape_of origin) w y.step u event (y.told.event ∙ ap ToldEvent.Send (sym (request_tells request))) b y.leads in
      let same = sends_decided (shape_of origin) w (request_of request) x.step.reply y.step.reply v u told h k
      (well_told vid w.state origin.mode puts request first x.step.reply x.told.reply x.whole p)
      (well_told vid w.state origin.mode puts request second y.step.reply y.told.reply y.whole q) in
      let read = λ (live : x.step.reply ≡ ToldReply.Heard Answer.Live).
      live_read (shape_of origin) w (request_of request) v told (subst (λ r. Does (shape_of origin) w event r v) live h) in
      (heard_decided vid w.state origin.mode puts request first second x.step.reply y.step.reply x.told.reply y.told.reply x.whole y.whole read same.0, same.1)

  flush : (first second : Reply) → is_open_about w events.FlushOne ≡ true → is_failure (reply_kept first) ≡ false → is_failure (reply_kept second) ≡ false
      → IsDone origin w events.FlushOne first v → IsDone origin w events.FlushOne second u → (first ≡ second) × (v ≡ u)
  flush first second free p q x y =
      let a = sound_told origin.vid w.state (reply_kept first) x.step.reply x.told.reply p in
      let b = sound_told origin.vid w.state (reply_kept second) y.step.reply y.told.reply q in
      let h = led (shape_of origin) w x.step v ToldEvent.FlushOne x.told.event a x.leads in
      let k = led (shape_of origin) w y.step u ToldEvent.FlushOne y.told.event b y.leads in
      let same = flushes_decided (shape_of origin) w w.late x.step.reply y.step.reply v u free h.1 k.1 in
      let unheard = flushes_unheard (shape_of origin) w w.late x.step.reply v h.1 in
      (unheard_decided origin.vid w.state first second x.step.reply y.step.reply x.told.reply y.told.reply unheard same.0, same.1)

plan_decided : (shape : VolumeShape) (w : World) (event : ToldEvent) (r q : ToldReply) (v u at : World) → (r ≡ ToldReply.Done) × (v ≡ at) → (q ≡ ToldReply.Done) × (u ≡ at) → (r ≡ q) × (v ≡ u) × (is_heard r ≡ false)
plan_decided shape w event r q v u at h k = (h.0 ∙ sym k.0, h.1 ∙ sym k.1, ap is_heard h.0)

pub steps_are_decided : StepsAreDecided
steps_are_decided origin w v u (events.Send request) first second open_ p q x y = send origin w v u request first second open_ p q x y
steps_are_decided origin w v u events.FlushOne first second open_ p q x y = flush origin w v u first second open_ p q x y
steps_are_decided origin w v u (events.Plan disk fate count) first second open_ p q x y =
    let event = ToldEvent.Plan disk fate count in
    let a = sound_told origin.vid w.state (reply_kept first) x.step.reply x.told.reply p in
    let b = sound_told origin.vid w.state (reply_kept second) y.step.reply y.told.reply q in
    let h = led (shape_of origin) w x.step v event x.told.event a x.leads in
    let k = led (shape_of origin) w y.step u event y.told.event b y.leads in
    let same = plan_decided (shape_of origin) w event x.step.reply y.step.reply v u _ h k in
    (unheard_decided origin.vid w.state first second x.step.reply y.step.reply x.told.reply y.told.reply same.2 same.0, same.1)
steps_are_decided origin w v u event first second open_ p q x y = one origin w v u event first second tt p q x y
