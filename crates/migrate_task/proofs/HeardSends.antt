-- What a request that is heard at once leaves, and what the code is told of it.
use Rattle.std.proofs.Common.{◌≡◌, ℕ, inl, inr, false, List, [], refl, sym, ◌∙◌, ap, subst}
use Rattle.unit_id.specs.Request.{Request, Answer, place_of}
use Rattle.unit_id.specs.Messages.{answer_of}
use Rattle.unit_id.specs.declared.request.Request.{Request as CodeRequest}
use Rattle.unit_id.specs.declared.answer.Answer.{Answer as ToldAnswer}
use Rattle.unit_id.proofs.Bools.{contrary}
use Rattle.code_mode.specs.declared.mode.Mode.{Mode}
use Rattle.code_mode.specs.VolumeShape.{VolumeShape}
use Rattle.code_mode.proofs.Numbers.{sound_shapes}
use Rattle.blob_node.specs.declared.fate.Fate.TheVariants as fate
use Rattle.blob_node.specs.UnitAnswer.{Effect, Answers, view_at, units_after}
use Rattle.volume_entry.specs.Manager.{Manager}
use Rattle.volume_entry.specs.ManagerStep.{hear}
use Rattle.volume_entry.specs.Reply.{Reply}
use Rattle.volume_world.specs.Event.{Event}
use Rattle.volume_world.specs.State.{State}
use Rattle.volume_world.specs.Move.{MovesAll, IsSendable, puts_hear}
use Rattle.volume_world.specs.Run.{World, Planned, Step, Leads, Does, Sends, IsRefusedByLog, IsSent, next_fate, without_next, moves_of_send, reply_of_send}
use Rattle.volume_world.specs.Invariant.{Kept}
use Rattle.volume_world.specs.Told.{Tells, request_told}
use Rattle.volume_world.specs.Way.{Origin, shape_of}
use Rattle.volume_world.specs.Course.{IsWhole, IsDone, GivesRight}
use Rattle.volume_world.specs.Trace.{reply_kept, request_kept}
use Rattle.volume_world.specs.declared.event.Event.TheVariants as events
use Rattle.volume_world.specs.declared.reply.Reply.{Reply as CodeReply}
use Rattle.volume_world.specs.declared.reply.Reply.TheVariants as replies
use Rattle.volume_world.proofs.Telling.{entry_keeps}

-- what a request that isn't lost leaves
pub record Sent (w u : World) (r : Request) (a : Answer) (e : Effect) : Type 0 where
  pub answers : Answers (view_at w.state.broken w.state.units (place_of r)) r a e
  pub units : u.state.units ≡ units_after (place_of r) r e w.state.units
  pub manager : u.state.manager ≡ hear r a w.state.manager
  pub puts : u.state.puts ≡ puts_hear r a w.state.puts
  pub broken : u.state.broken ≡ w.state.broken
  pub planned : u.planned ≡ []

pub record IsHeard (w u : World) (r : Request) (reply : Reply) : Type 0 where
  pub answer : Answer
  pub effect : Effect
  pub heard : reply ≡ Reply.Heard answer
  pub sent : Sent w u r answer effect

by_moves : (total time : ℕ) (w u : World) (r : Request) (a : Answer) (e : Effect) (shape : VolumeShape) → MovesAll shape w.state (moves_of_send fate.Pass time r a e) u.state → u.planned ≡ [] → Sent w u r a e
by_moves total time w u r a e shape m planned =
    let one = m.1.2 in
    let two = m.2.1.2 in
    let three = m.2.2.1.1 in
    let end = m.2.2.2 in
    record {
      answers = subst (λ (x : State). Answers (view_at x.broken x.units (place_of r)) r a e) one m.2.1.1;
      units = ap (λ (x : State). x.units) end ∙ ap (λ (x : State). x.units) three ∙ ap (λ (x : State). x.units) two ∙ ap (λ (x : State). units_after (place_of r) r e x.units) one;
      manager = ap (λ (x : State). x.manager) end ∙ ap (λ (x : State). x.manager) three ∙ ap (λ (x : State). hear r a x.manager) two ∙ ap (λ (x : State). hear r a x.manager) one;
      puts = ap (λ (x : State). x.puts) end ∙ ap (λ (x : State). x.puts) three ∙ ap (λ (x : State). puts_hear r a x.puts) two ∙ ap (λ (x : State). puts_hear r a x.puts) one;
      broken = ap (λ (x : State). x.broken) end ∙ ap (λ (x : State). x.broken) three ∙ ap (λ (x : State). x.broken) two ∙ ap (λ (x : State). x.broken) one;
      planned = planned;
    }

sent_heard : (shape : VolumeShape) (w u : World) (r : Request) (reply : Reply) → w.planned ≡ [] → IsSent shape w r reply u → IsHeard w u r reply
sent_heard shape w u r reply unplanned h = record {
  answer = h.answer;
  effect = h.effect;
  heard = subst (λ (ps : List Planned). reply ≡ reply_of_send (next_fate ps (place_of r).disk) h.answer) unplanned h.told;
  sent = by_moves shape.total w.state.time w u r h.answer h.effect shape
      (subst (λ (ps : List Planned). MovesAll shape w.state (moves_of_send (next_fate ps (place_of r).disk) w.state.time r h.answer h.effect) u.state) unplanned h.moves)
      (subst (λ (ps : List Planned). u.planned ≡ without_next ps (place_of r).disk) unplanned h.planned);
}

sends_heard : (shape : VolumeShape) (w u : World) (r : Request) (reply : Reply) → IsSendable shape.total w.state.puts.status w.state.manager r → w.planned ≡ [] → Sends shape w r reply u → IsHeard w u r reply
sends_heard shape w u r Reply.Barred may unplanned h = absurd (h.1 may)
sends_heard shape w u r reply may unplanned h = sent_heard shape w u r reply unplanned h

pub send_heard : (shape : VolumeShape) (w u : World) (r : Request) (step : Step) → step.event ≡ Event.Send r → w.state.manager.is_shut ≡ false → IsSendable shape.total w.state.puts.status w.state.manager r → w.planned ≡ []
    → Leads shape w step u → IsHeard w u r step.reply
send_heard shape w u r step e unshut may unplanned (inl h) = sends_heard shape w u r step.reply may unplanned (subst (λ event. Does shape w event step.reply u) e h)
send_heard shape w u r step e unshut may unplanned (inr h) =
    let refused = subst (λ event. IsRefusedByLog w event step.reply u) e h in absurd (contrary w.state.manager.is_shut refused.0 unshut)

-- ---- what the code is told

-- the answer that the code was told
record IsAnswered (mode : Mode) (s : State) (sent : CodeRequest) (reply : CodeReply) (a : Answer) : Type 0 where
  answer : ToldAnswer
  is : reply ≡ replies.Heard answer
  same : a ≡ answer_of answer
  right : GivesRight mode s.puts sent answer

answered : (vid : ℕ) (mode : Mode) (s : State) (sent : CodeRequest) (reply : CodeReply) (a : Answer) → Tells vid s (reply_kept reply) (Reply.Heard a) → IsWhole mode s.puts (events.Send sent) reply (Reply.Heard a)
    → IsAnswered mode s sent reply a
answered vid mode s sent (replies.Heard answer) a told whole = record { answer = answer; is = refl; same = whole.0; right = whole.1 }
answered vid mode s sent reply a told whole = absurd told

-- a request that was heard: the answer that the code was told, and what it leaves
pub record IsTold (origin : Origin) (w u : World) (sent : CodeRequest) (r : Request) (reply : CodeReply) : Type 0 where
  pub answer : ToldAnswer
  pub effect : Effect
  pub is : reply ≡ replies.Heard answer
  pub leaves : Sent w u r (answer_of answer) effect
  pub right : GivesRight origin.mode w.state.puts sent answer
  pub keeps : Kept (shape_of origin) w.state → Kept (shape_of origin) u.state

pub is_told : (origin : Origin) (w u : World) (sent : CodeRequest) (r : Request) (reply : CodeReply) → request_told (request_kept sent) ≡ r → w.state.manager.is_shut ≡ false
    → IsSendable (shape_of origin).total w.state.puts.status w.state.manager r → w.planned ≡ [] → IsDone origin w (events.Send sent) reply u → IsTold origin w u sent r reply
is_told origin w u sent r reply at unshut may unplanned done =
    let event = done.told.event ∙ ap (λ x. Event.Send x) at in
    let heard : IsHeard w u r done.step.reply = send_heard (shape_of origin) w u r done.step event unshut may unplanned done.leads in
    let told = subst (λ x. Tells origin.vid w.state (reply_kept reply) x) heard.heard done.told.reply in
    let whole = subst (λ x. IsWhole origin.mode w.state.puts (events.Send sent) reply x) heard.heard done.whole in
    let code : IsAnswered origin.mode w.state sent reply heard.answer = answered origin.vid origin.mode w.state sent reply heard.answer told whole in
    record {
      answer = code.answer;
      effect = heard.effect;
      is = code.is;
      leaves = subst (λ a. Sent w u r a heard.effect) code.same heard.sent;
      right = code.right;
      keeps = λ kept. entry_keeps (shape_of origin) w done.step u (sound_shapes origin.mode origin.disks) kept done.leads;
    }

-- ---- steps of the manager

-- only the manager changes
pub record IsBy (w u : World) (Gives : Manager → Type 0) : Type 0 where
  pub gives : Gives u.state.manager
  pub units : u.state.units ≡ w.state.units
  pub puts : u.state.puts ≡ w.state.puts
  pub broken : u.state.broken ≡ w.state.broken
  pub planned : u.planned ≡ w.planned

pub is_by : (w u : World) (t : State) (Gives : Manager → Type 0) → Gives t.manager → t ≡ record (w.state) { manager = t.manager } → u.state ≡ t → u ≡ record w { state = u.state } → IsBy w u Gives
is_by w u t Gives gives only last whole = record {
  gives = subst (λ (x : State). Gives x.manager) (sym last) gives;
  units = ap (λ (x : State). x.units) last ∙ ap (λ (x : State). x.units) only;
  puts = ap (λ (x : State). x.puts) last ∙ ap (λ (x : State). x.puts) only;
  broken = ap (λ (x : State). x.broken) last ∙ ap (λ (x : State). x.broken) only;
  planned = ap (λ (x : World). x.planned) whole;
}
