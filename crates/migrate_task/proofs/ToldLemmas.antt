-- What a way tells of a blob holds in each state to which its entries lead.
use Rattle.std.proofs.Common.{◌≡◌, ℕ, ◌⊎◌, inl, inr, Bool, true, false, cond, ◌==◌, List, [], ◌∷◌, ◌++◌, append_assoc, refl, sym, ◌∙◌, ap, subst}
use Rattle.std.proofs.lemmas.Bool.{eqb-true}
use Rattle.unit_id.specs.Lists.{IsIn}
use Rattle.unit_id.specs.UnitName.{Name}
use Rattle.unit_id.specs.Place.{Location, Place}
use Rattle.unit_id.specs.Request.{Request, Answer, place_of}
use Rattle.unit_id.specs.declared.request.Request.TheVariants as requests
use Rattle.unit_id.specs.declared.answer.Answer.TheVariants as answers
use Rattle.unit_id.proofs.Bools.{either, contrary}
use Rattle.code_mode.specs.declared.mode.Mode.{Mode}
use Rattle.code_mode.specs.VolumeShape.{VolumeShape}
use Rattle.volume_entry.specs.Reply.{Reply}
use Rattle.volume_world.specs.Event.{Event}
use Rattle.volume_world.specs.State.{State, Status, Puts}
use Rattle.volume_world.specs.BlobStatus.{is_begun, is_open}
use Rattle.volume_world.specs.Move.{Move, Moves, MovesAll, Begins, Ends, Happens, Ticks, Breaks, Restarts, RestartsManager, Looks, SettlesManager, SettlesUnit, puts_hear}
use Rattle.volume_world.specs.Run.{Late, World, Step, Flushes, Does, Leads, moves_of_send, next_fate}
use Rattle.volume_world.specs.Told.{Tells, MayBe, MayRun}
use Rattle.volume_world.specs.Way.{Origin, WayView, IsWay, shape_of}
use Rattle.volume_world.specs.Course.{Part, traces_of, GivesRight, IsWhole, PartLeads, PartsLead, Goes, Happens as StepHappens}
use Rattle.volume_world.specs.declared.event.Event.TheVariants as events
use Rattle.volume_world.specs.declared.reply.Reply.{Reply as CodeReply}
use Rattle.volume_world.specs.declared.reply.Reply.TheVariants as replies
use Rattle.volume_world.specs.declared.trace.TraceAnswer.TheVariants as kept_answer
use Rattle.volume_world.specs.declared.trace.TraceReply.{TraceReply}
use Rattle.volume_world.specs.declared.trace.TraceReply.TheVariants as kept_reply
use Rattle.volume_world.specs.declared.trace.Trace.{Trace}
use Rattle.volume_world.proofs.EntryMoves.{refused_same, sends_only_tick}
use Rattle.volume_world.proofs.RunProofs.{runs_are_borne_out}
use Rattle.volume_world.proofs.Telling.{entry_stays}
use Rattle.migrate_task.specs.Rows.{InEach, IsBegunWith, IsRowOf, IsRowRight, IsReadRight}

-- begun, with these bytes
abbrev HasBegun : ℕ → List ℕ → State → Type 0
HasBegun b payload s = (is_begun (s.puts.status b) ≡ true) × (s.puts.payload b ≡ payload)

-- ---- only a begin begins

-- no blob is begun that wasn't
abbrev NoneBegins : State → State → Type 0
NoneBegins s t = (b : ℕ) → is_begun (t.puts.status b) ≡ true → is_begun (s.puts.status b) ≡ true

none_by : (s t : State) → t.puts ≡ s.puts → NoneBegins s t
none_by s t e = λ b h. ap (λ puts. is_begun (puts.status b)) (sym e) ∙ h

open_begun : (status : Status) → is_open status ≡ true → is_begun status ≡ true
open_begun Status.NotBegun h = cc
open_begun Status.Open h = refl
open_begun Status.Acked h = cc
open_begun Status.Failed h = cc

none_ended : (s : State) (bid : ℕ) (status : Status) → is_open (s.puts.status bid) ≡ true → (b : ℕ) → is_begun (cond (b == bid) status (s.puts.status b)) ≡ true → is_begun (s.puts.status b) ≡ true
none_ended s bid status was b h = go (b == bid) refl h
  where
    go : (test : Bool) → b == bid ≡ test → is_begun (cond test status (s.puts.status b)) ≡ true → is_begun (s.puts.status b) ≡ true
    go true e k = ap (λ c. is_begun (s.puts.status c)) (eqb-true b bid e) ∙ open_begun (s.puts.status bid) was
    go false e k = k

end_none : (shape : VolumeShape) (bid : ℕ) (s : State) (reply : Reply) (t : State) → Ends shape bid s reply t → NoneBegins s t
end_none shape bid s Reply.NotOpen t h = none_by s t (ap (λ (x : State). x.puts) h.1)
end_none shape bid s (Reply.LeaseOver end time) t h = λ b k. none_ended s bid Status.Failed h.0 b (ap (λ (x : State). is_begun (x.puts.status b)) (sym h.4) ∙ k)
end_none shape bid s (Reply.Quorum n) t h = λ b k. none_ended s bid Status.Failed h.0 b (ap (λ (x : State). is_begun (x.puts.status b)) (sym h.4) ∙ k)
end_none shape bid s (Reply.Acked n) t h = λ b k. none_ended s bid Status.Acked h.0 b (ap (λ (x : State). is_begun (x.puts.status b)) (sym h.4) ∙ k)
end_none shape bid s reply t h = absurd h

tick_none : (by : ℕ) (s : State) (reply : Reply) (t : State) → Ticks by s reply t → t.puts ≡ s.puts
tick_none by s (Reply.Now time) t h = ap (λ (x : State). x.puts) h.1
tick_none by s reply t h = absurd h

break_none : (disk : ℕ) (s : State) (reply : Reply) (t : State) → Breaks disk s reply t → t.puts ≡ s.puts
break_none disk s Reply.Done t h = ap (λ (x : State). x.puts) h
break_none disk s reply t h = absurd h

restart_none : (disk : ℕ) (s : State) (reply : Reply) (t : State) → Restarts disk s reply t → t.puts ≡ s.puts
restart_none disk s Reply.Done t (inl h) = ap (λ (x : State). x.puts) h.1
restart_none disk s Reply.Done t (inr h) = ap (λ (x : State). x.puts) h.2
restart_none disk s Reply.Fault t h = ap (λ (x : State). x.puts) h.2
restart_none disk s reply t h = absurd h

restart_manager_none : (s : State) (reply : Reply) (t : State) → RestartsManager s reply t → t.puts ≡ s.puts
restart_manager_none s Reply.Done t h = ap (λ (x : State). x.puts) h.1
restart_manager_none s Reply.Fault t h = ap (λ (x : State). x.puts) h
restart_manager_none s reply t h = absurd h

look_none : (s : State) (reply : Reply) (t : State) → Looks s reply t → t.puts ≡ s.puts
look_none s (Reply.Seen view) t h = ap (λ (x : State). x.puts) h.1
look_none s reply t h = absurd h

-- the event begins no blob
abbrev IsOther : Event → Type 0
IsOther event = (bid : ℕ) (payload : List ℕ) → event ≡ Event.Begin bid payload → ⊥

happen_none : (shape : VolumeShape) (s : State) (event : Event) (reply : Reply) (t : State) → IsOther event → Happens shape s event reply t → NoneBegins s t
happen_none shape s (Event.Tick by) reply t other h = none_by s t (tick_none by s reply t h)
happen_none shape s (Event.Plan disk fate count) reply t other h = none_by s t (ap (λ (x : State). x.puts) h.1)
happen_none shape s (Event.Break disk) reply t other h = none_by s t (break_none disk s reply t h)
happen_none shape s (Event.Restart disk) reply t other h = none_by s t (restart_none disk s reply t h)
happen_none shape s Event.RestartManager reply t other h = none_by s t (restart_manager_none s reply t h)
happen_none shape s Event.Lease reply t other h = none_by s t (ap (λ (x : State). x.puts) h.1.1)
happen_none shape s (Event.Begin bid payload) reply t other h = absurd (other bid payload refl)
happen_none shape s (Event.End bid) reply t other h = end_none shape bid s reply t h.1
happen_none shape s (Event.Lock task targets) reply t other h = none_by s t (ap (λ (x : State). x.puts) h.1.2)
happen_none shape s (Event.Retarget task index disk) reply t other h = none_by s t (ap (λ (x : State). x.puts) h.1.2)
happen_none shape s (Event.Swap task) reply t other h = none_by s t (ap (λ (x : State). x.puts) h.1.1)
happen_none shape s (Event.Unlock task) reply t other h = none_by s t (ap (λ (x : State). x.puts) h.1.1)
happen_none shape s (Event.Ask bid) reply t other h = none_by s t (ap (λ (x : State). x.puts) h.1.2)
happen_none shape s (Event.Commit bid) reply t other h = none_by s t (ap (λ (x : State). x.puts) h.1.2)
happen_none shape s Event.Look reply t other h = none_by s t (look_none s reply t h.1)
happen_none shape s event reply t other h = absurd h.1

hear_same : (r : Request) (a : Answer) (puts : Puts) → (puts_hear r a puts).status ≡ puts.status
hear_same (Request.Put p b) Answer.Done puts = refl
hear_same (Request.Put p b) Answer.Already puts = refl
hear_same r a puts = refl

settle_none : (s : State) (found : Bool) (t : State) → SettlesManager s found t → t.puts ≡ s.puts
settle_none s true t h = ap (λ (x : State). x.puts) h.2
settle_none s false t h = ap (λ (x : State). x.puts) h.1

settle_unit_none : (p : Place) (s : State) (found : Bool) (t : State) → SettlesUnit p s found t → t.puts ≡ s.puts
settle_unit_none p s true t h = ap (λ (x : State). x.puts) h.2
settle_unit_none p s false t h = ap (λ (x : State). x.puts) h.1

-- the move begins no blob
abbrev IsOtherMove : Move → Type 0
IsOtherMove move = (bid : ℕ) (payload : List ℕ) (reply : Reply) → move ≡ Move.Happen (Event.Begin bid payload) reply → ⊥

move_none : (shape : VolumeShape) (s : State) (move : Move) (t : State) → IsOtherMove move → Moves shape s move t → NoneBegins s t
move_none shape s (Move.Issue r) t other h = none_by s t (ap (λ (x : State). x.puts) h.2)
move_none shape s (Move.Handle r a e) t other h = none_by s t (ap (λ (x : State). x.puts) h.2)
move_none shape s (Move.Hear r a) t other h = λ b k. ap (λ status. is_begun (status b)) (sym (ap (λ (x : State). x.puts.status) h.1 ∙ hear_same r a s.puts)) ∙ k
move_none shape s (Move.SettleManager found) t other h = none_by s t (settle_none s found t h)
move_none shape s (Move.SettleUnit p found) t other h = none_by s t (settle_unit_none p s found t h)
move_none shape s (Move.Happen event reply) t other h = happen_none shape s event reply t (λ bid payload e. other bid payload reply (ap (λ x. Move.Happen x reply) e)) h

moves_none : (shape : VolumeShape) (s : State) (moves : List Move) (t : State) → ((move : Move) → IsIn move moves → IsOtherMove move) → MovesAll shape s moves t → NoneBegins s t
moves_none shape s [] t other h = λ b k. ap (λ (x : State). is_begun (x.puts.status b)) (sym h) ∙ k
moves_none shape s (move ∷ moves) t other h =
    λ b k. move_none shape s move h.0 (other move (inl refl)) h.1 b (moves_none shape h.0 moves t (λ x i. other x (inr i)) h.2 b k)

world_none : (w v : World) → v ≡ w → NoneBegins w.state v.state
world_none w v e = λ b k. ap (λ (x : World). is_begun (x.state.puts.status b)) (sym e) ∙ k

flush_none : (shape : VolumeShape) (w : World) (late : List Late) (reply : Reply) (v : World) → Flushes shape w late reply v → NoneBegins w.state v.state
flush_none shape w [] reply v h = world_none w v h.1
flush_none shape w (Late.LateRequest r ∷ rest) reply v h =
    moves_none shape w.state (Move.Handle r h.1.0 h.1.1 ∷ []) v.state (λ move i bid payload said e. elim i [ inl x ↦ cc | inr x ↦ absurd x ]) h.1.2
flush_none shape w (Late.LateAnswer r a ∷ rest) reply v h =
    moves_none shape w.state (Move.Hear r a ∷ []) v.state (λ move i bid payload said e. elim i [ inl x ↦ cc | inr x ↦ absurd x ]) h.1

does_none : (shape : VolumeShape) (w : World) (event : Event) (reply : Reply) (v : World) → IsOther event → Does shape w event reply v → NoneBegins w.state v.state
does_none shape w (Event.Plan disk f count) reply v other h = λ b k. ap (λ (x : World). is_begun (x.state.puts.status b)) (sym h.1) ∙ k
does_none shape w (Event.Send r) Reply.Barred v other h = world_none w v h.2
does_none shape w (Event.Send r) reply v other h =
    let f = next_fate w.planned (place_of r).disk in
    moves_none shape w.state (moves_of_send f w.state.time r h.answer h.effect) v.state
    (λ move i bid payload said e. let tick = sends_only_tick f w.state.time r h.answer h.effect (Event.Begin bid payload) said (subst (λ m. IsIn m (moves_of_send f w.state.time r h.answer h.effect)) e i) in cc) h.moves
does_none shape w Event.FlushOne reply v other h = flush_none shape w w.late reply v h.1
does_none shape w (Event.Settle disk is_found) reply v other h = elim h.1.0 [
  | inl manager ↦ moves_none shape w.state (Move.SettleManager is_found ∷ []) v.state (λ move i bid payload said e. elim i [ inl x ↦ cc | inr x ↦ absurd x ]) manager.1
  | inr unit ↦ moves_none shape w.state (Move.SettleUnit unit.1.place is_found ∷ []) v.state (λ move i bid payload said e. elim i [ inl x ↦ cc | inr x ↦ absurd x ]) (v.state, unit.1.settles, refl)
]
does_none shape w event reply v other h =
    moves_none shape w.state (Move.Happen event reply ∷ []) v.state (λ move i bid payload said e. elim i [ inl x ↦ other bid payload (same bid payload said (sym x ∙ e)) | inr x ↦ absurd x ]) h.0
  where
    same : (bid : ℕ) (payload : List ℕ) (said : Reply) → Move.Happen event reply ≡ Move.Happen (Event.Begin bid payload) said → event ≡ Event.Begin bid payload
    same bid payload said e = cc

entry_none : (shape : VolumeShape) (w : World) (step : Step) (v : World) → IsOther step.event → Leads shape w step v → NoneBegins w.state v.state
entry_none shape w step v other (inl h) = does_none shape w step.event step.reply v other h
entry_none shape w step v other (inr h) = world_none w v (refused_same w step.event step.reply v h)

-- ---- a begin

abbrev IsBegin : Event → Type 0
IsBegin event = (bid : ℕ) × (payload : List ℕ) × (event ≡ Event.Begin bid payload)

begin_or : (event : Event) → IsBegin event ⊎ IsOther event
begin_or (Event.Begin bid payload) = inl (bid, payload, refl)
begin_or event = inr (λ bid payload e. cc)

record IsBegunReply (reply : Reply) : Type 0 where
  end : ℕ
  homes : List Location
  flags : List Bool
  is : reply ≡ Reply.Begun end homes flags

begun_both : (vid : ℕ) (s t : State) (kept : TraceReply) (r q : Reply) → Tells vid s kept r → Tells vid t kept q → IsBegunReply r → IsBegunReply q
begun_both vid s t (kept_reply.Begun end units) r (Reply.Begun e homes flags) h k b = record { end = e; homes = homes; flags = flags; is = refl }
begun_both vid s t (kept_reply.Begun end units) r q h k b = absurd k
begun_both vid s t kept r q h k b = absurd (subst (λ (x : Reply). Tells vid s kept x) b.is h)

-- what a begin has begun
record HasNew (bid : ℕ) (payload : List ℕ) (reply : Reply) (b : ℕ) (t : State) : Type 0 where
  said : IsBegunReply reply
  same : b ≡ bid
  bytes : t.puts.payload b ≡ payload

begins_new : (bid : ℕ) (payload : List ℕ) (s : State) (reply : Reply) (t : State) (b : ℕ) → Begins bid payload s reply t → is_begun (s.puts.status b) ≡ false → is_begun (t.puts.status b) ≡ true → HasNew bid payload reply b t
begins_new bid payload s (Reply.Begun end homes flags) t b h before now =
    let bytes : t.puts.payload b ≡ cond (b == bid) payload (s.puts.payload b) = ap (λ (x : State). x.puts.payload b) h.4 in
    go (b == bid) refl (ap (λ (x : State). is_begun (x.puts.status b)) (sym h.4) ∙ now) bytes
  where
    go : (test : Bool) → b == bid ≡ test → is_begun (cond test Status.Open (s.puts.status b)) ≡ true → t.puts.payload b ≡ cond test payload (s.puts.payload b) → HasNew bid payload (Reply.Begun end homes flags) b t
    go true e k bytes = record { said = record { end = end; homes = homes; flags = flags; is = refl }; same = eqb-true b bid e; bytes = bytes }
    go false e k bytes = absurd (contrary (is_begun (s.puts.status b)) k before)
begins_new bid payload s reply t b h before now = absurd (contrary (is_begun (s.puts.status b)) (ap (λ (x : State). is_begun (x.puts.status b)) (sym h.1) ∙ now) before)

entry_new : (shape : VolumeShape) (w v : World) (bid : ℕ) (payload : List ℕ) (reply : Reply) (b : ℕ) → Leads shape w (record { event = Event.Begin bid payload; reply = reply }) v → is_begun (w.state.puts.status b) ≡ false
    → is_begun (v.state.puts.status b) ≡ true → HasNew bid payload reply b v.state
entry_new shape w v bid payload reply b (inl h) before now =
    subst (HasNew bid payload reply b) (sym h.0.2) (begins_new bid payload w.state reply h.0.0 b h.0.1.1.1 before (ap (λ (x : State). is_begun (x.puts.status b)) (sym h.0.2) ∙ now))
entry_new shape w v bid payload reply b (inr h) before now = absurd (contrary (is_begun (w.state.puts.status b)) (ap (λ (x : World). is_begun (x.state.puts.status b)) (sym h.2) ∙ now) before)

-- ---- two runs of the same entries begin the same

begun_here : (vid : ℕ) (shape : VolumeShape) (w x : World) (trace : Trace) (u v : World) (b : ℕ) (p : List ℕ) (h : MayBe vid shape w trace u) (k : MayBe vid shape x trace v) → IsBegin h.step.event
    → is_begun (w.state.puts.status b) ≡ false → HasBegun b p u.state → HasBegun b p v.state
begun_here vid shape w x trace u v b p h k begin fresh now =
    let leads = subst (λ (e : Event). Leads shape w (record { event = e; reply = h.step.reply }) u) begin.2 h.leads in
    let new = entry_new shape w u begin.0 begin.1 h.step.reply b leads fresh now.0 in
    let said = begun_both vid w.state x.state trace.reply h.step.reply k.step.reply h.told.reply k.told.reply new.said in
    let asked : k.step.event ≡ Event.Begin begin.0 begin.1 = k.told.event ∙ sym h.told.event ∙ begin.2 in
    let is : k.step ≡ record { event = Event.Begin begin.0 begin.1; reply = Reply.Begun said.end said.homes said.flags } = λ i. record { event = asked i; reply = said.is i } in
    let borne = runs_are_borne_out.begun shape x v (k.step ∷ []) begin.0 begin.1 (v, k.leads, refl) (record { end = said.end; homes = said.homes; flags = said.flags; begun = inl (sym is) }) in
    (ap (λ c. is_begun (v.state.puts.status c)) new.same ∙ borne.0, ap (λ c. v.state.puts.payload c) new.same ∙ borne.1 ∙ sym new.bytes ∙ now.1)

same_step : (vid : ℕ) (shape : VolumeShape) (w x : World) (trace : Trace) (u v : World) (b : ℕ) → MayBe vid shape w trace u → MayBe vid shape x trace v → ((p : List ℕ) → HasBegun b p w.state → HasBegun b p x.state)
    → (p : List ℕ) → HasBegun b p u.state → HasBegun b p v.state
same_step vid shape w x trace u v b h k before p now = elim (either (is_begun (w.state.puts.status b))) [
  | inl was ↦
      let still = entry_stays shape w h.step u h.leads b was in
      let there = before p (was, sym still.payload ∙ now.1) in
      let later = entry_stays shape x k.step v k.leads b there.0 in
      (later.begun, later.payload ∙ there.1)
  | inr fresh ↦ elim (begin_or h.step.event) [
    | inl begin ↦ begun_here vid shape w x trace u v b p h k begin fresh now
    | inr other ↦ absurd (contrary (is_begun (w.state.puts.status b)) (entry_none shape w h.step u other h.leads b now.0) fresh)
  ]
]

same_run : (vid : ℕ) (shape : VolumeShape) (w x : World) (traces : List Trace) (u v : World) (b : ℕ) → MayRun vid shape w traces u → MayRun vid shape x traces v → ((p : List ℕ) → HasBegun b p w.state → HasBegun b p x.state)
    → (p : List ℕ) → HasBegun b p u.state → HasBegun b p v.state
same_run vid shape w x [] u v b h k before p now = subst (λ (y : World). HasBegun b p y.state) (sym k) (before p (subst (λ (y : World). HasBegun b p y.state) h now))
same_run vid shape w x (trace ∷ traces) u v b h k before p now = same_run vid shape h.0 k.0 traces u v b h.2 k.2 (same_step vid shape w x trace h.0 k.0 b h.1 k.1 before) p now

-- ---- what holds in each state

-- what holds of a state to which a way has come holds in each one
pub begun_each : (way : WayView) (b : ℕ) (P : List ℕ → Type 0) → IsWay way → (v : World) → way.is_at v → IsBegunWith b P v → InEach way (IsBegunWith b P)
begun_each way b P its v at h = λ told w run.
    let same = same_run way.origin.vid (shape_of way.origin) way.origin.start way.origin.start way.entries v w b (its.led told v at) run (λ p k. k) (v.state.puts.payload b) (h.0, refl) in
    (same.0, subst P (sym same.1) h.1)

run_split : (vid : ℕ) (shape : VolumeShape) (w : World) (xs ys : List Trace) (v : World) → MayRun vid shape w (xs ++ ys) v → (u : World) × MayRun vid shape w xs u × MayRun vid shape u ys v
run_split vid shape w [] ys v h = (w, refl, h)
run_split vid shape w (x ∷ xs) ys v h = let rest = run_split vid shape h.0 xs ys v h.2 in (rest.0, (h.0, h.1, rest.1), rest.2)

-- what every entry keeps
abbrev pub IsKept : (World → Type 0) → Type 0
IsKept P = (shape : VolumeShape) (w : World) (step : Step) (v : World) → Leads shape w step v → P w → P v

run_kept : (vid : ℕ) (shape : VolumeShape) (P : World → Type 0) → IsKept P → (w : World) (traces : List Trace) (v : World) → MayRun vid shape w traces v → P w → P v
run_kept vid shape P keep w [] v h p = subst P (sym h) p
run_kept vid shape P keep w (trace ∷ traces) v h p = run_kept vid shape P keep h.0 traces v h.2 (keep shape w h.1.step h.0 h.1.leads p)

-- .. holds on, when the way goes on
pub each_later : (old new : WayView) (parts : List Part) (P : World → Type 0) → IsKept P → Goes old new parts → InEach old P → InEach new P
each_later old new parts P keep h each =
    subst (λ (o : Origin). o.is_told ≡ true → (w : World) → MayRun o.vid (shape_of o) o.start new.entries w → P w) (sym h.origin)
    (subst (λ traces. old.origin.is_told ≡ true → (w : World) → MayRun old.origin.vid (shape_of old.origin) old.origin.start traces w → P w) (sym h.entries)
    (λ told w run.
    let two = run_split old.origin.vid (shape_of old.origin) old.origin.start old.entries (traces_of parts) w run in
    run_kept old.origin.vid (shape_of old.origin) P keep two.0 (traces_of parts) w two.2 (each told two.0 two.1)))

pub begun_kept : (b : ℕ) (P : List ℕ → Type 0) → IsKept (IsBegunWith b P)
begun_kept b P shape w step v h p = let still = entry_stays shape w step v h b p.0 in (still.begun, subst P (sym still.payload) p.1)

-- ---- reads

parts_last : (origin : Origin) (w : World) (ps : List Part) (p : Part) (v : World) → PartsLead origin w (ps ++ p ∷ []) v → (u : World) × PartLeads origin u p v
parts_last origin w [] p v h = (w, subst (λ x. PartLeads origin w p x) (sym h.2) h.1)
parts_last origin w (q ∷ ps) p v h = parts_last origin h.0 ps p v h.2

heard_right : (vid : ℕ) (s : State) (mode : Mode) (unit : Name) (disk bid size : ℕ) (bytes : List ℕ) (reply : Reply) → Tells vid s (kept_reply.Heard (kept_answer.Live size)) reply
    → IsWhole mode s.puts (events.Send (requests.Read unit disk bid)) (replies.Heard (answers.Live size bytes)) reply → GivesRight mode s.puts (requests.Read unit disk bid) (answers.Live size bytes)
heard_right vid s mode unit disk bid size bytes (Reply.Heard heard) told whole = whole.1
heard_right vid s mode unit disk bid size bytes reply told whole = absurd told

-- a live row that is read is the one of its unit, in each state to which the way has come
live_right : (old new : WayView) (unit : Name) (disk bid size : ℕ) (bytes : List ℕ) → IsWay old → IsWay new → StepHappens old new (events.Send (requests.Read unit disk bid)) (replies.Heard (answers.Live size bytes))
    → IsRowRight new bid unit.index size bytes
live_right old new unit disk bid size bytes was its h = λ told w run.
    let said : old.origin.is_told ≡ true = ap (λ (o : Origin). o.is_told) (sym h.goes.origin) ∙ told in
    let at = was.somewhere said in
    let led = h.goes.leads said at.0 at.1 in
    let asked = Part.Asking (events.Send (requests.Read unit disk bid)) (replies.Heard (answers.Live size bytes)) in
    let last = parts_last old.origin at.0 (h.others ++ h.settles) asked led.0 (subst (λ ps. PartsLead old.origin at.0 ps led.0) (sym (append_assoc h.others h.settles (asked ∷ []))) led.1) in
    let done = last.1 in
    let gives = heard_right old.origin.vid last.0.state old.origin.mode unit disk bid size bytes done.step.reply done.told.reply done.whole in
    let row : IsBegunWith bid (IsRowOf old.origin.mode unit.index size bytes) led.0 = begun_kept bid (IsRowOf old.origin.mode unit.index size bytes) (shape_of old.origin) last.0 done.step led.0 done.leads (gives.0, (gives.1, gives.2)) in
    begun_each new bid (IsRowOf new.origin.mode unit.index size bytes) its led.0 led.2
    (subst (λ (o : Origin). IsBegunWith bid (IsRowOf o.mode unit.index size bytes) led.0) (sym h.goes.origin) row) told w run

pub read_right : (old new : WayView) (unit : Name) (disk bid : ℕ) (reply : CodeReply) → IsWay old → IsWay new → StepHappens old new (events.Send (requests.Read unit disk bid)) reply → IsReadRight new bid unit.index reply
read_right old new unit disk bid (replies.Heard (answers.Live size bytes)) was its h = live_right old new unit disk bid size bytes was its h
read_right old new unit disk bid (replies.Heard answer) was its h = tt
read_right old new unit disk bid reply was its h = tt
