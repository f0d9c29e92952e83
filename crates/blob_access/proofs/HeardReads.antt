-- What is heard of a unit that is current, unbroken and has a live row of the blob: the shard, unless the read fails.
use Rattle.std.proofs.Common.{◌≡◌, ℕ, ◌+◌, ◌<◌, ◌⊎◌, inl, inr, true, false, List, length, Option, refl, sym, ◌∙◌, ap, subst, arith}
use Rattle.std.specs.Prelude.{min}
use Rattle.unit_id.specs.UnitName.{Name}
use Rattle.unit_id.specs.Place.{Location, Place}
use Rattle.unit_id.specs.Request.{Request, Answer, place_of}
use Rattle.unit_id.specs.Messages.{place_at, answer_of}
use Rattle.unit_id.specs.declared.request.Request.TheVariants as requests
use Rattle.unit_id.specs.declared.answer.Answer.{Answer as ToldAnswer}
use Rattle.unit_id.specs.declared.answer.Answer.TheVariants as answers
use Rattle.unit_id.proofs.Bools.{contrary, either}
use Rattle.code_mode.specs.VolumeShape.{VolumeShape, last_time}
use Rattle.code_mode.specs.PayloadShard.{PayloadShard}
use Rattle.code_mode.specs.declared.mode.Mode.{Mode}
use Rattle.code_mode.specs.Mode.{shard_size}
use Rattle.code_mode.proofs.AnyShards.{length-shard_of}
use Rattle.blob_node.specs.declared.fate.Fate.{Fate}
use Rattle.blob_node.specs.declared.fate.Fate.TheVariants as fate
use Rattle.blob_node.specs.Units.{RowState, is_live}
use Rattle.blob_node.specs.UnitAnswer.{Effect, Answers, IsStale, view_at}
use Rattle.volume_entry.specs.Manager.{home_at, current, transfers_of, is_swapped}
use Rattle.volume_entry.specs.Reply.{Reply}
use Rattle.volume_world.specs.Event.{Event}
use Rattle.volume_world.specs.State.{Puts, State}
use Rattle.volume_world.specs.Move.{MovesAll, Issues, Happens}
use Rattle.volume_world.specs.Run.{World, Step, Leads, Does, Sends, IsRefusedByLog, moves_of_send, reply_of_send, next_fate}
use Rattle.volume_world.specs.Invariant.{Kept}
use Rattle.volume_world.specs.Told.{Tells}
use Rattle.volume_world.specs.Way.{Origin, shape_of}
use Rattle.volume_world.specs.Course.{GivesRight, IsWhole, IsDone}
use Rattle.volume_world.specs.Trace.{reply_kept}
use Rattle.volume_world.specs.declared.event.Event.TheVariants as events
use Rattle.volume_world.specs.declared.reply.Reply.{Reply as CodeReply}
use Rattle.volume_world.specs.declared.reply.Reply.TheVariants as replies
use Rattle.volume_world.specs.declared.trace.TraceReply.TheVariants as kept_reply
use Rattle.volume_world.proofs.Transfers.{destination_gives}
use Rattle.blob_access.specs.Causes.{is_failed}

-- the current unit of this index is on an unbroken disk, and has a live row of the blob
pub record IsGood (total : ℕ) (s : State) (bid i : ℕ) : Type 0 where
  pub below : i < total
  pub unbroken : s.broken (home_at s.manager.homes i).disk ≡ false
  pub live : is_live (s.units.row (current s.manager.homes i) bid) ≡ true

-- ---- the unit

is_made : (shape : VolumeShape) (s : State) (bid i : ℕ) → Kept shape s → IsGood shape.total s bid i → s.units.is_made (current s.manager.homes i) ≡ true
is_made shape s bid i k g = elim (either (s.units.is_made (current s.manager.homes i))) [
  | inl made ↦ made
  | inr unmade ↦ absurd (contrary (is_live (s.units.row (current s.manager.homes i) bid)) g.live (ap is_live (k.form.units.unmade_has_no_rows (current s.manager.homes i) unmade bid)))
]

-- no later unit of its index is on its disk
no_later : (shape : VolumeShape) (s : State) (i epoch : ℕ) → Kept shape s → i < shape.total → s.broken (home_at s.manager.homes i).disk ≡ false
    → s.units.is_made (record { index = i; epoch = epoch; disk = (home_at s.manager.homes i).disk }) ≡ true → (home_at s.manager.homes i).epoch < epoch → ⊥
no_later shape s i epoch k below unbroken made above = elim (k.placement.above_current (record { index = i; epoch = epoch; disk = (home_at s.manager.homes i).disk }) made above) [
  | inl broken ↦ contrary (s.broken (home_at s.manager.homes i).disk) broken unbroken
  | inr there ↦
      let found = destination_gives (transfers_of s.manager.lock) (record { index = i; epoch = epoch; disk = (home_at s.manager.homes i).disk }) there in
      elim (either (is_swapped s.manager.lock)) [
        | inl swapped ↦
            let home = k.succession.is_current swapped found.0 found.1 in
            let same = ap (λ n. (home_at s.manager.homes n).epoch) found.2 in
            let e = ap (λ (x : Location). x.epoch) home in
            let f = found.3 in
            omega arith
        | inr unswapped ↦
            k.placement.destinations_free unswapped found.0 found.1 i below
            (k.placement.destination_at_home (record { index = i; epoch = epoch; disk = (home_at s.manager.homes i).disk }) found.0 made found.1 (sym found.2) (sym found.3))
      ]
]

not_stale : (shape : VolumeShape) (s : State) (bid i have : ℕ) → Kept shape s → IsGood shape.total s bid i → IsStale (view_at s.broken s.units (current s.manager.homes i)) have → ⊥
not_stale shape s bid i have k g h = elim h.outlived [
  | inl released ↦ contrary (is_live (s.units.row (current s.manager.homes i) bid)) g.live (ap is_live (k.support.units.released_units_have_no_rows (current s.manager.homes i) released bid))
  | inr above ↦ no_later shape s i have k g.below g.unbroken h.made above
]

not_live : (row : Option RowState) (other : Option RowState) → is_live row ≡ true → row ≡ other → is_live other ≡ false → ⊥
not_live row other live e none = contrary (is_live row) live (ap is_live e ∙ none)

abbrev LiveOrFault : Answer → Type 0
LiveOrFault answer = (answer ≡ Answer.Live) ⊎ (answer ≡ Answer.Fault)

good_answer : (shape : VolumeShape) (s : State) (bid i : ℕ) (a : Answer) (e : Effect) → Kept shape s → IsGood shape.total s bid i
    → Answers (view_at s.broken s.units (current s.manager.homes i)) (Request.Read (current s.manager.homes i) bid) a e → LiveOrFault a
good_answer shape s bid i Answer.Broken Effect.Nothing k g h = absurd (contrary (s.broken (home_at s.manager.homes i).disk) h g.unbroken)
good_answer shape s bid i (Answer.Stale have) Effect.Nothing k g h = absurd (not_stale shape s bid i have k g h)
good_answer shape s bid i Answer.NoUnit Effect.Nothing k g h = absurd (contrary (s.units.is_made (current s.manager.homes i)) (is_made shape s bid i k g) h.1)
good_answer shape s bid i Answer.Fault Effect.Nothing k g h = inr refl
good_answer shape s bid i Answer.Fault Effect.Started k g h = inr refl
good_answer shape s bid i Answer.Live Effect.Started k g h = inl refl
good_answer shape s bid i Answer.Marked Effect.Started k g h = absurd (not_live _ _ g.live h.1.1 refl)
good_answer shape s bid i Answer.Gone Effect.Started k g h = absurd (not_live _ _ g.live h.1.1 refl)
good_answer shape s bid i Answer.Absent Effect.Started k g h = absurd (not_live _ _ g.live h.1.1 refl)
good_answer shape s bid i a e k g h = absurd h.1.1

-- ---- the step

abbrev HearsGood : Reply → Type 0
HearsGood (Reply.Heard answer) = LiveOrFault answer
HearsGood Reply.Unheard = Unit {0}
HearsGood Reply.Fault = Unit {0}
HearsGood reply = ⊥

issued_view : (total : ℕ) (s t : State) (r : Request) (p : Place) (a : Answer) (e : Effect) → Issues total s r t → Answers (view_at t.broken t.units p) r a e → Answers (view_at s.broken s.units p) r a e
issued_view total s t r p a e h answers = subst (λ (x : State). Answers (view_at x.broken x.units p) r a e) h.2 answers

ticked_view : (shape : VolumeShape) (s t : State) (by : ℕ) (reply : Reply) (r : Request) (p : Place) (a : Answer) (e : Effect) → Happens shape s (Event.Tick by) reply t
    → Answers (view_at t.broken t.units p) r a e → Answers (view_at s.broken s.units p) r a e
ticked_view shape s t by (Reply.Now time) r p a e h answers = subst (λ (x : State). Answers (view_at x.broken x.units p) r a e) h.1 answers
ticked_view shape s t by reply r p a e h answers = absurd h

sent_good : (shape : VolumeShape) (s t : State) (f : Fate) (time : ℕ) (r : Request) (a : Answer) (e : Effect) → (Answers (view_at s.broken s.units (place_of r)) r a e → LiveOrFault a)
    → MovesAll shape s (moves_of_send f time r a e) t → HearsGood (reply_of_send f a)
sent_good shape s t fate.Pass time r a e good h = good (issued_view shape.total s h.0 r (place_of r) a e h.1 h.2.1.1)
sent_good shape s t fate.Again time r a e good h = good (issued_view shape.total s h.0 r (place_of r) a e h.1 h.2.1.1)
sent_good shape s t fate.Slow time r a e good h =
    good (issued_view shape.total s h.0 r (place_of r) a e h.1 (ticked_view shape h.0 h.2.0 10 (Reply.Now (min (time + 10) last_time)) r (place_of r) a e h.2.1 h.2.2.1.1))
sent_good shape s t fate.Lose time r a e good h = tt
sent_good shape s t fate.LoseReply time r a e good h = tt
sent_good shape s t fate.LateReply time r a e good h = tt
sent_good shape s t fate.LateRequest time r a e good h = tt

read_does : (shape : VolumeShape) (w v : World) (bid i : ℕ) (reply : Reply) → Kept shape w.state → IsGood shape.total w.state bid i
    → Sends shape w (Request.Read (current w.state.manager.homes i) bid) reply v → HearsGood reply
read_does shape w v bid i Reply.Barred k g h = absurd (h.1 tt)
read_does shape w v bid i reply k g h =
    subst HearsGood (sym h.told) (sent_good shape w.state v.state (next_fate w.planned (home_at w.state.manager.homes i).disk) w.state.time (Request.Read (current w.state.manager.homes i) bid) h.answer h.effect
    (good_answer shape w.state bid i h.answer h.effect k g) h.moves)

read_leads : (shape : VolumeShape) (w v : World) (bid i : ℕ) (step : Step) → Kept shape w.state → IsGood shape.total w.state bid i → step.event ≡ Event.Send (Request.Read (current w.state.manager.homes i) bid)
    → Leads shape w step v → HearsGood step.reply
read_leads shape w v bid i step k g e (inl h) = read_does shape w v bid i step.reply k g (subst (λ event. Does shape w event step.reply v) e h)
read_leads shape w v bid i step k g e (inr h) = let refused = subst (λ event. IsRefusedByLog w event step.reply v) e h in subst HearsGood (sym refused.1) tt

-- ---- the reply

-- a live row has a shard of the right length
abbrev pub IsGoodReply : Mode → CodeReply → Type 0
IsGoodReply mode (replies.Heard (answers.Live blob_size bytes)) = length bytes ≡ shard_size mode blob_size
IsGoodReply mode reply = is_failed reply ≡ true

right_length : (mode : Mode) (puts : Puts) (unit : Name) (disk bid blob_size : ℕ) (bytes : List ℕ) → GivesRight mode puts (requests.Read unit disk bid) (answers.Live blob_size bytes) → length bytes ≡ shard_size mode blob_size
right_length mode puts unit disk bid blob_size bytes h =
    ap (λ (x : PayloadShard). length x.bytes) h.1 ∙ length-shard_of mode (puts.payload bid) unit.index ∙ ap (λ (x : PayloadShard). shard_size mode x.blob_size) (sym h.1)

by_answer : (mode : Mode) (puts : Puts) (unit : Name) (disk bid : ℕ) (answer : ToldAnswer) (heard : Answer) → LiveOrFault heard → heard ≡ answer_of answer → GivesRight mode puts (requests.Read unit disk bid) answer
    → IsGoodReply mode (replies.Heard answer)
by_answer mode puts unit disk bid (answers.Live blob_size bytes) heard good e right = right_length mode puts unit disk bid blob_size bytes right
by_answer mode puts unit disk bid answers.Fault heard good e right = refl
by_answer mode puts unit disk bid answer heard (inl live) e right = cc
by_answer mode puts unit disk bid answer heard (inr fault) e right = cc

heard_good : (vid : ℕ) (s : State) (mode : Mode) (unit : Name) (disk bid : ℕ) (answer : ToldAnswer) (reply : Reply) → HearsGood reply → Tells vid s (reply_kept (replies.Heard answer)) reply
    → IsWhole mode s.puts (events.Send (requests.Read unit disk bid)) (replies.Heard answer) reply → IsGoodReply mode (replies.Heard answer)
heard_good vid s mode unit disk bid answer (Reply.Heard heard) good told whole = by_answer mode s.puts unit disk bid answer heard good whole.0 whole.1
heard_good vid s mode unit disk bid answer reply good told whole = absurd told

barred_never : (vid : ℕ) (s : State) (reply : Reply) → HearsGood reply → Tells vid s kept_reply.Barred reply → ⊥
barred_never vid s (Reply.Heard answer) good told = told
barred_never vid s Reply.Unheard good told = told
barred_never vid s Reply.Fault good told = told
barred_never vid s reply good told = good

spoiled_never : (vid : ℕ) (s : State) (place : ℕ) (reply : Reply) → HearsGood reply → Tells vid s (kept_reply.Spoiled place) reply → ⊥
spoiled_never vid s place (Reply.Heard answer) good told = told
spoiled_never vid s place Reply.Unheard good told = told
spoiled_never vid s place Reply.Fault good told = told
spoiled_never vid s place reply good told = good

-- the replies of a send
abbrev pub IsSendReply : CodeReply → Type 0
IsSendReply (replies.Heard answer) = Unit {0}
IsSendReply replies.Unheard = Unit {0}
IsSendReply replies.Barred = Unit {0}
IsSendReply replies.Fault = Unit {0}
IsSendReply (replies.Spoiled place) = Unit {0}
IsSendReply reply = ⊥

reply_good : (vid : ℕ) (s : State) (mode : Mode) (unit : Name) (disk bid : ℕ) (reply : CodeReply) (told_reply : Reply) → IsSendReply reply → HearsGood told_reply → Tells vid s (reply_kept reply) told_reply
    → IsWhole mode s.puts (events.Send (requests.Read unit disk bid)) reply told_reply → IsGoodReply mode reply
reply_good vid s mode unit disk bid (replies.Heard answer) told_reply sent good told whole = heard_good vid s mode unit disk bid answer told_reply good told whole
reply_good vid s mode unit disk bid replies.Unheard told_reply sent good told whole = refl
reply_good vid s mode unit disk bid replies.Fault told_reply sent good told whole = refl
reply_good vid s mode unit disk bid replies.Barred told_reply sent good told whole = absurd (barred_never vid s told_reply good told)
reply_good vid s mode unit disk bid (replies.Spoiled place) told_reply sent good told whole = absurd (spoiled_never vid s place told_reply good told)
reply_good vid s mode unit disk bid reply told_reply sent good told whole = absurd sent

pub read_good : (origin : Origin) (w v : World) (unit : Name) (disk bid i : ℕ) (reply : CodeReply) → Kept (shape_of origin) w.state → IsGood (shape_of origin).total w.state bid i
    → place_at unit disk ≡ current w.state.manager.homes i → IsDone origin w (events.Send (requests.Read unit disk bid)) reply v → IsSendReply reply → IsGoodReply origin.mode reply
read_good origin w v unit disk bid i reply k g at done sent =
    let event = done.told.event ∙ ap (λ p. Event.Send (Request.Read p bid)) at in
    reply_good origin.vid w.state origin.mode unit disk bid reply done.step.reply sent (read_leads (shape_of origin) w v bid i done.step k g event done.leads) done.told.reply done.whole
