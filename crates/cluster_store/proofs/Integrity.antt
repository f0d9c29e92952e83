-- A get shows what the last put of its name carried.
use Rattle.std.proofs.Common.{◌≡◌, ◌∙◌, sym, ap, refl, subst, ℕ, inl, inr, ◌+◌, ◌-◌, ◌⊎◌, Bool, true, false, cond, List, [], ◌∷◌, ◌++◌, length, Option, Some, None, Result, Ok, Err, append_assoc, append-nil}
use Rattle.std.specs.Prelude.{slice_get}
use Rattle.std.specs.Map.{lookup}
use Rattle.std.specs.Str.{bytes_eq}
use Rattle.std.specs.Prelude.{String}
use Rattle.std.specs.String.{string_bytes}
use Rattle.std.specs.declared.alloc.Global.{Global}
use Rattle.disk_base.specs.Disk.{FileView}
use Rattle.disk_base.specs.Shelves.{ShelfView}
use Rattle.unit_id.specs.Lists.{IsIn}
use Rattle.volume_world.specs.Run.{World}
use Rattle.volume_world.specs.Way.{Origin, WayView, IsWay}
use Rattle.volume_world.specs.Possible.{IsPossible}
use Rattle.cluster_admin.specs.Cluster.{State, fresh}
use Rattle.cluster_admin.specs.declared.names.Object.{Object}
use Rattle.volume_turns.specs.declared.command.VolumeCommand.TheVariants as turns
use Rattle.volume_turns.specs.declared.reply.VolumeReply.{VolumeReply}
use Rattle.volume_turns.specs.declared.reply.VolumeReply.TheVariants as played
use Rattle.volume_turns.specs.Answers.{Replied}
use Rattle.volume_turns.specs.Session.{Turn, IsTurn, AreTurns, TurnLeads, TurnsLead, IsSessionOver}
use Rattle.volume_turns.specs.ObjectTurns.{HasPut, IsBehind, PutsAreShown}
use Rattle.cluster_store.specs.declared.command.Command.{Command}
use Rattle.cluster_store.specs.declared.command.Command.TheVariants as commands
use Rattle.cluster_store.specs.declared.reply.Reply.{Reply}
use Rattle.cluster_store.specs.declared.reply.Reply.TheVariants as replies
use Rattle.cluster_store.specs.Plan.{Step, Follows}
use Rattle.cluster_store.specs.Lines.{got, get_plan}
use Rattle.cluster_store.specs.Store.{OpenedOver, StoreOver, turns_at, way_at}
use Rattle.cluster_store.specs.Script.{Line, Leads, LinesLead, turns_of, IsHistory, IsSlotHistory, IsScript, AreTold, GetsShowPuts, last_put}
use Rattle.cluster_store.proofs.Lists.{tells}
use Rattle.cluster_store.proofs.Plans.{step_at}
use Rattle.cluster_store.proofs.Scripts.{turns_more}
use Rattle.cluster_store.proofs.Names.{WasPut, names_put}
use Rattle.cluster_store.proofs.Puts.{by_result}

-- ---- the last of some turns

-- turns with one behind them
pub record IsLastTurn (origin : Origin) (before : List Turn) (turn : Turn) (w v : World) : Type 0 where
  pub mid : World
  pub each : AreTurns origin before
  pub own : IsTurn origin turn
  pub led : TurnsLead origin w before mid
  pub leads : TurnLeads origin mid turn v

last_leads : (origin : Origin) (before : List Turn) (turn : Turn) (w v : World) → AreTurns origin (before ++ turn ∷ []) → TurnsLead origin w (before ++ turn ∷ []) v → IsLastTurn origin before turn w v
last_leads origin [] turn w v each led =
    record { mid = w; each = tt; own = each.0; led = refl; leads = subst (λ (x : World). TurnLeads origin w turn x) (sym led.2) led.1 }
last_leads origin (first ∷ before) turn w v each led =
    let rest = last_leads origin before turn led.0 v each.1 led.2 in
    record { mid = rest.mid; each = (each.0, rest.each); own = rest.own; led = (led.0, led.1, rest.led); leads = rest.leads }

-- ---- the turn of a get

-- what a get that has bytes asked of its volume
pub record IsGotBy (tables : State) (name bytes : List ℕ) (steps : List Step) : Type 0 where
  pub object : Object
  pub found : lookup (bytes_eq name) tables.names ≡ Some object
  pub turn : Turn
  pub only : steps ≡ step_at (object.vid - 1) turn ∷ []
  pub command : turn.command ≡ turns.Get object.bid object.size
  pub result : turn.result ≡ Ok (played.Got bytes)

got_over : (tables new : State) (bytes : List ℕ) (steps : List Step) (given : VolumeReply) → Follows (got tables given) steps new (Ok (replies.Got bytes)) → (steps ≡ []) × (given ≡ played.Got bytes)
got_over tables new bytes [] (played.Got given) (inl h) = let same : given ≡ bytes = cc h.1 in (refl, ap played.Got same)
got_over tables new bytes [] (played.Got given) (inr h) = absurd (cc h.1)
got_over tables new bytes (step ∷ steps) (played.Got given) h = absurd h
got_over tables new bytes [] (played.Refused refusal) (inl h) = absurd (cc h.1)
got_over tables new bytes [] (played.Refused refusal) (inr h) = absurd (cc h.1)
got_over tables new bytes (step ∷ steps) (played.Refused refusal) h = absurd h
got_over tables new bytes steps given h = absurd h

got_by : (tables new : State) (name bytes : List ℕ) (found : Option Object) (steps : List Step) → lookup (bytes_eq name) tables.names ≡ found → Follows (get_plan tables found) steps new (Ok (replies.Got bytes)) → IsGotBy tables name bytes steps
got_by tables new name bytes None [] e (inl h) = absurd (cc h.1)
got_by tables new name bytes None [] e (inr h) = absurd (cc h.1)
got_by tables new name bytes None (step ∷ steps) e h = absurd h
got_by tables new name bytes (Some object) [] e h = absurd (cc h.1)
got_by tables new name bytes (Some object) (step ∷ steps) e h =
    by_result step.turn.result (λ given. Follows (got tables given) steps new (Ok (replies.Got bytes))) (λ fault. (steps ≡ []) × (new ≡ tables) × (Ok (replies.Got bytes) ≡ Err fault)) h.2
    (λ given is rest. let over = got_over tables new bytes steps given rest in record {
      object = object;
      found = e;
      turn = step.turn;
      only = ap (λ (ss : List Step). step ∷ ss) over.0 ∙ ap (λ (p : ℕ). step_at p step.turn ∷ []) h.0;
      command = h.1;
      result = is ∙ ap (λ (r : VolumeReply). Ok r) over.1;
    })
    (λ fault rest. absurd (cc rest.2))

-- ---- the session of a volume

turns_only : (place : ℕ) (turn : Turn) → turns_at place (step_at place turn ∷ []) ≡ turn ∷ []
turns_only place turn = elim (tells place place) [
  | inl same ↦ ap (λ (b : Bool). cond b (turn ∷ []) []) same.0
  | inr other ↦ absurd (other.1 refl)
]

some_turns : (before : List Turn) (turn : Turn) → before ++ turn ∷ [] ≡ [] → ⊥
some_turns [] turn e = cc e
some_turns (first ∷ before) turn e = cc e

module _ {S E : Type 0} (shelf_seen : S → ShelfView E) (seen : E → FileView) where
  -- a volume that tells, and saw turns of which one is last
  got_shown : PutsAreShown → (now : OpenedOver S E) (before : List Turn) (put get : Turn) (first : ℕ) (object bytes : List ℕ) → IsHistory shelf_seen seen now (before ++ get ∷ []) → (way_at shelf_seen seen now).origin.is_told ≡ true
      → IsIn put before → HasPut put first object → get.command ≡ turns.Get first (length object) → get.result ≡ Ok (played.Got bytes) → bytes ≡ object
  got_shown shown now before put get first object bytes h told i has command result =
      let start = way_at shelf_seen seen h.first in
      let told_first : start.origin.is_told ≡ true = ap (λ (o : Origin). o.is_told) (sym h.session.goes.origin) ∙ told in
      let from = h.way.somewhere told_first in
      let led = h.session.leads told_first from.0 from.1 in
      let last = last_leads start.origin before get from.0 led.0 h.session.each led.1 in
      let possible : IsPossible start.origin from.0 = record { entries = start.entries; first = h.way.first; led = h.way.led told_first from.0 from.1 } in
      shown.got start.origin before put get first object bytes from.0 last.mid led.0
      (record { possible = possible; each = last.each; led = last.led; own = last.own; leads = last.leads }) i has command result

  slot_shown : PutsAreShown → (slot : Option (Option (OpenedOver S E))) (before : List Turn) (put get : Turn) (first : ℕ) (object bytes : List ℕ) → IsSlotHistory shelf_seen seen slot (before ++ get ∷ [])
      → ((now : OpenedOver S E) → slot ≡ Some (Some now) → (way_at shelf_seen seen now).origin.is_told ≡ true)
      → IsIn put before → HasPut put first object → get.command ≡ turns.Get first (length object) → get.result ≡ Ok (played.Got bytes) → bytes ≡ object
  slot_shown shown (Some (Some now)) before put get first object bytes h told i has command result = got_shown shown now before put get first object bytes h (told now refl) i has command result
  slot_shown shown (Some None) before put get first object bytes h told i has command result = absurd (some_turns before get h)
  slot_shown shown None before put get first object bytes h told i has command result = absurd (some_turns before get h)

  -- the tables before the last line
  pub record IsLastLine (start : State) (lines : List Line) (line : Line) (new : State) : Type 0 where
    pub old : State
    pub before : LinesLead start lines old
    pub leads : Leads line.command old line.steps new line.reply

  last_line : (start new : State) (lines : List Line) (line : Line) → LinesLead start (lines ++ line ∷ []) new → IsLastLine start lines line new
  last_line start new [] line h = record { old = start; before = refl; leads = subst (λ (t : State). Leads line.command start line.steps t line.reply) (sym h.2) h.1 }
  last_line start new (first ∷ lines) line h = let rest = last_line h.0 new lines line h.2 in record { old = rest.old; before = (h.0, h.1, rest.before); leads = rest.leads }

  pub gets_show_puts : PutsAreShown → GetsShowPuts shelf_seen seen
  gets_show_puts shown placers lines get store name bytes script told command reply =
      let last = last_line (fresh placers) store.tables lines get script.leads in
      let leads = subst (λ (c : Command). Leads c last.old get.steps store.tables (replies.Got bytes)) command (subst (λ (r : Reply). Leads get.command last.old get.steps store.tables r) reply last.leads) in
      let by = got_by last.old store.tables (string_bytes name) bytes (lookup (bytes_eq (string_bytes name)) last.old.names) get.steps refl leads in
      let was = names_put (fresh placers) last.old lines refl last.before (string_bytes name) by.object by.found in
      let place = by.object.vid - 1 in
      let turns_are : turns_of place (lines ++ get ∷ []) ≡ turns_of place lines ++ by.turn ∷ [] =
      turns_more place lines get ∙ ap (λ (ss : List Step). turns_of place lines ++ turns_at place ss) by.only ∙ ap (λ (ts : List Turn). turns_of place lines ++ ts) (turns_only place by.turn) in
      let same = slot_shown shown (slice_get store.volumes place) (turns_of place lines) was.turn by.turn by.object.bid was.bytes bytes
      (subst (λ (ts : List Turn). IsSlotHistory shelf_seen seen (slice_get store.volumes place) ts) turns_are (script.each place)) (λ now e. told place now e) was.there
      (record { command = was.command; reply = was.result }) (by.command ∙ ap (λ (n : ℕ). turns.Get by.object.bid n) was.size) by.result in
      was.last ∙ ap (λ (b : List ℕ). Some b) (sym same)
