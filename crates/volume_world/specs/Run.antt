-- A volume with its links: what is planned for its messages, what comes late; entries as short lists of moves; and runs.
use Rattle.std.specs.Prelude.{ℕ, ◌≡◌, ◌+◌, ◌⊎◌, min, Bool, true, false, cond, ◌==◌, List, [], ◌∷◌, ◌++◌, replicate, is_some}
use Rattle.unit_id.specs.Place.{Place}
use Rattle.code_mode.specs.VolumeShape.{VolumeShape, last_time}
use Rattle.unit_id.specs.Request.{Request, Answer, place_of}
use Rattle.blob_node.specs.UnitAnswer.{Effect}
use Rattle.volume_entry.specs.Reply.{Reply}
use Rattle.volume_world.specs.Event.{Event}
use Rattle.blob_node.specs.declared.fate.Fate.{Fate}
use Rattle.blob_node.specs.declared.fate.Fate.TheVariants as fate
use Rattle.volume_world.specs.State.{State}
use Rattle.volume_world.specs.Move.{Move, MovesAll, IsSendable, SettlesUnit}

-- a request that is handled later, or an answer that is heard later
pub data Late : Type 0 where
  LateRequest : Request → Late
  LateAnswer : Request → Answer → Late

-- the next fate of a request to a disk
pub record Planned : Type 0 where
  pub disk : ℕ
  pub fate : Fate

-- fates and late items stand beside the state: no move speaks of them
pub record World : Type 0 where
  pub state : State
  pub planned : List Planned
  pub late : List Late

pub record Step : Type 0 where
  pub event : Event
  pub reply : Reply

-- the fate that a request to this disk takes
abbrev pub next_fate : List Planned → ℕ → Fate
next_fate [] disk = fate.Pass
next_fate (p ∷ ps) disk = cond (p.disk == disk) p.fate (next_fate ps disk)

-- what is planned behind it
abbrev pub without_next : List Planned → ℕ → List Planned
without_next [] disk = []
without_next (p ∷ ps) disk = cond (p.disk == disk) ps (p ∷ without_next ps disk)

-- the moves of a request that is sent
abbrev pub moves_of_send : Fate → ℕ → Request → Answer → Effect → List Move
moves_of_send fate.Pass time r a e = Move.Issue r ∷ Move.Handle r a e ∷ Move.Hear r a ∷ []
moves_of_send fate.Lose time r a e = Move.Issue r ∷ []
moves_of_send fate.LoseReply time r a e = Move.Issue r ∷ Move.Handle r a e ∷ []
moves_of_send fate.LateReply time r a e = Move.Issue r ∷ Move.Handle r a e ∷ []
moves_of_send fate.LateRequest time r a e = Move.Issue r ∷ []
moves_of_send fate.Again time r a e = Move.Issue r ∷ Move.Handle r a e ∷ Move.Hear r a ∷ []
moves_of_send fate.Slow time r a e =
    Move.Issue r ∷ Move.Happen (Event.Tick 10) (Reply.Now (min (time + 10) last_time)) ∷ Move.Handle r a e ∷ Move.Hear r a ∷ []

abbrev pub reply_of_send : Fate → Answer → Reply
reply_of_send fate.Pass a = Reply.Heard a
reply_of_send fate.Lose a = Reply.Unheard
reply_of_send fate.LoseReply a = Reply.Unheard
reply_of_send fate.LateReply a = Reply.Unheard
reply_of_send fate.LateRequest a = Reply.Unheard
reply_of_send fate.Again a = Reply.Heard a
reply_of_send fate.Slow a = Reply.Heard a

-- what comes late of it
abbrev pub late_of_send : Fate → Request → Answer → List Late
late_of_send fate.Pass r a = []
late_of_send fate.Lose r a = []
late_of_send fate.LoseReply r a = []
late_of_send fate.LateReply r a = Late.LateAnswer r a ∷ []
late_of_send fate.LateRequest r a = Late.LateRequest r ∷ []
late_of_send fate.Again r a = Late.LateRequest r ∷ []
late_of_send fate.Slow r a = []

-- a request that may be sent takes the next fate of its disk
pub record IsSent (shape : VolumeShape) (w : World) (request : Request) (reply : Reply) (v : World) : Type 0 where
  pub answer : Answer
  pub effect : Effect
  pub sendable : IsSendable shape.total w.state.puts.status w.state.manager request
  pub moves : MovesAll shape w.state (moves_of_send (next_fate w.planned (place_of request).disk) w.state.time request answer effect) v.state
  pub told : reply ≡ reply_of_send (next_fate w.planned (place_of request).disk) answer
  pub planned : v.planned ≡ without_next w.planned (place_of request).disk
  pub late : v.late ≡ w.late ++ late_of_send (next_fate w.planned (place_of request).disk) request answer

abbrev pub Sends : VolumeShape → World → Request → Reply → World → Type 0
Sends shape w request Reply.Barred v = (w.state.manager.is_shut ≡ false) × (IsSendable shape.total w.state.puts.status w.state.manager request → ⊥) × (v ≡ w)
Sends shape w request reply v = IsSent shape w request reply v

-- the first late item
abbrev pub Flushes : VolumeShape → World → List Late → Reply → World → Type 0
Flushes shape w [] reply v = (reply ≡ Reply.NothingLate) × (v ≡ w)
Flushes shape w (Late.LateRequest r ∷ rest) reply v =
    (reply ≡ Reply.Flushed true) × ((a : Answer) × (e : Effect) × MovesAll shape w.state (Move.Handle r a e ∷ []) v.state) × (v ≡ record w { state = v.state; late = rest })
Flushes shape w (Late.LateAnswer r a ∷ rest) reply v =
    (reply ≡ Reply.Flushed false) × MovesAll shape w.state (Move.Hear r a ∷ []) v.state × (v ≡ record w { state = v.state; late = rest })

-- the record in doubt of a chunk on an unbroken disk is found written or not
pub record IsSettledOn (disk : ℕ) (s : State) (is_found : Bool) (t : State) : Type 0 where
  pub place : Place
  pub here : place.disk ≡ disk
  pub unbroken : s.broken disk ≡ false
  pub doubtful : is_some (s.units.doubt place) ≡ true
  pub settles : SettlesUnit place s is_found t

-- the record in doubt of the manager, by disk 0, or of a chunk
abbrev pub SettlesOn : VolumeShape → ℕ → World → Bool → World → Type 0
SettlesOn shape disk w is_found v =
    (((disk ≡ 0) × MovesAll shape w.state (Move.SettleManager is_found ∷ []) v.state) ⊎ ((disk == 0 ≡ false) × IsSettledOn disk w.state is_found v.state))
    × (v ≡ record w { state = v.state })

-- an event whose log doesn't start makes no move
abbrev pub IsRefusedByLog : World → Event → Reply → World → Type 0
IsRefusedByLog w (Event.Tick by) reply v = ⊥
IsRefusedByLog w (Event.Plan disk fate count) reply v = ⊥
IsRefusedByLog w (Event.Break disk) reply v = ⊥
IsRefusedByLog w (Event.Restart disk) reply v = ⊥
IsRefusedByLog w Event.RestartManager reply v = ⊥
IsRefusedByLog w (Event.Settle disk is_found) reply v = ⊥
IsRefusedByLog w event reply v = (w.state.manager.is_shut ≡ true) × (reply ≡ Reply.Fault) × (v ≡ w)

-- an event by its moves
abbrev pub Does : VolumeShape → World → Event → Reply → World → Type 0
Does shape w (Event.Plan disk fate count) reply v =
    (reply ≡ Reply.Done) × (v ≡ record w { planned = w.planned ++ replicate count (record { disk = disk; fate = fate }) })
Does shape w (Event.Send request) reply v = Sends shape w request reply v
Does shape w Event.FlushOne reply v = (w.state.manager.is_shut ≡ false) × Flushes shape w w.late reply v
Does shape w (Event.Settle disk is_found) reply v = (reply ≡ Reply.Done) × SettlesOn shape disk w is_found v
Does shape w event reply v = MovesAll shape w.state (Move.Happen event reply ∷ []) v.state × (v ≡ record w { state = v.state })

-- an entry leads from one state of the volume to the next
abbrev pub Leads : VolumeShape → World → Step → World → Type 0
Leads shape w step v = Does shape w step.event step.reply v ⊎ IsRefusedByLog w step.event step.reply v

-- a legal run
abbrev pub IsLegalRun : VolumeShape → World → List Step → World → Type 0
IsLegalRun shape w [] v = v ≡ w
IsLegalRun shape w (step ∷ steps) v = (u : World) × Leads shape w step u × IsLegalRun shape u steps v
