-- An entry is a list of moves, and what every move keeps stays through entries and runs.
use Rattle.std.proofs.Common.{◌≡◌, inl, inr, List, [], ◌∷◌, refl, sym, ap, subst, ℕ}
use Rattle.unit_id.specs.Request.{place_of, Request, Answer}
use Rattle.code_mode.specs.VolumeShape.{VolumeShape}
use Rattle.blob_node.specs.declared.fate.Fate.{Fate}
use Rattle.blob_node.specs.declared.fate.Fate.TheVariants as fate
use Rattle.volume_entry.specs.Reply.{Reply}
use Rattle.volume_world.specs.Event.{Event}
use Rattle.volume_world.specs.State.{State}
use Rattle.volume_world.specs.Move.{Move, Moves, MovesAll}
use Rattle.volume_world.specs.Run.{Late, World, Step, Flushes, Does, Leads, IsLegalRun, IsRefusedByLog, moves_of_send, next_fate}
use Rattle.blob_node.specs.UnitAnswer.{Effect}
use Rattle.unit_id.specs.Lists.{IsIn}

abbrev pub MovesOf : VolumeShape → State → State → Type 0
MovesOf shape s t = (moves : List Move) × MovesAll shape s moves t

no_moves : (shape : VolumeShape) (w v : World) → v ≡ w → MovesOf shape w.state v.state
no_moves shape w v e = ([], ap (λ (x : World). x.state) e)

-- an event whose log doesn't start changes nothing
pub refused_same : (w : World) (event : Event) (reply : Reply) (v : World) → IsRefusedByLog w event reply v → v ≡ w
refused_same w (Event.Tick by) reply v h = absurd h
refused_same w (Event.Plan disk fate count) reply v h = absurd h
refused_same w (Event.Break disk) reply v h = absurd h
refused_same w (Event.Restart disk) reply v h = absurd h
refused_same w Event.RestartManager reply v h = absurd h
refused_same w (Event.Settle disk is_found) reply v h = absurd h
refused_same w event reply v h = h.2

flush_moves : (shape : VolumeShape) (w : World) (late : List Late) (reply : Reply) (v : World) → Flushes shape w late reply v → MovesOf shape w.state v.state
flush_moves shape w [] reply v h = no_moves shape w v h.1
flush_moves shape w (Late.LateRequest r ∷ rest) reply v h = (Move.Handle r h.1.0 h.1.1 ∷ [], h.1.2)
flush_moves shape w (Late.LateAnswer r a ∷ rest) reply v h = (Move.Hear r a ∷ [], h.1)

does_moves : (shape : VolumeShape) (w : World) (event : Event) (reply : Reply) (v : World) → Does shape w event reply v → MovesOf shape w.state v.state
does_moves shape w (Event.Plan disk fate count) reply v h = ([], ap (λ (x : World). x.state) h.1)
does_moves shape w (Event.Send r) Reply.Barred v h = no_moves shape w v h.2
does_moves shape w (Event.Send r) reply v h = (moves_of_send (next_fate w.planned (place_of r).disk) w.state.time r h.answer h.effect, h.moves)
does_moves shape w Event.FlushOne reply v h = flush_moves shape w w.late reply v h.1
does_moves shape w (Event.Settle disk is_found) reply v h = elim h.1.0 [
  | inl manager ↦ (Move.SettleManager is_found ∷ [], manager.1)
  | inr unit ↦ (Move.SettleUnit unit.1.place is_found ∷ [], (v.state, unit.1.settles, refl))
]
does_moves shape w event reply v h = (Move.Happen event reply ∷ [], h.0)

pub entry_moves : (shape : VolumeShape) (w : World) (step : Step) (v : World) → Leads shape w step v → MovesOf shape w.state v.state
entry_moves shape w step v (inl h) = does_moves shape w step.event step.reply v h
entry_moves shape w step v (inr h) = no_moves shape w v (refused_same w step.event step.reply v h)

-- a property that every move keeps
abbrev pub IsLasting : VolumeShape → (State → Type 0) → Type 0
IsLasting shape P = (s : State) (move : Move) (t : State) → Moves shape s move t → P s → P t

pub lasts : (shape : VolumeShape) (P : State → Type 0) → IsLasting shape P → (s : State) (moves : List Move) (t : State) → MovesAll shape s moves t → P s → P t
lasts shape P keep s [] t h p = subst P (sym h) p
lasts shape P keep s (move ∷ moves) t h p = lasts shape P keep h.0 moves t h.2 (keep s move h.0 h.1 p)

pub entry_lasts : (shape : VolumeShape) (P : State → Type 0) → IsLasting shape P → (w : World) (step : Step) (v : World) → Leads shape w step v → P w.state → P v.state
entry_lasts shape P keep w step v h p = let moves = entry_moves shape w step v h in lasts shape P keep w.state moves.0 v.state moves.1 p

pub run_lasts : (shape : VolumeShape) (P : State → Type 0) → IsLasting shape P → (w : World) (steps : List Step) (v : World) → IsLegalRun shape w steps v → P w.state → P v.state
run_lasts shape P keep w [] v h p = subst (λ (x : World). P x.state) (sym h) p
run_lasts shape P keep w (step ∷ steps) v h p = run_lasts shape P keep h.0 steps v h.2 (entry_lasts shape P keep w step h.0 h.1 p)

-- of the moves of a send none is an event but a tick
pub sends_only_tick : (f : Fate) (time : ℕ) (r : Request) (a : Answer) (e : Effect) (event : Event) (reply : Reply) → IsIn (Move.Happen event reply) (moves_of_send f time r a e) → event ≡ Event.Tick 10
sends_only_tick fate.Pass time r a e event reply h = elim h [ inl x ↦ cc | inr (inl x) ↦ cc | inr (inr (inl x)) ↦ cc | inr (inr (inr x)) ↦ absurd x ]
sends_only_tick fate.Lose time r a e event reply h = elim h [ inl x ↦ cc | inr x ↦ absurd x ]
sends_only_tick fate.LoseReply time r a e event reply h = elim h [ inl x ↦ cc | inr (inl x) ↦ cc | inr (inr x) ↦ absurd x ]
sends_only_tick fate.LateReply time r a e event reply h = elim h [ inl x ↦ cc | inr (inl x) ↦ cc | inr (inr x) ↦ absurd x ]
sends_only_tick fate.LateRequest time r a e event reply h = elim h [ inl x ↦ cc | inr x ↦ absurd x ]
sends_only_tick fate.Again time r a e event reply h = elim h [ inl x ↦ cc | inr (inl x) ↦ cc | inr (inr (inl x)) ↦ cc | inr (inr (inr x)) ↦ absurd x ]
sends_only_tick fate.Slow time r a e event reply h = elim h [ inl x ↦ cc | inr (inl x) ↦ cc | inr (inr (inl x)) ↦ cc | inr (inr (inr (inl x))) ↦ cc | inr (inr (inr (inr x))) ↦ absurd x ]
