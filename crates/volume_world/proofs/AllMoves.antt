-- Every move keeps what is kept, and so does every list of moves.
use Rattle.std.proofs.Common.{List, [], ◌∷◌, sym, subst}
use Rattle.unit_id.specs.Lists.{IsIn}
use Rattle.code_mode.specs.VolumeShape.{VolumeShape, IsVolumeShape}
use Rattle.unit_id.specs.Request.{Request, Answer, place_of}
use Rattle.blob_node.specs.UnitAnswer.{Effect, Answers, view_at}
use Rattle.volume_entry.specs.Reply.{Reply}
use Rattle.volume_world.specs.Event.{Event}
use Rattle.volume_world.specs.State.{State}
use Rattle.volume_world.specs.Move.{Move, Happens, Moves, MovesAll}
use Rattle.volume_world.specs.Invariant.{Kept}
use Rattle.volume_world.proofs.BeginEnd.{same, begin_kept, end_kept}
use Rattle.volume_world.proofs.Broken.{break_kept}
use Rattle.volume_world.proofs.ManagerEvents.{lease_kept, lock_kept, retarget_kept, swap_kept, unlock_kept, ask_kept, commit_kept, settle_manager_kept}
use Rattle.volume_world.proofs.GivenByUnits.{handled}
use Rattle.volume_world.proofs.HandledShards.{put_handled, copy_handled}
use Rattle.volume_world.proofs.HandledRows.{mark_handled, free_handled, read_handled, list_handled}
use Rattle.volume_world.proofs.HandledEnds.{release_handled, fence_handled}
use Rattle.volume_world.proofs.Created.{create_handled}
use Rattle.volume_world.proofs.Hearing.{hear_kept}
use Rattle.volume_world.proofs.OtherMoves.{issue_kept, tick_kept, restart_kept, restart_manager_kept, settle_unit_kept}

handled_kept : (shape : VolumeShape) (s : State) (r : Request) (a : Answer) (e : Effect) → Kept shape s → IsIn r s.post.issued → Answers (view_at s.broken s.units (place_of r)) r a e → Kept shape (handled s r a e)
handled_kept shape s (Request.Create p) a e k i h = create_handled shape s p a e k i h
handled_kept shape s (Request.Fence p n) a e k i h = fence_handled shape s p n a e k i h
handled_kept shape s (Request.Put p b) a e k i h = put_handled shape s p b a e k i h
handled_kept shape s (Request.Read p b) a e k i h = read_handled shape s p b a e k i h
handled_kept shape s (Request.List p n) a e k i h = list_handled shape s p n a e k i h
handled_kept shape s (Request.Copy p b) a e k i h = copy_handled shape s p b a e k i h
handled_kept shape s (Request.Mark p b) a e k i h = mark_handled shape s p b a e k i h
handled_kept shape s (Request.Free p b) a e k i h = free_handled shape s p b a e k i h
handled_kept shape s (Request.Release p) a e k i h = release_handled shape s p a e k i h

step_kept : (shape : VolumeShape) (s : State) (event : Event) (reply : Reply) (t : State) → IsVolumeShape shape → Kept shape s → Happens shape s event reply t → Kept shape t
step_kept shape s (Event.Tick by) reply t good k h = tick_kept shape by s reply t k h
step_kept shape s (Event.Plan disk fate count) reply t good k h = same shape s t k h.1
step_kept shape s (Event.Break disk) reply t good k h = break_kept shape disk s reply t k h
step_kept shape s (Event.Restart disk) reply t good k h = restart_kept shape disk s reply t k h
step_kept shape s Event.RestartManager reply t good k h = restart_manager_kept shape s reply t k h
step_kept shape s Event.Lease reply t good k h = lease_kept shape s reply t k h.0 h.1.0 h.1.1
step_kept shape s (Event.Begin bid payload) reply t good k h = begin_kept shape bid payload s reply t k h.1.1
step_kept shape s (Event.End bid) reply t good k h = end_kept shape bid s reply t k h.1
step_kept shape s (Event.Lock task targets) reply t good k h = lock_kept shape task targets s reply t k h.0 h.1.0 h.1.1 h.1.2
step_kept shape s (Event.Retarget task index disk) reply t good k h = retarget_kept shape task index disk s reply t k h.0 h.1.0 h.1.1 h.1.2
step_kept shape s (Event.Swap task) reply t good k h = swap_kept shape task s reply t good k h.0 h.1.0 h.1.1
step_kept shape s (Event.Unlock task) reply t good k h = unlock_kept shape task s reply t k h.0 h.1.0 h.1.1
step_kept shape s (Event.Ask bid) reply t good k h = ask_kept shape bid s reply t k h.0 h.1.0 h.1.1 h.1.2
step_kept shape s (Event.Commit bid) reply t good k h = commit_kept shape bid s reply t good k h.0 h.1.0 h.1.1 h.1.2
step_kept shape s Event.Look (Reply.Seen sight) t good k h = same shape s t k h.1.1
step_kept shape s Event.Look reply t good k h = absurd h.1
step_kept shape s event reply t good k h = absurd h.1

pub move_kept : (shape : VolumeShape) (s : State) (move : Move) (t : State) → IsVolumeShape shape → Kept shape s → Moves shape s move t → Kept shape t
move_kept shape s (Move.Issue r) t good k h = issue_kept shape s r t k h
move_kept shape s (Move.Handle r a e) t good k h = subst (Kept shape) (sym h.2) (handled_kept shape s r a e k h.0 h.1)
move_kept shape s (Move.Hear r a) t good k h = hear_kept shape s r a t k h
move_kept shape s (Move.SettleManager is_found) t good k h = settle_manager_kept shape s is_found t k h
move_kept shape s (Move.SettleUnit place is_found) t good k h = settle_unit_kept shape place s is_found t k h
move_kept shape s (Move.Happen event reply) t good k h = step_kept shape s event reply t good k h

pub moves_kept : (shape : VolumeShape) (s : State) (moves : List Move) (t : State) → IsVolumeShape shape → Kept shape s → MovesAll shape s moves t → Kept shape t
moves_kept shape s [] t good k h = same shape s t k h
moves_kept shape s (move ∷ moves) t good k h = moves_kept shape h.0 moves t good (move_kept shape s move h.0 good k h.1) h.2
