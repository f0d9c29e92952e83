-- A sweep of a blob over a way: what it asks, and what its answers say.
use Rattle.std.specs.Prelude.{ℕ, ◌≡◌, ◌+◌, ◌≤◌, ◌↔◌, Bool, true, false, cond, List, [], ◌∷◌, length, Result, Ok, Err}
use Rattle.unit_id.specs.Lists.{is_in}
use Rattle.unit_id.specs.declared.request.Request.TheVariants as requests
use Rattle.volume_world.specs.declared.event.Event.TheVariants as events
use Rattle.volume_world.specs.declared.reply.Reply.TheVariants as replies
use Rattle.volume_world.specs.Run.{World}
use Rattle.volume_world.specs.Way.{WayView, shape_of, longest_history}
use Rattle.volume_world.specs.Course.{Part, Goes}
use Rattle.blob_delete.specs.declared.sweeping.Swept.{Swept}
use Rattle.blob_delete.specs.declared.sweeping.Swept.TheVariants as swept
use Rattle.blob_delete.specs.declared.fault.DeleteFault.{DeleteFault}
use Rattle.blob_delete.specs.declared.fault.DeleteFault.TheVariants as faults
use Rattle.blob_delete.specs.SweepCall.{has_done, SweepsBy}

-- a unit was asked to let its shard go, and did
abbrev pub has_freed : Part → Bool
has_freed (Part.Asking (events.Send (requests.Free unit disk bid)) (replies.Heard answer)) = has_done answer
has_freed part = false

-- how many units did so in this stretch
abbrev pub freed_count : List Part → ℕ
freed_count [] = 0
freed_count (part ∷ parts) = cond (has_freed part) 1 0 + freed_count parts

-- the answer says that the deletion is committed
abbrev pub says_committed : Result Swept DeleteFault → Bool
says_committed (Ok swept.Freed) = true
says_committed (Ok swept.Committed) = true
says_committed result = false

-- A sweep of a blob over a way. It answers that all is freed exactly where as many units as the volume has let their shards go, and that the
-- deletion is committed only where it is, and that the history is full only where it is.
pub record Sweeps (old new : WayView) (bid : ℕ) (result : Result Swept DeleteFault) : Type 0 where
  pub parts : List Part
  pub goes : Goes old new parts
  pub call : SweepsBy bid parts result
  pub full : result ≡ Err faults.HistoryFull → longest_history ≤ length new.entries
  pub freed : (result ≡ Ok swept.Freed) ↔ (freed_count parts ≡ (shape_of old.origin).total)
  pub committed : says_committed result ≡ true → old.origin.is_told ≡ true → (w : World) → new.is_at w → is_in bid w.state.manager.committed ≡ true
