-- The events of a volume.
use Rattle.std.specs.Prelude.{ℕ, Bool, List}
use Rattle.unit_id.specs.Request.{Request}
use Rattle.unit_id.specs.declared.targets.Target.{Target}
use Rattle.blob_node.specs.declared.fate.Fate.{Fate}

-- A put carries bytes; a lock and a retarget name a task and where it moves units; a settle names the disk whose log was shut (0 is
-- the manager's) and says whether the record in doubt was found.
pub data Event : Type 0 where
  Tick : ℕ → Event
  Plan : ℕ → Fate → ℕ → Event
  Lease : Event
  Begin : ℕ → List ℕ → Event
  Send : Request → Event
  FlushOne : Event
  End : ℕ → Event
  Lock : ℕ → List Target → Event
  Retarget : ℕ → ℕ → ℕ → Event
  Swap : ℕ → Event
  Unlock : ℕ → Event
  Break : ℕ → Event
  Ask : ℕ → Event
  Commit : ℕ → Event
  Restart : ℕ → Event
  RestartManager : Event
  Look : Event
  Settle : ℕ → Bool → Event
