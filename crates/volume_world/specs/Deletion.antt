-- Few current units are bare of a committed delete.
-- Why every move keeps it: a commit counts marks of as many current units as are enough to see, and there is no lock then; marks
-- stay; and a swap puts in only units that have the mark.
use Rattle.std.specs.Prelude.{ℕ, ◌≡◌, ◌+◌, ◌≤◌, Bool, true, List, Option, Some, None}
use Rattle.unit_id.specs.Lists.{is_in}
use Rattle.unit_id.specs.Place.{Location, Place}
use Rattle.code_mode.specs.VolumeShape.{VolumeShape}
use Rattle.blob_node.specs.Units.{RowState}
use Rattle.volume_entry.specs.Manager.{Lock, ManagerRecord}
use Rattle.volume_world.specs.BlobStatus.{bare}

-- few current units are bare of a delete that is committed, or perhaps is; and no lock begins over a doubtful one
pub record Deletion (shape : VolumeShape) (homes : List Location) (lock : Option Lock) (broken : ℕ → Bool) (row : Place → ℕ → Option RowState) (committed : List ℕ) (doubt : Option ManagerRecord) : Type 0 where
  pub committed_bare : (b : ℕ) → is_in b committed ≡ true → bare shape.total homes broken row b + shape.data_count ≤ shape.quorum
  pub doubtful_bare : (b : ℕ) → doubt ≡ Some (ManagerRecord.Committed b) → bare shape.total homes broken row b + shape.data_count ≤ shape.quorum
  pub doubtful_unlocked : (b : ℕ) → doubt ≡ Some (ManagerRecord.Committed b) → lock ≡ None
