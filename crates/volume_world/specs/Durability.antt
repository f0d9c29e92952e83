-- Few current units lack an acknowledged blob.
-- Why every move keeps it: an acknowledgement counts a quorum of units that hold the blob; later a current unit loses a row only by a
-- mark, which has to be asked for; and a swap puts in only units that hold it.
use Rattle.std.specs.Prelude.{ℕ, ◌≡◌, ◌+◌, ◌≤◌, Bool, true, false, List, Option}
use Rattle.unit_id.specs.Lists.{is_in}
use Rattle.unit_id.specs.Place.{Location, Place}
use Rattle.code_mode.specs.VolumeShape.{VolumeShape}
use Rattle.blob_node.specs.Units.{RowState}
use Rattle.volume_world.specs.State.{Status}
use Rattle.volume_world.specs.BlobStatus.{is_acked, lacking}

-- an acknowledged blob whose delete isn't asked
pub record IsHeld (status : ℕ → Status) (asked : List ℕ) (bid : ℕ) : Type 0 where
  pub acked : is_acked (status bid) ≡ true
  pub unasked : is_in bid asked ≡ false

-- few current units lack an acknowledged blob
abbrev pub Durability : VolumeShape → List Location → (ℕ → Bool) → (Place → ℕ → Option RowState) → (ℕ → Status) → List ℕ → Type 0
Durability shape homes broken row status asked =
    (b : ℕ) → IsHeld status asked b → lacking shape.total homes broken row b + shape.quorum ≤ shape.total
