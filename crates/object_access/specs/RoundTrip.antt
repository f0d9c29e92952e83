-- What becomes of an object that is put.
use Rattle.std.specs.Prelude.{ℕ, ◌≡◌, ◌+◌, ◌≤◌, List, [], ◌∷◌, ◌<◌, length, map, Ok}
use Rattle.std.specs.List.{concat}
use Rattle.code_mode.specs.declared.stripe.TheConstants.{BLOB_LIMIT}
use Rattle.volume_world.specs.Run.{World}
use Rattle.volume_world.specs.Way.{Origin}
use Rattle.volume_world.specs.Course.{Part, PartsLead}
use Rattle.blob_access.specs.GetCall.{IsPayload}
use Rattle.object_access.specs.Pieces.{blob_count, blob_size, blob_sizes, pieces_of}
use Rattle.object_access.specs.ObjectPut.{ObjectPutsBy}
use Rattle.object_access.specs.ObjectGet.{IsObject}

-- the blobs of an object are its bytes, and each has the size of its place, which is that of a blob
pub record PiecesAreTheObject (bytes : List ℕ) : Type 0 where
  pub joined : concat (pieces_of bytes) ≡ bytes
  pub sizes : map (λ (piece : List ℕ). length piece) (pieces_of bytes) ≡ blob_sizes (length bytes)
  pub legal : (place : ℕ) → place < blob_count (length bytes) → (1 ≤ blob_size (length bytes) place) × (blob_size (length bytes) place ≤ BLOB_LIMIT)

-- the blobs from this number on are begun with these payloads
abbrev pub AreBegunWith : World → ℕ → List (List ℕ) → Type 0
AreBegunWith w number [] = Unit {0}
AreBegunWith w number (piece ∷ pieces) = IsPayload w number piece × AreBegunWith w (number + 1) pieces

-- wherever a put of an object leads that isn't refused, its blobs are begun with their bytes
abbrev pub PutObjectsAreBegun : Type 0
PutObjectsAreBegun =
    (origin : Origin) (first : ℕ) (bytes : List ℕ) (parts : List Part) (w v : World) → ObjectPutsBy origin.mode first (pieces_of bytes) parts (Ok tt) → PartsLead origin w parts v
    → AreBegunWith v first (pieces_of bytes)

-- .. and they stay so, so that no later get gives other bytes
abbrev pub ObjectsAreGotBack : Type 0
ObjectsAreGotBack =
    (origin : Origin) (first : ℕ) (bytes got : List ℕ) (parts : List Part) (w v : World) → AreBegunWith w first (pieces_of bytes) → PartsLead origin w parts v → IsObject v first (blob_count (length bytes)) got
    → got ≡ bytes
