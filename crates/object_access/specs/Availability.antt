-- What a get answers of an object whose blobs are all available.
use Rattle.std.specs.Prelude.{ℕ, ◌≡◌, ◌+◌, ◌<◌, List, [], ◌++◌, Result, Ok, Err}
use Rattle.volume_world.specs.Run.{World}
use Rattle.volume_world.specs.Way.{Origin}
use Rattle.volume_world.specs.Possible.{IsPossible}
use Rattle.volume_world.specs.Course.{Part, PartsLead}
use Rattle.blob_access.specs.declared.fault.GetFault.{GetFault}
use Rattle.blob_access.specs.Causes.{IsAvailable, GivesBlob}
use Rattle.object_access.specs.Pieces.{blob_count, blob_size, blob_sizes}
use Rattle.object_access.specs.ObjectGet.{ObjectGetsBy, IsObject}

-- the end of a stretch is the get of one of the blobs, which answered by this fault as that of an available blob may
pub record EndsWithABlob (v : World) (first size : ℕ) (parts : List Part) (fault : GetFault) : Type 0 where
  pub place : ℕ
  pub within : place < blob_count size
  pub before : List Part
  pub own : List Part
  pub split : parts ≡ before ++ own
  pub gives : GivesBlob v (first + place) (blob_size size place) own (Err fault)

-- what the get of such an object then answers
abbrev pub GivesObject : World → ℕ → ℕ → List Part → Result (List ℕ) GetFault → Type 0
GivesObject v first size parts (Ok bytes) = IsObject v first (blob_count size) bytes
GivesObject v first size parts (Err fault) = EndsWithABlob v first size parts fault

-- an object whose blobs are all available is got, unless one of them has another size, its units move at every try, or a look fails
abbrev pub ObjectsAreGot : Type 0
ObjectsAreGot =
    (origin : Origin) (first size : ℕ) (result : Result (List ℕ) GetFault) (parts : List Part) (w v : World) → IsPossible origin w → ObjectGetsBy origin.mode first (blob_sizes size) [] parts result
    → PartsLead origin w parts v → ((place : ℕ) → place < blob_count size → IsAvailable origin (first + place) w parts v) → GivesObject v first size parts result
