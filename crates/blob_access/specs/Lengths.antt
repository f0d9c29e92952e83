-- How many events a put or a get asks for.
use Rattle.std.specs.Prelude.{ℕ, ◌+◌, ◌*◌, ◌≤◌, List, [], ◌∷◌, Result}
use Rattle.code_mode.specs.declared.payload.Payload.{Payload}
use Rattle.code_mode.specs.Mode.{total_count}
use Rattle.volume_world.specs.Way.{Origin}
use Rattle.volume_world.specs.Course.{Part}
use Rattle.volume_world.specs.Progress.{AllFit}
use Rattle.blob_access.specs.declared.putting.Acked.{Acked}
use Rattle.blob_access.specs.declared.fault.PutFault.{PutFault}
use Rattle.blob_access.specs.declared.fault.GetFault.{GetFault}
use Rattle.blob_access.specs.PutCall.{PutsBy}
use Rattle.blob_access.specs.GetCall.{Wanted, GetsBy}

-- the events of our own, without the settles before them
abbrev pub asked_count : List Part → ℕ
asked_count [] = 0
asked_count (Part.Beside trace ∷ parts) = asked_count parts
asked_count (Part.Settling trace ∷ parts) = asked_count parts
asked_count (Part.Asking event reply ∷ parts) = 1 + asked_count parts

-- a lease, a begin, a request to each unit and an end are all that a put asks for
abbrev pub PutsAreShort : Type 0
PutsAreShort =
    (origin : Origin) (bid : ℕ) (payload : Payload) (parts : List Part) (result : Result Acked PutFault) → AllFit origin parts → PutsBy origin.mode bid payload parts result
    → asked_count parts ≤ total_count origin.mode + 3

-- five looks, and four reads of each unit, are all that a get asks for
abbrev pub GetsAreShort : Type 0
GetsAreShort =
    (origin : Origin) (wanted : Wanted) (parts : List Part) (result : Result (List ℕ) GetFault) → AllFit origin parts → GetsBy wanted parts result
    → asked_count parts ≤ 5 + 4 * total_count origin.mode
