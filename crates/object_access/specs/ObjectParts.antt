-- One blob of an object: what its put and its get answer.
use Rattle.std.specs.Prelude.{ℕ, ◌≡◌, List, ◌++◌, Result, Ok, Err}
use Rattle.code_mode.specs.declared.payload.Payload.TheVariants.{Plain}
use Rattle.volume_world.specs.Way.{WayView}
use Rattle.blob_access.specs.declared.putting.Acked.{Acked}
use Rattle.blob_access.specs.declared.fault.PutFault.{PutFault}
use Rattle.blob_access.specs.declared.fault.GetFault.{GetFault}
use Rattle.blob_access.specs.PutCall.{Puts}
use Rattle.blob_access.specs.GetCall.{Gets}

-- the blob is put, by however many units
abbrev pub PutsPiece : WayView → WayView → ℕ → List ℕ → Result (Unit {0}) PutFault → Type 0
PutsPiece old new number piece (Ok done) = (acked : Acked) × Puts old new number (Plain piece) (Ok acked)
PutsPiece old new number piece (Err fault) = Puts old new number (Plain piece) (Err fault)

-- the blob is got, and stands behind the bytes before
abbrev pub GetsBehind : WayView → WayView → ℕ → ℕ → List ℕ → List ℕ → Result (Unit {0}) GetFault → Type 0
GetsBehind old new number size before after (Ok done) = (blob : List ℕ) × Gets old new number size (Ok blob) × (after ≡ before ++ blob)
GetsBehind old new number size before after (Err fault) = Gets old new number size (Err fault)
