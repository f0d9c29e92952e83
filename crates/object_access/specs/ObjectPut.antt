-- The put of an object: a put of each of its blobs in order, under numbers that follow each other.
use Rattle.std.specs.Prelude.{ℕ, ◌≡◌, ◌+◌, ◌≤◌, ◌⊎◌, List, [], ◌∷◌, ◌++◌, length, Result, Ok, Err}
use Rattle.code_mode.specs.declared.mode.Mode.{Mode}
use Rattle.code_mode.specs.declared.payload.Payload.TheVariants.{Plain}
use Rattle.volume_world.specs.Way.{WayView, longest_history}
use Rattle.volume_world.specs.Course.{Part, Goes}
use Rattle.volume_world.specs.Progress.{AllFit}
use Rattle.blob_access.specs.declared.putting.Acked.{Acked}
use Rattle.blob_access.specs.declared.fault.PutFault.{PutFault}
use Rattle.blob_access.specs.declared.fault.PutFault.TheVariants as faults
use Rattle.blob_access.specs.PutCall.{PutsBy}
use Rattle.object_access.specs.Pieces.{pieces_of}

-- the front of a stretch puts this blob, which is acknowledged, and this is what is left of it
pub record PutsFirst (mode : Mode) (number : ℕ) (piece : List ℕ) (parts rest : List Part) : Type 0 where
  pub own : List Part
  pub split : parts ≡ own ++ rest
  pub acked : Acked
  pub puts : PutsBy mode number (Plain piece) own (Ok acked)

-- all of a stretch puts this blob, which is refused, and its fault is the answer
pub record PutIsRefused (mode : Mode) (number : ℕ) (piece : List ℕ) (parts : List Part) (result : Result (Unit {0}) PutFault) : Type 0 where
  pub fault : PutFault
  pub puts : PutsBy mode number (Plain piece) parts (Err fault)
  pub given : result ≡ Err fault

-- what the puts of these blobs ask in this stretch, under numbers from this one on, and their answer: behind a blob that is acknowledged comes
-- the next one, and one that is refused is the last
abbrev pub ObjectPutsBy : Mode → ℕ → List (List ℕ) → List Part → Result (Unit {0}) PutFault → Type 0
ObjectPutsBy mode number [] parts result = (parts ≡ []) × (result ≡ Ok tt)
ObjectPutsBy mode number (piece ∷ pieces) parts result =
    ((rest : List Part) × PutsFirst mode number piece parts rest × ObjectPutsBy mode (number + 1) pieces rest result) ⊎ PutIsRefused mode number piece parts result

-- A put of an object over a way. Each reply is one that its event may have. The history is said to be full only where it is.
pub record ObjectPuts (old new : WayView) (first : ℕ) (bytes : List ℕ) (result : Result (Unit {0}) PutFault) : Type 0 where
  pub parts : List Part
  pub goes : Goes old new parts
  pub fits : AllFit old.origin parts
  pub call : ObjectPutsBy old.origin.mode first (pieces_of bytes) parts result
  pub full : result ≡ Err faults.HistoryFull → longest_history ≤ length new.entries
