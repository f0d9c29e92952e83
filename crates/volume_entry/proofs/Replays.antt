-- What a body says is one record's.
use Rattle.std.proofs.Common.{◌≡◌, ◌∙◌, subst, ℕ, Bool, true, false, List}
use Rattle.code_mode.specs.declared.mode.Mode.{Mode}
use Rattle.unit_id.specs.Place.{Location}
use Rattle.volume_entry.specs.Manager.{Manager, ManagerRecord, AreFirstHomes, IsLegal}
use Rattle.volume_entry.specs.Spelling.{Spells}
use Rattle.volume_entry.specs.Replaying.{TakesBody}
use Rattle.volume_entry.specs.TableParts.{TakesLegal, shape_of}
use Rattle.volume_entry.specs.declared.shape.Shape.{Shape}
use Rattle.volume_entry.proofs.OneSpelling.{one_to_one}

pub takes_body : (vid : ℕ) (shape : Shape) (item : ManagerRecord) (body : List ℕ) (old new : Manager) → Spells vid shape.mode item body
    → (answer : Bool) → TakesLegal (shape_of shape) item old new answer → TakesBody vid shape body old new answer
takes_body vid shape item body old new s true t = (item, s, t.0, t.1)
takes_body vid shape item body old new s false t =
    ((λ other o l. t.0 (subst (IsLegal (shape_of shape) old) (one_to_one vid shape.mode other item body o s) l)), t.1)

-- a body that spells a record of another kind isn't that of a making
pub not_made : (vid : ℕ) (mode : Mode) (item : ManagerRecord) (body : List ℕ) → Spells vid mode item body
    → ((homes : List Location) → item ≡ ManagerRecord.Made homes → ⊥) → (homes : List Location) → Spells vid mode (ManagerRecord.Made homes) body → ⊥
not_made vid mode item body s n homes h = n homes (one_to_one vid mode item (ManagerRecord.Made homes) body s h)

-- .. and one that spells a making with other homes isn't that of these
pub not_first : (vid : ℕ) (shape : Shape) (item : ManagerRecord) (body : List ℕ) (found : List Location) → Spells vid shape.mode item body → item ≡ ManagerRecord.Made found
    → (AreFirstHomes (shape_of shape) found → ⊥) → (homes : List Location) → Spells vid shape.mode (ManagerRecord.Made homes) body → AreFirstHomes (shape_of shape) homes → ⊥
not_first vid shape item body found s e n homes h first =
    let made : ManagerRecord.Made homes ≡ ManagerRecord.Made found = one_to_one vid shape.mode (ManagerRecord.Made homes) item body h s ∙ e in
    let same : homes ≡ found = cc in
    n (subst (AreFirstHomes (shape_of shape)) same first)
