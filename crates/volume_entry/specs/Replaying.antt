-- How the bodies of a log become the manager's part of a volume.
use Rattle.std.specs.Prelude.{ℕ, ◌≡◌, Bool, true, false, List, Option, Some, None}
use Rattle.unit_id.specs.Place.{Location}
use Rattle.volume_entry.specs.Manager.{Manager, ManagerRecord, AreFirstHomes, IsLegal, fresh_manager, written}
use Rattle.volume_entry.specs.Spelling.{Spells}
use Rattle.volume_entry.specs.TableParts.{part_of, shape_of}
use Rattle.volume_entry.specs.declared.shape.Shape.{Shape}
use Rattle.volume_entry.specs.declared.table.Table.{Table}

-- a first body, which says with which homes the volume was made, or doesn't
abbrev pub MakesTable : ℕ → Shape → List ℕ → Option Table → Type 0
MakesTable vid shape body (Some table) =
    (homes : List Location) × Spells vid shape.mode (ManagerRecord.Made homes) body × AreFirstHomes (shape_of shape) homes × (part_of table ≡ fresh_manager homes)
MakesTable vid shape body None = (homes : List Location) → Spells vid shape.mode (ManagerRecord.Made homes) body → AreFirstHomes (shape_of shape) homes → ⊥

-- a further body, which spells a record that is legal behind those of the old part, or doesn't
abbrev pub TakesBody : ℕ → Shape → List ℕ → Manager → Manager → Bool → Type 0
TakesBody vid shape body old new true =
    (item : ManagerRecord) × Spells vid shape.mode item body × IsLegal (shape_of shape) old item × (new ≡ written item old)
TakesBody vid shape body old new false = ((item : ManagerRecord) → Spells vid shape.mode item body → IsLegal (shape_of shape) old item → ⊥) × (new ≡ old)
