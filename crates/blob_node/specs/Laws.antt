-- What follows from the rows and the answers of units.
use Rattle.std.specs.Prelude.{ℕ, ◌≡◌, ◌⊎◌, Bool, true, None}
use Rattle.unit_id.specs.Place.{Place}
use Rattle.unit_id.specs.Request.{Request, Answer}
use Rattle.blob_node.specs.Units.{UnitRecord, Units, is_live, is_deleted, with_record}
use Rattle.blob_node.specs.UnitAnswer.{UnitView, Effect, Answers, view_at, units_after, writes, is_row_request}

-- whatever record is written, a row that is marked or gone stays so, or its unit is released
abbrev pub MarksStay : Type 0
MarksStay =
    (units : Units) (at place : Place) (item : UnitRecord) (bid : ℕ) → is_deleted (units.row place bid) ≡ true
    → (is_deleted ((with_record at item units).row place bid) ≡ true) ⊎ ((with_record at item units).is_released place ≡ true)

-- where a shard, a mark or a free is written or left in doubt, there is no fence
abbrev pub FencedUnitsTakeNoWrites : Type 0
FencedUnitsTakeNoWrites =
    (view : UnitView) (request : Request) (answer : Answer) (effect : Effect) → Answers view request answer effect
    → is_row_request request ≡ true → writes effect ≡ true → view.fence ≡ None

-- a put that is done leaves a live row, and so does a copy
pub record DoneIsHeld : Type 0 where
  pub put : (broken : ℕ → Bool) (units : Units) (place : Place) (bid : ℕ) (effect : Effect) → Answers (view_at broken units place) (Request.Put place bid) Answer.Done effect
      → is_live ((units_after place (Request.Put place bid) effect units).row place bid) ≡ true
  pub copy : (broken : ℕ → Bool) (units : Units) (place : Place) (bid : ℕ) (effect : Effect) → Answers (view_at broken units place) (Request.Copy place bid) Answer.Done effect
      → is_live ((units_after place (Request.Copy place bid) effect units).row place bid) ≡ true
