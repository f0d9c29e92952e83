-- Whatever stands in a row, and whatever a unit has said, somebody asked for.
-- Why every move keeps it: a unit writes only what was asked of it, and only what is begun, asked or committed may be asked; and a row
-- only ever moves on, to live, then marked, then gone, so what an answer said stays true until the unit is released.
use Rattle.std.specs.Prelude.{ℕ, ◌≡◌, ◌⊎◌, Bool, true, false, List, Option, Some, None}
use Rattle.unit_id.specs.Lists.{IsIn, is_in}
use Rattle.unit_id.specs.Place.{Place}
use Rattle.unit_id.specs.Shown.{Shown}
use Rattle.unit_id.specs.Request.{Request, Answer, Given}
use Rattle.blob_node.specs.Units.{RowState, Units, is_deleted, has_row}
use Rattle.volume_world.specs.State.{Status}
use Rattle.volume_world.specs.BlobStatus.{is_begun}

-- a row's cause: a put that was begun, a delete that was asked, or committed
abbrev pub HasCause : Bool → Bool → Bool → Option RowState → Type 0
HasCause begun asked committed None = Unit {0}
HasCause begun asked committed (Some RowState.Live) = begun ≡ true
HasCause begun asked committed (Some RowState.Marked) = asked ≡ true
HasCause begun asked committed (Some RowState.Gone) = committed ≡ true

-- what a listing shows was begun, or asked; and stands, unless the unit is released
pub record IsShownRightly (status : ℕ → Status) (asked : List ℕ) (row : ℕ → Option RowState) (is_released : Bool) (shown : Shown) : Type 0 where
  pub live_begun : (b : ℕ) → is_in b shown.live ≡ true → is_begun (status b) ≡ true
  pub marked_begun : (b : ℕ) → is_in b shown.marked ≡ true → is_begun (status b) ≡ true
  pub marked_asked : (b : ℕ) → is_in b shown.marked ≡ true → is_in b asked ≡ true
  pub live_stands : is_released ≡ false → (b : ℕ) → is_in b shown.live ≡ true → has_row (row b) ≡ true
  pub marked_stands : is_released ≡ false → (b : ℕ) → is_in b shown.marked ≡ true → is_deleted (row b) ≡ true

-- unless the unit is released, it has a row of the blob
abbrev pub HasRow : Units → Place → ℕ → Type 0
HasRow units place bid = units.is_released place ≡ false → has_row (units.row place bid) ≡ true

-- .. and one that is marked or gone
abbrev pub HasMark : Units → Place → ℕ → Type 0
HasMark units place bid = units.is_released place ≡ false → is_deleted (units.row place bid) ≡ true

-- what an answer that was given says of the unit from then on
abbrev pub IsBorneOut : (ℕ → Status) → List ℕ → Units → Request → Answer → Type 0
IsBorneOut status asked units (Request.List place number) (Answer.Listing said shown) = IsShownRightly status asked (units.row place) (units.is_released place) shown
IsBorneOut status asked units (Request.Put place bid) Answer.Done = HasRow units place bid
IsBorneOut status asked units (Request.Put place bid) Answer.Already = HasRow units place bid
IsBorneOut status asked units (Request.Put place bid) Answer.Deleted = HasMark units place bid
IsBorneOut status asked units (Request.Copy place bid) Answer.Done = HasRow units place bid
IsBorneOut status asked units (Request.Copy place bid) Answer.Already = HasRow units place bid
IsBorneOut status asked units (Request.Copy place bid) Answer.Deleted = HasMark units place bid
IsBorneOut status asked units (Request.Mark place bid) Answer.Done = HasMark units place bid
IsBorneOut status asked units (Request.Mark place bid) Answer.Already = HasMark units place bid
IsBorneOut status asked units (Request.Fence place number) Answer.Done = (units.is_released place ≡ true) ⊎ (units.fence place ≡ Some number)
IsBorneOut status asked units (Request.Release place) Answer.Done = units.is_released place ≡ true
IsBorneOut status asked units (Request.Release place) (Answer.Stale have) = units.is_made place ≡ true → units.is_released place ≡ true
IsBorneOut status asked units request answer = Unit {0}

-- rows by their causes, and answers by what still bears them out
pub record Provenance (status : ℕ → Status) (asked committed : List ℕ) (units : Units) (given : List Given) : Type 0 where
  pub rows : (p : Place) (b : ℕ) → HasCause (is_begun (status b)) (is_in b asked) (is_in b committed) (units.row p b)
  pub answers : (g : Given) → IsIn g given → IsBorneOut status asked units g.request g.answer
