-- The current units of which listings under the present lock can miss a blob.
use Rattle.std.specs.Prelude.{ℕ, Bool, cond, not, ◌&&◌, ◌||◌, ◌==◌, List, Option, Some, None, is_some}
use Rattle.unit_id.specs.Lists.{any, count_below}
use Rattle.unit_id.specs.Place.{Location, Place}
use Rattle.unit_id.specs.Shown.{Shown}
use Rattle.unit_id.specs.Request.{Request, Answer, Given}
use Rattle.blob_node.specs.Units.{RowState, is_live, is_deleted}
use Rattle.volume_entry.specs.Manager.{Lock, home_at, current, has_number}
use Rattle.volume_entry.specs.Benchmark.{shows_live, shows_marked}

-- the listing of this unit that an answer gives under this lock
abbrev pub listing_given : Option Lock → Place → Request → Answer → Option Shown
listing_given lock place (Request.List to number) (Answer.Listing said shown) =
    cond (has_number lock number && ((to.index == place.index) && (to.epoch == place.epoch))) (Some shown) None
listing_given lock place request answer = None

abbrev pub lists_without : Option Shown → Bool → Bool
lists_without shown is_shown = is_some shown && not is_shown

-- the answer gives a listing of this unit under this lock that doesn't show the blob live
abbrev pub hides_live : Option Lock → Place → ℕ → Given → Bool
hides_live lock place bid g = lists_without (listing_given lock place g.request g.answer) (shows_live (listing_given lock place g.request g.answer) bid)

-- .. that doesn't show it marked
abbrev pub hides_mark : Option Lock → Place → ℕ → Given → Bool
hides_mark lock place bid g = lists_without (listing_given lock place g.request g.answer) (shows_marked (listing_given lock place g.request g.answer) bid)

-- the current unit of the index isn't broken, and lacks a live row or gave a listing that doesn't show the blob live
abbrev pub is_blind_live : Option Lock → List Location → (ℕ → Bool) → (Place → ℕ → Option RowState) → List Given → ℕ → ℕ → Bool
is_blind_live lock homes broken row given bid index =
    not (broken (home_at homes index).disk) && (not (is_live (row (current homes index) bid)) || any (hides_live lock (current homes index) bid) given)

abbrev pub blind_live : ℕ → Option Lock → List Location → (ℕ → Bool) → (Place → ℕ → Option RowState) → List Given → ℕ → ℕ
blind_live total lock homes broken row given bid = count_below total (is_blind_live lock homes broken row given bid)

-- the current unit of the index isn't broken, and is bare of the mark or gave a listing that doesn't show it
abbrev pub is_blind_mark : Option Lock → List Location → (ℕ → Bool) → (Place → ℕ → Option RowState) → List Given → ℕ → ℕ → Bool
is_blind_mark lock homes broken row given bid index =
    not (broken (home_at homes index).disk) && (not (is_deleted (row (current homes index) bid)) || any (hides_mark lock (current homes index) bid) given)

abbrev pub blind_mark : ℕ → Option Lock → List Location → (ℕ → Bool) → (Place → ℕ → Option RowState) → List Given → ℕ → ℕ
blind_mark total lock homes broken row given bid = count_below total (is_blind_mark lock homes broken row given bid)
