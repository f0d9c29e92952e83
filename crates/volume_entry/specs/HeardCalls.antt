-- What calls make of the memory of what was heard.
use Rattle.std.specs.Prelude.{ℕ, ◌≡◌, ◌<◌, ◌==◌, ◌||◌, List, [], ◌∷◌, ◌++◌, take, get_or, length, Bool, true, false, cond, Option, Some, None}
use Rattle.unit_id.specs.Lists.{IsIn, any, is_in}
use Rattle.unit_id.specs.Place.{Location, Place}
use Rattle.unit_id.specs.Request.{Request, Answer}
use Rattle.unit_id.specs.Shown.{Shown}
use Rattle.volume_entry.specs.Manager.{Transfer, Lock, Heard, Manager, transfers_of, is_destination}
use Rattle.volume_entry.specs.ManagerStep.{rows_at, hear, hear_listing, hear_marked}
use Rattle.volume_entry.specs.HeardMemory.{HeardMove, HeardMemory, HasRowRoom, MovesTell, Remembers, move_of}

-- these blobs are added to those before
abbrev pub Adds : List ℕ → List ℕ → List ℕ → Type 0
Adds bids old new = (bid : ℕ) → is_in bid new ≡ (is_in bid bids || is_in bid old)

-- rows of these blobs are heard at the destination of a move, and nothing else is
pub record TakesRows (shown_live shown_marked : List ℕ) (old new : HeardMove) : Type 0 where
  pub index : new.index ≡ old.index
  pub live : Adds shown_live old.live.bids new.live.bids
  pub marked : Adds shown_marked old.marked.bids new.marked.bids
  pub is_fenced : new.is_fenced ≡ old.is_fenced
  pub is_released : new.is_released ≡ old.is_released

-- nothing was heard of the move of this index
pub record IsFresh (at : ℕ) (move : HeardMove) : Type 0 where
  pub index : move.index ≡ at
  pub live : move.live.bids ≡ []
  pub marked : move.marked.bids ≡ []
  pub is_fenced : move.is_fenced ≡ false
  pub is_released : move.is_released ≡ false

-- its rows are forgotten
pub record LosesRows (old new : HeardMove) : Type 0 where
  pub index : new.index ≡ old.index
  pub live : new.live.bids ≡ []
  pub marked : new.marked.bids ≡ []
  pub is_fenced : new.is_fenced ≡ old.is_fenced
  pub is_released : new.is_released ≡ old.is_released

-- the first move of an index stands at this place
pub record IsFirstAt (moves : List HeardMove) (index place : ℕ) : Type 0 where
  pub within : place < length moves
  pub before : move_of (take place moves) index ≡ None
  pub here : (other : HeardMove) → (get_or moves place other).index ≡ index

-- .. or no move is of the index
abbrev pub FindsMove : List HeardMove → ℕ → Option ℕ → Type 0
FindsMove moves index None = move_of moves index ≡ None
FindsMove moves index (Some place) = IsFirstAt moves index place

-- some transfer is of this index
abbrev pub moves_index : List Transfer → ℕ → Bool
moves_index transfers index = any (λ t. t.index == index) transfers

-- rows of these blobs are heard at the destination of an index
abbrev pub add_rows : ℕ → List ℕ → List ℕ → Heard → Heard
add_rows index live marked heard = record heard { live = rows_at index live ++ heard.live; marked = rows_at index marked ++ heard.marked }

-- whatever moves tell before of what was heard, they tell afterwards of what becomes of it
abbrev pub MovesHear : List Transfer → (Heard → Heard) → List HeardMove → List HeardMove → Type 0
MovesHear transfers step old new = (heard : Heard) → MovesTell transfers old heard → MovesTell transfers new (step heard)

-- a move for each of these indexes, of which nothing was heard
abbrev pub AreFresh : List ℕ → List HeardMove → Type 0
AreFresh [] [] = Unit {0}
AreFresh (index ∷ indexes) (move ∷ moves) = IsFresh index move × AreFresh indexes moves
AreFresh _ _ = ⊥

-- whatever memory tells of before, it tells of what becomes of it
abbrev pub Follows : (Manager → Manager) → HeardMemory → HeardMemory → Type 0
Follows step old new = (total : ℕ) (m : Manager) → Remembers total old m → Remembers total new (step m)

-- the same moves, which tell the same
abbrev pub StillTell : List HeardMove → List HeardMove → Type 0
StillTell [] [] = Unit {0}
StillTell (old ∷ olds) (new ∷ news) = TakesRows [] [] old new × StillTell olds news
StillTell _ _ = ⊥

-- .. of a manager's part with this lock
abbrev pub HearsUnder : Option Lock → (Manager → Manager) → HeardMemory → HeardMemory → Type 0
HearsUnder lock step old new = (total : ℕ) (m : Manager) → m.lock ≡ lock → Remembers total old m → Remembers total new (step m)

-- .. with these homes and this lock: of what the manager hears by an answer
abbrev pub Hears : List Location → Option Lock → Request → Answer → HeardMemory → HeardMemory → Type 0
Hears homes lock request answer old new = (total : ℕ) (m : Manager) → m.homes ≡ homes → m.lock ≡ lock → Remembers total old m → Remembers total new (hear request answer m)

-- the answer is a listing
abbrev pub is_listing : Answer → Bool
is_listing (Answer.Listing said shown) = true
is_listing answer = false

-- every move has room for a row more of each kind
abbrev pub HaveRowRoom : List HeardMove → Type 0
HaveRowRoom moves = (move : HeardMove) → IsIn move moves → HasRowRoom move

-- rows of the blobs that are shown are heard at a unit, where it is a destination
abbrev pub with_rows : Place → Shown → Manager → Manager
with_rows place shown m = record m {
  heard = record (m.heard) {
    live = cond (is_destination (transfers_of m.lock) place) (rows_at place.index shown.live ++ m.heard.live) m.heard.live;
    marked = cond (is_destination (transfers_of m.lock) place) (rows_at place.index shown.marked ++ m.heard.marked) m.heard.marked;
  };
}

-- the mark of a blob is heard, and its marked row
abbrev pub with_mark : Place → ℕ → Manager → Manager
with_mark place bid m = record m {
  heard = hear_marked (transfers_of m.lock) place bid m.heard;
  marks = record { bid = bid; index = place.index; epoch = place.epoch } ∷ m.marks;
}

-- .. of what a listing of a unit shows
abbrev pub HearsListing : List Location → Option Lock → Place → Shown → HeardMemory → HeardMemory → Type 0
HearsListing homes lock place shown old new = (total : ℕ) (m : Manager) → m.homes ≡ homes → m.lock ≡ lock → Remembers total old m
    → Remembers total new (record m { heard = hear_listing (transfers_of m.lock) place shown m.heard })
