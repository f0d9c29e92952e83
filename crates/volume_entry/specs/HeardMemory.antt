-- What memory keeps of what was heard under a lock, and of the marks that were heard, and for which manager's part it stands.
use Rattle.std.specs.Prelude.{ℕ, ◌≡◌, ◌≤◌, ◌<◌, Bool, false, ◌&&◌, ◌==◌, List, [], ◌∷◌, map, get_or, length, Option, None, Some, is_some, cond}
use Rattle.unit_id.specs.Lists.{IsIn, any, is_in}
use Rattle.unit_id.specs.Shown.{Shown}
use Rattle.volume_entry.specs.Manager.{Transfer, HeardMark, Heard, Manager, transfers_of, is_swapped}
use Rattle.volume_entry.specs.Benchmark.{listing_at, shows_live, shows_marked, was_heard}
use Rattle.volume_entry.specs.KeptTable.{KeptBids}

-- of a unit that a lock moves: the rows heard at its destination, and whether its old unit was heard to be fenced, or released
pub record HeardMove : Type 0 where
  pub index : ℕ
  pub live : KeptBids
  pub marked : KeptBids
  pub is_fenced : Bool
  pub is_released : Bool

-- marks, and for how many more there is room
pub record KeptMarks : Type 0 where
  pub marks : List HeardMark
  pub spare : ℕ

-- by index the listing of the current unit, where one was heard; what was heard of each unit that the lock moves; and the marks
pub record HeardMemory : Type 0 where
  pub listings : List (Option Shown)
  pub moves : List HeardMove
  pub marks : KeptMarks

-- what was heard of the move of an index
abbrev pub move_of : List HeardMove → ℕ → Option HeardMove
move_of [] index = None
move_of (move ∷ moves) index = cond (move.index == index) (Some move) (move_of moves index)

abbrev pub is_live_there : Option HeardMove → ℕ → Bool
is_live_there None bid = false
is_live_there (Some move) bid = is_in bid move.live.bids

abbrev pub is_marked_there : Option HeardMove → ℕ → Bool
is_marked_there None bid = false
is_marked_there (Some move) bid = is_in bid move.marked.bids

abbrev pub is_fenced_there : Option HeardMove → Bool
is_fenced_there None = false
is_fenced_there (Some move) = move.is_fenced

abbrev pub is_released_there : Option HeardMove → Bool
is_released_there None = false
is_released_there (Some move) = move.is_released

abbrev pub has_mark : List HeardMark → ℕ → ℕ → ℕ → Bool
has_mark marks bid index epoch = any (λ k. (k.bid == bid) && ((k.index == index) && (k.epoch == epoch))) marks

-- two listings show the same blobs
pub record ShowsSame (one other : Option Shown) : Type 0 where
  pub heard : is_some one ≡ is_some other
  pub live : (bid : ℕ) → shows_live one bid ≡ shows_live other bid
  pub marked : (bid : ℕ) → shows_marked one bid ≡ shows_marked other bid

-- By index, memory has the listing that was heard last of the current unit. Listings are asked for until the swap.
pub record ListingsTell (total : ℕ) (listings : List (Option Shown)) (m : Manager) : Type 0 where
  pub enough : total ≤ length listings
  pub shows : is_swapped m.lock ≡ false → (index : ℕ) → index < total → ShowsSame (get_or listings index None) (listing_at m.homes m.heard.listings index)

-- memory has a move for each transfer, which tells what was heard of it
pub record MovesTell (transfers : List Transfer) (moves : List HeardMove) (heard : Heard) : Type 0 where
  pub indexes : map (λ (move : HeardMove). move.index) moves ≡ map (λ (t : Transfer). t.index) transfers
  pub live : (index bid : ℕ) → is_live_there (move_of moves index) bid ≡ was_heard heard.live index bid
  pub marked : (index bid : ℕ) → is_marked_there (move_of moves index) bid ≡ was_heard heard.marked index bid
  pub fenced : (index : ℕ) → is_fenced_there (move_of moves index) ≡ is_in index heard.fenced
  pub released : (index : ℕ) → is_released_there (move_of moves index) ≡ is_in index heard.released

-- two lists have the same marks
abbrev pub MarksTell : List HeardMark → List HeardMark → Type 0
MarksTell kept heard = (bid index epoch : ℕ) → has_mark kept bid index epoch ≡ has_mark heard bid index epoch

-- Memory tells all that the manager's steps ask of what was heard.
pub record Remembers (total : ℕ) (memory : HeardMemory) (m : Manager) : Type 0 where
  pub listings : ListingsTell total memory.listings m
  pub moves : MovesTell (transfers_of m.lock) memory.moves m.heard
  pub marks : MarksTell memory.marks.marks m.marks

-- there is room for a row more of each kind
pub record HasRowRoom (move : HeardMove) : Type 0 where
  pub live : 1 ≤ move.live.spare
  pub marked : 1 ≤ move.marked.spare

-- there is room for what one answer but a listing adds
pub record HasRoom (memory : HeardMemory) : Type 0 where
  pub marks : 1 ≤ memory.marks.spare
  pub rows : (move : HeardMove) → IsIn move memory.moves → HasRowRoom move
