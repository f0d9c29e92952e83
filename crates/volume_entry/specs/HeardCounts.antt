-- What memory tells of moves, of marks, and of the listings of current units on unbroken disks.
use Rattle.std.specs.Prelude.{ℕ, Bool, true, false, cond, not, nat_le, ◌&&◌, ◌||◌, List, Option, None, get_or}
use Rattle.unit_id.specs.Lists.{any, count_below, some_below}
use Rattle.unit_id.specs.Place.{Location}
use Rattle.unit_id.specs.Shown.{Shown}
use Rattle.code_mode.specs.VolumeShape.{VolumeShape}
use Rattle.volume_entry.specs.Manager.{Transfer, HeardMark, home_at}
use Rattle.volume_entry.specs.Benchmark.{Due, shows_live, shows_marked}
use Rattle.volume_entry.specs.HeardMemory.{HeardMove, HeardMemory, move_of, has_mark, is_live_there, is_marked_there}

-- the disk is known to be broken
abbrev pub is_broken : List Bool → ℕ → Bool
is_broken flags disk = get_or flags disk false

-- a transfer from an unbroken disk whose move doesn't tell this
abbrev pub lacks : (Option HeardMove → Bool) → List HeardMove → List Bool → Transfer → Bool
lacks told moves broken t = not (told (move_of moves t.index)) && not (is_broken broken t.old.disk)

-- the listing of the current unit of an index, where its disk isn't broken
abbrev pub usable : List (Option Shown) → List Location → List Bool → ℕ → Option Shown
usable listings homes broken index = cond (is_broken broken (home_at homes index).disk) None (get_or listings index None)

-- a mark of the current unit of an index
abbrev pub marks_current : List HeardMark → List Location → ℕ → ℕ → Bool
marks_current marks homes bid index = has_mark marks bid index (home_at homes index).epoch

-- a usable listing shows the blob live
abbrev pub live_at : List (Option Shown) → List Location → List Bool → ℕ → ℕ → Bool
live_at listings homes broken bid index = shows_live (usable listings homes broken index) bid

-- .. or marked
abbrev pub marked_at : List (Option Shown) → List Location → List Bool → ℕ → ℕ → Bool
marked_at listings homes broken bid index = shows_marked (usable listings homes broken index) bid

-- what a blob gets, by memory
abbrev pub due_by : VolumeShape → List (Option Shown) → List Location → List Bool → ℕ → Due
due_by shape listings homes broken bid =
    cond (some_below shape.total (marked_at listings homes broken bid)) Due.Mark
    (cond (nat_le shape.data_count (count_below shape.total (live_at listings homes broken bid))) Due.Copy Due.Left)

-- the move of an index has it
abbrev pub settled_by : List HeardMove → ℕ → Due → ℕ → Bool
settled_by moves bid Due.Mark index = is_marked_there (move_of moves index) bid
settled_by moves bid Due.Copy index = is_live_there (move_of moves index) bid || is_marked_there (move_of moves index) bid
settled_by moves bid Due.Left index = true

-- some move hasn't
abbrev pub unsettled_by : VolumeShape → HeardMemory → List Location → List Bool → List Transfer → ℕ → Bool
unsettled_by shape memory homes broken transfers bid = any (λ t. not (settled_by memory.moves bid (due_by shape memory.listings homes broken bid) t.index)) transfers
