-- How a blob stands: its put, and the current units that lack it or are bare of its mark.
use Rattle.std.specs.Prelude.{ℕ, Bool, true, false, not, ◌&&◌, List, Option}
use Rattle.unit_id.specs.Lists.{count_below}
use Rattle.unit_id.specs.Place.{Location, Place}
use Rattle.blob_node.specs.Units.{RowState, is_live, is_deleted}
use Rattle.volume_entry.specs.Manager.{home_at, current}
use Rattle.volume_world.specs.State.{Status}

abbrev pub is_begun : Status → Bool
is_begun Status.NotBegun = false
is_begun Status.Open = true
is_begun Status.Acked = true
is_begun Status.Failed = true

abbrev pub is_open : Status → Bool
is_open Status.NotBegun = false
is_open Status.Open = true
is_open Status.Acked = false
is_open Status.Failed = false

abbrev pub is_acked : Status → Bool
is_acked Status.NotBegun = false
is_acked Status.Open = false
is_acked Status.Acked = true
is_acked Status.Failed = false

-- the current unit of the index isn't broken, and has no live row of the blob
abbrev pub lacks : List Location → (ℕ → Bool) → (Place → ℕ → Option RowState) → ℕ → ℕ → Bool
lacks homes broken row bid index = not (broken (home_at homes index).disk) && not (is_live (row (current homes index) bid))

-- how many current units lack the blob
abbrev pub lacking : ℕ → List Location → (ℕ → Bool) → (Place → ℕ → Option RowState) → ℕ → ℕ
lacking total homes broken row bid = count_below total (lacks homes broken row bid)

-- the current unit of the index isn't broken, and its row of the blob is neither marked nor gone
abbrev pub is_bare : List Location → (ℕ → Bool) → (Place → ℕ → Option RowState) → ℕ → ℕ → Bool
is_bare homes broken row bid index = not (broken (home_at homes index).disk) && not (is_deleted (row (current homes index) bid))

-- how many current units are bare of the blob's mark
abbrev pub bare : ℕ → List Location → (ℕ → Bool) → (Place → ℕ → Option RowState) → ℕ → ℕ
bare total homes broken row bid = count_below total (is_bare homes broken row bid)
