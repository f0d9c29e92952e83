-- What a destination has to have before a swap, by the listings that were heard of current units on unbroken disks.
use Rattle.std.specs.Prelude.{ℕ, Bool, true, false, cond, not, ◌&&◌, ◌||◌, ◌==◌, nat_le, List, [], ◌∷◌, Option, Some, None, is_some}
use Rattle.unit_id.specs.Lists.{any, is_in, count_below, some_below}
use Rattle.unit_id.specs.Place.{Location}
use Rattle.unit_id.specs.Shown.{Shown}
use Rattle.code_mode.specs.VolumeShape.{VolumeShape}
use Rattle.volume_entry.specs.Manager.{Transfer, HeardListing, HeardRow, Heard, home_at}

-- the listing that was heard last of this unit
abbrev pub listing_of : List HeardListing → ℕ → ℕ → Option Shown
listing_of [] index epoch = None
listing_of (l ∷ ls) index epoch = cond ((l.index == index) && (l.epoch == epoch)) (Some l.shown) (listing_of ls index epoch)

abbrev pub shows_live : Option Shown → ℕ → Bool
shows_live None bid = false
shows_live (Some shown) bid = is_in bid shown.live

abbrev pub shows_marked : Option Shown → ℕ → Bool
shows_marked None bid = false
shows_marked (Some shown) bid = is_in bid shown.marked

-- the listing of the current unit of an index
abbrev pub listing_at : List Location → List HeardListing → ℕ → Option Shown
listing_at homes listings index = listing_of listings index (home_at homes index).epoch

-- a listing of the current unit of an index was heard, and its disk isn't broken
abbrev pub is_listed : List Location → (ℕ → Bool) → List HeardListing → ℕ → Bool
is_listed homes broken listings index = not (broken (home_at homes index).disk) && is_some (listing_at homes listings index)

-- .. which shows the blob live
abbrev pub is_listed_live : List Location → (ℕ → Bool) → List HeardListing → ℕ → ℕ → Bool
is_listed_live homes broken listings bid index = not (broken (home_at homes index).disk) && shows_live (listing_at homes listings index) bid

-- .. which shows the blob marked
abbrev pub is_listed_marked : List Location → (ℕ → Bool) → List HeardListing → ℕ → ℕ → Bool
is_listed_marked homes broken listings bid index = not (broken (home_at homes index).disk) && shows_marked (listing_at homes listings index) bid

-- how many current units were listed
abbrev pub listed_count : ℕ → List Location → (ℕ → Bool) → List HeardListing → ℕ
listed_count total homes broken listings = count_below total (is_listed homes broken listings)

-- what a blob gets
pub data Due : Type 0 where
  Mark : Due
  Copy : Due
  Left : Due

-- A blob that any listing shows marked gets a mark, any other that as many show live as there are data shards gets a copy.
abbrev pub benchmark_of : VolumeShape → List Location → (ℕ → Bool) → List HeardListing → ℕ → Due
benchmark_of shape homes broken listings bid =
    cond (some_below shape.total (is_listed_marked homes broken listings bid)) Due.Mark
    (cond (nat_le shape.data_count (count_below shape.total (is_listed_live homes broken listings bid))) Due.Copy Due.Left)

-- a row of this blob was heard at the destination of this index
abbrev pub was_heard : List HeardRow → ℕ → ℕ → Bool
was_heard rows index bid = any (λ row. (row.index == index) && (row.bid == bid)) rows

-- what the blob gets was heard at the destination of this index
abbrev pub is_settled : Heard → ℕ → Due → ℕ → Bool
is_settled heard bid Due.Mark index = was_heard heard.marked index bid
is_settled heard bid Due.Copy index = was_heard heard.live index bid || was_heard heard.marked index bid
is_settled heard bid Due.Left index = true

-- some destination has still to get it
abbrev pub is_unsettled : VolumeShape → List Location → (ℕ → Bool) → List Transfer → Heard → ℕ → Bool
is_unsettled shape homes broken transfers heard bid =
    any (λ t. not (is_settled heard bid (benchmark_of shape homes broken heard.listings bid) t.index)) transfers
