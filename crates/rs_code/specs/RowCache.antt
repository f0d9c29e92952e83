-- Rows of factors that are kept, the most recently used first, each for some held indexes and a wanted one.
use Rattle.std.specs.Prelude.{◌≡◌, ℕ, ◌+◌, ◌-◌, ◌^◌, ◌≤◌, ◌==◌, ◌&&◌, Bool, if◌then◌else◌, min, List, [], ◌∷◌, take, Option, Some, None}
use Rattle.std.specs.Str.{bytes_eq}

pub record KeptRow : Type 0 where
  pub held : List ℕ
  pub want : ℕ
  pub row : List ℕ

-- how many rows may be kept, and those that are
pub record KeptRows : Type 0 where
  pub cached : ℕ
  pub entries : List KeptRow

-- an entry has these indexes
abbrev pub is_for : List ℕ → ℕ → KeptRow → Bool
is_for held want entry = bytes_eq held entry.held && (want == entry.want)

-- the entry that has these indexes
abbrev pub found : List ℕ → ℕ → List KeptRow → Option KeptRow
found held want [] = None
found held want (entry ∷ entries) = if is_for held want entry then Some entry else found held want entries

-- the entries without that one, in their order
abbrev pub others : List ℕ → ℕ → List KeptRow → List KeptRow
others held want [] = []
others held want (entry ∷ entries) = if is_for held want entry then entries else entry ∷ others held want entries

-- each entry's row is one that fits its indexes
abbrev pub AllFit : (List ℕ → ℕ → List ℕ → Type 0) → List KeptRow → Type 0
AllFit fits [] = Unit {0}
AllFit fits (entry ∷ entries) = fits entry.held entry.want entry.row × AllFit fits entries

-- a count rises by one at least, and up to 2^64 - 1 at most has to
abbrev pub HasRisen : ℕ → ℕ → Type 0
HasRisen before now = (before ≤ now) × (min (before + 1) (2 ^ 64 - 1) ≤ now)

-- an entry that was there comes first
abbrev pub renewed : List ℕ → ℕ → KeptRow → KeptRows → KeptRows
renewed held want entry rows = record rows { entries = entry ∷ others held want rows.entries }

-- a new entry comes first, and where there were as many as may be the last one goes
abbrev pub with_row : List ℕ → ℕ → List ℕ → KeptRows → KeptRows
with_row held want row rows = record rows { entries = (record { held = held; want = want; row = row }) ∷ take (rows.cached - 1) rows.entries }

-- by whether there was an entry: its row and no call of the maker, or a row that was made and fits
abbrev pub IsGivenBy : Option KeptRow → (List ℕ → ℕ → List ℕ → Type 0) → List ℕ → ℕ → KeptRows → KeptRows → ℕ → ℕ → List ℕ → Type 0
IsGivenBy (Some entry) fits held want old new before now row = (row ≡ entry.row) × (new ≡ renewed held want entry old) × (now ≡ before)
IsGivenBy None fits held want old new before now row = fits held want row × (new ≡ with_row held want row old) × HasRisen before now

-- what a look-up answers, with the entries and the maker's count before and after it
abbrev pub IsRowOf : (List ℕ → ℕ → List ℕ → Type 0) → List ℕ → ℕ → KeptRows → KeptRows → ℕ → ℕ → List ℕ → Type 0
IsRowOf fits held want old new = IsGivenBy (found held want old.entries) fits held want old new
