-- How many shards the sets of a coder have, and what a coder keeps.
use Rattle.std.specs.Prelude.{◌≡◌, ℕ, ◌≤◌, ◌==◌, Bool, true, false, List}
use Rattle.std.specs.List.{list_any}
use Rattle.rs_code.specs.RowCache.{KeptRows, IsRowOf}
use Rattle.rs_code.specs.ShardValue.{weights}

-- so many shards give all others, which are so many
pub record Shape : Type 0 where
  pub data_shards : ℕ
  pub parity_shards : ℕ

-- these numbers, the rows that are kept, and how many calls made a row
pub record CoderState : Type 0 where
  pub data_shards : ℕ
  pub parity_shards : ℕ
  pub rows : KeptRows
  pub made : ℕ

abbrev pub shape : CoderState → Shape
shape coder = record { data_shards = coder.data_shards; parity_shards = coder.parity_shards }

-- the row of weights of some held indexes for a wanted one
abbrev pub AreWeights : List ℕ → ℕ → List ℕ → Type 0
AreWeights held want row = row ≡ weights held want

-- an index is one of some
abbrev pub is_among : ℕ → List ℕ → Bool
is_among want held = list_any (λ x. x == want) held

-- nothing changed where the wanted index is among the held ones; else its row was looked up
abbrev pub HasLookedUp : Bool → List ℕ → ℕ → CoderState → CoderState → Type 0
HasLookedUp true held want old new = new ≡ old
HasLookedUp false held want old new = (shape new ≡ shape old) × IsRowOf AreWeights held want old.rows new.rows old.made new.made (weights held want)

-- what a call without memory leaves: the shape and the kept rows; a row may have been made
pub record HasOnlyMade (old new : CoderState) : Type 0 where
  pub same_shape : shape new ≡ shape old
  pub same_rows : new.rows ≡ old.rows
  pub made : old.made ≤ new.made
