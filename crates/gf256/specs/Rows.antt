-- What the rows of half-byte products of one output's factors give, over sources behind references.
use Rattle.std.specs.Prelude.{◌≡◌, ℕ, List, length, map}
use Rattle.std.specs.Borrow.{Bor}
use Rattle.gf256.specs.declared.lanes.Halves.{Halves}
use Rattle.gf256.specs.Halves.{AreHalves}
use Rattle.gf256.specs.Sums.{HasPairOfSums, IsPartialPair, HasSumsBelow}

abbrev pub contents : List (Bor (List ℕ)) → List (List ℕ)
contents sources = map (λ source. source.now) sources

-- two blocks have the sums of the factors at 32 places
pub record SumsAtPair (row : List Halves) (sources : List (Bor (List ℕ))) (at : ℕ) (first second : List ℕ) : Type 0 where
  pub first_long : length first ≡ 16
  pub second_long : length second ≡ 16
  pub sums : (factors : List ℕ) → AreHalves factors row → HasPairOfSums factors (contents sources) at first second

-- the same but for the products of the sources from the j-th on
pub record PartialAtPair (row : List Halves) (sources : List (Bor (List ℕ))) (j at : ℕ) (first second : List ℕ) : Type 0 where
  pub first_long : length first ≡ 16
  pub second_long : length second ≡ 16
  pub partial : (factors : List ℕ) → AreHalves factors row → IsPartialPair factors (contents sources) j at first second

-- an output that had the sums below a place has them up to its end
pub record Fills (row : List Halves) (sources : List (Bor (List ℕ))) (from : ℕ) (old new : List ℕ) : Type 0 where
  pub long : length new ≡ length old
  pub sums : (factors : List ℕ) → AreHalves factors row → HasSumsBelow factors (contents sources) from old → HasSumsBelow factors (contents sources) (length old) new
