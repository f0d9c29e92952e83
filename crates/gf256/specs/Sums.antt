-- Sums of products of factors with the bytes of sources, place by place.
use Rattle.std.specs.Prelude.{◌≡◌, ℕ, ◌+◌, ◌<◌, List, [], ◌∷◌, length, drop, map, slice_index, bit_xor}
use Rattle.std.specs.Simd.Lanes.{Each1}
use Rattle.std.specs.List.{range_with_len}
use Rattle.gf256.specs.Field.{product}

-- the sum of the products of each factor and its source's byte at a place
unfoldable pub sum_at : List ℕ → List (List ℕ) → ℕ → ℕ
sum_at [] sources place = 0
sum_at (factor ∷ factors) [] place = 0
sum_at (factor ∷ factors) (source ∷ sources) place = bit_xor (product factor (slice_index source place)) (sum_at factors sources place)

-- these sums at the first n places
abbrev pub sums_of : List ℕ → List (List ℕ) → ℕ → List ℕ
sums_of factors sources n = map (sum_at factors sources) (range_with_len 0 n)

-- lane by lane, the sums from a place on
pub record HasSums (factors : List ℕ) (sources : List (List ℕ)) (at : ℕ) (lanes : List ℕ) : Type 0 where
  pub long : length lanes ≡ 16
  pub each : (i : ℕ) → i < 16 → slice_index lanes i ≡ sum_at factors sources (at + i)

-- sixteen bytes of a source from a place on
pub record AreBytesAt (source : List ℕ) (at : ℕ) (lanes : List ℕ) : Type 0 where
  pub long : length lanes ≡ 16
  pub fits : Each1 (λ byte. byte < 256) lanes
  pub each : (i : ℕ) → i < 16 → slice_index lanes i ≡ slice_index source (at + i)

-- the first j products are added, so that with the others the sums are whole
pub record IsPartial (factors : List ℕ) (sources : List (List ℕ)) (j at : ℕ) (lanes : List ℕ) : Type 0 where
  pub long : length lanes ≡ 16
  pub each : (i : ℕ) → i < 16 → bit_xor (slice_index lanes i) (sum_at (drop j factors) (drop j sources) (at + i)) ≡ sum_at factors sources (at + i)

-- the bytes below a place are the sums
abbrev pub HasSumsBelow : List ℕ → List (List ℕ) → ℕ → List ℕ → Type 0
HasSumsBelow factors sources end bytes = (k : ℕ) → k < end → k < length bytes → slice_index bytes k ≡ sum_at factors sources k

abbrev pub HasPairOfSums : List ℕ → List (List ℕ) → ℕ → List ℕ → List ℕ → Type 0
HasPairOfSums factors sources at first second = HasSums factors sources at first × HasSums factors sources (at + 16) second

abbrev pub IsPartialPair : List ℕ → List (List ℕ) → ℕ → ℕ → List ℕ → List ℕ → Type 0
IsPartialPair factors sources j at first second = IsPartial factors sources j at first × IsPartial factors sources j (at + 16) second
