-- The shards of a set as values of polynomials over the field: at each byte position the shard of index
-- r is the value at r of the only polynomial of degree below n through n points.
use Rattle.std.specs.Prelude.{◌≡◌, ℕ, ◌<◌, ◌==◌, if◌then◌else◌, List, [], ◌∷◌, length, get_or, take, map, bit_xor, Option, Some, unwrap_or, All, AllPairs, ◌≢◌, IfSome}
use Rattle.std.specs.List.{range_with_len}
use Rattle.gf256.specs.Field.{product, inverse_of}
use Rattle.rs_code.specs.Shards.{shard_at, held, size_of}

-- ---- polynomials, as the list of their coefficients from that of x^0 on
-- a polynomial's value at x
abbrev pub value : List ℕ → ℕ → ℕ
value [] x = 0
value (c ∷ cs) x = bit_xor c (product x (value cs x))

-- a polynomial of degree below n over the field
abbrev pub IsPolynomialBelow : ℕ → List ℕ → Type 0
IsPolynomialBelow n polynomial = (length polynomial ≡ n) × All (λ c. c < 256) polynomial

-- a polynomial goes through each of the points
abbrev pub IsInterpolant : List (ℕ × ℕ) → List ℕ → Type 0
IsInterpolant points polynomial = All (λ p. value polynomial p.0 ≡ p.1) points

-- points of the field, no two at the same place
abbrev pub ArePoints : List (ℕ × ℕ) → Type 0
ArePoints points = All (λ p. (p.0 < 256) × (p.1 < 256)) points × AllPairs (λ p q. p.0 ≢ q.0) points

-- ---- the value of the polynomial through points, as Lagrange's sum
-- a divided by b
abbrev pub quotient : ℕ → ℕ → ℕ
quotient a b = product a (inverse_of b)

-- the product of (r - z) / (x - z) over the places z other than x
abbrev pub weight : List ℕ → ℕ → ℕ → ℕ
weight [] x r = 1
weight (z ∷ places) x r = if z == x then weight places x r else product (quotient (bit_xor r z) (bit_xor x z)) (weight places x r)

-- the weights of all places, in their order
abbrev pub weights : List ℕ → ℕ → List ℕ
weights places r = map (λ x. weight places x r) places

-- the sum over the points of their values, each times its weight among the places
abbrev pub weighted_sum : List ℕ → List (ℕ × ℕ) → ℕ → ℕ
weighted_sum places [] r = 0
weighted_sum places (p ∷ points) r = bit_xor (product (weight places p.0 r) p.1) (weighted_sum places points r)

-- the value at r of the only polynomial of degree below the number of points that goes through them
unfoldable pub value_at : List (ℕ × ℕ) → ℕ → ℕ
value_at points r = weighted_sum (map (λ p. p.0) points) points r

-- ---- shards
-- the byte at a position of a shard
abbrev pub byte_at : Option (List ℕ) → ℕ → ℕ
byte_at shard position = get_or (unwrap_or shard []) position 0

-- the points that the shards of some indexes give at a position
abbrev pub points_of : List (Option (List ℕ)) → ℕ → List ℕ → List (ℕ × ℕ)
points_of shards position indexes = map (λ x. (x, byte_at (shard_at shards x) position)) indexes

-- at each position, the value at r of the polynomial through the points of some indexes there
abbrev pub row_through : List (Option (List ℕ)) → List ℕ → ℕ → List ℕ
row_through shards indexes r = map (λ position. value_at (points_of shards position indexes) r) (range_with_len 0 (unwrap_or (size_of shards) 0))

-- the shard of index r by the n least held ones
unfoldable pub rebuilt : ℕ → List (Option (List ℕ)) → ℕ → List ℕ
rebuilt n shards r = row_through shards (take n (held shards)) r

-- the shards with each one that isn't held rebuilt
unfoldable pub filled : ℕ → List (Option (List ℕ)) → List (Option (List ℕ))
filled n shards = map (λ k. Some (unwrap_or (shard_at shards k) (rebuilt n shards k))) (range_with_len 0 (length shards))

-- every held shard is the one that the n least held ones give
abbrev pub IsConsistent : ℕ → List (Option (List ℕ)) → Type 0
IsConsistent n shards = (k : ℕ) → IfSome (shard_at shards k) (λ bytes. bytes ≡ rebuilt n shards k)
