-- A byte is the sum of its low half, a number below 16, and its high half, sixteen times such a number.
use Rattle.std.specs.Prelude.{◌≡◌, ℕ, ◌*◌, ◌<◌, List, [], ◌∷◌, map, length, slice_index, bit_xor}
use Rattle.gf256.specs.Field.{product}
use Rattle.gf256.specs.declared.lanes.Halves.{Halves}

-- the products of a factor with each low half, and those with each high half
pub record HasHalves (factor : ℕ) (low high : List ℕ) : Type 0 where
  pub low_long : length low ≡ 16
  pub high_long : length high ≡ 16
  pub low_is : (j : ℕ) → j < 16 → slice_index low j ≡ product factor j
  pub high_is : (j : ℕ) → j < 16 → slice_index high j ≡ product factor (16 * j)

-- to each of sixteen sums the product of a factor and the byte at its place was added
pub record AddsProducts (factor : ℕ) (bytes old new : List ℕ) : Type 0 where
  pub long : length new ≡ 16
  pub each : (i : ℕ) → i < 16 → slice_index new i ≡ bit_xor (slice_index old i) (product factor (slice_index bytes i))

-- the factor whose products with half bytes these are: its product with 1
abbrev pub factors_of : List Halves → List ℕ
factors_of halves = map (λ h. slice_index h.low 1) halves

-- for each factor its products with half bytes
abbrev pub AreHalves : List ℕ → List Halves → Type 0
AreHalves [] [] = Unit {0}
AreHalves (factor ∷ factors) (h ∷ halves) = HasHalves factor h.low h.high × AreHalves factors halves
AreHalves _ _ = ⊥
