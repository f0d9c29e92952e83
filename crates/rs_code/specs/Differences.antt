-- Differences of places, from which their weights are made.
use Rattle.std.specs.Prelude.{ℕ, ◌+◌, ◌≤◌, ◌==◌, if◌then◌else◌, List, [], ◌∷◌, bit_xor, ◌≢◌}
use Rattle.gf256.specs.Field.{product}

-- the product of r - z over the places z other than x
abbrev pub differences : List ℕ → ℕ → ℕ → ℕ
differences [] x r = 1
differences (z ∷ places) x r = if z == x then differences places x r else product (bit_xor r z) (differences places x r)

-- each place is above the one before it, and the first is n at least
abbrev pub IsAscendingFrom : ℕ → List ℕ → Type 0
IsAscendingFrom n [] = Unit {0}
IsAscendingFrom n (z ∷ places) = (n ≤ z) × IsAscendingFrom (z + 1) places

-- x is none of the places
abbrev pub IsApartFrom : ℕ → List ℕ → Type 0
IsApartFrom x [] = Unit {0}
IsApartFrom x (z ∷ places) = (z ≢ x) × IsApartFrom x places
