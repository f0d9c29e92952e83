-- What a window of sums has, in which each block of sixteen bytes is folded into later ones.
use Rattle.std.specs.Prelude.{◌≡◌, ℕ, ◌+◌, ◌*◌, ◌<◌, ◌≤◌, List, [], ◌∷◌, length, slice_index, bit_xor}

-- the exponents of the polynomial between 0 and its greatest, 32
abbrev pub inner_exponents : List ℕ
inner_exponents = 1 ∷ 2 ∷ 4 ∷ 5 ∷ 7 ∷ 8 ∷ 10 ∷ 11 ∷ 12 ∷ 16 ∷ 22 ∷ 23 ∷ 26 ∷ []

-- those below 32
abbrev pub lower_exponents : List ℕ
lower_exponents = 0 ∷ inner_exponents

-- the sum of the bytes that are so many blocks of sixteen behind a place
unfoldable pub sum_behind : List ℕ → List ℕ → ℕ → ℕ
sum_behind [] window place = 0
sum_behind (exponent ∷ exponents) window place = bit_xor (slice_index window (place + 16 * exponent)) (sum_behind exponents window place)

-- sixteen lanes have these sums from a place on
pub record AreSumsBehind (exponents window : List ℕ) (at : ℕ) (lanes : List ℕ) : Type 0 where
  pub long : length lanes ≡ 16
  pub each : (i : ℕ) → i < 16 → slice_index lanes i ≡ sum_behind exponents window (at + i)

-- the first n bytes are folded: 512 places behind each stands the byte with the sum of what was folded to it
pub record IsFolded (bytes : List ℕ) (n : ℕ) (old new : List ℕ) : Type 0 where
  pub long : length new ≡ length old
  pub front : (k : ℕ) → k < 512 → slice_index new k ≡ slice_index old k
  pub done : (k : ℕ) → k < n → slice_index new (k + 512) ≡ bit_xor (slice_index bytes k) (sum_behind lower_exponents new k)
  pub left : (k : ℕ) → n + 512 ≤ k → slice_index new k ≡ slice_index old k

-- the 512 bytes behind the first n, each with the sum of what was folded to it
pub record IsFoldedEnd (bytes : List ℕ) (n : ℕ) (window end : List ℕ) : Type 0 where
  pub long : length end ≡ 512
  pub each : (k : ℕ) → k < 512 → slice_index end k ≡ bit_xor (slice_index bytes (n + k)) (sum_behind lower_exponents window (n + k))
