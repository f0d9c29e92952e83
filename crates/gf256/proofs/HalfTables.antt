-- The tables hold the products that they should, by computing them.
use Rattle.std.proofs.Common.{◌≡◌, refl, ap, ℕ, zero, suc, ◌+◌, ◌*◌, ◌<◌, Bool, true, ◌&&◌, ◌==◌, List, [], ◌∷◌, length, get_or, arith, ◌∙◌}
use Rattle.std.proofs.lemmas.Bool.{eqb-true, and_parts}
use Rattle.gf256.specs.Field.{times_x, horner, product}
use Rattle.gf256.specs.Halves.{HasHalves}
use Rattle.gf256.specs.declared.low_halves.TheConstants.{LOW_HALVES}
use Rattle.gf256.specs.declared.high_halves.TheConstants.{HIGH_HALVES}

-- these are the products of a factor with j times a step and the multiples after it
abbrev is_row : ℕ → ℕ → ℕ → List ℕ → Bool
is_row factor step j [] = true
is_row factor step j (x ∷ xs) = (x == product factor (step * j)) && is_row factor step (suc j) xs

-- a row of sixteen for each factor from this one on
abbrev are_rows : ℕ → ℕ → List (List ℕ) → Bool
are_rows step factor [] = true
are_rows step factor (row ∷ rows) = (length row == 16) && (is_row factor step 0 row && are_rows step (suc factor) rows)

low_right : are_rows 1 0 LOW_HALVES ≡ true
unfolding times_x horner product
low_right = refl

high_right : are_rows 16 0 HIGH_HALVES ≡ true
unfolding times_x horner product
high_right = refl

pub record IsRow (factor step : ℕ) (row : List ℕ) : Type 0 where
  pub long : length row ≡ 16
  pub each : (j : ℕ) → j < 16 → get_or row j 0 ≡ product factor (step * j)

row_at : (factor step k : ℕ) (xs : List ℕ) → is_row factor step k xs ≡ true → (j : ℕ) → j < length xs → get_or xs j 0 ≡ product factor (step * (j + k))
row_at factor step k [] right j inside = absurd (omega arith)
row_at factor step k (x ∷ xs) right zero inside =
    let e : 0 + k ≡ k = omega arith in
    rw e (eqb-true x (product factor (step * k)) (and_parts (x == product factor (step * k)) (is_row factor step (suc k) xs) right).0)
row_at factor step k (x ∷ xs) right (suc j) inside =
    let e : suc j + k ≡ j + suc k = omega arith in
    rw e (row_at factor step (suc k) xs (and_parts (x == product factor (step * k)) (is_row factor step (suc k) xs) right).1 j (omega arith))

rows_at : (step first : ℕ) (rows : List (List ℕ)) → are_rows step first rows ≡ true → (k : ℕ) → k < length rows → IsRow (k + first) step (get_or rows k [])
rows_at step first [] right k inside = absurd (omega arith)
rows_at step first (row ∷ rows) right zero inside =
    let parts = and_parts (length row == 16) (is_row first step 0 row && are_rows step (suc first) rows) right in
    let here = and_parts (is_row first step 0 row) (are_rows step (suc first) rows) parts.1 in
    let long : length row ≡ 16 = eqb-true (length row) 16 parts.0 in
    let e : 0 + first ≡ first = omega arith in
    rw e (record {
      long = long;
      each = λ j lt. let f : j + 0 ≡ j = omega arith in row_at first step 0 row here.0 j (omega arith) ∙ ap (λ n. product first (step * n)) f;
    })
rows_at step first (row ∷ rows) right (suc k) inside =
    let parts = and_parts (length row == 16) (is_row first step 0 row && are_rows step (suc first) rows) right in
    let later = and_parts (is_row first step 0 row) (are_rows step (suc first) rows) parts.1 in
    let e : suc k + first ≡ k + suc first = omega arith in
    rw e (rows_at step (suc first) rows later.1 k (omega arith))

pub halves_right : (factor : ℕ) → factor < 256 → HasHalves factor (get_or LOW_HALVES factor []) (get_or HIGH_HALVES factor [])
halves_right factor small =
    let e : factor + 0 ≡ factor = omega arith in
    let low = rows_at 1 0 LOW_HALVES low_right factor small in
    let high = rows_at 16 0 HIGH_HALVES high_right factor small in
    record {
      low_long = low.long;
      high_long = high.long;
      low_is = λ j lt. low.each j lt ∙ ap (λ f. product f (1 * j)) e ∙ ap (product factor) (omega arith);
      high_is = λ j lt. high.each j lt ∙ ap (λ f. product f (16 * j)) e;
    }
