-- The shards of a blob, as what the code makes of its data shards.
use Rattle.std.proofs.Common.{◌≡◌, ℕ, zero, suc, ◌+◌, ◌<◌, List, [], ◌∷◌, ◌++◌, map, length, get_or, replicate, refl, ap, ◌∙◌, arith}
use Rattle.std.specs.Prelude.{Some, None}
use Rattle.std.specs.List.{range_with_len}
use Rattle.std.proofs.Math.Nat.{zero-add}
use Rattle.std.proofs.lemmas.List.{length-map, get_or-map}
use Rattle.std.proofs.lemmas.List.FromFn.{length-enumerate_from, get_or-enumerate_from}
use Rattle.rs_code.specs.Shards.{held, held_from}
use Rattle.code_mode.specs.declared.mode.Mode.{Mode}
use Rattle.code_mode.specs.Mode.{data_count, parity_count}
use Rattle.code_mode.specs.Stripe.{pieces, column, data_shards}
use Rattle.code_mode.proofs.Pieces.{length-pieces}

none_held : (m k : ℕ) → held_from k (replicate m None) ≡ []
none_held zero k = refl
none_held (suc m) k = none_held m (k + 1)

rows_held : (rows : List (List ℕ)) (m k : ℕ) → held_from k (map (λ row. Some row) rows ++ replicate m None) ≡ range_with_len k (length rows)
rows_held [] m k = none_held m k
rows_held (row ∷ rows) m k = ap (λ (rest : List ℕ). k ∷ rest) (rows_held rows m (k + 1))

pub data_indexes : (mode : Mode) (blob : List ℕ) → held (data_shards mode blob) ≡ range_with_len 0 (data_count mode)
data_indexes mode blob =
    rows_held (pieces mode blob) (parity_count mode) 0 ∙ ap (range_with_len 0) (length-pieces mode blob)

pub length-column : (rows : List (List ℕ)) (position : ℕ) → length (column rows position) ≡ length rows
length-column rows position = length-enumerate_from 0 (map (λ (row : List ℕ). get_or row position 0) rows) ∙ length-map rows (λ (row : List ℕ). get_or row position 0)

pub get_or-column : (rows : List (List ℕ)) (position k : ℕ) (d : ℕ × ℕ) → k < length rows → get_or (column rows position) k d ≡ (k, get_or (get_or rows k []) position 0)
get_or-column rows position k d below =
    let byte : List ℕ → ℕ = λ row. get_or row position 0 in
    let long : length (map byte rows) ≡ length rows = length-map rows byte in
    get_or-enumerate_from 0 (map byte rows) k d (omega arith)
    ∙ ap (λ (i : ℕ). (i, get_or (map byte rows) k d.1)) (zero-add k)
    ∙ ap (λ (b : ℕ). (k, b)) (get_or-map byte rows k [] d.1 below)
