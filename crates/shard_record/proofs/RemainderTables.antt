-- The tables hold the remainders that they should, by computing them.
use Rattle.std.proofs.Common.{◌≡◌, ◌∙◌, refl, ap, ℕ, zero, suc, ◌+◌, ◌*◌, ◌<◌, Bool, true, false, ◌&&◌, ◌==◌, List, [], ◌∷◌, length, get_or, arith}
use Rattle.std.proofs.lemmas.Bool.{eqb-true}
use Rattle.shard_record.specs.Crc.{shifted, shifted_by}
use Rattle.shard_record.specs.declared.tables.TheConstants.{TABLES}

-- these are the remainders of `byte` and the bytes after it, once n bits have left
abbrev is_table : ℕ → ℕ → List ℕ → Bool
is_table n byte [] = true
is_table n byte (x ∷ xs) = (x == shifted_by n byte) && is_table n (suc byte) xs

-- each table has all bytes, and is a byte further on than the one before it
abbrev are_tables : ℕ → List (List ℕ) → Bool
are_tables n [] = true
are_tables n (table ∷ tables) = (length table == 256) && (is_table n 0 table && are_tables (8 + n) tables)

all_right : are_tables 8 TABLES ≡ true
unfolding shifted shifted_by
all_right = refl

both : (a b : Bool) → (a && b) ≡ true → (a ≡ true) × (b ≡ true)
both true b e = (refl, e)
both false b e = cc

table_at : (n byte : ℕ) (xs : List ℕ) → is_table n byte xs ≡ true → (i : ℕ) → i < length xs → get_or xs i 0 ≡ shifted_by n (i + byte)
table_at n byte [] right i inside = absurd (omega arith)
table_at n byte (x ∷ xs) right zero inside =
    let e : 0 + byte ≡ byte = omega arith in
    rw e (eqb-true x (shifted_by n byte) (both (x == shifted_by n byte) (is_table n (suc byte) xs) right).0)
table_at n byte (x ∷ xs) right (suc i) inside =
    let e : suc i + byte ≡ i + suc byte = omega arith in
    rw e (table_at n (suc byte) xs (both (x == shifted_by n byte) (is_table n (suc byte) xs) right).1 i (omega arith))

tables_at : (n : ℕ) (tables : List (List ℕ)) → are_tables n tables ≡ true → (k i : ℕ) → k < length tables → i < 256 → get_or (get_or tables k []) i 0 ≡ shifted_by (8 * k + n) i
tables_at n [] right k i inside small = absurd (omega arith)
tables_at n (table ∷ tables) right zero i inside small =
    let parts = both (length table == 256) (is_table n 0 table && are_tables (8 + n) tables) right in
    let here = both (is_table n 0 table) (are_tables (8 + n) tables) parts.1 in
    let whole : length table ≡ 256 = eqb-true (length table) 256 parts.0 in
    let e : 8 * 0 + n ≡ n = omega arith in
    let f : i + 0 ≡ i = omega arith in
    rw e (table_at n 0 table here.0 i (omega arith) ∙ ap (shifted_by n) f)
tables_at n (table ∷ tables) right (suc k) i inside small =
    let parts = both (length table == 256) (is_table n 0 table && are_tables (8 + n) tables) right in
    let later = both (is_table n 0 table) (are_tables (8 + n) tables) parts.1 in
    let e : 8 * suc k + n ≡ 8 * k + (8 + n) = omega arith in
    rw e (tables_at (8 + n) tables later.1 k i (omega arith) small)

pub tables_right : (k i : ℕ) → k < 16 → i < 256 → get_or (get_or TABLES k []) i 0 ≡ shifted_by (8 * k + 8) i
tables_right k i inside small = tables_at 8 TABLES all_right k i inside small
