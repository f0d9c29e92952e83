-- Going through a list of tests.
use Rattle.std.proofs.Common.{◌≡◌, ◌∙◌, refl, ℕ, ◌-◌, ◌%◌, ◌^◌, ◌<◌, ◌≤◌, length, take, drop, length-drop, Bool, true, false, not, ◌&&◌, List, [], ◌∷◌, ◌++◌, sym, ap, if◌then◌else◌, nat_lt, ◌==◌, Option, None, Some, arith}
use Rattle.std.proofs.lemmas.Bool.Decides.{nat_tests}
use Rattle.std.proofs.lemmas.Bool.{eqb-true}
use Rattle.std.proofs.lemmas.List.{take_all}
use Rattle.shard_record.specs.Crc.{crc_of}
use Rattle.shard_record.specs.Spelling.{first_fault, first_failing, head_tests, shard_tests, end_tests, is_size, is_kind, sum_in, kind_in, number_in, unit_in, blob_size_in, length_in}
use Rattle.shard_record.specs.declared.record.RecordFault.{RecordFault}
use Rattle.shard_record.specs.declared.record.RecordFault.TheVariants.{Short, BadSum, BadKind, BadUnit, BadNumber, ShortHead, BadSize, BadLength, Trailing}

pub not_less : (a b : ℕ) → b ≤ a → nat_lt a b ≡ false
not_less a b h = grind (arith, nat_tests)

pub less : (a b : ℕ) → a < b → nat_lt a b ≡ true
less a b h = grind (arith, nat_tests)

pub not_other : (a b : ℕ) → a ≡ b → not (a == b) ≡ false
not_other a b h = grind (arith, nat_tests)

pub other : (a b : ℕ) → (a ≡ b → ⊥) → not (a == b) ≡ true
other a b h = grind (arith, nat_tests)

pub turned : (b : Bool) → b ≡ true → not b ≡ false
turned b e = cc

pub turned_back : (b : Bool) → b ≡ false → not b ≡ true
turned_back b e = cc

both_true : (a b : Bool) → a ≡ true → b ≡ true → (a && b) ≡ true
both_true a b e f = cc

one_false : (a b : Bool) → (a ≡ true → b ≡ false) → (a && b) ≡ false
one_false true b h = h refl
one_false false b h = refl

same_is : (a b : ℕ) → a ≡ b → (a == b) ≡ true
same_is a b h = grind (arith, nat_tests)

different_is : (a b : ℕ) → (a ≡ b → ⊥) → (a == b) ≡ false
different_is a b h = grind (arith, nat_tests)

pub head_short : (bytes : List ℕ) → length bytes < 21 → first_failing (head_tests bytes) ≡ Some Short
unfolding head_tests
head_short bytes a =
    rw (less (length bytes) 21 a) refl

pub head_sum : (bytes : List ℕ) → 21 ≤ length bytes → (sum_in bytes ≡ crc_of (drop 4 bytes) → ⊥) → first_failing (head_tests bytes) ≡ Some (BadSum (sum_in bytes) (crc_of (drop 4 bytes)))
unfolding head_tests
head_sum bytes a b =
    rw (not_less (length bytes) 21 a, other (sum_in bytes) (crc_of (drop 4 bytes)) b) refl

pub head_kind : (bytes : List ℕ) → 21 ≤ length bytes → sum_in bytes ≡ crc_of (drop 4 bytes) → is_kind (kind_in bytes) ≡ false → first_failing (head_tests bytes) ≡ Some (BadKind (kind_in bytes))
unfolding head_tests
head_kind bytes a b d =
    rw (not_less (length bytes) 21 a, not_other (sum_in bytes) (crc_of (drop 4 bytes)) b, turned_back (is_kind (kind_in bytes)) d) refl

pub head_unit : (bytes : List ℕ) → 21 ≤ length bytes → sum_in bytes ≡ crc_of (drop 4 bytes) → is_kind (kind_in bytes) ≡ true → unit_in bytes % 2 ^ 24 ≡ 0 → first_failing (head_tests bytes) ≡ Some BadUnit
unfolding head_tests
head_unit bytes a b d e =
    rw (not_less (length bytes) 21 a, not_other (sum_in bytes) (crc_of (drop 4 bytes)) b, turned (is_kind (kind_in bytes)) d, same_is (unit_in bytes % 2 ^ 24) 0 e) refl

pub head_number : (bytes : List ℕ) → 21 ≤ length bytes → sum_in bytes ≡ crc_of (drop 4 bytes) → is_kind (kind_in bytes) ≡ true → (unit_in bytes % 2 ^ 24 ≡ 0 → ⊥) → kind_in bytes ≡ 5 → (number_in bytes ≡ 0 → ⊥) → first_failing (head_tests bytes) ≡ Some (BadNumber (number_in bytes))
unfolding head_tests
head_number bytes a b d e f g =
    rw (not_less (length bytes) 21 a, not_other (sum_in bytes) (crc_of (drop 4 bytes)) b, turned (is_kind (kind_in bytes)) d, different_is (unit_in bytes % 2 ^ 24) 0 e, both_true (kind_in bytes == 5) (not (number_in bytes == 0)) (same_is (kind_in bytes) 5 f) (other (number_in bytes) 0 g)) refl

pub head_right : (bytes : List ℕ) → 21 ≤ length bytes → sum_in bytes ≡ crc_of (drop 4 bytes) → is_kind (kind_in bytes) ≡ true → (unit_in bytes % 2 ^ 24 ≡ 0 → ⊥) → (kind_in bytes ≡ 5 → number_in bytes ≡ 0) → first_failing (head_tests bytes) ≡ None
unfolding head_tests
head_right bytes a b d e f =
    rw (not_less (length bytes) 21 a, not_other (sum_in bytes) (crc_of (drop 4 bytes)) b, turned (is_kind (kind_in bytes)) d, different_is (unit_in bytes % 2 ^ 24) 0 e, one_false (kind_in bytes == 5) (not (number_in bytes == 0)) (λ t. not_other (number_in bytes) 0 (f (eqb-true (kind_in bytes) 5 t)))) refl

pub shard_short : (bytes : List ℕ) → length bytes < 29 → first_failing (shard_tests bytes) ≡ Some ShortHead
unfolding shard_tests
shard_short bytes a =
    rw (less (length bytes) 29 a) refl

pub shard_blob_size : (bytes : List ℕ) → 29 ≤ length bytes → is_size (blob_size_in bytes) ≡ false → first_failing (shard_tests bytes) ≡ Some (BadSize (blob_size_in bytes))
unfolding shard_tests
shard_blob_size bytes a b =
    rw (not_less (length bytes) 29 a, turned_back (is_size (blob_size_in bytes)) b) refl

pub shard_size : (bytes : List ℕ) → 29 ≤ length bytes → is_size (blob_size_in bytes) ≡ true → is_size (length_in bytes) ≡ false → first_failing (shard_tests bytes) ≡ Some (BadSize (length_in bytes))
unfolding shard_tests
shard_size bytes a b d =
    rw (not_less (length bytes) 29 a, turned (is_size (blob_size_in bytes)) b, turned_back (is_size (length_in bytes)) d) refl

pub shard_length : (bytes : List ℕ) → 29 ≤ length bytes → is_size (blob_size_in bytes) ≡ true → is_size (length_in bytes) ≡ true → length bytes - 29 < length_in bytes → first_failing (shard_tests bytes) ≡ Some (BadLength (length_in bytes) (length bytes - 29))
unfolding shard_tests
shard_length bytes a b d e =
    rw (not_less (length bytes) 29 a, turned (is_size (blob_size_in bytes)) b, turned (is_size (length_in bytes)) d, less (length bytes - 29) (length_in bytes) e) refl

pub shard_trailing : (bytes : List ℕ) → 29 ≤ length bytes → is_size (blob_size_in bytes) ≡ true → is_size (length_in bytes) ≡ true → length_in bytes ≤ length bytes - 29 → length_in bytes < length bytes - 29 → first_failing (shard_tests bytes) ≡ Some (Trailing (length bytes - 29 - length_in bytes))
unfolding shard_tests
shard_trailing bytes a b d e f =
    rw (not_less (length bytes) 29 a, turned (is_size (blob_size_in bytes)) b, turned (is_size (length_in bytes)) d, not_less (length bytes - 29) (length_in bytes) e, less (length_in bytes) (length bytes - 29) f) refl

pub shard_right : (bytes : List ℕ) → 29 ≤ length bytes → is_size (blob_size_in bytes) ≡ true → is_size (length_in bytes) ≡ true → length_in bytes ≤ length bytes - 29 → length bytes - 29 ≤ length_in bytes → first_failing (shard_tests bytes) ≡ None
unfolding shard_tests
shard_right bytes a b d e f =
    rw (not_less (length bytes) 29 a, turned (is_size (blob_size_in bytes)) b, turned (is_size (length_in bytes)) d, not_less (length bytes - 29) (length_in bytes) e, not_less (length_in bytes) (length bytes - 29) f) refl

pub rest_of : (n : ℕ) (xs : List ℕ) → take (length xs - n) (drop n xs) ≡ drop n xs
rest_of n xs = take_all (length xs - n) (drop n xs) (omega (arith, length-drop n xs))

-- the tests of the head come first
abbrev pub or_then : Option RecordFault → Option RecordFault → Option RecordFault
or_then (Some fault) later = Some fault
or_then None later = later

one_more : (fails : Bool) (fault : RecordFault) (tests more : List (Bool × RecordFault)) → first_failing (tests ++ more) ≡ or_then (first_failing tests) (first_failing more) → first_failing (((fails, fault) ∷ tests) ++ more) ≡ or_then (first_failing ((fails, fault) ∷ tests)) (first_failing more)
one_more true fault tests more e = refl
one_more false fault tests more e = e

first_failing-append : (tests more : List (Bool × RecordFault)) → first_failing (tests ++ more) ≡ or_then (first_failing tests) (first_failing more)
first_failing-append [] more = refl
first_failing-append (test ∷ tests) more = one_more test.0 test.1 tests more (first_failing-append tests more)

abbrev pub tail_tests : List ℕ → List (Bool × RecordFault)
tail_tests bytes = if kind_in bytes == 1 then shard_tests bytes else end_tests bytes

pub fault_of_head : (bytes : List ℕ) (fault : RecordFault) → Some fault ≡ first_failing (head_tests bytes) → first_fault bytes ≡ Some fault
unfolding first_fault
fault_of_head bytes fault e =
    first_failing-append (head_tests bytes) (tail_tests bytes) ∙ ap (λ t. or_then t (first_failing (tail_tests bytes))) (sym e)

pub fault_of_shard : (bytes : List ℕ) → None ≡ first_failing (head_tests bytes) → kind_in bytes ≡ 1 → first_fault bytes ≡ first_failing (shard_tests bytes)
unfolding first_fault
fault_of_shard bytes e kind =
    let is : (kind_in bytes == 1) ≡ true = same_is (kind_in bytes) 1 kind in
    first_failing-append (head_tests bytes) (tail_tests bytes) ∙ ap (λ t. or_then t (first_failing (tail_tests bytes))) (sym e)
    ∙ ap (λ t. first_failing (if t then shard_tests bytes else end_tests bytes)) is

pub fault_of_end : (bytes : List ℕ) → None ≡ first_failing (head_tests bytes) → (kind_in bytes ≡ 1 → ⊥) → first_fault bytes ≡ first_failing (end_tests bytes)
unfolding first_fault
fault_of_end bytes e kind =
    let is : (kind_in bytes == 1) ≡ false = different_is (kind_in bytes) 1 kind in
    first_failing-append (head_tests bytes) (tail_tests bytes) ∙ ap (λ t. or_then t (first_failing (tail_tests bytes))) (sym e)
    ∙ ap (λ t. first_failing (if t then shard_tests bytes else end_tests bytes)) is

pub end_trailing : (bytes : List ℕ) → 21 < length bytes → first_failing (end_tests bytes) ≡ Some (Trailing (length bytes - 21))
unfolding end_tests
end_trailing bytes a = rw (less 21 (length bytes) a) refl

pub end_right : (bytes : List ℕ) → length bytes ≤ 21 → first_failing (end_tests bytes) ≡ None
unfolding end_tests
end_right bytes a = rw (not_less 21 (length bytes) a) refl
