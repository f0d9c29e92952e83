-- From the parts of a byte string to the record that it spells, and back.
use Rattle.std.proofs.Common.{◌≡◌, ◌∙◌, sym, ap, refl, ℕ, zero, suc, ◌+◌, ◌-◌, ◌^◌, ◌<◌, ◌≤◌, List, [], ◌∷◌, ◌++◌, length, take, drop, get_or, arith, length-drop, drop-cons, subst, true, Result, Ok, Err, IfOk, OnOk}
use Rattle.std.proofs.lemmas.List.{take-append-drop, length-take-le, get_or-drop, drop_all}
use Rattle.std.proofs.lemmas.Nat.{be_bytes_4, be_bytes_8}
use Rattle.std.specs.Int.{w32, w64, to_be_bytes, from_be_bytes}
use Rattle.shard_record.specs.Crc.{crc_of}
use Rattle.shard_record.specs.Spelling.{number_at, summed_part, shard_part, HasSizes, kind_of, number_of, unit_of, is_size, Spells, sum_in, kind_in, number_in, unit_in, blob_size_in, length_in}
use Rattle.shard_record.specs.declared.record.ShardRecord.{ShardRecord}
use Rattle.shard_record.specs.declared.record.ShardRecord.TheVariants.{Shard}
use Rattle.shard_record.specs.declared.record.RecordFault.{RecordFault}
use Rattle.shard_record.specs.Reading.{HasHead, HasShard}
use Rattle.std.proofs.lemmas.Bool.Decides.{nat_tests}
use Rattle.unit_id.specs.UnitName.{Name, IsName, packed}

abbrev pub AreBytes : List ℕ → Type 0
AreBytes bytes = (k : ℕ) → get_or bytes k 0 < 256

pub small_take : (n : ℕ) (xs : List ℕ) → AreBytes xs → AreBytes (take n xs)
small_take zero xs small k = omega arith
small_take (suc n) [] small k = omega arith
small_take (suc n) (x ∷ xs) small zero = small 0
small_take (suc n) (x ∷ xs) small (suc k) = small_take n xs (λ j. small (suc j)) k

pub small_drop : (n : ℕ) (xs : List ℕ) → AreBytes xs → AreBytes (drop n xs)
small_drop n xs small k = rw (get_or-drop n xs k 0) (small (n + k))

drop_none : (n : ℕ) → drop {A = ℕ} n [] ≡ []
drop_none zero = refl
drop_none (suc n) = refl

drop_more : (n m : ℕ) (xs : List ℕ) → drop m (drop n xs) ≡ drop (n + m) xs
drop_more zero m xs = let e : 0 + m ≡ m = omega arith in rw e refl
drop_more (suc n) m [] =
    let e : suc n + m ≡ suc (n + m) = omega arith in
    rw e (drop_none m)
drop_more (suc n) m (x ∷ xs) =
    let e : suc n + m ≡ suc (n + m) = omega arith in
    rw e (drop_more n m xs)

split_at : (place count : ℕ) (bytes : List ℕ) → drop place bytes ≡ take count (drop place bytes) ++ drop (place + count) bytes
split_at place count bytes =
    sym (take-append-drop count (drop place bytes))
    ∙ ap (λ t. take count (drop place bytes) ++ t) (drop_more place count bytes)

long_enough : (place count : ℕ) (bytes : List ℕ) → place + count ≤ length bytes → length (take count (drop place bytes)) ≡ count
long_enough place count bytes inside =
    length-take-le count (drop place bytes) (omega (arith, length-drop place bytes))

-- eight bytes are those of the number that stands there
pub eight : (bytes : List ℕ) (place : ℕ) → AreBytes bytes → place + 8 ≤ length bytes → drop place bytes ≡ to_be_bytes w64 (number_at w64 bytes place) ++ drop (place + 8) bytes
unfolding number_at
eight bytes place small inside =
    let number = from_be_bytes w64 (take 8 (drop place bytes)) in
    let same : to_be_bytes w64 number ≡ take 8 (drop place bytes) =
    be_bytes_8 (take 8 (drop place bytes)) number (long_enough place 8 bytes inside)
    (small_take 8 (drop place bytes) (small_drop place bytes small)) refl in
    split_at place 8 bytes ∙ ap (λ t. t ++ drop (place + 8) bytes) (sym same)

-- and so are four
pub four : (bytes : List ℕ) (place : ℕ) → AreBytes bytes → place + 4 ≤ length bytes → drop place bytes ≡ to_be_bytes w32 (number_at w32 bytes place) ++ drop (place + 4) bytes
unfolding number_at
four bytes place small inside =
    let number = from_be_bytes w32 (take 4 (drop place bytes)) in
    let same : to_be_bytes w32 number ≡ take 4 (drop place bytes) =
    be_bytes_4 (take 4 (drop place bytes)) number (long_enough place 4 bytes inside)
    (small_take 4 (drop place bytes) (small_drop place bytes small)) refl in
    split_at place 4 bytes ∙ ap (λ t. t ++ drop (place + 4) bytes) (sym same)

sum_bytes : (bytes : List ℕ) → AreBytes bytes → 4 ≤ length bytes → take 4 bytes ≡ to_be_bytes w32 (sum_in bytes)
unfolding number_at
sum_bytes bytes small inside =
    sym (be_bytes_4 (take 4 bytes) (from_be_bytes w32 (take 4 bytes)) (length-take-le 4 bytes inside) (small_take 4 bytes small) refl)

-- the part behind the sum
rest_is : (bytes : List ℕ) → AreBytes bytes → 21 ≤ length bytes → drop 4 bytes ≡ kind_in bytes ∷ (to_be_bytes w64 (number_in bytes) ++ (to_be_bytes w64 (unit_in bytes) ++ drop 21 bytes))
rest_is bytes small inside =
    drop-cons bytes 4 0 (omega arith)
    ∙ ap (λ t. kind_in bytes ∷ t) (eight bytes 5 small (omega arith)
    ∙ ap (λ t. to_be_bytes w64 (number_in bytes) ++ t) (eight bytes 13 small (omega arith)))

-- what a byte string has to show to be the spelling of a record
pub spelled : (bytes : List ℕ) (item : ShardRecord) → AreBytes bytes → 21 ≤ length bytes → sum_in bytes ≡ crc_of (drop 4 bytes) → HasSizes item → number_of item < 2 ^ 64 → IsName (unit_of item) → kind_of item ≡ kind_in bytes → number_of item ≡ number_in bytes → packed (unit_of item) ≡ unit_in bytes → shard_part item ≡ drop 21 bytes → Spells item bytes
unfolding summed_part
spelled bytes item small inside right sizes fits name kind number unit part =
    let rest : drop 4 bytes ≡ summed_part item =
    rest_is bytes small inside
    ∙ ap (λ t. t ∷ (to_be_bytes w64 (number_in bytes) ++ (to_be_bytes w64 (unit_in bytes) ++ drop 21 bytes))) (sym kind)
    ∙ ap (λ t. kind_of item ∷ (to_be_bytes w64 t ++ (to_be_bytes w64 (unit_in bytes) ++ drop 21 bytes))) (sym number)
    ∙ ap (λ t. kind_of item ∷ (to_be_bytes w64 (number_of item) ++ (to_be_bytes w64 t ++ drop 21 bytes))) (sym unit)
    ∙ ap (λ t. kind_of item ∷ (to_be_bytes w64 (number_of item) ++ (to_be_bytes w64 (packed (unit_of item)) ++ t))) (sym part) in
    record {
      sizes = sizes;
      number = fits;
      unit = name;
      rest = rest;
      sum = sum_bytes bytes small (omega arith) ∙ ap (λ t. to_be_bytes w32 t) (right ∙ ap crc_of rest);
    }

-- a shard's part, by its sizes
pub shard_is : (bytes : List ℕ) → AreBytes bytes → 29 ≤ length bytes → length_in bytes ≡ length bytes - 29 → drop 21 bytes ≡ to_be_bytes w32 (blob_size_in bytes) ++ (to_be_bytes w32 (length (drop 29 bytes)) ++ drop 29 bytes)
shard_is bytes small inside stated =
    let whole : length_in bytes ≡ length (drop 29 bytes) = omega (arith, length-drop 29 bytes) in
    four bytes 21 small (omega arith)
    ∙ ap (λ t. to_be_bytes w32 (blob_size_in bytes) ++ t) (four bytes 25 small (omega arith)
    ∙ ap (λ t. to_be_bytes w32 t ++ drop 29 bytes) whole)

-- a record without a shard's part
pub short_spelled : (bytes : List ℕ) (kind number : ℕ) (unit : Name) (item : ShardRecord) → AreBytes bytes → HasHead bytes kind number unit → length bytes ≤ 21 → HasSizes item → kind_of item ≡ kind → number_of item ≡ number → unit_of item ≡ unit → shard_part item ≡ [] → Spells item bytes
short_spelled bytes kind number unit item small head end sizes kind_is number_is unit_is part =
    spelled bytes item small head.inside head.sum sizes (let fits : number < 2 ^ 64 = head.fits in omega (arith, number_is))
    (subst IsName (sym unit_is) head.name) (kind_is ∙ head.kind_is) (number_is ∙ head.number_is) (ap packed unit_is ∙ head.unit_is)
    (part ∙ sym (drop_all 21 bytes end))

sizes_of : (n : ℕ) → is_size n ≡ true → (1 ≤ n) × (n ≤ 4194304)
sizes_of n e = grind (arith, nat_tests)

-- a shard
pub shard_spelled : (bytes : List ℕ) (kind number : ℕ) (unit : Name) → AreBytes bytes → HasHead bytes kind number unit → kind ≡ 1 → HasShard bytes (blob_size_in bytes) → Spells (Shard number unit (blob_size_in bytes) (drop 29 bytes)) bytes
shard_spelled bytes kind number unit small head is shard =
    let whole : length (drop 29 bytes) ≡ length bytes - 29 = length-drop 29 bytes in
    let blob = sizes_of (blob_size_in bytes) shard.blob in
    let size = sizes_of (length bytes - 29) shard.size in
    let sizes : HasSizes (Shard number unit (blob_size_in bytes) (drop 29 bytes)) = (blob.0, blob.1, rw whole size.0, rw whole size.1) in
    spelled bytes (Shard number unit (blob_size_in bytes) (drop 29 bytes)) small head.inside head.sum sizes
    head.fits head.name (sym is ∙ head.kind_is) head.number_is head.unit_is (sym (shard_is bytes small shard.inside shard.stated))

pub shard_result : (bytes : List ℕ) (kind number : ℕ) (unit : Name) → AreBytes bytes → HasHead bytes kind number unit → kind ≡ 1 → (r : Result ShardRecord RecordFault) → IfOk r (λ item. item ≡ Shard number unit (blob_size_in bytes) (drop 29 bytes)) → OnOk r (HasShard bytes (blob_size_in bytes)) → IfOk r (λ item. Spells item bytes)
shard_result bytes kind number unit small head is (Ok item) e shard =
    let P : ShardRecord → Type 0 = λ t. Spells t bytes in
    subst P (sym e) (shard_spelled bytes kind number unit small head is shard)
shard_result bytes kind number unit small head is (Err fault) e shard = tt
