-- A byte string that fails no test is a spelling, and a spelling fails none.
use Rattle.std.proofs.Common.{◌≡◌, ◌∙◌, sym, ap, refl, subst, ℕ, zero, suc, ◌-◌, ◌/◌, ◌%◌, ◌^◌, ◌<◌, ◌≤◌, Bool, true, false, not, ◌&&◌, ◌==◌, nat_lt, if◌then◌else◌, List, [], ◌∷◌, ◌++◌, length, take, drop, arith, All, None}
use Rattle.std.proofs.lemmas.Bool.Decides.{nat_tests}
use Rattle.std.proofs.lemmas.Bool.{eqb-true}
use Rattle.std.proofs.lemmas.List.{take-append-drop}
use Rattle.std.proofs.lemmas.Nat.{from_be_bytes-to_be_bytes_4, from_be_bytes-to_be_bytes_8}
use Rattle.std.specs.Int.{w32, w64, to_be_bytes}
use Rattle.shard_record.specs.Crc.{crc_of}
use Rattle.shard_record.specs.Reading.{HasHead, HasShard}
use Rattle.shard_record.specs.Spelling.{number_at, summed_part, shard_part, HasSizes, kind_of, number_of, unit_of, Spells, is_kind, is_size, first_failing, first_fault, head_tests, shard_tests, end_tests, sum_in, kind_in, number_in, unit_in, blob_size_in, length_in}
use Rattle.shard_record.specs.declared.record.ShardRecord.{ShardRecord}
use Rattle.shard_record.specs.declared.record.ShardRecord.TheVariants.{Shard, Mark, Free, Fence, Release}
use Rattle.shard_record.specs.declared.record.RecordFault.{RecordFault}
use Rattle.unit_id.specs.UnitName.{Name, IsName, packed}
use Rattle.shard_record.proofs.Places.{AreBytes, packed_fits, crc-fits}
use Rattle.shard_record.proofs.Spelled.{short_spelled, shard_spelled, small_drop, small_take}
use Rattle.shard_record.proofs.TestLists.{head_right, shard_right, end_right, fault_of_shard, fault_of_end}

pub all_small : (bytes : List ℕ) → All (λ byte. byte < 256) bytes → AreBytes bytes
all_small [] all k = omega arith
all_small (byte ∷ bytes) all zero = all 0 0 (omega arith)
all_small (byte ∷ bytes) all (suc k) = all_small bytes (λ j d h. all (suc j) d (omega arith)) k

-- ---- a spelling fails no test

abbrev spelling : ℕ → ShardRecord → List ℕ
spelling sum item = to_be_bytes w32 sum ++ summed_part item

kind_is : (item : ShardRecord) → is_kind (kind_of item) ≡ true
kind_is (Shard bid unit size bytes) = refl
kind_is (Mark bid unit) = refl
kind_is (Free bid unit) = refl
kind_is (Fence lock unit) = refl
kind_is (Release unit) = refl

release_is : (item : ShardRecord) → kind_of item ≡ 5 → number_of item ≡ 0
release_is (Release unit) e = refl
release_is item e = absurd (omega arith)

head_passes : (sum : ℕ) (item : ShardRecord) → sum < 2 ^ 32 → sum ≡ crc_of (summed_part item) → number_of item < 2 ^ 64 → IsName (unit_of item) → first_failing (head_tests (spelling sum item)) ≡ None
unfolding summed_part number_at
head_passes sum item fits right number name =
    let unit : unit_in (spelling sum item) ≡ packed (unit_of item) = from_be_bytes-to_be_bytes_8 (packed (unit_of item)) (packed_fits (unit_of item) name) in
    let first : 1 ≤ (unit_of item).epoch = name.first in
    let last : (unit_of item).epoch < 2 ^ 24 = name.last in
    let named : packed (unit_of item) % 2 ^ 24 ≡ 0 → ⊥ = λ e. absurd (omega arith) in
    head_right (spelling sum item) (omega arith) (from_be_bytes-to_be_bytes_4 sum fits ∙ right) (kind_is item)
    (λ e. named (ap (λ w. w % 2 ^ 24) (sym unit) ∙ e))
    (λ e. from_be_bytes-to_be_bytes_8 (number_of item) number ∙ release_is item e)

is_size_of : (n : ℕ) → 1 ≤ n → n ≤ 4194304 → is_size n ≡ true
is_size_of n a b = grind (arith, nat_tests)

shard_passes : (sum bid size : ℕ) (unit : Name) (bytes : List ℕ) → HasSizes (Shard bid unit size bytes) → first_failing (shard_tests (spelling sum (Shard bid unit size bytes))) ≡ None
unfolding summed_part number_at
shard_passes sum bid size unit bytes h =
    let a : size ≤ 4194304 = h.1 in
    let b : length bytes ≤ 4194304 = h.3 in
    let blob : blob_size_in (spelling sum (Shard bid unit size bytes)) ≡ size = from_be_bytes-to_be_bytes_4 size (omega arith) in
    let stated : length_in (spelling sum (Shard bid unit size bytes)) ≡ length bytes = from_be_bytes-to_be_bytes_4 (length bytes) (omega arith) in
    shard_right (spelling sum (Shard bid unit size bytes)) (omega arith)
    (ap is_size blob ∙ is_size_of size h.0 h.1) (ap is_size stated ∙ is_size_of (length bytes) h.2 h.3)
    (omega (arith, stated)) (omega (arith, stated))

end_passes : (sum : ℕ) (item : ShardRecord) → shard_part item ≡ [] → first_failing (end_tests (spelling sum item)) ≡ None
unfolding summed_part
end_passes sum item e = end_right (spelling sum item) (omega (arith, ap length e))

tail_passes : (sum : ℕ) (item : ShardRecord) → HasSizes item → first_failing (head_tests (spelling sum item)) ≡ None → first_fault (spelling sum item) ≡ None
unfolding summed_part
tail_passes sum (Shard bid unit size bytes) h head =
    fault_of_shard (spelling sum (Shard bid unit size bytes)) (sym head) refl ∙ shard_passes sum bid size unit bytes h
tail_passes sum (Mark bid unit) h head = fault_of_end (spelling sum (Mark bid unit)) (sym head) (λ e. absurd (omega arith)) ∙ end_passes sum (Mark bid unit) refl
tail_passes sum (Free bid unit) h head = fault_of_end (spelling sum (Free bid unit)) (sym head) (λ e. absurd (omega arith)) ∙ end_passes sum (Free bid unit) refl
tail_passes sum (Fence lock unit) h head = fault_of_end (spelling sum (Fence lock unit)) (sym head) (λ e. absurd (omega arith)) ∙ end_passes sum (Fence lock unit) refl
tail_passes sum (Release unit) h head = fault_of_end (spelling sum (Release unit)) (sym head) (λ e. absurd (omega arith)) ∙ end_passes sum (Release unit) refl

pub spells_faultless : (bytes : List ℕ) (item : ShardRecord) → AreBytes bytes → Spells item bytes → first_fault bytes ≡ None
spells_faultless bytes item small s =
    let sum = crc_of (summed_part item) in
    let whole : spelling sum item ≡ bytes =
    ap (λ t. t ++ summed_part item) (sym s.sum) ∙ ap (λ t. take 4 bytes ++ t) (sym s.rest) ∙ take-append-drop 4 bytes in
    let fits : sum < 2 ^ 32 = subst (λ t. crc_of t < 2 ^ 32) s.rest (crc-fits (drop 4 bytes) (small_drop 4 bytes small)) in
    subst (λ t. first_fault t ≡ None) whole (tail_passes sum item s.sizes (head_passes sum item fits refl s.number s.unit))

-- ---- bytes that fail no test are a spelling

abbrev PassAll : List (Bool × RecordFault) → Type 0
PassAll [] = Unit {0}
PassAll (test ∷ tests) = (test.0 ≡ false) × PassAll tests

one_passes : (fails : Bool) (fault : RecordFault) (tests : List (Bool × RecordFault)) → first_failing ((fails, fault) ∷ tests) ≡ None → (fails ≡ false) × (first_failing tests ≡ None)
one_passes true fault tests e = cc
one_passes false fault tests e = (refl, e)

tests_pass : (tests : List (Bool × RecordFault)) → first_failing tests ≡ None → PassAll tests
tests_pass [] e = tt
tests_pass (test ∷ tests) e =
    let here = one_passes test.0 test.1 tests e in
    (here.0, tests_pass tests here.1)

not_less_tells : (a b : ℕ) → nat_lt a b ≡ false → b ≤ a
not_less_tells a b e = grind (arith, nat_tests)

same_tells : (a b : ℕ) → not (a == b) ≡ false → a ≡ b
same_tells a b e = grind (arith, nat_tests)

other_tells : (a b : ℕ) → (a == b) ≡ false → a ≡ b → ⊥
other_tells a b e h = grind (arith, nat_tests)

turned_tells : (b : Bool) → not b ≡ false → b ≡ true
turned_tells true e = refl
turned_tells false e = cc

release_tells : (k n : ℕ) → ((k == 5) && not (n == 0)) ≡ false → k ≡ 5 → n ≡ 0
release_tells k n e h = grind (arith, nat_tests)

-- the name that a word is of
abbrev name_in : ℕ → Name
name_in w = record { vid = w / 2 ^ 32; index = w / 2 ^ 24 % 2 ^ 8; epoch = w % 2 ^ 24 }

name_in_is : (w : ℕ) → w < 2 ^ 64 → (w % 2 ^ 24 ≡ 0 → ⊥) → IsName (name_in w)
name_in_is w fits named =
    record {
      vid = omega arith;
      index = omega arith;
      first = omega arith;
      last = omega arith;
    }

packed-name_in : (w : ℕ) → packed (name_in w) ≡ w
packed-name_in w = omega arith

number_fits : (bytes : List ℕ) (place : ℕ) → AreBytes bytes → number_at w64 bytes place < 2 ^ 64
unfolding number_at
number_fits bytes place small =
    let part = take 8 (drop place bytes) in
    let fit : AreBytes part = small_take 8 (drop place bytes) (small_drop place bytes small) in
    omega (arith, fit 0, fit 1, fit 2, fit 3, fit 4, fit 5, fit 6, fit 7)

has_head : (bytes : List ℕ) → AreBytes bytes → PassAll (head_tests bytes) → HasHead bytes (kind_in bytes) (number_in bytes) (name_in (unit_in bytes))
unfolding head_tests
has_head bytes small pass =
    let named = other_tells (unit_in bytes % 2 ^ 24) 0 pass.1.1.1.0 in
    record {
      inside = not_less_tells (length bytes) 21 pass.0;
      sum = same_tells (sum_in bytes) (crc_of (drop 4 bytes)) pass.1.0;
      kind_is = refl;
      number_is = refl;
      fits = number_fits bytes 5 small;
      name = name_in_is (unit_in bytes) (number_fits bytes 13 small) named;
      unit_is = packed-name_in (unit_in bytes);
      is_kind = turned_tells (is_kind (kind_in bytes)) pass.1.1.0;
      release = release_tells (kind_in bytes) (number_in bytes) pass.1.1.1.1.0;
    }

has_shard : (bytes : List ℕ) → PassAll (shard_tests bytes) → HasShard bytes (blob_size_in bytes)
unfolding shard_tests
has_shard bytes pass =
    let a = not_less_tells (length bytes - 29) (length_in bytes) pass.1.1.1.0 in
    let b = not_less_tells (length_in bytes) (length bytes - 29) pass.1.1.1.1.0 in
    let stated : length_in bytes ≡ length bytes - 29 = omega arith in
    record {
      inside = not_less_tells (length bytes) 29 pass.0;
      blob_size_is = refl;
      blob = turned_tells (is_size (blob_size_in bytes)) pass.1.0;
      stated = stated;
      size = ap is_size (sym stated) ∙ turned_tells (is_size (length_in bytes)) pass.1.1.0;
    }

-- the record of a kind other than a shard's
abbrev short_record : ℕ → ℕ → Name → ShardRecord
short_record (suc (suc zero)) number unit = Mark number unit
short_record (suc (suc (suc zero))) number unit = Free number unit
short_record (suc (suc (suc (suc zero)))) number unit = Fence number unit
short_record kind number unit = Release unit

record ShortRecord (kind number : ℕ) (unit : Name) (item : ShardRecord) : Type 0 where
  sizes : HasSizes item
  kind_is : kind_of item ≡ kind
  number_is : number_of item ≡ number
  unit_is : unit_of item ≡ unit
  part : shard_part item ≡ []

no_kind : (kind : ℕ) → is_kind (suc (suc (suc (suc (suc (suc kind)))))) ≡ true → ⊥
no_kind kind e = grind (arith, nat_tests)

short_record_is : (kind number : ℕ) (unit : Name) → is_kind kind ≡ true → (kind ≡ 1 → ⊥) → (kind ≡ 5 → number ≡ 0) → ShortRecord kind number unit (short_record kind number unit)
short_record_is zero number unit is other release = cc
short_record_is (suc zero) number unit is other release = absurd (other refl)
short_record_is (suc (suc zero)) number unit is other release = record { sizes = tt; kind_is = refl; number_is = refl; unit_is = refl; part = refl }
short_record_is (suc (suc (suc zero))) number unit is other release = record { sizes = tt; kind_is = refl; number_is = refl; unit_is = refl; part = refl }
short_record_is (suc (suc (suc (suc zero)))) number unit is other release = record { sizes = tt; kind_is = refl; number_is = refl; unit_is = refl; part = refl }
short_record_is (suc (suc (suc (suc (suc zero))))) number unit is other release = record { sizes = tt; kind_is = refl; number_is = sym (release refl); unit_is = refl; part = refl }
short_record_is (suc (suc (suc (suc (suc (suc kind)))))) number unit is other release = absurd (no_kind kind is)

spells_tail : (bytes : List ℕ) → AreBytes bytes → HasHead bytes (kind_in bytes) (number_in bytes) (name_in (unit_in bytes)) → (b : Bool) → (kind_in bytes == 1) ≡ b → PassAll (if b then shard_tests bytes else end_tests bytes) → (item : ShardRecord) × Spells item bytes
unfolding end_tests
spells_tail bytes small head true e pass =
    (Shard (number_in bytes) (name_in (unit_in bytes)) (blob_size_in bytes) (drop 29 bytes), shard_spelled bytes (kind_in bytes) (number_in bytes) (name_in (unit_in bytes)) small head (eqb-true (kind_in bytes) 1 e) (has_shard bytes pass))
spells_tail bytes small head false e pass =
    let item = short_record (kind_in bytes) (number_in bytes) (name_in (unit_in bytes)) in
    let is = short_record_is (kind_in bytes) (number_in bytes) (name_in (unit_in bytes)) head.is_kind (other_tells (kind_in bytes) 1 e) head.release in
    (item, short_spelled bytes (kind_in bytes) (number_in bytes) (name_in (unit_in bytes)) item small head (not_less_tells 21 (length bytes) pass.0) is.sizes is.kind_is is.number_is is.unit_is is.part)

PassAll-append : (tests more : List (Bool × RecordFault)) → PassAll (tests ++ more) → PassAll tests × PassAll more
PassAll-append [] more pass = (tt, pass)
PassAll-append (test ∷ tests) more pass =
    let rest = PassAll-append tests more pass.1 in
    ((pass.0, rest.0), rest.1)

pub faultless_spells : (bytes : List ℕ) → AreBytes bytes → first_fault bytes ≡ None → (item : ShardRecord) × Spells item bytes
unfolding first_fault
faultless_spells bytes small e =
    let tail : List (Bool × RecordFault) = if kind_in bytes == 1 then shard_tests bytes else end_tests bytes in
    let pass = PassAll-append (head_tests bytes) tail (tests_pass (head_tests bytes ++ tail) e) in
    spells_tail bytes small (has_head bytes small pass.0) (kind_in bytes == 1) refl pass.1
