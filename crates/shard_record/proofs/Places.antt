-- What a spelling has in each place.
use Rattle.std.proofs.Common.{◌≡◌, ◌∙◌, sym, ap, refl, ℕ, zero, suc, ◌*◌, ◌/◌, ◌%◌, ◌^◌, ◌<◌, ◌≤◌, List, [], ◌∷◌, ◌++◌, length, take, drop, get_or, bit_xor, arith, length-append, length-drop}
use Rattle.std.proofs.lemmas.List.{drop-append-le, append-nil}
use Rattle.std.proofs.lemmas.Nat.{xor_lt, from_be_bytes-to_be_bytes_4, from_be_bytes-to_be_bytes_8}
use Rattle.std.specs.Int.{w32, w64, from_be_bytes}
use Rattle.shard_record.specs.Crc.{shifted, shifted_by, remainder, crc_of}
use Rattle.shard_record.specs.Spelling.{summed_part, shard_part, HasSizes, kind_of, number_of, unit_of, Spells}
use Rattle.shard_record.specs.declared.record.ShardRecord.{ShardRecord}
use Rattle.shard_record.specs.declared.record.ShardRecord.TheVariants.{Shard, Mark, Free, Fence, Release}
use Rattle.unit_id.specs.UnitName.{Name, IsName, packed}

pub packed_fits : (unit : Name) → IsName unit → packed unit < 2 ^ 64
packed_fits unit is =
    let vid : unit.vid < 2 ^ 32 = is.vid in
    let index : unit.index < 2 ^ 8 = is.index in
    let epoch : unit.epoch < 2 ^ 24 = is.last in
    omega arith

-- names with one word are one name
pub same_name : (one other : Name) → IsName one → IsName other → packed one ≡ packed other → one ≡ other
same_name one other is_one is_other e =
    let a1 : one.index < 2 ^ 8 = is_one.index in
    let a2 : one.epoch < 2 ^ 24 = is_one.last in
    let b1 : other.index < 2 ^ 8 = is_other.index in
    let b2 : other.epoch < 2 ^ 24 = is_other.last in
    let vid : one.vid ≡ other.vid = omega arith in
    let index : one.index ≡ other.index = omega arith in
    let epoch : one.epoch ≡ other.epoch = omega arith in
    let name : ℕ → ℕ → ℕ → Name = λ v i e. record { vid = v; index = i; epoch = e } in
    ap (λ v. name v one.index one.epoch) vid ∙ ap (λ i. name other.vid i one.epoch) index
    ∙ ap (λ t. name other.vid other.index t) epoch

-- the parts of two records with one spelling, the second of which may go on
parts_kind : (a b : ShardRecord) (more : List ℕ) → summed_part a ++ more ≡ summed_part b → kind_of a ≡ kind_of b
unfolding summed_part
parts_kind a b more e = ap (λ t. get_or t 0 0) e

parts_number : (a b : ShardRecord) (more : List ℕ) → summed_part a ++ more ≡ summed_part b → number_of a < 2 ^ 64 → number_of b < 2 ^ 64 → number_of a ≡ number_of b
unfolding summed_part
parts_number a b more e fits_a fits_b =
    sym (from_be_bytes-to_be_bytes_8 (number_of a) fits_a) ∙ ap (λ t. from_be_bytes w64 (take 8 (drop 1 t))) e
    ∙ from_be_bytes-to_be_bytes_8 (number_of b) fits_b

parts_unit : (a b : ShardRecord) (more : List ℕ) → summed_part a ++ more ≡ summed_part b → IsName (unit_of a) → IsName (unit_of b) → unit_of a ≡ unit_of b
unfolding summed_part
parts_unit a b more e name_a name_b =
    same_name (unit_of a) (unit_of b) name_a name_b
    (sym (from_be_bytes-to_be_bytes_8 (packed (unit_of a)) (packed_fits (unit_of a) name_a))
    ∙ ap (λ t. from_be_bytes w64 (take 8 (drop 9 t))) e
    ∙ from_be_bytes-to_be_bytes_8 (packed (unit_of b)) (packed_fits (unit_of b) name_b))

parts_shard : (a b : ShardRecord) (more : List ℕ) → summed_part a ++ more ≡ summed_part b → shard_part a ++ more ≡ shard_part b
unfolding summed_part
parts_shard a b more e = ap (drop 17) e

-- a record is its kind, its number, its unit and its shard's part
same_record : (a b : ShardRecord) → HasSizes a → HasSizes b → kind_of a ≡ kind_of b → number_of a ≡ number_of b → unit_of a ≡ unit_of b → shard_part a ≡ shard_part b → a ≡ b
same_record (Shard bid unit size bytes) (Shard bid' unit' size' bytes') h h' k n u p =
    let fits : size < 2 ^ 32 = let x : size ≤ 4194304 = h.1 in omega arith in
    let fits' : size' < 2 ^ 32 = let x : size' ≤ 4194304 = h'.1 in omega arith in
    let s : size ≡ size' =
    sym (from_be_bytes-to_be_bytes_4 size fits) ∙ ap (λ t. from_be_bytes w32 (take 4 t)) p ∙ from_be_bytes-to_be_bytes_4 size' fits' in
    let d : bytes ≡ bytes' = ap (drop 8) p in
    ap (λ t. Shard t unit size bytes) n ∙ ap (λ t. Shard bid' t size bytes) u ∙ ap (λ t. Shard bid' unit' t bytes) s
    ∙ ap (λ t. Shard bid' unit' size' t) d
same_record (Shard bid unit size bytes) b h h' k n u p = absurd (omega arith)
same_record (Mark bid unit) (Mark bid' unit') h h' k n u p = ap (λ t. Mark t unit) n ∙ ap (λ t. Mark bid' t) u
same_record (Mark bid unit) b h h' k n u p = absurd (omega arith)
same_record (Free bid unit) (Free bid' unit') h h' k n u p = ap (λ t. Free t unit) n ∙ ap (λ t. Free bid' t) u
same_record (Free bid unit) b h h' k n u p = absurd (omega arith)
same_record (Fence lock unit) (Fence lock' unit') h h' k n u p = ap (λ t. Fence t unit) n ∙ ap (λ t. Fence lock' t) u
same_record (Fence lock unit) b h h' k n u p = absurd (omega arith)
same_record (Release unit) (Release unit') h h' k n u p = ap Release u
same_record (Release unit) b h h' k n u p = absurd (omega arith)

none_of_length : (xs : List ℕ) → length xs ≡ 0 → xs ≡ []
none_of_length [] e = refl
none_of_length (x ∷ xs) e = absurd (omega arith)

-- a shard's part is ended by its length, and the other kinds have none
no_more : (a b : ShardRecord) (more : List ℕ) → HasSizes a → HasSizes b → kind_of a ≡ kind_of b → shard_part a ++ more ≡ shard_part b → more ≡ []
no_more (Shard bid unit size bytes) (Shard bid' unit' size' bytes') more h h' k p =
    let fits : length bytes < 2 ^ 32 = let x : length bytes ≤ 4194304 = h.3 in omega arith in
    let fits' : length bytes' < 2 ^ 32 = let x : length bytes' ≤ 4194304 = h'.3 in omega arith in
    let same : length bytes ≡ length bytes' =
    sym (from_be_bytes-to_be_bytes_4 (length bytes) fits) ∙ ap (λ t. from_be_bytes w32 (take 4 (drop 4 t))) p
    ∙ from_be_bytes-to_be_bytes_4 (length bytes') fits' in
    let tail : bytes ++ more ≡ bytes' = ap (drop 8) p in
    none_of_length more (omega (arith, length-append bytes more, ap length tail))
no_more (Shard bid unit size bytes) b more h h' k p = absurd (omega arith)
no_more (Mark bid unit) (Mark bid' unit') more h h' k p = p
no_more (Mark bid unit) b more h h' k p = absurd (omega arith)
no_more (Free bid unit) (Free bid' unit') more h h' k p = p
no_more (Free bid unit) b more h h' k p = absurd (omega arith)
no_more (Fence lock unit) (Fence lock' unit') more h h' k p = p
no_more (Fence lock unit) b more h h' k p = absurd (omega arith)
no_more (Release unit) (Release unit') more h h' k p = p
no_more (Release unit) b more h h' k p = absurd (omega arith)

pub one_to_one : (a b : ShardRecord) (bytes : List ℕ) → Spells a bytes → Spells b bytes → a ≡ b
one_to_one a b bytes sa sb =
    let e : summed_part a ++ [] ≡ summed_part b = append-nil (summed_part a) ∙ sym sa.rest ∙ sb.rest in
    same_record a b sa.sizes sb.sizes (parts_kind a b [] e) (parts_number a b [] e sa.number sb.number)
    (parts_unit a b [] e sa.unit sb.unit) (sym (append-nil (shard_part a)) ∙ parts_shard a b [] e)

long_enough : (a : ShardRecord) (bytes : List ℕ) → Spells a bytes → 4 ≤ length bytes
unfolding summed_part
long_enough a bytes s = omega (arith, ap length s.rest, length-drop 4 bytes)

pub prefix_free : (a b : ShardRecord) (bytes more : List ℕ) → Spells a bytes → Spells b (bytes ++ more) → more ≡ []
prefix_free a b bytes more sa sb =
    let e : summed_part a ++ more ≡ summed_part b =
    ap (λ t. t ++ more) (sym sa.rest) ∙ sym (drop-append-le 4 bytes more (long_enough a bytes sa)) ∙ sb.rest in
    no_more a b more sa.sizes sb.sizes (parts_kind a b more e) (parts_shard a b more e)

-- ---- a spelling fails no test

abbrev pub AreBytes : List ℕ → Type 0
AreBytes bytes = (k : ℕ) → get_or bytes k 0 < 256

shifted-fits : (r : ℕ) → r < 2 ^ 32 → shifted r < 2 ^ 32
unfolding shifted
shifted-fits r fits = xor_lt 32 (r / 2) (r % 2 * 0xEDB8_8320) (omega arith) (omega arith)

shifted_by-fits : (n r : ℕ) → r < 2 ^ 32 → shifted_by n r < 2 ^ 32
unfolding shifted_by
shifted_by-fits zero r fits = fits
shifted_by-fits (suc n) r fits = shifted_by-fits n (shifted r) (shifted-fits r fits)

remainder-fits : (r : ℕ) (bytes : List ℕ) → r < 2 ^ 32 → AreBytes bytes → remainder r bytes < 2 ^ 32
unfolding remainder
remainder-fits r [] fits small = fits
remainder-fits r (byte ∷ bytes) fits small =
    let here : byte < 256 = small 0 in
    let sum : bit_xor r byte < 2 ^ 32 = xor_lt 32 r byte fits (omega arith) in
    remainder-fits (shifted_by 8 (bit_xor r byte)) bytes (shifted_by-fits 8 (bit_xor r byte) sum) (λ k. small (suc k))

pub crc-fits : (bytes : List ℕ) → AreBytes bytes → crc_of bytes < 2 ^ 32
unfolding crc_of
crc-fits bytes small =
    xor_lt 32 (remainder 0xFFFF_FFFF bytes) 0xFFFF_FFFF (remainder-fits 0xFFFF_FFFF bytes (omega arith) small) (omega arith)
