-- How the remainder of a byte string follows from remainders of its parts.
use Rattle.std.proofs.Common.{◌≡◌, ◌∙◌, sym, ap, refl, ℕ, zero, suc, ◌+◌, ◌*◌, ◌/◌, ◌%◌, ◌^◌, ◌<◌, ◌≤◌, List, [], ◌∷◌, ◌++◌, mul_assoc, pow-suc, length, take, get_or, bit_xor, arith}
use Rattle.std.proofs.lemmas.Nat.{xor_comm, xor_shr, xor_mod, xor_block}
use Rattle.std.proofs.lemmas.List.{take_more}
use Rattle.std.proofs.Math.Pow.{pow_pos}
use Rattle.std.specs.Int.Bits.{xor_assoc, xor_zero_r}
use Rattle.shard_record.specs.Crc.{shifted, shifted_by, remainder}

times_polynomial : (x y : ℕ) → x < 2 → y < 2 → bit_xor x y * 0xEDB8_8320 ≡ bit_xor (x * 0xEDB8_8320) (y * 0xEDB8_8320)
times_polynomial zero zero a b = refl
times_polynomial zero (suc zero) a b = refl
times_polynomial zero (suc (suc y)) a b = absurd (omega arith)
times_polynomial (suc zero) zero a b = refl
times_polynomial (suc zero) (suc zero) a b = refl
times_polynomial (suc zero) (suc (suc y)) a b = absurd (omega arith)
times_polynomial (suc (suc x)) y a b = absurd (omega arith)

pub xor_swap : (p q r s : ℕ) → bit_xor (bit_xor p q) (bit_xor r s) ≡ bit_xor (bit_xor p r) (bit_xor q s)
xor_swap p q r s =
    xor_assoc p q (bit_xor r s)
    ∙ ap (bit_xor p) (sym (xor_assoc q r s) ∙ ap (λ t. bit_xor t s) (xor_comm q r) ∙ xor_assoc r q s)
    ∙ sym (xor_assoc p r (bit_xor q s))

-- one bit of a sum leaves as the sum of the bits
pub shifted-xor : (a b : ℕ) → shifted (bit_xor a b) ≡ bit_xor (shifted a) (shifted b)
unfolding shifted
shifted-xor a b =
    ap (λ t. bit_xor t (bit_xor a b % 2 * 0xEDB8_8320)) (xor_shr a b 1)
    ∙ ap (λ t. bit_xor (bit_xor (a / 2) (b / 2)) (t * 0xEDB8_8320)) (xor_mod a b 1)
    ∙ ap (λ t. bit_xor (bit_xor (a / 2) (b / 2)) t) (times_polynomial (a % 2) (b % 2) (omega arith) (omega arith))
    ∙ xor_swap (a / 2) (b / 2) (a % 2 * 0xEDB8_8320) (b % 2 * 0xEDB8_8320)

pub shifted_by-xor : (n a b : ℕ) → shifted_by n (bit_xor a b) ≡ bit_xor (shifted_by n a) (shifted_by n b)
unfolding shifted_by
shifted_by-xor zero a b = refl
shifted_by-xor (suc n) a b = ap (shifted_by n) (shifted-xor a b) ∙ shifted_by-xor n (shifted a) (shifted b)

shifted-double : (a b : ℕ) → b ≡ a * 2 → shifted b ≡ a
unfolding shifted
shifted-double a b e =
    let half : b / 2 ≡ a = omega arith in
    let low : b % 2 ≡ 0 = omega arith in
    rw (half, low) (xor_zero_r a)

-- bits that are 0 leave nothing behind
pub shifted_by-shl : (n a : ℕ) → shifted_by n (a * 2 ^ n) ≡ a
unfolding shifted_by
shifted_by-shl zero a = omega arith
shifted_by-shl (suc n) a =
    let twice : a * 2 ^ suc n ≡ a * 2 ^ n * 2 = ap (λ t. a * t) (pow-suc 2 n) ∙ sym (mul_assoc a (2 ^ n) 2) in
    ap (shifted_by n) (shifted-double (a * 2 ^ n) (a * 2 ^ suc n) twice) ∙ shifted_by-shl n a

pub shifted_by-add : (m n r : ℕ) → shifted_by (m + n) r ≡ shifted_by n (shifted_by m r)
unfolding shifted_by
shifted_by-add zero n r = let e : 0 + n ≡ n = omega arith in rw e refl
shifted_by-add (suc m) n r =
    let e : suc m + n ≡ suc (m + n) = omega arith in
    ap (λ t. shifted_by t r) e ∙ shifted_by-add m n (shifted r)

-- low bits and the bits above them
pub low_xor_high : (n low high : ℕ) → low < 2 ^ n → bit_xor low (high * 2 ^ n) ≡ low + high * 2 ^ n
low_xor_high n low high small =
    let whole : bit_xor (0 * 2 ^ n + low) (high * 2 ^ n + 0) ≡ bit_xor 0 high * 2 ^ n + bit_xor low 0 =
    xor_block n 0 high low 0 small (pow_pos n) in
    let l : 0 * 2 ^ n + low ≡ low = omega arith in
    let h : high * 2 ^ n + 0 ≡ high * 2 ^ n = omega arith in
    let fine : bit_xor low (high * 2 ^ n) ≡ high * 2 ^ n + low = rw (l, h, xor_zero_r low) at whole in
    omega (arith, fine)

-- the low byte leaves by itself, and the bytes above it take its place
pub shifted_by-split : (n w : ℕ) → shifted_by (n + 8) w ≡ bit_xor (shifted_by (n + 8) (w % 256)) (shifted_by n (w / 256))
shifted_by-split n w =
    let parts : w ≡ bit_xor (w % 256) (w / 256 * 2 ^ 8) =
    omega (arith, low_xor_high 8 (w % 256) (w / 256) (omega arith)) in
    let turned : n + 8 ≡ 8 + n = omega arith in
    let high : shifted_by (n + 8) (w / 256 * 2 ^ 8) ≡ shifted_by n (w / 256) =
    ap (λ t. shifted_by t (w / 256 * 2 ^ 8)) turned ∙ shifted_by-add 8 n (w / 256 * 2 ^ 8)
    ∙ ap (shifted_by n) (shifted_by-shl 8 (w / 256)) in
    ap (shifted_by (n + 8)) parts
    ∙ shifted_by-xor (n + 8) (w % 256) (w / 256 * 2 ^ 8)
    ∙ ap (bit_xor (shifted_by (n + 8) (w % 256))) high

-- a byte of the remainder leaves by itself
pub shifted_by-byte : (rest byte : ℕ) → byte < 256 → bit_xor (shifted_by 8 (bit_xor rest byte % 256)) (rest / 256) ≡ shifted_by 8 (bit_xor rest byte)
unfolding shifted_by
shifted_by-byte rest byte small =
    let none : byte / 2 ^ 8 ≡ 0 = omega arith in
    let above : bit_xor rest byte / 256 ≡ rest / 256 =
    xor_shr rest byte 8 ∙ ap (bit_xor (rest / 2 ^ 8)) none ∙ xor_zero_r (rest / 2 ^ 8) in
    ap (bit_xor (shifted_by 8 (bit_xor rest byte % 256))) (sym above) ∙ sym (shifted_by-split 0 (bit_xor rest byte))

pub remainder-append : (r : ℕ) (xs ys : List ℕ) → remainder r (xs ++ ys) ≡ remainder (remainder r xs) ys
unfolding remainder
remainder-append r [] ys = refl
remainder-append r (x ∷ xs) ys = remainder-append (shifted_by 8 (bit_xor r x)) xs ys

-- one byte more
pub remainder-more : (r i : ℕ) (xs : List ℕ) → i < length xs → remainder r (take (i + 1) xs) ≡ shifted_by 8 (bit_xor (remainder r (take i xs)) (get_or xs i 0))
unfolding remainder
remainder-more r i xs inside =
    ap (remainder r) (take_more xs i 0 inside) ∙ remainder-append r (take i xs) (get_or xs i 0 ∷ [])

-- what leaves after more bits have come behind it
join : (m n x low high : ℕ) → low < 2 ^ m → shifted_by n (bit_xor (shifted_by m (bit_xor x low)) high) ≡ shifted_by (m + n) (bit_xor x (low + high * 2 ^ m))
join m n x low high small =
    let one : shifted_by m (bit_xor (bit_xor x low) (high * 2 ^ m)) ≡ bit_xor (shifted_by m (bit_xor x low)) high =
    shifted_by-xor m (bit_xor x low) (high * 2 ^ m) ∙ ap (bit_xor (shifted_by m (bit_xor x low))) (shifted_by-shl m high) in
    let whole : bit_xor (bit_xor x low) (high * 2 ^ m) ≡ bit_xor x (low + high * 2 ^ m) =
    xor_assoc x low (high * 2 ^ m) ∙ ap (bit_xor x) (low_xor_high m low high small) in
    ap (shifted_by n) (sym one) ∙ sym (shifted_by-add m n (bit_xor (bit_xor x low) (high * 2 ^ m)))
    ∙ ap (shifted_by (m + n)) whole

-- the four bytes of a word leave each by itself
pub shifted_by-word : (k w : ℕ) → w < 2 ^ 32 → bit_xor (bit_xor (shifted_by (8 * (k + 3) + 8) (w % 256)) (shifted_by (8 * (k + 2) + 8) (w / 2 ^ 8 % 256))) (bit_xor (shifted_by (8 * (k + 1) + 8) (w / 2 ^ 16 % 256)) (shifted_by (8 * k + 8) (w / 2 ^ 24 % 256))) ≡ shifted_by (8 * k + 32) w
shifted_by-word k w small =
    let n3 : 8 * (k + 3) + 8 ≡ 8 * k + 24 + 8 = omega arith in
    let n2 : 8 * (k + 2) + 8 ≡ 8 * k + 16 + 8 = omega arith in
    let n1 : 8 * (k + 1) + 8 ≡ 8 * k + 8 + 8 = omega arith in
    let n : 8 * k + 32 ≡ 8 * k + 24 + 8 = omega arith in
    let m2 : 8 * k + 24 ≡ 8 * k + 16 + 8 = omega arith in
    let m1 : 8 * k + 16 ≡ 8 * k + 8 + 8 = omega arith in
    let second : w / 256 / 256 ≡ w / 65536 = omega arith in
    let third : w / 65536 / 256 ≡ w / 16777216 = omega arith in
    let last : w / 16777216 % 256 ≡ w / 16777216 = omega arith in
    let low = shifted_by (8 * k + 8) (w / 16777216) in
    let second_low = bit_xor (shifted_by (8 * k + 8 + 8) (w / 65536 % 256)) in
    let third_low = bit_xor (shifted_by (8 * k + 16 + 8) (w / 256 % 256)) in
    let fourth_low = bit_xor (shifted_by (8 * k + 24 + 8) (w % 256)) in
    let two : shifted_by (8 * k + 16) (w / 256 / 256) ≡ second_low low =
    ap (shifted_by (8 * k + 16)) second ∙ ap (λ t. shifted_by t (w / 65536)) m1
    ∙ shifted_by-split (8 * k + 8) (w / 65536) ∙ ap (λ t. second_low (shifted_by (8 * k + 8) t)) third in
    let three : shifted_by (8 * k + 24) (w / 256) ≡ third_low (second_low low) =
    ap (λ t. shifted_by t (w / 256)) m2 ∙ shifted_by-split (8 * k + 16) (w / 256) ∙ ap third_low two in
    let four : shifted_by (8 * k + 32) w ≡ fourth_low (third_low (second_low low)) =
    ap (λ t. shifted_by t w) n ∙ shifted_by-split (8 * k + 24) w ∙ ap fourth_low three in
    rw (n3, n2, n1, last)
    (xor_assoc (shifted_by (8 * k + 24 + 8) (w % 256)) (shifted_by (8 * k + 16 + 8) (w / 256 % 256)) (second_low low) ∙ sym four)

step : (n x w : ℕ) → shifted_by 32 (bit_xor (shifted_by n x) w) ≡ bit_xor (shifted_by (n + 32) x) (shifted_by 32 w)
step n x w =
    shifted_by-xor 32 (shifted_by n x) w ∙ ap (λ t. bit_xor t (shifted_by 32 w)) (sym (shifted_by-add n 32 x))

step_on : (n x y w : ℕ) → shifted_by 32 (bit_xor (bit_xor (shifted_by n x) y) w) ≡ bit_xor (shifted_by (n + 32) x) (shifted_by 32 (bit_xor y w))
step_on n x y w = ap (shifted_by 32) (xor_assoc (shifted_by n x) y w) ∙ step n x (bit_xor y w)

-- four words, of which only the first waits for the remainder before them
pub shifted_by-block : (x a b c : ℕ) → shifted_by 32 (bit_xor (shifted_by 32 (bit_xor (shifted_by 32 (bit_xor (shifted_by 32 x) a)) b)) c) ≡ bit_xor (shifted_by 128 x) (bit_xor (shifted_by 96 a) (bit_xor (shifted_by 64 b) (shifted_by 32 c)))
shifted_by-block x a b c =
    let two : shifted_by 32 (bit_xor (shifted_by 32 (bit_xor (shifted_by 32 x) a)) b) ≡ bit_xor (shifted_by 96 x) (bit_xor (shifted_by 64 a) (shifted_by 32 b)) =
    ap (λ t. shifted_by 32 (bit_xor t b)) (step 32 x a) ∙ step_on 64 x (shifted_by 32 a) b
    ∙ ap (bit_xor (shifted_by 96 x)) (step 32 a b) in
    ap (λ t. shifted_by 32 (bit_xor t c)) two ∙ step_on 96 x (bit_xor (shifted_by 64 a) (shifted_by 32 b)) c
    ∙ ap (bit_xor (shifted_by 128 x)) (step_on 64 a (shifted_by 32 b) c ∙ ap (bit_xor (shifted_by 96 a)) (step 32 b c))

next : (r i j : ℕ) (xs : List ℕ) → j ≡ i + 1 → i < length xs → remainder r (take j xs) ≡ shifted_by 8 (bit_xor (remainder r (take i xs)) (get_or xs i 0))
next r i j xs e inside = ap (λ t. remainder r (take t xs)) e ∙ remainder-more r i xs inside

-- four bytes more
pub remainder-word : (r i : ℕ) (xs : List ℕ) → i + 4 ≤ length xs → ((k : ℕ) → get_or xs k 0 < 256) → remainder r (take (i + 4) xs) ≡ shifted_by 32 (bit_xor (remainder r (take i xs)) (get_or xs i 0 + get_or xs (i + 1) 0 * 2 ^ 8 + get_or xs (i + 2) 0 * 2 ^ 16 + get_or xs (i + 3) 0 * 2 ^ 24))
remainder-word r i xs inside small =
    let before = remainder r (take i xs) in
    let a = get_or xs i 0 in
    let b = get_or xs (i + 1) 0 in
    let c = get_or xs (i + 2) 0 in
    let d = get_or xs (i + 3) 0 in
    let first : a < 2 ^ 8 = small i in
    let second : a + b * 2 ^ 8 < 2 ^ 16 = omega (arith, small (i + 1)) in
    let third : a + b * 2 ^ 8 + c * 2 ^ 16 < 2 ^ 24 = omega (arith, small (i + 1), small (i + 2)) in
    let two : remainder r (take (i + 2) xs) ≡ shifted_by 16 (bit_xor before (a + b * 2 ^ 8)) =
    next r (i + 1) (i + 2) xs (omega arith) (omega arith)
    ∙ ap (λ t. shifted_by 8 (bit_xor t b)) (next r i (i + 1) xs refl (omega arith))
    ∙ join 8 8 before a b first in
    let three : remainder r (take (i + 3) xs) ≡ shifted_by 24 (bit_xor before (a + b * 2 ^ 8 + c * 2 ^ 16)) =
    next r (i + 2) (i + 3) xs (omega arith) (omega arith)
    ∙ ap (λ t. shifted_by 8 (bit_xor t c)) two ∙ join 16 8 before (a + b * 2 ^ 8) c second in
    next r (i + 3) (i + 4) xs (omega arith) (omega arith)
    ∙ ap (λ t. shifted_by 8 (bit_xor t d)) three ∙ join 24 8 before (a + b * 2 ^ 8 + c * 2 ^ 16) d third

abbrev word : List ℕ → ℕ → ℕ
word xs i = get_or xs i 0 + get_or xs (i + 1) 0 * 2 ^ 8 + get_or xs (i + 2) 0 * 2 ^ 16 + get_or xs (i + 3) 0 * 2 ^ 24

next_word : (r i j : ℕ) (xs : List ℕ) → j ≡ i + 4 → i + 4 ≤ length xs → ((k : ℕ) → get_or xs k 0 < 256) → remainder r (take j xs) ≡ shifted_by 32 (bit_xor (remainder r (take i xs)) (word xs i))
next_word r i j xs e inside small = ap (λ t. remainder r (take t xs)) e ∙ remainder-word r i xs inside small

-- sixteen bytes more
pub remainder-block : (r i before : ℕ) (xs : List ℕ) → i + 16 ≤ length xs → ((k : ℕ) → get_or xs k 0 < 256) → before ≡ remainder r (take i xs) → bit_xor (shifted_by 128 (bit_xor before (word xs i))) (bit_xor (shifted_by 96 (word xs (i + 4))) (bit_xor (shifted_by 64 (word xs (i + 8))) (shifted_by 32 (word xs (i + 12))))) ≡ remainder r (take (i + 16) xs)
remainder-block r i before xs inside small e =
    let one : remainder r (take (i + 4) xs) ≡ shifted_by 32 (bit_xor before (word xs i)) =
    next_word r i (i + 4) xs refl (omega arith) small ∙ ap (λ t. shifted_by 32 (bit_xor t (word xs i))) (sym e) in
    let two : remainder r (take (i + 8) xs) ≡ shifted_by 32 (bit_xor (shifted_by 32 (bit_xor before (word xs i))) (word xs (i + 4))) =
    next_word r (i + 4) (i + 8) xs (omega arith) (omega arith) small
    ∙ ap (λ t. shifted_by 32 (bit_xor t (word xs (i + 4)))) one in
    let three : remainder r (take (i + 12) xs) ≡ shifted_by 32 (bit_xor (shifted_by 32 (bit_xor (shifted_by 32 (bit_xor before (word xs i))) (word xs (i + 4)))) (word xs (i + 8))) =
    next_word r (i + 8) (i + 12) xs (omega arith) (omega arith) small
    ∙ ap (λ t. shifted_by 32 (bit_xor t (word xs (i + 8)))) two in
    let four : remainder r (take (i + 16) xs) ≡ shifted_by 32 (bit_xor (shifted_by 32 (bit_xor (shifted_by 32 (bit_xor (shifted_by 32 (bit_xor before (word xs i))) (word xs (i + 4)))) (word xs (i + 8)))) (word xs (i + 12))) =
    next_word r (i + 12) (i + 16) xs (omega arith) (omega arith) small
    ∙ ap (λ t. shifted_by 32 (bit_xor t (word xs (i + 12)))) three in
    sym (four ∙ shifted_by-block (bit_xor before (word xs i)) (word xs (i + 4)) (word xs (i + 8)) (word xs (i + 12)))
