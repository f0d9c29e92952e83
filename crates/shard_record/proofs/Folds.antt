-- A window that blocks are folded into leaves the remainder of the bytes.
use Rattle.std.proofs.Common.{◌≡◌, ◌∙◌, sym, ap, refl, ℕ, zero, suc, ◌+◌, ◌-◌, ◌*◌, ◌^◌, ◌<◌, ◌≤◌, List, [], ◌∷◌, ◌++◌, length, take, drop, get_or, bit_xor, arith}
use Rattle.std.specs.Int.Bits.{xor_zero_l, xor_zero_r}
use Rattle.std.proofs.lemmas.Nat.{xor_comm, xor_lt}
use Rattle.std.proofs.lemmas.List.{take_all, take-append-drop}
use lib.Lanes.{Each1}
use Rattle.shard_record.specs.Crc.{shifted_by, remainder}
use Rattle.shard_record.specs.Folding.{inner_exponents, lower_exponents, sum_behind, IsFolded, IsFoldedEnd}
use Rattle.shard_record.proofs.Remainder.{xor_swap, shifted_by-xor, shifted_by-add, remainder-append, remainder-more, remainder-word}
use Rattle.shard_record.proofs.Powers.{exponents, powers, powers-none, powers-more, shifted_by-zero, shifted_by-none, shifted_by-below, no_powers, xor_of_three, xor_undone, xor_self_first}

-- ---- the remainder after the first places of a list
rest_at : ℕ → List ℕ → ℕ → ℕ
rest_at r xs zero = r
rest_at r xs (suc n) = shifted_by 8 (bit_xor (rest_at r xs n) (get_or xs n 0))

rest_at-take : (r : ℕ) (xs : List ℕ) (n : ℕ) → n ≤ length xs → remainder r (take n xs) ≡ rest_at r xs n
unfolding remainder rest_at
rest_at-take r xs zero h = refl
rest_at-take r xs (suc n) h =
    let e : suc n ≡ n + 1 = omega arith in
    ap (λ k. remainder r (take k xs)) e
    ∙ remainder-more r n xs (omega arith)
    ∙ ap (λ t. shifted_by 8 (bit_xor t (get_or xs n 0))) (rest_at-take r xs n (omega arith))

rest_at-next : (r : ℕ) (xs : List ℕ) (n : ℕ) → rest_at r xs (n + 1) ≡ shifted_by 8 (bit_xor (rest_at r xs n) (get_or xs n 0))
unfolding rest_at
rest_at-next r xs n = let e : n + 1 ≡ suc n = omega arith in rw e refl

rest_at-below : (xs : List ℕ) (n : ℕ) → ((k : ℕ) → get_or xs k 0 < 256) → rest_at 0 xs n < 2 ^ 32
unfolding rest_at
rest_at-below xs zero small = omega arith
rest_at-below xs (suc n) small =
    shifted_by-below 8 (bit_xor (rest_at 0 xs n) (get_or xs n 0)) (xor_lt 32 (rest_at 0 xs n) (get_or xs n 0) (rest_at-below xs n small) (omega (arith, small n)))

past_zeros : (r n m : ℕ) (xs : List ℕ) → ((k : ℕ) → n ≤ k → k < n + m → get_or xs k 0 ≡ 0) → (j : ℕ) → j ≤ m → rest_at r xs (n + j) ≡ shifted_by (8 * j) (rest_at r xs n)
past_zeros r n m xs none zero h =
    let e : n + 0 ≡ n = omega arith in
    ap (rest_at r xs) e ∙ sym (shifted_by-none (rest_at r xs n))
past_zeros r n m xs none (suc j) h =
    let e : n + suc j ≡ n + j + 1 = omega arith in
    let f : 8 * suc j ≡ 8 * j + 8 = omega arith in
    ap (rest_at r xs) e
    ∙ rest_at-next r xs (n + j)
    ∙ ap (λ b. shifted_by 8 (bit_xor (rest_at r xs (n + j)) b)) (none (n + j) (omega arith) (omega arith))
    ∙ ap (shifted_by 8) (xor_zero_r (rest_at r xs (n + j)) ∙ past_zeros r n m xs none j (omega arith))
    ∙ sym (ap (λ k. shifted_by k (rest_at r xs n)) f ∙ shifted_by-add (8 * j) 8 (rest_at r xs n))

-- ---- the remainders at the places behind one, added up
rests : List ℕ → List ℕ → ℕ → ℕ
rests [] w p = 0
rests (e ∷ es) w p = bit_xor (rest_at 0 w (p + 16 * e)) (rests es w p)

rests-next : (es w : List ℕ) (p : ℕ) → rests es w (p + 1) ≡ shifted_by 8 (bit_xor (rests es w p) (sum_behind es w p))
unfolding rests sum_behind
rests-next [] w p = sym (shifted_by-zero 8)
rests-next (e ∷ es) w p =
    let at : p + 1 + 16 * e ≡ p + 16 * e + 1 = omega arith in
    ap (λ k. bit_xor (rest_at 0 w k) (rests es w (p + 1))) at
    ∙ ap (λ t. bit_xor t (rests es w (p + 1))) (rest_at-next 0 w (p + 16 * e))
    ∙ ap (bit_xor (shifted_by 8 (bit_xor (rest_at 0 w (p + 16 * e)) (get_or w (p + 16 * e) 0)))) (rests-next es w p)
    ∙ sym (shifted_by-xor 8 (bit_xor (rest_at 0 w (p + 16 * e)) (get_or w (p + 16 * e) 0)) (bit_xor (rests es w p) (sum_behind es w p)))
    ∙ ap (shifted_by 8) (xor_swap (rest_at 0 w (p + 16 * e)) (get_or w (p + 16 * e) 0) (rests es w p) (sum_behind es w p))

pub inner_are_small : Each1 (λ e. (1 ≤ e) × (e ≤ 26)) inner_exponents
inner_are_small = ((omega arith, omega arith), ((omega arith, omega arith), ((omega arith, omega arith), ((omega arith, omega arith), ((omega arith, omega arith), ((omega arith, omega arith), ((omega arith, omega arith), ((omega arith, omega arith), ((omega arith, omega arith), ((omega arith, omega arith), ((omega arith, omega arith), ((omega arith, omega arith), ((omega arith, omega arith), tt)))))))))))))

-- ---- a window that begins with a remainder
abbrev pub word : List ℕ → ℕ
word w = get_or w 0 0 + get_or w 1 0 * 2 ^ 8 + get_or w 2 0 * 2 ^ 16 + get_or w 3 0 * 2 ^ 24

rest_of_word : (w : List ℕ) (r : ℕ) → 4 ≤ length w → ((k : ℕ) → get_or w k 0 < 256) → word w ≡ r → rest_at 0 w 4 ≡ shifted_by 32 r
unfolding remainder
rest_of_word w r long small e =
    sym (rest_at-take 0 w 4 long) ∙ remainder-word 0 0 w long small ∙ ap (shifted_by 32) (xor_zero_l (word w) ∙ e)

rest_of_start : (w : List ℕ) (r e : ℕ) → rest_at 0 w 4 ≡ shifted_by 32 r → ((k : ℕ) → 4 ≤ k → k < 512 → get_or w k 0 ≡ 0) → 1 ≤ e → e ≤ 32 → rest_at 0 w (16 * e) ≡ shifted_by (128 * e) r
rest_of_start w r e first none some small =
    let at : 16 * e ≡ 4 + (16 * e - 4) = omega arith in
    let bits : 32 + 8 * (16 * e - 4) ≡ 128 * e = omega arith in
    ap (rest_at 0 w) at
    ∙ past_zeros 0 4 508 w (λ k h lt. none k h (omega arith)) (16 * e - 4) (omega arith)
    ∙ ap (shifted_by (8 * (16 * e - 4))) first
    ∙ sym (shifted_by-add 32 (8 * (16 * e - 4)) r)
    ∙ ap (λ k. shifted_by k r) bits

rests_of_start : (es w : List ℕ) (r : ℕ) → Each1 (λ e. (1 ≤ e) × (e ≤ 26)) es → rest_at 0 w 4 ≡ shifted_by 32 r → ((k : ℕ) → 4 ≤ k → k < 512 → get_or w k 0 ≡ 0) → rests es w 0 ≡ powers es r
unfolding rests
rests_of_start [] w r small first none = sym (powers-none r)
rests_of_start (e ∷ es) w r small first none =
    let at : 0 + 16 * e ≡ 16 * e = omega arith in
    ap (λ k. bit_xor (rest_at 0 w k) (rests es w 0)) at
    ∙ ap (λ t. bit_xor t (rests es w 0)) (rest_of_start w r e first none small.0.0 (omega (arith, small.0.1)))
    ∙ ap (bit_xor (shifted_by (128 * e) r)) (rests_of_start es w r small.1 first none)
    ∙ sym (powers-more e es r)

starts_with : (w : List ℕ) (r : ℕ) → r < 2 ^ 32 → rest_at 0 w 4 ≡ shifted_by 32 r → ((k : ℕ) → 4 ≤ k → k < 512 → get_or w k 0 ≡ 0) → rests exponents w 0 ≡ r
unfolding rests rest_at
starts_with w r small first none =
    ap (λ t. bit_xor t (bit_xor 0 (rests inner_exponents w 0))) (rest_of_start w r 32 first none (omega arith) (omega arith))
    ∙ ap (λ t. bit_xor (shifted_by 4096 r) (bit_xor 0 t)) (rests_of_start inner_exponents w r inner_are_small first none)
    ∙ xor_of_three (shifted_by 4096 r) r (powers inner_exponents r)
    (ap (λ t. bit_xor (shifted_by 4096 r) (bit_xor t (powers inner_exponents r))) (sym (shifted_by-none r))
    ∙ ap (bit_xor (shifted_by 4096 r)) (sym (powers-more 0 inner_exponents r))
    ∙ sym (powers-more 32 lower_exponents r)
    ∙ no_powers 32 r (omega arith) small)

-- ---- a window that ends with zeros
rests_of_end : (es w : List ℕ) (n : ℕ) → Each1 (λ e. e ≤ 32) es → ((k : ℕ) → n ≤ k → k < n + 512 → get_or w k 0 ≡ 0) → rests es w n ≡ powers es (rest_at 0 w n)
unfolding rests
rests_of_end [] w n small none = sym (powers-none (rest_at 0 w n))
rests_of_end (e ∷ es) w n small none =
    let bits : 8 * (16 * e) ≡ 128 * e = omega arith in
    ap (λ t. bit_xor t (rests es w n)) (past_zeros 0 n 512 w none (16 * e) (omega (arith, small.0)) ∙ ap (λ k. shifted_by k (rest_at 0 w n)) bits)
    ∙ ap (bit_xor (shifted_by (128 * e) (rest_at 0 w n))) (rests_of_end es w n small.1 none)
    ∙ sym (powers-more e es (rest_at 0 w n))

up_to_32 : (es : List ℕ) → Each1 (λ e. (1 ≤ e) × (e ≤ 26)) es → Each1 (λ e. e ≤ 32) es
up_to_32 [] small = tt
up_to_32 (e ∷ es) small = (omega (arith, small.0.1), up_to_32 es small.1)

ends_with_nothing : (w : List ℕ) (n : ℕ) → ((k : ℕ) → get_or w k 0 < 256) → ((k : ℕ) → n ≤ k → k < n + 512 → get_or w k 0 ≡ 0) → rests exponents w n ≡ 0
ends_with_nothing w n small none =
    rests_of_end exponents w n (omega arith, (omega arith, up_to_32 inner_exponents inner_are_small)) none
    ∙ no_powers 32 (rest_at 0 w n) (omega arith) (rest_at-below w n small)

-- ---- the bytes, place by place
sum_of_all : (w : List ℕ) (p : ℕ) → sum_behind exponents w p ≡ bit_xor (get_or w (p + 512) 0) (sum_behind lower_exponents w p)
unfolding sum_behind
sum_of_all w p = refl

folded_so_far : (bytes w : List ℕ) (r n : ℕ) → rests exponents w 0 ≡ r → ((p : ℕ) → p < n → get_or w (p + 512) 0 ≡ bit_xor (get_or bytes p 0) (sum_behind lower_exponents w p))
    → (p : ℕ) → p ≤ n → rest_at r bytes p ≡ rests exponents w p
unfolding rest_at
folded_so_far bytes w r n start done zero h = sym start
folded_so_far bytes w r n start done (suc p) h =
    let e : p + 1 ≡ suc p = omega arith in
    let here : get_or bytes p 0 ≡ sum_behind exponents w p =
    sym (sum_of_all w p ∙ ap (λ t. bit_xor t (sum_behind lower_exponents w p)) (done p (omega arith)) ∙ xor_undone (get_or bytes p 0) (sum_behind lower_exponents w p)) in
    ap (λ t. shifted_by 8 (bit_xor t (get_or bytes p 0))) (folded_so_far bytes w r n start done p (omega arith))
    ∙ ap (λ t. shifted_by 8 (bit_xor (rests exponents w p) t)) here
    ∙ sym (rests-next exponents w p)
    ∙ ap (rests exponents w) e

behind_so_far : (bytes w end : List ℕ) (r n : ℕ) → rest_at r bytes n ≡ rests exponents w n → ((k : ℕ) → n + 512 ≤ k → k < n + 1024 → get_or w k 0 ≡ 0)
    → ((k : ℕ) → k < 512 → get_or end k 0 ≡ bit_xor (get_or bytes (n + k) 0) (sum_behind lower_exponents w (n + k)))
    → (q : ℕ) → q ≤ 512 → rest_at r bytes (n + q) ≡ bit_xor (rests exponents w (n + q)) (rest_at 0 end q)
unfolding rest_at
behind_so_far bytes w end r n start none each zero h =
    let e : n + 0 ≡ n = omega arith in
    ap (rest_at r bytes) e ∙ start ∙ sym (xor_zero_r (rests exponents w n)) ∙ ap (λ k. bit_xor (rests exponents w k) 0) (sym e)
behind_so_far bytes w end r n start none each (suc q) h =
    let e : n + suc q ≡ n + q + 1 = omega arith in
    let all = sum_behind exponents w (n + q) in
    let lower = sum_behind lower_exponents w (n + q) in
    let before = rests exponents w (n + q) in
    let byte = get_or bytes (n + q) 0 in
    let same : all ≡ lower = sum_of_all w (n + q) ∙ ap (λ t. bit_xor t lower) (none (n + q + 512) (omega arith) (omega arith)) ∙ xor_zero_l lower in
    let here : byte ≡ bit_xor all (get_or end q 0) =
    sym (ap (bit_xor all) (each q (omega arith)) ∙ ap (λ t. bit_xor t (bit_xor byte lower)) same ∙ ap (bit_xor lower) (xor_comm byte lower) ∙ xor_self_first lower byte) in
    ap (rest_at r bytes) e
    ∙ rest_at-next r bytes (n + q)
    ∙ ap (λ t. shifted_by 8 (bit_xor t byte)) (behind_so_far bytes w end r n start none each q (omega arith))
    ∙ ap (λ t. shifted_by 8 (bit_xor (bit_xor before (rest_at 0 end q)) t)) here
    ∙ ap (shifted_by 8) (xor_swap before (rest_at 0 end q) all (get_or end q 0))
    ∙ shifted_by-xor 8 (bit_xor before all) (bit_xor (rest_at 0 end q) (get_or end q 0))
    ∙ ap (λ t. bit_xor t (shifted_by 8 (bit_xor (rest_at 0 end q) (get_or end q 0)))) (sym (rests-next exponents w (n + q)) ∙ ap (rests exponents w) (sym e))

-- ---- the whole piece
pub piece_leaves : (bytes start w end : List ℕ) (r n : ℕ) → r < 2 ^ 32 → length bytes ≡ n + 512 → 4 ≤ length w → ((k : ℕ) → get_or w k 0 < 256)
    → word start ≡ r → ((k : ℕ) → 4 ≤ k → k < n + 1024 → get_or start k 0 ≡ 0) → IsFolded bytes n start w → IsFoldedEnd bytes n w end → remainder 0 (take 512 end) ≡ remainder r bytes
piece_leaves bytes start w end r n bound long room small first none folded ended =
    let front = folded.front in
    let same : word w ≡ r =
    ap (λ a. a + get_or w 1 0 * 2 ^ 8 + get_or w 2 0 * 2 ^ 16 + get_or w 3 0 * 2 ^ 24) (front 0 (omega arith))
    ∙ ap (λ b. get_or start 0 0 + b * 2 ^ 8 + get_or w 2 0 * 2 ^ 16 + get_or w 3 0 * 2 ^ 24) (front 1 (omega arith))
    ∙ ap (λ c. get_or start 0 0 + get_or start 1 0 * 2 ^ 8 + c * 2 ^ 16 + get_or w 3 0 * 2 ^ 24) (front 2 (omega arith))
    ∙ ap (λ d. get_or start 0 0 + get_or start 1 0 * 2 ^ 8 + get_or start 2 0 * 2 ^ 16 + d * 2 ^ 24) (front 3 (omega arith))
    ∙ first in
    let zeros : (k : ℕ) → 4 ≤ k → k < 512 → get_or w k 0 ≡ 0 = λ k h lt. front k lt ∙ none k h (omega arith) in
    let later : (k : ℕ) → n + 512 ≤ k → k < n + 1024 → get_or w k 0 ≡ 0 = λ k h lt. folded.left k h ∙ none k (omega arith) lt in
    let before : rest_at r bytes n ≡ rests exponents w n =
    folded_so_far bytes w r n (starts_with w r bound (rest_of_word w r room small same) zeros) folded.done n (omega arith) in
    let whole : take (n + 512) bytes ≡ bytes = take_all (n + 512) bytes (omega arith) in
    rest_at-take 0 end 512 (omega (arith, ended.long))
    ∙ sym (xor_zero_l (rest_at 0 end 512))
    ∙ ap (λ t. bit_xor t (rest_at 0 end 512)) (sym (ends_with_nothing w (n + 512) small (λ k h lt. later k h (omega arith))))
    ∙ sym (behind_so_far bytes w end r n before later ended.each 512 (omega arith))
    ∙ sym (rest_at-take r bytes (n + 512) (omega arith))
    ∙ ap (remainder r) whole

-- ---- piece by piece
pub split_leaves : (r s n : ℕ) (whole front back : List ℕ) → front ≡ take n whole → back ≡ drop n whole → s ≡ remainder r front → remainder s back ≡ remainder r whole
split_leaves r s n whole front back e f left =
    ap (λ t. remainder t back) left
    ∙ sym (remainder-append r front back)
    ∙ ap (λ xs. remainder r (xs ++ back)) e
    ∙ ap (λ xs. remainder r (take n whole ++ xs)) f
    ∙ ap (remainder r) (take-append-drop n whole)
