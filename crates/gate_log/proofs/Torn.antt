-- Writes of which any part was done.
use Rattle.std.proofs.Common.{◌≡◌, ◌≤◌, ℕ, ◌+◌, max, List, [], ◌∷◌, ◌++◌, length, take, drop, refl, sym, ◌∙◌, ap, subst, arith, length-drop, length-append, length-take-le}
use Rattle.std.proofs.lemmas.List.{take_at, drop_at, drop-drop, take-take, take_all, drop_all}
use Rattle.disk_base.specs.Disk.{Images, IsTorn, LeavesExactly, TearsFrom, overwritten}

pub length-overwritten : (was : List ℕ) (at : ℕ) (bytes : List ℕ) → at ≤ length was → length (overwritten was at bytes) ≡ max (length was) (at + length bytes)
length-overwritten was at bytes le =
    let a = length-take-le at was le in
    let b = length-append (take at was) (bytes ++ drop (at + length bytes) was) in
    let d = length-append bytes (drop (at + length bytes) was) in
    let e = length-drop (at + length bytes) was in
    omega arith

-- a write that was done whole is one of which a part was done
pub whole_is_torn : (was : List ℕ) (at : ℕ) (bytes : List ℕ) → at ≤ length was → IsTorn at (length bytes) was (overwritten was at bytes)
whole_is_torn was at bytes le =
    let front : length (take at was) ≡ at = length-take-le at was le in
    let size = length-overwritten was at bytes le in
    let tail = drop (at + length bytes) was in
    record {
      front = take_at (take at was) (bytes ++ tail) at front;
      back = sym (drop-drop (length bytes) at (overwritten was at bytes)) ∙ ap (drop (length bytes)) (drop_at (take at was) (bytes ++ tail) at front) ∙ drop_at bytes tail (length bytes) refl;
      no_shorter = omega arith;
      no_longer = omega arith;
    }

-- and so is one of which nothing was done
pub same_is_torn : (was : List ℕ) (at n : ℕ) → IsTorn at n was was
same_is_torn was at n = record { front = refl; back = refl; no_shorter = omega arith; no_longer = omega arith }

pub images_torn : (at n : ℕ) (was : List ℕ) (old new : Images) → LeavesExactly was old → TearsFrom at n old new → (c : List ℕ) → new c → IsTorn at n was c
images_torn at n was old new exactly tears c now = let from = tears c now in subst (λ w. IsTorn at n w c) (exactly from.0 from.1) from.2

pub image_is_torn : (at n : ℕ) (was : List ℕ) (old : Images) → LeavesExactly was old → (c : List ℕ) → old c → IsTorn at n was c
image_is_torn at n was old exactly c left = subst (λ w. IsTorn at n was w) (sym (exactly c left)) (same_is_torn was at n)

-- a byte written in front of what was just written
pub overwritten_front : (was : List ℕ) (at x : ℕ) (rest : List ℕ) → at + 1 ≤ length was → overwritten (overwritten was (at + 1) rest) at (x ∷ []) ≡ overwritten was at (x ∷ rest)
overwritten_front was at x rest le =
    let s = overwritten was (at + 1) rest in
    let tail = rest ++ drop (at + 1 + length rest) was in
    let front : length (take (at + 1) was) ≡ at + 1 = length-take-le (at + 1) was le in
    let first : take at s ≡ take at was = sym (take-take at (at + 1) s (omega arith)) ∙ ap (take at) (take_at (take (at + 1) was) tail (at + 1) front) ∙ take-take at (at + 1) was (omega arith) in
    let second : drop (at + 1) s ≡ tail = drop_at (take (at + 1) was) tail (at + 1) front in
    let there : at + 1 + length rest ≡ at + length (x ∷ rest) = omega arith in
    (λ i. first i ++ x ∷ second i) ∙ ap (λ n. take at was ++ x ∷ (rest ++ drop n was)) there

-- a byte written at the end
pub overwritten_end : (was : List ℕ) (x : ℕ) → overwritten was (length was) (x ∷ []) ≡ was ++ x ∷ []
overwritten_end was x = (λ i. take_all (length was) was (omega arith) i ++ x ∷ drop_all (length was + 1) was (omega arith) i)
