-- Bytes as a file in memory reads them.
use Rattle.std.proofs.Common.{◌≡◌, ℕ, zero, suc, ◌+◌, ◌<◌, List, [], ◌∷◌, length, get_or, refl, ap, ◌∙◌, arith}
use Rattle.disk_base.specs.Images.{misread, misread_byte}

pub length-misread : (lies : List ℕ) (place : ℕ) (xs : List ℕ) → length (misread lies place xs) ≡ length xs
length-misread lies place [] = refl
length-misread lies place (x ∷ xs) = ap suc (length-misread lies (place + 1) xs)

pub get_or-misread : (lies : List ℕ) (place : ℕ) (xs : List ℕ) (k : ℕ) → k < length xs → get_or (misread lies place xs) k 0 ≡ misread_byte lies (place + k) (get_or xs k 0)
get_or-misread lies place [] k within = absurd (omega arith)
get_or-misread lies place (x ∷ xs) zero within = let same : place ≡ place + 0 = omega arith in ap (λ (p : ℕ). misread_byte lies p x) same
get_or-misread lies place (x ∷ xs) (suc k) within =
    let same : place + 1 + k ≡ place + suc k = omega arith in
    get_or-misread lies (place + 1) xs k (omega arith) ∙ ap (λ (p : ℕ). misread_byte lies p (get_or xs k 0)) same
