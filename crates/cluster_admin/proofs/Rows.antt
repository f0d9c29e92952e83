-- Rows of a fixed length that are seen up to a count, and lists that are written.
use Rattle.std.specs.Prelude.{is_some, remove, replicate}
use Rattle.std.proofs.Common.{◌-◌, true, false, Some, None, ◌≡◌, ℕ, zero, suc, ◌<◌, ◌≤◌, List, [], ◌∷◌, length, take, set, map, refl, sym, ap, ◌∙◌, arith}
use Rattle.std.proofs.lemmas.List.{length-take, set_past}
use Rattle.std.proofs.Math.Seq.{take-set-lt}

-- a write below the count is seen
pub set_seen : {X : Type 0} (count place : ℕ) (places seen : List X) (item : X) → take count places ≡ seen → place < count → take count (set places place item) ≡ set seen place item
set_seen count place places seen item is_seen below = take-set-lt count places place item below ∙ ap (λ row. set row place item) is_seen

-- past the count there is nothing to write
pub set_unseen : {X : Type 0} (count place : ℕ) (places seen : List X) (item : X) → take count places ≡ seen → count ≤ place → seen ≡ set seen place item
set_unseen count place places seen item is_seen past =
    let short : length seen ≤ place = rw (sym is_seen) (omega (arith, past, length-take count places)) in
    sym (set_past seen place item short)

-- the later of two writes at a place stands
pub set_set : {X : Type 0} (xs : List X) (i : ℕ) (x y : X) → set (set xs i x) i y ≡ set xs i y
set_set [] i x y = refl
set_set (z ∷ xs) zero x y = refl
set_set (z ∷ xs) (suc i) x y = ap (λ rest. z ∷ rest) (set_set xs i x y)

-- all placers but the first wait
pub all_wait : {X : Type 0} → (xs : List X) → 0 < length xs → map is_some (None ∷ map Some (remove xs 0)) ≡ false ∷ replicate (length xs - 1) true
all_wait {X} [] some = absurd (omega (arith, some))
all_wait {X} (x ∷ xs) some =
    let one_less : length (x ∷ xs) - 1 ≡ length xs = omega arith in
    ap (λ rest. false ∷ rest) (each_waits xs ∙ ap (λ n. replicate n true) (sym one_less))
  where
    each_waits : (ys : List X) → map is_some (map Some ys) ≡ replicate (length ys) true
    each_waits [] = refl
    each_waits (y ∷ ys) = ap (λ rest. true ∷ rest) (each_waits ys)
