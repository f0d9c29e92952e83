-- Lists that are written from the left.
use Rattle.std.proofs.Common.{◌≡◌, ℕ, ◌<◌, ◌+◌, List, [], ◌∷◌, ◌++◌, length, take, drop, set, get_or, sym, ap, ◌∙◌, append_assoc, arith}
use Rattle.std.proofs.lemmas.List.{take_more_set, drop-set-lt, drop_more}

-- what is done, then a write at the next place, then the rest by a rule
pub sweep : {X : Type 0} (rest : ℕ → List X → List X) (xs whole : List X) (place : ℕ) (d after : X)
    → place < length xs
    → rest place (get_or xs place d ∷ drop (place + 1) xs) ≡ after ∷ rest (place + 1) (drop (place + 1) xs)
    → take place xs ++ rest place (drop place xs) ≡ whole
    → take (place + 1) (set xs place after) ++ rest (place + 1) (drop (place + 1) (set xs place after)) ≡ whole
sweep rest xs whole place d after below next done =
    ap (λ front. front ++ rest (place + 1) (drop (place + 1) (set xs place after))) (take_more_set xs place after below)
    ∙ ap (λ back. (take place xs ++ after ∷ []) ++ rest (place + 1) back) (drop-set-lt (place + 1) xs place after (omega arith))
    ∙ append_assoc (take place xs) (after ∷ []) (rest (place + 1) (drop (place + 1) xs))
    ∙ ap (λ back. take place xs ++ back) (sym next)
    ∙ ap (λ back. take place xs ++ rest place back) (sym (drop_more xs place d below))
    ∙ done
