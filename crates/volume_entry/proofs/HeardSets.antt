-- Sets of blobs that were heard of.
use Rattle.std.proofs.Common.{◌≡◌, ◌∙◌, sym, ap, refl, ℕ, ◌+◌, ◌<◌, ◌≤◌, Bool, true, false, ◌||◌, ◌==◌, List, [], ◌∷◌, ◌++◌, length, take, get_or}
use Rattle.std.proofs.lemmas.List.{take_more, take_all}
use Rattle.unit_id.specs.Lists.{is_in}
use Rattle.volume_entry.specs.HeardCalls.{Adds}

swapped : (a b c : Bool) → (a || (b || c)) ≡ (b || (a || c))
swapped true true c = refl
swapped true false c = refl
swapped false true c = refl
swapped false false c = refl

joined : (a b c : Bool) → ((a || b) || c) ≡ (a || (b || c))
joined true b c = refl
joined false b c = refl

is_in-push : (bid : ℕ) (xs : List ℕ) (x : ℕ) → is_in bid (xs ++ x ∷ []) ≡ ((bid == x) || is_in bid xs)
is_in-push bid [] x = refl
is_in-push bid (y ∷ ys) x = ap (λ b. (bid == y) || b) (is_in-push bid ys x) ∙ swapped (bid == y) (bid == x) (is_in bid ys)

is_in-one : (bid x : ℕ) → is_in bid (x ∷ []) ≡ (bid == x)
is_in-one bid x = elim (bid == x) as (λ b. (b || false) ≡ b) [ true ↦ refl | false ↦ refl ]

pub adds_none : (old : List ℕ) → Adds [] old old
adds_none old bid = refl

-- one blob more
pub adds_more : (xs : List ℕ) (k : ℕ) (old mid new : List ℕ) → k < length xs → Adds (take k xs) old mid → Adds (get_or xs k 0 ∷ []) mid new → Adds (take (k + 1) xs) old new
adds_more xs k old mid new h before one bid =
    let x = get_or xs k 0 in
    one bid
    ∙ ap (λ b. b || is_in bid mid) (is_in-one bid x)
    ∙ ap (λ b. (bid == x) || b) (before bid)
    ∙ sym (joined (bid == x) (is_in bid (take k xs)) (is_in bid old))
    ∙ ap (λ b. b || is_in bid old) (sym (is_in-push bid (take k xs) x))
    ∙ ap (λ ys. is_in bid ys || is_in bid old) (sym (take_more xs k 0 h))

pub adds_all : (xs : List ℕ) (k : ℕ) (old new : List ℕ) → length xs ≤ k → Adds (take k xs) old new → Adds xs old new
adds_all xs k old new h all bid = all bid ∙ ap (λ ys. is_in bid ys || is_in bid old) (take_all k xs h)
