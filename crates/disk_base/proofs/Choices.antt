-- The bytes that a crash leaves.
use Rattle.std.proofs.Common.{◌≡◌, ℕ, zero, suc, ◌+◌, ◌<◌, Bool, true, false, if◌then◌else◌, List, [], ◌∷◌, ◌++◌, length, take, drop, set, get_or, inl, inr, refl, ap, ◌∙◌, sym, arith, drop-cons, take-suc, drop-set-lt, append_assoc}
use Rattle.std.proofs.lemmas.Bool.{cases_lt}
use Rattle.std.proofs.lemmas.List.{get_or_past, take_more_set}
use Rattle.disk_base.specs.Images.{Epoch, IsImage, is_settled, chosen}

step : (e : Epoch) (place : ℕ) (x : ℕ) (xs choice : List ℕ) → (settled : Bool) → is_settled e place ≡ settled → chosen e place (x ∷ xs) choice ≡ if settled then x ∷ chosen e (place + 1) xs choice else get_or choice 0 0 ∷ chosen e (place + 1) xs (drop 1 choice)
step e place x xs choice settled is = ap (λ b. if b then x ∷ chosen e (place + 1) xs choice else get_or choice 0 0 ∷ chosen e (place + 1) xs (drop 1 choice)) is

grown : (l : List ℕ) (x : ℕ) (rest : List ℕ) → l ++ x ∷ rest ≡ (l ++ x ∷ []) ++ rest
grown l x rest = sym (append_assoc l (x ∷ []) rest)

-- a settled byte stays
pub chosen-settled : (e : Epoch) (place : ℕ) (bytes choice : List ℕ) → place < length bytes → is_settled e place ≡ true →
    take place bytes ++ chosen e place (drop place bytes) choice ≡ take (place + 1) bytes ++ chosen e (place + 1) (drop (place + 1) bytes) choice
chosen-settled e place bytes choice within settled =
    let x = get_or bytes place 0 in
    let next : suc place ≡ place + 1 = omega arith in
    let rest = drop (place + 1) bytes in
    let cut = drop-cons bytes place 0 within ∙ ap (λ (n : ℕ). x ∷ drop n bytes) next in
    ap (λ (l : List ℕ). take place bytes ++ chosen e place l choice) cut
    ∙ ap (λ (l : List ℕ). take place bytes ++ l) (step e place x rest choice true settled)
    ∙ grown (take place bytes) x (chosen e (place + 1) rest choice)
    ∙ ap (λ (l : List ℕ). l ++ chosen e (place + 1) rest choice) (sym (take-suc bytes place 0 within) ∙ ap (λ (n : ℕ). take n bytes) next)

-- another one is the next of the choice
pub chosen-loose : (e : Epoch) (place y : ℕ) (bytes choice : List ℕ) → place < length bytes → is_settled e place ≡ false → y ≡ get_or choice 0 0 →
    take place bytes ++ chosen e place (drop place bytes) choice ≡ take (place + 1) (set bytes place y) ++ chosen e (place + 1) (drop (place + 1) (set bytes place y)) (drop 1 choice)
chosen-loose e place y bytes choice within loose first =
    let x = get_or bytes place 0 in
    let next : suc place ≡ place + 1 = omega arith in
    let rest = drop (place + 1) bytes in
    let cut = drop-cons bytes place 0 within ∙ ap (λ (n : ℕ). x ∷ drop n bytes) next in
    ap (λ (l : List ℕ). take place bytes ++ chosen e place l choice) cut
    ∙ ap (λ (l : List ℕ). take place bytes ++ l) (step e place x rest choice false loose)
    ∙ ap (λ (b : ℕ). take place bytes ++ b ∷ chosen e (place + 1) rest (drop 1 choice)) (sym first)
    ∙ grown (take place bytes) y (chosen e (place + 1) rest (drop 1 choice))
    ∙ ap (λ (l : List ℕ). l ++ chosen e (place + 1) rest (drop 1 choice)) (sym (take_more_set bytes place y within))
    ∙ ap (λ (l : List ℕ). take (place + 1) (set bytes place y) ++ chosen e (place + 1) l (drop 1 choice)) (sym (drop-set-lt (place + 1) bytes place y (omega arith)))

length_of_step : (e : Epoch) (place x : ℕ) (xs choice : List ℕ) → ((rest : List ℕ) → length (chosen e (place + 1) xs rest) ≡ length xs) → (settled : Bool) → is_settled e place ≡ settled → length (chosen e place (x ∷ xs) choice) ≡ suc (length xs)
length_of_step e place x xs choice later true is = ap length (step e place x xs choice true is) ∙ ap suc (later choice)
length_of_step e place x xs choice later false is = ap length (step e place x xs choice false is) ∙ ap suc (later (drop 1 choice))

length-chosen : (e : Epoch) (place : ℕ) (xs choice : List ℕ) → length (chosen e place xs choice) ≡ length xs
length-chosen e place [] choice = refl
length-chosen e place (x ∷ xs) choice = length_of_step e place x xs choice (λ rest. length-chosen e (place + 1) xs rest) (is_settled e place) refl

-- the settled bytes are those that were there
get_or_of_step : (e : Epoch) (place x : ℕ) (xs choice : List ℕ) (k : ℕ) → ((rest : List ℕ) → get_or (chosen e (place + 1) xs rest) k 0 ≡ get_or xs k 0) → (settled : Bool) → is_settled e place ≡ settled → get_or (chosen e place (x ∷ xs) choice) (suc k) 0 ≡ get_or xs k 0
get_or_of_step e place x xs choice k later true is = ap (λ (l : List ℕ). get_or l (suc k) 0) (step e place x xs choice true is) ∙ later choice
get_or_of_step e place x xs choice k later false is = ap (λ (l : List ℕ). get_or l (suc k) 0) (step e place x xs choice false is) ∙ later (drop 1 choice)

get_or-chosen : (e : Epoch) (place : ℕ) (xs choice : List ℕ) (k : ℕ) → k < length xs → is_settled e (place + k) ≡ true → get_or (chosen e place xs choice) k 0 ≡ get_or xs k 0
get_or-chosen e place [] choice k within settled = absurd (omega arith)
get_or-chosen e place (x ∷ xs) choice zero within settled =
    let here : place ≡ place + 0 = omega arith in
    ap (λ (l : List ℕ). get_or l 0 0) (step e place x xs choice true (ap (is_settled e) here ∙ settled))
get_or-chosen e place (x ∷ xs) choice (suc k) within settled =
    let same : place + 1 + k ≡ place + suc k = omega arith in
    get_or_of_step e place x xs choice k (λ rest. get_or-chosen e (place + 1) xs rest k (omega (arith, within)) (ap (is_settled e) same ∙ settled)) (is_settled e place) refl

-- what a choice leaves is one of the images
pub chosen-is_image : (e : Epoch) (choice : List ℕ) → IsImage e (chosen e 0 e.bytes choice)
chosen-is_image e choice =
    let long = length-chosen e 0 e.bytes choice in
    record {
      no_shorter = omega (arith, long);
      no_longer = omega (arith, long);
      stays = λ place settled. elim (cases_lt place (length e.bytes)) [
        | inl within ↦ let here : 0 + place ≡ place = omega arith in get_or-chosen e 0 e.bytes choice place within (ap (is_settled e) here ∙ settled)
        | inr past ↦ get_or_past (chosen e 0 e.bytes choice) place 0 (omega (arith, long, past)) ∙ sym (get_or_past e.bytes place 0 past)
      ];
    }
