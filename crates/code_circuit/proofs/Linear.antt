-- Registers that hold the sums of their rows' factors times the sources go on doing so under steps.
use Rattle.std.proofs.Common.{◌≡◌, ◌≢◌, ℕ, zero, suc, ◌+◌, ◌<◌, Bool, true, false, eqb, List, [], ◌∷◌, length, get_or, bit_xor, refl, sym, ap, ◌∙◌, arith, All, subst}
use Rattle.std.specs.Int.Bits.{xor_zero_l, xor_zero_r}
use Rattle.std.proofs.lemmas.Bool.{eqb-true, eqb-false}
use Rattle.std.proofs.lemmas.List.{get_or-set_same, get_or-set_other}
use Rattle.gf256.specs.Field.{product, plus_scaled}
use Rattle.gf256.specs.Sums.{sum_at}
use Rattle.gf256.proofs.Products.{product_assoc, product-xor_left, product-xor_right, product-zero_left, product-zero_right, product-one_left}
use Rattle.gf256.proofs.Scaled.{get_or-plus_scaled}
use Rattle.gf256.proofs.Xor.{xor_swap}
use Rattle.code_circuit.specs.declared.step.Step.{Step}
use Rattle.code_circuit.specs.Steps.{after_step, after_steps, IsAllowed}
use Rattle.code_circuit.proofs.Moves.{length-after_step, same_length}

pub sum_plus_scaled : (a b : List ℕ) (factor : ℕ) (sources : List (List ℕ)) (place : ℕ) → length a ≡ length b
    → sum_at (plus_scaled a factor b) sources place ≡ bit_xor (sum_at a sources place) (product factor (sum_at b sources place))
unfolding sum_at
sum_plus_scaled [] [] factor sources place e = sym (xor_zero_l (product factor 0) ∙ product-zero_right factor)
sum_plus_scaled [] (s ∷ b) factor sources place e = absurd (omega arith)
sum_plus_scaled (o ∷ a) [] factor sources place e = absurd (omega arith)
sum_plus_scaled (o ∷ a) (s ∷ b) factor [] place e = sym (xor_zero_l (product factor 0) ∙ product-zero_right factor)
sum_plus_scaled (o ∷ a) (s ∷ b) factor (source ∷ sources) place e =
    let x = get_or source place 0 in
    let rest_a = sum_at a sources place in
    let rest_b = sum_at b sources place in
    ap (λ y. bit_xor y (sum_at (plus_scaled a factor b) sources place)) (product-xor_left o (product factor s) x ∙ ap (bit_xor (product o x)) (product_assoc factor s x))
    ∙ ap (bit_xor (bit_xor (product o x) (product factor (product s x)))) (sum_plus_scaled a b factor sources place (omega arith))
    ∙ xor_swap (product o x) (product factor (product s x)) rest_a (product factor rest_b)
    ∙ ap (bit_xor (bit_xor (product o x) rest_a)) (sym (product-xor_right factor (product s x) rest_b))

-- each list has the sums of its row at so many places from a place on
pub record Holds (rows lists sources : List (List ℕ)) (from size : ℕ) : Type 0 where
  pub long : length rows ≡ length lists
  pub factors : (r : ℕ) → r < length rows → length (get_or rows r []) ≡ length sources
  pub sizes : (r : ℕ) → r < length lists → length (get_or lists r []) ≡ size
  pub sums : (r k : ℕ) → r < length lists → k < size → get_or (get_or lists r []) k 0 ≡ sum_at (get_or rows r []) sources (from + k)

after_target : (lists : List (List ℕ)) (step : Step) → step.target < length lists
    → get_or (after_step lists step) step.target [] ≡ plus_scaled (get_or lists step.target []) step.factor (get_or lists step.source [])
unfolding after_step
after_target lists step inside = get_or-set_same lists step.target _ [] inside

after_other : (lists : List (List ℕ)) (step : Step) (r : ℕ) → r ≢ step.target → get_or (after_step lists step) r [] ≡ get_or lists r []
unfolding after_step
after_other lists step r other = get_or-set_other lists step.target r _ [] other

pub holds_step : (rows lists sources : List (List ℕ)) (from size : ℕ) (step : Step) → Holds rows lists sources from size → IsAllowed (length lists) step
    → Holds (after_step rows step) (after_step lists step) sources from size
holds_step rows lists sources from size step before allowed = record {
  long = rows_long ∙ before.long ∙ sym lists_long;
  factors = λ r lt. same_length rows step r row_in ∙ before.factors r (omega (arith, lt, rows_long));
  sizes = λ r lt. same_length lists step r allowed.target_in ∙ before.sizes r (omega (arith, lt, lists_long));
  sums = λ r k lt less. either r k (omega (arith, lt, lists_long)) less (eqb r step.target) refl;
}
  where
    rows_long : length (after_step rows step) ≡ length rows
    rows_long = length-after_step rows step

    lists_long : length (after_step lists step) ≡ length lists
    lists_long = length-after_step lists step

    row_in : step.target < length rows
    row_in = omega (arith, before.long, allowed.target_in)

    source_in : step.source < length rows
    source_in = omega (arith, before.long, allowed.source_in)

    here : (k : ℕ) → k < size → get_or (get_or (after_step lists step) step.target []) k 0 ≡ sum_at (get_or (after_step rows step) step.target []) sources (from + k)
    here k less =
        let t = get_or lists step.target [] in
        let s = get_or lists step.source [] in
        let t_long = before.sizes step.target allowed.target_in in
        let s_long = before.sizes step.source allowed.source_in in
        let t_row = get_or rows step.target [] in
        let s_row = get_or rows step.source [] in
        ap (λ xs. get_or xs k 0) (after_target lists step allowed.target_in)
        ∙ get_or-plus_scaled t step.factor s k (t_long ∙ sym s_long) (omega (arith, less, t_long))
        ∙ ap (λ x. bit_xor x (product step.factor (get_or s k 0))) (before.sums step.target k allowed.target_in less)
        ∙ ap (λ x. bit_xor (sum_at t_row sources (from + k)) (product step.factor x)) (before.sums step.source k allowed.source_in less)
        ∙ sym (sum_plus_scaled t_row s_row step.factor sources (from + k) (before.factors step.target row_in ∙ sym (before.factors step.source source_in)))
        ∙ sym (ap (λ row. sum_at row sources (from + k)) (after_target rows step row_in))

    either : (r k : ℕ) → r < length lists → k < size → (b : Bool) → eqb r step.target ≡ b
        → get_or (get_or (after_step lists step) r []) k 0 ≡ sum_at (get_or (after_step rows step) r []) sources (from + k)
    either r k lt less true e =
        let same = eqb-true r step.target e in
        ap (λ j. get_or (get_or (after_step lists step) j []) k 0) same ∙ here k less ∙ sym (ap (λ j. sum_at (get_or (after_step rows step) j []) sources (from + k)) same)
    either r k lt less false e =
        let other = eqb-false r step.target e in
        ap (λ xs. get_or xs k 0) (after_other lists step r other) ∙ before.sums r k lt less ∙ sym (ap (λ row. sum_at row sources (from + k)) (after_other rows step r other))

pub holds_steps : (steps : List Step) (rows lists sources : List (List ℕ)) (from size : ℕ) → Holds rows lists sources from size → All (IsAllowed (length lists)) steps
    → Holds (after_steps rows steps) (after_steps lists steps) sources from size
holds_steps [] rows lists sources from size before allowed = before
holds_steps (step ∷ steps) rows lists sources from size before allowed =
    holds_steps steps (after_step rows step) (after_step lists step) sources from size (holds_step rows lists sources from size step before (allowed 0 step (omega arith)))
    (λ k d lt. subst (λ n. IsAllowed n (get_or steps k d)) (sym (length-after_step lists step)) (allowed (suc k) d (omega arith)))

-- ---- the rows at first
sum_none : (row : List ℕ) (sources : List (List ℕ)) (place : ℕ) → ((j : ℕ) → j < length row → get_or row j 0 ≡ 0) → sum_at row sources place ≡ 0
unfolding sum_at
sum_none [] sources place none = refl
sum_none (x ∷ row) [] place none = refl
sum_none (x ∷ row) (source ∷ sources) place none =
    let nothing : x ≡ 0 = none 0 (omega arith) in
    ap (λ y. bit_xor (product y (get_or source place 0)) (sum_at row sources place)) nothing
    ∙ ap (λ y. bit_xor y (sum_at row sources place)) (product-zero_left (get_or source place 0))
    ∙ xor_zero_l (sum_at row sources place)
    ∙ sum_none row sources place (λ j lt. none (suc j) (omega arith))

pub sum_one : (row : List ℕ) (sources : List (List ℕ)) (r place : ℕ) → length row ≡ length sources → ((j : ℕ) → j < length row → j ≡ r → get_or row j 0 ≡ 1)
    → ((j : ℕ) → j < length row → j ≢ r → get_or row j 0 ≡ 0) → get_or (get_or sources r []) place 0 < 256 → sum_at row sources place ≡ get_or (get_or sources r []) place 0
unfolding sum_at
sum_one [] [] r place e one none small = refl
sum_one [] (source ∷ sources) r place e one none small = absurd (omega arith)
sum_one (x ∷ row) [] r place e one none small = absurd (omega arith)
sum_one (x ∷ row) (source ∷ sources) zero place e one none small =
    let whole : x ≡ 1 = one 0 (omega arith) refl in
    ap (λ y. bit_xor (product y (get_or source place 0)) (sum_at row sources place)) whole
    ∙ ap (λ y. bit_xor y (sum_at row sources place)) (product-one_left (get_or source place 0) small)
    ∙ ap (bit_xor (get_or source place 0)) (sum_none row sources place (λ j lt. none (suc j) (omega arith) (λ same. absurd (omega arith))))
    ∙ xor_zero_r (get_or source place 0)
sum_one (x ∷ row) (source ∷ sources) (suc r) place e one none small =
    let nothing : x ≡ 0 = none 0 (omega arith) (λ same. absurd (omega arith)) in
    ap (λ y. bit_xor (product y (get_or source place 0)) (sum_at row sources place)) nothing
    ∙ ap (λ y. bit_xor y (sum_at row sources place)) (product-zero_left (get_or source place 0))
    ∙ xor_zero_l (sum_at row sources place)
    ∙ sum_one row sources r place (omega arith) (λ j lt same. one (suc j) (omega arith) (omega arith)) (λ j lt other. none (suc j) (omega arith) (λ same. other (omega arith))) small
