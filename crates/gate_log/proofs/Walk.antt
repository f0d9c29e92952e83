-- A chain followed from a place to where it ends.
use Rattle.std.proofs.Common.{◌≡◌, ◌≢◌, ◌⊎◌, inl, inr, ◌≤◌, ℕ, suc, zero, ◌+◌, ◌-◌, Bool, true, false, nat_le, List, [], ◌∷◌, ◌++◌, length, drop, refl, sym, ◌∙◌, ap, subst, arith, length-take, length-drop, slice_index}
use Rattle.std.specs.Prelude.{sum_by}
use Rattle.std.proofs.lemmas.Bool.{cases_eq}
use Rattle.std.proofs.lemmas.Bool.Decides.{nat_tests}
use Rattle.std.proofs.lemmas.List.Sums.{sum_by-cons}
use Rattle.std.proofs.lemmas.List.{get_or_past}
use Rattle.gate_log.specs.LogFile.{longest_body, holds, bad_chain, is_open, length_at, next_place, body_at, preceded_by, chain_from, record_length, IsRecord, Walks}
use Rattle.gate_log.proofs.Chain.{at_record, at_closed, at_broken}

pub record_or_none : (bytes : List ℕ) (end place : ℕ) → slice_index bytes place ≡ 1 → IsRecord bytes end place ⊎ (IsRecord bytes end place → ⊥)
record_or_none bytes end place e = go (nat_le 1 (length_at bytes place)) (nat_le (length_at bytes place) longest_body) (nat_le (next_place bytes place) end) refl refl refl
  where
    go : (x y z : Bool) → nat_le 1 (length_at bytes place) ≡ x → nat_le (length_at bytes place) longest_body ≡ y → nat_le (next_place bytes place) end ≡ z → IsRecord bytes end place ⊎ (IsRecord bytes end place → ⊥)
    go true true true p q r = inl (record { open_gate = e; not_empty = grind (arith, nat_tests); not_long = grind (arith, nat_tests); inside = grind (arith, nat_tests) })
    go true true false p q r = inr (λ w. let i : next_place bytes place ≤ end = w.inside in grind (arith, nat_tests))
    go true false z p q r = inr (λ w. let i : length_at bytes place ≤ longest_body = w.not_long in grind (arith, nat_tests))
    go false y z p q r = inr (λ w. let i : 1 ≤ length_at bytes place = w.not_empty in grind (arith, nat_tests))

pub closed_past : (bytes : List ℕ) (place : ℕ) → length bytes ≤ place → slice_index bytes place ≢ 1
closed_past bytes place past e = let z : slice_index bytes place ≡ 0 = get_or_past bytes place 0 past in omega arith

pub length-body_at : (bytes : List ℕ) (place : ℕ) → next_place bytes place ≤ length bytes → length (body_at bytes place) ≡ length_at bytes place
length-body_at bytes place in_file =
    let t = length-take (next_place bytes place - (place + 5)) (drop (place + 5) bytes) in
    let d = length-drop (place + 5) bytes in
    omega arith

-- a chain ends at a gate that isn't open, or at an open one with no whole record
pub record Follows (records : ℕ) (bytes : List ℕ) (place : ℕ) : Type 0 where
  pub bodies : List (List ℕ)
  pub end : ℕ
  pub walks : Walks bytes place bodies end
  pub says : ((slice_index bytes end ≢ 1) × (chain_from records bytes place ≡ holds bodies)) ⊎ ((slice_index bytes end ≡ 1) × (IsRecord bytes (length bytes) end → ⊥) × (chain_from records bytes place ≡ bad_chain end))

pub follow : (records : ℕ) (bytes : List ℕ) (place : ℕ) → length bytes ≤ records + place → Follows records bytes place
follow zero bytes place long = record { bodies = []; end = place; walks = refl; says = inl (closed_past bytes place (omega arith), at_closed zero bytes place (closed_past bytes place (omega arith))) }
follow (suc records) bytes place long = elim (cases_eq (slice_index bytes place) 1) [
  | inr shut ↦ record { bodies = []; end = place; walks = refl; says = inl (shut, at_closed (suc records) bytes place shut) }
  | inl is_open ↦ elim (record_or_none bytes (length bytes) place is_open) [
    | inr none ↦ record { bodies = []; end = place; walks = refl; says = inr (is_open, none, at_broken records bytes place is_open none) }
    | inl whole ↦
        let rest = follow records bytes (next_place bytes place) (omega arith) in
        record {
          bodies = body_at bytes place ∷ rest.bodies;
          end = rest.end;
          walks = (whole, refl, rest.walks);
          says = elim rest.says [
            | inl w ↦ inl (w.0, at_record records bytes place whole ∙ ap (preceded_by (body_at bytes place)) w.1)
            | inr w ↦ inr (w.0, w.1, at_record records bytes place whole ∙ ap (preceded_by (body_at bytes place)) w.2)
          ];
        }
  ]
]

-- where a walk goes on to a closed gate, the chain says these bodies
pub walk_says : (records : ℕ) (bytes : List ℕ) (place : ℕ) (bodies : List (List ℕ)) (end : ℕ) → Walks bytes place bodies end → slice_index bytes end ≢ 1 → length bytes ≤ records + place → chain_from records bytes place ≡ holds bodies
walk_says records bytes place [] end walks shut long = at_closed records bytes place (λ e. shut (subst (λ p. slice_index bytes p ≡ 1) walks e))
walk_says zero bytes place (body ∷ bodies) end walks shut long = let i : next_place bytes place ≤ length bytes = walks.0.inside in absurd (omega arith)
walk_says (suc records) bytes place (body ∷ bodies) end walks shut long =
    at_record records bytes place walks.0
    ∙ ap (preceded_by (body_at bytes place)) (walk_says records bytes (next_place bytes place) bodies end walks.2 shut (omega arith))
    ∙ ap (λ b. holds (b ∷ bodies)) (sym walks.1)

-- and where it goes on to an open gate with no whole record, it is bad there
pub walk_breaks : (records : ℕ) (bytes : List ℕ) (place : ℕ) (bodies : List (List ℕ)) (end : ℕ) → Walks bytes place bodies end → slice_index bytes end ≡ 1 → (IsRecord bytes (length bytes) end → ⊥) → length bytes ≤ records + place → chain_from records bytes place ≡ bad_chain end
walk_breaks zero bytes place [] end walks is_open none long = absurd (closed_past bytes end (omega arith) is_open)
walk_breaks (suc records) bytes place [] end walks is_open none long =
    subst (λ p. chain_from (suc records) bytes p ≡ bad_chain end) (sym walks) (at_broken records bytes end is_open none)
walk_breaks zero bytes place (body ∷ bodies) end walks is_open none long = let i : next_place bytes place ≤ length bytes = walks.0.inside in absurd (omega arith)
walk_breaks (suc records) bytes place (body ∷ bodies) end walks is_open none long =
    at_record records bytes place walks.0
    ∙ ap (preceded_by (body_at bytes place)) (walk_breaks records bytes (next_place bytes place) bodies end walks.2 is_open none (omega arith))

pub walk_end : (bytes : List ℕ) (place : ℕ) (bodies : List (List ℕ)) (end : ℕ) → Walks bytes place bodies end → end ≡ place + sum_by record_length bodies
walk_end bytes place [] end walks = omega arith
walk_end bytes place (body ∷ bodies) end walks =
    let i : next_place bytes place ≤ length bytes = walks.0.inside in
    let l = length-body_at bytes place i in
    let b : length body ≡ length_at bytes place = ap length walks.1 ∙ l in
    let rest = walk_end bytes (next_place bytes place) bodies end walks.2 in
    omega (arith, sum_by-cons record_length body bodies)

pub walk_push : (bytes : List ℕ) (place : ℕ) (bodies : List (List ℕ)) (end : ℕ) → Walks bytes place bodies end → IsRecord bytes (length bytes) end → Walks bytes place (bodies ++ body_at bytes end ∷ []) (next_place bytes end)
walk_push bytes place [] end walks whole =
    let here : IsRecord bytes (length bytes) place = subst (IsRecord bytes (length bytes)) (sym walks) whole in
    (here, ap (body_at bytes) (sym walks), ap (next_place bytes) walks)
walk_push bytes place (body ∷ bodies) end walks whole = (walks.0, walks.1, walk_push bytes (next_place bytes place) bodies end walks.2 whole)

-- what stands in the middle of a walk
pub walk_at : (bytes : List ℕ) (place : ℕ) (before : List (List ℕ)) (body : List ℕ) (after : List (List ℕ)) (end : ℕ) → Walks bytes place (before ++ body ∷ after) end
    → IsRecord bytes end (place + sum_by record_length before) × (body ≡ body_at bytes (place + sum_by record_length before))
walk_at bytes place [] body after end walks =
    let is : place ≡ place + 0 = omega arith in
    let rest = walk_end bytes (next_place bytes place) after end walks.2 in
    let here : IsRecord bytes end place = record { open_gate = walks.0.open_gate; not_empty = walks.0.not_empty; not_long = walks.0.not_long; inside = omega arith } in
    subst (λ p. IsRecord bytes end p × (body ≡ body_at bytes p)) is (here, walks.1)
walk_at bytes place (first ∷ before) body after end walks =
    let i : next_place bytes place ≤ length bytes = walks.0.inside in
    let l : length first ≡ length_at bytes place = ap length walks.1 ∙ length-body_at bytes place i in
    let is : next_place bytes place + sum_by record_length before ≡ place + sum_by record_length (first ∷ before) = omega (arith, sum_by-cons record_length first before) in
    subst (λ p. IsRecord bytes end p × (body ≡ body_at bytes p)) is (walk_at bytes (next_place bytes place) before body after end walks.2)

-- the chain of a file goes over some bodies to this place
pub record WalkTo (bytes : List ℕ) (place : ℕ) : Type 0 where
  pub bodies : List (List ℕ)
  pub walks : Walks bytes 8 bodies place
