-- A record behind a closed gate, and the gate opened.
use Rattle.std.proofs.Common.{◌≡◌, ◌≢◌, ◌⊎◌, inl, inr, ◌≤◌, ℕ, ◌+◌, ◌-◌, List, [], ◌∷◌, ◌++◌, length, take, drop, get_or, refl, sym, ◌∙◌, ap, subst, arith, length-drop, length-append, length-take-le, append_assoc, slice_index, slice_range}
use Rattle.std.specs.Int.{w32, from_be_bytes, to_be_bytes}
use Rattle.std.proofs.lemmas.Bool.{cases_eq}
use Rattle.std.proofs.lemmas.List.{take-take, get_or-drop, get_or_at, take_at, drop_at, drop-drop}
use Rattle.std.proofs.lemmas.List.Sums.{sum_by_push}
use Rattle.std.proofs.lemmas.Nat.{from_be_bytes-to_be_bytes_4}
use Rattle.gate_log.specs.LogFile.{longest_body, mark, length_at, next_place, body_at, record_length, end_place, IsAtRest, IsRecord, record_behind, IsStaged, Walks}
use Rattle.gate_log.proofs.Walk.{walk_push}
use Rattle.gate_log.proofs.Rest.{rest_walk, walk_rest, walk_agrees, rest_behind}

-- what is written there stages the record
pub staged : (file c : List ℕ) (bodies : List (List ℕ)) (body tail : List ℕ) → IsAtRest file bodies → c ≡ take (end_place bodies + 1) file ++ record_behind body [] ++ tail → length file ≤ length c → IsStaged c bodies body
staged file c bodies body tail r is long =
    let at = end_place bodies + 1 in
    let i = r.inside in
    let front : length (take at file) ≡ at = length-take-le at file (omega arith) in
    let split : c ≡ take at file ++ (record_behind body [] ++ tail) = is ∙ append_assoc (take at file) (record_behind body []) tail in
    let same : take at c ≡ take at file = ap (take at) split ∙ take_at (take at file) (record_behind body [] ++ tail) at front in
    let back : drop at c ≡ record_behind body [] ++ tail = ap (drop at) split ∙ drop_at (take at file) (record_behind body [] ++ tail) at front in
    let joined : record_behind body [] ++ tail ≡ record_behind body tail =
    append_assoc (to_be_bytes w32 (length body)) (body ++ 0 ∷ []) tail ∙ ap (λ l. to_be_bytes w32 (length body) ++ l) (append_assoc body (0 ∷ []) tail) in
    record { at_rest = rest_behind file c bodies r same long; rest = tail; behind = back ∙ joined }

module _ (file c : List ℕ) (bodies : List (List ℕ)) (body : List ℕ)
    (s : IsStaged file bodies body) (some : 1 ≤ length body) (few : length body ≤ longest_body)
    (before : take (end_place bodies) c ≡ take (end_place bodies) file) (after : drop (end_place bodies + 1) c ≡ drop (end_place bodies + 1) file) (size : length c ≡ length file) where
  abbrev end : ℕ
  end = end_place bodies

  abbrev count : ℕ
  count = length body

  behind : drop (end + 1) c ≡ record_behind body s.rest
  behind = after ∙ s.behind

  number : length (to_be_bytes w32 count) ≡ 4
  number = refl

  long : length c ≡ end + 6 + count + length s.rest
  long =
      let l = length-drop (end + 1) c in
      let r : length (drop (end + 1) c) ≡ length (record_behind body s.rest) = ap length behind in
      let p = length-append (to_be_bytes w32 count) (body ++ 0 ∷ s.rest) in
      let q = length-append body (0 ∷ s.rest) in
      let i = s.at_rest.inside in
      omega arith

  length_there : length_at c end ≡ count
  unfolding length_at
  length_there =
      let d : slice_range c (end + 1) (end + 5) ≡ take 4 (drop (end + 1) c) = let e : (end + 5) - (end + 1) ≡ 4 = omega arith in ap (λ k. take k (drop (end + 1) c)) e in
      ap (from_be_bytes w32) (d ∙ ap (take 4) behind ∙ take_at (to_be_bytes w32 count) (body ++ 0 ∷ s.rest) 4 number)
      ∙ from_be_bytes-to_be_bytes_4 count (omega arith)

  past_number : drop (end + 5) c ≡ body ++ 0 ∷ s.rest
  past_number =
      let e : end + 1 + 4 ≡ end + 5 = omega arith in
      let d : drop 4 (drop (end + 1) c) ≡ drop (end + 5) c = drop-drop 4 (end + 1) c ∙ ap (λ k. drop k c) e in
      sym d ∙ ap (drop 4) behind ∙ drop_at (to_be_bytes w32 count) (body ++ 0 ∷ s.rest) 4 number

  body_there : body_at c end ≡ body
  body_there =
      let e : next_place c end - (end + 5) ≡ count = let l = length_there in omega arith in
      ap (λ k. take k (drop (end + 5) c)) e ∙ ap (take count) past_number ∙ take_at body (0 ∷ s.rest) count refl

  -- nothing but the gate has changed, and it is open
  pub opened : slice_index c end ≡ 1 → IsAtRest c (bodies ++ body ∷ [])
  opened is_open =
      let l = length_there in
      let n = long in
      let i = s.at_rest.inside in
      let whole : IsRecord c (length c) end = record { open_gate = is_open; not_empty = omega arith; not_long = omega arith; inside = omega arith } in
      let walk : Walks c 8 bodies end = walk_agrees end 8 bodies end c file (rest_walk file bodies s.at_rest) (omega arith) (omega arith) before in
      let more : Walks c 8 (bodies ++ body ∷ []) (next_place c end) = subst (λ b. Walks c 8 (bodies ++ b ∷ []) (next_place c end)) body_there (walk_push c 8 bodies end walk whole) in
      let head : take 8 c ≡ mark = sym (take-take 8 end c (omega arith)) ∙ ap (take 8) before ∙ take-take 8 end file (omega arith) ∙ s.at_rest.head in
      let gate : slice_index c (next_place c end) ≡ 0 =
      let e : end + 5 + count ≡ next_place c end = omega arith in
      subst (λ p. slice_index c p ≡ 0) e (sym (get_or-drop (end + 5) c count 0) ∙ ap (λ t. get_or t count 0) past_number ∙ get_or_at body 0 s.rest 0 count refl) in
      walk_rest c (bodies ++ body ∷ []) (next_place c end) head more (omega arith) (λ e. omega arith)

  -- and it isn't
  pub not_opened : slice_index c end ≢ 1 → IsAtRest c bodies
  not_opened shut =
      let i = s.at_rest.inside in
      let walk : Walks c 8 bodies end = walk_agrees end 8 bodies end c file (rest_walk file bodies s.at_rest) (omega arith) (omega arith) before in
      let head : take 8 c ≡ mark = sym (take-take 8 end c (omega arith)) ∙ ap (take 8) before ∙ take-take 8 end file (omega arith) ∙ s.at_rest.head in
      walk_rest c bodies end head walk (omega arith) shut

  pub either : IsAtRest c bodies ⊎ IsAtRest c (bodies ++ body ∷ [])
  either = elim (cases_eq (slice_index c end) 1) [ inl is_open ↦ inr (opened is_open) | inr shut ↦ inl (not_opened shut) ]

  pub end_after : end_place (bodies ++ body ∷ []) ≡ end + 5 + count
  end_after = omega (arith, sum_by_push record_length bodies body)
