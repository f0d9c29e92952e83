-- What the writes of a log make of its file, whole or in part.
use Rattle.std.proofs.Common.{◌≡◌, ◌≢◌, ◌⊎◌, inl, inr, ◌<◌, ◌≤◌, ℕ, ◌+◌, List, [], ◌∷◌, ◌++◌, length, take, drop, refl, sym, ◌∙◌, ap, subst, arith, lit<, length-take-le, append_assoc, slice_index}
use Rattle.std.proofs.lemmas.Bool.{cases_eq}
use Rattle.std.proofs.lemmas.List.{take_all, take-take, drop_all, get_or_at}
use Rattle.disk_base.specs.Disk.{IsTorn, overwritten}
use Rattle.gate_log.specs.LogFile.{longest_body, mark, holds, bad_chain, chain_from, chain_of, contents_of, StandsFor, bodies_in, bodies_of, end_place, IsAtRest, IsRecord, record_behind, IsStaged, IsSameOrOpen, Walks}
use Rattle.gate_log.specs.GateLog.{EndsAt}
use Rattle.gate_log.proofs.Walk.{follow, walk_breaks, walk_end}
use Rattle.gate_log.proofs.Rest.{le_or_lt, short_file, marked_file, from_holds, walk_agrees, walk_rest, rest_behind}
use Rattle.gate_log.proofs.Append.{staged, opened, not_opened, either}
use Rattle.gate_log.proofs.Torn.{length-overwritten, whole_is_torn}

-- an append: the record behind the gate

pub rest_torn : (was c : List ℕ) (bodies : List (List ℕ)) (n : ℕ) → IsAtRest was bodies → IsTorn (end_place bodies + 1) n was c → IsAtRest c bodies
rest_torn was c bodies n r t = rest_behind was c bodies r t.front t.no_shorter

pub staged_whole : (was : List ℕ) (bodies : List (List ℕ)) (body : List ℕ) → IsAtRest was bodies → IsStaged (overwritten was (end_place bodies + 1) (record_behind body [])) bodies body
staged_whole was bodies body r =
    let at = end_place bodies + 1 in
    let bytes = record_behind body [] in
    let i = r.inside in
    let le : at ≤ length was = omega arith in
    let size = length-overwritten was at bytes le in
    staged was (overwritten was at bytes) bodies body (drop (at + length bytes) was) r (sym (append_assoc (take at was) bytes (drop (at + length bytes) was))) (omega arith)

-- an append: the gate opened

gate_size : (s c : List ℕ) (at : ℕ) → at < length s → IsTorn at 1 s c → length c ≡ length s
gate_size s c at lt t = let a = t.no_shorter in let b = t.no_longer in omega arith

pub opened_torn : (s c : List ℕ) (bodies : List (List ℕ)) (body : List ℕ) → IsStaged s bodies body → 1 ≤ length body → length body ≤ longest_body → IsTorn (end_place bodies) 1 s c → IsAtRest c bodies ⊎ IsAtRest c (bodies ++ body ∷ [])
opened_torn s c bodies body st some few t = either s c bodies body st some few t.front t.back (gate_size s c (end_place bodies) st.at_rest.inside t)

pub opened_whole : (s : List ℕ) (bodies : List (List ℕ)) (body : List ℕ) → IsStaged s bodies body → 1 ≤ length body → length body ≤ longest_body → IsAtRest (overwritten s (end_place bodies) (1 ∷ [])) (bodies ++ body ∷ [])
opened_whole s bodies body st some few =
    let at = end_place bodies in
    let i = st.at_rest.inside in
    let le : at ≤ length s = omega arith in
    let c = overwritten s at (1 ∷ []) in
    let t = whole_is_torn s at (1 ∷ []) le in
    let gate : slice_index c at ≡ 1 = get_or_at (take at s) 1 (drop (at + 1) s) 0 at (length-take-le at s le) in
    opened s c bodies body st some few t.front t.back (gate_size s c at i t) gate

-- an append: the gate with another byte than 1

pub closed_whole : (s : List ℕ) (bodies : List (List ℕ)) (body : List ℕ) (gate : ℕ) → IsStaged s bodies body → 1 ≤ length body → length body ≤ longest_body → gate ≢ 1 → IsAtRest (overwritten s (end_place bodies) (gate ∷ [])) bodies
closed_whole s bodies body gate st some few ne =
    let at = end_place bodies in
    let i = st.at_rest.inside in
    let le : at ≤ length s = omega arith in
    let c = overwritten s at (gate ∷ []) in
    let t = whole_is_torn s at (gate ∷ []) le in
    let is : slice_index c at ≡ gate = get_or_at (take at s) gate (drop (at + 1) s) 0 at (length-take-le at s le) in
    not_opened s c bodies body st some few t.front t.back (gate_size s c at i t) (λ e. ne (sym is ∙ e))

-- a start: the head of an empty log

pub head_torn : (was c : List ℕ) → length was ≤ 9 → IsTorn 0 9 was c → length c ≤ 9
head_torn was c short t = let b = t.no_longer in omega arith

pub head_whole : (was : List ℕ) → length was ≤ 9 → IsAtRest (overwritten was 0 (mark ++ 0 ∷ [])) []
head_whole was short =
    let rest : IsAtRest (mark ++ 0 ∷ []) [] = record { head = refl; stands = short_file (mark ++ 0 ∷ []) (omega arith); inside = lit< tt; closed = λ e. cc } in
    let is : mark ++ 0 ∷ [] ≡ overwritten was 0 (mark ++ 0 ∷ []) = sym (ap (λ l. (mark ++ 0 ∷ []) ++ l) (drop_all 9 was short)) in
    subst (λ f. IsAtRest f []) is rest

-- a start: the chain ends

pub chain_bodies : (file : List ℕ) → 9 < length file → take 8 file ≡ mark → bodies_in (chain_of file) ≡ bodies_of file
chain_bodies file long head = ap bodies_in (sym (marked_file file long head))

pub ends_stands : (file : List ℕ) (end : ℕ) → 9 < length file → take 8 file ≡ mark → EndsAt file end → StandsFor file (bodies_of file)
ends_stands file end long head e = marked_file file long head ∙ e.chain ∙ ap holds (chain_bodies file long head)

pub ends_place : (file : List ℕ) (end : ℕ) → 9 < length file → take 8 file ≡ mark → EndsAt file end → end ≡ end_place (bodies_of file)
ends_place file end long head e = e.end_is ∙ ap end_place (chain_bodies file long head)

pub ends_inside : (file : List ℕ) (end : ℕ) → 9 < length file → take 8 file ≡ mark → EndsAt file end → end < length file → IsAtRest file (bodies_of file)
ends_inside file end long head e inside =
    let is = ends_place file end long head e in
    record {
      head = head;
      stands = ends_stands file end long head e;
      inside = omega arith;
      closed = subst (λ p. slice_index file p ≢ 1) is e.closed;
    }

-- a start: no gate stands behind the chain, and a closed one is written

module _ (was : List ℕ) (long : 9 < length was) (head : take 8 was ≡ mark) (e : EndsAt was (length was)) where
  abbrev end : ℕ
  end = length was

  walks : Walks was 8 (bodies_of was) end
  walks =
      let says : chain_from (length was) was 8 ≡ holds (bodies_of was) = e.chain ∙ ap holds (chain_bodies was long head) in
      let f = follow (length was) was 8 (omega arith) in
      let w : Walks was 8 f.bodies (end_place f.bodies) = subst (Walks was 8 f.bodies) (walk_end was 8 f.bodies f.end f.walks) f.walks in
      let mine : Walks was 8 (bodies_of was) (end_place (bodies_of was)) = elim f.says [
        | inl s ↦ subst (λ (bs : List (List ℕ)). Walks was 8 bs (end_place bs)) (from_holds f.bodies (bodies_of was) (sym s.1 ∙ says)) w
        | inr s ↦ absurd (not_both f.end (bodies_of was) (sym s.2 ∙ says))
      ] in
      subst (Walks was 8 (bodies_of was)) (sym (ends_place was end long head e)) mine
    where
      not_both : (place : ℕ) (bs : List (List ℕ)) → bad_chain place ≡ holds bs → ⊥
      not_both place bs h = cc

  longer : (c : List ℕ) → IsTorn end 1 was c → length c ≡ end + 1 → IsAtRest c (bodies_of was) ⊎ (contents_of c ≡ bad_chain end)
  longer c t size =
      let walk : Walks c 8 (bodies_of was) end = walk_agrees end 8 (bodies_of was) end c was walks (omega arith) (omega arith) t.front in
      let mark_there : take 8 c ≡ mark = sym (take-take 8 end c (omega arith)) ∙ ap (take 8) t.front ∙ take-take 8 end was (omega arith) ∙ head in
      elim (cases_eq (slice_index c end) 1) [
        | inr shut ↦ inl (walk_rest c (bodies_of was) end mark_there walk (omega arith) shut)
        | inl is_open ↦
            let none : IsRecord c (length c) end → ⊥ = λ r. let i = r.inside in omega arith in
            inr (marked_file c (omega arith) mark_there ∙ walk_breaks (length c) c 8 (bodies_of was) end walk is_open none (omega arith))
      ]

  pub close_torn : (c : List ℕ) → IsTorn end 1 was c → IsSameOrOpen was c
  close_torn c t = record {
    same = λ gate. elim gate [ inl short ↦ absurd (omega arith) | inr before ↦ let is = ends_place was end long head e in absurd (omega arith) ];
    same_or_open = elim (le_or_lt (length c) end) [
      | inl le ↦ inl (ap contents_of (sym (take_all end c le) ∙ t.front ∙ take_all end was (omega arith)))
      | inr lt ↦
          let no_longer = t.no_longer in
          elim (longer c t (omega arith)) [
            | inl r ↦ inl (r.stands ∙ sym (ends_stands was end long head e))
            | inr broken ↦ inr broken
          ]
    ];
  }

  pub close_whole : IsAtRest (overwritten was end (0 ∷ [])) (bodies_of was)
  close_whole =
      let c = overwritten was end (0 ∷ []) in
      let t = whole_is_torn was end (0 ∷ []) (omega arith) in
      let size = length-overwritten was end (0 ∷ []) (omega arith) in
      let gate : slice_index c end ≡ 0 = get_or_at (take end was) 0 (drop (end + 1) was) 0 end (length-take-le end was (omega arith)) in
      let walk : Walks c 8 (bodies_of was) end = walk_agrees end 8 (bodies_of was) end c was walks (omega arith) (omega arith) t.front in
      let mark_there : take 8 c ≡ mark = sym (take-take 8 end c (omega arith)) ∙ ap (take 8) t.front ∙ take-take 8 end was (omega arith) ∙ head in
      walk_rest c (bodies_of was) end mark_there walk (omega arith) (λ h. omega arith)
