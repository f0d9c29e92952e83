-- An append as a whole, by how far it came.
use Rattle.std.proofs.Common.{◌≡◌, inl, inr, ◌≤◌, ℕ, ◌+◌, List, [], ◌∷◌, ◌++◌, length, sym, ◌∙◌, ap, subst, arith}
use Rattle.disk_base.specs.Disk.{Images, IsTorn, LeavesExactly, overwritten}
use Rattle.gate_log.specs.LogFile.{longest_body, bodies_of, record_length, end_place, IsAtRest, IsBeforeOrAfter, IsStaged, record_behind}
use Rattle.gate_log.specs.GateLog.{IsStarted}
use Rattle.gate_log.specs.LogLaws.{rest_log}
use Rattle.std.proofs.lemmas.List.Sums.{sum_by_push}
use Rattle.gate_log.proofs.Steps.{rest_torn, staged_whole, opened_torn, opened_whole}

before : (c : List ℕ) (bodies : List (List ℕ)) (body : List ℕ) → IsAtRest c bodies → IsBeforeOrAfter bodies body c
before c bodies body r = inl (rest_log c bodies r)

after : (c : List ℕ) (bodies : List (List ℕ)) (body : List ℕ) → IsAtRest c (bodies ++ body ∷ []) → IsBeforeOrAfter bodies body c
after c bodies body r = inr (rest_log c (bodies ++ body ∷ []) r)

module _ (was body : List ℕ) (place : ℕ) (images : Images) (r : IsStarted images place (bodies_of was) was) (some : 1 ≤ length body) (few : length body ≤ longest_body) where
  abbrev bodies : List (List ℕ)
  bodies = bodies_of was

  -- the file with the record behind the gate
  abbrev pub staged_file : List ℕ
  staged_file = overwritten was (place + 1) (record_behind body [])

  pub untouched : IsBeforeOrAfter bodies body was
  untouched = before was bodies body r.at_rest

  pub first_torn : (n : ℕ) (c : List ℕ) → IsTorn (place + 1) n was c → IsBeforeOrAfter bodies body c
  first_torn n c t = before c bodies body (rest_torn was c bodies n r.at_rest (subst (λ p. IsTorn (p + 1) n was c) r.end_is t))

  staged_there : IsStaged (overwritten was (end_place bodies + 1) (record_behind body [])) bodies body
  staged_there = staged_whole was bodies body r.at_rest

  file_is : staged_file ≡ overwritten was (end_place bodies + 1) (record_behind body [])
  file_is = ap (λ p. overwritten was (p + 1) (record_behind body [])) r.end_is

  pub staged_is : IsStaged staged_file bodies body
  staged_is = subst (λ f. IsStaged f bodies body) (sym file_is) staged_there

  pub place_inside : place ≤ length staged_file
  place_inside = let i = staged_is.at_rest.inside in let e = r.end_is in omega arith

  pub second_torn : (c : List ℕ) → IsTorn place 1 staged_file c → IsBeforeOrAfter bodies body c
  second_torn c t = elim (opened_torn staged_file c bodies body staged_is some few (subst (λ p. IsTorn p 1 staged_file c) r.end_is t)) [
    | inl rest ↦ before c bodies body rest
    | inr rest ↦ after c bodies body rest
  ]

  pub second_whole : (now : Images) → LeavesExactly (overwritten staged_file place (1 ∷ [])) now → IsStarted now (place + 5 + length body) (bodies ++ body ∷ []) (overwritten staged_file place (1 ∷ []))
  second_whole now exactly =
      let rest : IsAtRest (overwritten staged_file place (1 ∷ [])) (bodies ++ body ∷ []) =
      subst (λ p. IsAtRest (overwritten staged_file p (1 ∷ [])) (bodies ++ body ∷ [])) (sym r.end_is) (opened_whole staged_file bodies body staged_is some few) in
      record { at_rest = rest; end_is = ap (λ p. p + 5 + length body) r.end_is ∙ sym (pushed bodies body); exactly = exactly }
    where
      pushed : (bs : List (List ℕ)) (b : List ℕ) → end_place (bs ++ b ∷ []) ≡ end_place bs + 5 + length b
      pushed bs b = omega (arith, sum_by_push record_length bs b)
