-- What a read at the place of a body finds.
use Rattle.std.proofs.Common.{◌≡◌, ◌≤◌, ℕ, List, [], ◌∷◌, ◌++◌, length, refl, sym, ◌∙◌, ap, subst, arith, Option, None, Some, Result, Ok, Err}
use Rattle.std.proofs.lemmas.List.Sums.{sum_by_push}
use Rattle.gate_log.specs.declared.fault.LogFault.{LogFault}
use Rattle.gate_log.specs.declared.fault.LogFault.TheVariants.{Fault, BadHead, BadChain, Shut, BadLength, Full, Memory}
use Rattle.gate_log.specs.LogFile.{length_at, next_place, body_at, bodies_of, record_length, end_place, IsAtRest, IsRecord, Walks}
use Rattle.gate_log.specs.GateLog.{ReadAnswers, PlaceAnswers, FindsBody}
use Rattle.gate_log.proofs.Fetch.{at_some}
use Rattle.gate_log.proofs.Walk.{length-body_at, walk_at}
use Rattle.gate_log.proofs.Rest.{rest_walk}

module _ (file : List ℕ) (end place : ℕ) (r : IsAtRest file (bodies_of file)) (end_is : end ≡ end_place (bodies_of file))
    (before : List (List ℕ)) (body : List ℕ) (after : List (List ℕ)) (is : bodies_of file ≡ before ++ body ∷ after) (place_is : place ≡ end_place before) where
  there : IsRecord file end place × (body ≡ body_at file place)
  there =
      let w : Walks file 8 (bodies_of file) end = subst (Walks file 8 (bodies_of file)) (sym end_is) (rest_walk file (bodies_of file) r) in
      let split : Walks file 8 (before ++ body ∷ after) end = subst (λ (bs : List (List ℕ)). Walks file 8 bs end) is w in
      subst (λ p. IsRecord file end p × (body ≡ body_at file p)) (sym place_is) (walk_at file 8 before body after end split)

  next_is : next_place file place ≡ end_place (before ++ body ∷ [])
  next_is =
      let i = there.0.inside in
      let e = r.inside in
      let in_file : next_place file place ≤ length file = omega arith in
      let l : length body ≡ length_at file place = ap length there.1 ∙ length-body_at file place in_file in
      omega (arith, sum_by_push record_length before body)

  body_length : length (body_at file place) ≡ length_at file place
  body_length =
      let i = there.0.inside in
      let e = r.inside in
      length-body_at file place (omega arith)

  not_none : (e : ℕ) → Some e ≡ None → ⊥
  not_none e h = cc

  pub in_order : (result : Result (List ℕ × ℕ) LogFault) → ReadAnswers (Some file) (Some end) place result → FindsBody body (end_place (before ++ body ∷ [])) result
  in_order (Ok found) a = (a.1.1.1 ∙ sym there.1, let n = a.0.next_is in let l = ap length a.1.1.1 in let r = next_is in omega (arith, n, l, r, body_length))
  in_order (Err Fault) a = tt
  in_order (Err Memory) a = tt
  in_order (Err (BadChain at)) a = absurd (a.1 there.0)
  in_order (Err Shut) a = absurd (not_none end a)
  in_order (Err BadHead) a = absurd a
  in_order (Err (BadLength n)) a = absurd a
  in_order (Err (Full n)) a = absurd a

-- inside a file that is long enough
pub answers_in : (content : Option (List ℕ)) (file : List ℕ) (end place : ℕ) (result : Result (List ℕ × ℕ) LogFault) → content ≡ Some file → end ≤ length file → PlaceAnswers content end place result → ReadAnswers (Some file) (Some end) place result
answers_in content file end place (Ok found) told le a = (a.0, (a.1, at_some content file (λ f. end ≤ length f → IsRecord f end place × (found.0 ≡ body_at f place)) told a.2 le))
answers_in content file end place (Err Fault) told le a = refl
answers_in content file end place (Err Memory) told le a = refl
answers_in content file end place (Err (BadChain at)) told le a = (a.0, at_some content file (λ f. end ≤ length f → IsRecord f end place → ⊥) told a.1 le)
answers_in content file end place (Err Shut) told le a = absurd a
answers_in content file end place (Err BadHead) told le a = absurd a
answers_in content file end place (Err (BadLength n)) told le a = absurd a
answers_in content file end place (Err (Full n)) told le a = absurd a
