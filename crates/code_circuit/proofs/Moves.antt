-- Steps on registers.
use Rattle.std.proofs.Common.{◌≡◌, ℕ, ◌+◌, ◌<◌, Bool, true, false, eqb, List, [], ◌∷◌, length, get_or, set, take, map, refl, sym, ap, ◌∙◌, arith}
use Rattle.std.proofs.lemmas.List.{map-set, set-set, get_or-map, get_or-set_other, get_or-set_same, length-set, length-map}
use Rattle.std.proofs.lemmas.List.Sums.{fold_more}
use Rattle.std.proofs.lemmas.Bool.{eqb-true, eqb-false}
use Rattle.gf256.specs.Field.{plus_scaled}
use Rattle.gf256.proofs.Scaled.{length-plus_scaled}
use Rattle.code_circuit.specs.declared.step.Step.{Step}
use Rattle.code_circuit.specs.Steps.{after_step, after_steps, IsAllowed, AreEven}

-- the source stands as it was while the target is taken out
pub source_kept : {V : Type 0} (f : V → List ℕ) (registers : List V) (step : Step) (empty d : V) → IsAllowed (length registers) step
    → f (get_or (set registers step.target empty) step.source d) ≡ get_or (map f registers) step.source []
source_kept f registers step empty d allowed =
    ap f (get_or-set_other registers step.target step.source empty d allowed.apart) ∙ sym (get_or-map f registers step.source d [] allowed.source_in)

pub step_taken : {V : Type 0} (f : V → List ℕ) (registers : List V) (step : Step) (empty was new : V) → IsAllowed (length registers) step
    → was ≡ get_or registers step.target was → f new ≡ plus_scaled (f was) step.factor (get_or (map f registers) step.source [])
    → map f (set (set registers step.target empty) step.target new) ≡ after_step (map f registers) step
unfolding after_step
step_taken f registers step empty was new allowed here sum =
    let target : f was ≡ get_or (map f registers) step.target [] = ap f here ∙ sym (get_or-map f registers step.target was [] allowed.target_in) in
    ap (map f) (set-set registers step.target empty new)
    ∙ map-set f registers step.target new
    ∙ ap (set (map f registers) step.target) (sum ∙ ap (λ xs. plus_scaled xs step.factor (get_or (map f registers) step.source [])) target)

pub length-after_step : (registers : List (List ℕ)) (step : Step) → length (after_step registers step) ≡ length registers
unfolding after_step
length-after_step registers step = length-set registers step.target _

pub length-after_steps : (steps : List Step) (registers : List (List ℕ)) → length (after_steps registers steps) ≡ length registers
length-after_steps [] registers = refl
length-after_steps (step ∷ steps) registers = length-after_steps steps (after_step registers step) ∙ length-after_step registers step

-- a step keeps the length of each register
pub same_length : (registers : List (List ℕ)) (step : Step) (k : ℕ) → step.target < length registers → length (get_or (after_step registers step) k []) ≡ length (get_or registers k [])
unfolding after_step
same_length registers step k inside = either (eqb k step.target) refl
  where
    new : List ℕ
    new = plus_scaled (get_or registers step.target []) step.factor (get_or registers step.source [])

    either : (b : Bool) → eqb k step.target ≡ b → length (get_or (set registers step.target new) k []) ≡ length (get_or registers k [])
    either true e =
        let same = eqb-true k step.target e in
        ap (λ j. length (get_or (set registers step.target new) j [])) same
        ∙ ap length (get_or-set_same registers step.target new [] inside)
        ∙ length-plus_scaled (get_or registers step.target []) step.factor (get_or registers step.source [])
        ∙ ap (λ j. length (get_or registers j [])) (sym same)
    either false e = ap length (get_or-set_other registers step.target k new [] (eqb-false k step.target e))

pub even_after_step : (registers : List (List ℕ)) (step : Step) → step.target < length registers → AreEven registers → AreEven (after_step registers step)
even_after_step registers step inside even j k a b =
    let long = length-after_step registers step in
    same_length registers step j inside ∙ even j k (omega (arith, long)) (omega (arith, long)) ∙ sym (same_length registers step k inside)

pub steps_more : (registers : List (List ℕ)) (steps : List Step) (k : ℕ) (d : Step) → k < length steps → after_steps registers (take (k + 1) steps) ≡ after_step (after_steps registers (take k steps)) (get_or steps k d)
steps_more registers steps k d lt = fold_more after_step registers steps k d lt

pub lengths_fit : {V : Type 0} (f : V → List ℕ) (registers : List V) (step : Step) (empty held source : V) → IsAllowed (length registers) step → AreEven (map f registers)
    → held ≡ get_or registers step.target held → source ≡ get_or (set registers step.target empty) step.source source → length (f held) ≡ length (f source)
lengths_fit f registers step empty held source allowed even here there =
    let long = length-map registers f in
    ap (λ v. length (f v)) here
    ∙ ap length (sym (get_or-map f registers step.target held [] allowed.target_in))
    ∙ even step.target step.source (omega (arith, long, allowed.target_in)) (omega (arith, long, allowed.source_in))
    ∙ ap length (sym (source_kept f registers step empty source allowed))
    ∙ sym (ap (λ v. length (f v)) there)

-- what a loop over steps keeps
pub record IsPlayedTo (old new : List (List ℕ)) (steps : List Step) (k : ℕ) : Type 0 where
  pub long : length new ≡ length old
  pub even : AreEven new
  pub done : new ≡ after_steps old (take k steps)

pub played_more : (old was new : List (List ℕ)) (steps : List Step) (k : ℕ) (d : Step) → k < length steps → (get_or steps k d).target < length old → IsPlayedTo old was steps k
    → new ≡ after_step was (get_or steps k d) → IsPlayedTo old new steps (k + 1)
played_more old was new steps k d lt target_in before e =
    let step = get_or steps k d in
    let inside : step.target < length was = omega (arith, target_in, before.long) in
    rw e (record {
      long = length-after_step was step ∙ before.long;
      even = even_after_step was step inside before.even;
      done = ap (λ xs. after_step xs step) before.done ∙ sym (steps_more old steps k d lt);
    })
