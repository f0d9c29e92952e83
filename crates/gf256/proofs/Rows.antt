-- Rows of factors with their half-byte products, one factor after another.
use Rattle.std.proofs.Common.{◌≡◌, refl, ap, ◌∙◌, ℕ, zero, suc, ◌+◌, ◌<◌, ◌≤◌, List, [], ◌∷◌, ◌++◌, length, get_or, take, arith, sym}
use Rattle.std.proofs.Math.Seq.{take-suc}
use Rattle.std.proofs.lemmas.List.{map_push, take_all}
use Rattle.gf256.specs.declared.lanes.Halves.{Halves}
use Rattle.gf256.specs.Halves.{HasHalves, AreHalves, factors_of}

pub AreHalves-snoc : (factors : List ℕ) (halves : List Halves) (factor : ℕ) (h : Halves) → AreHalves factors halves → HasHalves factor h.low h.high
    → AreHalves (factors ++ factor ∷ []) (halves ++ h ∷ [])
AreHalves-snoc [] [] factor h are has = (has, tt)
AreHalves-snoc [] (g ∷ halves) factor h are has = absurd are
AreHalves-snoc (f ∷ factors) [] factor h are has = absurd are
AreHalves-snoc (f ∷ factors) (g ∷ halves) factor h are has = (are.0, AreHalves-snoc factors halves factor h are.1 has)

pub length-AreHalves : (factors : List ℕ) (halves : List Halves) → AreHalves factors halves → length halves ≡ length factors
length-AreHalves [] [] are = refl
length-AreHalves [] (g ∷ halves) are = absurd are
length-AreHalves (f ∷ factors) [] are = absurd are
length-AreHalves (f ∷ factors) (g ∷ halves) are = ap suc (length-AreHalves factors halves are.1)

-- the halves at a place are those of the factor there
pub AreHalves-at : (factors : List ℕ) (halves : List Halves) (k : ℕ) (d : Halves) → AreHalves factors halves → k < length factors
    → HasHalves (get_or factors k 0) (get_or halves k d).low (get_or halves k d).high
AreHalves-at [] halves k d are lt = absurd (omega arith)
AreHalves-at (f ∷ factors) [] k d are lt = absurd are
AreHalves-at (f ∷ factors) (g ∷ halves) zero d are lt = are.0
AreHalves-at (f ∷ factors) (g ∷ halves) (suc k) d are lt = AreHalves-at factors halves k d are.1 (omega arith)

-- one factor more, with its products
pub made_more : (factors : List ℕ) (k : ℕ) (halves new : List Halves) (h : Halves) → k < length factors → new ≡ halves ++ h ∷ []
    → factors_of halves ≡ take k factors → AreHalves (take k factors) halves → HasHalves (get_or factors k 0) h.low h.high → get_or h.low 1 0 ≡ get_or factors k 0
    → (factors_of new ≡ take (k + 1) factors) × AreHalves (take (k + 1) factors) new
made_more factors k halves new h lt e seen are has first =
    let s : k + 1 ≡ suc k = omega arith in
    let more : take (k + 1) factors ≡ take k factors ++ get_or factors k 0 ∷ [] = ap (λ m. take m factors) s ∙ take-suc factors k 0 lt in (
      ap factors_of e ∙ map_push (λ g. get_or g.low 1 0) halves h ∙ ap (λ xs. xs ++ get_or h.low 1 0 ∷ []) seen ∙ ap (λ x. take k factors ++ x ∷ []) first ∙ sym more,
      rw (more, e) (AreHalves-snoc (take k factors) halves (get_or factors k 0) h are has),
    )

-- all factors have theirs
pub made_all : (factors : List ℕ) (k : ℕ) (halves : List Halves) → length factors ≤ k → factors_of halves ≡ take k factors → AreHalves (take k factors) halves
    → (factors_of halves ≡ factors) × AreHalves (factors_of halves) halves
made_all factors k halves le seen are = (seen ∙ take_all k factors le, rw seen are)
