-- Greatest epochs and transfers of a new lock.
use Rattle.std.proofs.Common.{◌≡◌, ℕ, zero, suc, ◌+◌, ◌<◌, ◌⊎◌, inl, inr, Bool, true, false, List, [], ◌∷◌, length, refl, sym, ◌∙◌, ap, subst, cond, arith}
use Rattle.std.specs.Prelude.{◌==◌}
use Rattle.std.proofs.lemmas.Bool.{eqb-true, eqb-false}
use Rattle.unit_id.specs.Lists.{IsIn}
use Rattle.unit_id.specs.Place.{Location}
use Rattle.volume_entry.specs.Manager.{Transfer, Grant, home_at, greatest_at, raised_one, raised, transfers_to, AreInOrder}

-- the greatest epoch of an index is a grant's, or as it was
abbrev pub EpochCases : List Grant → ℕ → ℕ → ℕ → Type 0
EpochCases ts i old new = ((t : Grant) × IsIn t ts × (t.index ≡ i) × (new ≡ t.dest.epoch)) ⊎ ((new ≡ old) × ((t : Grant) → IsIn t ts → t.index ≡ i → ⊥))

raised_one_cases : (ts : List Grant) (i epoch : ℕ) → EpochCases ts i epoch (raised_one ts i epoch)
raised_one_cases [] i epoch = inr (refl, (λ t h e. h))
raised_one_cases (t ∷ ts) i epoch = go (t.index == i) refl (raised_one_cases ts i epoch) where
  go : (test : Bool) → t.index == i ≡ test → EpochCases ts i epoch (raised_one ts i epoch) → EpochCases (t ∷ ts) i epoch (cond test t.dest.epoch (raised_one ts i epoch))
  go true e rest = inl (t, inl refl, eqb-true t.index i e, refl)
  go false e (inl found) = inl (found.0, inr found.1, found.2, found.3)
  go false e (inr left) = inr (left.0, (λ u h k. elim h [ inl here ↦ eqb-false t.index i e (ap (λ (x : Grant). x.index) (sym here) ∙ k) | inr there ↦ left.1 u there k ]))

length-raised : (i : ℕ) (ts : List Grant) (epochs : List ℕ) → length (raised i ts epochs) ≡ length epochs
length-raised i ts [] = refl
length-raised i ts (epoch ∷ epochs) = ap suc (length-raised (suc i) ts epochs)

epoch-raised : (k : ℕ) (ts : List Grant) (epochs : List ℕ) (i : ℕ) → i < length epochs → greatest_at (raised k ts epochs) i ≡ raised_one ts (k + i) (greatest_at epochs i)
epoch-raised k ts [] i h = absurd (omega arith)
epoch-raised k ts (epoch ∷ epochs) zero h = ap (λ n. raised_one ts n epoch) (omega arith)
epoch-raised k ts (epoch ∷ epochs) (suc i) h = epoch-raised (suc k) ts epochs i (omega arith) ∙ ap (λ n. raised_one ts n (greatest_at epochs i)) (omega arith)

pub raised_length : (ts : List Grant) (epochs : List ℕ) → length (raised 0 ts epochs) ≡ length epochs
raised_length ts epochs = length-raised 0 ts epochs

pub epoch_cases : (ts : List Grant) (epochs : List ℕ) (i : ℕ) → i < length epochs → EpochCases ts i (greatest_at epochs i) (greatest_at (raised 0 ts epochs) i)
epoch_cases ts epochs i h =
    let new : greatest_at (raised 0 ts epochs) i ≡ raised_one ts i (greatest_at epochs i) = epoch-raised 0 ts epochs i h ∙ ap (λ n. raised_one ts n (greatest_at epochs i)) (omega arith) in
    subst (EpochCases ts i (greatest_at epochs i)) (sym new) (raised_one_cases ts i (greatest_at epochs i))

-- a new lock's transfer is a grant's
pub transfer_gives : (ts : List Grant) (homes : List Location) (t : Transfer) → IsIn t (transfers_to ts homes)
    → (u : Grant) × IsIn u ts × (t ≡ record { index = u.index; old = home_at homes u.index; dest = u.dest })
transfer_gives [] homes t h = absurd h
transfer_gives (u ∷ us) homes t (inl e) = (u, inl refl, e)
transfer_gives (u ∷ us) homes t (inr h) = let r = transfer_gives us homes t h in (r.0, inr r.1, r.2)

-- grants in order are of different indexes
pub one_grant : (ts : List Grant) → AreInOrder ts → (t u : Grant) → IsIn t ts → IsIn u ts → t.index ≡ u.index → t ≡ u
one_grant [] o t u h k e = absurd h
one_grant (w ∷ ws) o t u (inl a) (inl b) e = a ∙ sym b
one_grant (w ∷ ws) o t u (inl a) (inr b) e = let l = o.0 u b in let f = ap (λ (x : Grant). x.index) a in absurd (omega (arith, l, f, e))
one_grant (w ∷ ws) o t u (inr a) (inl b) e = let l = o.0 t a in let f = ap (λ (x : Grant). x.index) b in absurd (omega (arith, l, f, e))
one_grant (w ∷ ws) o t u (inr a) (inr b) e = one_grant ws o.1 t u a b e
