-- Homes after transfers.
use Rattle.std.proofs.Common.{◌≡◌, ℕ, zero, suc, ◌+◌, ◌<◌, ◌≤◌, ◌⊎◌, inl, inr, Bool, true, false, List, [], ◌∷◌, length, refl, sym, ◌∙◌, ap, subst, cond, arith}
use Rattle.std.specs.Prelude.{◌==◌, nat_lt}
use Rattle.std.proofs.lemmas.Bool.{eqb-true, eqb-false, ltb-true, ltb-false}
use Rattle.unit_id.specs.Lists.{IsIn}
use Rattle.unit_id.specs.Place.{Location}
use Rattle.volume_entry.specs.Manager.{Transfer, home_at, moved_one, moved}

-- the transfer of an index
abbrev IsMoved : List Transfer → ℕ → Location → Type 0
IsMoved ts i home = (t : Transfer) × IsIn t ts × (t.index ≡ i) × (home ≡ t.dest)

-- no transfer has this index
abbrev pub IsLeft : List Transfer → ℕ → Type 0
IsLeft ts i = (t : Transfer) → IsIn t ts → t.index ≡ i → ⊥

-- the home of an index is a transfer's destination, or as it was
abbrev pub HomeCases : List Transfer → ℕ → Location → Location → Type 0
HomeCases ts i old new = ((t : Transfer) × IsIn t ts × (t.index ≡ i) × (new ≡ t.dest)) ⊎ ((new ≡ old) × IsLeft ts i)

moved_one_cases : (ts : List Transfer) (i : ℕ) (home : Location) → HomeCases ts i home (moved_one ts i home)
moved_one_cases [] i home = inr (refl, (λ t h e. h))
moved_one_cases (t ∷ ts) i home = go (t.index == i) refl (moved_one_cases ts i home) where
  go : (test : Bool) → t.index == i ≡ test → HomeCases ts i home (moved_one ts i home) → HomeCases (t ∷ ts) i home (cond test t.dest (moved_one ts i home))
  go true e rest = inl (t, inl refl, eqb-true t.index i e, refl)
  go false e (inl found) = inl (found.0, inr found.1, found.2, found.3)
  go false e (inr left) = inr (left.0, (λ u h k. elim h [ inl here ↦ eqb-false t.index i e (ap (λ (x : Transfer). x.index) (sym here) ∙ k) | inr there ↦ left.1 u there k ]))

length-moved : (i : ℕ) (ts : List Transfer) (homes : List Location) → length (moved i ts homes) ≡ length homes
length-moved i ts [] = refl
length-moved i ts (home ∷ homes) = ap suc (length-moved (suc i) ts homes)

home-moved : (k : ℕ) (ts : List Transfer) (homes : List Location) (i : ℕ) → i < length homes → home_at (moved k ts homes) i ≡ moved_one ts (k + i) (home_at homes i)
home-moved k ts [] i h = absurd (omega arith)
home-moved k ts (home ∷ homes) zero h = ap (λ n. moved_one ts n home) (omega arith)
home-moved k ts (home ∷ homes) (suc i) h =
    home-moved (suc k) ts homes i (omega arith) ∙ ap (λ n. moved_one ts n (home_at homes i)) (omega arith)

home-behind : (homes : List Location) (i : ℕ) → length homes ≤ i → home_at homes i ≡ record { epoch = 0; disk = 0 }
home-behind [] i h = refl
home-behind (home ∷ homes) zero h = absurd (omega arith)
home-behind (home ∷ homes) (suc i) h = home-behind homes i (omega arith)

pub moved_length : (ts : List Transfer) (homes : List Location) → length (moved 0 ts homes) ≡ length homes
moved_length ts homes = length-moved 0 ts homes

-- of every index, where transfers are of indexes of the volume
pub home_cases : (ts : List Transfer) (homes : List Location) → ((t : Transfer) → IsIn t ts → t.index < length homes) → (i : ℕ) → HomeCases ts i (home_at homes i) (home_at (moved 0 ts homes) i)
home_cases ts homes within i = go (nat_lt i (length homes)) refl where
  go : (test : Bool) → nat_lt i (length homes) ≡ test → HomeCases ts i (home_at homes i) (home_at (moved 0 ts homes) i)
  go true e =
      let new : home_at (moved 0 ts homes) i ≡ moved_one ts i (home_at homes i) = home-moved 0 ts homes i (ltb-true i (length homes) e) ∙ ap (λ n. moved_one ts n (home_at homes i)) (omega arith) in
      subst (HomeCases ts i (home_at homes i)) (sym new) (moved_one_cases ts i (home_at homes i))
  go false e =
      let past = ltb-false i (length homes) e in
      inr (home-behind (moved 0 ts homes) i (omega (arith, length-moved 0 ts homes)) ∙ sym (home-behind homes i past), (λ t h k. absurd (omega (arith, within t h))))
