-- Lists that are gone through from the front, and written place by place.
use Rattle.std.proofs.Common.{◌≡◌, ◌∙◌, sym, ap, refl, ℕ, zero, suc, ◌+◌, ◌<◌, ◌≤◌, true, false, cond, ◌==◌, List, [], ◌∷◌, ◌++◌, length, take, drop, get_or, set, arith}
use Rattle.std.proofs.lemmas.Bool.Decides.{nat_tests}
use Rattle.std.proofs.lemmas.List.{at_drop_more, take_more}
use Rattle.unit_id.specs.Place.{Location}
use Rattle.volume_entry.specs.Manager.{Grant, Transfer, home_at, raised_one, raised, moved_one, moved, transfers_to, redirected}

same_is : (a b : ℕ) → a ≡ b → (a == b) ≡ true
same_is a b h = grind (arith, nat_tests)

different_is : (a b : ℕ) → (a ≡ b → ⊥) → (a == b) ≡ false
different_is a b h = grind (arith, nat_tests)

module _ (ts : List Grant) (k : ℕ) (x : Grant) (index epoch : ℕ) where
  raised_one-at : k < length ts → x ≡ get_or ts k x → raised_one (drop k ts) index epoch ≡ cond (x.index == index) x.dest.epoch (raised_one (drop (k + 1) ts) index epoch)
  raised_one-at h e =
      at_drop_more (λ (us : List Grant). raised_one us index epoch) ts k x h
      ∙ ap (λ (u : Grant). cond (u.index == index) u.dest.epoch (raised_one (drop (k + 1) ts) index epoch)) (sym e)

  pub raised_one-hit : k < length ts → x ≡ get_or ts k x → x.index ≡ index → raised_one (drop k ts) index epoch ≡ x.dest.epoch
  raised_one-hit h e i = raised_one-at h e ∙ ap (λ b. cond b x.dest.epoch (raised_one (drop (k + 1) ts) index epoch)) (same_is x.index index i)

  pub raised_one-skip : k < length ts → x ≡ get_or ts k x → (x.index ≡ index → ⊥) → raised_one (drop k ts) index epoch ≡ raised_one (drop (k + 1) ts) index epoch
  raised_one-skip h e i = raised_one-at h e ∙ ap (λ b. cond b x.dest.epoch (raised_one (drop (k + 1) ts) index epoch)) (different_is x.index index i)

module _ (ts : List Transfer) (k : ℕ) (x : Transfer) (index : ℕ) (home : Location) where
  moved_one-at : k < length ts → x ≡ get_or ts k x → moved_one (drop k ts) index home ≡ cond (x.index == index) x.dest (moved_one (drop (k + 1) ts) index home)
  moved_one-at h e =
      at_drop_more (λ (us : List Transfer). moved_one us index home) ts k x h
      ∙ ap (λ (u : Transfer). cond (u.index == index) u.dest (moved_one (drop (k + 1) ts) index home)) (sym e)

  pub moved_one-hit : k < length ts → x ≡ get_or ts k x → x.index ≡ index → moved_one (drop k ts) index home ≡ x.dest
  moved_one-hit h e i = moved_one-at h e ∙ ap (λ b. cond b x.dest (moved_one (drop (k + 1) ts) index home)) (same_is x.index index i)

  pub moved_one-skip : k < length ts → x ≡ get_or ts k x → (x.index ≡ index → ⊥) → moved_one (drop k ts) index home ≡ moved_one (drop (k + 1) ts) index home
  moved_one-skip h e i = moved_one-at h e ∙ ap (λ b. cond b x.dest (moved_one (drop (k + 1) ts) index home)) (different_is x.index index i)

module _ {A : Type 0} (f : ℕ → A → A) where
  -- the list with its first k items changed
  abbrev pub done_to : ℕ → ℕ → List A → List A
  done_to zero i xs = xs
  done_to (suc k) i [] = []
  done_to (suc k) i (x ∷ xs) = f i x ∷ done_to k (suc i) xs

  pub done_more : (k i : ℕ) (xs : List A) (d : A) → k < length xs → set (done_to k i xs) k (f (i + k) (get_or (done_to k i xs) k d)) ≡ done_to (k + 1) i xs
  done_more k i [] d h = absurd (omega arith)
  done_more zero i (x ∷ xs) d h = let e : i + 0 ≡ i = omega arith in rw e refl
  done_more (suc k) i (x ∷ xs) d h =
      let e : suc k + 1 ≡ suc (k + 1) = omega arith in
      let g : i + suc k ≡ suc i + k = omega arith in
      rw (e, g) (ap (λ ys. f i x ∷ ys) (done_more k (suc i) xs d (omega arith)))

-- all are changed
pub done-raised : (ts : List Grant) (i : ℕ) (epochs : List ℕ) → done_to (raised_one ts) (length epochs) i epochs ≡ raised i ts epochs
done-raised ts i [] = refl
done-raised ts i (epoch ∷ epochs) = ap (λ es. raised_one ts i epoch ∷ es) (done-raised ts (suc i) epochs)

pub done-moved : (ts : List Transfer) (i : ℕ) (homes : List Location) → done_to (moved_one ts) (length homes) i homes ≡ moved i ts homes
done-moved ts i [] = refl
done-moved ts i (home ∷ homes) = ap (λ hs. moved_one ts i home ∷ hs) (done-moved ts (suc i) homes)

-- a transfer with a new destination, where it is of the grant's index
abbrev pub redirected_one : Grant → ℕ → Transfer → Transfer
redirected_one grant place t = record { index = t.index; old = t.old; dest = cond (t.index == grant.index) grant.dest t.dest }

pub done-redirected : (grant : Grant) (i : ℕ) (ts : List Transfer) → done_to (redirected_one grant) (length ts) i ts ≡ redirected grant ts
done-redirected grant i [] = refl
done-redirected grant i (t ∷ ts) = ap (λ us. redirected_one grant i t ∷ us) (done-redirected grant (suc i) ts)

transfers_to-push : (gs : List Grant) (x : Grant) (homes : List Location)
    → transfers_to (gs ++ x ∷ []) homes ≡ transfers_to gs homes ++ record { index = x.index; old = home_at homes x.index; dest = x.dest } ∷ []
transfers_to-push [] x homes = refl
transfers_to-push (g ∷ gs) x homes = ap (λ ts. record { index = g.index; old = home_at homes g.index; dest = g.dest } ∷ ts) (transfers_to-push gs x homes)

pub transfers_to-more : (gs : List Grant) (k : ℕ) (x : Grant) (homes : List Location) → k < length gs → x ≡ get_or gs k x
    → transfers_to (take (k + 1) gs) homes ≡ transfers_to (take k gs) homes ++ record { index = x.index; old = home_at homes x.index; dest = x.dest } ∷ []
transfers_to-more gs k x homes h e =
    ap (λ us. transfers_to us homes) (take_more gs k x h)
    ∙ transfers_to-push (take k gs) (get_or gs k x) homes
    ∙ ap (λ (u : Grant). transfers_to (take k gs) homes ++ record { index = u.index; old = home_at homes u.index; dest = u.dest } ∷ []) (sym e)

module _ {A : Type 0} (f : ℕ → A → A) where
  -- one item more is changed
  pub done_step : (now : List A) (k : ℕ) (xs : List A) (v r d : A) → k < length xs → now ≡ done_to f k 0 xs → v ≡ get_or now k d → r ≡ f k v → set now k r ≡ done_to f (k + 1) 0 xs
  done_step now k xs v r d h n e g =
      let place : 0 + k ≡ k = omega arith in
      let whole : r ≡ f (0 + k) (get_or (done_to f k 0 xs) k d) = g ∙ ap (f k) (e ∙ ap (λ ys. get_or ys k d) n) ∙ ap (λ i. f i (get_or (done_to f k 0 xs) k d)) (sym place) in
      ap (λ ys. set ys k r) n ∙ ap (set (done_to f k 0 xs) k) whole ∙ done_more f k 0 xs d h

  -- all are
  pub done_all : (now : List A) (k : ℕ) (xs ys : List A) → k ≤ length xs → length xs ≤ k → now ≡ done_to f k 0 xs → done_to f (length xs) 0 xs ≡ ys → now ≡ ys
  done_all now k xs ys a b n e = let same : k ≡ length xs = omega arith in n ∙ ap (λ i. done_to f i 0 xs) same ∙ e

-- no transfer moves nothing
pub moved-none : (i : ℕ) (homes : List Location) → moved i [] homes ≡ homes
moved-none i [] = refl
moved-none i (home ∷ homes) = ap (λ hs. home ∷ hs) (moved-none (suc i) homes)
