-- What keeps the rule where one seat's view changes, and what the rule says of a seat with all parts.
use Rattle.std.proofs.Common.{◌≡◌, ℕ, ◌+◌, ◌<◌, ◌≤◌, ◌^◌, ◌≢◌, List, [], ◌∷◌, length, set, Bool, true, false, true≢false, Some, None, Option, sum_by, refl, sym, ap, ◌∙◌, subst, inl, inr, ⊎_elim, arith}
use mathlib.Core.Logic.{dite}
use mathlib.Core.List.{IsPrefix}
use mathlib.Core.Option as maybe
use native.Mathlib.Decide.{ℕ_discrete, dec_le}
use lib.ListN.{get_elem?}
use Rattle.atomic_table.specs.Table.{State}
use Rattle.atomic_table.proofs.Lists.{at_set, set_else}
use Rattle.turn_lock.specs.declared.view.View.{View}
use Rattle.turn_lock.specs.Known.{all_parts, times, once_below, IsEachOnce}
use Rattle.turn_lock.specs.Rule.{Fits, Apart, Housed, IsKept}
use Rattle.turn_lock.proofs.Lists.{begins_through, whole_beginning, at_written, sum_written, part_le, has_all, is_below}

pub not_true : (b : Bool) → (b ≡ true → ⊥) → b ≡ false
not_true true h = absurd (h refl)
not_true false h = refl

pub both_tests : {b : Bool} → b ≡ true → b ≡ false → ⊥
both_tests t f = true≢false (sym t ∙ f)

pub same_some : {A : Type 0} {x y : A} → Some x ≡ Some y → x ≡ y
same_some e = cc (e)

module _ {A : Type 0} where
  pub one_element : (l : List A) (i : ℕ) (v w : A) → get_elem? l i ≡ maybe.some v → get_elem? l i ≡ maybe.some w → v ≡ w
  one_element l i v w e f = maybe.some-injective v w (sym e ∙ f)

  -- what holds of the new element and of all others holds of all
  pub of_written : (K : A → Type 0) (l : List A) (i : ℕ) (w : A) → K w → ((j : ℕ) (u : A) → j ≢ i → get_elem? l j ≡ maybe.some u → K u) → (j : ℕ) (u : A) → get_elem? (set l i w) j ≡ maybe.some u → K u
  of_written K l i w mine others j u e =
      ⊎_elim (λ (t : (j ≡ i) × (w ≡ u)). subst K t.1 mine) (λ (t : (j ≢ i) × (get_elem? l j ≡ maybe.some u)). others j u t.0 t.1) (at_set l i j w u e)

module _ {O E : Type 0} where
  -- no other seat has a ticket of this view
  abbrev pub IsFresh : List (View O E) → ℕ → View O E → Type 0
  IsFresh views id w = (t j : ℕ) (u : View O E) → j ≢ id → get_elem? views j ≡ maybe.some u → w.ticket ≡ Some t → u.ticket ≡ Some t → ⊥

  pub apart_written : (views : List (View O E)) (id : ℕ) (w : View O E) → Apart views → IsFresh views id w → Apart (set views id w)
  apart_written views id w apart fresh i j t a b ei ej ta tb =
      ⊎_elim
      (λ (p : (i ≡ id) × (w ≡ a)). ⊎_elim
      (λ (q : (j ≡ id) × (w ≡ b)). p.0 ∙ sym q.0)
      (λ (q : (j ≢ id) × (get_elem? views j ≡ maybe.some b)). absurd (fresh t j b q.0 q.1 (ap (λ (v : View O E). v.ticket) p.1 ∙ ta) tb))
      (at_set views id j w b ej))
      (λ (p : (i ≢ id) × (get_elem? views i ≡ maybe.some a)). ⊎_elim
      (λ (q : (j ≡ id) × (w ≡ b)). absurd (fresh t i a p.0 p.1 (ap (λ (v : View O E). v.ticket) q.1 ∙ tb) ta))
      (λ (q : (j ≢ id) × (get_elem? views j ≡ maybe.some b)). apart i j t a b p.1 q.1 ta tb)
      (at_set views id j w b ej))
      (at_set views id i w a ei)

  -- a ticket that a seat has is no other seat's
  pub fresh_still : (views : List (View O E)) (id : ℕ) (v w : View O E) → get_elem? views id ≡ maybe.some v → Apart views → w.ticket ≡ v.ticket → IsFresh views id w
  fresh_still views id v w at apart same t j u other e tw tu = other (apart j id t u v e at tu (sym same ∙ tw))

  pub fresh_none : (views : List (View O E)) (id : ℕ) (w : View O E) → w.ticket ≡ None → IsFresh views id w
  fresh_none views id w none t j u other e tw tu = absurd (cc (none, tw))

  -- what is true of another seat stays so where the past grows, and tickets are drawn and served
  pub fits_still : (root : O) (log log' : List E) (drawn drawn' served served' : ℕ) (u : View O E) → Fits root log drawn served u → IsPrefix log log' → drawn ≤ drawn'
      → ((t : ℕ) → u.ticket ≡ Some t → served' ≤ t) → (u.holds ≡ true → (served ≡ served') × (log ≡ log')) → Fits root log' drawn' served' u
  fits_still root log log' drawn drawn' served served' u fit longer more waits same = record {
    origin = fit.origin;
    seen = begins_through u.seen log log' fit.seen longer;
    also = begins_through u.also log log' fit.also longer;
    own = fit.own;
    waits = λ t e. let w = fit.waits t e in (waits t e, omega arith);
    holder = λ h. let w = fit.holder h in let s = same h in (w.0 ∙ ap (λ (n : ℕ). Some n) s.0, w.1 ∙ s.1);
    idle = fit.idle;
  }

module _ {T O E : Type 0} (origin : T → O) (past : T → List E) where
  pub home_written : (root : O) (log : List E) (homes : List (maybe.Option (Option T))) (views : List (View O E)) (id : ℕ) (v w : View O E) → get_elem? views id ≡ maybe.some v → w.holds ≡ v.holds
      → Housed origin past root log homes views → Housed origin past root log homes (set views id w)
  home_written root log homes views id v w at same = ⊎_elim
      (λ home. inl (home.0, of_written (λ (u : View O E). u.holds ≡ false) views id w (same ∙ home.1 id v at) (λ j u _ e. home.1 j u e)))
      (λ out. inr (
        out.0,
        dite (ℕ_discrete out.1.0 id)
            (λ mine. (id, w, at_written views id v w at, same ∙ ap (λ (u : View O E). u.holds) (one_element views id v out.1.1 at (ap (get_elem? views) (sym mine) ∙ out.1.2)) ∙ out.1.3))
            (λ other. (out.1.0, out.1.1, set_else views id out.1.0 w other ∙ out.1.2, out.1.3)),
      ))

  -- the rule is kept where one seat's view changes, and its part in all does not
  pub kept_after : (s : State (Option T) (View O E)) (r : IsKept origin past s) (id : ℕ) (v w : View O E) (words : List ℕ) (homes : List (maybe.Option (Option T))) (log : List E) (drawn served : ℕ)
      → get_elem? s.views id ≡ maybe.some v → words ≡ length log ∷ drawn ∷ served ∷ [] → drawn < 2 ^ 64 → served ≤ drawn → Housed origin past r.root log homes (set s.views id w) → Fits r.root log drawn served w
      → ((j : ℕ) (u : View O E) → j ≢ id → get_elem? s.views j ≡ maybe.some u → Fits r.root log drawn served u) → IsFresh s.views id w → w.parts ≡ v.parts
      → ((x : ℕ) → times x w.places + once_below x (length r.log) ≡ times x v.places + once_below x (length log))
      → IsKept origin past record { words = words; homes = homes; views = set s.views id w }
  kept_after s r id v w words homes log drawn served at is room order home mine others fresh parts places = record {
    root = r.root;
    log = log;
    drawn = drawn;
    served = served;
    words = is;
    room = room;
    order = order;
    home = home;
    fits = of_written (Fits r.root log drawn served) s.views id w mine others;
    apart = apart_written s.views id w r.apart fresh;
    parts = (let sum = sum_written (λ (u : View O E). u.parts) s.views id v w at in let all = r.parts in omega arith);
    places = λ x. (let sum = sum_written (λ (u : View O E). times x u.places) s.views id v w at in let all = r.places x in let more = places x in omega arith);
  }

  -- a seat with all parts has seen the whole past, and has each of its places once
  pub has_whole : (s : State (Option T) (View O E)) (r : IsKept origin past s) (id : ℕ) (v : View O E) → get_elem? s.views id ≡ maybe.some v → v.parts ≡ all_parts → (v.seen ≡ r.log) × IsEachOnce (length r.log) v.places
  has_whole s r id v at all = (whole_beginning v.seen r.log fit.seen (dite (dec_le (length r.log) (length v.seen)) (λ le. le) (λ not_le. absurd (unseen (omega arith)))), once)
    where
      fit : Fits r.root r.log r.drawn r.served v
      fit = r.fits id v at

      once : (x : ℕ) → times x v.places ≡ once_below x (length r.log)
      once x = sym (has_all (λ (u : View O E). u.parts) (λ (u : View O E). times x u.places) s.views id v at (λ j u e none. ap (times x) ((r.fits j u e).idle none).0) (r.parts ∙ sym all)) ∙ r.places x

      unseen : length v.seen < length r.log → ⊥
      unseen lt =
          let here : once_below (length v.seen) (length r.log) ≡ 1 = is_below (length v.seen) (length r.log) lt in
          let none : times (length v.seen) v.places ≡ 0 = fit.own (length v.seen) (omega arith) in
          let one = once (length v.seen) in
          omega arith

  pub owns_seen : (s : State (Option T) (View O E)) (r : IsKept origin past s) (id : ℕ) (v : View O E) → get_elem? s.views id ≡ maybe.some v → v.parts ≡ all_parts → IsEachOnce (length v.seen) v.places
  owns_seen s r id v at all = let whole = has_whole s r id v at all in subst (λ l. IsEachOnce (length l) v.places) (sym whole.0) whole.1

  -- and no other seat has the value
  pub has_nobody_else : (s : State (Option T) (View O E)) (r : IsKept origin past s) (id : ℕ) (v : View O E) → get_elem? s.views id ≡ maybe.some v → v.parts ≡ all_parts → v.holds ≡ false
      → (j : ℕ) (u : View O E) → get_elem? s.views j ≡ maybe.some u → u.holds ≡ false
  has_nobody_else s r id v at all idle j u e = not_true u.holds (λ h.
      let count : View O E → ℕ = λ (w : View O E). one w.holds in
      let mine : sum_by count s.views ≡ count v = has_all (λ (w : View O E). w.parts) count s.views id v at (λ k w f none. ap one ((r.fits k w f).idle none).1) (r.parts ∙ sym all) in
      let theirs : count u ≤ sum_by count s.views = part_le count s.views j u e in
      let zero_here : count v ≡ 0 = ap one idle in
      let one_there : count u ≡ 1 = ap one h in
      omega arith)
    where
      one : Bool → ℕ
      one true = 1
      one false = 0
