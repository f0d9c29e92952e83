-- Each step of a take and of a give keeps the rule.
use Rattle.std.proofs.Common.{◌≡◌, ℕ, ◌+◌, ◌-◌, ◌%◌, ◌<◌, ◌≤◌, ◌^◌, ◌==◌, ◌≢◌, List, [], ◌∷◌, length, set, slice_index, Bool, true, false, Some, None, Option, refl, sym, ap, ◌∙◌, subst, inl, inr, ⊎_elim, arith, eqb-true, eq-eqb, ne_eqb, le_refl, mod-eq_of_lt}
use mathlib.Core.Logic.{dite}
use mathlib.Core.List.{IsPrefix}
use mathlib.Core.Option as maybe
use native.Mathlib.Decide.{ℕ_discrete}
use lib.ListN.{get_elem?}
use prog.Atomic.{either}
use Rattle.std.specs.List.{range_with_len}
use Rattle.atomic_table.specs.Table.{State, Me, Act, keeps, takes, gives, step, stepped, Valid, carried_after, Allows}
use Rattle.turn_lock.specs.declared.view.View.{View}
use Rattle.turn_lock.specs.Known.{times, once_below, IsEachOnce}
use Rattle.turn_lock.specs.Rule.{Fits, Housed, AtHome, IsOut, IsKept}
use Rattle.turn_lock.specs.Steps.{with_ticket, with_value, with_past, without_value, compared, DrawsIf, ServesIf, Draws, Compares, Raises, Takes, Serves, Counted, Counts}
use Rattle.turn_lock.proofs.Lists.{begins_itself, begins_through, begins_other, beginning_length, at_written, part_le, is_past, times-append, times-range}
use Rattle.turn_lock.proofs.Kept.{not_true, both_tests, same_some, one_element, of_written, fresh_still, fresh_none, fits_still, home_written, kept_after, has_whole, owns_seen}

module _ {T O E : Type 0} (origin : T → O) (past : T → List E) where
  abbrev pub St : Type 0
  St = State (Option T) (View O E)

  abbrev pub Seats : Type 0
  Seats = Me (Option T) (View O E)

  abbrev pub Rule : St → Type 0
  Rule = IsKept origin past

  -- the words as numbers
  word_0 : (s : St) (r : Rule s) → slice_index s.words 0 ≡ length r.log
  word_0 s r = ap (λ ws. slice_index ws 0) r.words

  word_1 : (s : St) (r : Rule s) → slice_index s.words 1 ≡ r.drawn
  word_1 s r = ap (λ ws. slice_index ws 1) r.words

  word_2 : (s : St) (r : Rule s) → slice_index s.words 2 ≡ r.served
  word_2 s r = ap (λ ws. slice_index ws 2) r.words

  -- a step that changes no word and no slot, and of its view what the rule doesn't read
  unmoved : (s : St) (r : Rule s) (id : ℕ) (v w : View O E) (words : List ℕ) → get_elem? s.views id ≡ maybe.some v → words ≡ s.words → w.holds ≡ v.holds → w.ticket ≡ v.ticket → w.parts ≡ v.parts → w.places ≡ v.places
      → Fits r.root r.log r.drawn r.served w → Rule record { words = words; homes = s.homes; views = set s.views id w }
  unmoved s r id v w words at same holds ticket parts places mine = kept_after origin past s r id v w words s.homes r.log r.drawn r.served at (same ∙ r.words) r.room r.order
      (home_written origin past r.root r.log s.homes s.views id v w at holds r.home) mine (λ j u _ e. r.fits j u e) (fresh_still s.views id v w at r.apart ticket) parts (λ x. ap (λ ps. times x ps + once_below x (length r.log)) places)

  -- the draw of a ticket

  abbrev DrawsWhen : St → ℕ → View O E → List (ℕ × Option T) → ℕ → Bool → Type 0
  DrawsWhen s id v c old b = (w : View O E) × (a : Act (Option T)) × Valid s.homes c a × Rule (stepped s 1 (either b (old + 1) (slice_index s.words 1)) id c w a)
      × DrawsIf b (v, c) (slice_index s.words 1) (w, carried_after c a)

  draws_when : (s : St) (r : Rule s) (id : ℕ) (v : View O E) (c : List (ℕ × Option T)) (old : ℕ) → get_elem? s.views id ≡ maybe.some v → v.holds ≡ false → 0 < v.parts → old + 1 < 2 ^ 64
      → (b : Bool) → (slice_index s.words 1 == old) ≡ b → DrawsWhen s id v c old b
  draws_when s r id v c old at idle some_part room true is =
      let drawn : old ≡ r.drawn = sym (eqb-true _ _ is) ∙ word_1 s r in
      let found = word_1 s r in
      let w = with_ticket v (slice_index s.words 1) in
      let fit = r.fits id v at in
      let order = r.order in (
        w,
        keeps,
        tt,
        kept_after origin past s r id v w _ s.homes r.log (old + 1) r.served at (ap (λ ws. set ws 1 (old + 1)) r.words) room (omega arith)
            (home_written origin past r.root r.log s.homes s.views id v w at refl r.home)
            record {
              origin = fit.origin;
              seen = fit.seen;
              also = fit.also;
              own = fit.own;
              waits = λ t e. (let same : slice_index s.words 1 ≡ t = same_some e in (omega arith, omega arith));
              holder = λ h. absurd (both_tests h idle);
              idle = fit.idle;
            }
            (λ j u _ e. fits_still r.root r.log r.log r.drawn (old + 1) r.served r.served u (r.fits j u e) (begins_itself r.log) (omega arith) (λ t x. ((r.fits j u e).waits t x).0) (λ _. (refl, refl)))
            (λ t j u _ e tw tu. let same : slice_index s.words 1 ≡ t = same_some tw in let below = (r.fits j u e).waits t tu in omega arith)
            refl
            (λ x. refl),
        refl,
      )
  draws_when s r id v c old at idle some_part room false is =
      (v, keeps, tt, unmoved s r id v v _ at (ap (λ ws. set ws 1 (slice_index ws 1)) r.words ∙ sym r.words) refl refl refl refl (r.fits id v at), refl)

  pub draws : (slots id : ℕ) (v : View O E) (c : List (ℕ × Option T)) (old : ℕ) → v.holds ≡ false → 0 < v.parts → old + 1 < 2 ^ 64
      → Allows Rule slots id (v, c) 1 (λ n. either (n == old) (old + 1) n) (Draws (step slots 1 old (old + 1) maybe.none) (v, c))
  draws slots id v c old idle some_part room s r _ at _ = draws_when s r id v c old at idle some_part room (slice_index s.words 1 == old) refl

  -- the look at the served ticket

  abbrev ServesWhen : St → ℕ → View O E → Bool → Type 0
  ServesWhen s id v b = (w : View O E) × (a : Act (Option T)) × Valid s.homes [] a × Rule (stepped s 2 (slice_index s.words 2) id [] w a) × ServesIf origin past b (v, []) (w, carried_after [] a)

  -- the seat whose ticket is served finds the value at home
  finds_home : (s : St) (r : Rule s) (id : ℕ) (v : View O E) → get_elem? s.views id ≡ maybe.some v → v.ticket ≡ Some r.served → v.holds ≡ false → AtHome origin past r.root r.log s.homes s.views
  finds_home s r id v at ticket idle = ⊎_elim (λ home. home)
      (λ out. let j = out.1.0 in let u = out.1.1 in
      let theirs = ((r.fits j u out.1.2).holder out.1.3).0 in
      let same : j ≡ id = r.apart j id r.served u v out.1.2 at theirs ticket in
      let one = one_element s.views id v u at (ap (get_elem? s.views) (sym same) ∙ out.1.2) in
      absurd (both_tests (ap (λ (x : View O E). x.holds) one ∙ out.1.3) idle))
      r.home

  serves_when : (s : St) (r : Rule s) (id : ℕ) (v : View O E) (t : ℕ) → get_elem? s.views id ≡ maybe.some v → v.ticket ≡ Some t → v.holds ≡ false → 0 < v.parts
      → (b : Bool) → (slice_index s.words 2 == t) ≡ b → ServesWhen s id v b
  serves_when s r id v t at ticket idle some_part true is =
      let served : t ≡ r.served = sym (eqb-true _ _ is) ∙ word_2 s r in
      let mine : v.ticket ≡ Some r.served = ticket ∙ ap (λ (n : ℕ). Some n) served in
      let home = finds_home s r id v at mine idle in
      let x = home.0.0 in
      let at_home = home.0.1 in
      let is_log : past x ≡ r.log = home.0.3 in
      let w = with_value v (past x) in
      let fit = r.fits id v at in
      let seen : IsPrefix v.seen (past x) = subst (IsPrefix v.seen) (sym is_log) fit.seen in
      let longer = beginning_length v.seen (past x) seen in (
        w,
        takes 0 (Some x),
        ap (λ hs. get_elem? hs 0) at_home,
        kept_after origin past s r id v w _ _ r.log r.drawn r.served at (ap (λ ws. set ws 2 (slice_index ws 2)) r.words) r.room r.order
            (inr (ap (λ hs. set hs 0 maybe.none) at_home, (id, w, at_written s.views id v w at, refl)))
            record {
              origin = fit.origin;
              seen = subst (λ l. IsPrefix l r.log) (sym is_log) (begins_itself r.log);
              also = fit.also;
              own = λ y le. fit.own y (omega arith);
              waits = fit.waits;
              holder = λ _. (mine, is_log);
              idle = λ none. absurd (omega arith);
            }
            (λ j u _ e. r.fits j u e)
            (fresh_still s.views id v w at r.apart refl)
            refl
            (λ y. refl),
        (
          x,
          refl,
          fit.origin some_part ∙ ap (λ (o : O). Some o) (sym home.0.2),
          seen,
          (λ all. is_log ∙ sym (has_whole origin past s r id v at all).0),
          (λ all. subst (λ l. IsEachOnce (length l) v.places) (sym is_log) (has_whole origin past s r id v at all).1),
        ),
      )
  serves_when s r id v t at ticket idle some_part false is =
      (v, keeps, tt, unmoved s r id v v _ at (ap (λ ws. set ws 2 (slice_index ws 2)) r.words ∙ sym r.words) refl refl refl refl (r.fits id v at), refl)

  pub serves : (slots id : ℕ) (v : View O E) (t : ℕ) → v.ticket ≡ Some t → v.holds ≡ false → 0 < v.parts → Allows Rule slots id (v, []) 2 (λ n. n) (Serves origin past (step slots 2 0 0 maybe.none) (v, []))
  serves slots id v t ticket idle some_part s r _ at _ =
      let goes = serves_when s r id v t at ticket idle some_part (slice_index s.words 2 == t) refl in
      (goes.0, goes.1, goes.2, goes.3, λ u e. subst (λ (k : ℕ). ServesIf origin past (slice_index s.words 2 == k) (v, []) (goes.0, carried_after [] goes.1)) (same_some (sym ticket ∙ e)) goes.4)

  pub is_served : (found t : ℕ) (m m' : Seats) → found ≡ t → ServesIf origin past (found == t) m m' → Takes origin past m m'
  is_served found t m m' same = subst (λ b. ServesIf origin past b m m') (eq-eqb found t same)

  pub is_not_served : (found t : ℕ) (m m' : Seats) → (found ≡ t → ⊥) → ServesIf origin past (found == t) m m' → m' ≡ m
  is_not_served found t m m' other = subst (λ b. ServesIf origin past b m m') (ne_eqb found t other)

  -- the store of the count

  out_with : (s : St) (r : Rule s) (id : ℕ) (v : View O E) → get_elem? s.views id ≡ maybe.some v → v.holds ≡ true → IsOut origin past s.homes s.views
  out_with s r id v at holds = ⊎_elim (λ home. absurd (both_tests holds (home.1 id v at))) (λ out. out) r.home

  -- no other seat has the value
  alone : (s : St) (r : Rule s) (id : ℕ) (v : View O E) → get_elem? s.views id ≡ maybe.some v → v.holds ≡ true → (j : ℕ) (u : View O E) → j ≢ id → get_elem? s.views j ≡ maybe.some u → u.holds ≡ true → ⊥
  alone s r id v at holds j u other e theirs = other (r.apart j id r.served u v e at ((r.fits j u e).holder theirs).0 ((r.fits id v at).holder holds).0)

  counts_now : (s : St) (r : Rule s) (id : ℕ) (v : View O E) (x : T) (n : ℕ) → get_elem? s.views id ≡ maybe.some v → v.holds ≡ true → 0 < v.parts → IsPrefix v.seen (past x) → n ≡ length (past x)
      → Rule (stepped s 0 n id ((0, Some x) ∷ []) (with_past v (past x)) keeps)
  counts_now s r id v x n at holds some_part longer count =
      let w = with_past v (past x) in
      let fit = r.fits id v at in
      let held = fit.holder holds in
      let from_log : IsPrefix r.log (past x) = subst (λ l. IsPrefix l (past x)) held.1 longer in
      let len : length v.seen ≤ length (past x) = beginning_length v.seen (past x) longer in
      let len_log : length v.seen ≡ length r.log = ap length held.1 in
      let k : ℕ = length (past x) - length v.seen in
      let end : length v.seen + k ≡ length (past x) = omega arith in
      kept_after origin past s r id v w _ s.homes (past x) r.drawn r.served at (ap (λ ws. set ws 0 n) r.words ∙ ap (λ (m : ℕ). m ∷ r.drawn ∷ r.served ∷ []) count) r.room r.order
      (home_written_out s r id v w at holds refl)
      record {
        origin = fit.origin;
        seen = begins_itself (past x);
        also = begins_through v.also r.log (past x) fit.also from_log;
        own = λ y le. (let mine : times y v.places ≡ 0 = fit.own y (omega arith) in
            let more = times-range y (length v.seen) k in
            let none : once_below y (length v.seen + k) ≡ 0 = is_past y (length v.seen + k) (omega arith) in
            omega (arith, times-append y v.places (range_with_len (length v.seen) k)));
        waits = fit.waits;
        holder = λ _. (held.0, refl);
        idle = λ none. absurd (omega arith);
      }
      (λ j u other e. fits_still r.root r.log (past x) r.drawn r.drawn r.served r.served u (r.fits j u e) from_log (le_refl r.drawn) (λ t f. ((r.fits j u e).waits t f).0) (λ h. absurd (alone s r id v at holds j u other e h)))
      (fresh_still s.views id v w at r.apart refl)
      refl
      (λ y. (let more = times-range y (length v.seen) k in
      let ends : once_below y (length v.seen + k) ≡ once_below y (length (past x)) = ap (once_below y) end in
      let starts : once_below y (length v.seen) ≡ once_below y (length r.log) = ap (once_below y) len_log in
      omega (arith, times-append y v.places (range_with_len (length v.seen) k))))
    where
      home_written_out : (s : St) (r : Rule s) (id : ℕ) (v w : View O E) → get_elem? s.views id ≡ maybe.some v → v.holds ≡ true → w.holds ≡ v.holds → Housed origin past r.root (past x) s.homes (set s.views id w)
      home_written_out s r id v w at holds same = inr ((out_with s r id v at holds).0, (id, w, at_written s.views id v w at, same ∙ holds))

  pub counts : (slots id : ℕ) (v : View O E) (x : T) (n : ℕ) → v.holds ≡ true → 0 < v.parts → IsPrefix v.seen (past x) → n ≡ length (past x)
      → Allows Rule slots id (v, (0, Some x) ∷ []) 0 (λ _. n) (λ _. Counts origin past (step slots 0 n 0 maybe.none) (v, (0, Some x) ∷ []) n)
  counts slots id v x n holds some_part longer count s r _ at _ =
      let w = with_past v (past x) in
      let kept = counts_now s r id v x n at holds some_part longer count in
      (w, keeps, tt, kept, λ y e. subst (λ (z : T). Counted origin past z (v, (0, Some x) ∷ []) (w, (0, Some x) ∷ [])) (same_value e) (refl, λ all. owns_seen origin past _ kept id w (at_written s.views id v w at) all))
    where
      held : T → List (ℕ × Option T)
      held y = (0, Some y) ∷ []

      value_of : List (ℕ × Option T) → Option T
      value_of [] = None
      value_of (z ∷ zs) = z.1

      same_value : {y : T} → held x ≡ held y → x ≡ y
      same_value e = same_some (ap value_of e)

  -- the raise of the served ticket

  pub raises : (slots id : ℕ) (v : View O E) (x : T) → v.holds ≡ true → 0 < v.parts → v.origin ≡ Some (origin x) → past x ≡ v.seen
      → Allows Rule slots id (v, (0, Some x) ∷ []) 2 (λ n. (n + 1) % 2 ^ 64) (Raises (step slots 2 1 0 maybe.none) (v, (0, Some x) ∷ []))
  raises slots id v x holds some_part from seen s r _ at _ =
      let w = without_value v in
      let fit = r.fits id v at in
      let held = fit.holder holds in
      let out = out_with s r id v at holds in
      let found = word_2 s r in
      let waits = fit.waits r.served held.0 in
      let room = r.room in
      let next : (slice_index s.words 2 + 1) % 2 ^ 64 ≡ r.served + 1 = mod-eq_of_lt (omega arith) ∙ ap (λ (n : ℕ). n + 1) found in
      let root : origin x ≡ r.root = same_some (sym from ∙ fit.origin some_part) in (
        w,
        gives,
        tt,
        kept_after origin past s r id v w _ _ r.log r.drawn (r.served + 1) at (ap (λ ws. set ws 2 ((slice_index s.words 2 + 1) % 2 ^ 64)) r.words ∙ ap (λ (m : ℕ). length r.log ∷ r.drawn ∷ m ∷ []) next) r.room (omega arith)
            (inl (
              (x, ap (λ hs. set hs 0 (maybe.some (Some x))) out.0, root, seen ∙ held.1),
              of_written (λ (u : View O E). u.holds ≡ false) s.views id w refl (λ j u other e. not_true u.holds (alone s r id v at holds j u other e)),
            ))
            record {
              origin = fit.origin;
              seen = fit.seen;
              also = fit.also;
              own = fit.own;
              waits = λ t e. absurd (no_ticket e);
              holder = λ h. absurd (both_tests h refl);
              idle = λ none. absurd (omega arith);
            }
            (λ j u other e. fits_still r.root r.log r.log r.drawn r.drawn r.served (r.served + 1) u (r.fits j u e) (begins_itself r.log) (le_refl r.drawn)
            (λ t f. (let le = ((r.fits j u e).waits t f).0 in
            dite (ℕ_discrete t r.served)
            (λ same. absurd (other (r.apart j id r.served u v e at (f ∙ ap (λ (n : ℕ). Some n) same) held.0)))
            (λ differ. omega arith)))
            (λ h. absurd (alone s r id v at holds j u other e h)))
            (fresh_none s.views id w refl)
            refl
            (λ y. refl),
        (refl, omega arith),
      )
    where
      no_ticket : {t : ℕ} → None ≡ Some t → ⊥
      no_ticket e = absurd (cc (e))

  -- the load that compares two pasts

  pub compares : (slots id : ℕ) (v : View O E) (c : List (ℕ × Option T)) → Allows Rule slots id (v, c) 0 (λ n. n) (Compares (step slots 0 0 0 maybe.none) (v, c))
  compares slots id v c s r _ at _ =
      let w = compared v in
      let fit = r.fits id v at in (
        w,
        keeps,
        tt,
        unmoved s r id v w _ at (ap (λ ws. set ws 0 (slice_index ws 0)) r.words ∙ sym r.words) refl refl refl refl record {
          origin = fit.origin;
          seen = fit.seen;
          also = (r.log, refl);
          own = fit.own;
          waits = fit.waits;
          holder = fit.holder;
          idle = fit.idle;
        },
        (
          refl,
          (λ le. begins_other v.also v.seen r.log fit.also fit.seen le),
          (let part = part_le (λ (u : View O E). u.parts) s.views id v at in let all = r.parts in omega arith),
          owns_seen origin past s r id v at,
        ),
      )
