-- The first token's rule, a token that is cut in two, two that are joined, and the last one.
use Rattle.std.proofs.Common.{◌≡◌, ℕ, ◌+◌, ◌<◌, ◌≤◌, ◌≢◌, List, [], ◌∷◌, ◌++◌, length, set, true, false, Some, None, Option, refl, sym, ap, ◌∙◌, subst, inl, inr, ⊎_elim, arith, zero, suc}
use Rattle.std.proofs.lemmas.List.Sums.{sum_by_push}
use mathlib.Core.List.{IsPrefix}
use mathlib.Core.Option as maybe
use lib.ListN.{get_elem?}
use Rattle.atomic_table.specs.Table.{State, opening, Splits, Joins, Final, Seen}
use Rattle.atomic_table.proofs.Lists.{at_set, at_snoc, at_longer, set_else}
use Rattle.turn_lock.specs.declared.view.View.{View}
use Rattle.turn_lock.specs.Known.{all_parts, times, once_below, IsEachOnce}
use Rattle.turn_lock.specs.Rule.{Fits, Apart, IsKept}
use Rattle.turn_lock.specs.Steps.{first_view, cut_view, part_of, both_views, spent}
use Rattle.turn_lock.proofs.Lists.{begins_itself, sum_written, is_past, times-append, times-range, of_longer, of_shorter, longer_length}
use Rattle.turn_lock.proofs.Kept.{both_tests, one_element, of_written, apart_written, fresh_none, home_written, has_whole, has_nobody_else}

module _ {T O E : Type 0} (origin : T → O) (past : T → List E) where
  abbrev St : Type 0
  St = State (Option T) (View O E)

  abbrev Rule : St → Type 0
  Rule = IsKept origin past

  -- what holds of the first view holds of every view of a new table
  of_first : (K : View O E → Type 0) (v : View O E) → K v → (j : ℕ) (u : View O E) → get_elem? (v ∷ []) j ≡ maybe.some u → K u
  of_first K v h zero u e = subst K (maybe.some-injective v u e) h
  of_first K v h (suc j) u e = absurd (maybe.some-ne-none u (sym e))

  pub opens : (x : T) (n : ℕ) → n ≡ length (past x) → Rule (opening (n ∷ 0 ∷ 0 ∷ []) (Some x ∷ []) (first_view (origin x) (past x)))
  opens x n count = let v = first_view (origin x) (past x) in record {
    root = origin x;
    log = past x;
    drawn = 0;
    served = 0;
    words = ap (λ (m : ℕ). m ∷ 0 ∷ 0 ∷ []) count;
    room = omega arith;
    order = omega arith;
    home = inl ((x, refl, refl, refl), of_first (λ u. u.holds ≡ false) v refl);
    fits = of_first (Fits (origin x) (past x) 0 0) v record {
      origin = λ _. refl;
      seen = begins_itself (past x);
      also = (past x, refl);
      own = λ y le. (let more = times-range y 0 (length (past x)) in let none : once_below y (0 + length (past x)) ≡ 0 = is_past y (0 + length (past x)) (omega arith) in omega arith);
      waits = λ t e. absurd (cc (e));
      holder = λ h. absurd (both_tests h refl);
      idle = λ none. absurd (omega arith);
    };
    apart = λ i j t a b ei ej ta tb. absurd (cc (ta, of_first (λ u. u.ticket ≡ None) v refl i a ei));
    parts = refl;
    places = λ y. (let more = times-range y 0 (length (past x)) in let none : once_below y 0 ≡ 0 = is_past y 0 (omega arith) in
        let whole : once_below y (0 + length (past x)) ≡ once_below y (length (past x)) = ap (once_below y) (zero_plus (length (past x))) in omega arith);
  }
    where
      zero_plus : (m : ℕ) → 0 + m ≡ m
      zero_plus m = omega arith

  -- what holds of the changed and of the new view, and of all others, holds of all
  of_cut : (K : View O E → Type 0) (views : List (View O E)) (id : ℕ) (left right : View O E) → K left → K right → ((j : ℕ) (u : View O E) → get_elem? views j ≡ maybe.some u → K u)
      → (j : ℕ) (u : View O E) → get_elem? (set views id left ++ right ∷ []) j ≡ maybe.some u → K u
  of_cut K views id left right hl hr others j u e = ⊎_elim (λ was. of_written K views id left hl (λ i x _ f. others i x f) j u was) (λ same. subst K same hr) (at_snoc (set views id left) right u j e)

  pub splits : (id : ℕ) (v : View O E) → v.ticket ≡ None → v.holds ≡ false → 2 ≤ v.parts → Splits Rule id v (cut_view v) (part_of v)
  splits id v none idle enough s r at =
      let left = cut_view v in
      let right = part_of v in
      let fit = r.fits id v at in
      let views = set s.views id left in
      let not_mine : (j : ℕ) (u : View O E) → get_elem? s.views j ≡ maybe.some u → u.holds ≡ true → j ≡ id → ⊥ =
      λ j u e holds same. both_tests (ap (λ (x : View O E). x.holds) (one_element s.views id v u at (ap (get_elem? s.views) (sym same) ∙ e)) ∙ holds) idle in record {
        root = r.root;
        log = r.log;
        drawn = r.drawn;
        served = r.served;
        words = r.words;
        room = r.room;
        order = r.order;
        home = ⊎_elim
            (λ home. inl (home.0, of_cut (λ (u : View O E). u.holds ≡ false) s.views id left right idle refl home.1))
            (λ out. inr (out.0, (out.1.0, out.1.1, at_longer views (right ∷ []) out.1.0 out.1.1 (set_else s.views id out.1.0 left (λ same. not_mine out.1.0 out.1.1 out.1.2 out.1.3 same) ∙ out.1.2), out.1.3)))
            r.home;
        fits = of_cut (Fits r.root r.log r.drawn r.served) s.views id left right
            record {
              origin = λ _. fit.origin (omega arith);
              seen = fit.seen;
              also = fit.also;
              own = fit.own;
              waits = fit.waits;
              holder = fit.holder;
              idle = λ zero_parts. absurd (omega arith);
            }
            record {
              origin = λ _. fit.origin (omega arith);
              seen = fit.seen;
              also = (r.log, refl);
              own = λ y _. refl;
              waits = λ t e. absurd (cc (e));
              holder = λ h. absurd (both_tests h refl);
              idle = λ zero_parts. absurd (omega arith);
            }
            r.fits;
        apart = apart_cut views right refl (apart_written s.views id left r.apart (fresh_none s.views id left none));
        parts = (let sum = sum_written (λ (u : View O E). u.parts) s.views id v left at in let all = r.parts in omega (arith, sum_by_push (λ (u : View O E). u.parts) views right));
        places = λ y. (let sum = sum_written (λ (u : View O E). times y u.places) s.views id v left at in let all = r.places y in omega (arith, sum_by_push (λ (u : View O E). times y u.places) views right));
      }
    where
      has_none : (w : View O E) (right : View O E) (t : ℕ) → right.ticket ≡ None → right ≡ w → w.ticket ≡ Some t → ⊥
      has_none w right t no_one same e = absurd (cc (sym e ∙ (ap (λ (u : View O E). u.ticket) (sym same) ∙ no_one)))

      apart_cut : (views : List (View O E)) (right : View O E) → right.ticket ≡ None → Apart views → Apart (views ++ right ∷ [])
      apart_cut views right n apart i j t a b ei ej ta tb =
          ⊎_elim
          (λ was_a. ⊎_elim (λ was_b. apart i j t a b was_a was_b ta tb) (λ new_b. absurd (has_none b right t n new_b tb)) (at_snoc views right b j ej))
          (λ new_a. absurd (has_none a right t n new_a ta))
          (at_snoc views right a i ei)

  -- what holds of the joined and of the spent view, and of all others, holds of all
  of_joined : (K : View O E → Type 0) (views : List (View O E)) (id other : ℕ) (both last : View O E) → K both → K last → ((j : ℕ) (u : View O E) → j ≢ other → j ≢ id → get_elem? views j ≡ maybe.some u → K u)
      → (j : ℕ) (u : View O E) → get_elem? (set (set views id both) other last) j ≡ maybe.some u → K u
  of_joined K views id other both last hb hl others = of_written K (set views id both) other last hl (λ j u not_other e. ⊎_elim
      (λ (t : (j ≡ id) × (both ≡ u)). subst K t.1 hb) (λ (t : (j ≢ id) × (get_elem? views j ≡ maybe.some u)). others j u not_other t.0 t.1) (at_set views id j both u e))

  pub joins : (id : ℕ) (v : View O E) (other : ℕ) (w : View O E) → v.ticket ≡ None → v.holds ≡ false → 0 < v.parts → w.ticket ≡ None → w.holds ≡ false → Joins Rule id v other w (both_views v w) spent
  joins id v other w none idle some_part none_w idle_w s r at not_same at_joined =
      let both = both_views v w in
      let views = set s.views id both in
      let at_w : get_elem? s.views other ≡ maybe.some w = sym (set_else s.views id other both not_same) ∙ at_joined in
      let fit = r.fits id v at in
      let fit_w = r.fits other w at_w in
      let lengths = longer_length v.seen w.seen in record {
        root = r.root;
        log = r.log;
        drawn = r.drawn;
        served = r.served;
        words = r.words;
        room = r.room;
        order = r.order;
        home = home_written origin past r.root r.log s.homes views other w spent at_joined (sym idle_w) (home_written origin past r.root r.log s.homes s.views id v both at refl r.home);
        fits = of_joined (Fits r.root r.log r.drawn r.served) s.views id other both spent
            record {
              origin = λ _. fit.origin some_part;
              seen = of_longer (λ l. IsPrefix l r.log) v.seen w.seen fit.seen fit_w.seen;
              also = of_shorter (λ l. IsPrefix l r.log) v.seen w.seen fit.seen fit_w.seen;
              own = λ y le. (let mine : times y v.places ≡ 0 = fit.own y (omega arith) in let theirs : times y w.places ≡ 0 = fit_w.own y (omega arith) in omega (arith, times-append y v.places w.places));
              waits = fit.waits;
              holder = λ h. absurd (both_tests h idle);
              idle = λ zero_parts. absurd (omega arith);
            }
            record {
              origin = λ some_left. absurd (omega arith);
              seen = (r.log, refl);
              also = (r.log, refl);
              own = λ y _. refl;
              waits = λ t e. absurd (cc (e));
              holder = λ h. absurd (both_tests h refl);
              idle = λ _. (refl, refl);
            }
            (λ j u _ _ e. r.fits j u e);
        apart = apart_written views other spent (apart_written s.views id both r.apart (fresh_none s.views id both none)) (fresh_none views other spent refl);
        parts = (let one = sum_written (λ (u : View O E). u.parts) s.views id v both at in let two = sum_written (λ (u : View O E). u.parts) views other w spent at_joined in let all = r.parts in omega arith);
        places = λ y. (let one = sum_written (λ (u : View O E). times y u.places) s.views id v both at in let two = sum_written (λ (u : View O E). times y u.places) views other w spent at_joined in
            let all = r.places y in omega (arith, times-append y v.places w.places));
      }

  -- what the last token knows of the value that is left
  pub record Ends (v : View O E) (left : Option T) : Type 0 where
    pub value : T
    pub is : left ≡ Some value
    pub origin_is : v.origin ≡ Some (origin value)
    pub past_is : past value ≡ v.seen
    pub places : IsEachOnce (length v.seen) v.places

  pub ends : (id : ℕ) (v : View O E) (words : List ℕ) (slots : List (Option T)) (left : Option T) → v.parts ≡ all_parts → v.holds ≡ false
      → Final (Seen Rule id v) words slots → get_elem? slots 0 ≡ maybe.some left → Ends v left
  ends id v words slots left all idle end here =
      let s = end.0 in
      let r = end.1.0 in
      let at = end.1.1 in
      let fit = r.fits id v at in
      let home = ⊎_elim (λ h. h) (λ out. absurd (both_tests out.1.3 (has_nobody_else origin past s r id v at all idle out.1.0 out.1.1 out.1.2))) r.home in
      let x = home.0.0 in
      let kept : get_elem? slots 0 ≡ maybe.some (Some x) = end.4 0 (Some x) (ap (λ hs. get_elem? hs 0) home.0.1) in
      let whole = has_whole origin past s r id v at all in record {
        value = x;
        is = maybe.some-injective left (Some x) (sym here ∙ kept);
        origin_is = fit.origin (omega arith) ∙ ap (λ (o : O). Some o) (sym home.0.2);
        past_is = home.0.3 ∙ sym whole.0;
        places = subst (λ l. IsEachOnce (length l) v.places) (sym whole.0) whole.1;
      }
