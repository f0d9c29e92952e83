-- The entries of a hashed map as a finite map.
use Rattle.std.proofs.Common.{◌≡◌, ◌∙◌, sym, ap, refl, ℕ, Bool, true, false, cond, List, [], ◌∷◌, Some, nat_eq, ltb, eqb, Less, Equal, Greater, arith}
use Rattle.std.proofs.lemmas.Bool.Decides.{nat_tests}
use Rattle.std.specs.Ordering.{nat_cmp, eq_by_cmp, is_eq}
use Rattle.std.specs.Cmp.{nat_cmp_total}
use Rattle.std.specs.Map.{lookup}
use Rattle.std.specs.FinMap.{find, get, insert, from_entries, get-insert, get-from_entries, same_map, nat_cmp-IsAntisymmetric}

by_tests : (a b : ℕ) (less same : Bool) → ltb a b ≡ less → eqb a b ≡ same → is_eq (cond less Less (cond same Equal Greater)) ≡ same
by_tests a b true true l s = absurd (apart l s)
  where
    apart : ltb a b ≡ true → eqb a b ≡ true → ⊥
    apart h k = grind (arith, nat_tests)
by_tests a b true false l s = refl
by_tests a b false true l s = refl
by_tests a b false false l s = refl

same_test : (a b : ℕ) → eq_by_cmp nat_cmp a b ≡ nat_eq a b
same_test a b = by_tests a b (ltb a b) (eqb a b) refl refl

turned : (a b : ℕ) → nat_eq a b ≡ nat_eq b a
turned a b = grind (arith, nat_tests)

module _ {X : Type 0} where
  find_is : (es : List (ℕ × X)) (q : ℕ) → find nat_cmp q es ≡ lookup (nat_eq q) es
  find_is [] q = refl
  find_is (e ∷ es) q =
      ap (λ b. cond b (Some e.1) (find nat_cmp q es)) (same_test q e.0)
      ∙ ap (cond (nat_eq q e.0) (Some e.1)) (find_is es q)

  -- what the map that the entries make has at a key
  pub get_entry : (es : List (ℕ × X)) (q : ℕ) → get (from_entries {R = nat_cmp} es) q ≡ lookup (nat_eq q) es
  get_entry es q = get-from_entries nat_cmp_total es q ∙ find_is es q

  -- entries that answer alike make one map
  pub same_entries : (es fs : List (ℕ × X)) → ((q : ℕ) → lookup (nat_eq q) fs ≡ lookup (nat_eq q) es) → from_entries {R = nat_cmp} fs ≡ from_entries es
  same_entries es fs same = same_map nat_cmp_total nat_cmp-IsAntisymmetric _ _ (λ q. get_entry fs q ∙ same q ∙ sym (get_entry es q))

  -- entries that differ at one key make maps that differ there
  pub one_set : (es fs : List (ℕ × X)) (key : ℕ) (value : X) → ((q : ℕ) → lookup (nat_eq q) fs ≡ cond (nat_eq key q) (Some value) (lookup (nat_eq q) es)) → from_entries {R = nat_cmp} fs ≡ insert (from_entries es) key value
  one_set es fs key value set = same_map nat_cmp_total nat_cmp-IsAntisymmetric _ _ (λ q.
      get_entry fs q ∙ set q
      ∙ ap (λ b. cond b (Some value) (lookup (nat_eq q) es)) (turned key q ∙ sym (same_test q key))
      ∙ sym (get-insert nat_cmp_total (from_entries es) key value q ∙ ap (cond (eq_by_cmp nat_cmp q key) (Some value)) (get_entry es q)))
