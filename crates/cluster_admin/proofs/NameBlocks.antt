-- Names in blocks, and the index of their blocks.
use Rattle.std.proofs.Common.{◌≡◌, ℕ, zero, suc, ◌+◌, ◌-◌, ◌<◌, ◌≤◌, Bool, true, false, cond, ◌||◌, List, [], ◌∷◌, ◌++◌, length, map, set, drop, length-append, Option, Some, None, Vec, Global, refl, sym, ap, subst, ◌∙◌, arith, append_assoc}
use Rattle.std.specs.Prelude.{is_some, option_map, slice_get}
use Rattle.std.specs.Cmp.Lexicographic.{nat_list_eq_equiv}
use Rattle.std.specs.List.{IsDistinct, AllByRecursion, list_any}
use Rattle.std.specs.Map.{keys_of, lookup, remove_entry, KeepsOthers, IsKeyTest, AreApart}
use Rattle.std.specs.Str.{bytes_eq}
use Rattle.std.proofs.Math.ListN.{get_or}
use Rattle.std.proofs.lemmas.List.{append-nil, drop_more}
use Rattle.std.proofs.lemmas.Map.{lookup-remove_entry}
use Rattle.std.proofs.lemmas.Map.Keys.{IsDistinct-head, IsDistinct-tail, IsDistinct-cons, IsDistinct-push}
use Rattle.std.proofs.lemmas.Option.{get_or_from_slice_get, slice_get_within}
use Rattle.std.proofs.lemmas.Slice.Eq.{bytes_eq-Decides}
use Rattle.cluster_admin.specs.declared.names.Object.{Object}
use Rattle.cluster_admin.specs.Names.{seen, all_names, block_of, IsIndexed, KeepsNames}
use Rattle.cluster_admin.proofs.NameLemmas.{lookup_seen}

-- bytes that differ from a name don't stand for what equals it
apart : (name other key : List ℕ) → bytes_eq name other ≡ false → bytes_eq name key ≡ true → bytes_eq other key ≡ false
apart name other key differs same = nat_list_eq_equiv.symm other key ∙ sym (nat_list_eq_equiv.congr name key other same) ∙ differs

other_entries : {K X : Type 0} (eq : K → K → Bool) (test : K → Bool) (old new : List (K × X)) → KeepsOthers eq test old new
    → (other : K → Bool) → IsKeyTest eq other → AreApart test other → lookup other new ≡ lookup other old
unfolding KeepsOthers
other_entries eq test old new keeps = keeps

-- an index after one name was set or forgotten
pub index_changed : {X : Type 0} (name : List ℕ) (old new : List (Vec ℕ Global × X)) (w : Option X) → lookup (λ key. bytes_eq name key.items) new ≡ w
    → KeepsOthers (λ a b. bytes_eq a.items b.items) (λ key. bytes_eq name key.items) old new
    → (other : List ℕ) → lookup (bytes_eq other) (map seen new) ≡ cond (bytes_eq name other) w (lookup (bytes_eq other) (map seen old))
index_changed name old new w here keeps other = go (bytes_eq name other) refl where
  go : (test : Bool) → bytes_eq name other ≡ test → lookup (bytes_eq other) (map seen new) ≡ cond test w (lookup (bytes_eq other) (map seen old))
  go true same = lookup_seen other new ∙ ap (λ (n : List ℕ). lookup (λ key. bytes_eq n key.items) new) (sym ((bytes_eq-Decides name other).0 same)) ∙ here
  go false differs =
      lookup_seen other new
      ∙ other_entries _ _ old new keeps (λ key. bytes_eq other key.items) (λ x y. nat_list_eq_equiv.congr other x.items y.items) (λ key. apart name other key.items differs)
      ∙ sym (lookup_seen other old)

module _ {K X : Type 0} (test : K → Bool) where
  -- a look-up in one list behind another
  pub lookup_append : (xs ys : List (K × X)) → lookup test (xs ++ ys) ≡ cond (is_some (lookup test xs)) (lookup test xs) (lookup test ys)
  lookup_append [] ys = refl
  lookup_append (x ∷ xs) ys = go (test x.0) (lookup_append xs ys) where
    go : (here : Bool) → lookup test (xs ++ ys) ≡ cond (is_some (lookup test xs)) (lookup test xs) (lookup test ys)
        → cond here (Some x.1) (lookup test (xs ++ ys)) ≡ cond (is_some (cond here (Some x.1) (lookup test xs))) (cond here (Some x.1) (lookup test xs)) (lookup test ys)
    go true rest = refl
    go false rest = rest

  -- an entry taken out of one list behind another
  remove_append : (xs ys : List (K × X)) → remove_entry test (xs ++ ys) ≡ cond (is_some (lookup test xs)) (remove_entry test xs ++ ys) (xs ++ remove_entry test ys)
  remove_append [] ys = refl
  remove_append (x ∷ xs) ys = go (test x.0) (lookup test xs) (remove_append xs ys) where
    go : (here : Bool) (found : Option X) → remove_entry test (xs ++ ys) ≡ cond (is_some found) (remove_entry test xs ++ ys) (xs ++ remove_entry test ys)
        → cond here (xs ++ ys) (x ∷ remove_entry test (xs ++ ys))
        ≡ cond (is_some (cond here (Some x.1) found)) (cond here xs (x ∷ remove_entry test xs) ++ ys) (x ∷ (xs ++ remove_entry test ys))
    go true found rest = refl
    go false (Some value) rest = ap (λ es. x ∷ es) rest
    go false None rest = ap (λ es. x ∷ es) rest

  all_left : (P : K → Type 0) (es : List (K × X)) → AllByRecursion P (keys_of es) → AllByRecursion P (keys_of (remove_entry test es))
  all_left P [] all = all
  all_left P (e ∷ es) all = go (test e.0) (all_left P es all.1) where
    go : (here : Bool) → AllByRecursion P (keys_of (remove_entry test es)) → AllByRecursion P (keys_of (cond here es (e ∷ remove_entry test es)))
    go true rest = all.1
    go false rest = (all.0, rest)

  -- keys that differ still do once one is taken out
  distinct_left : (eq : K → K → Bool) (es : List (K × X)) → IsDistinct eq (keys_of es) → IsDistinct eq (keys_of (remove_entry test es))
  distinct_left eq [] once = once
  distinct_left eq (e ∷ es) once = go (test e.0) (distinct_left eq es (IsDistinct-tail eq e.0 (keys_of es) once)) where
    go : (here : Bool) → IsDistinct eq (keys_of (remove_entry test es)) → IsDistinct eq (keys_of (cond here es (e ∷ remove_entry test es)))
    go true rest = IsDistinct-tail eq e.0 (keys_of es) once
    go false rest = IsDistinct-cons eq e.0 (keys_of (remove_entry test es)) (all_left (λ k. eq e.0 k ≡ false) es (IsDistinct-head eq e.0 (keys_of es) once)) rest

  -- one entry fewer
  one_left : (es : List (K × X)) → is_some (lookup test es) ≡ true → length es ≡ length (remove_entry test es) + 1
  one_left [] found = cc
  one_left (e ∷ es) found = go (test e.0) (one_left es) found where
    go : (here : Bool) → (is_some (lookup test es) ≡ true → length es ≡ length (remove_entry test es) + 1) → is_some (cond here (Some e.1) (lookup test es)) ≡ true
        → length (e ∷ es) ≡ length (cond here es (e ∷ remove_entry test es)) + 1
    go true later is = omega arith
    go false later is = let rest = later is in omega arith

  -- there is nothing to take out
  pub remove_none : (es : List (K × X)) → lookup test es ≡ None → remove_entry test es ≡ es
  remove_none [] none = refl
  remove_none (e ∷ es) none = go (test e.0) (remove_none es) none where
    go : (here : Bool) → (lookup test es ≡ None → remove_entry test es ≡ es) → cond here (Some e.1) (lookup test es) ≡ None → cond here es (e ∷ remove_entry test es) ≡ e ∷ es
    go true later is = cc
    go false later is = ap (λ rest. e ∷ rest) (later is)

  none_among : (es : List (K × X)) → lookup test es ≡ None → list_any test (keys_of es) ≡ false
  none_among [] none = refl
  none_among (e ∷ es) none = go (test e.0) (none_among es) none where
    go : (here : Bool) → (lookup test es ≡ None → list_any test (keys_of es) ≡ false) → cond here (Some e.1) (lookup test es) ≡ None → (here || list_any test (keys_of es)) ≡ false
    go true later is = cc
    go false later is = later is

-- another name is found as before
lookup_other : {X : Type 0} (name other : List ℕ) → bytes_eq name other ≡ false → (es : List (List ℕ × X)) → lookup (bytes_eq other) (remove_entry (bytes_eq name) es) ≡ lookup (bytes_eq other) es
lookup_other name other differs [] = refl
lookup_other name other differs (e ∷ es) = go (bytes_eq name e.0) refl (lookup_other name other differs es) where
  go : (here : Bool) → bytes_eq name e.0 ≡ here → lookup (bytes_eq other) (remove_entry (bytes_eq name) es) ≡ lookup (bytes_eq other) es
      → lookup (bytes_eq other) (cond here es (e ∷ remove_entry (bytes_eq name) es)) ≡ cond (bytes_eq other e.0) (Some e.1) (lookup (bytes_eq other) es)
  go true same rest = ap (λ test. cond test (Some e.1) (lookup (bytes_eq other) es)) (sym (apart name other e.0 differs same))
  go false here rest = ap (cond (bytes_eq other e.0) (Some e.1)) rest

keys-append : {K X : Type 0} (xs ys : List (K × X)) → keys_of (xs ++ ys) ≡ keys_of xs ++ keys_of ys
keys-append [] ys = refl
keys-append (x ∷ xs) ys = ap (λ keys. x.0 ∷ keys) (keys-append xs ys)

module _ (name : List ℕ) where
  -- no block holds the name
  abbrev pub IsNowhere : List (List (List ℕ × Object)) → Type 0
  IsNowhere [] = Unit {0}
  IsNowhere (block ∷ blocks) = (is_some (lookup (bytes_eq name) block) ≡ false) × IsNowhere blocks

  -- the first block that holds the name is this one
  abbrev pub IsIn : List (List (List ℕ × Object)) → ℕ → Type 0
  IsIn [] number = ⊥
  IsIn (block ∷ blocks) zero = is_some (lookup (bytes_eq name) block) ≡ true
  IsIn (block ∷ blocks) (suc number) = (is_some (lookup (bytes_eq name) block) ≡ false) × IsIn blocks number

  abbrev pub Stands : List (List (List ℕ × Object)) → Option ℕ → Type 0
  Stands blocks None = IsNowhere blocks
  Stands blocks (Some number) = IsIn blocks number

  pub stands : (blocks : List (List (List ℕ × Object))) → Stands blocks (block_of name blocks)
  stands [] = tt
  stands (block ∷ blocks) = go (is_some (lookup (bytes_eq name) block)) refl (block_of name blocks) (stands blocks) where
    go : (here : Bool) → is_some (lookup (bytes_eq name) block) ≡ here → (rest : Option ℕ) → Stands blocks rest → Stands (block ∷ blocks) (cond here (Some 0) (option_map suc rest))
    go true held rest s = held
    go false held (Some number) s = (held, s)
    go false held None s = (held, s)

  pub stands_in : (blocks : List (List (List ℕ × Object))) (number : ℕ) → block_of name blocks ≡ Some number → IsIn blocks number
  stands_in blocks number at = subst (Stands blocks) at (stands blocks)

  pub stands_nowhere : (blocks : List (List (List ℕ × Object))) → block_of name blocks ≡ None → IsNowhere blocks
  stands_nowhere blocks none = subst (Stands blocks) none (stands blocks)

  numbered : (blocks : List (List (List ℕ × Object))) (number : ℕ) → IsIn blocks number → block_of name blocks ≡ Some number
  numbered [] number at = absurd at
  numbered (block ∷ blocks) zero at = ap (λ here. cond here (Some 0) (option_map suc (block_of name blocks))) at
  numbered (block ∷ blocks) (suc number) at = ap (λ here. cond here (Some 0) (option_map suc (block_of name blocks))) at.0 ∙ ap (option_map suc) (numbered blocks number at.1)

  pub unnumbered : (blocks : List (List (List ℕ × Object))) → IsNowhere blocks → block_of name blocks ≡ None
  unnumbered [] none = refl
  unnumbered (block ∷ blocks) none = ap (λ here. cond here (Some 0) (option_map suc (block_of name blocks))) none.0 ∙ ap (option_map suc) (unnumbered blocks none.1)

  -- a number of the index is that of a block
  pub within : (blocks : List (List (List ℕ × Object))) (number : ℕ) → IsIn blocks number → number < length blocks
  within [] number at = absurd at
  within (block ∷ blocks) zero at = omega arith
  within (block ∷ blocks) (suc number) at = let rest = within blocks number at.1 in omega arith

  -- the name is found where the block has it
  pub found_in : (blocks : List (List (List ℕ × Object))) (number : ℕ) (block : List (List ℕ × Object)) → IsIn blocks number → block ≡ get_or blocks number block
      → lookup (bytes_eq name) (all_names blocks) ≡ lookup (bytes_eq name) block
  found_in [] number block at is = absurd at
  found_in (first ∷ blocks) zero block at is =
      lookup_append (bytes_eq name) first (all_names blocks)
      ∙ ap (λ here. cond here (lookup (bytes_eq name) first) (lookup (bytes_eq name) (all_names blocks))) at ∙ ap (lookup (bytes_eq name)) (sym is)
  found_in (first ∷ blocks) (suc number) block at is =
      lookup_append (bytes_eq name) first (all_names blocks)
      ∙ ap (λ here. cond here (lookup (bytes_eq name) first) (lookup (bytes_eq name) (all_names blocks))) at.0 ∙ found_in blocks number block at.1 is

  held_in : (blocks : List (List (List ℕ × Object))) (number : ℕ) → IsIn blocks number → is_some (lookup (bytes_eq name) (all_names blocks)) ≡ true
  held_in [] number at = absurd at
  held_in (first ∷ blocks) zero at =
      ap is_some (lookup_append (bytes_eq name) first (all_names blocks) ∙ ap (λ here. cond here (lookup (bytes_eq name) first) (lookup (bytes_eq name) (all_names blocks))) at) ∙ at
  held_in (first ∷ blocks) (suc number) at =
      ap is_some (lookup_append (bytes_eq name) first (all_names blocks) ∙ ap (λ here. cond here (lookup (bytes_eq name) first) (lookup (bytes_eq name) (all_names blocks))) at.0)
      ∙ held_in blocks number at.1

  pub found_nowhere : (blocks : List (List (List ℕ × Object))) → IsNowhere blocks → lookup (bytes_eq name) (all_names blocks) ≡ None
  found_nowhere [] none = refl
  found_nowhere (first ∷ blocks) none =
      lookup_append (bytes_eq name) first (all_names blocks)
      ∙ ap (λ here. cond here (lookup (bytes_eq name) first) (lookup (bytes_eq name) (all_names blocks))) none.0 ∙ found_nowhere blocks none.1

  pub nowhere : (blocks : List (List (List ℕ × Object))) → lookup (bytes_eq name) (all_names blocks) ≡ None → IsNowhere blocks
  nowhere [] none = tt
  nowhere (first ∷ blocks) none = go (lookup (bytes_eq name) first) refl (nowhere blocks) (sym (lookup_append (bytes_eq name) first (all_names blocks)) ∙ none) where
    go : (here : Option Object) → lookup (bytes_eq name) first ≡ here → (lookup (bytes_eq name) (all_names blocks) ≡ None → IsNowhere blocks)
        → cond (is_some here) here (lookup (bytes_eq name) (all_names blocks)) ≡ None → IsNowhere (first ∷ blocks)
    go (Some value) is rest all = cc
    go None is rest all = (ap is_some is, rest all)

  -- no block has the name
  pub absent_in : (blocks : List (List (List ℕ × Object))) (number : ℕ) (block : List (List ℕ × Object)) → IsNowhere blocks → number < length blocks
      → block ≡ get_or blocks number block → lookup (bytes_eq name) block ≡ None
  absent_in [] number block none below is = absurd (omega (arith, below))
  absent_in (first ∷ blocks) zero block none below is = go (lookup (bytes_eq name) block) (ap (λ names. is_some (lookup (bytes_eq name) names)) is ∙ none.0) where
    go : (found : Option Object) → is_some found ≡ false → found ≡ None
    go (Some value) some = cc
    go None some = refl
  absent_in (first ∷ blocks) (suc number) block none below is = absent_in blocks number block none.1 (omega (arith, below)) is

  -- all names without one, which its block no more has
  pub removed_names : (blocks : List (List (List ℕ × Object))) (number : ℕ) (block : List (List ℕ × Object)) → IsIn blocks number → block ≡ get_or blocks number block
      → all_names (set blocks number (remove_entry (bytes_eq name) block)) ≡ remove_entry (bytes_eq name) (all_names blocks)
  removed_names [] number block at is = absurd at
  removed_names (first ∷ blocks) zero block at is =
      ap (λ names. remove_entry (bytes_eq name) names ++ all_names blocks) is
      ∙ sym (remove_append (bytes_eq name) first (all_names blocks) ∙ ap (λ here. cond here (remove_entry (bytes_eq name) first ++ all_names blocks) (first ++ remove_entry (bytes_eq name) (all_names blocks))) at)
  removed_names (first ∷ blocks) (suc number) block at is =
      ap (λ names. first ++ names) (removed_names blocks number block at.1 is)
      ∙ sym (remove_append (bytes_eq name) first (all_names blocks) ∙ ap (λ here. cond here (remove_entry (bytes_eq name) first ++ all_names blocks) (first ++ remove_entry (bytes_eq name) (all_names blocks))) at.0)

  -- a block that is changed stays the name's block, or another's, where it holds the name as before
  unmoved : (blocks : List (List (List ℕ × Object))) (number : ℕ) (block new : List (List ℕ × Object)) → block ≡ get_or blocks number block
      → is_some (lookup (bytes_eq name) new) ≡ is_some (lookup (bytes_eq name) block) → block_of name (set blocks number new) ≡ block_of name blocks
  unmoved [] number block new is same = refl
  unmoved (first ∷ blocks) zero block new is same =
      ap (λ here. cond here (Some 0) (option_map suc (block_of name blocks))) (same ∙ ap (λ names. is_some (lookup (bytes_eq name) names)) is)
  unmoved (first ∷ blocks) (suc number) block new is same =
      ap (λ rest. cond (is_some (lookup (bytes_eq name) first)) (Some 0) (option_map suc rest)) (unmoved blocks number block new is same)

  -- a name that no block held stands in the block that takes it
  now_in : (blocks : List (List (List ℕ × Object))) (number : ℕ) (new : List (List ℕ × Object)) → IsNowhere blocks → number < length blocks
      → is_some (lookup (bytes_eq name) new) ≡ true → IsIn (set blocks number new) number
  now_in [] number new none below held = absurd (omega (arith, below))
  now_in (first ∷ blocks) zero new none below held = held
  now_in (first ∷ blocks) (suc number) new none below held = (none.0, now_in blocks number new none.1 (omega (arith, below)) held)

-- what is left after a name was taken out of its block
pub removed : (name : List ℕ) (blocks : List (List (List ℕ × Object))) (index after : List (List ℕ × ℕ)) (count number : ℕ) (block : List (List ℕ × Object))
    → IsIndexed blocks index count → lookup (bytes_eq name) index ≡ Some number → block ≡ get_or blocks number block
    → ((other : List ℕ) → lookup (bytes_eq other) after ≡ cond (bytes_eq name other) None (lookup (bytes_eq other) index))
    → IsIndexed (set blocks number (remove_entry (bytes_eq name) block)) after (count - 1)
removed name blocks index after count number block kept at is forgotten =
    let here = stands_in name blocks number (sym (kept.blocks_are name) ∙ at) in
    let left = removed_names name blocks number block here is in
    record {
      blocks_are = λ other. forgotten other ∙ go left other (bytes_eq name other) refl;
      once = subst (λ names. IsDistinct bytes_eq (keys_of names)) (sym left) (distinct_left (bytes_eq name) bytes_eq (all_names blocks) kept.once);
      count_is =
          let fewer = one_left (bytes_eq name) (all_names blocks) (held_in name blocks number here) in
          let counted : count - 1 ≡ length (remove_entry (bytes_eq name) (all_names blocks)) = omega (arith, fewer, kept.count_is) in
          counted ∙ ap length (sym left);
    }
  where
    go : all_names (set blocks number (remove_entry (bytes_eq name) block)) ≡ remove_entry (bytes_eq name) (all_names blocks)
        → (other : List ℕ) (test : Bool) → bytes_eq name other ≡ test
        → cond test None (lookup (bytes_eq other) index) ≡ block_of other (set blocks number (remove_entry (bytes_eq name) block))
    go left other true same =
        let none : lookup (bytes_eq name) (all_names (set blocks number (remove_entry (bytes_eq name) block))) ≡ None =
        ap (lookup (bytes_eq name)) left
        ∙ lookup-remove_entry nat_list_eq_equiv (bytes_eq name) (nat_list_eq_equiv.congr name) name (all_names blocks) kept.once
        ∙ ap (λ test. cond test None (lookup (bytes_eq name) (all_names blocks))) (nat_list_eq_equiv.refl name) in
        let gone = unnumbered name (set blocks number (remove_entry (bytes_eq name) block)) (nowhere name _ none) in
        sym (ap (λ (n : List ℕ). block_of n (set blocks number (remove_entry (bytes_eq name) block))) (sym ((bytes_eq-Decides name other).0 same)) ∙ gone)
    go left other false differs =
        kept.blocks_are other ∙ sym (unmoved other blocks number block (remove_entry (bytes_eq name) block) is (ap is_some (lookup_other name other differs block)))

-- where the index knows a name, one is held
pub some_held : (name : List ℕ) (blocks : List (List (List ℕ × Object))) (index : List (List ℕ × ℕ)) (count number : ℕ)
    → IsIndexed blocks index count → lookup (bytes_eq name) index ≡ Some number → 1 ≤ count
some_held name blocks index count number kept at =
    let fewer = one_left (bytes_eq name) (all_names blocks) (held_in name blocks number (stands_in name blocks number (sym (kept.blocks_are name) ∙ at))) in
    omega (arith, fewer, kept.count_is)

opened_names : (blocks : List (List (List ℕ × Object))) → all_names (blocks ++ [] ∷ []) ≡ all_names blocks
opened_names [] = refl
opened_names (block ∷ blocks) = ap (λ names. block ++ names) (opened_names blocks)

opened_blocks : (name : List ℕ) (blocks : List (List (List ℕ × Object))) → block_of name (blocks ++ [] ∷ []) ≡ block_of name blocks
opened_blocks name [] = refl
opened_blocks name (block ∷ blocks) = ap (λ rest. cond (is_some (lookup (bytes_eq name) block)) (Some 0) (option_map suc rest)) (opened_blocks name blocks)

-- an empty block more
pub opened : (blocks : List (List (List ℕ × Object))) → KeepsNames blocks (blocks ++ [] ∷ [])
opened blocks = record { names = opened_names blocks; blocks = λ name. opened_blocks name blocks }

-- no block more
pub unopened : (blocks : List (List (List ℕ × Object))) → KeepsNames blocks blocks
unopened blocks = record { names = refl; blocks = λ name. refl }

-- the same names in the same blocks, and an index that says the same
pub kept_index : (old new : List (List (List ℕ × Object))) (index after : List (List ℕ × ℕ)) (count : ℕ) → IsIndexed old index count → KeepsNames old new
    → ((name : List ℕ) → lookup (bytes_eq name) after ≡ lookup (bytes_eq name) index) → IsIndexed new after count
kept_index old new index after count kept keeps says = record {
  blocks_are = λ name. says name ∙ kept.blocks_are name ∙ sym (keeps.blocks name);
  once = subst (λ names. IsDistinct bytes_eq (keys_of names)) (sym keeps.names) kept.once;
  count_is = kept.count_is ∙ ap length (sym keeps.names);
}

-- a name at the end of the last block comes last
pub added_names : (blocks : List (List (List ℕ × Object))) (number : ℕ) (block : List (List ℕ × Object)) (entry : List ℕ × Object) → number + 1 ≡ length blocks
    → block ≡ get_or blocks number block → all_names (set blocks number (block ++ entry ∷ [])) ≡ all_names blocks ++ entry ∷ []
added_names [] number block entry last is = absurd (omega (arith, last))
added_names (first ∷ []) zero block entry last is = append-nil (block ++ entry ∷ []) ∙ ap (λ names. names ++ entry ∷ []) (is ∙ sym (append-nil first))
added_names (first ∷ second ∷ blocks) zero block entry last is = absurd (omega (arith, last))
added_names (first ∷ blocks) (suc number) block entry last is =
    ap (λ names. first ++ names) (added_names blocks number block entry (omega (arith, last)) is) ∙ sym (append_assoc first (all_names blocks) (entry ∷ []))

-- another name is found in a block as before one was added
other_added : (name other : List ℕ) (at : Object) (block : List (List ℕ × Object)) → bytes_eq name other ≡ false
    → is_some (lookup (bytes_eq other) (block ++ (name, at) ∷ [])) ≡ is_some (lookup (bytes_eq other) block)
other_added name other at block differs =
    ap is_some (lookup_append (bytes_eq other) block ((name, at) ∷ []) ∙ ap (λ test. cond (is_some (lookup (bytes_eq other) block)) (lookup (bytes_eq other) block) (cond test (Some at) None)) (nat_list_eq_equiv.symm other name ∙ differs))
    ∙ go (lookup (bytes_eq other) block)
  where
    go : (found : Option Object) → is_some (cond (is_some found) found None) ≡ is_some found
    go (Some value) = refl
    go None = refl

-- a name is found in the block to which it was added
now_held : (name : List ℕ) (at : Object) (block : List (List ℕ × Object)) → is_some (lookup (bytes_eq name) (block ++ (name, at) ∷ [])) ≡ true
now_held name at block =
    ap is_some (lookup_append (bytes_eq name) block ((name, at) ∷ []) ∙ ap (λ test. cond (is_some (lookup (bytes_eq name) block)) (lookup (bytes_eq name) block) (cond test (Some at) None)) (nat_list_eq_equiv.refl name))
    ∙ go (lookup (bytes_eq name) block)
  where
    go : (found : Option Object) → is_some (cond (is_some found) found (Some at)) ≡ true
    go (Some value) = refl
    go None = refl

-- the index after a name was added to the last block
pub added : (name : List ℕ) (at : Object) (blocks : List (List (List ℕ × Object))) (index after : List (List ℕ × ℕ)) (count number : ℕ) (block : List (List ℕ × Object))
    → IsIndexed blocks index count → lookup (bytes_eq name) (all_names blocks) ≡ None → number + 1 ≡ length blocks → block ≡ get_or blocks number block
    → ((other : List ℕ) → lookup (bytes_eq other) after ≡ cond (bytes_eq name other) (Some number) (lookup (bytes_eq other) index))
    → IsIndexed (set blocks number (block ++ (name, at) ∷ [])) after (count + 1)
added name at blocks index after count number block kept new last is noted =
    let more = added_names blocks number block (name, at) last is in
    record {
      blocks_are = λ other. noted other ∙ go other (bytes_eq name other) refl;
      once = subst (λ names. IsDistinct bytes_eq (keys_of names)) (sym more)
          (subst (IsDistinct bytes_eq) (sym (keys-append (all_names blocks) ((name, at) ∷ [])))
          (IsDistinct-push nat_list_eq_equiv (keys_of (all_names blocks)) name kept.once (none_among (bytes_eq name) (all_names blocks) new)));
      count_is = omega (arith, kept.count_is, length-append (all_names blocks) ((name, at) ∷ []), ap length more);
    }
  where
    go : (other : List ℕ) (test : Bool) → bytes_eq name other ≡ test
        → cond test (Some number) (lookup (bytes_eq other) index) ≡ block_of other (set blocks number (block ++ (name, at) ∷ []))
    go other true same =
        sym (ap (λ (n : List ℕ). block_of n (set blocks number (block ++ (name, at) ∷ []))) (sym ((bytes_eq-Decides name other).0 same))
        ∙ numbered name _ number (now_in name blocks number (block ++ (name, at) ∷ []) (nowhere name blocks new) (omega (arith, last)) (now_held name at block)))
    go other false differs = kept.blocks_are other ∙ sym (unmoved other blocks number block (block ++ (name, at) ∷ []) is (other_added name other at block differs))

-- the index after an addition that failed
pub undone : (name : List ℕ) (number : ℕ) (index noted after : List (List ℕ × ℕ)) → lookup (bytes_eq name) index ≡ None
    → ((other : List ℕ) → lookup (bytes_eq other) noted ≡ cond (bytes_eq name other) (Some number) (lookup (bytes_eq other) index))
    → ((other : List ℕ) → lookup (bytes_eq other) after ≡ cond (bytes_eq name other) None (lookup (bytes_eq other) noted))
    → (other : List ℕ) → lookup (bytes_eq other) after ≡ lookup (bytes_eq other) index
undone name number index noted after none notes forgets other = forgets other ∙ ap (cond (bytes_eq name other) None) (notes other) ∙ go (bytes_eq name other) refl where
  go : (test : Bool) → bytes_eq name other ≡ test → cond test None (cond test (Some number) (lookup (bytes_eq other) index)) ≡ lookup (bytes_eq other) index
  go true same = sym (ap (λ (n : List ℕ). lookup (bytes_eq n) index) (sym ((bytes_eq-Decides name other).0 same)) ∙ none)
  go false differs = refl

module _ {X : Type 0} where
  -- a place in the first of two lists
  pub get_within : (xs ys : List X) (place : ℕ) → place < length xs → slice_get (xs ++ ys) place ≡ slice_get xs place
  get_within [] ys place below = absurd (omega (arith, below))
  get_within (x ∷ xs) ys zero below = refl
  get_within (x ∷ xs) ys (suc place) below = get_within xs ys place (omega (arith, below))

  -- a place behind it
  pub get_behind : (xs ys : List X) (place left : ℕ) → length xs + left ≡ place → slice_get (xs ++ ys) place ≡ slice_get ys left
  get_behind [] ys place left is = ap (slice_get ys) (omega (arith, is))
  get_behind (x ∷ xs) ys zero left is = absurd (omega (arith, is))
  get_behind (x ∷ xs) ys (suc place) left is = get_behind xs ys place left (omega (arith, is))

all_in_front : {K X : Type 0} (P : K → Type 0) (xs ys : List (K × X)) → AllByRecursion P (keys_of (xs ++ ys)) → AllByRecursion P (keys_of xs)
all_in_front P [] ys all = tt
all_in_front P (x ∷ xs) ys all = (all.0, all_in_front P xs ys all.1)

all_behind : {K X : Type 0} (P : K → Type 0) (xs ys : List (K × X)) → AllByRecursion P (keys_of (xs ++ ys)) → AllByRecursion P (keys_of ys)
all_behind P [] ys all = all
all_behind P (x ∷ xs) ys all = all_behind P xs ys all.1

module _ {X : Type 0} where
  -- keys that differ do so in front
  pub distinct_front : (xs ys : List (List ℕ × X)) → IsDistinct bytes_eq (keys_of (xs ++ ys)) → IsDistinct bytes_eq (keys_of xs)
  unfolding IsDistinct
  distinct_front [] ys once = tt
  distinct_front (x ∷ xs) ys once = (all_in_front (λ key. bytes_eq x.0 key ≡ false) xs ys once.0, distinct_front xs ys once.1)

  -- a name is none of those before it
  pub new_among : (xs : List (List ℕ × X)) (entry : List ℕ × X) (ys : List (List ℕ × X)) → IsDistinct bytes_eq (keys_of (xs ++ entry ∷ ys)) → lookup (bytes_eq entry.0) xs ≡ None
  unfolding IsDistinct
  new_among [] entry ys once = refl
  new_among (x ∷ xs) entry ys once =
      ap (λ test. cond test (Some x.1) (lookup (bytes_eq entry.0) xs)) (nat_list_eq_equiv.symm entry.0 x.0 ∙ (all_behind (λ key. bytes_eq x.0 key ≡ false) xs (entry ∷ ys) once.0).0)
      ∙ new_among xs entry ys once.1

nothing_twice : IsDistinct {K = List ℕ} bytes_eq []
unfolding IsDistinct
nothing_twice = tt

-- no names at all
pub none_indexed : (blocks : List (List (List ℕ × Object))) (index : List (List ℕ × ℕ)) → blocks ≡ [] → index ≡ [] → IsIndexed blocks index 0
none_indexed blocks index no_blocks no_index =
    subst (λ b. IsIndexed b index 0) (sym no_blocks) (subst (λ i. IsIndexed [] i 0) (sym no_index) (record { blocks_are = λ name. refl; once = nothing_twice; count_is = refl }))

module _ {X : Type 0} where
  -- what is left of a list, with its first item
  pub next_left : (xs : List X) (place : ℕ) (x : X) → slice_get xs place ≡ Some x → drop place xs ≡ x ∷ drop (place + 1) xs
  next_left xs place x at =
      drop_more xs place x (slice_get_within xs place x at) ∙ ap (λ first. first ∷ drop (place + 1) xs) (get_or_from_slice_get xs place x x at)

  -- nothing is left
  pub all_gone : (xs : List X) (place : ℕ) → length xs ≤ place → drop place xs ≡ []
  all_gone [] zero past = refl
  all_gone [] (suc place) past = refl
  all_gone (x ∷ xs) zero past = absurd (omega (arith, past))
  all_gone (x ∷ xs) (suc place) past = all_gone xs place (omega (arith, past))

  -- nothing is left where there is no item
  pub none_left : (xs : List X) (place : ℕ) → slice_get xs place ≡ None → drop place xs ≡ []
  none_left [] zero none = refl
  none_left [] (suc place) none = refl
  none_left (x ∷ xs) zero none = cc
  none_left (x ∷ xs) (suc place) none = none_left xs place none

-- what is left of blocks, with the next
pub next_block : (blocks : List (List (List ℕ × Object))) (place : ℕ) (block : List (List ℕ × Object)) → place < length blocks → block ≡ get_or blocks place block
    → all_names (drop place blocks) ≡ block ++ all_names (drop (place + 1) blocks)
next_block blocks place block below is =
    ap all_names (drop_more blocks place block below) ∙ ap (λ names. names ++ all_names (drop (place + 1) blocks)) (sym is)

-- the names so far and those left, once the next block is among the former
pub one_block_more : (names all : List (List ℕ × Object)) (blocks : List (List (List ℕ × Object))) (place : ℕ) (block : List (List ℕ × Object)) → place < length blocks
    → block ≡ get_or blocks place block → names ++ all_names (drop place blocks) ≡ all → (names ++ block) ++ all_names (drop (place + 1) blocks) ≡ all
one_block_more names all blocks place block below is so_far =
    append_assoc names block (all_names (drop (place + 1) blocks)) ∙ ap (λ rest. names ++ rest) (sym (next_block blocks place block below is)) ∙ so_far
