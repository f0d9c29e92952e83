-- Rows that are kept, as pairs of a key and a row.
use Rattle.std.proofs.Common.{◌≡◌, ℕ, zero, suc, ◌-◌, List, [], ◌∷◌, take, map, refl, sym, ◌∙◌, ap, subst, Bool, true, false, cond, Option, Some, None}
use Rattle.std.specs.Prelude.{◌==◌, ◌&&◌}
use Rattle.std.specs.Option.{option_map_or}
use Rattle.std.specs.Prelude.{option_map, IfSome}
use Rattle.std.specs.Str.{bytes_eq}
use Rattle.std.specs.Map.{lookup, lookup_entry, remove_entry}
use Rattle.lru.specs.LruCache.{LruCache, promoted, put_entries}
use Rattle.rs_code.specs.RowCache.{KeptRow, KeptRows, found, others, renewed, with_row}

module _ {K : Type 0} (held_of : K → List ℕ) (want_of : K → ℕ) where
  abbrev pub kept_of : K × List ℕ → KeptRow
  kept_of e = record { held = held_of e.0; want = want_of e.0; row = e.1 }

  abbrev pub rows_of : ℕ → List (K × List ℕ) → KeptRows
  rows_of cap es = record { cached = cap; entries = map kept_of es }

  take_kept : (n : ℕ) (es : List (K × List ℕ)) → map kept_of (take n es) ≡ take n (map kept_of es)
  take_kept zero es = refl
  take_kept (suc n) [] = refl
  take_kept (suc n) (e ∷ es) = ap (λ xs. kept_of e ∷ xs) (take_kept n es)

  module _ (held : List ℕ) (want : ℕ) (test : K → Bool) (same : (k : K) → test k ≡ (bytes_eq held (held_of k) && (want == want_of k))) where
    found_kept : (es : List (K × List ℕ)) → found held want (map kept_of es) ≡ option_map kept_of (lookup_entry test es)
    found_kept [] = refl
    found_kept (e ∷ es) = ap (λ b. cond b (Some (kept_of e)) (found held want (map kept_of es))) (sym (same e.0)) ∙ step (test e.0) (found_kept es)
      where
        step : (b : Bool) → found held want (map kept_of es) ≡ option_map kept_of (lookup_entry test es)
            → cond b (Some (kept_of e)) (found held want (map kept_of es)) ≡ option_map kept_of (cond b (Some e) (lookup_entry test es))
        step true h = refl
        step false h = h

    others_kept : (es : List (K × List ℕ)) → others held want (map kept_of es) ≡ map kept_of (remove_entry test es)
    others_kept [] = refl
    others_kept (e ∷ es) = ap (λ b. cond b (map kept_of es) (kept_of e ∷ others held want (map kept_of es))) (sym (same e.0)) ∙ step (test e.0) (others_kept es)
      where
        step : (b : Bool) → others held want (map kept_of es) ≡ map kept_of (remove_entry test es)
            → cond b (map kept_of es) (kept_of e ∷ others held want (map kept_of es)) ≡ map kept_of (cond b es (e ∷ remove_entry test es))
        step true h = refl
        step false h = ap (λ xs. kept_of e ∷ xs) h

    lookup_by_entry : (es : List (K × List ℕ)) → lookup test es ≡ option_map (λ e. e.1) (lookup_entry test es)
    lookup_by_entry [] = refl
    lookup_by_entry (e ∷ es) = step (test e.0) (lookup_by_entry es)
      where
        step : (b : Bool) → lookup test es ≡ option_map (λ e. e.1) (lookup_entry test es)
            → cond b (Some e.1) (lookup test es) ≡ option_map (λ f. f.1) (cond b (Some e) (lookup_entry test es))
        step true h = refl
        step false h = h

    pub row_kept : (es : List (K × List ℕ)) → lookup test es ≡ option_map (λ (entry : KeptRow). entry.row) (found held want (map kept_of es))
    row_kept es = lookup_by_entry es ∙ go (lookup_entry test es) ∙ ap (option_map (λ (entry : KeptRow). entry.row)) (sym (found_kept es))
      where
        go : (o : Option (K × List ℕ)) → option_map (λ e. e.1) o ≡ option_map (λ (entry : KeptRow). entry.row) (option_map kept_of o)
        go None = refl
        go (Some e) = refl

    -- a row that is found comes first
    pub row_renewed : (cap : ℕ) (es : List (K × List ℕ)) → IfSome (found held want (map kept_of es)) (λ entry. rows_of cap (promoted test es) ≡ renewed held want entry (rows_of cap es))
    row_renewed cap es =
        subst (λ o. IfSome o (λ entry. rows_of cap (promoted test es) ≡ renewed held want entry (rows_of cap es))) (sym (found_kept es)) (go (lookup_entry test es))
      where
        go : (o : Option (K × List ℕ)) → IfSome (option_map kept_of o) (λ entry. rows_of cap (option_map_or (λ f. f ∷ remove_entry test es) o es) ≡ renewed held want entry (rows_of cap es))
        go None = tt
        go (Some e) = ap (λ xs. record { cached = cap; entries = kept_of e ∷ xs }) (sym (others_kept es))

    pub row_renewed_as : (cap : ℕ) (es : List (K × List ℕ)) (old new : KeptRows) → rows_of cap es ≡ old → new ≡ rows_of cap (promoted test es) → IfSome (found held want old.entries) (λ entry. new ≡ renewed held want entry old)
    row_renewed_as cap es old new was after =
        subst (λ rows. IfSome (found held want rows.entries) (λ entry. new ≡ renewed held want entry rows)) was
        (subst (λ rows. IfSome (found held want (map kept_of es)) (λ entry. rows ≡ renewed held want entry (rows_of cap es))) (sym after) (row_renewed cap es))

  -- a row that wasn't found goes first
  pub put_kept : (eq : K → K → Bool) (key : K) (same : (k : K) → eq key k ≡ (bytes_eq (held_of key) (held_of k) && (want_of key == want_of k))) (c : LruCache K (List ℕ)) (row : List ℕ)
      → found (held_of key) (want_of key) (map kept_of c.entries) ≡ None → rows_of c.cap (put_entries eq c key row) ≡ with_row (held_of key) (want_of key) row (rows_of c.cap c.entries)
  put_kept eq key same c row gone = go (lookup_entry (eq key) c.entries) refl (sym (found_kept (held_of key) (want_of key) (eq key) same c.entries) ∙ gone)
    where
      go : (o : Option (K × List ℕ)) → lookup_entry (eq key) c.entries ≡ o → option_map kept_of (lookup_entry (eq key) c.entries) ≡ None
          → rows_of c.cap (put_entries eq c key row) ≡ with_row (held_of key) (want_of key) row (rows_of c.cap c.entries)
      go None at none =
          ap (λ o. rows_of c.cap (option_map_or (λ e. (e.0, row) ∷ remove_entry (eq key) c.entries) o ((key, row) ∷ take (c.cap - 1) c.entries))) at
          ∙ ap (λ xs. record { cached = c.cap; entries = kept_of (key, row) ∷ xs }) (take_kept (c.cap - 1) c.entries)
      go (Some e) at none = let bad : Some (kept_of e) ≡ None = sym (ap (option_map kept_of) at) ∙ none in cc
