-- Entries whose rows fit, before and after a look-up.
use Rattle.std.proofs.Common.{◌≡◌, ℕ, zero, suc, ◌-◌, List, [], ◌∷◌, take, refl, sym, subst, Bool, true, false, cond, Option, Some, None}
use Rattle.std.specs.Prelude.{◌==◌, option_map, IfSome}
use Rattle.std.specs.Str.{bytes_eq}
use Rattle.std.proofs.lemmas.Bool.{eqb-true, and_parts}
use Rattle.std.proofs.lemmas.Slice.Eq.{bytes_eq-Decides}
use Rattle.rs_code.specs.RowCache.{KeptRow, KeptRows, is_for, found, others, AllFit, renewed, with_row, IsGivenBy, IsRowOf}

module _ (F : List ℕ → ℕ → List ℕ → Type 0) where
  fit_found : (held : List ℕ) (want : ℕ) (entries : List KeptRow) (entry : KeptRow) → found held want entries ≡ Some entry → AllFit F entries → F entry.held entry.want entry.row
  fit_found held want [] entry at fit = cc
  fit_found held want (e ∷ es) entry at fit = go (is_for held want e) at (fit_found held want es entry)
    where
      go : (b : Bool) → cond b (Some e) (found held want es) ≡ Some entry → (found held want es ≡ Some entry → AllFit F es → F entry.held entry.want entry.row) → F entry.held entry.want entry.row
      go true same later = let here : e ≡ entry = cc in subst (λ x. F x.held x.want x.row) here fit.0
      go false same later = later same fit.1

  fit_here : (held : List ℕ) (want : ℕ) (entries : List KeptRow) (entry : KeptRow) → found held want entries ≡ Some entry → AllFit F entries → F held want entry.row
  fit_here held want [] entry at fit = cc
  fit_here held want (e ∷ es) entry at fit = go (is_for held want e) refl at (fit_here held want es entry)
    where
      go : (b : Bool) → is_for held want e ≡ b → cond b (Some e) (found held want es) ≡ Some entry → (found held want es ≡ Some entry → AllFit F es → F held want entry.row) → F held want entry.row
      go true test same later =
          let here : e ≡ entry = cc in
          let parts = and_parts (bytes_eq held e.held) (want == e.want) test in
          let indexes : held ≡ e.held = (bytes_eq-Decides held e.held).0 parts.0 in
          let index : want ≡ e.want = eqb-true want e.want parts.1 in
          subst (λ h. F h want entry.row) (sym indexes) (subst (λ w. F e.held w entry.row) (sym index) (subst (λ x. F e.held e.want x.row) here fit.0))
      go false test same later = later same fit.1

  -- a row that is kept fits the indexes that were asked for
  pub fit_asked : (held asked : List ℕ) (want index : ℕ) (old : KeptRows) (row : List ℕ) → held ≡ asked → want ≡ index → Some row ≡ option_map (λ (entry : KeptRow). entry.row) (found held want old.entries) → AllFit F old.entries → F asked index row
  fit_asked held asked want index old row same_held same_want there fit =
      subst (λ h. F h index row) same_held (subst (λ w. F held w row) same_want (go (found held want old.entries) refl there))
    where
      go : (o : Option KeptRow) → found held want old.entries ≡ o → Some row ≡ option_map (λ (entry : KeptRow). entry.row) o → F held want row
      go None at some = cc
      go (Some entry) at some = let same : row ≡ entry.row = cc in subst (λ r. F held want r) (sym same) (fit_here held want old.entries entry at fit)

  fit_others : (held : List ℕ) (want : ℕ) (entries : List KeptRow) → AllFit F entries → AllFit F (others held want entries)
  fit_others held want [] fit = tt
  fit_others held want (e ∷ es) fit = go (is_for held want e) (fit_others held want es fit.1)
    where
      go : (b : Bool) → AllFit F (others held want es) → AllFit F (cond b es (e ∷ others held want es))
      go true later = fit.1
      go false later = (fit.0, later)

  fit_take : (n : ℕ) (entries : List KeptRow) → AllFit F entries → AllFit F (take n entries)
  fit_take zero es fit = tt
  fit_take (suc n) [] fit = tt
  fit_take (suc n) (e ∷ es) fit = (fit.0, fit_take n es fit.1)

  -- also where an entry was renewed
  pub fit_renewed : (held : List ℕ) (want : ℕ) (old new : KeptRows) (row : List ℕ) → Some row ≡ option_map (λ (entry : KeptRow). entry.row) (found held want old.entries)
      → IfSome (found held want old.entries) (λ entry. new ≡ renewed held want entry old) → AllFit F old.entries → AllFit F new.entries
  fit_renewed held want old new row there kept fit = go (found held want old.entries) refl there kept
    where
      go : (o : Option KeptRow) → found held want old.entries ≡ o → Some row ≡ option_map (λ (entry : KeptRow). entry.row) o → IfSome o (λ entry. new ≡ renewed held want entry old) → AllFit F new.entries
      go None at some k = cc
      go (Some entry) at some k = subst (λ rows. AllFit F rows.entries) (sym k) (fit_found held want old.entries entry at fit, fit_others held want old.entries fit)

  -- and where a row that fits was added
  pub fit_added : (held : List ℕ) (want : ℕ) (row : List ℕ) (old new : KeptRows) → new ≡ with_row held want row old → F held want row → AllFit F old.entries → AllFit F new.entries
  fit_added held want row old new e here fit = subst (λ rows. AllFit F rows.entries) (sym e) (here, fit_take (old.cached - 1) old.entries fit)

  -- what fits goes on to do so
  pub fit_on : (G : List ℕ → ℕ → List ℕ → Type 0) → ((held : List ℕ) (want : ℕ) (row : List ℕ) → F held want row → G held want row) → (entries : List KeptRow) → AllFit F entries → AllFit G entries
  fit_on G keeps [] fit = tt
  fit_on G keeps (e ∷ es) fit = (keeps e.held e.want e.row fit.0, fit_on G keeps es fit.1)

  -- the answer of a look-up that found a row
  pub given_kept : (held : List ℕ) (want made : ℕ) (old new : KeptRows) (row : List ℕ) → Some row ≡ option_map (λ (entry : KeptRow). entry.row) (found held want old.entries)
      → IfSome (found held want old.entries) (λ entry. new ≡ renewed held want entry old) → IsRowOf F held want old new made made row
  given_kept held want made old new row there kept = go (found held want old.entries) refl there kept
    where
      go : (o : Option KeptRow) → found held want old.entries ≡ o → Some row ≡ option_map (λ (entry : KeptRow). entry.row) o → IfSome o (λ entry. new ≡ renewed held want entry old)
          → IsRowOf F held want old new made made row
      go None at some k = cc
      go (Some entry) at some k =
          let same : row ≡ entry.row = cc in
          subst (λ o. IsGivenBy o F held want old new made made row) (sym at) (same, k, refl)

  -- the same where the indexes have other names
  pub given_as : (held asked : List ℕ) (want index made : ℕ) (old new : KeptRows) (row : List ℕ) → held ≡ asked → want ≡ index → Some row ≡ option_map (λ (entry : KeptRow). entry.row) (found held want old.entries)
      → IfSome (found held want old.entries) (λ entry. new ≡ renewed held want entry old) → IsRowOf F asked index old new made made row
  given_as held asked want index made old new row same_held same_want there kept =
      subst (λ h. IsRowOf F h index old new made made row) same_held (subst (λ w. IsRowOf F held w old new made made row) same_want (given_kept held want made old new row there kept))
