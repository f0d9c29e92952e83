-- The blobs that a listing shows.
use Rattle.std.proofs.Common.{◌≡◌, ◌∙◌, sym, ap, refl, subst, ℕ, Bool, true, false, cond, ◌||◌, List, [], ◌∷◌, Option, None, Some, nat_eq, eqb, arith}
use Rattle.std.proofs.lemmas.Bool.Decides.{nat_tests}
use Rattle.std.specs.List.{IsDistinct, AllByRecursion, list_any}
use Rattle.std.specs.Map.{lookup, keys_of}
use Rattle.std.proofs.lemmas.Map.Keys.{IsDistinct-head, IsDistinct-tail, IsDistinct-cons}
use Rattle.std.specs.List.Sorted.{IsStrictlyIncreasing}
use Rattle.std.specs.Ordering.{nat_cmp}
use Rattle.std.specs.FinMap.{FinMap, get, from_entries}
use Rattle.chunk_store.specs.Kept.{KeptRows, bids_where, Lists}
use Rattle.chunk_store.proofs.Entries.{get_entry}
use Rattle.chunk_store.specs.declared.index.KeptRow.{KeptRow}

module _ (wanted : Option KeptRow → Bool) where
  cond_all : (P : ℕ → Type 0) (test : Bool) (x : ℕ) (xs : List ℕ) → P x → AllByRecursion P xs → AllByRecursion P (cond test (x ∷ xs) xs)
  cond_all P true x xs p all = (p, all)
  cond_all P false x xs p all = all

  some_keys : (P : ℕ → Type 0) (es : List (ℕ × KeptRow)) → AllByRecursion P (keys_of es) → AllByRecursion P (bids_where wanted es)
  some_keys P [] all = tt
  some_keys P (e ∷ es) all = cond_all P (wanted (Some e.1)) e.0 (bids_where wanted es) all.0 (some_keys P es all.1)

  cond_distinct : (test : Bool) (x : ℕ) (xs : List ℕ) → AllByRecursion (λ y. nat_eq x y ≡ false) xs → IsDistinct nat_eq xs → IsDistinct nat_eq (cond test (x ∷ xs) xs)
  cond_distinct true x xs apart distinct = IsDistinct-cons nat_eq x xs apart distinct
  cond_distinct false x xs apart distinct = distinct

  pub listed_once : (es : List (ℕ × KeptRow)) → IsDistinct nat_eq (keys_of es) → IsDistinct nat_eq (bids_where wanted es)
  listed_once [] distinct = distinct
  listed_once (e ∷ es) distinct =
      cond_distinct (wanted (Some e.1)) e.0 (bids_where wanted es)
      (some_keys (λ y. nat_eq e.0 y ≡ false) es (IsDistinct-head nat_eq e.0 (keys_of es) distinct))
      (listed_once es (IsDistinct-tail nat_eq e.0 (keys_of es) distinct))

  -- a key apart from all others isn't found
  none_found : (es : List (ℕ × KeptRow)) (key : ℕ) → AllByRecursion (λ y. nat_eq key y ≡ false) (keys_of es) → lookup (nat_eq key) es ≡ None
  none_found [] key apart = refl
  none_found (e ∷ es) key apart =
      ap (λ b. cond b (Some e.1) (lookup (nat_eq key) es)) apart.0 ∙ none_found es key apart.1

  here : (test : Bool) (key bid : ℕ) (listed : List ℕ) → nat_eq key bid ≡ true → list_any (λ other. eqb other bid) listed ≡ false → list_any (λ other. eqb other bid) (cond test (key ∷ listed) listed) ≡ test
  here true key bid listed same rest = ap (λ b. b || list_any (λ other. eqb other bid) listed) same
  here false key bid listed same rest = rest

  elsewhere : (test : Bool) (key bid : ℕ) (listed : List ℕ) → nat_eq key bid ≡ false → list_any (λ other. eqb other bid) (cond test (key ∷ listed) listed) ≡ list_any (λ other. eqb other bid) listed
  elsewhere true key bid listed apart = ap (λ b. b || list_any (λ other. eqb other bid) listed) apart
  elsewhere false key bid listed apart = refl

  same_bid : (a b : ℕ) → nat_eq a b ≡ true → a ≡ b
  same_bid a b e = grind (arith, nat_tests)

  turned : (a b : ℕ) (t : Bool) → nat_eq a b ≡ t → nat_eq b a ≡ t
  turned a b t e = grind (arith, nat_tests)

  module _ (none : wanted None ≡ false) where
    either : (e : ℕ × KeptRow) (es : List (ℕ × KeptRow)) (bid : ℕ) → AllByRecursion (λ y. nat_eq e.0 y ≡ false) (keys_of es) → list_any (λ other. eqb other bid) (bids_where wanted es) ≡ wanted (lookup (nat_eq bid) es) → (same : Bool) → nat_eq e.0 bid ≡ same → list_any (λ other. eqb other bid) (bids_where wanted (e ∷ es)) ≡ wanted (cond (nat_eq bid e.0) (Some e.1) (lookup (nat_eq bid) es))
    either e es bid apart rest true is =
        here (wanted (Some e.1)) e.0 bid (bids_where wanted es) is
        (rest ∙ ap wanted (none_found es bid (subst (λ key. AllByRecursion (λ y. nat_eq key y ≡ false) (keys_of es)) (same_bid e.0 bid is) apart)) ∙ none)
        ∙ ap (λ b. wanted (cond b (Some e.1) (lookup (nat_eq bid) es))) (sym (turned e.0 bid true is))
    either e es bid apart rest false is =
        elsewhere (wanted (Some e.1)) e.0 bid (bids_where wanted es) is
        ∙ rest
        ∙ ap (λ b. wanted (cond b (Some e.1) (lookup (nat_eq bid) es))) (sym (turned e.0 bid false is))

    -- a blob is listed exactly where its row passes the test
    pub listed_rightly : (es : List (ℕ × KeptRow)) (bid : ℕ) → IsDistinct nat_eq (keys_of es) → list_any (λ other. eqb other bid) (bids_where wanted es) ≡ wanted (lookup (nat_eq bid) es)
    listed_rightly [] bid distinct = sym none
    listed_rightly (e ∷ es) bid distinct =
        either e es bid (IsDistinct-head nat_eq e.0 (keys_of es) distinct)
        (listed_rightly es bid (IsDistinct-tail nat_eq e.0 (keys_of es) distinct)) (nat_eq e.0 bid) refl

    pub shows : (es : List (ℕ × KeptRow)) (kept : KeptRows) (bids listed : List ℕ) → kept.rows ≡ from_entries es → bids ≡ bids_where wanted es → IsDistinct nat_eq (keys_of es) → IsStrictlyIncreasing listed → ((bid : ℕ) → list_any (λ other. eqb other bid) listed ≡ list_any (λ other. eqb other bid) bids) → Lists wanted kept listed
    shows es kept bids listed rows_are bids_are distinct order same = record {
      ascending = order;
      exactly = λ bid.
          same bid ∙ ap (list_any (λ other. eqb other bid)) bids_are ∙ listed_rightly es bid distinct
          ∙ ap wanted (sym (ap (λ (rows : FinMap nat_cmp KeptRow). get rows bid) rows_are ∙ get_entry es bid));
    }
