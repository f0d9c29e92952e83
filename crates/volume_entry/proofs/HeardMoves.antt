-- What moves in memory tell, where one of them changes.
use Rattle.std.proofs.Common.{◌≡◌, ◌∙◌, sym, ap, refl, ℕ, zero, suc, ◌+◌, ◌<◌, ◌≤◌, Bool, true, false, cond, ◌&&◌, ◌||◌, ◌==◌, List, [], ◌∷◌, ◌++◌, length, take, get_or, set, map, arith, Option, Some, None}
use Rattle.std.specs.Prelude.{is_some}
use Rattle.std.proofs.lemmas.List.{take_more, take_all}
use Rattle.unit_id.specs.Lists.{is_in}
use Rattle.unit_id.proofs.Bools.{same_number, equal_test, not_so, contrary}
use Rattle.volume_entry.specs.Manager.{Transfer, Heard, HeardRow, without_rows}
use Rattle.volume_entry.specs.ManagerStep.{rows_at}
use Rattle.volume_entry.specs.Benchmark.{was_heard}
use Rattle.volume_entry.specs.HeardMemory.{HeardMove, move_of, is_live_there, is_marked_there, is_fenced_there, is_released_there, MovesTell}
use Rattle.volume_entry.specs.HeardCalls.{TakesRows, LosesRows, IsFirstAt, moves_index, add_rows}
use Rattle.volume_entry.proofs.MarkSets.{turned}

-- ---- the first move of an index

some_is_none : (m : HeardMove) → Some m ≡ None → ⊥
some_is_none m h = cc

not_first : (m : HeardMove) (index : ℕ) (rest : Option HeardMove) → cond (m.index == index) (Some m) rest ≡ None → (m.index == index ≡ false) × (rest ≡ None)
not_first m index rest h = go (m.index == index) refl where
  go : (test : Bool) → m.index == index ≡ test → (m.index == index ≡ false) × (rest ≡ None)
  go true e = absurd (some_is_none m (sym (ap (λ b. cond b (Some m) rest) e) ∙ h))
  go false e = (e, sym (ap (λ b. cond b (Some m) rest) e) ∙ h)

none_push : (ms : List HeardMove) (m : HeardMove) (index : ℕ) → move_of ms index ≡ None → m.index == index ≡ false → move_of (ms ++ m ∷ []) index ≡ None
none_push [] m index h e = ap (λ b. cond b (Some m) None) e
none_push (x ∷ xs) m index h e =
    let r = not_first x index (move_of xs index) h in
    ap (λ b. cond b (Some x) (move_of (xs ++ m ∷ []) index)) r.0 ∙ none_push xs m index r.1 e

-- one move more isn't of the index
pub none_more : (ms : List HeardMove) (k : ℕ) (m : HeardMove) (index : ℕ) → k < length ms → m ≡ get_or ms k m → move_of (take k ms) index ≡ None → (m.index ≡ index → ⊥) → move_of (take (k + 1) ms) index ≡ None
none_more ms k m index h e before other =
    ap (λ xs. move_of xs index) (take_more ms k m h ∙ ap (λ x. take k ms ++ x ∷ []) (sym e))
    ∙ none_push (take k ms) m index before (not_so (m.index == index) (λ k. other (same_number m.index index k)))

pub none_all : (ms : List HeardMove) (k index : ℕ) → length ms ≤ k → move_of (take k ms) index ≡ None → move_of ms index ≡ None
none_all ms k index h before = ap (λ xs. move_of xs index) (sym (take_all k ms h)) ∙ before

pub found_at : (ms : List HeardMove) (p index : ℕ) (d : HeardMove) → p < length ms → move_of (take p ms) index ≡ None → (get_or ms p d).index ≡ index → move_of ms index ≡ Some (get_or ms p d)
found_at [] p index d h before here = absurd (omega arith)
found_at (m ∷ ms) zero index d h before here = ap (λ b. cond b (Some m) (move_of ms index)) (equal_test m.index index here)
found_at (m ∷ ms) (suc p) index d h before here =
    let r = not_first m index (move_of (take p ms) index) before in
    ap (λ b. cond b (Some m) (move_of ms index)) r.0 ∙ found_at ms p index d (omega arith) r.1 here

apart : (a b i : ℕ) → (a == b) ≡ false → (b == i) ≡ true → (a == i) ≡ false
apart a b i e h = not_so (a == i) (λ k. contrary (a == b) (equal_test a b (same_number a i k ∙ sym (same_number b i h))) e)

overwritten : (m new : HeardMove) (rest : Option HeardMove) (i : ℕ) → m.index ≡ new.index → cond (new.index == i) (Some new) rest ≡ cond (new.index == i) (Some new) (cond (m.index == i) (Some m) rest)
overwritten m new rest i e = go (new.index == i) refl where
  go : (test : Bool) → (new.index == i) ≡ test → cond test (Some new) rest ≡ cond test (Some new) (cond (m.index == i) (Some m) rest)
  go true h = refl
  go false h = sym (ap (λ b. cond b (Some m) rest) (ap (λ n. n == i) e ∙ h))

behind : (m : HeardMove) (rest rest2 : Option HeardMove) (new : HeardMove) (i : ℕ) → (m.index == new.index) ≡ false → rest ≡ cond (new.index == i) (Some new) rest2
    → cond (m.index == i) (Some m) rest ≡ cond (new.index == i) (Some new) (cond (m.index == i) (Some m) rest2)
behind m rest rest2 new i e h = go (new.index == i) refl where
  go : (test : Bool) → (new.index == i) ≡ test → cond (m.index == i) (Some m) rest ≡ cond test (Some new) (cond (m.index == i) (Some m) rest2)
  go true k = ap (λ b. cond b (Some m) rest) (apart m.index new.index i e k) ∙ h ∙ ap (λ b. cond b (Some new) rest2) k
  go false k = ap (λ r. cond (m.index == i) (Some m) r) (h ∙ ap (λ b. cond b (Some new) rest2) k)

pub set_at : (ms : List HeardMove) (p : ℕ) (new d : HeardMove) → p < length ms → move_of (take p ms) new.index ≡ None → (get_or ms p d).index ≡ new.index
    → (i : ℕ) → move_of (set ms p new) i ≡ cond (new.index == i) (Some new) (move_of ms i)
set_at [] p new d h before here i = absurd (omega arith)
set_at (m ∷ ms) zero new d h before here i = overwritten m new (move_of ms i) i here
set_at (m ∷ ms) (suc p) new d h before here i =
    let r = not_first m new.index (move_of (take p ms) new.index) before in
    behind m (move_of (set ms p new) i) (move_of ms i) new i r.0 (set_at ms p new d (omega arith) r.1 here i)

pub indexes_stay : (ms : List HeardMove) (p : ℕ) (new d : HeardMove) → p < length ms → (get_or ms p d).index ≡ new.index
    → map (λ (m : HeardMove). m.index) (set ms p new) ≡ map (λ (m : HeardMove). m.index) ms
indexes_stay [] p new d h e = absurd (omega arith)
indexes_stay (m ∷ ms) zero new d h e = ap (λ i. i ∷ map (λ (m : HeardMove). m.index) ms) (sym e)
indexes_stay (m ∷ ms) (suc p) new d h e = ap (λ is. m.index ∷ is) (indexes_stay ms p new d (omega arith) e)

-- ---- rows that are heard, and rows that are forgotten

pub rows_heard : (index : ℕ) (bids : List ℕ) (rows : List HeardRow) (i b : ℕ) → was_heard (rows_at index bids ++ rows) i b ≡ cond (index == i) (is_in b bids || was_heard rows i b) (was_heard rows i b)
rows_heard index [] rows i b = elim (index == i) as (λ t. was_heard rows i b ≡ cond t (was_heard rows i b) (was_heard rows i b)) [ true ↦ refl | false ↦ refl ]
rows_heard index (x ∷ bids) rows i b =
    ap (λ r. ((index == i) && (x == b)) || r) (rows_heard index bids rows i b)
    ∙ elim (index == i) as (λ t. ((t && (x == b)) || cond t (is_in b bids || was_heard rows i b) (was_heard rows i b)) ≡ cond t ((x == b) || (is_in b bids || was_heard rows i b)) (was_heard rows i b)) [ true ↦ refl | false ↦ refl ]
    ∙ ap (λ t. cond (index == i) (t || (is_in b bids || was_heard rows i b)) (was_heard rows i b)) (turned x b)
    ∙ ap (λ t. cond (index == i) t (was_heard rows i b)) (regroup (b == x) (is_in b bids) (was_heard rows i b))
  where
    regroup : (p q r : Bool) → (p || (q || r)) ≡ ((p || q) || r)
    regroup true q r = refl
    regroup false q r = refl

pub rows_lost : (index : ℕ) (rows : List HeardRow) (i b : ℕ) → was_heard (without_rows index rows) i b ≡ cond (index == i) false (was_heard rows i b)
rows_lost index [] i b = elim (index == i) as (λ t. false ≡ cond t false false) [ true ↦ refl | false ↦ refl ]
rows_lost index (row ∷ rows) i b = go (row.index == index) refl (index == i) refl (rows_lost index rows i b) where
  go : (same : Bool) → (row.index == index) ≡ same → (here : Bool) → (index == i) ≡ here → was_heard (without_rows index rows) i b ≡ cond (index == i) false (was_heard rows i b)
      → was_heard (without_rows index (row ∷ rows)) i b ≡ cond (index == i) false (((row.index == i) && (row.bid == b)) || was_heard rows i b)
  go true s true h rest = rw (s, h) (rest ∙ ap (λ t. cond t false (was_heard rows i b)) h)
  go true s false h rest =
      let other : (row.index == i) ≡ false = ap (λ n. n == i) (same_number row.index index s) ∙ h in
      rw (s, h, other) (rest ∙ ap (λ t. cond t false (was_heard rows i b)) h)
  go false s true h rest =
      let other : (row.index == i) ≡ false = apart row.index index i s h in
      rw (s, h, other) (rest ∙ ap (λ t. cond t false (was_heard rows i b)) h)
  go false s false h rest = rw (s, h) (ap (λ t. ((row.index == i) && (row.bid == b)) || t) (rest ∙ ap (λ t. cond t false (was_heard rows i b)) h))

-- ---- what all moves tell

-- At this index the lists are those of the move, and at the others as they were.
record Agrees (index : ℕ) (new : HeardMove) (old heard : Heard) : Type 0 where
  live : (i b : ℕ) → cond (index == i) (is_in b new.live.bids) (was_heard old.live i b) ≡ was_heard heard.live i b
  marked : (i b : ℕ) → cond (index == i) (is_in b new.marked.bids) (was_heard old.marked i b) ≡ was_heard heard.marked i b
  fenced : (i : ℕ) → cond (index == i) new.is_fenced (is_in i old.fenced) ≡ is_in i heard.fenced
  released : (i : ℕ) → cond (index == i) new.is_released (is_in i old.released) ≡ is_in i heard.released

pick : {A : Type 0} (look : Option HeardMove → A) (test : Bool) (m : HeardMove) (rest : Option HeardMove) → look (cond test (Some m) rest) ≡ cond test (look (Some m)) (look rest)
pick look true m rest = refl
pick look false m rest = refl

cond_here : (n i : ℕ) (x z y : Bool) → (n ≡ i → x ≡ z) → cond (n == i) x y ≡ cond (n == i) z y
cond_here n i x z y h = go (n == i) refl where
  go : (test : Bool) → (n == i) ≡ test → cond test x y ≡ cond test z y
  go true e = h (same_number n i e)
  go false e = refl

cond_same : (n i : ℕ) (x y : Bool) → (n ≡ i → x ≡ y) → cond (n == i) x y ≡ y
cond_same n i x y h = cond_here n i x y y h ∙ elim (n == i) as (λ t. cond t y y ≡ y) [ true ↦ refl | false ↦ refl ]

-- a flag that is set at an index
flag_set : (index i : ℕ) (list : List ℕ) → cond (index == i) true (is_in i list) ≡ is_in i (index ∷ list)
flag_set index i list =
    elim (index == i) as (λ t. cond t true (is_in i list) ≡ (t || is_in i list)) [ true ↦ refl | false ↦ refl ]
    ∙ ap (λ t. t || is_in i list) (turned index i)

module _ (ts : List Transfer) (ms : List HeardMove) (p index : ℕ) (was new d : HeardMove) (old : Heard) (first : IsFirstAt ms index p) (is : was ≡ get_or ms p d) (stays : new.index ≡ was.index) (told : MovesTell ts ms old) where
  own : was.index ≡ index
  own = ap (λ (m : HeardMove). m.index) is ∙ first.here d

  found : move_of ms index ≡ Some was
  found = found_at ms p index d first.within first.before (first.here d) ∙ ap Some (sym is)

  changed_tell : (heard : Heard) → Agrees index new old heard → MovesTell ts (set ms p new) heard
  changed_tell heard agrees =
      let same : new.index ≡ index = stays ∙ own in
      let here : (get_or ms p d).index ≡ new.index = first.here d ∙ sym same in
      let at : (i : ℕ) → move_of (set ms p new) i ≡ cond (index == i) (Some new) (move_of ms i) =
      λ i. set_at ms p new d first.within (ap (move_of (take p ms)) same ∙ first.before) here i ∙ ap (λ n. cond (n == i) (Some new) (move_of ms i)) same in
      record {
        indexes = indexes_stay ms p new d first.within here ∙ told.indexes;
        live = λ i b. ap (λ o. is_live_there o b) (at i) ∙ pick (λ o. is_live_there o b) (index == i) new (move_of ms i)
            ∙ ap (λ t. cond (index == i) (is_in b new.live.bids) t) (told.live i b) ∙ agrees.live i b;
        marked = λ i b. ap (λ o. is_marked_there o b) (at i) ∙ pick (λ o. is_marked_there o b) (index == i) new (move_of ms i)
            ∙ ap (λ t. cond (index == i) (is_in b new.marked.bids) t) (told.marked i b) ∙ agrees.marked i b;
        fenced = λ i. ap is_fenced_there (at i) ∙ pick is_fenced_there (index == i) new (move_of ms i)
            ∙ ap (λ t. cond (index == i) new.is_fenced t) (told.fenced i) ∙ agrees.fenced i;
        released = λ i. ap is_released_there (at i) ∙ pick is_released_there (index == i) new (move_of ms i)
            ∙ ap (λ t. cond (index == i) new.is_released t) (told.released i) ∙ agrees.released i;
      }

  live_was : (i b : ℕ) → index ≡ i → is_in b was.live.bids ≡ was_heard old.live i b
  live_was i b e = ap (λ o. is_live_there o b) (sym found) ∙ told.live index b ∙ ap (λ k. was_heard old.live k b) e

  marked_was : (i b : ℕ) → index ≡ i → is_in b was.marked.bids ≡ was_heard old.marked i b
  marked_was i b e = ap (λ o. is_marked_there o b) (sym found) ∙ told.marked index b ∙ ap (λ k. was_heard old.marked k b) e

  fenced_was : (i : ℕ) → index ≡ i → was.is_fenced ≡ is_in i old.fenced
  fenced_was i e = ap is_fenced_there (sym found) ∙ told.fenced index ∙ ap (λ k. is_in k old.fenced) e

  released_was : (i : ℕ) → index ≡ i → was.is_released ≡ is_in i old.released
  released_was i e = ap is_released_there (sym found) ∙ told.released index ∙ ap (λ k. is_in k old.released) e

  pub taken_tell : (live marked : List ℕ) → TakesRows live marked was new → MovesTell ts (set ms p new) (add_rows index live marked old)
  taken_tell live marked takes = changed_tell (add_rows index live marked old) (record {
    live = λ i b. cond_here index i (is_in b new.live.bids) (is_in b live || was_heard old.live i b) (was_heard old.live i b)
        (λ e. takes.live b ∙ ap (λ t. is_in b live || t) (live_was i b e)) ∙ sym (rows_heard index live old.live i b);
    marked = λ i b. cond_here index i (is_in b new.marked.bids) (is_in b marked || was_heard old.marked i b) (was_heard old.marked i b)
        (λ e. takes.marked b ∙ ap (λ t. is_in b marked || t) (marked_was i b e)) ∙ sym (rows_heard index marked old.marked i b);
    fenced = λ i. cond_same index i new.is_fenced (is_in i old.fenced) (λ e. takes.is_fenced ∙ fenced_was i e);
    released = λ i. cond_same index i new.is_released (is_in i old.released) (λ e. takes.is_released ∙ released_was i e);
  })

  -- nothing was taken
  pub still_tell : TakesRows [] [] was new → MovesTell ts (set ms p new) old
  still_tell takes = taken_tell [] [] takes

  pub lost_tell : LosesRows was new → MovesTell ts (set ms p new) (record old { live = without_rows index old.live; marked = without_rows index old.marked })
  lost_tell loses = changed_tell (record old { live = without_rows index old.live; marked = without_rows index old.marked }) (record {
    live = λ i b. ap (λ bs. cond (index == i) (is_in b bs) (was_heard old.live i b)) loses.live ∙ sym (rows_lost index old.live i b);
    marked = λ i b. ap (λ bs. cond (index == i) (is_in b bs) (was_heard old.marked i b)) loses.marked ∙ sym (rows_lost index old.marked i b);
    fenced = λ i. cond_same index i new.is_fenced (is_in i old.fenced) (λ e. loses.is_fenced ∙ fenced_was i e);
    released = λ i. cond_same index i new.is_released (is_in i old.released) (λ e. loses.is_released ∙ released_was i e);
  })

  pub fenced_tell : new ≡ record was { is_fenced = true } → MovesTell ts (set ms p new) (record old { fenced = index ∷ old.fenced })
  fenced_tell e = changed_tell (record old { fenced = index ∷ old.fenced }) (record {
    live = λ i b. cond_same index i (is_in b new.live.bids) (was_heard old.live i b) (λ k. ap (λ (m : HeardMove). is_in b m.live.bids) e ∙ live_was i b k);
    marked = λ i b. cond_same index i (is_in b new.marked.bids) (was_heard old.marked i b) (λ k. ap (λ (m : HeardMove). is_in b m.marked.bids) e ∙ marked_was i b k);
    fenced = λ i. ap (λ (m : HeardMove). cond (index == i) m.is_fenced (is_in i old.fenced)) e ∙ flag_set index i old.fenced;
    released = λ i. cond_same index i new.is_released (is_in i old.released) (λ k. ap (λ (m : HeardMove). m.is_released) e ∙ released_was i k);
  })

  pub released_tell : new ≡ record was { is_released = true } → MovesTell ts (set ms p new) (record old { released = index ∷ old.released })
  released_tell e = changed_tell (record old { released = index ∷ old.released }) (record {
    live = λ i b. cond_same index i (is_in b new.live.bids) (was_heard old.live i b) (λ k. ap (λ (m : HeardMove). is_in b m.live.bids) e ∙ live_was i b k);
    marked = λ i b. cond_same index i (is_in b new.marked.bids) (was_heard old.marked i b) (λ k. ap (λ (m : HeardMove). is_in b m.marked.bids) e ∙ marked_was i b k);
    fenced = λ i. cond_same index i new.is_fenced (is_in i old.fenced) (λ k. ap (λ (m : HeardMove). m.is_fenced) e ∙ fenced_was i k);
    released = λ i. ap (λ (m : HeardMove). cond (index == i) m.is_released (is_in i old.released)) e ∙ flag_set index i old.released;
  })

-- ---- no move is of the index

has_index : (ms : List HeardMove) (i : ℕ) → is_in i (map (λ (m : HeardMove). m.index) ms) ≡ is_some (move_of ms i)
has_index [] i = refl
has_index (m ∷ ms) i =
    ap (λ t. (i == m.index) || t) (has_index ms i) ∙ ap (λ t. t || is_some (move_of ms i)) (turned i m.index)
    ∙ elim (m.index == i) as (λ t. (t || is_some (move_of ms i)) ≡ is_some (cond t (Some m) (move_of ms i))) [ true ↦ refl | false ↦ refl ]

has_transfer : (ts : List Transfer) (i : ℕ) → moves_index ts i ≡ is_in i (map (λ (t : Transfer). t.index) ts)
has_transfer [] i = refl
has_transfer (t ∷ ts) i = λ j. turned t.index i j || has_transfer ts i j

pub none_moves : (ts : List Transfer) (ms : List HeardMove) (index : ℕ) (old : Heard) → MovesTell ts ms old → move_of ms index ≡ None → moves_index ts index ≡ false
none_moves ts ms index old told none =
    has_transfer ts index ∙ ap (is_in index) (sym told.indexes) ∙ has_index ms index ∙ ap is_some none

none_lost : (look : Option HeardMove → Bool) (ms : List HeardMove) (index i : ℕ) (y : Bool) → look None ≡ false → move_of ms index ≡ None → look (move_of ms i) ≡ y → look (move_of ms i) ≡ cond (index == i) false y
none_lost look ms index i y z none e = go (index == i) refl where
  go : (test : Bool) → (index == i) ≡ test → look (move_of ms i) ≡ cond test false y
  go true k = ap (λ n. look (move_of ms n)) (sym (same_number index i k)) ∙ ap look none ∙ z
  go false k = e

pub none_lost_tell : (ts : List Transfer) (ms : List HeardMove) (index : ℕ) (old : Heard) → move_of ms index ≡ None → MovesTell ts ms old → MovesTell ts ms (record old { live = without_rows index old.live; marked = without_rows index old.marked })
none_lost_tell ts ms index old none told = record {
  indexes = told.indexes;
  live = λ i b. none_lost (λ o. is_live_there o b) ms index i (was_heard old.live i b) refl none (told.live i b) ∙ sym (rows_lost index old.live i b);
  marked = λ i b. none_lost (λ o. is_marked_there o b) ms index i (was_heard old.marked i b) refl none (told.marked i b) ∙ sym (rows_lost index old.marked i b);
  fenced = told.fenced;
  released = told.released;
}
