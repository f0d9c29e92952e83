-- What memory tells once an answer is heard.
use Rattle.std.proofs.Common.{◌≡◌, ◌∙◌, sym, ap, subst, refl, ℕ, ◌<◌, ◌≤◌, Bool, true, false, cond, ◌==◌, ◌&&◌, ◌||◌, List, [], ◌∷◌, ◌++◌, length, get_or, set, inl, inr, arith, Option, Some, None}
use Rattle.std.specs.Prelude.{Result, Ok, Err, OnErr}
use Rattle.std.proofs.lemmas.Bool.{eqb-true, eqb-false}
use Rattle.std.proofs.lemmas.List.{get_or-set_same, get_or-set_other, length-set}
use Rattle.unit_id.specs.Lists.{any}
use Rattle.unit_id.proofs.Bools.{and_left, or_left, or_right, or_cases}
use Rattle.unit_id.specs.Place.{Place}
use Rattle.unit_id.specs.Shown.{Shown}
use Rattle.unit_id.specs.Request.{Request, Answer}
use Rattle.volume_entry.specs.Manager.{Transfer, Lock, Heard, HeardMark, Manager, transfers_of, is_swapped, is_current, is_destination, is_old, is_old_there, has_number, home_at}
use Rattle.volume_entry.specs.Benchmark.{listing_of, listing_at}
use Rattle.volume_entry.specs.ManagerStep.{rows_at, hear, hear_listing, hear_live, hear_marked}
use Rattle.volume_entry.specs.HeardMemory.{HeardMove, HeardMemory, KeptMarks, ShowsSame, ListingsTell, MovesTell, MarksTell, Remembers}
use Rattle.volume_entry.specs.HeardCalls.{MovesHear, moves_index, add_rows, with_rows, with_mark}
use Rattle.volume_entry.proofs.MarkSets.{turned}

-- ---- a unit that a lock moves is of one of its indexes

any_weaker : {A : Type 0} (f g : A → Bool) (xs : List A) → ((x : A) → f x ≡ true → g x ≡ true) → any f xs ≡ true → any g xs ≡ true
any_weaker f g [] h k = k
any_weaker f g (x ∷ xs) h k = elim (or_cases (f x) (any f xs) k) [
  | inl here ↦ or_left (g x) (any g xs) (h x here)
  | inr there ↦ or_right (g x) (any g xs) (any_weaker f g xs h there)
]

pub destination_moves : (ts : List Transfer) (place : Place) → is_destination ts place ≡ true → moves_index ts place.index ≡ true
destination_moves ts place = any_weaker (λ (t : Transfer). (t.index == place.index) && (t.dest.epoch == place.epoch)) (λ (t : Transfer). t.index == place.index) ts
    (λ t. and_left (t.index == place.index) (t.dest.epoch == place.epoch))

pub old_moves : (ts : List Transfer) (place : Place) → is_old ts place ≡ true → moves_index ts place.index ≡ true
old_moves ts place = any_weaker (λ (t : Transfer). (t.index == place.index) && (t.old.epoch == place.epoch)) (λ (t : Transfer). t.index == place.index) ts
    (λ t. and_left (t.index == place.index) (t.old.epoch == place.epoch))

pub old_there_moves : (ts : List Transfer) (place : Place) → is_old_there ts place ≡ true → moves_index ts place.index ≡ true
old_there_moves ts place = any_weaker (λ (t : Transfer). ((t.index == place.index) && (t.old.epoch == place.epoch)) && (t.old.disk == place.disk)) (λ (t : Transfer). t.index == place.index) ts
    (λ t h. and_left (t.index == place.index) (t.old.epoch == place.epoch) (and_left ((t.index == place.index) && (t.old.epoch == place.epoch)) (t.old.disk == place.disk) h))

-- ---- moves

pub same_tell : (ts : List Transfer) (ms : List HeardMove) (h n : Heard) → n.live ≡ h.live → n.marked ≡ h.marked → n.fenced ≡ h.fenced → n.released ≡ h.released → MovesTell ts ms h → MovesTell ts ms n
same_tell ts ms h n live marked fenced released told = record {
  indexes = told.indexes;
  live = λ i b. rw live (told.live i b);
  marked = λ i b. rw marked (told.marked i b);
  fenced = λ i. rw fenced (told.fenced i);
  released = λ i. rw released (told.released i);
}

module _ (ts : List Transfer) (ms ns : List HeardMove) (place : Place) (index : ℕ) (same : index ≡ place.index) where
  pub rows_tell : (shown : Shown) → is_destination ts place ≡ true → ((us : List Transfer) → moves_index us index ≡ true → MovesHear us (add_rows index shown.live shown.marked) ms ns)
      → MovesHear ts (hear_listing ts place shown) ms ns
  rows_tell shown d taken h told =
      same_tell ts ns (add_rows index shown.live shown.marked h) (hear_listing ts place shown h)
      (ap (λ b. cond b (rows_at place.index shown.live ++ h.live) h.live) d ∙ ap (λ i. rows_at i shown.live ++ h.live) (sym same))
      (ap (λ b. cond b (rows_at place.index shown.marked ++ h.marked) h.marked) d ∙ ap (λ i. rows_at i shown.marked ++ h.marked) (sym same))
      refl refl (taken ts (ap (moves_index ts) same ∙ destination_moves ts place d) h told)

  pub fence_tells : (test : Bool) → test ≡ true → is_old ts place ≡ true → ((us : List Transfer) → moves_index us index ≡ true → MovesHear us (λ h. record h { fenced = index ∷ h.fenced }) ms ns)
      → MovesHear ts (λ h. record h { fenced = cond test (place.index ∷ h.fenced) h.fenced }) ms ns
  fence_tells test t old fenced h told =
      same_tell ts ns (record h { fenced = index ∷ h.fenced }) (record h { fenced = cond test (place.index ∷ h.fenced) h.fenced })
      refl refl (ap (λ b. cond b (place.index ∷ h.fenced) h.fenced) t ∙ ap (λ i. i ∷ h.fenced) (sym same)) refl
      (fenced ts (ap (moves_index ts) same ∙ old_moves ts place old) h told)

  pub release_tells : is_old_there ts place ≡ true → ((us : List Transfer) → moves_index us index ≡ true → MovesHear us (λ h. record h { released = index ∷ h.released }) ms ns)
      → MovesHear ts (λ h. record h { released = cond (is_old_there ts place) (place.index ∷ h.released) h.released }) ms ns
  release_tells old released h told =
      same_tell ts ns (record h { released = index ∷ h.released }) (record h { released = cond (is_old_there ts place) (place.index ∷ h.released) h.released })
      refl refl refl (ap (λ b. cond b (place.index ∷ h.released) h.released) old ∙ ap (λ i. i ∷ h.released) (sym same))
      (released ts (ap (moves_index ts) same ∙ old_there_moves ts place old) h told)

-- rows of one blob, as a listing would show them
cond_both : {A : Type 0} (test : Bool) (x : A) → cond test x x ≡ x
cond_both true x = refl
cond_both false x = refl

-- the same said of other names
pub moves_under : (step : List Transfer → Heard → Heard) (ts us : List Transfer) (olds was news ms : List HeardMove) → ts ≡ us → olds ≡ was → ms ≡ news → MovesHear ts (step ts) olds news → MovesHear us (step us) was ms
moves_under step ts us olds was news ms e o n h =
    subst (λ xs. MovesHear us (step us) was xs) (sym n) (subst (λ xs. MovesHear us (step us) xs news) o (subst (λ xs. MovesHear xs (step xs) olds news) e h))

-- ---- all of memory, where listings stay

pub heard_remembers : (total : ℕ) (old : HeardMemory) (ls : List (Option Shown)) (ms : List HeardMove) (ks : KeptMarks) (m : Manager) (h : Heard) (marks : List HeardMark)
    → Remembers total old m → ls ≡ old.listings → h.listings ≡ m.heard.listings → MovesTell (transfers_of m.lock) ms h → MarksTell ks.marks marks
    → Remembers total (record { listings = ls; moves = ms; marks = ks }) (record m { heard = h; marks = marks })
heard_remembers total old ls ms ks m h marks told same kept moves has = record {
  listings = record { enough = rw same told.listings.enough; shows = λ s i k. rw (same, kept) (told.listings.shows s i k) };
  moves = moves;
  marks = has;
}

abbrev marked_only : ℕ → Shown
marked_only bid = record { live = []; marked = bid ∷ [] }

-- rows that are heard
pub rows_remember : (total : ℕ) (old : HeardMemory) (ls : List (Option Shown)) (ms : List HeardMove) (ks : KeptMarks) (m : Manager) (place : Place) (shown : Shown)
    → Remembers total old m → ls ≡ old.listings → ks ≡ old.marks → MovesHear (transfers_of m.lock) (hear_listing (transfers_of m.lock) place shown) old.moves ms
    → Remembers total (record { listings = ls; moves = ms; marks = ks }) (with_rows place shown m)
rows_remember total old ls ms ks m place shown told same marks hears =
    let h = (with_rows place shown m).heard in
    heard_remembers total old ls ms ks m h m.marks told same refl
    (same_tell (transfers_of m.lock) ms (hear_listing (transfers_of m.lock) place shown m.heard) h refl refl refl refl (hears m.heard told.moves)) (rw marks told.marks)

-- nothing that is told changes
pub still_remember : (total : ℕ) (old : HeardMemory) (ls : List (Option Shown)) (ms : List HeardMove) (ks : KeptMarks) (m : Manager)
    → Remembers total old m → ls ≡ old.listings → ks.marks ≡ old.marks.marks → MovesHear (transfers_of m.lock) (λ h. h) old.moves ms → Remembers total (record { listings = ls; moves = ms; marks = ks }) m
still_remember total old ls ms ks m told same marks hears =
    heard_remembers total old ls ms ks m m.heard m.marks told same refl (hears m.heard told.moves) (rw marks told.marks)

-- a mark that is heard
pub mark_remembers : (total : ℕ) (old : HeardMemory) (ls : List (Option Shown)) (ms : List HeardMove) (ks : KeptMarks) (m : Manager) (place : Place) (bid : ℕ)
    → Remembers total old m → ls ≡ old.listings → MarksTell ks.marks (record { bid = bid; index = place.index; epoch = place.epoch } ∷ old.marks.marks)
    → MovesHear (transfers_of m.lock) (hear_listing (transfers_of m.lock) place (marked_only bid)) old.moves ms
    → Remembers total (record { listings = ls; moves = ms; marks = ks }) (with_mark place bid m)
mark_remembers total old ls ms ks m place bid told same marks hears =
    let h = hear_marked (transfers_of m.lock) place bid m.heard in
    heard_remembers total old ls ms ks m h (record { bid = bid; index = place.index; epoch = place.epoch } ∷ m.marks) told same refl
    (same_tell (transfers_of m.lock) ms (hear_listing (transfers_of m.lock) place (marked_only bid) m.heard) h (sym (cond_both (is_destination (transfers_of m.lock) place) m.heard.live)) refl refl refl (hears m.heard told.moves))
    (λ b i e. marks b i e ∙ ap (λ t. ((bid == b) && ((place.index == i) && (place.epoch == e))) || t) (told.marks b i e))

pub copied_live : (place : Place) (bid : ℕ) (m : Manager) → with_rows place (record { live = bid ∷ []; marked = [] }) m ≡ record m { heard = hear_live (transfers_of m.lock) place bid m.heard }
copied_live place bid m =
    ap (λ rows. record m { heard = record (m.heard) { live = cond (is_destination (transfers_of m.lock) place) (record { index = place.index; bid = bid } ∷ m.heard.live) m.heard.live; marked = rows } })
    (cond_both (is_destination (transfers_of m.lock) place) m.heard.marked)

pub copied_marked : (place : Place) (bid : ℕ) (m : Manager) → with_rows place (record { live = []; marked = bid ∷ [] }) m ≡ record m { heard = hear_marked (transfers_of m.lock) place bid m.heard }
copied_marked place bid m =
    ap (λ rows. record m { heard = record (m.heard) { live = rows; marked = cond (is_destination (transfers_of m.lock) place) (record { index = place.index; bid = bid } ∷ m.heard.marked) m.heard.marked } })
    (cond_both (is_destination (transfers_of m.lock) place) m.heard.live)

-- a fence that is heard
pub fence_remembers : (total : ℕ) (old : HeardMemory) (ls : List (Option Shown)) (ms : List HeardMove) (ks : KeptMarks) (m : Manager) (place : Place) (number : ℕ) (held : Option Lock) → m.lock ≡ held
    → Remembers total old m → ls ≡ old.listings → ks ≡ old.marks
    → MovesHear (transfers_of held) (λ h. record h { fenced = cond (has_number held number && is_old (transfers_of held) place) (place.index ∷ h.fenced) h.fenced }) old.moves ms
    → Remembers total (record { listings = ls; moves = ms; marks = ks }) (hear (Request.Fence place number) Answer.Done m)
fence_remembers total old ls ms ks m place number held lock told same marks hears =
    let h = (hear (Request.Fence place number) Answer.Done m).heard in
    heard_remembers total old ls ms ks m h m.marks told same refl
    (subst (λ l. MovesTell (transfers_of l) ms (record (m.heard) { fenced = cond (has_number l number && is_old (transfers_of l) place) (place.index ∷ m.heard.fenced) m.heard.fenced })) (sym lock)
    (hears m.heard (subst (λ l. MovesTell (transfers_of l) old.moves m.heard) lock told.moves)))
    (rw marks told.marks)

-- a release that is heard
pub release_remembers : (total : ℕ) (old : HeardMemory) (ls : List (Option Shown)) (ms : List HeardMove) (ks : KeptMarks) (m : Manager) (place : Place) (ts : List Transfer) → ts ≡ transfers_of m.lock
    → Remembers total old m → ls ≡ old.listings → ks ≡ old.marks
    → MovesHear ts (λ h. record h { released = cond (is_old_there ts place) (place.index ∷ h.released) h.released }) old.moves ms
    → Remembers total (record { listings = ls; moves = ms; marks = ks }) (hear (Request.Release place) Answer.Done m)
release_remembers total old ls ms ks m place ts lock told same marks hears =
    let h = (hear (Request.Release place) Answer.Done m).heard in
    heard_remembers total old ls ms ks m h m.marks told same refl
    (subst (λ us. MovesTell us ms (record (m.heard) { released = cond (is_old_there us place) (place.index ∷ m.heard.released) m.heard.released })) lock
    (hears m.heard (subst (λ us. MovesTell us old.moves m.heard) (sym lock) told.moves)))
    (rw marks told.marks)

pub numbered : (place : Place) (number said : ℕ) (m : Manager) (shown : Shown) → has_number m.lock number ≡ true
    → record m { heard = hear_listing (transfers_of m.lock) place shown m.heard } ≡ hear (Request.List place number) (Answer.Listing said shown) m
numbered place number said m shown h = ap (λ b. record m { heard = cond b (hear_listing (transfers_of m.lock) place shown m.heard) m.heard }) (sym h)

pub for_err : {T E : Type 0} (r : Result T E) (P : Type 0) → P → OnErr r P
for_err (Ok x) P p = tt
for_err (Err e) P p = p

-- ---- listings

module _ (total : ℕ) (m : Manager) (ls : List (Option Shown)) (place : Place) (listing shown : Shown) (told : ListingsTell total ls m) (same : ShowsSame (Some listing) (Some shown)) where
  abbrev current : Bool
  current = is_current m.homes place

  abbrev kept : List (Option Shown)
  kept = cond current (set ls place.index (Some listing)) ls

  kept_enough : total ≤ length kept
  kept_enough = elim current as (λ c. total ≤ length (cond c (set ls place.index (Some listing)) ls)) [
    | true ↦ subst (λ n. total ≤ n) (sym (length-set ls place.index (Some listing))) told.enough
    | false ↦ told.enough
  ]

  abbrev Kept : ℕ → Bool → Type 0
  Kept i test = ShowsSame (get_or kept i None) (cond test (Some shown) (listing_at m.homes m.heard.listings i))

  at_other : (i : ℕ) → (i ≡ place.index → ⊥) → get_or kept i None ≡ get_or ls i None
  at_other i h = elim current as (λ c. get_or (cond c (set ls place.index (Some listing)) ls) i None ≡ get_or ls i None) [
    | true ↦ get_or-set_other ls place.index i (Some listing) None h
    | false ↦ refl
  ]

  pub listing_shows : is_swapped m.lock ≡ false → (i : ℕ) → i < total → ShowsSame (get_or kept i None) (listing_of (record { index = place.index; epoch = place.epoch; shown = shown } ∷ m.heard.listings) i (home_at m.homes i).epoch)
  listing_shows s i k = go (place.index == i) refl where
    before : ShowsSame (get_or ls i None) (listing_at m.homes m.heard.listings i)
    before = told.shows s i k

    here : place.index ≡ i → (c : Bool) → current ≡ c → Kept i (place.epoch == (home_at m.homes i).epoch)
    here e true c =
        let test : (place.epoch == (home_at m.homes i).epoch) ≡ true = turned place.epoch (home_at m.homes i).epoch ∙ ap (λ n. (home_at m.homes n).epoch == place.epoch) (sym e) ∙ c in
        let put : get_or kept i None ≡ Some listing =
        ap (λ b. get_or (cond b (set ls place.index (Some listing)) ls) i None) c ∙ ap (λ n. get_or (set ls n (Some listing)) i None) e
        ∙ get_or-set_same ls i (Some listing) None (let enough = told.enough in omega (arith, enough, k)) in
        subst (Kept i) (sym test) (subst (λ o. ShowsSame o (Some shown)) (sym put) same)
    here e false c =
        let test : (place.epoch == (home_at m.homes i).epoch) ≡ false = turned place.epoch (home_at m.homes i).epoch ∙ ap (λ n. (home_at m.homes n).epoch == place.epoch) (sym e) ∙ c in
        let stays : get_or kept i None ≡ get_or ls i None = ap (λ b. get_or (cond b (set ls place.index (Some listing)) ls) i None) c in
        subst (Kept i) (sym test) (subst (λ o. ShowsSame o (listing_at m.homes m.heard.listings i)) (sym stays) before)

    go : (test : Bool) → (place.index == i) ≡ test → Kept i ((place.index == i) && (place.epoch == (home_at m.homes i).epoch))
    go true e = subst (λ t. Kept i (t && (place.epoch == (home_at m.homes i).epoch))) (sym e) (here (eqb-true place.index i e) current refl)
    go false e = subst (λ t. Kept i (t && (place.epoch == (home_at m.homes i).epoch))) (sym e)
        (subst (λ o. ShowsSame o (listing_at m.homes m.heard.listings i)) (sym (at_other i (λ k. eqb-false place.index i e (sym k)))) before)

  pub listing_remembers : (now : List (Option Shown)) → now ≡ kept → (ms : List HeardMove) (ks : KeptMarks)
      → MovesTell (transfers_of m.lock) ms (hear_listing (transfers_of m.lock) place shown m.heard) → MarksTell ks.marks m.marks
      → Remembers total (record { listings = now; moves = ms; marks = ks }) (record m { heard = hear_listing (transfers_of m.lock) place shown m.heard })
  listing_remembers now e ms ks moves marks = record {
    listings = record { enough = rw e kept_enough; shows = λ s i k. subst (λ xs. ShowsSame (get_or xs i None) (listing_of (record { index = place.index; epoch = place.epoch; shown = shown } ∷ m.heard.listings) i (home_at m.homes i).epoch)) (sym e) (listing_shows s i k) };
    moves = moves;
    marks = marks;
  }
