-- What memory tells once a record is written.
use Rattle.std.proofs.Common.{◌≡◌, ◌∙◌, sym, ap, subst, refl, ℕ, zero, suc, ◌+◌, ◌<◌, ◌≤◌, Bool, true, false, cond, ◌==◌, List, [], ◌∷◌, ◌++◌, length, take, get_or, set, map, replicate, inl, inr, arith, Option, Some, None}
use Rattle.std.specs.Prelude.{is_some}
use Rattle.std.proofs.lemmas.Bool.{eqb-true, eqb-false}
use Rattle.std.proofs.lemmas.List.{take_more, take_all, get_or-replicate, length-replicate, get_or-set_same, get_or-set_other}
use Rattle.unit_id.specs.Lists.{IsIn, is_in}
use Rattle.unit_id.specs.Place.{Location}
use Rattle.unit_id.specs.Shown.{Shown}
use Rattle.volume_entry.specs.Manager.{Transfer, Lock, Grant, Manager, ManagerRecord, written, nothing_heard, transfers_of, transfers_to, is_swapped, redirected, redirected_lock, swapped_lock, moved, without_rows}
use Rattle.volume_entry.specs.Benchmark.{listing_at, shows_live, shows_marked}
use Rattle.volume_entry.specs.HeardMemory.{HeardMove, HeardMemory, KeptMarks, HasRowRoom, ShowsSame, MovesTell, MarksTell, Remembers, move_of, is_live_there, is_marked_there, is_fenced_there, is_released_there}
use Rattle.volume_entry.specs.HeardCalls.{TakesRows, IsFresh, AreFresh, StillTell, MovesHear}
use Rattle.volume_entry.proofs.TableLists.{moved-none, done_to}

-- ---- moves of which nothing was heard

fresh_push : (is : List ℕ) (ms : List HeardMove) (i : ℕ) (m : HeardMove) → AreFresh is ms → IsFresh i m → AreFresh (is ++ i ∷ []) (ms ++ m ∷ [])
fresh_push [] [] i m h f = (f, tt)
fresh_push [] (x ∷ ms) i m h f = absurd h
fresh_push (j ∷ is) [] i m h f = absurd h
fresh_push (j ∷ is) (x ∷ ms) i m h f = (h.0, fresh_push is ms i m h.1 f)

module _ {A : Type 0} (index : A → ℕ) where
  map_push : (xs : List A) (x : A) → map index (xs ++ x ∷ []) ≡ map index xs ++ index x ∷ []
  map_push [] x = refl
  map_push (y ∷ ys) x = ap (λ is. index y ∷ is) (map_push ys x)

  pub fresh_more : (xs : List A) (k : ℕ) (x d : A) (ms : List HeardMove) (m : HeardMove) → k < length xs → x ≡ get_or xs k d → AreFresh (map index (take k xs)) ms → IsFresh (index x) m
      → AreFresh (map index (take (k + 1) xs)) (ms ++ m ∷ [])
  fresh_more xs k x d ms m h e before f =
      let step : take (k + 1) xs ≡ take k xs ++ x ∷ [] = take_more xs k d h ∙ ap (λ y. take k xs ++ y ∷ []) (sym e) in
      subst (λ is. AreFresh is (ms ++ m ∷ [])) (sym (ap (map index) step ∙ map_push (take k xs) x)) (fresh_push (map index (take k xs)) ms (index x) m before f)

  pub fresh_all : (xs : List A) (k : ℕ) (ms : List HeardMove) → length xs ≤ k → AreFresh (map index (take k xs)) ms → AreFresh (map index xs) ms
  fresh_all xs k ms h all = subst (λ ys. AreFresh (map index ys) ms) (take_all k xs h) all

fresh_look : (is : List ℕ) (ms : List HeardMove) (P : Option HeardMove → Type 0) → AreFresh is ms → P None → ((i : ℕ) (m : HeardMove) → IsFresh i m → P (Some m)) → (n : ℕ) → P (move_of ms n)
fresh_look [] [] P h none some n = none
fresh_look [] (m ∷ ms) P h none some n = absurd h
fresh_look (i ∷ is) [] P h none some n = absurd h
fresh_look (i ∷ is) (m ∷ ms) P h none some n = go (m.index == n) (fresh_look is ms P h.1 none some n) where
  go : (test : Bool) → P (move_of ms n) → P (cond test (Some m) (move_of ms n))
  go true rest = some i m h.0
  go false rest = rest

fresh_indexes : (is : List ℕ) (ms : List HeardMove) → AreFresh is ms → map (λ (m : HeardMove). m.index) ms ≡ is
fresh_indexes [] [] h = refl
fresh_indexes [] (m ∷ ms) h = absurd h
fresh_indexes (i ∷ is) [] h = absurd h
fresh_indexes (i ∷ is) (m ∷ ms) h = λ j. h.0.index j ∷ fresh_indexes is ms h.1 j

pub fresh_tell : (ts : List Transfer) (ms : List HeardMove) → AreFresh (map (λ (t : Transfer). t.index) ts) ms → MovesTell ts ms nothing_heard
fresh_tell ts ms h =
    let is = map (λ (t : Transfer). t.index) ts in
    record {
      indexes = fresh_indexes is ms h;
      live = λ i b. fresh_look is ms (λ o. is_live_there o b ≡ false) h refl (λ n m f. ap (is_in b) f.live) i;
      marked = λ i b. fresh_look is ms (λ o. is_marked_there o b ≡ false) h refl (λ n m f. ap (is_in b) f.marked) i;
      fenced = λ i. fresh_look is ms (λ o. is_fenced_there o ≡ false) h refl (λ n m f. f.is_fenced) i;
      released = λ i. fresh_look is ms (λ o. is_released_there o ≡ false) h refl (λ n m f. f.is_released) i;
    }

-- ---- moves that tell the same

still_refl : (ms : List HeardMove) → StillTell ms ms
still_refl [] = tt
still_refl (m ∷ ms) = (record { index = refl; live = λ b. refl; marked = λ b. refl; is_fenced = refl; is_released = refl }, still_refl ms)

pub still_start : (ms : List HeardMove) → StillTell ms ms
still_start = still_refl

still_one : (a b c : HeardMove) → TakesRows [] [] a b → TakesRows [] [] b c → TakesRows [] [] a c
still_one a b c h k = record {
  index = k.index ∙ h.index;
  live = λ n. k.live n ∙ h.live n;
  marked = λ n. k.marked n ∙ h.marked n;
  is_fenced = k.is_fenced ∙ h.is_fenced;
  is_released = k.is_released ∙ h.is_released;
}

pub still_set : (olds ms : List HeardMove) (p : ℕ) (d new : HeardMove) → p < length ms → StillTell olds ms → TakesRows [] [] (get_or ms p d) new → StillTell olds (set ms p new)
still_set olds [] p d new h s t = absurd (omega arith)
still_set [] (m ∷ ms) p d new h s t = absurd s
still_set (o ∷ olds) (m ∷ ms) zero d new h s t = (still_one o m new s.0 t, s.1)
still_set (o ∷ olds) (m ∷ ms) (suc p) d new h s t = (s.0, still_set olds ms p d new (omega arith) s.1 t)

pub room_more : (ms : List HeardMove) (p : ℕ) (new : HeardMove) → p < length ms → ((k : ℕ) (d : HeardMove) → k < p → HasRowRoom (get_or ms k d)) → HasRowRoom new
    → (k : ℕ) (d : HeardMove) → k < p + 1 → HasRowRoom (get_or (set ms p new) k d)
room_more ms p new h before here k d below = go (k == p) refl where
  go : (test : Bool) → (k == p) ≡ test → HasRowRoom (get_or (set ms p new) k d)
  go true e = subst HasRowRoom (sym (ap (λ n. get_or (set ms p new) n d) (eqb-true k p e) ∙ get_or-set_same ms p new d h)) here
  go false e = subst HasRowRoom (sym (get_or-set_other ms p k new d (eqb-false k p e))) (before k d (let other = eqb-false k p e in omega (arith, other)))

pub room_all : (ms : List HeardMove) → ((k : ℕ) (d : HeardMove) → k < length ms → HasRowRoom (get_or ms k d)) → (move : HeardMove) → IsIn move ms → HasRowRoom move
room_all [] room move i = absurd i
room_all (m ∷ ms) room move (inl e) = subst HasRowRoom (sym e) (room 0 m (omega arith))
room_all (m ∷ ms) room move (inr i) = room_all ms (λ k d h. room (suc k) d (omega arith)) move i

pub forgotten : {A : Type 0} (d : A) (i : ℕ) (xs : List A) → done_to (λ n x. d) (length xs) i xs ≡ replicate (length xs) d
forgotten d i [] = refl
forgotten d i (x ∷ xs) = ap (λ ys. d ∷ ys) (forgotten d (suc i) xs)

still_look : {A : Type 0} (look : Option HeardMove → A) → ((a b : HeardMove) → TakesRows [] [] a b → look (Some b) ≡ look (Some a))
    → (olds ms : List HeardMove) → StillTell olds ms → (i : ℕ) → look (move_of ms i) ≡ look (move_of olds i)
still_look look same [] [] s i = refl
still_look look same [] (m ∷ ms) s i = absurd s
still_look look same (o ∷ olds) [] s i = absurd s
still_look look same (o ∷ olds) (m ∷ ms) s i = ap (λ n. look (cond (n == i) (Some m) (move_of ms i))) s.0.index ∙ go (o.index == i) (still_look look same olds ms s.1 i) where
  go : (test : Bool) → look (move_of ms i) ≡ look (move_of olds i) → look (cond test (Some m) (move_of ms i)) ≡ look (cond test (Some o) (move_of olds i))
  go true rest = same o m s.0
  go false rest = rest

still_indexes : (olds ms : List HeardMove) → StillTell olds ms → map (λ (m : HeardMove). m.index) ms ≡ map (λ (m : HeardMove). m.index) olds
still_indexes [] [] s = refl
still_indexes [] (m ∷ ms) s = absurd s
still_indexes (o ∷ olds) [] s = absurd s
still_indexes (o ∷ olds) (m ∷ ms) s = λ j. s.0.index j ∷ still_indexes olds ms s.1 j

pub still_hear : (olds ms : List HeardMove) → StillTell olds ms → (ts : List Transfer) → MovesHear ts (λ h. h) olds ms
still_hear olds ms s ts heard told = record {
  indexes = still_indexes olds ms s ∙ told.indexes;
  live = λ i b. still_look (λ o. is_live_there o b) (λ x y t. t.live b) olds ms s i ∙ told.live i b;
  marked = λ i b. still_look (λ o. is_marked_there o b) (λ x y t. t.marked b) olds ms s i ∙ told.marked i b;
  fenced = λ i. still_look is_fenced_there (λ x y t. t.is_fenced) olds ms s i ∙ told.fenced i;
  released = λ i. still_look is_released_there (λ x y t. t.is_released) olds ms s i ∙ told.released i;
}

-- ---- records

abbrev nothing : Option Shown
nothing = None

none_listed : (n total : ℕ) (homes : List Location) (i : ℕ) → total ≤ n → i < total → ShowsSame (get_or (replicate n None) i None) None
none_listed n total homes i h k =
    let e : get_or (replicate n nothing) i None ≡ nothing = get_or-replicate n i nothing None (omega arith) in
    record { heard = ap is_some e; live = λ b. ap (λ o. shows_live o b) e; marked = λ b. ap (λ o. shows_marked o b) e }

-- nothing was heard but marks
pub unheard_remembers : (n total : ℕ) (memory : HeardMemory) (m : Manager) → total ≤ n → memory.listings ≡ replicate n None
    → AreFresh (map (λ (t : Transfer). t.index) (transfers_of m.lock)) memory.moves → MarksTell memory.marks.marks m.marks → m.heard ≡ nothing_heard → Remembers total memory m
unheard_remembers n total memory m h listings fresh marks none = record {
  listings = record {
    enough = omega (arith, ap length listings ∙ length-replicate n None);
    shows = λ s i k. rw (listings, none) (none_listed n total m.homes i h k);
  };
  moves = rw none (fresh_tell (transfers_of m.lock) memory.moves fresh);
  marks = marks;
}

granted_indexes : (gs : List Grant) (homes : List Location) → map (λ (t : Transfer). t.index) (transfers_to gs homes) ≡ map (λ (t : Grant). t.index) gs
granted_indexes [] homes = refl
granted_indexes (g ∷ gs) homes = ap (λ is. g.index ∷ is) (granted_indexes gs homes)

pub locked_remembers : (total : ℕ) (old new : HeardMemory) (grants : List Grant) (task number : ℕ) (m : Manager) → Remembers total old m
    → new.listings ≡ replicate (length old.listings) None → AreFresh (map (λ (t : Grant). t.index) grants) new.moves → new.marks ≡ old.marks
    → Remembers total new (written (ManagerRecord.Locked task number grants) m)
locked_remembers total old new grants task number m told listings fresh marks =
    unheard_remembers (length old.listings) total new (written (ManagerRecord.Locked task number grants) m) told.listings.enough listings
    (subst (λ is. AreFresh is new.moves) (sym (granted_indexes grants m.homes)) fresh)
    (rw marks told.marks) refl

pub unlocked_remembers : (total : ℕ) (old new : HeardMemory) (m : Manager) → Remembers total old m
    → new.listings ≡ replicate (length old.listings) None → new.moves ≡ [] → new.marks ≡ old.marks → Remembers total new (written ManagerRecord.Unlocked m)
unlocked_remembers total old new m told listings moves marks =
    unheard_remembers (length old.listings) total new (written ManagerRecord.Unlocked m) told.listings.enough listings (rw moves tt) (rw marks told.marks) refl

redirected_indexes : (grant : Grant) (ts : List Transfer) → map (λ (t : Transfer). t.index) (redirected grant ts) ≡ map (λ (t : Transfer). t.index) ts
redirected_indexes grant [] = refl
redirected_indexes grant (t ∷ ts) = ap (λ is. t.index ∷ is) (redirected_indexes grant ts)

redirected_of : (grant : Grant) (lock : Option Lock) → map (λ (t : Transfer). t.index) (transfers_of (redirected_lock grant lock)) ≡ map (λ (t : Transfer). t.index) (transfers_of lock)
redirected_of grant None = refl
redirected_of grant (Some lock) = redirected_indexes grant lock.transfers

redirected_swap : (grant : Grant) (lock : Option Lock) → is_swapped (redirected_lock grant lock) ≡ is_swapped lock
redirected_swap grant None = refl
redirected_swap grant (Some lock) = refl

pub retargeted_remembers : (total : ℕ) (old new : HeardMemory) (grant : Grant) (m : Manager) → Remembers total old m
    → new.listings ≡ old.listings → new.marks ≡ old.marks
    → ((ts : List Transfer) → MovesHear ts (λ heard. record heard { live = without_rows grant.index heard.live; marked = without_rows grant.index heard.marked }) old.moves new.moves)
    → Remembers total new (written (ManagerRecord.Retargeted grant) m)
retargeted_remembers total old new grant m told listings marks hears =
    let moves = hears (transfers_of m.lock) m.heard told.moves in
    record {
      listings = record {
        enough = rw listings told.listings.enough;
        shows = λ s i k. rw listings (told.listings.shows (sym (redirected_swap grant m.lock) ∙ s) i k);
      };
      moves = record { indexes = moves.indexes ∙ sym (redirected_of grant m.lock); live = moves.live; marked = moves.marked; fenced = moves.fenced; released = moves.released };
      marks = rw marks told.marks;
    }

-- memory stays, and the manager's part changes in what memory doesn't tell
pub leased_remembers : (total : ℕ) (memory : HeardMemory) (end : ℕ) (m : Manager) → Remembers total memory m → Remembers total memory (written (ManagerRecord.Leased end) m)
leased_remembers total memory end m told = record { listings = record { enough = told.listings.enough; shows = told.listings.shows }; moves = told.moves; marks = told.marks }

pub asked_remembers : (total : ℕ) (memory : HeardMemory) (bid : ℕ) (m : Manager) → Remembers total memory m → Remembers total memory (written (ManagerRecord.Asked bid) m)
asked_remembers total memory bid m told = record { listings = record { enough = told.listings.enough; shows = told.listings.shows }; moves = told.moves; marks = told.marks }

pub committed_remembers : (total : ℕ) (memory : HeardMemory) (bid : ℕ) (m : Manager) → Remembers total memory m → Remembers total memory (written (ManagerRecord.Committed bid) m)
committed_remembers total memory bid m told = record { listings = record { enough = told.listings.enough; shows = told.listings.shows }; moves = told.moves; marks = told.marks }

swapped_true : (lock : Option Lock) → is_swapped (swapped_lock lock) ≡ is_some lock
swapped_true None = refl
swapped_true (Some lock) = refl

swapped_transfers : (lock : Option Lock) → transfers_of (swapped_lock lock) ≡ transfers_of lock
swapped_transfers None = refl
swapped_transfers (Some lock) = refl

none_of : (lock : Option Lock) → is_some lock ≡ false → (transfers_of lock ≡ []) × (is_swapped lock ≡ false)
none_of None h = (refl, refl)
none_of (Some lock) h = cc

pub swapped_remembers : (total : ℕ) (memory : HeardMemory) (m : Manager) → Remembers total memory m → Remembers total memory (written ManagerRecord.Swapped m)
swapped_remembers total memory m told = record {
  listings = record {
    enough = told.listings.enough;
    shows = λ s i k.
        let none = none_of m.lock (sym (swapped_true m.lock) ∙ s) in
        let homes : moved 0 (transfers_of m.lock) m.homes ≡ m.homes = ap (λ ts. moved 0 ts m.homes) none.0 ∙ moved-none 0 m.homes in
        subst (λ hs. ShowsSame (get_or memory.listings i None) (listing_at hs m.heard.listings i)) (sym homes) (told.listings.shows none.1 i k);
  };
  moves = subst (λ ts. MovesTell ts memory.moves m.heard) (sym (swapped_transfers m.lock)) told.moves;
  marks = told.marks;
}

-- room was made
pub reserved_remembers : (total : ℕ) (old : HeardMemory) (listings : List (Option Shown)) (moves : List HeardMove) (marks : KeptMarks) (m : Manager) → Remembers total old m
    → listings ≡ old.listings → marks.marks ≡ old.marks.marks → StillTell old.moves moves → Remembers total (record { listings = listings; moves = moves; marks = marks }) m
reserved_remembers total old listings moves marks m told ls ks still = record {
  listings = record { enough = rw ls told.listings.enough; shows = λ s i k. rw ls (told.listings.shows s i k) };
  moves = still_hear old.moves moves still (transfers_of m.lock) m.heard told.moves;
  marks = rw ks told.marks;
}
