-- Counting current units: over the homes that a look shows, over indexes, and over listings.
use Rattle.std.proofs.Common.{◌≡◌, ℕ, zero, suc, ◌+◌, ◌<◌, ◌≤◌, Bool, true, false, cond, not, ◌&&◌, ◌||◌, ◌==◌, List, [], ◌∷◌, length, filter, Some, refl, sym, ◌∙◌, ap, arith}
use Rattle.std.specs.Prelude.{nat_le, is_some}
use Rattle.std.proofs.lemmas.Bool.{le-leb, eqb-true}
use Rattle.unit_id.specs.Lists.{any, is_in, count_below, some_below}
use Rattle.unit_id.specs.Place.{Location, at_home}
use Rattle.unit_id.specs.Messages.{place_at}
use Rattle.unit_id.specs.declared.homes.Home.{Home}
use Rattle.unit_id.specs.Shown.{Shown}
use Rattle.unit_id.proofs.Bools.{not_so, not_true}
use Rattle.blob_node.specs.Units.{is_live, is_deleted}
use Rattle.code_mode.specs.Mode.{data_count}
use Rattle.volume_entry.specs.Manager.{Manager, home_at, current}
use Rattle.volume_entry.specs.View.{homes_shown}
use Rattle.volume_entry.specs.Benchmark.{Due, shows_live, shows_marked, listing_at, is_listed, is_listed_live, is_listed_marked, listed_count, benchmark_of}
use Rattle.volume_entry.proofs.HeardTallies.{count_same}
use Rattle.volume_world.specs.Way.{shape_of}
use Rattle.migrate_task.specs.declared.listing.Listing.{Listing}
use Rattle.migrate_task.specs.declared.copying.Due.{Due as CodeDue}
use Rattle.migrate_task.specs.declared.copying.Due.TheVariants as dues
use Rattle.migrate_task.specs.Work.{unbroken, live_count, is_marked_in, due_of}
use Rattle.migrate_task.proofs.Scenes.{Scene, total_of}

-- how many of these units have an index that passes
abbrev pub goods : (ℕ → Bool) → List Home → ℕ
goods good [] = 0
goods good (home ∷ homes) = cond (good home.unit.index) 1 0 + goods good homes

-- a current unit on an unbroken disk
pub record IsCurrent (present : List Location) (broken : ℕ → Bool) (total : ℕ) (home : Home) : Type 0 where
  pub below : home.unit.index < total
  pub at : place_at home.unit home.disk ≡ current present home.unit.index
  pub sound : broken (home_at present home.unit.index).disk ≡ false

abbrev pub AreCurrent : List Location → (ℕ → Bool) → ℕ → List Home → Type 0
AreCurrent present broken total [] = Unit {0}
AreCurrent present broken total (home ∷ homes) = IsCurrent present broken total home × AreCurrent present broken total homes

shown_goods : (good : ℕ → Bool) (vid index : ℕ) (broken : ℕ → Bool) (homes : List Location) → ((k : ℕ) → k < length homes → good (index + k) ≡ true → broken (home_at homes k).disk ≡ false)
    → count_below (index + length homes) good ≡ count_below index good + goods good (unbroken (homes_shown vid index broken homes))
shown_goods good vid index broken [] h = let e : count_below (index + 0) good ≡ count_below index good = ap (λ n. count_below n good) (omega arith) in omega (arith, e)
shown_goods good vid index broken (home ∷ homes) h =
    let later : (k : ℕ) → k < length homes → good (suc index + k) ≡ true → broken (home_at homes k).disk ≡ false = λ k below g. h (suc k) (omega (arith, below)) (ap good (omega arith) ∙ g) in
    let rest = shown_goods good vid (suc index) broken homes later in
    let same : count_below (index + suc (length homes)) good ≡ count_below (suc index + length homes) good = ap (λ n. count_below n good) (omega arith) in
    let here : good index ≡ true → broken home.disk ≡ false = λ g. h 0 (omega arith) (ap good (omega arith) ∙ g) in
    go (broken home.disk) here rest same where
      go : (test : Bool) → (good index ≡ true → test ≡ false) → count_below (suc index + length homes) good ≡ count_below (suc index) good + goods good (unbroken (homes_shown vid (suc index) broken homes))
          → count_below (index + suc (length homes)) good ≡ count_below (suc index + length homes) good
          → count_below (index + suc (length homes)) good ≡ count_below index good
          + goods good (cond (not test) (record { unit = record { vid = vid; index = index; epoch = home.epoch }; disk = home.disk; broken = broken home.disk } ∷ unbroken (homes_shown vid (suc index) broken homes)) (unbroken (homes_shown vid (suc index) broken homes)))
      go true here rest same =
          let none : good index ≡ false = not_so (good index) (λ g. let x = here g in cc) in
          let zero_here : cond {A = ℕ} (good index) 1 0 ≡ 0 = ap (λ b. cond {A = ℕ} b 1 0) none in
          omega (arith, rest, same, zero_here)
      go false here rest same = omega (arith, rest, same)

-- as many units pass as there are shown ones that do, where only units on unbroken disks pass
pub whole_goods : (good : ℕ → Bool) (vid : ℕ) (broken : ℕ → Bool) (homes : List Location) → ((k : ℕ) → good k ≡ true → broken (home_at homes k).disk ≡ false)
    → count_below (length homes) good ≡ goods good (unbroken (homes_shown vid 0 broken homes))
whole_goods good vid broken homes h =
    let all = shown_goods good vid 0 broken homes (λ k below g. h k (ap good (omega arith) ∙ g)) in
    let long : count_below (length homes) good ≡ count_below (0 + length homes) good = ap (λ n. count_below n good) (omega arith) in
    omega (arith, all, long)

pub shown_current : (present : List Location) (total vid index : ℕ) (broken : ℕ → Bool) (homes : List Location) → index + length homes ≤ total → ((k : ℕ) → k < length homes → home_at present (index + k) ≡ home_at homes k)
    → AreCurrent present broken total (unbroken (homes_shown vid index broken homes))
shown_current present total vid index broken [] within h = tt
shown_current present total vid index broken (home ∷ homes) within h =
    let rest = shown_current present total vid (suc index) broken homes (omega (arith, within)) (λ k below. ap (home_at present) (omega arith) ∙ h (suc k) (omega (arith, below))) in
    let here : home_at present index ≡ home = ap (home_at present) (omega arith) ∙ h 0 (omega arith) in
    go (broken home.disk) refl (omega (arith, within)) here rest where
      go : (test : Bool) → broken home.disk ≡ test → index < total → home_at present index ≡ home → AreCurrent present broken total (unbroken (homes_shown vid (suc index) broken homes))
          → AreCurrent present broken total (cond (not test) (record { unit = record { vid = vid; index = index; epoch = home.epoch }; disk = home.disk; broken = broken home.disk } ∷ unbroken (homes_shown vid (suc index) broken homes)) (unbroken (homes_shown vid (suc index) broken homes)))
      go true e below here rest = rest
      go false e below here rest = (record { below = below; at = ap (at_home index) (sym here); sound = ap (λ (l : Location). broken l.disk) here ∙ e }, rest)

-- the units of other indexes
pub others_current : (present : List Location) (broken : ℕ → Bool) (total index : ℕ) (homes : List Home) → AreCurrent present broken total homes
    → AreCurrent present broken total (filter (λ (home : Home). not (home.unit.index == index)) homes)
others_current present broken total index [] h = tt
others_current present broken total index (home ∷ homes) h = go (not (home.unit.index == index)) (others_current present broken total index homes h.1) where
  go : (test : Bool) → AreCurrent present broken total (filter (λ (home : Home). not (home.unit.index == index)) homes)
      → AreCurrent present broken total (cond test (home ∷ filter (λ (home : Home). not (home.unit.index == index)) homes) (filter (λ (home : Home). not (home.unit.index == index)) homes))
  go true rest = (h.0, rest)
  go false rest = rest

-- where the index doesn't pass, those of other indexes are all that do
pub others_goods : (good : ℕ → Bool) (index : ℕ) (homes : List Home) → good index ≡ false → goods good (filter (λ (home : Home). not (home.unit.index == index)) homes) ≡ goods good homes
others_goods good index [] none = refl
others_goods good index (home ∷ homes) none = go (home.unit.index == index) refl (others_goods good index homes none) where
  go : (test : Bool) → home.unit.index == index ≡ test → goods good (filter (λ (home : Home). not (home.unit.index == index)) homes) ≡ goods good homes
      → goods good (cond (not test) (home ∷ filter (λ (home : Home). not (home.unit.index == index)) homes) (filter (λ (home : Home). not (home.unit.index == index)) homes)) ≡ cond (good home.unit.index) 1 0 + goods good homes
  go true e rest =
      let here : good home.unit.index ≡ false = ap good (eqb-true home.unit.index index e) ∙ none in
      let zero_here : cond {A = ℕ} (good home.unit.index) 1 0 ≡ 0 = ap (λ b. cond {A = ℕ} b 1 0) here in
      omega (arith, rest, zero_here)
  go false e rest = ap (λ n. cond {A = ℕ} (good home.unit.index) 1 0 + n) rest

pub goods_most : (good : ℕ → Bool) (homes : List Home) → goods good homes ≤ length homes
goods_most good [] = omega arith
goods_most good (home ∷ homes) = go (good home.unit.index) (goods_most good homes) where
  go : (test : Bool) → goods good homes ≤ length homes → cond {A = ℕ} test 1 0 + goods good homes ≤ suc (length homes)
  go true rest = omega (arith, rest)
  go false rest = omega (arith, rest)

-- ---- what current units have

-- the current unit of an index isn't broken, and has a live row of the blob; or one that is marked or gone
abbrev pub holds : Scene → ℕ → ℕ → Bool
holds s bid i = not (s.broken (home_at s.homes i).disk) && is_live (s.row i bid)

abbrev pub bears : Scene → ℕ → ℕ → Bool
bears s bid i = not (s.broken (home_at s.homes i).disk) && is_deleted (s.row i bid)

pub sound_by : (a b : Bool) → not a && b ≡ true → a ≡ false
sound_by true b e = absurd (cc)
sound_by false b e = refl

-- what a blob gets
abbrev pub due_by : Scene → ℕ → Due
due_by s bid = cond (some_below (total_of s) (bears s bid)) Due.Mark (cond (nat_le (data_count s.origin.mode) (count_below (total_of s) (holds s bid))) Due.Copy Due.Left)

-- ---- by the listings that the manager has heard

-- a listing shows exactly the rows of the current unit of an index
pub record IsListed (s : Scene) (m : Manager) (i : ℕ) : Type 0 where
  pub shown : Shown
  pub is : listing_at s.homes m.heard.listings i ≡ Some shown
  pub live : (bid : ℕ) → is_in bid shown.live ≡ is_live (s.row i bid)
  pub marked : (bid : ℕ) → is_in bid shown.marked ≡ is_deleted (s.row i bid)

abbrev pub AreListed : Scene → Manager → Type 0
AreListed s m = (i : ℕ) → i < total_of s → s.broken (home_at s.homes i).disk ≡ false → IsListed s m i

some_same : (n : ℕ) (f g : ℕ → Bool) → ((i : ℕ) → i < n → f i ≡ g i) → some_below n f ≡ some_below n g
some_same zero f g h = refl
some_same (suc n) f g h = λ k. h n (omega arith) k || some_same n f g (λ i below. h i (omega (arith, below))) k

-- two tests agree where the disk isn't broken
both_sound : (broken a b : Bool) → (broken ≡ false → a ≡ b) → not broken && a ≡ not broken && b
both_sound true a b h = refl
both_sound false a b h = h refl

listed_live : (s : Scene) (m : Manager) (bid i : ℕ) → AreListed s m → i < total_of s → is_listed_live s.homes s.broken m.heard.listings bid i ≡ holds s bid i
listed_live s m bid i h below = both_sound (s.broken (home_at s.homes i).disk) (shows_live (listing_at s.homes m.heard.listings i) bid) (is_live (s.row i bid))
    (λ sound. let l = h i below sound in ap (λ shown. shows_live shown bid) l.is ∙ l.live bid)

listed_marked : (s : Scene) (m : Manager) (bid i : ℕ) → AreListed s m → i < total_of s → is_listed_marked s.homes s.broken m.heard.listings bid i ≡ bears s bid i
listed_marked s m bid i h below = both_sound (s.broken (home_at s.homes i).disk) (shows_marked (listing_at s.homes m.heard.listings i) bid) (is_deleted (s.row i bid))
    (λ sound. let l = h i below sound in ap (λ shown. shows_marked shown bid) l.is ∙ l.marked bid)

and_true : (b : Bool) → not b && true ≡ not b
and_true true = refl
and_true false = refl

pub listed_all : (s : Scene) (m : Manager) → AreListed s m → listed_count (total_of s) s.homes s.broken m.heard.listings ≡ count_below (total_of s) (λ i. not (s.broken (home_at s.homes i).disk))
listed_all s m h = count_same (total_of s) (is_listed s.homes s.broken m.heard.listings) (λ i. not (s.broken (home_at s.homes i).disk))
    (λ i below. both_sound (s.broken (home_at s.homes i).disk) (is_some (listing_at s.homes m.heard.listings i)) true (λ sound. ap is_some (h i below sound).is) ∙ and_true (s.broken (home_at s.homes i).disk))

pub benchmark_is : (s : Scene) (m : Manager) (bid : ℕ) → AreListed s m → benchmark_of (shape_of s.origin) s.homes s.broken m.heard.listings bid ≡ due_by s bid
benchmark_is s m bid h =
    let marked = some_same (total_of s) (is_listed_marked s.homes s.broken m.heard.listings bid) (bears s bid) (λ i below. listed_marked s m bid i h below) in
    let live = count_same (total_of s) (is_listed_live s.homes s.broken m.heard.listings bid) (holds s bid) (λ i below. listed_live s m bid i h below) in
    λ k. cond (marked k) Due.Mark (cond (nat_le (data_count s.origin.mode) (live k)) Due.Copy Due.Left)

-- ---- by the listings that the task has heard

pub record IsExact (s : Scene) (i : ℕ) (l : Listing) : Type 0 where
  pub live : (bid : ℕ) → is_in bid l.live ≡ is_live (s.row i bid)
  pub marked : (bid : ℕ) → is_in bid l.marked ≡ is_deleted (s.row i bid)

-- of each of these units one, in order
abbrev pub AreExact : Scene → List Home → List Listing → Type 0
AreExact s [] [] = Unit {0}
AreExact s (home ∷ homes) (l ∷ ls) = IsExact s home.unit.index l × AreExact s homes ls
AreExact s homes ls = ⊥

pub exact_long : (s : Scene) (homes : List Home) (ls : List Listing) → AreExact s homes ls → length ls ≡ length homes
exact_long s [] [] h = refl
exact_long s (home ∷ homes) (l ∷ ls) h = ap suc (exact_long s homes ls h.1)
exact_long s [] (l ∷ ls) h = absurd h
exact_long s (home ∷ homes) [] h = absurd h

one_more : {A : Type 0} (test : Bool) (x : A) (xs : List A) → length (cond test (x ∷ xs) xs) ≡ cond {A = ℕ} test 1 0 + length xs
one_more true x xs = omega arith
one_more false x xs = omega arith

live_goods : (s : Scene) (bid : ℕ) (homes : List Home) (ls : List Listing) → AreExact s homes ls → AreCurrent s.homes s.broken (total_of s) homes → live_count ls bid ≡ goods (holds s bid) homes
live_goods s bid [] [] h c = refl
live_goods s bid (home ∷ homes) (l ∷ ls) h c =
    let here : is_in bid l.live ≡ holds s bid home.unit.index = h.0.live bid ∙ sym (ap (λ b. not b && is_live (s.row home.unit.index bid)) c.0.sound) in
    one_more (is_in bid l.live) l (filter (λ (x : Listing). is_in bid x.live) ls) ∙ (λ k. cond {A = ℕ} (here k) 1 0 + live_goods s bid homes ls h.1 c.1 k)
live_goods s bid [] (l ∷ ls) h c = absurd h
live_goods s bid (home ∷ homes) [] h c = absurd h

some_goods : (good : ℕ → Bool) (homes : List Home) → any (λ (home : Home). good home.unit.index) homes ≡ nat_le 1 (goods good homes)
some_goods good [] = refl
some_goods good (home ∷ homes) = go (good home.unit.index) (some_goods good homes) where
  go : (test : Bool) → any (λ (home : Home). good home.unit.index) homes ≡ nat_le 1 (goods good homes) → test || any (λ (home : Home). good home.unit.index) homes ≡ nat_le 1 (cond {A = ℕ} test 1 0 + goods good homes)
  go true rest = sym (le-leb 1 (1 + goods good homes) (omega arith))
  go false rest = rest ∙ ap (nat_le 1) (omega arith)

some_count : (n : ℕ) (f : ℕ → Bool) → some_below n f ≡ nat_le 1 (count_below n f)
some_count zero f = refl
some_count (suc n) f = go (f n) (some_count n f) where
  go : (test : Bool) → some_below n f ≡ nat_le 1 (count_below n f) → test || some_below n f ≡ nat_le 1 (cond {A = ℕ} test 1 0 + count_below n f)
  go true rest = sym (le-leb 1 (1 + count_below n f) (omega arith))
  go false rest = rest ∙ ap (nat_le 1) (omega arith)

marked_goods : (s : Scene) (bid : ℕ) (homes : List Home) (ls : List Listing) → AreExact s homes ls → AreCurrent s.homes s.broken (total_of s) homes → is_marked_in ls bid ≡ any (λ (home : Home). bears s bid home.unit.index) homes
marked_goods s bid [] [] h c = refl
marked_goods s bid (home ∷ homes) (l ∷ ls) h c =
    let here : is_in bid l.marked ≡ bears s bid home.unit.index = h.0.marked bid ∙ sym (ap (λ b. not b && is_deleted (s.row home.unit.index bid)) c.0.sound) in
    λ k. here k || marked_goods s bid homes ls h.1 c.1 k
marked_goods s bid [] (l ∷ ls) h c = absurd h
marked_goods s bid (home ∷ homes) [] h c = absurd h

abbrev pub as_due : CodeDue → Due
as_due dues.Mark = Due.Mark
as_due dues.Copy = Due.Copy
as_due dues.Left = Due.Left

same_due : (a b : Bool) → as_due (cond a dues.Mark (cond b dues.Copy dues.Left)) ≡ cond a Due.Mark (cond b Due.Copy Due.Left)
same_due true b = refl
same_due false true = refl
same_due false false = refl

-- the units that a look shows on unbroken disks
abbrev pub shown_units : Scene → List Home
shown_units s = unbroken (homes_shown s.origin.vid 0 s.broken s.homes)

pub units_current : (s : Scene) → length s.homes ≡ total_of s → AreCurrent s.homes s.broken (total_of s) (shown_units s)
units_current s count = shown_current s.homes (total_of s) s.origin.vid 0 s.broken s.homes (omega (arith, count)) (λ k below. ap (home_at s.homes) (omega arith))

pub held_goods : (s : Scene) (bid : ℕ) → length s.homes ≡ total_of s → count_below (total_of s) (holds s bid) ≡ goods (holds s bid) (shown_units s)
held_goods s bid count =
    ap (λ n. count_below n (holds s bid)) (sym count)
    ∙ whole_goods (holds s bid) s.origin.vid s.broken s.homes (λ k h. sound_by (s.broken (home_at s.homes k).disk) (is_live (s.row k bid)) h)

borne_goods : (s : Scene) (bid : ℕ) → length s.homes ≡ total_of s → count_below (total_of s) (bears s bid) ≡ goods (bears s bid) (shown_units s)
borne_goods s bid count =
    ap (λ n. count_below n (bears s bid)) (sym count)
    ∙ whole_goods (bears s bid) s.origin.vid s.broken s.homes (λ k h. sound_by (s.broken (home_at s.homes k).disk) (is_deleted (s.row k bid)) h)

pub due_is : (s : Scene) (bid : ℕ) (ls : List Listing) → length s.homes ≡ total_of s → AreExact s (shown_units s) ls → as_due (due_of (data_count s.origin.mode) ls bid) ≡ due_by s bid
due_is s bid ls count exact =
    let current = units_current s count in
    let marked : is_marked_in ls bid ≡ some_below (total_of s) (bears s bid) =
    marked_goods s bid (shown_units s) ls exact current ∙ some_goods (bears s bid) (shown_units s) ∙ ap (nat_le 1) (sym (borne_goods s bid count)) ∙ sym (some_count (total_of s) (bears s bid)) in
    let live : live_count ls bid ≡ count_below (total_of s) (holds s bid) = live_goods s bid (shown_units s) ls exact current ∙ sym (held_goods s bid count) in
    same_due (is_marked_in ls bid) (nat_le (data_count s.origin.mode) (live_count ls bid)) ∙ (λ k. cond (marked k) Due.Mark (cond (nat_le (data_count s.origin.mode) (live k)) Due.Copy Due.Left))

-- as many units are shown on unbroken disks as are enough to see
pub shown_enough : (s : Scene) (least : ℕ) → length s.homes ≡ total_of s → least ≤ count_below (total_of s) (λ i. not (s.broken (home_at s.homes i).disk)) → least ≤ length (shown_units s)
shown_enough s least count enough =
    let all : count_below (total_of s) (λ i. not (s.broken (home_at s.homes i).disk)) ≡ goods (λ i. not (s.broken (home_at s.homes i).disk)) (shown_units s) =
    ap (λ n. count_below n (λ i. not (s.broken (home_at s.homes i).disk))) (sym count)
    ∙ whole_goods (λ i. not (s.broken (home_at s.homes i).disk)) s.origin.vid s.broken s.homes (λ k h. not_true (s.broken (home_at s.homes k).disk) h) in
    let most = goods_most (λ i. not (s.broken (home_at s.homes i).disk)) (shown_units s) in
    omega (arith, enough, all, most)
