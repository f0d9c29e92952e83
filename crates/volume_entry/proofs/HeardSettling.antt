-- What memory says of a blob that some destination lacks is what was heard.
use Rattle.std.proofs.Common.{◌≡◌, ◌∙◌, ap, refl, ℕ, zero, suc, ◌<◌, Bool, true, false, cond, ◌&&◌, ◌||◌, List, get_or, arith, Option, None}
use Rattle.std.specs.Prelude.{not, nat_le}
use Rattle.code_mode.specs.VolumeShape.{VolumeShape}
use Rattle.unit_id.specs.Lists.{any, count_below, some_below}
use Rattle.unit_id.specs.Shown.{Shown}
use Rattle.volume_entry.specs.Manager.{Transfer, Heard, Manager, transfers_of, is_swapped, home_at}
use Rattle.volume_entry.specs.Benchmark.{Due, benchmark_of, is_listed_live, is_listed_marked, is_settled, is_unsettled, shows_live, shows_marked}
use Rattle.volume_entry.specs.HeardMemory.{HeardMove, HeardMemory, ListingsTell, MovesTell, Remembers}
use Rattle.volume_entry.specs.HeardCounts.{is_broken, live_at, marked_at, due_by, settled_by, unsettled_by}
use Rattle.volume_entry.proofs.AnyTests.{any_same}
use Rattle.volume_entry.proofs.HeardTallies.{count_same}

some_same : (n : ℕ) (f g : ℕ → Bool) → ((i : ℕ) → i < n → f i ≡ g i) → some_below n f ≡ some_below n g
some_same zero f g h = refl
some_same (suc n) f g h = λ j. h n (omega arith) j || some_same n f g (λ i k. h i (omega arith)) j

live_where : (b : Bool) (o : Option Shown) (bid : ℕ) → shows_live (cond b None o) bid ≡ (not b && shows_live o bid)
live_where true o bid = refl
live_where false o bid = refl

marked_where : (b : Bool) (o : Option Shown) (bid : ℕ) → shows_marked (cond b None o) bid ≡ (not b && shows_marked o bid)
marked_where true o bid = refl
marked_where false o bid = refl

module _ (shape : VolumeShape) (m : Manager) (ls : List (Option Shown)) (broken : List Bool) (unswapped : is_swapped m.lock ≡ false) (told : ListingsTell shape.total ls m) (bid : ℕ) where
  live_tells : (i : ℕ) → i < shape.total → live_at ls m.homes broken bid i ≡ is_listed_live m.homes (is_broken broken) m.heard.listings bid i
  live_tells i k =
      let b = is_broken broken (home_at m.homes i).disk in
      live_where b (get_or ls i None) bid ∙ ap (λ s. not b && s) ((told.shows unswapped i k).live bid)

  marked_tells : (i : ℕ) → i < shape.total → marked_at ls m.homes broken bid i ≡ is_listed_marked m.homes (is_broken broken) m.heard.listings bid i
  marked_tells i k =
      let b = is_broken broken (home_at m.homes i).disk in
      marked_where b (get_or ls i None) bid ∙ ap (λ s. not b && s) ((told.shows unswapped i k).marked bid)

  pub due_tells : due_by shape ls m.homes broken bid ≡ benchmark_of shape m.homes (is_broken broken) m.heard.listings bid
  due_tells =
      ap (λ b. cond b Due.Mark (cond (nat_le shape.data_count (count_below shape.total (live_at ls m.homes broken bid))) Due.Copy Due.Left))
      (some_same shape.total (marked_at ls m.homes broken bid) (is_listed_marked m.homes (is_broken broken) m.heard.listings bid) marked_tells)
      ∙ ap (λ n. cond (some_below shape.total (is_listed_marked m.homes (is_broken broken) m.heard.listings bid)) Due.Mark (cond (nat_le shape.data_count n) Due.Copy Due.Left))
      (count_same shape.total (live_at ls m.homes broken bid) (is_listed_live m.homes (is_broken broken) m.heard.listings bid) live_tells)

settled_tells : (ts : List Transfer) (ms : List HeardMove) (heard : Heard) → MovesTell ts ms heard → (bid : ℕ) (due : Due) (i : ℕ) → settled_by ms bid due i ≡ is_settled heard bid due i
settled_tells ts ms heard told bid Due.Mark i = told.marked i bid
settled_tells ts ms heard told bid Due.Copy i = λ j. told.live i bid j || told.marked i bid j
settled_tells ts ms heard told bid Due.Left i = refl

-- whether a blob is unsettled
pub unsettled_tells : (shape : VolumeShape) (m : Manager) (memory : HeardMemory) (broken : List Bool) → is_swapped m.lock ≡ false → Remembers shape.total memory m → (bid : ℕ)
    → unsettled_by shape memory m.homes broken (transfers_of m.lock) bid ≡ is_unsettled shape m.homes (is_broken broken) (transfers_of m.lock) m.heard bid
unsettled_tells shape m memory broken unswapped told bid =
    ap (λ due. any (λ (t : Transfer). not (settled_by memory.moves bid due t.index)) (transfers_of m.lock)) (due_tells shape m memory.listings broken unswapped told.listings bid)
    ∙ any_same (λ (t : Transfer). not (settled_by memory.moves bid (benchmark_of shape m.homes (is_broken broken) m.heard.listings bid) t.index))
    (λ (t : Transfer). not (is_settled m.heard bid (benchmark_of shape m.homes (is_broken broken) m.heard.listings bid) t.index)) (transfers_of m.lock)
    (λ t. ap not (settled_tells (transfers_of m.lock) memory.moves m.heard told.moves bid (benchmark_of shape m.homes (is_broken broken) m.heard.listings bid) t.index))
