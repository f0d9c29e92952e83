-- The rule of the turn's table: three words, one slot, and what each seat knows.
-- Word 0 is the length of the past, word 1 the number of tickets drawn, word 2 the ticket that is served.
use Rattle.std.specs.Prelude.{◌≡◌, ℕ, ◌<◌, ◌≤◌, ◌⊎◌, ◌^◌, List, [], ◌∷◌, length, false, true, Option, Some}
use Rattle.std.specs.List.{sum_by}
use mathlib.Core.Option as maybe
use mathlib.Core.List.{IsPrefix}
use lib.ListN.{get_elem?}
use Rattle.atomic_table.specs.Table.{State}
use Rattle.turn_lock.specs.declared.view.View.{View}
use Rattle.turn_lock.specs.Known.{all_parts, times, once_below}

module _ {O E : Type 0} where
  -- what is true of each seat's view
  pub record Fits (root : O) (log : List E) (drawn served : ℕ) (v : View O E) : Type 0 where
    pub origin : 0 < v.parts → v.origin ≡ Some root
    pub seen : IsPrefix v.seen log
    pub also : IsPrefix v.also log
    -- the seat has seen each of its own places
    pub own : (x : ℕ) → length v.seen ≤ x → times x v.places ≡ 0
    pub waits : (t : ℕ) → v.ticket ≡ Some t → (served ≤ t) × (t < drawn)
    -- the seat that has the value has the served ticket, and has seen the whole past
    pub holder : v.holds ≡ true → (v.ticket ≡ Some served) × (v.seen ≡ log)
    pub idle : v.parts ≡ 0 → (v.places ≡ []) × (v.holds ≡ false)

  abbrev pub Apart : List (View O E) → Type 0
  Apart views = (i j t : ℕ) (v w : View O E) → get_elem? views i ≡ maybe.some v → get_elem? views j ≡ maybe.some w → v.ticket ≡ Some t → w.ticket ≡ Some t → i ≡ j

module _ {T O E : Type 0} (origin : T → O) (past : T → List E) where
  abbrev pub Homes : Type 0
  Homes = List (maybe.Option (Option T))

  -- the value is at home, and has the past; no seat has it
  abbrev pub AtHome : O → List E → Homes → List (View O E) → Type 0
  AtHome root log homes views =
      ((x : T) × (homes ≡ maybe.some (Some x) ∷ []) × (origin x ≡ root) × (past x ≡ log)) × ((j : ℕ) (v : View O E) → get_elem? views j ≡ maybe.some v → v.holds ≡ false)

  -- the value is out with a seat
  abbrev pub IsOut : Homes → List (View O E) → Type 0
  IsOut homes views = (homes ≡ maybe.none ∷ []) × ((j : ℕ) × (v : View O E) × (get_elem? views j ≡ maybe.some v) × (v.holds ≡ true))

  abbrev pub Housed : O → List E → Homes → List (View O E) → Type 0
  Housed root log homes views = AtHome root log homes views ⊎ IsOut homes views

  pub record IsKept (s : State (Option T) (View O E)) : Type 0 where
    pub root : O
    pub log : List E
    pub drawn : ℕ
    pub served : ℕ
    pub words : s.words ≡ length log ∷ drawn ∷ served ∷ []
    pub room : drawn < 2 ^ 64
    pub order : served ≤ drawn
    pub home : Housed root log s.homes s.views
    pub fits : (j : ℕ) (v : View O E) → get_elem? s.views j ≡ maybe.some v → Fits root log drawn served v
    -- no two seats have one ticket
    pub apart : Apart s.views
    pub parts : sum_by (λ v. v.parts) s.views ≡ all_parts
    -- the places of all views are the numbers below word 0, each once
    pub places : (x : ℕ) → sum_by (λ v. times x v.places) s.views ≡ once_below x (length log)
