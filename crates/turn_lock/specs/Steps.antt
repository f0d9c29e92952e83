-- What each step on the table tells the seat that makes it.
use Rattle.std.specs.Prelude.{◌≡◌, ℕ, ◌+◌, ◌-◌, ◌<◌, ◌≤◌, ◌^◌, ◌==◌, List, [], ◌∷◌, ◌++◌, length, Bool, false, true, Option, None, Some, MatchBool}
use Rattle.std.specs.List.{range_with_len}
use mathlib.Core.List.{IsPrefix}
use Rattle.atomic_table.specs.Table.{Me, Step, rest}
use Rattle.turn_lock.specs.declared.view.View.{View}
use Rattle.turn_lock.specs.Known.{all_parts, added, longer, shorter, IsEachOnce}

module _ {E : Type 0} where
  -- with all parts the places are those of the whole past
  abbrev pub OwnsAll : ℕ → List E → List ℕ → Type 0
  OwnsAll parts past places = parts ≡ all_parts → IsEachOnce (length past) places

module _ {O E : Type 0} where
  -- the view of a turn's first seat
  abbrev pub first_view : O → List E → View O E
  first_view origin past = record { origin = Some origin; seen = past; also = []; places = range_with_len 0 (length past); parts = all_parts; ticket = None; holds = false }

  abbrev pub with_ticket : View O E → ℕ → View O E
  with_ticket v t = record v { ticket = Some t }

  abbrev pub with_value : View O E → List E → View O E
  with_value v past = record v { seen = past; holds = true }

  abbrev pub with_past : View O E → List E → View O E
  with_past v past = record v { seen = past; places = v.places ++ added v.seen past }

  abbrev pub without_value : View O E → View O E
  without_value v = record v { ticket = None; holds = false }

  abbrev pub cut_view : View O E → View O E
  cut_view v = record v { parts = v.parts - 1 }

  abbrev pub part_of : View O E → View O E
  part_of v = record { origin = v.origin; seen = v.seen; also = []; places = []; parts = 1; ticket = None; holds = false }

  -- both views in one. It keeps the shorter past until a load compares it with the longer one
  abbrev pub both_views : View O E → View O E → View O E
  both_views v w = record v { seen = longer v.seen w.seen; also = shorter v.seen w.seen; places = v.places ++ w.places; parts = v.parts + w.parts }

  abbrev pub spent : View O E
  spent = record { origin = None; seen = []; also = []; places = []; parts = 0; ticket = None; holds = false }

  abbrev pub compared : View O E → View O E
  compared v = record v { also = [] }

module _ {T O E : Type 0} where
  abbrev pub DrawsIf : Bool → Me (Option T) (View O E) → ℕ → Me (Option T) (View O E) → Type 0
  DrawsIf won m found m' = MatchBool won (m' ≡ (with_ticket m.0 found, m.1)) (m' ≡ m)

  -- the ticket was drawn, or another seat was faster
  abbrev pub Draws : Step (Option T) → Me (Option T) (View O E) → ℕ → Me (Option T) (View O E) → Type 0
  Draws st m found m' = DrawsIf (found == st.first) m found m'

  -- both pasts of a joined view are beginnings of one past
  abbrev pub Compares : Step (Option T) → Me (Option T) (View O E) → ℕ → Me (Option T) (View O E) → Type 0
  Compares st m found m' =
      (m' ≡ (compared m.0, m.1)) × (length m.0.also ≤ length m.0.seen → IsPrefix m.0.also m.0.seen)
      × (m.0.parts ≤ all_parts) × OwnsAll m.0.parts m.0.seen m.0.places

  -- the value is back at home
  abbrev pub Raises : Step (Option T) → Me (Option T) (View O E) → ℕ → Me (Option T) (View O E) → Type 0
  Raises st m found m' = (m' ≡ (without_value m.0, rest m.1)) × (found + 1 < 2 ^ 64)

module _ {T O E : Type 0} (origin : T → O) (past : T → List E) where
  -- the seat has taken the value x, whose past begins with all that it had seen
  abbrev pub Takes : Me (Option T) (View O E) → Me (Option T) (View O E) → Type 0
  Takes m m' =
      (x : T) × (m' ≡ (with_value m.0 (past x), (0, Some x) ∷ m.1)) × (m.0.origin ≡ Some (origin x)) × IsPrefix m.0.seen (past x)
      × (m.0.parts ≡ all_parts → past x ≡ m.0.seen) × OwnsAll m.0.parts (past x) m.0.places

  abbrev pub ServesIf : Bool → Me (Option T) (View O E) → Me (Option T) (View O E) → Type 0
  ServesIf own m m' = MatchBool own (Takes m m') (m' ≡ m)

  -- the ticket is served, or another one is
  abbrev pub Serves : Step (Option T) → Me (Option T) (View O E) → ℕ → Me (Option T) (View O E) → Type 0
  Serves st m found m' = (t : ℕ) → m.0.ticket ≡ Some t → ServesIf (found == t) m m'

  abbrev pub Counted : T → Me (Option T) (View O E) → Me (Option T) (View O E) → Type 0
  Counted x m m' = (m' ≡ (with_past m.0 (past x), m.1)) × OwnsAll m.0.parts (past x) (m.0.places ++ added m.0.seen (past x))

  -- the past of the value that is to go back was seen, and what it added is the seat's own
  abbrev pub Counts : Step (Option T) → Me (Option T) (View O E) → ℕ → Me (Option T) (View O E) → Type 0
  Counts st m found m' = (x : T) → m.1 ≡ (0, Some x) ∷ [] → Counted x m m'
