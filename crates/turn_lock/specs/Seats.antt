-- A token's seat, as its clauses and the clauses of the steps see it.
use Rattle.std.specs.Prelude.{◌≡◌, ◌<◌, List, [], ◌∷◌, false, true, Option, None, Some}
use mathlib.Core.List.{IsPrefix}
use Rattle.atomic_table.specs.Seated.{TableId}
use Rattle.atomic_table.specs.Table.{Me}
use Rattle.atomic_table.specs.declared.shared.Seat.{Seat}
use Rattle.turn_lock.specs.declared.view.View.{View}
use Rattle.turn_lock.specs.Known.{Known}

-- the seat is of the table of a turn
abbrev pub IsOfTurn : TableId → TableId → Type 0
IsOfTurn seat turn = (seat ≡ turn) × (turn.words ≡ 3) × (turn.slots ≡ 1)

module _ {O E : Type 0} where
  -- what a token shows of its view
  abbrev pub known : TableId → View O E → Known O E
  known turn v = record { turn = turn; origin = v.origin; seen = v.seen; places = v.places; parts = v.parts; holds = v.holds }

module _ {T O E : Type 0} where
  abbrev pub IsSameSeat : Seat (Option T) (View O E) → Seat (Option T) (View O E) → Type 0
  IsSameSeat p q = (q.table_id ≡ p.table_id) × (q.id ≡ p.id)

  -- the seat has the slot, and x is in it
  abbrev pub Has : Me (Option T) (View O E) → T → Type 0
  Has m x = m.1 ≡ (0, Some x) ∷ []

  -- the seat has the slot, and the value was taken out
  abbrev pub HasNone : Me (Option T) (View O E) → Type 0
  HasNone m = m.1 ≡ (0, None) ∷ []

  -- a token has a part. While it holds, its seat has the slot, without the value; else the seat has no ticket and no slot
  abbrev pub IsSeated : Me (Option T) (View O E) → Type 0
  IsSeated m = (0 < m.0.parts) × (m.0.holds ≡ false → (m.0.ticket ≡ None) × (m.1 ≡ [])) × (m.0.holds ≡ true → HasNone m)

  -- the value has the view's origin, and its past begins with what the view has seen
  abbrev pub Continues : (T → O) → (T → List E) → View O E → T → Type 0
  Continues origin past v x = (v.origin ≡ Some (origin x)) × IsPrefix v.seen (past x)
