-- How a story is shown to be legal, move by move, and what its moves need.
use Rattle.std.proofs.Common.{◌≡◌, ℕ, ◌≤◌, inl, inr, Bool, true, false, List, [], ◌∷◌, Some, None, refl, sym, subst, cond, arith}
use Rattle.std.specs.Prelude.{◌&&◌, ◌||◌, ◌==◌, ◌++◌}
use Rattle.std.proofs.lemmas.Bool.{eqb-true}
use Rattle.unit_id.specs.declared.targets.Target.{Target}
use Rattle.unit_id.proofs.Bools.{and_left, and_right, either}
use Rattle.code_mode.specs.VolumeShape.{VolumeShape}
use Rattle.blob_node.specs.Units.{RowState, is_live, is_deleted}
use Rattle.volume_entry.specs.Manager.{transfers_of}
use Rattle.volume_entry.specs.Benchmark.{is_unsettled}
use Rattle.volume_entry.specs.ManagerStep.{AreAllSettled}
use Rattle.volume_world.specs.State.{State}
use Rattle.volume_world.specs.Move.{Move, Moves, MovesAll}
use Rattle.volume_entry.specs.ManagerStep.{IsTarget}
use Rattle.volume_world.specs.Stories.{after, after_all, smallest, three_units, put_moves, copy_moves}

-- each move leads to the state after it
abbrev pub AreMoves : VolumeShape → State → List Move → Type 0
AreMoves shape s [] = Unit {0}
AreMoves shape s (move ∷ moves) = Moves shape s move (after s move) × AreMoves shape (after s move) moves

pub story : (shape : VolumeShape) (s : State) (moves : List Move) → AreMoves shape s moves → MovesAll shape s moves (after_all s moves)
story shape s [] h = refl
story shape s (move ∷ moves) h = (after s move, h.0, story shape (after s move) moves h.1)

-- only the first epoch was made there
pub only_one : (e : ℕ) → (e == 1) && true ≡ true → e ≤ 1
only_one e h = let x = eqb-true e 1 (and_left (e == 1) true h) in omega (arith, x)

-- nothing was made there
pub none_there : (e : ℕ) → (e == 1) && false ≡ true → e ≤ 2
none_there e h = let x = and_right (e == 1) false h in cc

-- the successor alone was made there
pub successor_alone : (e : ℕ) → cond ((e == 2) && true) true ((e == 1) && false) ≡ true → e ≤ 2
successor_alone e h = go ((e == 2) && true) refl h where
  go : (test : Bool) → (e == 2) && true ≡ test → cond test true ((e == 1) && false) ≡ true → e ≤ 2
  go true f k = let x = eqb-true e 2 (and_left (e == 2) true f) in omega (arith, x)
  go false f k = none_there e k

-- the first unit alone was made there
pub first_alone : (e : ℕ) → cond ((e == 2) && false) true ((e == 1) && true) ≡ true → e ≤ 1
first_alone e h = go ((e == 2) && false) refl h where
  go : (test : Bool) → (e == 2) && false ≡ test → cond test true ((e == 1) && true) ≡ true → e ≤ 1
  go true f k = let x = and_right (e == 2) false f in cc
  go false f k = only_one e k

pub live_shown : (test : Bool) → test || false ≡ is_live (cond test (Some RowState.Live) None)
live_shown true = refl
live_shown false = refl

pub none_marked : (test : Bool) → false ≡ is_deleted (cond test (Some RowState.Live) None)
none_marked true = refl
none_marked false = refl

pub target : (w : Target) → w ≡ record { index = 0; disk = 4 } → IsTarget smallest w
target w e = subst (IsTarget smallest) (sym e) (record { index = omega arith; disk = record { first = omega arith; last = omega arith } })

-- before the swaps
abbrev pub copied : State
copied = after_all three_units (put_moves ++ copy_moves)

pub copied_settled : AreAllSettled smallest copied.broken copied.manager
copied_settled bid = elim (either (bid == 1)) [
  | inl one ↦ subst (λ b. is_unsettled smallest copied.manager.homes copied.broken (transfers_of copied.manager.lock) copied.manager.heard b ≡ false) (sym (eqb-true bid 1 one)) refl
  | inr other ↦ rw other refl
]
