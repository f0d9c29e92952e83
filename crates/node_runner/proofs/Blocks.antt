-- What a line spells, and whether it may stand there.
use Rattle.std.proofs.Common.{◌≡◌, ℕ, Bool, true, false, not, ◌&&◌, ◌⊎◌, inl, inr, List, Option, Some, None}
use Rattle.std.specs.Prelude.{if◌then◌else◌}
use Rattle.node_runner.specs.Script.{◌>>=◌, is_passed_over, command_of, command_at, may_stand_inside}
use Rattle.node_runner.specs.Run.{spelled, is_said}
use Rattle.node_runner.specs.Progress.{IsSame, HasBroken, BreaksTurn}
use Rattle.node_runner.specs.declared.kept.Kept.{Kept}
use Rattle.node_runner.specs.declared.command.Command.{Command}

-- a command that may stand there is the one that the line spells
pub stands_spelled : (inside : Bool) (line : List ℕ) (command : Command) → is_passed_over line ≡ false → command_at inside line ≡ Some command → spelled line ≡ Some command
stands_spelled inside line command words at = rw (words) (go (command_of line) at)
  where
    stands : (refused : Bool) (own : Command) → (if refused then None else Some own) ≡ Some command → Some own ≡ Some command
    stands true own e = cc
    stands false own e = e

    go : (found : Option Command) → (found >>= λ own. if inside && not (may_stand_inside own) then None else Some own) ≡ Some command → found ≡ Some command
    go None e = e
    go (Some own) e = stands (inside && not (may_stand_inside own)) own e

-- a command that was begun and broke off is that of its line
pub breaks_line : (said : List ℕ) (command : Command) (old new : Kept) → is_said false said ≡ true → spelled said ≡ Some command → IsSame old new ⊎ HasBroken command old new
    → IsSame old new ⊎ BreaksTurn said old new
breaks_line said command old new in_language spells (inl same) = inl same
breaks_line said command old new in_language spells (inr broken) = inr (record { command = command; in_language = in_language; spells = spells; broken = broken })
