use Rattle.std.proofs.Common.{◌≡◌, ℕ, List, [], ◌∷◌, ◌++◌, refl, arith}
use Rattle.std.specs.Prelude.{option_to_list}
use Rattle.script_lines.specs.Lines.{cut_lines, first_line, after_line}
use Rattle.script_lines.proofs.LineSteps.{cut_front}
use Rattle.script_lines.proofs.feed.lines_come_one_by_one.Goals as goal

one_by_one : (input : List ℕ) → cut_lines input ≡ option_to_list (first_line input) ++ cut_lines (after_line input)
one_by_one [] = refl
one_by_one (byte ∷ input) = cut_front (byte ∷ input) (omega arith)

pub returns : goal.returns
returns c = one_by_one
