use Rattle.std.proofs.Common.{◌≡◌, ℕ, ◌<◌, not, false, get_or}
use Rattle.node_runner.specs.Script.{is_blank}
use Rattle.node_runner.proofs.words.leading_blanks.Given as goal

abbrev pub invariant-loop-at : goal.invariant-loop-at
invariant-loop-at l = (k : ℕ) → k < l.at → not (is_blank (get_or l.text k 0)) ≡ false
