use Rattle.std.proofs.Common.{◌≡◌, ℕ, ◌<◌, false, get_or}
use Rattle.script_lines.specs.Lines.{is_line_feed}
use Rattle.script_lines.proofs.feed.line_end.Given as goal

abbrev pub invariant-loop-at : goal.invariant-loop-at
invariant-loop-at l = (k : ℕ) → k < l.at → is_line_feed (get_or l.bytes k 0) ≡ false
