use Rattle.std.proofs.Common.{◌≡◌, ◌-◌, ◌+◌, false, length, drop}
use Rattle.script_lines.specs.Lines.{longest_line, piece_size, StillComes}
use Rattle.script_lines.specs.Cuts.{buffered_in}
use Rattle.script_lines.specs.Feeding.{feed_of, comes, KeepsFeed}
use Rattle.script_lines.proofs.feed.Buffer.find_end.Given as goal

-- What is to come is what was to come.
abbrev pub invariant-pieces : goal.invariant-pieces
invariant-pieces g l = record {
  kept : StillComes (comes (feed_of (buffered_in l.fn.self.line.items l.fn.self.piece.items l.fn.self.at l.fn.self.is_over) (g.S.Source.seen l.fn.source)))
      (comes (feed_of (buffered_in l.self.line.items l.self.piece.items l.self.at l.self.is_over) (g.S.Source.seen l.source)));
  keeps : KeepsFeed (feed_of (buffered_in l.fn.self.line.items l.fn.self.piece.items l.fn.self.at l.fn.self.is_over) (g.S.Source.seen l.fn.source))
      (feed_of (buffered_in l.self.line.items l.self.piece.items l.self.at l.self.is_over) (g.S.Source.seen l.source));
  not_over : l.fn.self.is_over ≡ false → l.self.is_over ≡ false;
}

-- how many bytes more may be held
abbrev pub decreases-pieces : goal.decreases-pieces
decreases-pieces g l = longest_line + piece_size - (length l.self.line.items + length (drop l.self.at l.self.piece.items))
