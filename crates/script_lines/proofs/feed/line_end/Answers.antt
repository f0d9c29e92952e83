use Rattle.std.proofs.Common.{◌≡◌, true, get_or, sym, arith, rules}
use Rattle.std.proofs.lemmas.List.Sums.{position_or_len_is}
use Rattle.script_lines.specs.Lines.{is_line_feed}
use Rattle.script_lines.proofs.feed.line_end.Goals as goal

pub returns-then-byte-eq10-clause-value : goal.returns-then-byte-eq10-clause-value
returns-then-byte-eq10-clause-value c =
    let here : is_line_feed (get_or c.args.bytes.now c.loop-at.at 0) ≡ true = search rules in
    sym (position_or_len_is is_line_feed c.args.bytes.now c.loop-at.at 0 (omega arith) c.loop-at.invariant (λ _. here))

pub returns-clause-value : goal.returns-clause-value
returns-clause-value c =
    sym (position_or_len_is is_line_feed c.args.bytes.now _ 0 (omega arith) (λ k h. c.loop-at.invariant k (omega arith)) (λ h. absurd (omega arith)))
