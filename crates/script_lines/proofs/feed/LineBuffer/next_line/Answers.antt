use Rattle.std.proofs.Common.{◌≡◌, ◌≤◌, length, Ok, ap, refl, subst, arith}
use Rattle.script_lines.specs.Lines.{Buffered, longest_line}
use Rattle.script_lines.specs.Cuts.{buffered_in, rest_in}
use Rattle.script_lines.specs.Feeding.{FeedView, feed_of, GivesLine}
use Rattle.script_lines.proofs.GivenLines.{gives_found, gives_none}
use Rattle.script_lines.proofs.feed.LineBuffer.next_line.Goals as goal

pub returns-in-Ok-clause-line : goal.returns-in-Ok-clause-line
returns-in-Ok-clause-line g c =
    let s = c.find_end.new.self in
    let i = c.self.inside.buffer in
    let t = c.give.new.self in
    let fits : length s.line.items ≤ longest_line = omega (arith, s.line_fits) in
    let source = g.S.Source.seen c.find_end.new.source in
    let old : FeedView = feed_of (buffered_in i.line.items i.piece.items i.at i.is_over) (g.S.Source.seen c.args.source.now) in
    let same : rest_in s.piece.items s.at s.is_over ≡ buffered_in t.line.items t.piece.items t.at t.is_over =
    rw (c.give.ensures.taken, c.give.ensures.rest.0, c.give.ensures.rest.1, c.give.ensures.rest.2) refl in
    let found : GivesLine (Ok c.give.result) old (feed_of (rest_in s.piece.items s.at s.is_over) source) =
    gives_found old c.in-Ok.ended s.line.items (feed_of (rest_in s.piece.items s.at s.is_over) source) c.give.result c.in-Ok.ensures.cut c.give.ensures.given fits
    (λ e. (c.find_end.ensures.keeps.over_stays e).0) (λ e. c.in-Ok.ensures.over (ap Ok e)) in
    rw c.self.view_is at (subst (λ (buffer : Buffered). GivesLine (Ok c.give.result) old (feed_of buffer source)) same found)

pub returns-in-Err-clause-line : goal.returns-in-Err-clause-line
returns-in-Err-clause-line g c =
    let s = c.find_end.new.self in
    let i = c.self.inside.buffer in
    let old : FeedView = feed_of (buffered_in i.line.items i.piece.items i.at i.is_over) (g.S.Source.seen c.args.source.now) in
    let new : FeedView = feed_of (buffered_in s.line.items s.piece.items s.at s.is_over) (g.S.Source.seen c.find_end.new.source) in
    rw c.self.view_is at (gives_none c.in-Err.fault old new c.in-Err.ensures.none c.in-Err.ensures.keeps)
