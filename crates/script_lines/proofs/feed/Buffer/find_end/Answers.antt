use Rattle.std.proofs.Common.{◌≡◌, ◌∙◌, true, false, [], length, drop, sym, arith}
use Rattle.std.proofs.lemmas.Bool.{ltb-true, ltb-false}
use Rattle.std.proofs.lemmas.Option.{IfSome_then}
use Rattle.std.proofs.lemmas.List.{nil_from_length}
use Rattle.script_lines.proofs.LineCuts.{feed_at, found_cut, over_cut, end_cut, none_left}
use Rattle.script_lines.proofs.feed.Buffer.find_end.Goals as goal

pub returns-then-self-clause-cut : goal.returns-then-self-clause-cut
returns-then-self-clause-cut g c =
    let s = c.pieces.self in
    let rest = drop s.at s.piece.items in
    let none = ltb-false (feed_at rest) (length rest) (sym c.in_ok-gather.ensures.gathers.ended ∙ c.if-not-branch.true) in
    let over : s.is_over ≡ true = sym c.in_ok-gather.ensures.over ∙ c.if-self.true in
    let empty : drop c.gather.new.self.at c.gather.new.self.piece.items ≡ [] = c.in_ok-gather.ensures.gathers.behind ∙ none_left rest none in
    rw c.if-self.true (over_cut _ s.line.items rest _ _ (g.S.Source.seen c.pieces.source).left (rw over at c.pieces.invariant.kept) s.no_end none c.in_ok-gather.ensures.gathers.gathered empty)

pub returns-then-not-branch-2-clause-cut : goal.returns-then-not-branch-2-clause-cut
returns-then-not-branch-2-clause-cut g c =
    let s = c.pieces.self in
    let rest = drop s.at s.piece.items in
    let none = ltb-false (feed_at rest) (length rest) (sym c.in_ok-gather.ensures.gathers.ended ∙ c.if-not-branch.true) in
    let over : s.is_over ≡ false = sym c.in_ok-gather.ensures.over ∙ c.if-self.false in
    let new_rest = drop c.refill.new.self.at c.refill.new.self.piece.items in
    let empty : length new_rest ≡ 0 = omega (arith, ltb-false 0 (length new_rest) (sym c.in_ok-refill.ensures.refills.some ∙ c.if-not-branch-2.true)) in
    let no_more = IfSome_then (g.S.Source.seen c.pieces.source).left c.in_ok-refill.ensures.refills.end (λ left p. p c.if-not-branch-2.true) in
    end_cut _ s.line.items rest _ _ (g.S.Source.seen c.pieces.source).left (rw over at c.pieces.invariant.kept) s.no_end none (c.in_ok-refill.ensures.line.0 ∙ c.in_ok-gather.ensures.gathers.gathered) (nil_from_length new_rest empty) no_more

pub returns-clause-cut : goal.returns-clause-cut
returns-clause-cut g c =
    let s = c.pieces.self in
    let rest = drop s.at s.piece.items in
    let inside = ltb-true (feed_at rest) (length rest) (sym c.in_ok-gather.ensures.gathers.ended ∙ c.if-not-branch.false) in
    rw c.in_ok-gather.ensures.over (found_cut _ s.line.items rest _ _ _ _ c.pieces.invariant.kept s.no_end inside c.in_ok-gather.ensures.gathers.gathered c.in_ok-gather.ensures.gathers.behind)
