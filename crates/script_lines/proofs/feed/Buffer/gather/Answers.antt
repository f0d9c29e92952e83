use Rattle.std.proofs.Common.{◌≡◌, ◌∙◌, ap, drop, refl, arith}
use Rattle.script_lines.proofs.LineCuts.{feed_at, feed_behind, no_end_at}
use Rattle.script_lines.proofs.feed.Buffer.gather.Goals as goal

pub invariant_of-self-2-clause-no_end : goal.invariant_of-self-2-clause-no_end
invariant_of-self-2-clause-no_end c =
    no_end_at c.args.self.now.line.items c.behind-rest.result.now _ c.line_end-end.result c.in_ok-extend_from_slice.ensures.items c.line_end-end.ensures.value c.args.self.now.no_end

pub returns-then-end-len-clause-gathers : goal.returns-then-end-len-clause-gathers
returns-then-end-len-clause-gathers c =
    let s = c.args.self.now in
    let rest = drop s.at s.piece.items in
    let end : c.line_end-end.result ≡ feed_at rest = c.line_end-end.ensures.value ∙ ap feed_at (c.behind-rest.ensures ∙ ap (λ bytes. drop s.at bytes) c.deref.ensures.value) in
    record {
      ended = tt;
      gathered = tt;
      behind = tt;
      too_long = λ _. omega (arith, feed_behind s.line.items rest s.no_end, end);
      no_read = λ e. cc;
      err = (refl, refl);
    }
