use Rattle.node_runner.proofs.WordCuts.{next_is, next_none}
use Rattle.node_runner.proofs.words.next_word.Goals as goal

pub returns-then-end-eq0 : goal.returns-then-end-eq0
returns-then-end-eq0 c = next_none c.args.line.now c.skip_blanks-text.result.now c.leading_word-end.result c.skip_blanks-text.ensures c.leading_word-end.ensures.value c.if-end-eq0.true

pub returns : goal.returns
returns c =
    rw (c.split_at.ensures.front, c.split_at.ensures.back)
    (next_is c.args.line.now c.skip_blanks-text.result.now c.leading_word-end.result c.skip_blanks-text.ensures c.leading_word-end.ensures.value c.if-end-eq0.false)
