use Rattle.std.proofs.Common.{◌≡◌, not, true, get_or, sym, arith, rules}
use Rattle.std.proofs.lemmas.List.Sums.{position_or_len_is}
use Rattle.node_runner.specs.Script.{is_blank}
use Rattle.node_runner.proofs.words.leading_blanks.Goals as goal

pub returns-then-not-is_blank-clause-value : goal.returns-then-not-is_blank-clause-value
returns-then-not-is_blank-clause-value c =
    let here : not (is_blank (get_or c.args.text.now c.loop-at.at 0)) ≡ true = search rules in
    sym (position_or_len_is (λ byte. not (is_blank byte)) c.args.text.now c.loop-at.at 0 (omega arith) c.loop-at.invariant (λ _. here))

pub returns-clause-value : goal.returns-clause-value
returns-clause-value c =
    sym (position_or_len_is (λ byte. not (is_blank byte)) c.args.text.now _ 0 (omega arith) (λ k h. c.loop-at.invariant k (omega arith)) (λ h. absurd (omega arith)))
