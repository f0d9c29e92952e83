use Rattle.std.proofs.Common.{◌≡◌, ◌∙◌, ◌+◌, ◌*◌, ◌^◌, get_or, sym, ap, arith}
use Rattle.std.specs.Char.{digit_value}
use Rattle.std.specs.Str.Parse.{digits_value}
use Rattle.std.proofs.lemmas.Int.Digits.{digits_value_more}
use Rattle.node_runner.proofs.Numerals.{refused, taken, taken_below, digits_all, below_limit, above_limit, front_value}
use Rattle.node_runner.proofs.read.value_of_digits.Goals as goal

pub returns-in_err-value : goal.returns-in_err-value
returns-in_err-value c =
    let ds = c.args.digits.now in
    let i = c.loop-digit.digit-index in
    let large = refused (2 ^ 64) (c.loop-digit.value * 10 + digit_value (get_or ds i 0)) (sym c.with_digit.ensures ∙ c.in_err-value.was) in
    let more = digits_value_more 10 ds i (omega arith) in
    let front = front_value ds (i + 1) in
    rw c.from_residual.ensures (sym (above_limit (2 ^ 64) (digits_value 10 ds) (omega arith)))

pub loop-digit-preserved : goal.loop-digit-preserved
loop-digit-preserved c =
    let ds = c.args.digits.now in
    let i = c.loop-digit.digit-index in
    let same = taken (2 ^ 64) (c.loop-digit.value * 10 + digit_value (get_or ds i 0)) c.in_ok-value.value (sym c.with_digit.ensures ∙ c.in_ok-value.was) in
    let more = digits_value_more 10 ds i (omega arith) in
    record {
      read = sym same ∙ ap (λ v. v * 10 + digit_value (get_or ds i 0)) c.loop-digit.invariant.read ∙ sym more;
      small = omega (arith, taken_below (2 ^ 64) (c.loop-digit.value * 10 + digit_value (get_or ds i 0)) c.in_ok-value.value (sym c.with_digit.ensures ∙ c.in_ok-value.was));
    }

pub returns : goal.returns
returns c =
    let ds = c.args.digits.now in
    let all = digits_all ds c.loop-digit.digit-index (omega arith) in
    let value : c.loop-digit.value ≡ digits_value 10 ds = c.loop-digit.invariant.read ∙ all in
    rw value (sym (below_limit (2 ^ 64) (digits_value 10 ds) (omega (arith, c.loop-digit.invariant.small))))
