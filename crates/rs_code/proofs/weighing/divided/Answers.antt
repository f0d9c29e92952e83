use Rattle.std.proofs.Common.{◌≡◌, sym, ◌∙◌, ap, refl}
use Rattle.rs_code.specs.ShardValue.{quotient}
use Rattle.rs_code.proofs.Weights.{quotient-zero}
use Rattle.rs_code.proofs.weighing.divided.Goals as goal

pub returns-in-None : goal.returns-in-None
returns-in-None c =
    let zero : c.args.b ≡ 0 = c.in-None.ensures.none.0 refl in
    sym (ap (quotient c.args.a) zero ∙ quotient-zero c.args.a)
