use Rattle.std.proofs.Common.{arith, ◌∙◌}
use Rattle.gf256.proofs.HalfTables.{halves_right}
use Rattle.gf256.proofs.Products.{product-one_right}
use Rattle.gf256.proofs.lanes.halves_of.Goals as goal

pub returns-clause-products : goal.returns-clause-products
returns-clause-products c = halves_right c.args.factor (omega arith)

pub returns-clause-factor : goal.returns-clause-factor
returns-clause-factor c =
    (halves_right c.args.factor (omega arith)).low_is 1 (omega arith) ∙ product-one_right c.args.factor (omega arith)
