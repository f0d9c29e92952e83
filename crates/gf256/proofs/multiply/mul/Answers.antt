use Rattle.std.proofs.Common.{sym, subst, arith}
use Rattle.gf256.specs.Field.{IsProduct}
use Rattle.gf256.proofs.HalfBytes.{product_found}
use Rattle.gf256.proofs.Remainder.{product_is_product}
use Rattle.gf256.proofs.multiply.mul.Goals as goal

pub returns-clause-value : goal.returns-clause-value
returns-clause-value c =
    product_found c.args.a c.args.b c.halves_of-halves.result.low c.halves_of-halves.result.high c.halves_of-halves.ensures.products (omega arith)

pub returns-clause-is_product : goal.returns-clause-is_product
returns-clause-is_product c =
    subst (IsProduct c.args.a c.args.b)
    (sym (product_found c.args.a c.args.b c.halves_of-halves.result.low c.halves_of-halves.result.high c.halves_of-halves.ensures.products (omega arith)))
    (product_is_product c.args.a c.args.b (omega arith) (omega arith))
