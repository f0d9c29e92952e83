use Rattle.gf256.proofs.Remainder.{product_is_product, only_product}
use Rattle.gf256.proofs.laws.product_is_the_only_one.Goals as goal

pub returns-clause-exists : goal.returns-clause-exists
returns-clause-exists c = product_is_product

pub returns-clause-only : goal.returns-clause-only
returns-clause-only c = only_product
