use Rattle.gf256.proofs.Inverses.{product-inverse_of, zero_from_product}
use Rattle.gf256.proofs.laws.products_can_be_undone.Goals as goal

pub returns-clause-inverse : goal.returns-clause-inverse
returns-clause-inverse c = product-inverse_of

pub returns-clause-no_zero_divisors : goal.returns-clause-no_zero_divisors
returns-clause-no_zero_divisors c = zero_from_product
