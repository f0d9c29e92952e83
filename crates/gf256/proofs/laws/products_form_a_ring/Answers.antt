use Rattle.gf256.proofs.Products.{product_comm, product_assoc, product-xor_right, product-one_left, product-zero_left}
use Rattle.gf256.proofs.laws.products_form_a_ring.Goals as goal

pub returns-clause-commutes : goal.returns-clause-commutes
returns-clause-commutes c = product_comm

pub returns-clause-associates : goal.returns-clause-associates
returns-clause-associates c = product_assoc

pub returns-clause-distributes : goal.returns-clause-distributes
returns-clause-distributes c = product-xor_right

pub returns-clause-one : goal.returns-clause-one
returns-clause-one c = product-one_left

pub returns-clause-zero : goal.returns-clause-zero
returns-clause-zero c = product-zero_left
