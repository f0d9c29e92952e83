use Rattle.gf256.proofs.kernel.plus_pair.Goals as goal

pub returns-clause-added : goal.returns-clause-added
returns-clause-added c factor halves = (c.plus_products.ensures.added factor halves, c.plus_products-2.ensures.added factor halves)
