use Rattle.std.proofs.Common.{◌≡◌, take}
use Rattle.gf256.specs.Halves.{AreHalves, factors_of}
use Rattle.gf256.proofs.row.FactorRow.make.Given as goal

abbrev pub invariant-loop-k : goal.invariant-loop-k
invariant-loop-k l = record {
  seen : factors_of l.halves.items ≡ take l.k l.factors;
  are : AreHalves (take l.k l.factors) l.halves.items;
}
