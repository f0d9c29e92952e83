use Rattle.std.proofs.Common.{◌≡◌, []}
use Rattle.rs_code.proofs.Held.{found}
use Rattle.rs_code.proofs.interpolate.least_held.Given as goal

abbrev pub invariant-loop-k : goal.invariant-loop-k
invariant-loop-k l = found l.n l.shards l.places.items l.k ≡ found l.n l.shards [] 0
