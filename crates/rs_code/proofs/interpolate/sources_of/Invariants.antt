use Rattle.std.proofs.Common.{◌≡◌, take}
use Rattle.gf256.specs.Rows.{contents}
use Rattle.rs_code.specs.Shards.{bytes_of}
use Rattle.rs_code.proofs.interpolate.sources_of.Given as goal

abbrev pub invariant-loop-x : goal.invariant-loop-x
invariant-loop-x l = contents l.sources.items ≡ bytes_of l.shards (take l.x-index l.places)
