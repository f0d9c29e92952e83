use Rattle.std.proofs.Common.{◌≡◌, drop}
use Rattle.rs_code.specs.Shards.{size_of}
use Rattle.rs_code.proofs.shards.Shards.size.Given as goal

-- none of the rows so far has a shard
abbrev pub invariant-loop-row : goal.invariant-loop-row
invariant-loop-row l = size_of (drop l.row-index l.row-items) ≡ size_of l.row-items
