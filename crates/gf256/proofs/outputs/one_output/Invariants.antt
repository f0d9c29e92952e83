use Rattle.std.proofs.Common.{◌-◌, length}
use Rattle.gf256.proofs.Pieces.{HasSumsTo}
use Rattle.gf256.proofs.outputs.one_output.Given as goal

abbrev pub invariant-loop-bytes : goal.invariant-loop-bytes
invariant-loop-bytes l = record {
  p : HasSumsTo l.p l.sources l.size (length l.bytes.items) l.bytes.items;
}

abbrev pub decreases-loop-bytes : goal.decreases-loop-bytes
decreases-loop-bytes l = l.size - length l.bytes.items
