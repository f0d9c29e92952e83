use Rattle.std.proofs.Common.{◌-◌, length}
use Rattle.gf256.proofs.Pieces.{HasSumsTo}
use Rattle.gf256.proofs.outputs.four_outputs.Given as goal

abbrev pub invariant-loop-outputs : goal.invariant-loop-outputs
invariant-loop-outputs l = record {
  p : HasSumsTo l.p l.sources l.size (length l.outputs.p.items) l.outputs.p.items;
  q : HasSumsTo l.q l.sources l.size (length l.outputs.p.items) l.outputs.q.items;
  r : HasSumsTo l.r l.sources l.size (length l.outputs.p.items) l.outputs.r.items;
  s : HasSumsTo l.s l.sources l.size (length l.outputs.p.items) l.outputs.s.items;
}

abbrev pub decreases-loop-outputs : goal.decreases-loop-outputs
decreases-loop-outputs l = l.size - length l.outputs.p.items
