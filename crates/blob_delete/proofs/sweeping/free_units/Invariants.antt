use Rattle.std.proofs.Common.{◌≤◌, drop}
use Rattle.blob_delete.specs.SweepParts.{AreUnits}
use Rattle.blob_delete.proofs.SweepLemmas.{IsFreeing}
use Rattle.blob_delete.proofs.sweeping.free_units.Given as goal

abbrev pub invariant-units : goal.invariant-units
invariant-units g l = record {
  units : AreUnits (g.P.Port.seen l.port).origin l.marked;
  count : l.freed ≤ l.home-index;
  gone : IsFreeing l.bid (g.P.Port.seen l.fn.port) (g.P.Port.seen l.port) l.marked l.freed (drop l.home-index l.marked);
}
