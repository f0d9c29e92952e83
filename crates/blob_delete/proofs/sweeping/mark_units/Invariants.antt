use Rattle.std.proofs.Common.{◌≤◌, length, drop}
use Rattle.volume_world.specs.Replying.{AreHomes}
use Rattle.blob_delete.specs.SweepParts.{AreUnits}
use Rattle.blob_delete.proofs.SweepLemmas.{IsMarking}
use Rattle.blob_delete.proofs.sweeping.mark_units.Given as goal

abbrev pub invariant-units : goal.invariant-units
invariant-units g l = record {
  homes : AreHomes (g.P.Port.seen l.port).origin l.units;
  marked : AreUnits (g.P.Port.seen l.port).origin l.marked;
  room : length l.marked ≤ l.home-index;
  gone : IsMarking l.bid (g.P.Port.seen l.fn.port) (g.P.Port.seen l.port) l.units l.marked (drop l.home-index l.units);
}
