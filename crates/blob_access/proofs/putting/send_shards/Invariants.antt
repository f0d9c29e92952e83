use Rattle.std.proofs.Common.{drop}
use Rattle.volume_world.specs.Replying.{AreHomes}
use Rattle.blob_access.specs.PutParts.{MaySend}
use Rattle.blob_access.proofs.PutLemmas.{IsSending}
use Rattle.blob_access.proofs.putting.send_shards.Given as goal

abbrev pub invariant-units : goal.invariant-units
invariant-units g l = record {
  may : MaySend (g.P.Port.seen l.port) l.bid l.blob l.shards;
  homes : AreHomes (g.P.Port.seen l.port).origin l.units;
  gone : IsSending (g.P.Port.seen l.fn.port).origin.mode l.bid l.blob (g.P.Port.seen l.fn.port) (g.P.Port.seen l.port) l.units (drop l.home-index l.units);
}
