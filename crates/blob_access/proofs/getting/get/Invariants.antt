use Rattle.std.proofs.Common.{◌≡◌, ◌-◌, ◌≤◌, length}
use Rattle.rs_code.specs.Shape.{shape}
use Rattle.volume_world.specs.Call.{Next}
use Rattle.volume_world.specs.Progress.{Proceeds}
use Rattle.volume_world.specs.Replying.{AreHomes}
use Rattle.blob_access.specs.GetCall.{GetStage, get_call}
use Rattle.blob_access.specs.GetParts.{wanted_of, starting}
use Rattle.blob_access.proofs.getting.get.Given as goal

abbrev pub invariant-tries : goal.invariant-tries
invariant-tries g l = record {
  mode : l.wanted.mode ≡ (g.P.Port.seen l.port).origin.mode;
  homes : AreHomes (g.P.Port.seen l.port).origin l.sight.units;
  seen : (1 ≤ length l.versions) × (length l.versions ≤ 4);
  coder : shape l.coder ≡ shape l.fn.coder;
  gone : Proceeds (get_call (wanted_of l.wanted)) (g.P.Port.seen l.fn.port) (g.P.Port.seen l.port) (Next.Go GetStage.First) (starting l.wanted.mode l.versions l.sight.units);
}

abbrev pub decreases-tries : goal.decreases-tries
decreases-tries g l = 5 - length l.versions
