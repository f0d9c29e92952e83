use Rattle.std.proofs.Common.{◌≡◌, ℕ, List, drop}
use Rattle.volume_world.specs.Progress.{Proceeds}
use Rattle.volume_world.specs.Replying.{AreHomes}
use Rattle.blob_access.specs.GetCall.{get_call, reading, unbroken}
use Rattle.blob_access.specs.GetParts.{wanted_of, try_of, IsHeard}
use Rattle.blob_access.proofs.getting.read_units.Given as goal

abbrev pub invariant-units : goal.invariant-units
invariant-units g l = record {
  mode : l.wanted.mode ≡ (g.P.Port.seen l.port).origin.mode;
  homes : AreHomes (g.P.Port.seen l.port).origin l.homes;
  heard : IsHeard (wanted_of l.wanted) l.home-index l.tried;
  gone : (versions : List ℕ) → Proceeds (get_call (wanted_of l.wanted)) (g.P.Port.seen l.fn.port) (g.P.Port.seen l.port) (reading (try_of versions l.fn.tried) (unbroken l.homes))
      (reading (try_of versions l.tried) (unbroken (drop l.home-index l.homes)));
}
