-- The states in which a volume may be.
use Rattle.std.specs.Prelude.{List}
use Rattle.volume_world.specs.Run.{World}
use Rattle.volume_world.specs.Told.{MayRun}
use Rattle.volume_world.specs.Way.{Origin, IsFirst, shape_of}
use Rattle.volume_world.specs.declared.trace.Trace.{Trace}

-- The entries of some history lead to this state. Of a way that tells, each state in which its volume may be is such a one.
pub record IsPossible (origin : Origin) (w : World) : Type 0 where
  pub entries : List Trace
  pub first : IsFirst (shape_of origin) origin.start
  pub led : MayRun origin.vid (shape_of origin) origin.start entries w
