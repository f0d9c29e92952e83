use Rattle.std.proofs.Common.{sym, subst}
use Rattle.volume_world.specs.Replying.{AreHomes, AreMoves}
use Rattle.migrate_task.proofs.work.move_again.Goals as goal

pub journeys_to-requires : goal.journeys_to-requires
journeys_to-requires c = let origin = c.requires.0 in (origin, subst (AreHomes origin) (sym c.as_slice.ensures.value) c.requires.1.homes, subst (AreMoves origin) (sym c.as_slice-2.ensures) c.requires.2)
