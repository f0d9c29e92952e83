use Rattle.std.proofs.Common.{sym, subst}
use Rattle.volume_world.specs.Replying.{AreHomes, AreMoves}
use Rattle.migrate_task.proofs.work.work_from.Goals as goal

pub journeys_from-requires : goal.journeys_from-requires
journeys_from-requires c =
    let origin = c.requires.0 in
    (origin, subst (AreHomes origin) (sym c.as_slice.ensures) c.requires.1, subst (AreMoves origin) (sym c.as_slice-2.ensures) c.requires.2)
