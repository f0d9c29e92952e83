use Rattle.std.proofs.Common.{◌≡◌, drop}
use Rattle.unit_id.specs.declared.task.Task.{Task}
use Rattle.code_mode.specs.declared.mode.Mode.{Mode}
use Rattle.volume_world.specs.Call.{Next}
use Rattle.volume_world.specs.Progress.{Proceeds}
use Rattle.migrate_task.specs.AdvanceCall.{task_call, releasing}
use Rattle.migrate_task.specs.TaskParts.{work_of, IsWorkOn}
use Rattle.migrate_task.proofs.swapping.release_all.Given as goal

abbrev pub invariant-units : goal.invariant-units
invariant-units g l = record {
  origin : (g.P.Port.seen l.port).origin ≡ (g.P.Port.seen l.fn.port).origin;
  work : IsWorkOn (g.P.Port.seen l.fn.port).origin (work_of l.work);
  gone : (mode : Mode) (task : Task)
      → Proceeds (task_call mode task) (g.P.Port.seen l.fn.port) (g.P.Port.seen l.port) (Next.Go (releasing (work_of l.fn.work) l.units)) (Next.Go (releasing (work_of l.work) (drop l.journey-index l.units)));
}
