use Rattle.std.proofs.Common.{◌≡◌, drop}
use Rattle.code_mode.specs.declared.mode.Mode.{Mode}
use Rattle.volume_world.specs.Progress.{Proceeds}
use Rattle.migrate_task.specs.AdvanceCall.{task_call, retargeting}
use Rattle.migrate_task.specs.TaskParts.{work_of, IsWorkOn}
use Rattle.migrate_task.proofs.retargeting.retarget_all.Given as goal

abbrev pub invariant-moves : goal.invariant-moves
invariant-moves g l = record {
  origin : (g.P.Port.seen l.port).origin ≡ (g.P.Port.seen l.fn.port).origin;
  work : IsWorkOn (g.P.Port.seen l.fn.port).origin (work_of l.work);
  gone : (mode : Mode) → Proceeds (task_call mode l.task) (g.P.Port.seen l.fn.port) (g.P.Port.seen l.port) (retargeting l.task.targets (work_of l.fn.work) l.moves)
      (retargeting l.task.targets (work_of l.work) (drop l.item-index l.moves));
}
