use Rattle.std.proofs.Common.{◌≡◌, None, drop}
use Rattle.unit_id.specs.declared.task.Task.{Task}
use Rattle.rs_code.specs.Shape.{shape}
use Rattle.code_mode.specs.declared.mode.Mode.{Mode}
use Rattle.volume_world.specs.Progress.{Proceeds}
use Rattle.migrate_task.specs.Copies.{next_errand}
use Rattle.migrate_task.specs.AdvanceCall.{task_call, copying}
use Rattle.migrate_task.specs.TaskParts.{work_of}
use Rattle.migrate_task.proofs.copies.run_all.Given as goal

abbrev pub invariant-errands : goal.invariant-errands
invariant-errands g l = record {
  origin : (g.P.Port.seen l.port).origin ≡ (g.P.Port.seen l.fn.port).origin;
  coder : shape l.coder ≡ shape l.fn.coder;
  gone : (mode : Mode) (task : Task)
      → Proceeds (task_call mode task) (g.P.Port.seen l.fn.port) (g.P.Port.seen l.port) (copying (work_of l.work) (next_errand (work_of l.work) None l.errands)) (copying (work_of l.work) (next_errand (work_of l.work) l.known (drop l.errand-index l.errands)));
}
