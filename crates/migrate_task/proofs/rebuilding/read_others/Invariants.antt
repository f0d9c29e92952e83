use Rattle.std.proofs.Common.{◌≡◌, ℕ, List, drop}
use Rattle.unit_id.specs.declared.task.Task.{Task}
use Rattle.code_mode.specs.declared.mode.Mode.{Mode}
use Rattle.code_mode.specs.Mode.{total_count}
use Rattle.volume_world.specs.Progress.{Proceeds}
use Rattle.migrate_task.specs.declared.copying.Errand.{Errand}
use Rattle.migrate_task.specs.Copies.{reading}
use Rattle.migrate_task.specs.AdvanceCall.{task_call, copying}
use Rattle.migrate_task.specs.TaskParts.{work_of}
use Rattle.migrate_task.specs.Rows.{AreShardsRight}
use Rattle.migrate_task.specs.GatherParts.{AreFrom, IsGathered}
use Rattle.migrate_task.proofs.rebuilding.read_others.Given as goal

abbrev pub invariant-others : goal.invariant-others
invariant-others g l = record {
  origin : (g.P.Port.seen l.port).origin ≡ (g.P.Port.seen l.fn.port).origin;
  next : ℕ;
  order : AreFrom (total_count l.work.mode) next (drop l.home-index l.others);
  heard : IsGathered l.work.mode l.latest l.errand.bid next l.gathered;
  right : AreShardsRight (g.P.Port.seen l.port) l.errand.bid l.gathered.shards;
  gone : (mode : Mode) (task : Task) (left : List Errand)
      → Proceeds (task_call mode task) (g.P.Port.seen l.fn.port) (g.P.Port.seen l.port) (copying (work_of l.work) (reading l.fn.known l.errand left l.fn.gathered l.others))
      (copying (work_of l.work) (reading l.latest l.errand left l.gathered (drop l.home-index l.others)));
}
