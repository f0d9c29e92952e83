use Rattle.std.proofs.Common.{ap}
use Rattle.volume_world.specs.Trace.{request_kept}
use Rattle.migrate_task.proofs.tests.Units.sent.Goals as goal

pub returns-in-Create : goal.returns-in-Create
returns-in-Create c = c.replied.ensures c.args.request (ap request_kept c.in-Create.is)

pub returns-in-Fence : goal.returns-in-Fence
returns-in-Fence c = c.replied-in-Fence.ensures c.args.request (ap request_kept c.in-Fence.is)

pub returns-in-Mark : goal.returns-in-Mark
returns-in-Mark c = c.replied-in-Mark.ensures c.args.request (ap request_kept c.in-Mark.is)

pub returns-in-Release : goal.returns-in-Release
returns-in-Release c = c.replied-in-Release.ensures c.args.request (ap request_kept c.in-Release.is)
