use Rattle.std.proofs.Common.{refl}
use Rattle.unit_id.specs.declared.request.Request.TheVariants as requests
use Rattle.migrate_task.proofs.tests.Units.copied.Goals as goal

pub returns : goal.returns
returns c = c.replied.ensures (requests.Copy c.args.unit c.args.disk c.args.bid c.args.blob_size c.args.bytes) refl
