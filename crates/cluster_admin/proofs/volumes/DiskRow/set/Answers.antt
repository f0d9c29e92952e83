use Rattle.cluster_admin.proofs.Rows.{set_seen}
use Rattle.cluster_admin.proofs.volumes.DiskRow.set.Goals as goal

pub returns-then-index-self : goal.returns-then-index-self
returns-then-index-self c = set_seen _ _ _ _ c.args.disk c.self.view_is c.if-index-self.true
