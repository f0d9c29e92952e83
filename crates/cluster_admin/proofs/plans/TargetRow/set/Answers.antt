use Rattle.cluster_admin.proofs.Rows.{set_seen}
use Rattle.cluster_admin.proofs.plans.TargetRow.set.Goals as goal

pub returns-then-place-self : goal.returns-then-place-self
returns-then-place-self c = set_seen _ _ _ _ c.args.target c.self.view_is c.if-place-self.true
