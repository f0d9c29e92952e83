use Rattle.migrate_task.proofs.CompletionExampleProofs.{made_volumes_can_go_on}
use Rattle.migrate_task.proofs.laws.examples_hold.Goals as goal

pub returns : goal.returns
returns c = made_volumes_can_go_on
