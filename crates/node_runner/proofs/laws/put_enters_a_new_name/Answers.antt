use Rattle.node_runner.proofs.SessionLaws.{enters_new_names}
use Rattle.node_runner.proofs.laws.put_enters_a_new_name.Goals as goal

pub returns : goal.returns
returns c = enters_new_names
