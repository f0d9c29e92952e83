use Rattle.node_runner.proofs.SessionOne.{commands_decide}
use Rattle.node_runner.proofs.laws.commands_decide_the_session.Goals as goal

pub returns : goal.returns
returns c = commands_decide
