use Rattle.node_runner.proofs.SessionLaws.{shows_what_was_put}
use Rattle.node_runner.proofs.laws.get_shows_what_was_put.Goals as goal

pub returns : goal.returns
returns c = shows_what_was_put
