use Rattle.volume_turns.proofs.Sessions.{one_turn_more}
use Rattle.volume_turns.proofs.laws.one_turn_more.Goals as goal

pub returns : goal.returns
returns c = one_turn_more
