use Rattle.volume_turns.proofs.ObjectProofs.{puts_are_earned}
use Rattle.volume_turns.proofs.laws.puts_are_earned.Goals as goal

pub returns : goal.returns
returns c = puts_are_earned
