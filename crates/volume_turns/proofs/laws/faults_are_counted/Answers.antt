use Rattle.volume_turns.proofs.FaultTurns.{faults_are_counted}
use Rattle.volume_turns.proofs.laws.faults_are_counted.Goals as goal

pub returns : goal.returns
returns c = faults_are_counted
