use Rattle.gate_log.proofs.Rest.{rest_behind}
use Rattle.gate_log.proofs.laws.nothing_counts_behind_a_closed_gate.Goals as goal

pub returns : goal.returns
returns c = rest_behind
