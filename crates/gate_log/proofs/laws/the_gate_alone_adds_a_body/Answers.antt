use Rattle.gate_log.proofs.Steps.{opened_whole, closed_whole}
use Rattle.gate_log.proofs.laws.the_gate_alone_adds_a_body.Goals as goal

pub returns-clause-one : goal.returns-clause-one
returns-clause-one c = opened_whole

pub returns-clause-other : goal.returns-clause-other
returns-clause-other c = closed_whole
