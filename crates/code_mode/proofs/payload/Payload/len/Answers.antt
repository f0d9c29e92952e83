use Rattle.code_mode.proofs.PayloadLemmas.{length_of_fill}
use Rattle.code_mode.proofs.payload.Payload.len.Goals as goal

pub returns-in-Fill : goal.returns-in-Fill
returns-in-Fill c = length_of_fill c.args.self.now c.in-Fill.seed c.in-Fill.len c.in-Fill.is
