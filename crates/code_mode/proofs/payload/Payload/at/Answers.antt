use Rattle.std.proofs.Common.{◌∙◌}
use Rattle.code_mode.proofs.PayloadLemmas.{byte_of_fill}
use Rattle.code_mode.proofs.payload.Payload.at.Goals as goal

pub returns-in-Fill-clause-value : goal.returns-in-Fill-clause-value
returns-in-Fill-clause-value c =
    c.fill_byte.ensures ∙ byte_of_fill c.args.self.now c.in-Fill.seed c.in-Fill.len c.args.k c.in-Fill.is c.requires.within
