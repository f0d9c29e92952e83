use Rattle.std.proofs.Common.{◌<◌, All, subst, sym}
use Rattle.code_mode.specs.Payload.{payload_bytes}
use Rattle.code_mode.specs.declared.payload.Payload.{Payload}
use Rattle.code_mode.proofs.PayloadLemmas.{length_of_fill}
use Rattle.memory_volume.proofs.PayloadBytes.{fill_bytes_below}
use Rattle.memory_volume.proofs.fitting.size_of.Goals as goal

pub returns-in-Fill-clause-size : goal.returns-in-Fill-clause-size
returns-in-Fill-clause-size c = length_of_fill c.args.payload.now c.in-Fill.seed c.in-Fill.len c.in-Fill.is

pub returns-in-Fill-clause-bytes : goal.returns-in-Fill-clause-bytes
returns-in-Fill-clause-bytes c =
    subst (λ (p : Payload). All (λ b. b < 256) (payload_bytes p)) (sym c.in-Fill.is) (fill_bytes_below c.in-Fill.seed c.in-Fill.len)
