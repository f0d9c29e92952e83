use Rattle.std.proofs.Common.{◌∙◌}
use Rattle.gate_log.proofs.Fetch.{length_front}
use Rattle.gate_log.proofs.device.length_in.Goals as goal

pub returns : goal.returns
returns c = c.from_be_bytes.ensures ∙ length_front c.args.head.now
