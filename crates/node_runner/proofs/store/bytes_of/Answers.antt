use Rattle.std.proofs.Common.{◌∙◌, ap, sym, length}
use Rattle.std.proofs.lemmas.Result.{IfOk-weaker}
use Rattle.std.proofs.lemmas.List.FromFn.{length-map-range_with_len}
use Rattle.code_mode.specs.Payload.{fill_byte}
use Rattle.node_runner.specs.Session.{size_of}
use Rattle.node_runner.proofs.store.bytes_of.Goals as goal

pub returns-in-Fill-clause-size : goal.returns-in-Fill-clause-size
returns-in-Fill-clause-size c =
    IfOk-weaker c.bytes.result _ _ (λ bytes h. ap length h ∙ length-map-range_with_len (fill_byte c.in-Fill.seed) 0 c.in-Fill.len ∙ sym (ap size_of c.in-Fill.is)) c.bytes.ensures
