use Rattle.volume_entry.proofs.RecordKinds.{leased_has}
use Rattle.volume_entry.proofs.RecordReads.{leased_is}
use Rattle.volume_entry.proofs.reading.read_leased.Goals as goal

pub returns-in_err-end : goal.returns-in_err-end
returns-in_err-end c = λ vid mode. rw c.from_residual.ensures (λ item h. c.read_long.ensures.none c.in_err-end.was (leased_has vid mode c.args.fields.now item h))

pub returns : goal.returns
returns c = λ vid mode. leased_is vid mode c.args.fields.now c.in_ok-end.end c.in_ok-end.ensures.some.0 c.in_ok-end.ensures.some.1
