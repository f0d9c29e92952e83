use Rattle.volume_entry.proofs.RecordKinds.{asked_has}
use Rattle.volume_entry.proofs.RecordReads.{asked_is}
use Rattle.volume_entry.proofs.reading.read_asked.Goals as goal

pub returns-in_err-bid : goal.returns-in_err-bid
returns-in_err-bid c = λ vid mode. rw c.from_residual.ensures (λ item h. c.read_long.ensures.none c.in_err-bid.was (asked_has vid mode c.args.fields.now item h))

pub returns : goal.returns
returns c = λ vid mode. asked_is vid mode c.args.fields.now c.in_ok-bid.bid c.in_ok-bid.ensures.some.0 c.in_ok-bid.ensures.some.1
