use Rattle.volume_entry.proofs.RecordKinds.{retargeted_has}
use Rattle.volume_entry.proofs.RecordReads.{retargeted_is}
use Rattle.volume_entry.proofs.reading.read_retargeted.Goals as goal

pub returns-then-fields-ne-GRANT : goal.returns-then-fields-ne-GRANT
returns-then-fields-ne-GRANT c = λ vid mode item h. absurd (c.if-fields-ne-GRANT.true (retargeted_has vid mode c.args.fields.now item h))

pub returns : goal.returns
returns c = λ vid mode.
    retargeted_is vid mode c.args.fields.now c.split_grant-grant.result.0 c.split_grant-grant.result.1.now c.if-fields-ne-GRANT.false c.split_grant-grant.ensures.split c.split_grant-grant.ensures.fits
