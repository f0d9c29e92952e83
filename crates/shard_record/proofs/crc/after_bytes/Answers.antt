use Rattle.std.proofs.Common.{ap, length, take, ◌∙◌, ◌≤◌, ◌≡◌, arith}
use Rattle.std.proofs.lemmas.List.{take_all}
use Rattle.shard_record.specs.Crc.{remainder}
use Rattle.shard_record.proofs.Remainder.{remainder-more}
use Rattle.shard_record.proofs.crc.after_bytes.Goals as goal

pub loop-at-preserved : goal.loop-at-preserved
loop-at-preserved c =
    let more = remainder-more c.args.before c.loop-at.at c.args.bytes.now c.loop-at-test.true in
    rw (more, ← c.loop-at.invariant) c.after_byte-rest.ensures

pub returns : goal.returns
returns c =
    let past : length c.args.bytes.now ≤ c.loop-at.at = omega arith in
    let whole : take c.loop-at.at c.args.bytes.now ≡ c.args.bytes.now = take_all c.loop-at.at c.args.bytes.now past in
    c.loop-at.invariant ∙ ap (remainder c.args.before) whole
