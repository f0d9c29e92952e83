use Rattle.std.proofs.Common.{◌∙◌, ap, get_or, bit_xor, ◌+◌}
use Rattle.shard_record.proofs.Windows.{length-lanes, lane_with}
use Rattle.shard_record.proofs.folding.folded.Goals as goal

pub returns-clause-long : goal.returns-clause-long
returns-clause-long c = length-lanes c.args.bytes.now c.sums_behind.result c.args.at c.requires.inside c.sums_behind.ensures.long

pub returns-clause-each : goal.returns-clause-each
returns-clause-each c i lt =
    lane_with c.args.bytes.now c.sums_behind.result c.args.at i c.requires.inside c.sums_behind.ensures.long lt
    ∙ ap (bit_xor (get_or c.args.bytes.now (c.args.at + i) 0)) (c.sums_behind.ensures.each i lt)
