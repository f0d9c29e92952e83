use Rattle.std.proofs.Common.{◌+◌, ◌*◌}
use Rattle.shard_record.proofs.Windows.{length-lanes, one_behind}
use Rattle.shard_record.proofs.folding.plus_behind.Goals as goal

pub returns-clause-long : goal.returns-clause-long
returns-clause-long c = length-lanes c.args.window.now c.args.sums (c.args.at + 16 * c.args.exponent) c.requires.inside c.requires.long

pub returns-clause-sums : goal.returns-clause-sums
returns-clause-sums c exponents sums = one_behind c.args.exponent c.args.at exponents c.args.window.now c.args.sums c.requires.inside sums
