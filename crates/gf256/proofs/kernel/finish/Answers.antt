use Rattle.std.proofs.Common.{arith}
use Rattle.gf256.proofs.Filled.{finished}
use Rattle.gf256.proofs.kernel.finish.Goals as goal

pub returns-then-end-ge32 : goal.returns-then-end-ge32
returns-then-end-ge32 c =
    finished c.args.row.now c.args.sources.now c.args.from c.args.out.now c.store.new.out c.sums_of_one-sums.result.first c.sums_of_one-sums.result.second c.store.ensures c.sums_of_one-sums.ensures (omega arith) c.requires.from.1
