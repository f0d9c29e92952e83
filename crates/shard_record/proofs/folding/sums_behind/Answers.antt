use Rattle.shard_record.proofs.Windows.{none_behind}
use Rattle.shard_record.proofs.folding.sums_behind.Goals as goal

pub returns : goal.returns
returns c = c.plus_behind.ensures.sums _ (c.plus_behind-sums-13.ensures.sums _ (c.plus_behind-sums-12.ensures.sums _ (c.plus_behind-sums-11.ensures.sums _ (c.plus_behind-sums-10.ensures.sums _ (c.plus_behind-sums-9.ensures.sums _ (c.plus_behind-sums-8.ensures.sums _ (c.plus_behind-sums-7.ensures.sums _ (c.plus_behind-sums-6.ensures.sums _ (c.plus_behind-sums-5.ensures.sums _ (c.plus_behind-sums-4.ensures.sums _ (c.plus_behind-sums-3.ensures.sums _ (c.plus_behind-sums-2.ensures.sums _ (c.plus_behind-sums.ensures.sums _ (none_behind c.args.window.now c.args.at))))))))))))))
