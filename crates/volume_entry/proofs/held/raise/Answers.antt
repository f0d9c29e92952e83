use Rattle.std.proofs.Common.{refl}
use Rattle.volume_entry.specs.Manager.{raised_one}
use Rattle.volume_entry.proofs.TableLists.{done_step, done_all, done-raised}
use Rattle.volume_entry.proofs.held.raise.Goals as goal

pub loop-index-preserved : goal.loop-index-preserved
loop-index-preserved c =
    done_step (raised_one c.args.grants.now) c.loop-index.greatest c.loop-index.index c.args.greatest.now _ c.raised_one.result 0 c.loop-index-test.true c.loop-index.invariant refl c.raised_one.ensures

pub returns : goal.returns
returns c =
    done_all (raised_one c.args.grants.now) c.loop-index.greatest c.loop-index.index c.args.greatest.now _ c.loop-index.auto.index-end c.loop-index-test.false c.loop-index.invariant (done-raised c.args.grants.now 0 c.args.greatest.now)
