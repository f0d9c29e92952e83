use Rattle.volume_entry.specs.Manager.{moved_one}
use Rattle.volume_entry.proofs.TableLists.{done_step, done_all, done-moved}
use Rattle.volume_entry.proofs.held.move_homes.Goals as goal

pub loop-index-preserved : goal.loop-index-preserved
loop-index-preserved c =
    done_step (moved_one c.args.transfers.now) c.loop-index.homes c.loop-index.index c.args.homes.now c.index-homes-index.result c.moved_one.result c.index-homes-index.result c.loop-index-test.true c.loop-index.invariant c.index-homes-index.is c.moved_one.ensures

pub returns : goal.returns
returns c =
    done_all (moved_one c.args.transfers.now) c.loop-index.homes c.loop-index.index c.args.homes.now _ c.loop-index.auto.index-end c.loop-index-test.false c.loop-index.invariant (done-moved c.args.transfers.now 0 c.args.homes.now)
