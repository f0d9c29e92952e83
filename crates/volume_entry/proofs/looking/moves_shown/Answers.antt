use Rattle.volume_entry.specs.Entry.{is_broken}
use Rattle.volume_entry.proofs.Walks.{in_at}
use Rattle.volume_entry.proofs.LookingLists.{move_fits, move_more}
use Rattle.volume_entry.proofs.looking.moves_shown.Goals as goal

pub move_shown-item-requires : goal.move_shown-item-requires
move_shown-item-requires c =
    c.requires.named c.index-transfers-place.result (in_at c.args.transfers.now c.loop-place.place c.index-transfers-place.result c.loop-place-test.true c.index-transfers-place.is)

pub push-requires : goal.push-requires
push-requires c = move_fits c.args.vid (is_broken c.args.broken.now) c.args.swapped c.args.transfers.now c.loop-place.place c.loop-place-test.true c.loop-place.shown c.loop-place.invariant c.requires.few

pub loop-place-preserved : goal.loop-place-preserved
loop-place-preserved c =
    move_more c.args.vid (is_broken c.args.broken.now) c.args.swapped c.args.transfers.now c.loop-place.place c.loop-place-test.true c.loop-place.shown c.loop-place.invariant
    c.index-transfers-place.result c.move_shown-item.result c.push.new.self c.index-transfers-place.is c.move_shown-item.ensures c.push.ensures
