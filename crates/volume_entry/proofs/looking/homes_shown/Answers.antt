use Rattle.volume_entry.specs.Entry.{is_broken}
use Rattle.volume_entry.proofs.Walks.{in_at}
use Rattle.volume_entry.proofs.LookingLists.{home_fits, home_more}
use Rattle.volume_entry.proofs.looking.homes_shown.Goals as goal

pub home_shown-home-requires : goal.home_shown-home-requires
home_shown-home-requires c = c.requires.named c.index-homes-index.result (in_at c.args.homes.now c.loop-index.index c.index-homes-index.result c.loop-index-test.true c.index-homes-index.is)

pub push-requires : goal.push-requires
push-requires c = home_fits c.args.vid (is_broken c.args.broken.now) c.args.homes.now c.loop-index.index c.loop-index-test.true c.loop-index.shown c.loop-index.invariant c.requires.few

pub loop-index-preserved : goal.loop-index-preserved
loop-index-preserved c =
    home_more c.args.vid (is_broken c.args.broken.now) c.args.homes.now c.loop-index.index c.loop-index-test.true c.loop-index.shown c.loop-index.invariant
    c.index-homes-index.result c.home_shown-home.result c.push.new.self c.index-homes-index.is c.home_shown-home.ensures c.push.ensures
