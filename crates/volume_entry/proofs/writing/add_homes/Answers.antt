use Rattle.volume_entry.specs.Spelling.{home_bytes}
use Rattle.volume_entry.proofs.RecordLists.{homes_fit-more, bytes-more}
use Rattle.volume_entry.proofs.writing.add_homes.Goals as goal

pub loop-home-preserved : goal.loop-home-preserved
loop-home-preserved c = record {
  added = bytes-more home_bytes c.loop-home.out.items c.args.out.now.items c.args.homes.now c.loop-home.home-index c.home-item.result c.add_home.new.out.items
      c.loop-home-test.true c.home-item.is c.loop-home.invariant.added c.in_ok-add_home.ensures.added;
  fits = homes_fit-more c.args.homes.now c.loop-home.home-index c.home-item.result c.loop-home-test.true c.home-item.is c.loop-home.invariant.fits c.add_home.ensures.fits;
}
