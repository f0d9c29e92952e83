use Rattle.std.proofs.Common.{◌∷◌, [], ap, length, length-append, arith}
use Rattle.volume_entry.specs.Spelling.{home_bytes}
use Rattle.volume_entry.proofs.RecordLists.{homes_fit-push, bytes-split}
use Rattle.volume_entry.proofs.reading.read_homes.Goals as goal

pub loop-left-preserved : goal.loop-left-preserved
loop-left-preserved c =
    let pushed = c.in_ok-push.ensures.items in
    record {
      read = rw pushed (bytes-split home_bytes c.args.bytes.now c.loop-left.homes.items c.split_home-home.result.0 c.loop-left.left.now c.split_home-home.result.1.now c.loop-left.invariant.read c.split_home-home.ensures.split);
      count = omega (arith, c.loop-left.invariant.count, ap length c.split_home-home.ensures.split, ap length pushed, length-append c.loop-left.homes.items (c.split_home-home.result.0 ∷ []));
      fits = rw pushed (homes_fit-push c.loop-left.homes.items c.split_home-home.result.0 c.loop-left.invariant.fits c.split_home-home.ensures.fits);
    }
