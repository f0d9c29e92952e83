use Rattle.std.proofs.Common.{◌∷◌, [], ap, length, length-append, arith}
use Rattle.volume_entry.specs.Spelling.{grant_bytes}
use Rattle.volume_entry.proofs.RecordLists.{grants_fit-push, bytes-split}
use Rattle.volume_entry.proofs.reading.read_grants.Goals as goal

pub loop-left-preserved : goal.loop-left-preserved
loop-left-preserved c =
    let pushed = c.in_ok-push.ensures.items in
    record {
      read = rw pushed (bytes-split grant_bytes c.args.bytes.now c.loop-left.grants.items c.split_grant-grant.result.0 c.loop-left.left.now c.split_grant-grant.result.1.now c.loop-left.invariant.read c.split_grant-grant.ensures.split);
      count = omega (arith, c.loop-left.invariant.count, ap length c.split_grant-grant.ensures.split, ap length pushed, length-append c.loop-left.grants.items (c.split_grant-grant.result.0 ∷ []));
      fits = rw pushed (grants_fit-push c.loop-left.grants.items c.split_grant-grant.result.0 c.loop-left.invariant.fits c.split_grant-grant.ensures.fits);
    }
