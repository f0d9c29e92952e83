use Rattle.volume_entry.specs.Spelling.{grant_bytes}
use Rattle.volume_entry.proofs.RecordLists.{grants_fit-more, bytes-more}
use Rattle.volume_entry.proofs.writing.add_grants.Goals as goal

pub loop-grant-preserved : goal.loop-grant-preserved
loop-grant-preserved c = record {
  added = bytes-more grant_bytes c.loop-grant.out.items c.args.out.now.items c.args.grants.now c.loop-grant.grant-index c.grant-item.result c.add_grant.new.out.items
      c.loop-grant-test.true c.grant-item.is c.loop-grant.invariant.added c.in_ok-add_grant.ensures.added;
  fits = grants_fit-more c.args.grants.now c.loop-grant.grant-index c.grant-item.result c.loop-grant-test.true c.grant-item.is c.loop-grant.invariant.fits c.add_grant.ensures.fits;
}
