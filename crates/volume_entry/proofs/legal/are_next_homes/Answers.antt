use Rattle.volume_entry.specs.Manager.{IsNextHome}
use Rattle.volume_entry.specs.TableParts.{shape_of}
use Rattle.volume_entry.proofs.Walks.{all_more, all_end, in_at}
use Rattle.volume_entry.proofs.legal.are_next_homes.Goals as goal

pub returns-then-not-is_next_home : goal.returns-then-not-is_next_home
returns-then-not-is_next_home c = λ all.
    c.if-not-is_next_home.ensures (all c.grant-item.result (in_at c.args.grants.now c.loop-grant.grant-index c.grant-item.result c.loop-grant-test.true c.grant-item.is))

pub loop-grant-preserved : goal.loop-grant-preserved
loop-grant-preserved c =
    all_more (IsNextHome (shape_of c.args.shape) c.args.homes.now c.args.greatest.now) c.args.grants.now c.loop-grant.grant-index c.grant-item.result
    c.loop-grant-test.true c.grant-item.is c.loop-grant.invariant c.if-not-is_next_home.ensures

pub returns : goal.returns
returns c =
    all_end (IsNextHome (shape_of c.args.shape) c.args.homes.now c.args.greatest.now) c.args.grants.now c.loop-grant.grant-index c.loop-grant-test.false c.loop-grant.invariant
