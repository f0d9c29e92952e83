use Rattle.std.proofs.Common.{refl, get_or, None, Option}
use Rattle.unit_id.specs.Shown.{Shown}
use Rattle.volume_entry.proofs.TableLists.{done_step, done_all}
use Rattle.volume_entry.proofs.HeardSteps.{forgotten}
use Rattle.volume_entry.proofs.heard.forget_listings.Goals as goal

pub loop-index-preserved : goal.loop-index-preserved
loop-index-preserved c =
    done_step (λ i (x : Option Shown). None) c.loop-index.listings c.loop-index.index c.args.listings.now (get_or c.loop-index.listings c.loop-index.index None) None None
    c.loop-index-test.true c.loop-index.invariant refl refl

pub returns : goal.returns
returns c =
    done_all (λ i (x : Option Shown). None) c.loop-index.listings c.loop-index.index c.args.listings.now _ c.loop-index.auto.index-end c.loop-index-test.false c.loop-index.invariant
    (forgotten None 0 c.args.listings.now)
