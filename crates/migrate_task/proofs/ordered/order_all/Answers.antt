use Rattle.std.proofs.Common.{[], sym, subst}
use Rattle.migrate_task.specs.Merging.{AreOrderOf}
use Rattle.migrate_task.proofs.MergeLemmas.{order_next, order_done}
use Rattle.migrate_task.proofs.ordered.order_all.Goals as goal

pub listings-init : goal.listings-init
listings-init c = subst (AreOrderOf []) (sym c.new-orders.ensures.items) tt

pub listings-preserved : goal.listings-preserved
listings-preserved c =
    order_next c.args.listings.now c.listings.listing-index c.listing-item.result c.listings.orders.items _ c.in_ok-ordered.ordered c.listings-test.true c.listing-item.is c.listings.invariant c.in_ok-ordered.ensures c.in_ok-push.ensures.items

pub returns : goal.returns
returns c = order_done c.args.listings.now c.listings.listing-index c.listings.orders.items c.listings-test.false c.listings.invariant
