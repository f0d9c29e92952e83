use Rattle.std.proofs.Common.{sym, ap, refl, subst, nat_eq}
use Rattle.std.specs.List.{IsDistinct}
use Rattle.chunk_store.specs.Kept.{Index, is_live, is_deleted}
use Rattle.chunk_store.proofs.Listings.{listed_once, shows}
use Rattle.chunk_store.proofs.index.RowIndex.listing.Goals as goal

pub ascending-requires : goal.ascending-requires
ascending-requires c =
    subst (IsDistinct nat_eq) (sym c.in_ok-live.ensures.live) (listed_once is_live c.self.inside.rows.entries c.split_bids.ensures.unique)

pub ascending-requires-2 : goal.ascending-requires-2
ascending-requires-2 c =
    subst (IsDistinct nat_eq) (sym c.in_ok-live.ensures.deleted) (listed_once is_deleted c.self.inside.rows.entries c.split_bids.ensures.unique)

pub returns-clause-live : goal.returns-clause-live
returns-clause-live c =
    shows is_live refl c.self.inside.rows.entries c.args.self.now.kept c.in_ok-live.live.items c.ascending.result
    (ap (λ (index : Index). index.kept.rows) (sym c.self.view_is))
    c.in_ok-live.ensures.live c.split_bids.ensures.unique c.ascending.ensures.order c.ascending.ensures.same

pub returns-clause-deleted : goal.returns-clause-deleted
returns-clause-deleted c =
    shows is_deleted refl c.self.inside.rows.entries c.args.self.now.kept c.in_ok-live.deleted.items c.ascending-2.result
    (ap (λ (index : Index). index.kept.rows) (sym c.self.view_is))
    c.in_ok-live.ensures.deleted c.split_bids.ensures.unique c.ascending-2.ensures.order c.ascending-2.ensures.same
