use Rattle.std.proofs.Common.{◌+◌, List, [], Ok, Err, refl, sym, ◌∙◌, drop, subst, rules}
use Rattle.volume_world.specs.Progress.{Proceeds}
use Rattle.migrate_task.specs.declared.listing.Listing.{Listing}
use Rattle.migrate_task.specs.AdvanceCall.{task_call, listing_dests}
use Rattle.migrate_task.specs.TaskParts.{with_heard}
use Rattle.migrate_task.proofs.CutLemmas.{end_done, dests_open}
use Rattle.migrate_task.proofs.TaskLemmas.{proceeds_nowhere, fails_on, breaks_off, next_part, all_parts}
use Rattle.migrate_task.proofs.WorkLemmas.{dest_there}
use Rattle.migrate_task.proofs.listing.list_dests.Goals as goal

pub journeys-init : goal.journeys-init
journeys-init g c = record {
  origin = refl;
  gone = λ mode task work same.
      let from = listing_dests work [] c.args.journeys.now in
      subst (λ (dests : List Listing). Proceeds (task_call mode task) (g.P.Port.seen c.args.port.now) (g.P.Port.seen c.args.port.now) from (listing_dests work dests c.args.journeys.now)) (sym c.new-dests.ensures.items) (proceeds_nowhere (task_call mode task) _ from);
}

pub list_dest-requires : goal.list_dest-requires
list_dest-requires g c =
    dest_there _ _ c.args.journeys.now c.journeys.journey-index c.journey-item.result c.journeys.invariant.origin c.requires c.journeys-test.true c.journey-item.is

pub returns-in_err-listing-clause-goes : goal.returns-in_err-listing-clause-goes
unfolding listing_dests
returns-in_err-listing-clause-goes g c = λ mode task work same.
    let from = listing_dests work [] c.args.journeys.now in
    let left = drop (c.journeys.journey-index + 1) c.args.journeys.now in
    let halt = c.in_err-listing.field-0.0 in
    fails_on (task_call mode task) _ _ from halt c.from_residual.result (λ listing. listing_dests work (with_heard c.journeys.dests.items listing) left) (λ dests. listing_dests work dests.items []) (search rules)
    (next_part (task_call mode task) _ _ _ from (listing_dests work c.journeys.dests.items) c.args.journeys.now c.journeys.journey-index c.journey-item.result (Err halt)
    (λ listing. listing_dests work (with_heard c.journeys.dests.items listing) left)
    c.journeys-test.true c.journey-item.is (c.journeys.invariant.gone mode task work same) (c.in_err-listing.ensures.goes mode task work c.journeys.dests.items left same))

pub returns-in_err-add-clause-goes : goal.returns-in_err-add-clause-goes
unfolding listing_dests
returns-in_err-add-clause-goes g c = λ mode task work same.
    let from = listing_dests work [] c.args.journeys.now in
    let left = drop (c.journeys.journey-index + 1) c.args.journeys.now in
    let listing = c.in_ok-listing.listing in
    breaks_off (task_call mode task) _ _ from (listing_dests work (with_heard c.journeys.dests.items listing) left) c.from_residual-in_err-add.result (λ dests. listing_dests work dests.items []) (search rules) (end_done (listing_dests work (with_heard c.journeys.dests.items listing) left) (dests_open work (with_heard c.journeys.dests.items listing) left))
    (next_part (task_call mode task) _ _ _ from (listing_dests work c.journeys.dests.items) c.args.journeys.now c.journeys.journey-index c.journey-item.result (Ok listing)
    (λ listing. listing_dests work (with_heard c.journeys.dests.items listing) left)
    c.journeys-test.true c.journey-item.is (c.journeys.invariant.gone mode task work same) (c.in_ok-listing.ensures.goes mode task work c.journeys.dests.items left same))

pub journeys-preserved : goal.journeys-preserved
unfolding listing_dests
journeys-preserved g c = record {
  origin = c.in_ok-listing.ensures.origin ∙ c.journeys.invariant.origin;
  gone = λ mode task work same.
      let from = listing_dests work [] c.args.journeys.now in
      let left = drop (c.journeys.journey-index + 1) c.args.journeys.now in
      let listing = c.in_ok-listing.listing in
      subst (λ (dests : List Listing). Proceeds (task_call mode task) (g.P.Port.seen c.args.port.now) (g.P.Port.seen c.list_dest.new.port) from (listing_dests work dests left)) (sym c.in_ok-add.ensures)
      (next_part (task_call mode task) _ _ _ from (listing_dests work c.journeys.dests.items) c.args.journeys.now c.journeys.journey-index c.journey-item.result (Ok listing)
      (λ listing. listing_dests work (with_heard c.journeys.dests.items listing) left)
      c.journeys-test.true c.journey-item.is (c.journeys.invariant.gone mode task work same) (c.in_ok-listing.ensures.goes mode task work c.journeys.dests.items left same));
}

pub returns-clause-goes : goal.returns-clause-goes
returns-clause-goes g c = λ mode task work same.
    all_parts (task_call mode task) _ _ (listing_dests work [] c.args.journeys.now) (listing_dests work c.journeys.dests.items) c.args.journeys.now c.journeys.journey-index c.journeys-test.false (c.journeys.invariant.gone mode task work same)
