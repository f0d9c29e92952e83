use Rattle.std.proofs.Common.{◌+◌, List, [], Ok, Err, refl, sym, ◌∙◌, drop, subst, rules}
use Rattle.volume_world.specs.Progress.{Proceeds}
use Rattle.migrate_task.specs.declared.listing.Listing.{Listing}
use Rattle.migrate_task.specs.AdvanceCall.{task_call, listing_units}
use Rattle.migrate_task.specs.TaskParts.{with_heard}
use Rattle.migrate_task.proofs.CutLemmas.{end_done, units_open}
use Rattle.migrate_task.proofs.TaskLemmas.{proceeds_nowhere, fails_on, breaks_off, next_part, all_parts}
use Rattle.migrate_task.proofs.WorkLemmas.{unit_there}
use Rattle.migrate_task.proofs.listing.list_units.Goals as goal

pub homes-init : goal.homes-init
homes-init g c = record {
  origin = refl;
  gone = λ mode task work dests same.
      let from = listing_units work dests [] c.args.homes.now in
      subst (λ (heard : List Listing). Proceeds (task_call mode task) (g.P.Port.seen c.args.port.now) (g.P.Port.seen c.args.port.now) from (listing_units work dests heard c.args.homes.now)) (sym c.new-heard.ensures.items)
      (proceeds_nowhere (task_call mode task) _ from);
}

pub list_unit-requires : goal.list_unit-requires
list_unit-requires g c = unit_there _ _ c.args.homes.now c.homes.home-index c.home-item.result c.homes.invariant.origin c.requires c.homes-test.true c.home-item.is

pub returns-in_err-listing-clause-goes : goal.returns-in_err-listing-clause-goes
unfolding listing_units
returns-in_err-listing-clause-goes g c = λ mode task work dests same.
    let from = listing_units work dests [] c.args.homes.now in
    let left = drop (c.homes.home-index + 1) c.args.homes.now in
    let halt = c.in_err-listing.field-0.0 in
    fails_on (task_call mode task) _ _ from halt c.from_residual.result (λ listing. listing_units work dests (with_heard c.homes.heard.items listing) left) (λ heard. listing_units work dests heard.items []) (search rules)
    (next_part (task_call mode task) _ _ _ from (listing_units work dests c.homes.heard.items) c.args.homes.now c.homes.home-index c.home-item.result (Err halt)
    (λ listing. listing_units work dests (with_heard c.homes.heard.items listing) left)
    c.homes-test.true c.home-item.is (c.homes.invariant.gone mode task work dests same) (c.in_err-listing.ensures.goes mode task work dests c.homes.heard.items left same))

pub returns-in_err-add-clause-goes : goal.returns-in_err-add-clause-goes
unfolding listing_units
returns-in_err-add-clause-goes g c = λ mode task work dests same.
    let from = listing_units work dests [] c.args.homes.now in
    let left = drop (c.homes.home-index + 1) c.args.homes.now in
    let listing = c.in_ok-listing.listing in
    breaks_off (task_call mode task) _ _ from (listing_units work dests (with_heard c.homes.heard.items listing) left) c.from_residual-in_err-add.result (λ heard. listing_units work dests heard.items []) (search rules) (end_done (listing_units work dests (with_heard c.homes.heard.items listing) left) (units_open work dests (with_heard c.homes.heard.items listing) left))
    (next_part (task_call mode task) _ _ _ from (listing_units work dests c.homes.heard.items) c.args.homes.now c.homes.home-index c.home-item.result (Ok listing)
    (λ listing. listing_units work dests (with_heard c.homes.heard.items listing) left)
    c.homes-test.true c.home-item.is (c.homes.invariant.gone mode task work dests same) (c.in_ok-listing.ensures.goes mode task work dests c.homes.heard.items left same))

pub homes-preserved : goal.homes-preserved
unfolding listing_units
homes-preserved g c = record {
  origin = c.in_ok-listing.ensures.origin ∙ c.homes.invariant.origin;
  gone = λ mode task work dests same.
      let from = listing_units work dests [] c.args.homes.now in
      let left = drop (c.homes.home-index + 1) c.args.homes.now in
      let listing = c.in_ok-listing.listing in
      subst (λ (heard : List Listing). Proceeds (task_call mode task) (g.P.Port.seen c.args.port.now) (g.P.Port.seen c.list_unit.new.port) from (listing_units work dests heard left)) (sym c.in_ok-add.ensures)
      (next_part (task_call mode task) _ _ _ from (listing_units work dests c.homes.heard.items) c.args.homes.now c.homes.home-index c.home-item.result (Ok listing)
      (λ listing. listing_units work dests (with_heard c.homes.heard.items listing) left)
      c.homes-test.true c.home-item.is (c.homes.invariant.gone mode task work dests same) (c.in_ok-listing.ensures.goes mode task work dests c.homes.heard.items left same));
}

pub returns-clause-goes : goal.returns-clause-goes
returns-clause-goes g c = λ mode task work dests same.
    all_parts (task_call mode task) _ _ (listing_units work dests [] c.args.homes.now) (listing_units work dests c.homes.heard.items) c.args.homes.now c.homes.home-index c.homes-test.false (c.homes.invariant.gone mode task work dests same)
