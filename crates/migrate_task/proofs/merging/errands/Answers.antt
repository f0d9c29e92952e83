use Rattle.std.proofs.Common.{List, ◌++◌, sym, ◌∙◌, ap, subst}
use Rattle.migrate_task.specs.declared.listing.Listing.{Listing}
use Rattle.migrate_task.specs.Work.{errands_over}
use Rattle.migrate_task.specs.Merging.{AreOrderOf, AreShown}
use Rattle.migrate_task.specs.TaskParts.{work_of}
use Rattle.migrate_task.proofs.MergeLemmas.{errands_shown, errands_are}
use Rattle.migrate_task.proofs.merging.errands.Goals as goal

pub returns-clause-all : goal.returns-clause-all
returns-clause-all c =
    let w = work_of c.args.work.now in
    let ds = c.args.heard.now.dests.items in
    let us = c.args.heard.now.units.items in
    let shown = subst (λ (ls : List Listing). AreShown ls c.in_ok-bids.bids.items) c.as_slice-3.ensures.value c.in_ok-bids.ensures in
    let dests = subst (AreOrderOf ds) (sym c.as_slice-4.ensures.value) (subst (λ (ls : List Listing). AreOrderOf ls c.in_ok-dests.dests.items) c.as_slice.ensures.value c.in_ok-dests.ensures) in
    let units = subst (AreOrderOf us) (sym c.as_slice-5.ensures.value) (subst (λ (ls : List Listing). AreOrderOf ls c.in_ok-units.units.items) c.as_slice-2.ensures.value c.in_ok-units.ensures) in
    c.in_ok-add_all.ensures ds us dests units ∙ ap (λ xs. xs ++ errands_over w ds us c.as_slice-6.result.now) c.new-errands.ensures.items ∙ ap (errands_over w ds us) c.as_slice-6.ensures.value
    ∙ sym (errands_shown w ds us c.in_ok-bids.bids.items shown)

pub returns-clause-each : goal.returns-clause-each
returns-clause-each c = λ origin on.
    let w = work_of c.args.work.now in
    let ds = c.args.heard.now.dests.items in
    let us = c.args.heard.now.units.items in
    let shown = subst (λ (ls : List Listing). AreShown ls c.in_ok-bids.bids.items) c.as_slice-3.ensures.value c.in_ok-bids.ensures in
    let dests = subst (AreOrderOf ds) (sym c.as_slice-4.ensures.value) (subst (λ (ls : List Listing). AreOrderOf ls c.in_ok-dests.dests.items) c.as_slice.ensures.value c.in_ok-dests.ensures) in
    let units = subst (AreOrderOf us) (sym c.as_slice-5.ensures.value) (subst (λ (ls : List Listing). AreOrderOf ls c.in_ok-units.units.items) c.as_slice-2.ensures.value c.in_ok-units.ensures) in
    errands_are origin w ds us c.in_ok-bids.bids.items c.add_all.new.errands.items on shown
    (c.in_ok-add_all.ensures ds us dests units ∙ ap (λ xs. xs ++ errands_over w ds us c.as_slice-6.result.now) c.new-errands.ensures.items ∙ ap (errands_over w ds us) c.as_slice-6.ensures.value)
