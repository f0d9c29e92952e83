use Rattle.std.proofs.Common.{◌≡◌, ◌+◌, ◌<◌, ◌≤◌, List, [], Ok, Err, length, get_or, drop, sym, ◌∙◌, ap, subst, rules, arith}
use Rattle.unit_id.specs.declared.homes.Home.{Home}
use Rattle.volume_world.specs.Way.{Origin}
use Rattle.volume_world.specs.Replying.{AreHomes}
use Rattle.volume_world.specs.Call.{Next}
use Rattle.blob_delete.specs.SweepCall.{SweepStage, SweepNext, unbroken, marking}
use Rattle.blob_delete.specs.SweepParts.{SweepsOn, AreUnits}
use Rattle.blob_delete.proofs.SweepLemmas.{IsMarking, marking_first, marking_part, marking_done, item_there, few_homes, sweeps_failed}
use Rattle.blob_delete.proofs.sweeping.mark_units.Goals as goal

pub units-init : goal.units-init
units-init g c = record {
  homes = c.requires.homes;
  marked = subst (AreUnits (g.P.Port.seen c.args.port.now).origin) (sym c.empty-marked.ensures) tt;
  room = subst (λ (xs : List Home). length xs ≤ 0) (sym c.empty-marked.ensures) (omega arith);
  gone = subst (λ (xs : List Home). IsMarking c.args.bid (g.P.Port.seen c.args.port.now) (g.P.Port.seen c.args.port.now) c.args.units.now xs c.args.units.now) (sym c.empty-marked.ensures)
      (marking_first c.args.bid (g.P.Port.seen c.args.port.now) c.args.units.now);
}

pub mark_unit-requires-clause-home : goal.mark_unit-requires-clause-home
mark_unit-requires-clause-home g c =
    let items = c.as_slice-home-items.ensures in
    let home = c.home-item.result in
    item_there _ c.args.units.now c.units.home-index home c.units.invariant.homes (subst (λ (xs : List Home). c.units.home-index < length xs) items c.units-test.true)
    (c.home-item.is ∙ ap (λ (xs : List Home). get_or xs c.units.home-index home) items)

pub mark_unit-requires-clause-room : goal.mark_unit-requires-clause-room
mark_unit-requires-clause-room g c =
    let below = subst (λ (xs : List Home). c.units.home-index < length xs) c.as_slice-home-items.ensures c.units-test.true in
    let few = few_homes _ c.args.units.now c.units.invariant.homes in
    let room = c.units.invariant.room in
    omega arith

pub returns-in_err-mark_unit-clause-sweeps : goal.returns-in_err-mark_unit-clause-sweeps
returns-in_err-mark_unit-clause-sweeps g c = λ total.
    let items = c.as_slice-home-items.ensures in
    let home = c.home-item.result in
    let units = c.args.units.now in
    let marked = c.mark_unit.new.marked in
    let fault = c.in_err-mark_unit.field-0.0 in
    let old = g.P.Port.seen c.args.port.now in
    let new = g.P.Port.seen c.mark_unit.new.port in
    let from : SweepNext = Next.Go (marking total [] (unbroken units)) in
    let below = subst (λ (xs : List Home). c.units.home-index < length xs) items c.units-test.true in
    let is = c.home-item.is ∙ ap (λ (xs : List Home). get_or xs c.units.home-index home) items in
    let failed = marking_part c.args.bid old _ new units c.units.marked marked c.units.home-index home (Err fault) below is c.units.invariant.gone c.in_err-mark_unit.ensures.sweeps total in
    let given : c.from_residual.result ≡ Err fault = search rules in
    subst (λ r. SweepsOn {T = List Home} c.args.bid old new from r (λ all. Next.Go (SweepStage.Committing total all))) (sym given)
    (sweeps_failed {T = Unit {0}} {U = List Home} c.args.bid old new from fault (λ _. Next.Go (marking total marked (unbroken (drop (c.units.home-index + 1) units)))) (λ all. Next.Go (SweepStage.Committing total all)) failed)

pub units-preserved : goal.units-preserved
units-preserved g c =
    let items = c.as_slice-home-items.ensures in
    let home = c.home-item.result in
    let units = c.args.units.now in
    let below = subst (λ (xs : List Home). c.units.home-index < length xs) items c.units-test.true in
    let is = c.home-item.is ∙ ap (λ (xs : List Home). get_or xs c.units.home-index home) items in
    let same = (c.in_ok-mark_unit.ensures.sweeps 0 []).goes.origin in
    let more = c.in_ok-mark_unit.ensures.room in
    let room = c.units.invariant.room in
    record {
      homes = subst (λ (o : Origin). AreHomes o units) (sym same) c.units.invariant.homes;
      marked = c.in_ok-mark_unit.ensures.units c.units.invariant.marked;
      room = omega arith;
      gone = record {
        goes = marking_part c.args.bid _ _ (g.P.Port.seen c.mark_unit.new.port) units c.units.marked c.mark_unit.new.marked c.units.home-index home (Ok c.in_ok-mark_unit.field-0) below is c.units.invariant.gone
            c.in_ok-mark_unit.ensures.sweeps;
      };
    }

pub returns-clause-sweeps : goal.returns-clause-sweeps
returns-clause-sweeps g c =
    marking_done c.args.bid _ _ c.args.units.now c.units.marked c.units.home-index (subst (λ (xs : List Home). length xs ≤ c.units.home-index) c.as_slice-home-items.ensures c.units-test.false) c.units.invariant.gone
