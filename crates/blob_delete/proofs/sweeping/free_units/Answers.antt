use Rattle.std.proofs.Common.{◌≡◌, ◌+◌, ◌<◌, ◌≤◌, ℕ, Bool, List, [], Ok, Err, length, get_or, drop, sym, ◌∙◌, ap, subst, rules, arith}
use Rattle.unit_id.specs.declared.homes.Home.{Home}
use Rattle.volume_world.specs.Way.{Origin}
use Rattle.blob_delete.specs.SweepCall.{freeing, after_free}
use Rattle.blob_delete.specs.SweepParts.{SweepsOn, AreUnits}
use Rattle.blob_delete.proofs.SweepLemmas.{freeing_first, freeing_part, freeing_counted, freeing_done, marked_there, sweeps_failed, at_most_one}
use Rattle.blob_delete.proofs.sweeping.free_units.Goals as goal

pub units-init : goal.units-init
units-init g c = record { units = c.requires.units; count = omega arith; gone = freeing_first c.args.bid (g.P.Port.seen c.args.port.now) c.args.marked.now }

pub free-requires-clause-home : goal.free-requires-clause-home
free-requires-clause-home g c =
    let items = c.as_slice-home-items.ensures in
    let home = c.home-item.result in
    marked_there _ c.args.marked.now c.units.home-index home c.units.invariant.units (subst (λ (xs : List Home). c.units.home-index < length xs) items c.units-test.true)
    (c.home-item.is ∙ ap (λ (xs : List Home). get_or xs c.units.home-index home) items)

pub returns-in_err-freed : goal.returns-in_err-freed
returns-in_err-freed g c = λ total.
    let items = c.as_slice-home-items.ensures in
    let home = c.home-item.result in
    let marked = c.args.marked.now in
    let fault = c.in_err-freed.field-0.0 in
    let old = g.P.Port.seen c.args.port.now in
    let new = g.P.Port.seen c.free.new.port in
    let below = subst (λ (xs : List Home). c.units.home-index < length xs) items c.units-test.true in
    let is = c.home-item.is ∙ ap (λ (xs : List Home). get_or xs c.units.home-index home) items in
    let failed = freeing_part c.args.bid old _ new marked c.units.freed c.units.home-index home (Err fault) below is c.units.invariant.gone c.in_err-freed.ensures total in
    let given : c.from_residual.result ≡ Err fault = search rules in
    subst (λ r. SweepsOn {T = ℕ} c.args.bid old new (freeing total 0 marked) r (λ all. freeing total all [])) (sym given)
    (sweeps_failed {T = Bool} {U = ℕ} c.args.bid old new (freeing total 0 marked) fault (after_free total c.units.freed (drop (c.units.home-index + 1) marked)) (λ all. freeing total all []) failed)

pub units-preserved : goal.units-preserved
units-preserved g c =
    let items = c.as_slice-home-items.ensures in
    let home = c.home-item.result in
    let marked = c.args.marked.now in
    let done = c.in_ok-freed.field-0 in
    let below = subst (λ (xs : List Home). c.units.home-index < length xs) items c.units-test.true in
    let is = c.home-item.is ∙ ap (λ (xs : List Home). get_or xs c.units.home-index home) items in
    let same = (c.in_ok-freed.ensures 0 0 []).goes.origin in
    let count = c.units.invariant.count in
    let one = at_most_one done in
    record {
      units = subst (λ (o : Origin). AreUnits o marked) (sym same) c.units.invariant.units;
      count = omega arith;
      gone = freeing_counted c.args.bid _ _ marked c.units.freed (drop (c.units.home-index + 1) marked) done
          (freeing_part c.args.bid _ _ (g.P.Port.seen c.free.new.port) marked c.units.freed c.units.home-index home (Ok done) below is c.units.invariant.gone c.in_ok-freed.ensures);
    }

pub returns : goal.returns
returns g c =
    freeing_done c.args.bid _ _ c.args.marked.now c.units.freed c.units.home-index (subst (λ (xs : List Home). length xs ≤ c.units.home-index) c.as_slice-home-items.ensures c.units-test.false) c.units.invariant.gone
