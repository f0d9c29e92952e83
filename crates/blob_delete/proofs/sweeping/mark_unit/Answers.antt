use Rattle.std.proofs.Common.{List, [], Bool, Err, sym, subst, rules}
use Rattle.unit_id.specs.declared.homes.Home.{Home}
use Rattle.volume_world.specs.Way.{Origin}
use Rattle.volume_world.specs.Call.{Next}
use Rattle.blob_delete.specs.SweepCall.{SweepStage, unbroken, marking, after_mark}
use Rattle.blob_delete.specs.SweepParts.{AreUnits}
use Rattle.blob_delete.proofs.SweepLemmas.{sweeps_origin, sweeps_passed_by, unit_failed, unit_marked, units_kept}
use Rattle.blob_delete.proofs.sweeping.mark_unit.Goals as goal

pub returns-then-home-clause-sweeps : goal.returns-then-home-clause-sweeps
returns-then-home-clause-sweeps g c = λ total left. sweeps_passed_by c.args.bid _ total c.args.marked.now left c.args.home.now c.if-home.true

pub returns-in_err-has_mark-clause-sweeps : goal.returns-in_err-has_mark-clause-sweeps
returns-in_err-has_mark-clause-sweeps g c = λ total left.
    unit_failed c.args.bid _ _ total c.args.marked.now left c.args.home.now c.in_err-has_mark.field-0.0 c.from_residual.result (λ _. Next.Go (marking total c.args.marked.now (unbroken left))) c.if-home.false
    (c.in_err-has_mark.ensures total c.args.marked.now (unbroken left)) (search rules)

pub returns-in_err-has_mark-clause-units : goal.returns-in_err-has_mark-clause-units
returns-in_err-has_mark-clause-units g c = λ units.
    let marked = c.args.marked.now in
    let same = sweeps_origin {T = Bool} c.args.bid _ _ (Next.Go (SweepStage.Marking 0 [] c.args.home.now [])) (Err c.in_err-has_mark.field-0.0) (after_mark 0 [] c.args.home.now []) (c.in_err-has_mark.ensures 0 [] []) in
    subst (λ (o : Origin). AreUnits o marked) (sym same) units

pub returns-clause-sweeps : goal.returns-clause-sweeps
returns-clause-sweeps g c = λ total left.
    unit_marked c.args.bid _ _ total c.args.marked.now c.keep.new.marked left c.args.home.now c.in_ok-has_mark.has_mark c.if-home.false c.keep.ensures (c.in_ok-has_mark.ensures total c.args.marked.now (unbroken left))

pub returns-clause-units : goal.returns-clause-units
returns-clause-units g c = λ units.
    let origin = (g.P.Port.seen c.args.port.now).origin in
    let kept : AreUnits origin c.keep.new.marked =
    subst (λ (xs : List Home). AreUnits origin xs) (sym c.keep.ensures) (units_kept origin c.args.marked.now c.args.home.now c.in_ok-has_mark.has_mark units c.requires.home) in
    let same = (c.in_ok-has_mark.ensures 0 [] []).goes.origin in
    subst (λ (o : Origin). AreUnits o c.keep.new.marked) (sym same) kept
