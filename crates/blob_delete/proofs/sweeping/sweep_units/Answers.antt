use Rattle.std.proofs.Common.{ℕ, List, [], length, Err, sym, subst, rules}
use Rattle.unit_id.specs.declared.homes.Home.{Home}
use Rattle.volume_world.specs.Way.{Origin}
use Rattle.volume_world.specs.Call.{Next}
use Rattle.blob_delete.specs.declared.sweeping.Decided.{Decided}
use Rattle.volume_world.proofs.Comings.{proceeds_on}
use Rattle.blob_delete.specs.SweepCall.{SweepStage, freeing, sweep_call}
use Rattle.blob_delete.specs.SweepParts.{decided_on, AreUnits}
use Rattle.blob_delete.proofs.SweepLemmas.{shown, sweeps_on, sweep_fails, marked_so_far, committed_so_far, sweeps_over, sweeps_waiting}
use Rattle.blob_delete.proofs.sweeping.sweep_units.Goals as goal

pub returns-in_err-units : goal.returns-in_err-units
returns-in_err-units g c =
    sweep_fails (g.P.Port.seen c.args.port.now) _ c.args.bid c.from_residual.result c.in_err-units.field-0.0 shown (search rules) (c.in_err-units.ensures.sweeps c.args.bid)

pub returns-in_err-marked : goal.returns-in_err-marked
returns-in_err-marked g c =
    let a = g.P.Port.seen c.args.port.now in
    let b = g.P.Port.seen c.look.new.port in
    let d = g.P.Port.seen c.mark_units.new.port in
    let units = c.in_ok-units.units in
    let fault = c.in_err-marked.field-0.0 in
    let then = λ (marked : List Home). Next.Go (SweepStage.Committing (length units) marked) in
    sweep_fails {T = List Home} a d c.args.bid c.from_residual-in_err-marked.result fault then (search rules)
    (sweeps_on {T = List Home} c.args.bid a b d (Next.Go SweepStage.Looking) (shown units) (Err fault) then (c.in_ok-units.ensures.sweeps c.args.bid) (c.in_err-marked.ensures.sweeps (length units)))

pub returns-in_err-commit : goal.returns-in_err-commit
returns-in_err-commit g c =
    let a = g.P.Port.seen c.args.port.now in
    let b = g.P.Port.seen c.look.new.port in
    let d = g.P.Port.seen c.mark_units.new.port in
    let e = g.P.Port.seen c.commit.new.port in
    let units = c.in_ok-units.units in
    let marked = c.in_ok-marked.marked in
    let fault = c.in_err-commit.field-0.0 in
    let then = decided_on (length units) marked in
    let at = Next.Go (SweepStage.Committing (length units) marked) in
    let before = marked_so_far c.args.bid a b d units marked (c.in_ok-units.ensures.sweeps c.args.bid) (c.in_ok-marked.ensures.sweeps (length units)) in
    sweep_fails {T = Decided} a e c.args.bid c.from_residual-in_err-commit.result fault then (search rules)
    (sweeps_on {T = Decided} c.args.bid a d e (Next.Go SweepStage.Looking) at (Err fault) then before (c.in_err-commit.ensures (length units) marked))

pub free_units-requires-clause-units : goal.free_units-requires-clause-units
free_units-requires-clause-units g c =
    let same = (c.in_ok-commit.ensures 0 []).goes.origin in
    subst (λ (o : Origin). AreUnits o c.in_ok-marked.marked) (sym same) c.in_ok-marked.ensures.units

pub returns-in_err-freed-in-Committed : goal.returns-in_err-freed-in-Committed
returns-in_err-freed-in-Committed g c =
    let a = g.P.Port.seen c.args.port.now in
    let b = g.P.Port.seen c.look.new.port in
    let d = g.P.Port.seen c.mark_units.new.port in
    let e = g.P.Port.seen c.commit.new.port in
    let f = g.P.Port.seen c.free_units.new.port in
    let units = c.in_ok-units.units in
    let marked = c.in_ok-marked.marked in
    let fault = c.in_err-freed-in-Committed.field-0.0 in
    let then = λ (freed : ℕ). freeing (length units) freed [] in
    let before = marked_so_far c.args.bid a b d units marked (c.in_ok-units.ensures.sweeps c.args.bid) (c.in_ok-marked.ensures.sweeps (length units)) in
    let all = committed_so_far c.args.bid a d e (length units) marked c.in_ok-commit.field-0 c.in-Committed.is before (c.in_ok-commit.ensures (length units) marked) in
    sweep_fails {T = ℕ} a f c.args.bid c.from_residual-in_err-freed-in-Committed.result fault then (search rules)
    (sweeps_on {T = ℕ} c.args.bid a e f (Next.Go SweepStage.Looking) (freeing (length units) 0 marked) (Err fault) then all (c.in_err-freed-in-Committed.ensures (length units)))

pub returns-in_ok-freed-in-Committed : goal.returns-in_ok-freed-in-Committed
returns-in_ok-freed-in-Committed g c =
    let a = g.P.Port.seen c.args.port.now in
    let b = g.P.Port.seen c.look.new.port in
    let d = g.P.Port.seen c.mark_units.new.port in
    let e = g.P.Port.seen c.commit.new.port in
    let f = g.P.Port.seen c.free_units.new.port in
    let units = c.in_ok-units.units in
    let marked = c.in_ok-marked.marked in
    let freed = c.in_ok-freed-in-Committed.freed in
    let before = marked_so_far c.args.bid a b d units marked (c.in_ok-units.ensures.sweeps c.args.bid) (c.in_ok-marked.ensures.sweeps (length units)) in
    let all = committed_so_far c.args.bid a d e (length units) marked c.in_ok-commit.field-0 c.in-Committed.is before (c.in_ok-commit.ensures (length units) marked) in
    let last = proceeds_on (sweep_call c.args.bid) a e f (Next.Go SweepStage.Looking) (freeing (length units) 0 marked) (freeing (length units) freed []) all (c.in_ok-freed-in-Committed.ensures (length units)) in
    sweeps_over c.args.bid a f (length units) freed c.len.result c.outcome.result c.len.ensures c.outcome.ensures last

pub returns-in-Waits : goal.returns-in-Waits
returns-in-Waits g c =
    let a = g.P.Port.seen c.args.port.now in
    let b = g.P.Port.seen c.look.new.port in
    let d = g.P.Port.seen c.mark_units.new.port in
    let e = g.P.Port.seen c.commit.new.port in
    let units = c.in_ok-units.units in
    let marked = c.in_ok-marked.marked in
    let before = marked_so_far c.args.bid a b d units marked (c.in_ok-units.ensures.sweeps c.args.bid) (c.in_ok-marked.ensures.sweeps (length units)) in
    sweeps_waiting c.args.bid a d e (length units) c.in-Waits.marks marked c.in_ok-commit.field-0 c.in-Waits.is before (c.in_ok-commit.ensures (length units) marked)
