use Rattle.std.proofs.Common.{◌≡◌, Err, sym, subst, rules, arith}
use Rattle.gate_log.specs.GateLog.{FinishesOver}
use Rattle.gate_log.proofs.Starts.{finish_closed, finish_inside, finish_closing, follow_failed}
use Rattle.gate_log.proofs.start.finish_file.Goals as goal

pub returns-then-cursor-clause-finishes : goal.returns-then-cursor-clause-finishes
returns-then-cursor-clause-finishes g c =
    finish_closed c.args.cursor.now (g.E.Extent.seen c.args.file.now) c.requires (g.met.E.Extent.is_file c.args.file.now) (omega (arith, c.if-len.false)) c.if-cursor.true

pub returns-in_err-end-clause-finishes : goal.returns-in_err-end-clause-finishes
returns-in_err-end-clause-finishes g c =
    let e = c.in_err-end.field-0.0 in
    let is : c.from_residual-in_err-end.result ≡ Err e = search rules in
    subst (FinishesOver c.args.cursor.now (g.E.Extent.seen c.args.file.now) (g.E.Extent.seen c.find_end.new.file)) (sym is)
    (follow_failed c.args.cursor.now (g.E.Extent.seen c.args.file.now) c.requires (g.E.Extent.seen c.find_end.new.file) c.find_end.ensures.reads.only (omega (arith, c.if-len.false)) c.if-cursor.false e c.in_err-end.ensures.answer)

pub returns-then-end-len-clause-finishes : goal.returns-then-end-len-clause-finishes
returns-then-end-len-clause-finishes g c =
    finish_inside c.args.cursor.now (g.E.Extent.seen c.args.file.now) c.requires (g.E.Extent.seen c.find_end.new.file) c.find_end.ensures.reads.only (omega (arith, c.if-len.false)) c.if-cursor.false
    c.in_ok-end.end c.in_ok-end.ensures.answer c.if-end-len.true

pub returns-clause-finishes : goal.returns-clause-finishes
returns-clause-finishes g c =
    finish_closing c.args.cursor.now (g.E.Extent.seen c.args.file.now) c.requires (g.E.Extent.seen c.find_end.new.file) c.find_end.ensures.reads.only (omega (arith, c.if-len.false)) c.if-cursor.false
    c.in_ok-end.end (g.E.Extent.seen c.close_end.new.file) _ c.in_ok-end.ensures.answer (omega (arith, c.if-end-len.false)) c.in_ok-close_end.ensures.answer c.in_ok-close_end.ensures.writes
