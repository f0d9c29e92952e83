use Rattle.std.proofs.Common.{◌≡◌, ◌+◌, ◌-◌, Err, sym, subst, rules}
use Rattle.gate_log.specs.GateLog.{ReadCalls}
use Rattle.gate_log.proofs.Counts.{no_call, at_most_two, piece_refused}
use Rattle.gate_log.proofs.record.read_record.Goals as goal

pub returns-then-place-end-clause-calls : goal.returns-then-place-end-clause-calls
returns-then-place-end-clause-calls g c = no_call 2 (g.E.Extent.seen c.args.file.now)

pub returns-in_err-body-clause-calls : goal.returns-in_err-body-clause-calls
returns-in_err-body-clause-calls g c =
    let e = c.in_err-body.field-0.0 in
    let is : c.from_residual-in_err-body.result ≡ Err e = search rules in
    subst (ReadCalls (g.E.Extent.seen c.args.file.now) (g.E.Extent.seen c.read_exactly.new.file)) (sym is)
    (piece_refused (c.args.place + 5) (c.in-Some.next - c.args.place - 5) (g.E.Extent.seen c.args.file.now) (g.E.Extent.seen c.find_next.new.file) (g.E.Extent.seen c.read_exactly.new.file) e c.find_next.ensures.counted c.in_err-body.ensures.answer)

pub returns-in_default-2-clause-calls : goal.returns-in_default-2-clause-calls
returns-in_default-2-clause-calls g c = at_most_two (g.E.Extent.seen c.args.file.now) (g.E.Extent.seen c.find_next.new.file) (g.E.Extent.seen c.read_exactly.new.file) c.find_next.ensures.counted c.in_ok-body.ensures.answer.0
