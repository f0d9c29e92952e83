use Rattle.std.proofs.Common.{◌≡◌, length, ◌∙◌, ap, Err, arith, rules, length-drop}
use Rattle.node_runner.proofs.Gains.{gains_push, gains_part, push_failed, slice_from}
use Rattle.node_runner.proofs.line_run.push_all.Goals as goal

pub loop-done-preserved : goal.loop-done-preserved
loop-done-preserved g c =
    let count = c.in_ok-done.ensures.count in
    let size = ap length (slice_from c.loop-done.done c.args.bytes.now) ∙ length-drop c.loop-done.done c.args.bytes.now in
    record {
      within = omega (arith, count.1, size);
      gained = gains_push (g.K.Sink.seen c.args.sink.now) (g.K.Sink.seen c.loop-done.sink) (g.K.Sink.seen c.push.new.self) c.loop-done.done c.in_ok-done.field-0 c.args.bytes.now c.loop-done.invariant.gained c.in_ok-done.ensures.pushes.pushed;
      faults = omega (arith, c.loop-done.invariant.faults, c.in_ok-done.ensures.pushes.cause.never_falls);
    }

pub returns-in_err-done : goal.returns-in_err-done
returns-in_err-done g c =
    let pushes = c.in_err-done.ensures.pushes in
    let old = g.K.Sink.seen c.args.sink.now in
    let between = g.K.Sink.seen c.loop-done.sink in
    let new = g.K.Sink.seen c.push.new.self in
    let is : c.from_residual.result ≡ Err c.in_err-done.field-0.0 = search rules in
    push_failed c.args.bytes.now old between new c.from_residual.result c.in_err-done.field-0.0 is
    (gains_part old between new c.loop-done.done c.args.bytes.now (omega (arith, c.loop-done-test.true)) c.loop-done.invariant.gained pushes.err)
    c.loop-done.invariant.faults pushes.cause.never_falls pushes.cause.failed
