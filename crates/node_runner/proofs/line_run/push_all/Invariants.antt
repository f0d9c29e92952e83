use Rattle.std.proofs.Common.{length, take, ◌-◌, ◌≤◌}
use Rattle.node_runner.specs.Run.{Gains}
use Rattle.node_runner.proofs.line_run.push_all.Given as goal

abbrev pub invariant-loop-done : goal.invariant-loop-done
invariant-loop-done g l = record {
  within : l.done ≤ length l.bytes;
  gained : Gains (g.K.Sink.seen l.fn.sink) (take l.done l.bytes) (g.K.Sink.seen l.sink);
  faults : (g.K.Sink.seen l.fn.sink).faults ≤ (g.K.Sink.seen l.sink).faults;
}

abbrev pub decreases-loop-done : goal.decreases-loop-done
decreases-loop-done g l = length l.bytes - l.done
