use Rattle.std.proofs.Common.{◌≡◌}
use Rattle.script_lines.specs.Feeding.{feed_of}
use Rattle.node_runner.specs.Progress.{run_of, Progress}
use Rattle.node_runner.proofs.script_run.run_from.Given as goal

abbrev pub invariant-loop-lines : goal.invariant-loop-lines
invariant-loop-lines g l = record {
  same : l.feed.source.ghost_name ≡ l.fn.feed.source.ghost_name;
  progress : Progress (g.S.Source.seen l.fn.feed.source.now) (g.K.Sink.seen l.fn.sink) l.lines
      (run_of (feed_of l.feed.buffer (g.S.Source.seen l.feed.source.now)) l.kept (g.K.Sink.seen l.sink));
}
