use Rattle.std.proofs.Common.{◌≡◌, ◌∙◌, refl, arith}
use Rattle.script_lines.specs.Feeding.{feed_of}
use Rattle.node_runner.specs.Progress.{RunView, run_of}
use Rattle.node_runner.proofs.RunSteps.{progress_none, progress_more, ends_line, ends_last}
use Rattle.node_runner.proofs.script_run.run_from.Goals as goal

pub loop-lines-init : goal.loop-lines-init
loop-lines-init g c = record {
  same = refl;
  progress = progress_none (g.S.Source.seen c.args.feed.now.source.now) (g.K.Sink.seen c.args.sink.now) c.args.feed.now.buffer c.args.kept.now c.requires.0 c.requires.1 c.requires.2;
}

pub returns-in-Err-clause-ends : goal.returns-in-Err-clause-ends
returns-in-Err-clause-ends g c =
    let old : RunView = run_of (feed_of c.loop-lines.feed.buffer (g.S.Source.seen c.loop-lines.feed.source.now)) c.loop-lines.kept (g.K.Sink.seen c.loop-lines.sink) in
    let new : RunView = run_of (feed_of c.run_line.new.feed.buffer (g.S.Source.seen c.run_line.new.feed.source.now)) c.run_line.new.kept (g.K.Sink.seen c.run_line.new.sink) in
    ends_line c.in-Err.ending (g.S.Source.seen c.args.feed.now.source.now) (g.K.Sink.seen c.args.sink.now) c.loop-lines.lines old new
    c.loop-lines.invariant.progress c.in-Err.ensures.line c.in-Err.ensures.feed c.in-Err.ensures.counts (omega arith)

pub loop-lines-preserved : goal.loop-lines-preserved
loop-lines-preserved g c =
    let old : RunView = run_of (feed_of c.loop-lines.feed.buffer (g.S.Source.seen c.loop-lines.feed.source.now)) c.loop-lines.kept (g.K.Sink.seen c.loop-lines.sink) in
    let new : RunView = run_of (feed_of c.run_line.new.feed.buffer (g.S.Source.seen c.run_line.new.feed.source.now)) c.run_line.new.kept (g.K.Sink.seen c.run_line.new.sink) in
    record {
      same = c.in-Ok.ensures.same_source ∙ c.loop-lines.invariant.same;
      progress = progress_more (g.S.Source.seen c.args.feed.now.source.now) (g.K.Sink.seen c.args.sink.now) c.loop-lines.lines old new
          c.loop-lines.invariant.progress c.in-Ok.ensures.line c.in-Ok.ensures.feed c.in-Ok.ensures.counts;
    }

pub returns-clause-ends : goal.returns-clause-ends
returns-clause-ends g c =
    let now : RunView = run_of (feed_of c.loop-lines.feed.buffer (g.S.Source.seen c.loop-lines.feed.source.now)) c.loop-lines.kept (g.K.Sink.seen c.loop-lines.sink) in
    let after = c.read_last-ending.new.feed in
    let full : c.loop-lines.lines ≡ 1000000 = omega arith in
    let ends = ends_last c.read_last-ending.result (g.S.Source.seen c.args.feed.now.source.now) (g.K.Sink.seen c.args.sink.now) c.loop-lines.lines now
    (feed_of after.buffer (g.S.Source.seen after.source.now)) c.loop-lines.invariant.progress c.read_last-ending.ensures.stops c.read_last-ending.ensures.feed full in
    rw full at ends
