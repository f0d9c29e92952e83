use Rattle.std.proofs.Common.{map}
use Rattle.std.specs.String.{string_bytes}
use Rattle.node_runner.proofs.SessionLaws.{shows_what_was_put}
use Rattle.node_runner.proofs.RunEnds.{runs_closed, runs_unread}
use Rattle.node_runner.proofs.script_run.run.Goals as goal

pub returns-in-Err-clause-runs : goal.returns-in-Err-clause-runs
returns-in-Err-clause-runs g c = runs_unread g.F.Disk.Shelf.seen (map string_bytes c.args.words.now) (g.S.Source.seen c.args.source.now) (g.K.Sink.seen c.args.sink.now)
    (g.F.Farm.seen c.args.farm.now) (g.F.Farm.seen c.begin.new.farm) c.in-Err.ending _ c.in-Err.ensures.begins c.unread.ensures.0 c.unread.ensures.1 c.unread.ensures.2

pub returns-in-Err-clause-integrity : goal.returns-in-Err-clause-integrity
returns-in-Err-clause-integrity g c = shows_what_was_put

pub returns-clause-runs : goal.returns-clause-runs
returns-clause-runs g c =
    runs_closed g.F.Disk.Shelf.seen (map string_bytes c.args.words.now) (g.S.Source.seen c.args.source.now) (g.S.Source.seen c.run_lines-session.new.source)
    (g.K.Sink.seen c.args.sink.now) (g.K.Sink.seen c.run_lines-session.new.sink) (g.K.Sink.seen c.close-ending.new.sink)
    (g.F.Farm.seen c.args.farm.now) (g.F.Farm.seen c.begin.new.farm) c.run_lines-session.result.0.ending c.close-ending.result _ c.in-Ok.ensures.begins
    c.run_lines-session.ensures c.close-ending.ensures.ends c.close-ending.ensures.late c.close-ending.ensures.count c.status.ensures

pub returns-clause-integrity : goal.returns-clause-integrity
returns-clause-integrity g c = shows_what_was_put
