use Rattle.std.proofs.Common.{sym, subst}
use Rattle.migrate_task.specs.AdvanceCall.{Advances}
use Rattle.migrate_task.proofs.TaskLemmas.{advances_whole}
use Rattle.migrate_task.proofs.advancing.advance.Goals as goal

pub returns-clause-advances : goal.returns-clause-advances
returns-clause-advances g c =
    let a = g.P.Port.seen c.args.port.now in
    let b = g.P.Port.seen c.run-outcome.new.port in
    subst (Advances a b c.args.task.now) (sym c.answer.ensures) (advances_whole a b c.args.task.now c.run-outcome.result c.run-outcome.ensures.goes)
