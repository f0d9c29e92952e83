use Rattle.std.proofs.Common.{sym, subst}
use Rattle.migrate_task.specs.declared.copying.Due.{Due}
use Rattle.migrate_task.specs.Copies.{errand_begins, next_errand}
use Rattle.migrate_task.specs.AdvanceCall.{task_call, copying}
use Rattle.migrate_task.specs.TaskParts.{GoesOn, work_of}
use Rattle.migrate_task.proofs.copies.run.Goals as goal

pub returns-in-Mark-clause-goes : goal.returns-in-Mark-clause-goes
returns-in-Mark-clause-goes g c = λ mode task left.
    let w = work_of c.args.work.now in
    let known = c.args.known.now in
    subst (λ (due : Due). GoesOn {T = Unit {0}} (task_call mode task) (g.P.Port.seen c.args.port.now) (g.P.Port.seen c.mark.new.port) (copying w (errand_begins w known c.args.errand.now left due)) c.mark.result
    (λ _. copying w (next_errand w known left))) (sym c.in-Mark.is) (c.mark.ensures.goes mode task w known left)

pub returns-in-Copy-clause-goes : goal.returns-in-Copy-clause-goes
returns-in-Copy-clause-goes g c = λ mode task left.
    let w = work_of c.args.work.now in
    let known = c.args.known.now in
    subst (λ (due : Due). GoesOn {T = Unit {0}} (task_call mode task) (g.P.Port.seen c.args.port.now) (g.P.Port.seen c.copy.new.port) (copying w (errand_begins w known c.args.errand.now left due)) c.copy.result
    (λ _. copying w (next_errand w c.copy.new.known left))) (sym c.in-Copy.is) (c.copy.ensures.goes mode task left)
