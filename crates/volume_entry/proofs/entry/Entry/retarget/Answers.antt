use Rattle.volume_entry.proofs.BookMoments.{crash_still}
use Rattle.std.proofs.Common.{subst, Some, None}
use Rattle.volume_entry.specs.ManagerStep.{retarget_record, retarget_refusal}
use Rattle.volume_entry.specs.TableParts.{shape_of}
use Rattle.volume_entry.specs.Entry.{Rules, is_broken}
use Rattle.volume_entry.specs.declared.event.ManagerEvent.TheVariants.{Retarget}
use Rattle.volume_entry.proofs.LockSteps.{retarget_grants, granted_steps}
use Rattle.volume_entry.proofs.entry.Entry.retarget.Goals as goal

pub returns-in-Some-clause-call : goal.returns-in-Some-clause-call
returns-in-Some-clause-call g c =
    let old = c.args.self.now in
    let event = Retarget c.args.task c.args.index c.args.disk in
    let refusal = retarget_refusal (is_broken old.broken) c.args.task c.args.index c.args.disk in
    let rules : Rules g.E.Extent.seen 0 event refusal old (Some c.in-Some.answer) = subst (Rules g.E.Extent.seen 0 event refusal old) c.in-Some.is (c.retarget_answer.ensures.rules 0) in
    rules.0

pub returns-in-Some-clause-steps : goal.returns-in-Some-clause-steps
returns-in-Some-clause-steps g c = λ time.
    let old = c.args.self.now in
    let event = Retarget c.args.task c.args.index c.args.disk in
    let refusal = retarget_refusal (is_broken old.broken) c.args.task c.args.index c.args.disk in
    let rules : Rules g.E.Extent.seen time event refusal old (Some c.in-Some.answer) = subst (Rules g.E.Extent.seen time event refusal old) c.in-Some.is (c.retarget_answer.ensures.rules time) in
    rules.1

pub returns-in-None-clause-steps : goal.returns-in-None-clause-steps
returns-in-None-clause-steps g c = λ time.
    let old = c.args.self.now in
    let event = Retarget c.args.task c.args.index c.args.disk in
    let refusal = retarget_refusal (is_broken old.broken) c.args.task c.args.index c.args.disk in
    let rules : Rules g.E.Extent.seen time event refusal old None = subst (Rules g.E.Extent.seen time event refusal old) c.in-None.is (c.retarget_answer.ensures.rules time) in
    granted_steps g.E.Extent.seen time event old c.grant_retarget.new.self (retarget_record c.args.index c.args.disk) refusal c.grant_retarget.result
    (retarget_grants (shape_of old.book.shape) old.broken time c.args.task c.args.index c.args.disk) rules c.grant_retarget.ensures.writes

pub returns-in-Some-clause-moments : goal.returns-in-Some-clause-moments
returns-in-Some-clause-moments g c = crash_still g.E.Extent.seen (retarget_record c.args.index c.args.disk c.args.self.now.book.part) c.args.self.now.book (g.met.E.Extent.is_file c.args.self.now.book.log.file)

pub returns-in-None-clause-kinds : goal.returns-in-None-clause-kinds
returns-in-None-clause-kinds g c = c.grant_retarget.ensures.kinds c.args.task
