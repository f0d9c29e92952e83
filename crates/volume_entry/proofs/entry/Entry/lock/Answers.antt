use Rattle.volume_entry.proofs.BookMoments.{crash_still}
use Rattle.std.proofs.Common.{subst, Some, None}
use Rattle.volume_entry.specs.ManagerStep.{lock_record, lock_refusal}
use Rattle.volume_entry.specs.TableParts.{shape_of}
use Rattle.std.specs.Prelude.{IfSome}
use Rattle.volume_entry.specs.Entry.{AnswersAs, Rules, is_broken}
use Rattle.volume_entry.specs.Granting.{WritesGrant}
use Rattle.volume_entry.specs.declared.event.ManagerEvent.TheVariants.{Lock}
use Rattle.volume_entry.proofs.LockSteps.{lock_grants, granted_steps}
use Rattle.volume_entry.proofs.entry.Entry.lock.Goals as goal

pub returns-in-Some-clause-call : goal.returns-in-Some-clause-call
returns-in-Some-clause-call g c =
    let old = c.args.self.now in
    let wanted = c.as_slice-wanted.result.now in
    let rules : Rules g.E.Extent.seen c.args.now (Lock c.args.task wanted) (lock_refusal (is_broken old.broken) c.args.now wanted) old (Some c.in-Some.answer) =
    subst (Rules g.E.Extent.seen c.args.now (Lock c.args.task wanted) (lock_refusal (is_broken old.broken) c.args.now wanted) old) c.in-Some.is (c.lock_answer.ensures.rules c.args.task) in
    rules.0

pub returns-in-Some-clause-steps : goal.returns-in-Some-clause-steps
returns-in-Some-clause-steps g c =
    let old = c.args.self.now in
    let wanted = c.as_slice-wanted.result.now in
    let rules : Rules g.E.Extent.seen c.args.now (Lock c.args.task c.args.targets.now) (lock_refusal (is_broken old.broken) c.args.now c.args.targets.now) old (Some c.in-Some.answer) =
    subst (λ ts. Rules g.E.Extent.seen c.args.now (Lock c.args.task ts) (lock_refusal (is_broken old.broken) c.args.now ts) old (Some c.in-Some.answer)) c.as_slice-wanted.ensures
    (subst (Rules g.E.Extent.seen c.args.now (Lock c.args.task wanted) (lock_refusal (is_broken old.broken) c.args.now wanted) old) c.in-Some.is (c.lock_answer.ensures.rules c.args.task)) in
    rules.1

pub returns-in-None-clause-steps : goal.returns-in-None-clause-steps
returns-in-None-clause-steps g c =
    let old = c.args.self.now in
    let new = c.grant_lock.new.self in
    let targets = c.args.targets.now in
    let wanted = c.as_slice-wanted.result.now in
    let rules : Rules g.E.Extent.seen c.args.now (Lock c.args.task targets) (lock_refusal (is_broken old.broken) c.args.now targets) old None =
    subst (λ ts. Rules g.E.Extent.seen c.args.now (Lock c.args.task ts) (lock_refusal (is_broken old.broken) c.args.now ts) old None) c.as_slice-wanted.ensures
    (subst (Rules g.E.Extent.seen c.args.now (Lock c.args.task wanted) (lock_refusal (is_broken old.broken) c.args.now wanted) old) c.in-None.is (c.lock_answer.ensures.rules c.args.task)) in
    granted_steps g.E.Extent.seen c.args.now (Lock c.args.task targets) old new (lock_record c.args.task targets) (lock_refusal (is_broken old.broken) c.args.now targets) c.grant_lock.result
    (lock_grants (shape_of old.book.shape) old.broken c.args.now c.args.task targets) rules
    (subst (λ ts. WritesGrant g.E.Extent.seen (lock_record c.args.task ts old.book.part) old new c.grant_lock.result) c.as_slice-wanted.ensures c.grant_lock.ensures.writes)

pub grant_lock-requires-clause-legal : goal.grant_lock-requires-clause-legal
grant_lock-requires-clause-legal g c = c.lock_answer.ensures.legal c.in-None.is c.args.task

pub returns-in-Some-clause-moments : goal.returns-in-Some-clause-moments
returns-in-Some-clause-moments g c = crash_still g.E.Extent.seen (lock_record c.args.task c.args.targets.now c.args.self.now.book.part) c.args.self.now.book (g.met.E.Extent.is_file c.args.self.now.book.log.file)

pub returns-in-Some-clause-kinds : goal.returns-in-Some-clause-kinds
returns-in-Some-clause-kinds g c =
    let end = c.args.self.now.book.log.end in
    let wanted = c.as_slice-wanted.result.now in
    subst (λ ts. AnswersAs (Lock c.args.task ts) end c.in-Some.answer) c.as_slice-wanted.ensures
    (subst (λ o. IfSome o (AnswersAs (Lock c.args.task wanted) end)) c.in-Some.is (c.lock_answer.ensures.kinds c.args.task))
