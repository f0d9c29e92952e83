use Rattle.volume_entry.proofs.BookMoments.{crash_still}
use Rattle.volume_entry.specs.Manager.{ManagerRecord}
use Rattle.volume_entry.specs.ManagerStep.{ask_refusal}
use Rattle.std.proofs.Common.{subst, true, Some}
use Rattle.volume_entry.specs.Entry.{Rules}
use Rattle.volume_entry.specs.declared.event.ManagerEvent.TheVariants.{Ask}
use Rattle.volume_entry.proofs.entry.Entry.ask.Goals as goal

pub returns-in-Some-clause-call : goal.returns-in-Some-clause-call
returns-in-Some-clause-call g c =
    let rules : Rules g.E.Extent.seen 0 (Ask c.args.bid) (ask_refusal true c.args.bid) c.args.self.now (Some c.in-Some.answer) = subst (Rules g.E.Extent.seen 0 (Ask c.args.bid) (ask_refusal true c.args.bid) c.args.self.now) c.in-Some.is (c.ask_answer.ensures.rules 0) in
    rules.0

pub returns-in-Some-clause-steps : goal.returns-in-Some-clause-steps
returns-in-Some-clause-steps g c = λ time.
    let rules : Rules g.E.Extent.seen time (Ask c.args.bid) (ask_refusal true c.args.bid) c.args.self.now (Some c.in-Some.answer) = subst (Rules g.E.Extent.seen time (Ask c.args.bid) (ask_refusal true c.args.bid) c.args.self.now) c.in-Some.is (c.ask_answer.ensures.rules time) in
    rules.1

pub returns-in-Some-clause-moments : goal.returns-in-Some-clause-moments
returns-in-Some-clause-moments g c = crash_still g.E.Extent.seen (ManagerRecord.Asked c.args.bid) c.args.self.now.book (g.met.E.Extent.is_file c.args.self.now.book.log.file)
