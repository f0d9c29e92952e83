use Rattle.volume_entry.proofs.BookMoments.{crash_still}
use Rattle.std.proofs.Common.{◌≡◌, refl, rules, subst, sym, Option, Some, None, Result, Err}
use Rattle.volume_entry.proofs.HeardSteps.{committed_remembers}
use Rattle.volume_entry.specs.Entry.{Rules, Steps, WritesStep}
use Rattle.volume_entry.specs.Manager.{ManagerRecord}
use Rattle.volume_entry.specs.ManagerStep.{commit_refusal}
use Rattle.volume_entry.specs.TableParts.{shape_of}
use Rattle.volume_entry.specs.declared.event.ManagerEvent.TheVariants.{Commit}
use Rattle.volume_entry.specs.declared.event.ManagerReply.{ManagerReply}
use Rattle.volume_entry.specs.declared.event.ManagerReply.TheVariants.{Done}
use Rattle.volume_entry.specs.declared.fault.EntryFault.{EntryFault}
use Rattle.volume_entry.proofs.SwapSteps.{done_by, failed_by}
use Rattle.volume_entry.proofs.entry.Entry.commit.Goals as goal

pub write_kept-requires-clause-kept : goal.write_kept-requires-clause-kept
write_kept-requires-clause-kept g c = λ total m told. committed_remembers total c.args.self.now.heard c.args.bid m told

pub returns-in-Some-clause-call : goal.returns-in-Some-clause-call
returns-in-Some-clause-call g c =
    let told : Option (Result ManagerReply EntryFault) → Type 0 = Rules g.E.Extent.seen 0 (Commit c.args.bid) (commit_refusal (shape_of c.args.self.now.book.shape) c.args.bid) c.args.self.now in
    let answered : told (Some c.in-Some.answer) = subst told c.in-Some.is (c.commit_answer.ensures.rules 0) in
    answered.0

pub returns-in-Some-clause-steps : goal.returns-in-Some-clause-steps
returns-in-Some-clause-steps g c = λ time.
    let told : Option (Result ManagerReply EntryFault) → Type 0 = Rules g.E.Extent.seen time (Commit c.args.bid) (commit_refusal (shape_of c.args.self.now.book.shape) c.args.bid) c.args.self.now in
    let answered : told (Some c.in-Some.answer) = subst told c.in-Some.is (c.commit_answer.ensures.rules time) in
    answered.1

pub returns-in_ok-write_kept-in-None-clause-steps : goal.returns-in_ok-write_kept-in-None-clause-steps
returns-in_ok-write_kept-in-None-clause-steps g c = λ time.
    let told : Option (Result ManagerReply EntryFault) → Type 0 = Rules g.E.Extent.seen time (Commit c.args.bid) (commit_refusal (shape_of c.args.self.now.book.shape) c.args.bid) c.args.self.now in
    let old = c.args.self.now in
    let new = c.write_kept.new.self in
    let item : ManagerRecord = ManagerRecord.Committed c.args.bid in
    let free : told None = subst told c.in-None.is (c.commit_answer.ensures.rules time) in
    done_by g.E.Extent.seen time (Commit c.args.bid) (λ m. commit_refusal (shape_of c.args.self.now.book.shape) c.args.bid m ≡ None) old new item free Done tt (λ m h. (h, refl))
    c.in_ok-write_kept-in-None.field-0 (subst (WritesStep g.E.Extent.seen item old new) c.in_ok-write_kept-in-None.was c.write_kept.ensures.writes)

pub returns-in_err-write_kept-in-None-clause-steps : goal.returns-in_err-write_kept-in-None-clause-steps
returns-in_err-write_kept-in-None-clause-steps g c = λ time.
    let told : Option (Result ManagerReply EntryFault) → Type 0 = Rules g.E.Extent.seen time (Commit c.args.bid) (commit_refusal (shape_of c.args.self.now.book.shape) c.args.bid) c.args.self.now in
    let old = c.args.self.now in
    let new = c.write_kept.new.self in
    let item : ManagerRecord = ManagerRecord.Committed c.args.bid in
    let free : told None = subst told c.in-None.is (c.commit_answer.ensures.rules time) in
    let why = c.in_err-write_kept-in-None.field-0.0 in
    let is : c.from_residual.result ≡ Err why = search rules in
    subst (Steps g.E.Extent.seen time (Commit c.args.bid) old new) (sym is)
    (failed_by g.E.Extent.seen time (Commit c.args.bid) (λ m. commit_refusal (shape_of c.args.self.now.book.shape) c.args.bid m ≡ None) old new item free why (λ m h. (h, refl))
    (subst (WritesStep g.E.Extent.seen item old new) c.in_err-write_kept-in-None.was c.write_kept.ensures.writes))

pub returns-in-Some-clause-moments : goal.returns-in-Some-clause-moments
returns-in-Some-clause-moments g c = crash_still g.E.Extent.seen (ManagerRecord.Committed c.args.bid) c.args.self.now.book (g.met.E.Extent.is_file c.args.self.now.book.log.file)
