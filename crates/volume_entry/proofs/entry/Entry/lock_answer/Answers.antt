use Rattle.volume_entry.proofs.EntryKinds.{lock_answers}
use Rattle.std.proofs.Common.{◌∙◌, sym, ap, refl, subst, Some, Ok}
use Rattle.std.specs.Prelude.{IsSome, is_some, not}
use Rattle.volume_entry.specs.Manager.{IsLegal}
use Rattle.volume_entry.specs.ManagerStep.{lock_record, lock_refusal}
use Rattle.volume_entry.specs.TableParts.{shape_of}
use Rattle.volume_entry.specs.Entry.{EntryOver, is_broken, Rules}
use Rattle.volume_entry.specs.declared.event.ManagerEvent.TheVariants.{Lock}
use Rattle.volume_entry.proofs.EntrySteps.{refused_rules}
use Rattle.volume_entry.proofs.LockSteps.{lock_refused, refuses_each}
use Rattle.volume_entry.proofs.entry.Entry.lock_answer.Goals as goal

pub returns-in-Some-clause-rules : goal.returns-in-Some-clause-rules
returns-in-Some-clause-rules g c = λ task.
    let seen = g.E.Extent.seen in
    let old : EntryOver g.row.E.Denot = record { book = c.self.inside.book; heard = c.self.inside.heard; broken = c.self.inside.broken } in
    let refusal = lock_refusal (is_broken old.broken) c.args.now c.args.targets.now in
    subst (λ s. Rules seen c.args.now (Lock task c.args.targets.now) (lock_refusal (is_broken s.broken) c.args.now c.args.targets.now) s (Some (Ok c.in-Some.reply))) c.self.view_is
    (refused_rules seen c.args.now (Lock task c.args.targets.now) refusal old c.in-Some.reply
    (refuses_each seen old refusal (Some c.in-Some.reply) (λ m. refl) c.in-Some.ensures.refuses)
    (lock_refused (is_broken old.broken) c.args.now task c.args.targets.now)
    (ap is_some (sym c.end.ensures) ∙ c.is_none.ensures ∙ ap not c.if-is_none.false))

pub returns-in-None-clause-legal : goal.returns-in-None-clause-legal
returns-in-None-clause-legal g c = λ none task.
    subst (λ (s : EntryOver g.row.E.Denot). IsLegal (shape_of s.book.shape) s.book.part (lock_record task c.args.targets.now s.book.part)) c.self.view_is (c.lock_refusal.ensures.legal c.in-None.is task)

pub returns-in-Some-clause-kinds : goal.returns-in-Some-clause-kinds
returns-in-Some-clause-kinds g c = λ task.
    let open_ : IsSome c.args.self.now.book.log.end = subst (λ (s : EntryOver g.row.E.Denot). IsSome s.book.log.end) c.self.view_is (ap is_some (sym c.end.ensures) ∙ c.is_none.ensures ∙ ap not c.if-is_none.false) in
    (open_, lock_answers c.self.inside.book.part c.in-Some.reply (is_broken c.self.inside.broken) c.args.now task c.args.targets.now c.in-Some.ensures.refuses)
