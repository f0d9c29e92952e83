use Rattle.volume_entry.proofs.EntryKinds.{retarget_answers}
use Rattle.std.proofs.Common.{◌∙◌, sym, ap, refl, subst, Some, Ok}
use Rattle.std.specs.Prelude.{IsSome, is_some, not}
use Rattle.volume_entry.specs.ManagerStep.{retarget_refusal}
use Rattle.volume_entry.specs.Entry.{EntryOver, is_broken, Rules}
use Rattle.volume_entry.specs.declared.event.ManagerEvent.TheVariants.{Retarget}
use Rattle.volume_entry.proofs.EntrySteps.{refused_rules}
use Rattle.volume_entry.proofs.LockSteps.{retarget_refused, refuses_each}
use Rattle.volume_entry.proofs.entry.Entry.retarget_answer.Goals as goal

pub returns-in-Some-clause-rules : goal.returns-in-Some-clause-rules
returns-in-Some-clause-rules g c = λ time.
    let seen = g.E.Extent.seen in
    let old : EntryOver g.row.E.Denot = record { book = c.self.inside.book; heard = c.self.inside.heard; broken = c.self.inside.broken } in
    let refusal = retarget_refusal (is_broken old.broken) c.args.task c.args.index c.args.disk in
    subst (λ s. Rules seen time (Retarget c.args.task c.args.index c.args.disk) (retarget_refusal (is_broken s.broken) c.args.task c.args.index c.args.disk) s (Some (Ok c.in-Some.reply))) c.self.view_is
    (refused_rules seen time (Retarget c.args.task c.args.index c.args.disk) refusal old c.in-Some.reply
    (refuses_each seen old refusal (Some c.in-Some.reply) (λ m. refl) c.in-Some.ensures.refuses)
    (retarget_refused (is_broken old.broken) c.args.task c.args.index c.args.disk)
    (ap is_some (sym c.end.ensures) ∙ c.is_none.ensures ∙ ap not c.if-is_none.false))

pub returns-in-Some-clause-kinds : goal.returns-in-Some-clause-kinds
returns-in-Some-clause-kinds g c =
    let open_ : IsSome c.args.self.now.book.log.end = subst (λ (s : EntryOver g.row.E.Denot). IsSome s.book.log.end) c.self.view_is (ap is_some (sym c.end.ensures) ∙ c.is_none.ensures ∙ ap not c.if-is_none.false) in
    (open_, retarget_answers c.self.inside.book.part c.in-Some.reply (is_broken c.self.inside.broken) c.args.task c.args.index c.args.disk c.in-Some.ensures.refuses)
