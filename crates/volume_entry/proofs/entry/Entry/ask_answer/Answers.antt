use Rattle.std.proofs.Common.{◌∙◌, sym, ap, subst}
use Rattle.std.specs.Prelude.{IsSome, is_some, not}
use Rattle.volume_entry.specs.Entry.{EntryOver}
use Rattle.volume_entry.proofs.EntryKinds.{ask_answers}
use Rattle.volume_entry.proofs.entry.Entry.ask_answer.Goals as goal

pub returns-in-Some-clause-kinds : goal.returns-in-Some-clause-kinds
returns-in-Some-clause-kinds g c =
    let open_ : IsSome c.args.self.now.book.log.end = subst (λ (s : EntryOver g.row.E.Denot). IsSome s.book.log.end) c.self.view_is (ap is_some (sym c.end.ensures) ∙ c.is_none.ensures ∙ ap not c.if-is_none.false) in
    (open_, ask_answers c.self.inside.book.part c.in-Some.reply c.args.bid c.in-Some.ensures)
