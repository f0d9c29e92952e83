use Rattle.std.proofs.Common.{sym, subst}
use Rattle.std.proofs.lemmas.Result.{on_ok_weaker}
use Rattle.unit_id.specs.Messages.{place_at, answer_of}
use Rattle.unit_id.specs.Request.{Request}
use Rattle.volume_entry.specs.ManagerStep.{hear}
use Rattle.volume_entry.specs.HeardMemory.{Remembers}
use Rattle.volume_entry.proofs.HeardAnswers.{copied_live, copied_marked}
use Rattle.volume_entry.proofs.OtherAnswers.{copy_other, done_or}
use Rattle.volume_entry.proofs.heard.Heard.hear_copy.Goals as goal

pub returns-in-Deleted-clause-heard : goal.returns-in-Deleted-clause-heard
returns-in-Deleted-clause-heard c =
    on_ok_weaker c.note_rows.result
    (λ heard disk total m lock told.
    subst (λ a. Remembers total c.note_rows.new.self (hear (Request.Copy (place_at c.args.unit disk) c.args.bid) (answer_of a) m)) (sym c.in-Deleted.is)
    (subst (Remembers total c.note_rows.new.self) (copied_marked (place_at c.args.unit disk) c.args.bid m) (heard total m lock told)))
    c.note_rows.ensures.heard

pub returns-in-Done-clause-heard : goal.returns-in-Done-clause-heard
returns-in-Done-clause-heard c =
    on_ok_weaker c.note_rows-in-Done.result
    (λ heard disk total m lock told.
    let live = subst (Remembers total c.note_rows-in-Done.new.self) (copied_live (place_at c.args.unit disk) c.args.bid m) (heard total m lock told) in
    done_or (λ a. Remembers total c.note_rows-in-Done.new.self (hear (Request.Copy (place_at c.args.unit disk) c.args.bid) (answer_of a) m)) c.args.answer.now c.in-Done.is live live)
    c.note_rows-in-Done.ensures.heard

pub returns-in_default-clause-heard : goal.returns-in_default-clause-heard
returns-in_default-clause-heard c disk total m lock told =
    subst (Remembers total c.args.self.now) (sym (copy_other (place_at c.args.unit disk) c.args.bid m c.args.answer.now c.in_default.not-Done c.in_default.not-Already c.in_default.not-Deleted)) told
