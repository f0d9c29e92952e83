use Rattle.std.proofs.Common.{sym, subst}
use Rattle.std.proofs.lemmas.Result.{on_ok_weaker}
use Rattle.unit_id.specs.Messages.{place_at, answer_of}
use Rattle.unit_id.specs.Request.{Request}
use Rattle.volume_entry.specs.ManagerStep.{hear}
use Rattle.volume_entry.specs.HeardMemory.{Remembers}
use Rattle.volume_entry.proofs.OtherAnswers.{mark_other, done_or}
use Rattle.volume_entry.proofs.heard.Heard.hear_mark.Goals as goal

pub returns-in-Done-clause-heard : goal.returns-in-Done-clause-heard
returns-in-Done-clause-heard c =
    on_ok_weaker c.note_mark.result
    (λ heard disk total m lock told.
    let marked = heard total m lock told in
    done_or (λ a. Remembers total c.note_mark.new.self (hear (Request.Mark (place_at c.args.unit disk) c.args.bid) (answer_of a) m)) c.args.answer.now c.in-Done.is marked marked)
    c.note_mark.ensures.heard

pub returns-in_default-clause-heard : goal.returns-in_default-clause-heard
returns-in_default-clause-heard c disk total m lock told =
    subst (Remembers total c.args.self.now) (sym (mark_other (place_at c.args.unit disk) c.args.bid m c.args.answer.now c.in_default.not-Done c.in_default.not-Already)) told
