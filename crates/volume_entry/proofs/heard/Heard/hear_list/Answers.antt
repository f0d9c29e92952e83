use Rattle.std.proofs.Common.{◌≡◌, ◌∙◌, sym, ap, subst}
use Rattle.std.proofs.lemmas.Result.{on_ok_weaker}
use Rattle.unit_id.specs.Messages.{place_at, answer_of}
use Rattle.unit_id.specs.Request.{Request}
use Rattle.unit_id.specs.Shown.{Shown}
use Rattle.volume_entry.specs.Manager.{has_number, transfers_of}
use Rattle.volume_entry.specs.ManagerStep.{hear, hear_listing}
use Rattle.volume_entry.specs.HeardMemory.{Remembers}
use Rattle.volume_entry.proofs.HeardAnswers.{numbered}
use Rattle.volume_entry.proofs.OtherAnswers.{list_other, list_unnumbered, no_listing}
use Rattle.volume_entry.proofs.heard.Heard.hear_list.Goals as goal

pub returns-then-not-has_number-clause-heard : goal.returns-then-not-has_number-clause-heard
returns-then-not-has_number-clause-heard c disk total m homes lock told =
    let other = ap (λ l. has_number l c.args.number) lock ∙ sym c.if-not-has_number.ensures in
    subst (Remembers total c.args.self.now) (sym (list_unnumbered (place_at c.args.unit disk) c.args.number m c.args.answer.now other)) told

pub returns-in-Listing-clause-heard : goal.returns-in-Listing-clause-heard
returns-in-Listing-clause-heard c =
    on_ok_weaker c.note_listing.result
    (λ heard disk total m homes lock told.
    let place = place_at c.args.unit disk in
    let shown : Shown = record { live = c.in-Listing.live; marked = c.in-Listing.marked } in
    let number = ap (λ l. has_number l c.args.number) lock ∙ sym c.if-not-has_number.ensures in
    let same : record { live = c.as_slice.result.now; marked = c.as_slice-in-Listing.result.now } ≡ shown = λ j. record { live = c.as_slice.ensures j; marked = c.as_slice-in-Listing.ensures j } in
    let told_of = subst (λ s. Remembers total c.note_listing.new.self (record m { heard = hear_listing (transfers_of m.lock) place s m.heard })) same (heard total m homes lock told) in
    subst (λ a. Remembers total c.note_listing.new.self (hear (Request.List place c.args.number) (answer_of a) m)) (sym c.in-Listing.is)
    (subst (Remembers total c.note_listing.new.self) (numbered place c.args.number c.in-Listing.lock m shown number) told_of))
    c.note_listing.ensures.heard

pub returns-in_default-clause-heard : goal.returns-in_default-clause-heard
returns-in_default-clause-heard c disk total m homes lock told =
    subst (Remembers total c.args.self.now)
    (sym (list_other (place_at c.args.unit disk) c.args.number m c.args.answer.now (no_listing c.args.answer.now c.in_default.not-Listing))) told
