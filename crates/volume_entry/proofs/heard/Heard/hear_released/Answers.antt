use Rattle.std.proofs.Common.{◌≡◌, ◌∙◌, ◌∷◌, sym, ap, subst, cond}
use Rattle.std.proofs.lemmas.List.{with_items_is}
use Rattle.std.specs.Vec.{with_items}
use Rattle.unit_id.specs.Messages.{place_at, answer_of}
use Rattle.unit_id.specs.Request.{Request}
use Rattle.volume_entry.specs.Manager.{is_old_there, transfers_of}
use Rattle.volume_entry.specs.ManagerStep.{hear}
use Rattle.volume_entry.specs.HeardMemory.{HeardMemory, MovesTell, Remembers}
use Rattle.volume_entry.proofs.HeardAnswers.{release_remembers}
use Rattle.volume_entry.proofs.OtherAnswers.{release_other, done_or_stale}
use Rattle.volume_entry.proofs.heard.Heard.hear_released.Goals as goal

pub returns-in-Done : goal.returns-in-Done
returns-in-Done c total m lock told =
    let ms = (with_items c.self.inside.moves c.hear_release.new.moves).items in
    let moves : ms ≡ c.hear_release.new.moves = with_items_is c.self.inside.moves c.hear_release.new.moves (c.hear_release.auto.moves ∙ c.deref_mut.ensures.len) in
    let was : c.deref_mut.result.now ≡ c.args.self.now.moves = c.deref_mut.ensures.value ∙ ap (λ (h : HeardMemory). h.moves) c.self.view_is in
    let place = place_at c.args.unit c.args.disk in
    let ts = c.transfers_of.result.now in
    let heard =
    release_remembers total c.args.self.now c.self.inside.listings.items ms c.self.inside.marks m place ts (c.transfers_of.ensures ∙ ap transfers_of (sym lock)) told
    (ap (λ (h : HeardMemory). h.listings) c.self.view_is) (ap (λ (h : HeardMemory). h.marks) c.self.view_is)
    (λ h tells. subst (λ xs. MovesTell ts xs (record h { released = cond (is_old_there ts place) (place.index ∷ h.released) h.released })) (sym moves)
    (c.hear_release.ensures h (subst (λ xs. MovesTell ts xs h) (sym was) tells))) in
    done_or_stale (λ a. Remembers total (record { listings = c.self.inside.listings.items; moves = ms; marks = c.self.inside.marks }) (hear (Request.Release place) (answer_of a) m)) c.args.answer.now c.in-Done.is heard (λ have. heard)

pub returns-in_default : goal.returns-in_default
returns-in_default c total m lock told =
    subst (Remembers total c.args.self.now) (sym (release_other (place_at c.args.unit c.args.disk) m c.args.answer.now c.in_default.not-Done c.in_default.not-Stale)) told
