use Rattle.std.proofs.Common.{◌≡◌, ◌∙◌, ◌∷◌, ◌&&◌, sym, ap, subst, cond, option_copied}
use Rattle.std.proofs.lemmas.List.{with_items_is}
use Rattle.std.specs.Vec.{with_items}
use Rattle.unit_id.specs.Messages.{place_at, answer_of}
use Rattle.unit_id.specs.Request.{Request}
use Rattle.volume_entry.specs.Manager.{has_number, is_old, transfers_of}
use Rattle.volume_entry.specs.ManagerStep.{hear}
use Rattle.volume_entry.specs.HeardMemory.{HeardMemory, MovesTell, Remembers}
use Rattle.volume_entry.proofs.HeardAnswers.{fence_remembers}
use Rattle.volume_entry.proofs.OtherAnswers.{fence_other}
use Rattle.volume_entry.proofs.heard.Heard.hear_fenced.Goals as goal

pub returns-in-Done : goal.returns-in-Done
returns-in-Done c disk total m lock told =
    let ms = (with_items c.self.inside.moves c.hear_fence.new.moves).items in
    let moves : ms ≡ c.hear_fence.new.moves = with_items_is c.self.inside.moves c.hear_fence.new.moves (c.hear_fence.auto.moves ∙ c.deref_mut.ensures.len) in
    let was : c.deref_mut.result.now ≡ c.args.self.now.moves = c.deref_mut.ensures.value ∙ ap (λ (h : HeardMemory). h.moves) c.self.view_is in
    let held = option_copied c.args.lock in
    let place = place_at c.args.unit disk in
    subst (λ a. Remembers total (record { listings = c.self.inside.listings.items; moves = ms; marks = c.self.inside.marks }) (hear (Request.Fence place c.args.number) (answer_of a) m)) (sym c.in-Done.is)
    (fence_remembers total c.args.self.now c.self.inside.listings.items ms c.self.inside.marks m place c.args.number held lock told
    (ap (λ (h : HeardMemory). h.listings) c.self.view_is) (ap (λ (h : HeardMemory). h.marks) c.self.view_is)
    (λ h tells. subst (λ xs. MovesTell (transfers_of held) xs (record h { fenced = cond (has_number held c.args.number && is_old (transfers_of held) place) (place.index ∷ h.fenced) h.fenced })) (sym moves)
    (c.hear_fence.ensures h (subst (λ xs. MovesTell (transfers_of held) xs h) (sym was) tells))))

pub returns-in_default : goal.returns-in_default
returns-in_default c disk total m lock told =
    subst (Remembers total c.args.self.now) (sym (fence_other (place_at c.args.unit disk) c.args.number m c.args.answer.now c.in_default.not-Done)) told
