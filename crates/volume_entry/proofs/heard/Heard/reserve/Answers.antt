use Rattle.std.proofs.Common.{◌≡◌, ◌∙◌, ap, sym, subst}
use Rattle.std.proofs.lemmas.List.{with_items_is}
use Rattle.std.proofs.lemmas.Result.{on_ok_weaker}
use Rattle.std.specs.Vec.{with_items}
use Rattle.unit_id.specs.Lists.{IsIn}
use Rattle.volume_entry.specs.HeardMemory.{HeardMemory}
use Rattle.volume_entry.specs.HeardCalls.{StillTell}
use Rattle.volume_entry.proofs.HeardSteps.{reserved_remembers}
use Rattle.volume_entry.proofs.heard.Heard.reserve.Goals as goal

pub returns-clause-same : goal.returns-clause-same
returns-clause-same c total m told =
    let ms = (with_items c.self.inside.moves c.reserve_rows.new.moves).items in
    let moves : ms ≡ c.reserve_rows.new.moves = with_items_is c.self.inside.moves c.reserve_rows.new.moves (c.reserve_rows.auto.moves ∙ c.deref_mut.ensures.len) in
    let was : c.deref_mut.result.now ≡ c.args.self.now.moves = c.deref_mut.ensures.value ∙ ap (λ (h : HeardMemory). h.moves) c.self.view_is in
    reserved_remembers total c.args.self.now c.self.inside.listings.items ms c.reserve.new.self m told
    (ap (λ (h : HeardMemory). h.listings) c.self.view_is)
    (c.reserve.ensures.same ∙ ap (λ (h : HeardMemory). h.marks.marks) c.self.view_is)
    (subst (StillTell c.args.self.now.moves) (sym moves) (subst (λ xs. StillTell xs c.reserve_rows.new.moves) was c.reserve_rows.ensures.same))

pub returns-clause-room : goal.returns-clause-room
returns-clause-room c =
    let moves = with_items_is c.self.inside.moves c.reserve_rows.new.moves (c.reserve_rows.auto.moves ∙ c.deref_mut.ensures.len) in
    on_ok_weaker c.reserve_rows.result
    (λ rows. record { marks = c.in_ok-reserve.ensures.room; rows = λ move i. rows move (subst (IsIn move) moves i) }) c.reserve_rows.ensures.room
