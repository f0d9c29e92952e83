use Rattle.std.proofs.Common.{◌≡◌, ◌∙◌, sym, ap, refl, subst}
use Rattle.std.proofs.lemmas.List.{with_items_is}
use Rattle.std.proofs.lemmas.Result.{on_ok_weaker, on_err_weaker}
use Rattle.std.specs.Vec.{with_items}
use Rattle.unit_id.specs.Messages.{place_at}
use Rattle.volume_entry.specs.Manager.{transfers_of}
use Rattle.volume_entry.specs.ManagerStep.{hear_listing}
use Rattle.volume_entry.specs.HeardMemory.{HeardMemory}
use Rattle.volume_entry.specs.HeardCalls.{HaveRowRoom}
use Rattle.volume_entry.proofs.HeardAnswers.{moves_under, rows_remember, still_remember}
use Rattle.volume_entry.proofs.heard.Heard.note_rows.Goals as goal

pub returns-clause-heard : goal.returns-clause-heard
returns-clause-heard c =
    let ms = (with_items c.self.inside.moves c.hear_rows.new.moves).items in
    let moves : ms ≡ c.hear_rows.new.moves = with_items_is c.self.inside.moves c.hear_rows.new.moves (c.hear_rows.auto.moves ∙ c.deref_mut.ensures.len) in
    let was : c.deref_mut.result.now ≡ c.args.self.now.moves = c.deref_mut.ensures.value ∙ ap (λ (h : HeardMemory). h.moves) c.self.view_is in
    let place = place_at c.args.unit 0 in
    on_ok_weaker c.hear_rows.result
    (λ heard total m lock told.
    rows_remember total c.args.self.now c.self.inside.listings.items ms c.self.inside.marks m place (record { live = c.args.live.now; marked = c.args.marked.now }) told
    (ap (λ (h : HeardMemory). h.listings) c.self.view_is) (ap (λ (h : HeardMemory). h.marks) c.self.view_is)
    (moves_under (λ ts. hear_listing ts place (record { live = c.args.live.now; marked = c.args.marked.now })) c.transfers_of.result.now (transfers_of m.lock) c.deref_mut.result.now c.args.self.now.moves c.hear_rows.new.moves ms
    (c.transfers_of.ensures ∙ ap transfers_of (sym lock)) was moves heard))
    c.hear_rows.ensures.heard

pub returns-clause-same : goal.returns-clause-same
returns-clause-same c =
    let ms = (with_items c.self.inside.moves c.hear_rows.new.moves).items in
    let moves : ms ≡ c.hear_rows.new.moves = with_items_is c.self.inside.moves c.hear_rows.new.moves (c.hear_rows.auto.moves ∙ c.deref_mut.ensures.len) in
    let was : c.deref_mut.result.now ≡ c.args.self.now.moves = c.deref_mut.ensures.value ∙ ap (λ (h : HeardMemory). h.moves) c.self.view_is in
    on_err_weaker c.hear_rows.result
    (λ same total m told.
    still_remember total c.args.self.now c.self.inside.listings.items ms c.self.inside.marks m told
    (ap (λ (h : HeardMemory). h.listings) c.self.view_is) (ap (λ (h : HeardMemory). h.marks.marks) c.self.view_is)
    (moves_under (λ ts h. h) (transfers_of m.lock) (transfers_of m.lock) c.deref_mut.result.now c.args.self.now.moves c.hear_rows.new.moves ms refl was moves (same (transfers_of m.lock))))
    c.hear_rows.ensures.same

pub returns-clause-succeeds : goal.returns-clause-succeeds
returns-clause-succeeds c room =
    let was : c.deref_mut.result.now ≡ c.args.self.now.moves = c.deref_mut.ensures.value ∙ ap (λ (h : HeardMemory). h.moves) c.self.view_is in
    c.hear_rows.ensures.succeeds (subst HaveRowRoom (sym was) room.rows)
