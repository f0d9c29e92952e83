use Rattle.std.proofs.Common.{◌≡◌, ◌∙◌, sym, ap, refl, subst, ◌∷◌, [], false, arith}
use Rattle.std.proofs.lemmas.List.{with_items_is}
use Rattle.std.proofs.lemmas.Result.{on_ok_weaker}
use Rattle.std.specs.Vec.{with_items}
use Rattle.unit_id.proofs.Bools.{contrary}
use Rattle.unit_id.specs.Messages.{place_at}
use Rattle.unit_id.specs.UnitName.{Name}
use Rattle.volume_entry.specs.Manager.{transfers_of}
use Rattle.volume_entry.specs.ManagerStep.{hear_listing}
use Rattle.volume_entry.specs.HeardMemory.{HeardMemory, MarksTell}
use Rattle.volume_entry.specs.HeardCalls.{HaveRowRoom}
use Rattle.volume_entry.proofs.HeardAnswers.{moves_under, mark_remembers, still_remember, for_err}
use Rattle.volume_entry.proofs.heard.Heard.note_mark.Goals as goal

pub returns-clause-heard : goal.returns-clause-heard
returns-clause-heard c =
    let ms = (with_items c.self.inside.moves c.hear_rows.new.moves).items in
    let moves : ms ≡ c.hear_rows.new.moves = with_items_is c.self.inside.moves c.hear_rows.new.moves (c.hear_rows.auto.moves ∙ c.deref_mut.ensures.len) in
    let was : c.deref_mut.result.now ≡ c.args.self.now.moves = c.deref_mut.ensures.value ∙ ap (λ (h : HeardMemory). h.moves) c.self.view_is in
    let place = place_at c.args.unit 0 in
    let key : record { bid = c.args.bid; index = c.unit.inside.index; epoch = c.unit.inside.epoch } ≡ record { bid = c.args.bid; index = place.index; epoch = place.epoch } =
    ap (λ (n : Name). record { bid = c.args.bid; index = n.index; epoch = n.epoch }) c.unit.view_is in
    on_ok_weaker c.add.result
    (λ added total m lock told.
    mark_remembers total c.args.self.now c.self.inside.listings.items ms c.add.new.self m place c.args.bid told (ap (λ (h : HeardMemory). h.listings) c.self.view_is)
    (subst (λ k. MarksTell c.add.new.self.marks (k ∷ c.args.self.now.marks.marks)) key
    (subst (λ ks. MarksTell c.add.new.self.marks (record { bid = c.args.bid; index = c.unit.inside.index; epoch = c.unit.inside.epoch } ∷ ks))
    (c.in_ok-reserve.ensures.same ∙ ap (λ (h : HeardMemory). h.marks.marks) c.self.view_is) added))
    (moves_under (λ ts. hear_listing ts place (record { live = []; marked = c.args.bid ∷ [] })) c.transfers_of.result.now (transfers_of m.lock) c.deref_mut.result.now c.args.self.now.moves c.hear_rows.new.moves ms
    (c.transfers_of.ensures ∙ ap transfers_of (sym lock)) was moves c.in_ok-hear_rows.ensures.heard))
    c.add.ensures.added

pub returns-in_err-hear_rows-clause-same : goal.returns-in_err-hear_rows-clause-same
returns-in_err-hear_rows-clause-same c =
    let ms = (with_items c.self.inside.moves c.hear_rows.new.moves).items in
    let moves : ms ≡ c.hear_rows.new.moves = with_items_is c.self.inside.moves c.hear_rows.new.moves (c.hear_rows.auto.moves ∙ c.deref_mut.ensures.len) in
    let was : c.deref_mut.result.now ≡ c.args.self.now.moves = c.deref_mut.ensures.value ∙ ap (λ (h : HeardMemory). h.moves) c.self.view_is in
    for_err c.from_residual-in_err-hear_rows.result _
    (λ total m told.
    still_remember total c.args.self.now c.self.inside.listings.items ms c.reserve.new.self m told
    (ap (λ (h : HeardMemory). h.listings) c.self.view_is) (c.in_ok-reserve.ensures.same ∙ ap (λ (h : HeardMemory). h.marks.marks) c.self.view_is)
    (moves_under (λ ts h. h) (transfers_of m.lock) (transfers_of m.lock) c.deref_mut.result.now c.args.self.now.moves c.hear_rows.new.moves ms refl was moves (c.in_err-hear_rows.ensures.same (transfers_of m.lock))))

pub returns-in_err-hear_rows-clause-succeeds : goal.returns-in_err-hear_rows-clause-succeeds
returns-in_err-hear_rows-clause-succeeds c room =
    let was : c.deref_mut.result.now ≡ c.args.self.now.moves = c.deref_mut.ensures.value ∙ ap (λ (h : HeardMemory). h.moves) c.self.view_is in
    let ok = c.in_err-hear_rows.ensures.succeeds (subst HaveRowRoom (sym was) room.rows) (omega arith) (omega arith) in
    absurd (contrary false ok refl)
