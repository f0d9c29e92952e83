use Rattle.std.proofs.Common.{◌≡◌, ◌∙◌, sym, ap, refl, cond, set, Some}
use Rattle.std.proofs.lemmas.List.{with_items_is}
use Rattle.std.specs.Vec.{with_items}
use Rattle.unit_id.specs.Messages.{place_at}
use Rattle.unit_id.specs.Shown.{Shown}
use Rattle.volume_entry.specs.Manager.{transfers_of, is_current}
use Rattle.volume_entry.specs.ManagerStep.{hear_listing}
use Rattle.volume_entry.specs.HeardMemory.{HeardMemory}
use Rattle.volume_entry.proofs.HeardAnswers.{moves_under, listing_remembers, still_remember, for_err}
use Rattle.volume_entry.proofs.heard.Heard.note_listing.Goals as goal

pub returns-clause-heard : goal.returns-clause-heard
returns-clause-heard c total m homes lock told =
    let ms = (with_items c.self.inside.moves c.hear_rows.new.moves).items in
    let moves : ms ≡ c.hear_rows.new.moves = with_items_is c.self.inside.moves c.hear_rows.new.moves (c.hear_rows.auto.moves ∙ c.deref_mut.ensures.len) in
    let was : c.deref_mut.result.now ≡ c.args.self.now.moves = c.deref_mut.ensures.value ∙ ap (λ (h : HeardMemory). h.moves) c.self.view_is in
    let place = place_at c.args.unit 0 in
    let listing = c.in_ok-listing.listing in
    let shown : Shown = record { live = c.args.live.now; marked = c.args.marked.now } in
    let old = c.args.self.now in
    let ls = (with_items c.self.inside.listings c.keep_listing.new.listings).items in
    let kept : ls ≡ cond (is_current m.homes place) (set old.listings place.index (Some listing)) old.listings =
    with_items_is c.self.inside.listings c.keep_listing.new.listings (c.keep_listing.auto.listings ∙ c.deref_mut-2.ensures.len)
    ∙ c.keep_listing.ensures
    ∙ ap (λ xs. cond (is_current c.args.homes.now place) (set xs place.index (Some listing)) xs) (c.deref_mut-2.ensures.value ∙ ap (λ (h : HeardMemory). h.listings) c.self.view_is)
    ∙ ap (λ hs. cond (is_current hs place) (set old.listings place.index (Some listing)) old.listings) (sym homes) in
    listing_remembers total m old.listings place listing shown told.listings c.in_ok-listing.ensures ls kept ms c.self.inside.marks
    (moves_under (λ ts. hear_listing ts place shown) c.transfers_of.result.now (transfers_of m.lock) c.deref_mut.result.now old.moves c.hear_rows.new.moves ms
    (c.transfers_of.ensures ∙ ap transfers_of (sym lock)) was moves c.in_ok-hear_rows.ensures.heard m.heard told.moves)
    (rw (ap (λ (h : HeardMemory). h.marks) c.self.view_is) told.marks)

pub returns-in_err-hear_rows-clause-same : goal.returns-in_err-hear_rows-clause-same
returns-in_err-hear_rows-clause-same c =
    let ms = (with_items c.self.inside.moves c.hear_rows.new.moves).items in
    let moves : ms ≡ c.hear_rows.new.moves = with_items_is c.self.inside.moves c.hear_rows.new.moves (c.hear_rows.auto.moves ∙ c.deref_mut.ensures.len) in
    let was : c.deref_mut.result.now ≡ c.args.self.now.moves = c.deref_mut.ensures.value ∙ ap (λ (h : HeardMemory). h.moves) c.self.view_is in
    for_err c.from_residual-in_err-hear_rows.result _
    (λ total m told.
    still_remember total c.args.self.now c.self.inside.listings.items ms c.self.inside.marks m told
    (ap (λ (h : HeardMemory). h.listings) c.self.view_is) (ap (λ (h : HeardMemory). h.marks.marks) c.self.view_is)
    (moves_under (λ ts h. h) (transfers_of m.lock) (transfers_of m.lock) c.deref_mut.result.now c.args.self.now.moves c.hear_rows.new.moves ms refl was moves (c.in_err-hear_rows.ensures.same (transfers_of m.lock))))
