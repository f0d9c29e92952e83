-- A unit is there already, is made, or isn't.
use Rattle.std.proofs.Common.{◌∙◌, ◌++◌, ◌∷◌, [], sym, ap, subst, rules, Ok}
use Rattle.std.specs.Prelude.{IsErr}
use Rattle.unit_id.specs.UnitName.{packed}
use Rattle.unit_id.specs.declared.answer.Answer.TheVariants as answers
use Rattle.blob_node.specs.HeldUnit.{UnitOver}
use Rattle.blob_node.specs.UnitTable.{Entries}
use Rattle.blob_node.specs.Station.{StationOver, Created, Outlasts}
use Rattle.blob_node.proofs.Serving.{station_of}
use Rattle.blob_node.proofs.Creating.{already, no_room, made, made_out, not_created}
use Rattle.blob_node.proofs.Lasting.{lasts_made}
use Rattle.blob_node.proofs.station.Station.create.Goals as goal

pub returns-then-has-clause-told : goal.returns-then-has-clause-told
returns-then-has-clause-told g c =
    subst (λ (s : StationOver g.row.H.Denot g.row.H-File.Denot). Created g.H.Shelf.seen g.H.File.Extent.seen c.args.unit (Ok answers.Already) s s) c.self.view_is
    (already g.H.Shelf.seen g.H.File.Extent.seen c.self.inside.shelf c.self.inside.disk c.self.inside.is_broken c.self.inside.units c.args.unit c.requires.name
    (c.requires.vid ∙ ap (λ (s : StationOver g.row.H.Denot g.row.H-File.Denot). s.vid) (sym c.self.view_is)) (sym c.has.ensures ∙ c.if-has.true))

pub invariant_of-self-in-Ok : goal.invariant_of-self-in-Ok
invariant_of-self-in-Ok g c =
    let parts = c.over.ensures.parts in
    let named = ap (λ (u : UnitOver g.row.H-File.Denot). packed u.chunk.unit) parts ∙ ap packed c.in-Ok.ensures.starts.0 in
    made_out g.H.Shelf.seen g.H.File.Extent.seen c.self.inside.shelf c.self.inside.disk c.self.inside.is_broken c.self.inside.units c.args.unit c.requires.name
    (c.requires.vid ∙ ap (λ (s : StationOver g.row.H.Denot g.row.H-File.Denot). s.vid) (sym c.self.view_is)) (sym c.has.ensures ∙ c.if-has.false)
    c.new_chunk.new.shelf c.add.new.self c.in-Ok.chunk c.over.result c.in-Ok.ensures.starts (c.add.ensures.vid ∙ c.reserve.ensures.vid) parts
    (c.add.ensures.units ∙ ap (λ (es : Entries g.row.H-File.Denot). es ++ (packed c.over.result.chunk.unit, c.over.result) ∷ []) c.reserve.ensures.units ∙ ap (λ w. c.self.inside.units.units ++ (w, c.over.result) ∷ []) named)
    c.over.ensures.fresh c.self.invariant

pub returns-in-Ok-clause-told : goal.returns-in-Ok-clause-told
returns-in-Ok-clause-told g c =
    let parts = c.over.ensures.parts in
    let named = ap (λ (u : UnitOver g.row.H-File.Denot). packed u.chunk.unit) parts ∙ ap packed c.in-Ok.ensures.starts.0 in
    subst (λ (s : StationOver g.row.H.Denot g.row.H-File.Denot). Created g.H.Shelf.seen g.H.File.Extent.seen c.args.unit (Ok answers.Done) s (station_of c.new_chunk.new.shelf c.self.inside.disk c.self.inside.is_broken c.add.new.self)) c.self.view_is
    (made g.H.Shelf.seen g.H.File.Extent.seen c.self.inside.shelf c.self.inside.disk c.self.inside.is_broken c.self.inside.units c.args.unit c.requires.name
    (c.requires.vid ∙ ap (λ (s : StationOver g.row.H.Denot g.row.H-File.Denot). s.vid) (sym c.self.view_is)) (sym c.has.ensures ∙ c.if-has.false)
    c.new_chunk.new.shelf c.add.new.self c.in-Ok.chunk c.over.result c.in-Ok.ensures.starts (c.add.ensures.vid ∙ c.reserve.ensures.vid) parts
    (c.add.ensures.units ∙ ap (λ (es : Entries g.row.H-File.Denot). es ++ (packed c.over.result.chunk.unit, c.over.result) ∷ []) c.reserve.ensures.units ∙ ap (λ w. c.self.inside.units.units ++ (w, c.over.result) ∷ []) named)
    c.over.ensures.fresh c.in-Ok.ensures.moments)

pub returns-in-Err-clause-told : goal.returns-in-Err-clause-told
returns-in-Err-clause-told g c =
    subst (λ (s : StationOver g.row.H.Denot g.row.H-File.Denot). Created g.H.Shelf.seen g.H.File.Extent.seen c.args.unit c.refusal.result s (station_of c.new_chunk.new.shelf c.self.inside.disk c.self.inside.is_broken c.reserve.new.self)) c.self.view_is
    (not_created g.H.Shelf.seen g.H.File.Extent.seen c.self.inside.shelf c.self.inside.disk c.self.inside.is_broken c.self.inside.units c.args.unit c.requires.name
    (c.requires.vid ∙ ap (λ (s : StationOver g.row.H.Denot g.row.H-File.Denot). s.vid) (sym c.self.view_is)) (sym c.has.ensures ∙ c.if-has.false)
    c.new_chunk.new.shelf c.reserve.new.self c.in-Err.fault c.refusal.result c.in-Err.ensures.starts c.reserve.ensures.vid c.reserve.ensures.units c.refusal.ensures c.in-Err.ensures.moments)

pub returns-in-Ok-clause-lasts : goal.returns-in-Ok-clause-lasts
returns-in-Ok-clause-lasts g c =
    subst (λ (s : StationOver g.row.H.Denot g.row.H-File.Denot). Outlasts g.H.Shelf.seen g.H.File.Extent.seen s (station_of c.new_chunk.new.shelf c.self.inside.disk c.self.inside.is_broken c.add.new.self)) c.self.view_is
    (lasts_made g.H.Shelf.seen g.H.File.Extent.seen c.self.inside.shelf c.new_chunk.new.shelf c.self.inside.disk c.self.inside.is_broken c.self.inside.units c.add.new.self c.args.unit c.in-Ok.chunk c.over.result c.in-Ok.ensures.starts
    (ap (λ (u : UnitOver g.row.H-File.Denot). u.chunk) c.over.ensures.parts) (packed c.over.result.chunk.unit)
    (c.add.ensures.units ∙ ap (λ (es : Entries g.row.H-File.Denot). es ++ (packed c.over.result.chunk.unit, c.over.result) ∷ []) c.reserve.ensures.units))

pub returns-in_err-reserve-clause-told : goal.returns-in_err-reserve-clause-told
returns-in_err-reserve-clause-told g c =
    let is : IsErr c.from_residual.result = search rules in
    subst (λ (s : StationOver g.row.H.Denot g.row.H-File.Denot). Created g.H.Shelf.seen g.H.File.Extent.seen c.args.unit c.from_residual.result s (station_of c.self.inside.shelf c.self.inside.disk c.self.inside.is_broken c.reserve.new.self)) c.self.view_is
    (no_room g.H.Shelf.seen g.H.File.Extent.seen c.self.inside.shelf c.self.inside.disk c.self.inside.is_broken c.self.inside.units c.args.unit c.requires.name
    (c.requires.vid ∙ ap (λ (s : StationOver g.row.H.Denot g.row.H-File.Denot). s.vid) (sym c.self.view_is)) c.reserve.new.self c.reserve.ensures.vid c.reserve.ensures.units c.from_residual.result is)
