-- Each way through a request.
use Rattle.std.proofs.Common.{◌≡◌, ◌∙◌, sym, ap, subst, None, Ok, nat_lt, is_some}
use Rattle.std.specs.Prelude.{◌||◌}
use Rattle.unit_id.specs.UnitName.{Name, IsName, packed}
use Rattle.unit_id.specs.Messages.{vid_of}
use Rattle.unit_id.specs.declared.answer.Answer.TheVariants as answers
use Rattle.unit_id.proofs.Bools.{or_none}
use Rattle.blob_node.specs.HeldUnit.{name_of, disk_of}
use Rattle.blob_node.specs.UnitTable.{Entries, at_word, unit_at, knows_released, greatest_of, AreNamed, ServesIn}
use Rattle.blob_node.specs.Station.{StationOver, StationCall, Handled, Created, Outlasts}
use Rattle.blob_node.proofs.Tables.{some_set}
use Rattle.blob_node.proofs.Serving.{station_of, serve_handles, serve_call}
use Rattle.blob_node.proofs.Handling.{broken, stale, no_unit, created, not_less, serve_moments}
use Rattle.blob_node.proofs.Lasting.{lasts_replaced}
use Rattle.blob_node.proofs.station.Station.handle.Goals as goal

pub returns-then-self-clause-told : goal.returns-then-self-clause-told
returns-then-self-clause-told g c =
    subst (λ (s : StationOver g.row.H.Denot g.row.H-File.Denot). Handled g.H.Shelf.seen g.H.File.Extent.seen c.args.request.now None (Ok answers.Broken) s s) c.self.view_is
    (broken g.H.Shelf.seen g.H.File.Extent.seen c.args.request.now (station_of c.self.inside.shelf c.self.inside.disk c.self.inside.is_broken c.self.inside.units) c.if-self.true)

pub returns-then-is_stale-clause-told : goal.returns-then-is_stale-clause-told
returns-then-is_stale-clause-told g c =
    let seen = g.H.File.Extent.seen in
    let sees = g.H.Shelf.seen in
    let request = c.args.request.now in
    let station : StationOver g.row.H.Denot g.row.H-File.Denot = station_of c.self.inside.shelf c.self.inside.disk c.self.inside.is_broken c.self.inside.units in
    let is : c.unit_of-unit.result ≡ name_of request = c.unit_of-unit.ensures in
    let name : IsName (name_of request) = subst IsName (c.unit.view_is ∙ is) c.unit.invariant in
    let own : vid_of request ≡ station.vid = c.requires.vid ∙ ap (λ (s : StationOver g.row.H.Denot g.row.H-File.Denot). s.vid) (sym c.self.view_is) in
    let at : disk_of request ≡ station.disk = c.requires.disk ∙ ap (λ (s : StationOver g.row.H.Denot g.row.H-File.Denot). s.disk) (sym c.self.view_is) in
    let named : AreNamed station.vid station.units = c.greatest-have.ensures.named in
    let test : c.is_stale.result ≡ nat_lt (name_of request).epoch (greatest_of station.units (name_of request).index) || knows_released (unit_at station.units (name_of request)) =
    c.is_stale.ensures ∙ ap (λ (n : Name). nat_lt n.epoch (greatest_of station.units n.index) || knows_released (unit_at station.units n)) is in
    let have_is : c.greatest-have.result ≡ greatest_of station.units (name_of request).index = c.greatest-have.ensures.epoch ∙ ap (λ (n : Name). greatest_of station.units n.index) (c.unit.view_is ∙ is) in
    subst (λ (s : StationOver g.row.H.Denot g.row.H-File.Denot). Handled sees seen request None (Ok (answers.Stale c.greatest-have.result)) s s) c.self.view_is
    (subst (λ h. Handled sees seen request None (Ok (answers.Stale h)) station station) (sym have_is)
    (stale sees seen request station named name own at c.if-self.false (sym test ∙ c.if-is_stale.true)))

pub returns-then-is_create-clause-told : goal.returns-then-is_create-clause-told
returns-then-is_create-clause-told g c =
    let seen = g.H.File.Extent.seen in
    let sees = g.H.Shelf.seen in
    let request = c.args.request.now in
    let station : StationOver g.row.H.Denot g.row.H-File.Denot = station_of c.self.inside.shelf c.self.inside.disk c.self.inside.is_broken c.self.inside.units in
    let is : c.unit_of-unit.result ≡ name_of request = c.unit_of-unit.ensures in
    let name : IsName (name_of request) = subst IsName (c.unit.view_is ∙ is) c.unit.invariant in
    let own : vid_of request ≡ station.vid = c.requires.vid ∙ ap (λ (s : StationOver g.row.H.Denot g.row.H-File.Denot). s.vid) (sym c.self.view_is) in
    let at : disk_of request ≡ station.disk = c.requires.disk ∙ ap (λ (s : StationOver g.row.H.Denot g.row.H-File.Denot). s.disk) (sym c.self.view_is) in
    let named : AreNamed station.vid station.units = c.greatest-have.ensures.named in
    let test : c.is_stale.result ≡ nat_lt (name_of request).epoch (greatest_of station.units (name_of request).index) || knows_released (unit_at station.units (name_of request)) =
    c.is_stale.ensures ∙ ap (λ (n : Name). nat_lt n.epoch (greatest_of station.units n.index) || knows_released (unit_at station.units n)) is in
    let made : Created sees seen (name_of request) c.create.result c.args.self.now c.create.new.self = subst (λ (n : Name). Created sees seen n c.create.result c.args.self.now c.create.new.self) is c.create.ensures.told in
    subst (λ (s : StationOver g.row.H.Denot g.row.H-File.Denot). Handled sees seen request None c.create.result s c.create.new.self) c.self.view_is
    (created sees seen request station named name own at c.if-self.false (sym test ∙ c.if-is_stale.false) (sym c.is_create.ensures ∙ c.if-is_create.true) c.create.new.self c.create.result
    (subst (λ (s : StationOver g.row.H.Denot g.row.H-File.Denot). Created sees seen (name_of request) c.create.result s c.create.new.self) (sym c.self.view_is) made))

pub returns-then-not-has-clause-told : goal.returns-then-not-has-clause-told
returns-then-not-has-clause-told g c =
    let seen = g.H.File.Extent.seen in
    let sees = g.H.Shelf.seen in
    let request = c.args.request.now in
    let station : StationOver g.row.H.Denot g.row.H-File.Denot = station_of c.self.inside.shelf c.self.inside.disk c.self.inside.is_broken c.self.inside.units in
    let is : c.unit_of-unit.result ≡ name_of request = c.unit_of-unit.ensures in
    let name : IsName (name_of request) = subst IsName (c.unit.view_is ∙ is) c.unit.invariant in
    let own : vid_of request ≡ station.vid = c.requires.vid ∙ ap (λ (s : StationOver g.row.H.Denot g.row.H-File.Denot). s.vid) (sym c.self.view_is) in
    let at : disk_of request ≡ station.disk = c.requires.disk ∙ ap (λ (s : StationOver g.row.H.Denot g.row.H-File.Denot). s.disk) (sym c.self.view_is) in
    let named : AreNamed station.vid station.units = c.greatest-have.ensures.named in
    let test : c.is_stale.result ≡ nat_lt (name_of request).epoch (greatest_of station.units (name_of request).index) || knows_released (unit_at station.units (name_of request)) =
    c.is_stale.ensures ∙ ap (λ (n : Name). nat_lt n.epoch (greatest_of station.units n.index) || knows_released (unit_at station.units n)) is in
    subst (λ (s : StationOver g.row.H.Denot g.row.H-File.Denot). Handled sees seen request None (Ok answers.NoUnit) s s) c.self.view_is
    (no_unit sees seen request station named name own at c.if-self.false (sym test ∙ c.if-is_stale.false) (sym c.is_create.ensures ∙ c.if-is_create.false)
    (sym (c.has.ensures ∙ ap (λ (n : Name). is_some (unit_at station.units n)) is) ∙ c.if-not-has.true))

pub invariant_of-self : goal.invariant_of-self
invariant_of-self g c = λ word.
    let r = c.serve.ensures.replaces in
    c.self.invariant word
    ∙ sym (ap (λ (es : Entries g.row.H-File.Denot). is_some (at_word word es)) r.units ∙ some_set c.self.inside.units.units (packed c.unit_of-unit.result) c.serve.ensures.was c.serve.ensures.now r.found word)

pub returns-clause-call : goal.returns-clause-call
returns-clause-call g c =
    let after = c.serve.new.self in
    subst (λ (s : StationOver g.row.H.Denot g.row.H-File.Denot). StationCall g.H.Shelf.seen g.H.File.Extent.seen s (station_of c.self.inside.shelf c.self.inside.disk c.self.inside.is_broken after) c.serve.result.1) c.self.view_is
    (subst (λ b. StationCall g.H.Shelf.seen g.H.File.Extent.seen (station_of c.self.inside.shelf c.self.inside.disk b c.self.inside.units) (station_of c.self.inside.shelf c.self.inside.disk b after) c.serve.result.1) (sym c.if-self.false)
    (serve_call g.H.Shelf.seen g.H.File.Extent.seen c.self.inside.shelf c.self.inside.disk c.self.inside.units after (packed c.unit_of-unit.result) c.args.request.now c.greatest-have.result c.serve.result.0 c.serve.result.1 c.serve.ensures))

pub returns-clause-told : goal.returns-clause-told
returns-clause-told g c =
    let seen = g.H.File.Extent.seen in
    let sees = g.H.Shelf.seen in
    let request = c.args.request.now in
    let station : StationOver g.row.H.Denot g.row.H-File.Denot = station_of c.self.inside.shelf c.self.inside.disk c.self.inside.is_broken c.self.inside.units in
    let is : c.unit_of-unit.result ≡ name_of request = c.unit_of-unit.ensures in
    let name : IsName (name_of request) = subst IsName (c.unit.view_is ∙ is) c.unit.invariant in
    let own : vid_of request ≡ station.vid = c.requires.vid ∙ ap (λ (s : StationOver g.row.H.Denot g.row.H-File.Denot). s.vid) (sym c.self.view_is) in
    let at : disk_of request ≡ station.disk = c.requires.disk ∙ ap (λ (s : StationOver g.row.H.Denot g.row.H-File.Denot). s.disk) (sym c.self.view_is) in
    let named : AreNamed station.vid station.units = c.greatest-have.ensures.named in
    let test : c.is_stale.result ≡ nat_lt (name_of request).epoch (greatest_of station.units (name_of request).index) || knows_released (unit_at station.units (name_of request)) =
    c.is_stale.ensures ∙ ap (λ (n : Name). nat_lt n.epoch (greatest_of station.units n.index) || knows_released (unit_at station.units n)) is in
    let have_is : c.greatest-have.result ≡ greatest_of station.units (name_of request).index = c.greatest-have.ensures.epoch ∙ ap (λ (n : Name). greatest_of station.units n.index) (c.unit.view_is ∙ is) in
    let after = c.serve.new.self in
    let both = or_none (nat_lt (name_of request).epoch (greatest_of station.units (name_of request).index)) (knows_released (unit_at station.units (name_of request))) (sym test ∙ c.if-is_stale.false) in
    let serves = subst (λ (n : Name). ServesIn seen (packed n) request c.greatest-have.result c.self.inside.units after c.serve.result.0 c.serve.result.1) is c.serve.ensures in
    subst (λ (s : StationOver g.row.H.Denot g.row.H-File.Denot). Handled sees seen request c.serve.result.0 c.serve.result.1 s (station_of c.self.inside.shelf c.self.inside.disk c.self.inside.is_broken after)) c.self.view_is
    (subst (λ b. Handled sees seen request c.serve.result.0 c.serve.result.1 (station_of c.self.inside.shelf c.self.inside.disk b c.self.inside.units) (station_of c.self.inside.shelf c.self.inside.disk b after)) (sym c.if-self.false)
    (serve_handles sees seen c.self.inside.shelf c.self.inside.disk c.self.inside.units after request c.greatest-have.result c.serve.result.0 c.serve.result.1 named name own at (sym c.is_create.ensures ∙ c.if-is_create.false) have_is
    (not_less c.greatest-have.result (name_of request).epoch (greatest_of station.units (name_of request).index) have_is both.0) both.1
    serves (serve_moments sees seen c.self.inside.shelf c.self.inside.disk c.self.inside.units after request c.greatest-have.result c.serve.result.0 c.serve.result.1 named name own at (sym c.is_create.ensures ∙ c.if-is_create.false) have_is
    (not_less c.greatest-have.result (name_of request).epoch (greatest_of station.units (name_of request).index) have_is both.0) both.1 serves (g.met.H.File.Extent.is_file serves.now.chunk.log.file))))

pub returns-clause-lasts : goal.returns-clause-lasts
returns-clause-lasts g c =
    subst (λ (s : StationOver g.row.H.Denot g.row.H-File.Denot). Outlasts g.H.Shelf.seen g.H.File.Extent.seen s (station_of c.self.inside.shelf c.self.inside.disk c.self.inside.is_broken c.serve.new.self)) c.self.view_is
    (lasts_replaced g.H.Shelf.seen g.H.File.Extent.seen c.self.inside.shelf c.self.inside.disk c.self.inside.is_broken c.self.inside.units c.serve.new.self (packed c.unit_of-unit.result) c.serve.ensures.was c.serve.ensures.now c.serve.ensures.replaces c.serve.ensures.call.lasts)
