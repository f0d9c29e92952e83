-- The unit that is asked, or that there is none, tells of its doubt.
use Rattle.std.proofs.Common.{◌≡◌, ◌∙◌, ◌+◌, ◌-◌, sym, ap, subst, false, None, Some}
use Rattle.std.specs.Option.{option_copied}
use Rattle.unit_id.specs.UnitName.{IsName}
use Rattle.unit_id.specs.Messages.{vid_of}
use Rattle.blob_node.specs.HeldUnit.{name_of, disk_of}
use Rattle.blob_node.specs.UnitTable.{unit_at}
use Rattle.volume_world.specs.Stations.{StationsOver, HasDisk, TellsDoubt}
use Rattle.volume_world.proofs.StationsFrame.{place_in, place_is, in_doubt, tells_doubt}
use Rattle.volume_world.proofs.stations.Stations.is_in_doubt.Goals as goal

pub returns-in-Some : goal.returns-in-Some
returns-in-Some g c =
    let items = c.self.inside.kept.items in
    let disk = c.disk_of.result in
    let has : HasDisk items disk = subst (λ d. HasDisk items d) (sym c.disk_of.ensures) (subst (λ (s : StationsOver g.row.H.Denot g.row.H-File.Denot). HasDisk s.stations (disk_of c.args.request.now)) (sym c.self.view_is) c.requires.disk) in
    let asked : disk_of c.args.request.now ≡ 1 + (disk - 1) = sym c.disk_of.ensures ∙ place_is items disk has in
    let own : vid_of c.args.request.now ≡ c.self.inside.vid = c.requires.vid ∙ ap (λ (s : StationsOver g.row.H.Denot g.row.H-File.Denot). s.vid) (sym c.self.view_is) in
    let is : c.unit_of-name.result ≡ name_of c.args.request.now = c.unit_of-name.ensures in
    let name : IsName (name_of c.args.request.now) = subst IsName (c.name.view_is ∙ is) c.name.invariant in
    let tells : TellsDoubt g.H.Shelf.seen g.H.File.Extent.seen c.args.request.now items (in_doubt g.H.Shelf.seen g.H.File.Extent.seen (unit_at c.index.result.now.units (name_of c.args.request.now))) =
    tells_doubt g.H.Shelf.seen g.H.File.Extent.seen c.self.inside.vid (disk - 1) items c.index.result.now c.args.request.now c.self.invariant.on (place_in items disk has) c.index.ensures asked own name in
    let found : unit_at c.index.result.now.units (name_of c.args.request.now) ≡ Some c.in-Some.unit.now =
    ap (unit_at c.index.result.now.units) (sym is) ∙ sym c.unit.ensures ∙ ap option_copied c.in-Some.is in
    subst (λ (s : StationsOver g.row.H.Denot g.row.H-File.Denot). TellsDoubt g.H.Shelf.seen g.H.File.Extent.seen c.args.request.now s.stations c.is_in_doubt.result) c.self.view_is
    (subst (TellsDoubt g.H.Shelf.seen g.H.File.Extent.seen c.args.request.now items) (ap (in_doubt g.H.Shelf.seen g.H.File.Extent.seen) found ∙ sym c.is_in_doubt.ensures) tells)

pub returns-in-None : goal.returns-in-None
returns-in-None g c =
    let items = c.self.inside.kept.items in
    let disk = c.disk_of.result in
    let has : HasDisk items disk = subst (λ d. HasDisk items d) (sym c.disk_of.ensures) (subst (λ (s : StationsOver g.row.H.Denot g.row.H-File.Denot). HasDisk s.stations (disk_of c.args.request.now)) (sym c.self.view_is) c.requires.disk) in
    let asked : disk_of c.args.request.now ≡ 1 + (disk - 1) = sym c.disk_of.ensures ∙ place_is items disk has in
    let own : vid_of c.args.request.now ≡ c.self.inside.vid = c.requires.vid ∙ ap (λ (s : StationsOver g.row.H.Denot g.row.H-File.Denot). s.vid) (sym c.self.view_is) in
    let is : c.unit_of-name.result ≡ name_of c.args.request.now = c.unit_of-name.ensures in
    let name : IsName (name_of c.args.request.now) = subst IsName (c.name.view_is ∙ is) c.name.invariant in
    let tells : TellsDoubt g.H.Shelf.seen g.H.File.Extent.seen c.args.request.now items (in_doubt g.H.Shelf.seen g.H.File.Extent.seen (unit_at c.index.result.now.units (name_of c.args.request.now))) =
    tells_doubt g.H.Shelf.seen g.H.File.Extent.seen c.self.inside.vid (disk - 1) items c.index.result.now c.args.request.now c.self.invariant.on (place_in items disk has) c.index.ensures asked own name in
    let found : unit_at c.index.result.now.units (name_of c.args.request.now) ≡ None =
    ap (unit_at c.index.result.now.units) (sym is) ∙ sym c.unit.ensures ∙ ap option_copied c.in-None.is in
    subst (λ (s : StationsOver g.row.H.Denot g.row.H-File.Denot). TellsDoubt g.H.Shelf.seen g.H.File.Extent.seen c.args.request.now s.stations false) c.self.view_is
    (subst (TellsDoubt g.H.Shelf.seen g.H.File.Extent.seen c.args.request.now items) (ap (in_doubt g.H.Shelf.seen g.H.File.Extent.seen) found) tells)
