-- The station of the disk that is asked answers for all.
use Rattle.std.proofs.Common.{◌≡◌, ◌∙◌, ◌+◌, ◌-◌, set, sym, ap, subst, false, None, Ok}
use Rattle.unit_id.specs.declared.answer.Answer.TheVariants as answers
use Rattle.blob_node.specs.HeldUnit.{disk_of}
use Rattle.volume_world.specs.Stations.{StationsOver, HasDisk, StationsCall, Handled, AllOutlast}
use Rattle.volume_world.proofs.StationsLasting.{all_last, set_lasts}
use Rattle.volume_world.proofs.StationsFrame.{on_at, place_in, place_is, broken_on_disk, set_are, call_all, handled_all, broken_all}
use Rattle.volume_world.proofs.stations.Stations.handle.Goals as goal

pub returns-then-is_broken-clause-told : goal.returns-then-is_broken-clause-told
returns-then-is_broken-clause-told g c =
    let items = c.self.inside.kept.items in
    let disk = c.disk_of.result in
    let has : HasDisk items disk = subst (λ d. HasDisk items d) (sym c.disk_of.ensures) (subst (λ (s : StationsOver g.row.H.Denot g.row.H-File.Denot). HasDisk s.stations (disk_of c.args.request.now)) (sym c.self.view_is) c.requires.disk) in
    let asked : disk_of c.args.request.now ≡ 1 + (disk - 1) = sym c.disk_of.ensures ∙ place_is items disk has in
    let was = c.index.result.now in
    subst (λ (s : StationsOver g.row.H.Denot g.row.H-File.Denot). Handled g.H.Shelf.seen g.H.File.Extent.seen c.args.request.now None (Ok answers.Broken) s.stations s.stations) c.self.view_is
    (broken_all g.H.Shelf.seen g.H.File.Extent.seen c.self.inside.vid (disk - 1) items was was c.args.request.now c.self.invariant.on (place_in items disk has) c.index.ensures asked (sym c.is_broken.ensures ∙ c.if-is_broken.true))

pub handle-requires-clause-vid : goal.handle-requires-clause-vid
handle-requires-clause-vid g c =
    let items = c.self.inside.kept.items in
    let disk = c.disk_of.result in
    let has : HasDisk items disk = subst (λ d. HasDisk items d) (sym c.disk_of.ensures) (subst (λ (s : StationsOver g.row.H.Denot g.row.H-File.Denot). HasDisk s.stations (disk_of c.args.request.now)) (sym c.self.view_is) c.requires.disk) in
    c.requires.vid ∙ ap (λ (s : StationsOver g.row.H.Denot g.row.H-File.Denot). s.vid) (sym c.self.view_is)
    ∙ sym (on_at c.self.inside.vid 1 (disk - 1) items c.index_mut-station.result.now c.self.invariant.on (place_in items disk has) c.index_mut-station.ensures.value).0

pub handle-requires-clause-disk : goal.handle-requires-clause-disk
handle-requires-clause-disk g c =
    let items = c.self.inside.kept.items in
    let disk = c.disk_of.result in
    let has : HasDisk items disk = subst (λ d. HasDisk items d) (sym c.disk_of.ensures) (subst (λ (s : StationsOver g.row.H.Denot g.row.H-File.Denot). HasDisk s.stations (disk_of c.args.request.now)) (sym c.self.view_is) c.requires.disk) in
    let asked : disk_of c.args.request.now ≡ 1 + (disk - 1) = sym c.disk_of.ensures ∙ place_is items disk has in
    asked ∙ sym (on_at c.self.inside.vid 1 (disk - 1) items c.index_mut-station.result.now c.self.invariant.on (place_in items disk has) c.index_mut-station.ensures.value).1

pub invariant_of-self : goal.invariant_of-self
invariant_of-self g c =
    let items = c.self.inside.kept.items in
    let disk = c.disk_of.result in
    let has : HasDisk items disk = subst (λ d. HasDisk items d) (sym c.disk_of.ensures) (subst (λ (s : StationsOver g.row.H.Denot g.row.H-File.Denot). HasDisk s.stations (disk_of c.args.request.now)) (sym c.self.view_is) c.requires.disk) in
    set_are g.H.Shelf.seen g.H.File.Extent.seen c.self.inside.vid (disk - 1) items c.index_mut-station.result.now c.handle.new.self c.self.invariant (place_in items disk has) c.index_mut-station.ensures.value
    c.handle.ensures.call.vid c.handle.ensures.call.disk

pub returns-clause-call : goal.returns-clause-call
returns-clause-call g c =
    let items = c.self.inside.kept.items in
    let disk = c.disk_of.result in
    let has : HasDisk items disk = subst (λ d. HasDisk items d) (sym c.disk_of.ensures) (subst (λ (s : StationsOver g.row.H.Denot g.row.H-File.Denot). HasDisk s.stations (disk_of c.args.request.now)) (sym c.self.view_is) c.requires.disk) in
    subst (λ (s : StationsOver g.row.H.Denot g.row.H-File.Denot). StationsCall g.H.Shelf.seen g.H.File.Extent.seen s (record { vid = c.self.inside.vid; stations = set items (disk - 1) c.handle.new.self }) c.handle.result.1) c.self.view_is
    (call_all g.H.Shelf.seen g.H.File.Extent.seen c.self.inside.vid (disk - 1) items c.index_mut-station.result.now c.handle.new.self c.handle.result.1 (place_in items disk has) c.index_mut-station.ensures.value c.handle.ensures.call)

pub returns-clause-told : goal.returns-clause-told
returns-clause-told g c =
    let items = c.self.inside.kept.items in
    let disk = c.disk_of.result in
    let has : HasDisk items disk = subst (λ d. HasDisk items d) (sym c.disk_of.ensures) (subst (λ (s : StationsOver g.row.H.Denot g.row.H-File.Denot). HasDisk s.stations (disk_of c.args.request.now)) (sym c.self.view_is) c.requires.disk) in
    let asked : disk_of c.args.request.now ≡ 1 + (disk - 1) = sym c.disk_of.ensures ∙ place_is items disk has in
    let was = c.index_mut-station.result.now in
    let unbroken : was.is_broken ≡ false =
    sym (broken_on_disk c.self.inside.vid disk items was c.self.invariant.on has c.index_mut-station.ensures.value)
    ∙ broken_on_disk c.self.inside.vid disk items c.index.result.now c.self.invariant.on has c.index.ensures ∙ sym c.is_broken.ensures ∙ c.if-is_broken.false in
    subst (λ (s : StationsOver g.row.H.Denot g.row.H-File.Denot). Handled g.H.Shelf.seen g.H.File.Extent.seen c.args.request.now c.handle.result.0 c.handle.result.1 s.stations (set items (disk - 1) c.handle.new.self)) c.self.view_is
    (handled_all g.H.Shelf.seen g.H.File.Extent.seen c.self.inside.vid (disk - 1) items was c.handle.new.self c.args.request.now c.self.invariant.on (place_in items disk has) c.index_mut-station.ensures.value asked
    c.handle.result.0 c.handle.result.1 unbroken c.handle.ensures.told)

pub returns-clause-lasts : goal.returns-clause-lasts
returns-clause-lasts g c =
    let items = c.self.inside.kept.items in
    let disk = c.disk_of.result in
    let has : HasDisk items disk = subst (λ d. HasDisk items d) (sym c.disk_of.ensures) (subst (λ (s : StationsOver g.row.H.Denot g.row.H-File.Denot). HasDisk s.stations (disk_of c.args.request.now)) (sym c.self.view_is) c.requires.disk) in
    subst (λ (s : StationsOver g.row.H.Denot g.row.H-File.Denot). AllOutlast g.H.Shelf.seen g.H.File.Extent.seen s.stations (set items (disk - 1) c.handle.new.self)) c.self.view_is
    (set_lasts g.H.Shelf.seen g.H.File.Extent.seen (disk - 1) items c.index_mut-station.result.now c.handle.new.self (place_in items disk has) c.index_mut-station.ensures.value
    c.handle.ensures.call.vid c.handle.ensures.call.disk c.handle.ensures.lasts)

pub returns-then-is_broken-clause-lasts : goal.returns-then-is_broken-clause-lasts
returns-then-is_broken-clause-lasts g c =
    subst (λ (s : StationsOver g.row.H.Denot g.row.H-File.Denot). AllOutlast g.H.Shelf.seen g.H.File.Extent.seen s.stations s.stations) c.self.view_is
    (all_last g.H.Shelf.seen g.H.File.Extent.seen c.self.inside.kept.items)
