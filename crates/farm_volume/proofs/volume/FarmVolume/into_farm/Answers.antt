-- All of a volume's shelves go back.
use Rattle.std.proofs.Common.{◌≡◌, ◌+◌, subst, sym, true, length, List, ℕ}
use Rattle.blob_node.specs.Station.{StationOver}
use Rattle.farm_volume.specs.Lending.{AreOut, Returns, ReturnsLog}
use Rattle.farm_volume.specs.FarmVolume.{IsBack, VolumeOver}
use Rattle.farm_volume.proofs.WholeVolumes.{stations_out, log_out, volume_back}
use Rattle.farm_volume.proofs.volume.FarmVolume.into_farm.Goals as goal

pub return_stations-requires-clause-out : goal.return_stations-requires-clause-out
return_stations-requires-clause-out g c =
    let farm = g.F.Farm.seen c.args.farm.now in
    let volume : VolumeOver g.row.F-Disk.Denot g.row.F-Disk-File.Denot = record { manager = c.self.inside.manager; world = c.self.inside.world } in
    let out : AreOut volume.world.vid 0 (volume.world.shape.disks + 1) farm =
    subst (λ (v : VolumeOver g.row.F-Disk.Denot g.row.F-Disk-File.Denot). AreOut v.world.vid 0 (v.world.shape.disks + 1) farm) (sym c.self.view_is) c.requires in
    subst (λ n. AreOut n 1 (length c.into_parts-stations.result.0.items) farm) (sym c.vid-vid.ensures)
    (subst (λ (ss : List (StationOver g.row.F-Disk.Denot g.row.F-Disk-File.Denot)). AreOut volume.world.vid 1 (length ss) farm) (sym c.into_parts-stations.ensures.stations)
    (stations_out g.F.Disk.Shelf.seen g.F.Disk.File.Extent.seen volume c.into_parts-stations.ensures.world farm farm farm out))

pub return_log-requires-clause-shelf : goal.return_log-requires-clause-shelf
return_log-requires-clause-shelf g c =
    let farm = g.F.Farm.seen c.args.farm.now in
    let mid = g.F.Farm.seen c.return_stations.new.farm in
    let volume : VolumeOver g.row.F-Disk.Denot g.row.F-Disk-File.Denot = record { manager = c.self.inside.manager; world = c.self.inside.world } in
    let out : AreOut volume.world.vid 0 (volume.world.shape.disks + 1) farm =
    subst (λ (v : VolumeOver g.row.F-Disk.Denot g.row.F-Disk-File.Denot). AreOut v.world.vid 0 (v.world.shape.disks + 1) farm) (sym c.self.view_is) c.requires in
    let rest : Returns g.F.Disk.Shelf.seen g.F.Disk.File.Extent.seen volume.world.vid 1 volume.world.stations farm mid =
    subst (λ (n : ℕ). Returns g.F.Disk.Shelf.seen g.F.Disk.File.Extent.seen n 1 volume.world.stations farm mid) c.vid-vid.ensures
    (subst (λ (ss : List (StationOver g.row.F-Disk.Denot g.row.F-Disk-File.Denot)). Returns g.F.Disk.Shelf.seen g.F.Disk.File.Extent.seen c.vid-vid.result 1 ss farm mid) c.into_parts-stations.ensures.stations
    c.return_stations.ensures) in
    subst (λ (n : ℕ). mid.is_out 0 n ≡ true) (sym c.vid-vid.ensures)
    (log_out g.F.Disk.Shelf.seen g.F.Disk.File.Extent.seen volume c.into_parts-stations.ensures.world farm mid mid out rest)

pub returns-clause-back : goal.returns-clause-back
returns-clause-back g c =
    let farm = g.F.Farm.seen c.args.farm.now in
    let mid = g.F.Farm.seen c.return_stations.new.farm in
    let new = g.F.Farm.seen c.return_log.new.farm in
    let volume : VolumeOver g.row.F-Disk.Denot g.row.F-Disk-File.Denot = record { manager = c.self.inside.manager; world = c.self.inside.world } in
    let rest : Returns g.F.Disk.Shelf.seen g.F.Disk.File.Extent.seen volume.world.vid 1 volume.world.stations farm mid =
    subst (λ (n : ℕ). Returns g.F.Disk.Shelf.seen g.F.Disk.File.Extent.seen n 1 volume.world.stations farm mid) c.vid-vid.ensures
    (subst (λ (ss : List (StationOver g.row.F-Disk.Denot g.row.F-Disk-File.Denot)). Returns g.F.Disk.Shelf.seen g.F.Disk.File.Extent.seen c.vid-vid.result 1 ss farm mid) c.into_parts-stations.ensures.stations
    c.return_stations.ensures) in
    let log : ReturnsLog g.F.Disk.Shelf.seen g.F.Disk.File.Extent.seen volume.world.vid volume.manager volume.world.entry.book.log.file mid new =
    subst (λ (n : ℕ). ReturnsLog g.F.Disk.Shelf.seen g.F.Disk.File.Extent.seen n volume.manager volume.world.entry.book.log.file mid new) c.vid-vid.ensures
    (subst (λ (f : g.row.F-Disk-File.Denot). ReturnsLog g.F.Disk.Shelf.seen g.F.Disk.File.Extent.seen c.vid-vid.result volume.manager f mid new) c.into_parts-stations.ensures.file c.return_log.ensures) in
    subst (λ (v : VolumeOver g.row.F-Disk.Denot g.row.F-Disk-File.Denot). IsBack g.F.Disk.Shelf.seen g.F.Disk.File.Extent.seen v farm new) c.self.view_is
    (volume_back g.F.Disk.Shelf.seen g.F.Disk.File.Extent.seen volume c.into_parts-stations.ensures.world farm mid new rest log)
