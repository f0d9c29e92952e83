-- A volume is made, or its shelves go back.
use Rattle.std.proofs.Common.{subst, sym, rules}
use Rattle.volume_world.specs.WorldMaking.{HandsBack, RefusedOver}
use Rattle.farm_volume.specs.FarmVolume.{VolumeOver}
use Rattle.farm_volume.specs.Making.{IsMade}
use Rattle.farm_volume.proofs.MadeVolumes.{no_log_told, no_stations, refused_on, refused_out, volume_made, no_volume}
use Rattle.farm_volume.proofs.volume.FarmVolume.make.Goals as goal

pub returns-in_err-manager : goal.returns-in_err-manager
returns-in_err-manager g c =
    no_log_told g.F.Disk.Shelf.seen g.F.Disk.File.Extent.seen c.args.vid c.args.mode c.args.disks c.args.homes.now (g.F.Farm.seen c.args.farm.now) c.requires (g.F.Farm.seen c.lend_log.new.farm) c.in_err-manager.field-0.0 c.in_err-manager.ensures
    c.from_residual.result (search rules)

pub returns-in-Err : goal.returns-in-Err
returns-in-Err g c =
    no_stations g.F.Disk.Shelf.seen g.F.Disk.File.Extent.seen c.args.vid c.args.mode c.args.disks c.args.homes.now (g.F.Farm.seen c.args.farm.now) c.requires c.in_ok-manager.manager c.in_ok-manager.file (g.F.Farm.seen c.lend_log.new.farm) c.in_ok-manager.ensures
    (g.F.Farm.seen c.lend_stations.new.farm) (g.F.Farm.seen c.return_log.new.farm) c.in-Err.fault c.in-Err.ensures c.return_log.ensures

pub return_stations-requires-clause-on : goal.return_stations-requires-clause-on
return_stations-requires-clause-on g c =
    let refused : RefusedOver g.row.F-Disk.Denot g.row.F-Disk-File.Denot = record { fault = c.refused.inside.fault; stations = c.refused.inside.stations.items; file = c.refused.inside.file } in
    let handed : HandsBack g.F.Disk.Shelf.seen g.F.Disk.File.Extent.seen c.args.vid c.args.mode c.in-Ok.stations.items c.in_ok-manager.file c.args.homes.now refused =
    subst (λ (r : RefusedOver g.row.F-Disk.Denot g.row.F-Disk-File.Denot). HandsBack g.F.Disk.Shelf.seen g.F.Disk.File.Extent.seen c.args.vid c.args.mode c.in-Ok.stations.items c.in_ok-manager.file c.args.homes.now r) (sym c.refused.view_is) c.in-Err-make.ensures in
    refused_on g.F.Disk.Shelf.seen g.F.Disk.File.Extent.seen c.args.vid c.args.mode c.args.disks c.args.homes.now (g.F.Farm.seen c.args.farm.now) c.requires c.in_ok-manager.manager c.in_ok-manager.file (g.F.Farm.seen c.lend_log.new.farm) c.in_ok-manager.ensures
    c.in-Ok.stations.items (g.F.Farm.seen c.lend_stations.new.farm) c.in-Ok.ensures.0 c.in-Ok.ensures.1 refused handed

pub return_stations-requires-clause-out : goal.return_stations-requires-clause-out
return_stations-requires-clause-out g c =
    let refused : RefusedOver g.row.F-Disk.Denot g.row.F-Disk-File.Denot = record { fault = c.refused.inside.fault; stations = c.refused.inside.stations.items; file = c.refused.inside.file } in
    let handed : HandsBack g.F.Disk.Shelf.seen g.F.Disk.File.Extent.seen c.args.vid c.args.mode c.in-Ok.stations.items c.in_ok-manager.file c.args.homes.now refused =
    subst (λ (r : RefusedOver g.row.F-Disk.Denot g.row.F-Disk-File.Denot). HandsBack g.F.Disk.Shelf.seen g.F.Disk.File.Extent.seen c.args.vid c.args.mode c.in-Ok.stations.items c.in_ok-manager.file c.args.homes.now r) (sym c.refused.view_is) c.in-Err-make.ensures in
    refused_out g.F.Disk.Shelf.seen g.F.Disk.File.Extent.seen c.args.vid c.args.mode c.args.disks c.args.homes.now (g.F.Farm.seen c.args.farm.now) c.requires c.in_ok-manager.manager c.in_ok-manager.file (g.F.Farm.seen c.lend_log.new.farm) c.in_ok-manager.ensures
    c.in-Ok.stations.items (g.F.Farm.seen c.lend_stations.new.farm) c.in-Ok.ensures.0 c.in-Ok.ensures.1 refused handed

pub returns-in-Ok-make : goal.returns-in-Ok-make
returns-in-Ok-make g c =
    subst (λ (v : VolumeOver g.row.F-Disk.Denot g.row.F-Disk-File.Denot). IsMade g.F.Disk.Shelf.seen g.F.Disk.File.Extent.seen c.args.vid c.args.mode c.args.disks c.args.homes.now (g.F.Farm.seen c.args.farm.now) (g.F.Farm.seen c.lend_stations.new.farm) v) (sym c.over.ensures)
    (volume_made g.F.Disk.Shelf.seen g.F.Disk.File.Extent.seen c.args.vid c.args.mode c.args.disks c.args.homes.now (g.F.Farm.seen c.args.farm.now) c.requires c.in_ok-manager.manager c.in_ok-manager.file (g.F.Farm.seen c.lend_log.new.farm) c.in_ok-manager.ensures
    c.in-Ok.stations.items (g.F.Farm.seen c.lend_stations.new.farm) c.in-Ok.ensures.0 c.in-Ok.ensures.1 c.in-Ok-make.world c.in-Ok-make.ensures)

pub returns-in-Err-make : goal.returns-in-Err-make
returns-in-Err-make g c =
    let refused : RefusedOver g.row.F-Disk.Denot g.row.F-Disk-File.Denot = record { fault = c.refused.inside.fault; stations = c.refused.inside.stations.items; file = c.refused.inside.file } in
    let handed : HandsBack g.F.Disk.Shelf.seen g.F.Disk.File.Extent.seen c.args.vid c.args.mode c.in-Ok.stations.items c.in_ok-manager.file c.args.homes.now refused =
    subst (λ (r : RefusedOver g.row.F-Disk.Denot g.row.F-Disk-File.Denot). HandsBack g.F.Disk.Shelf.seen g.F.Disk.File.Extent.seen c.args.vid c.args.mode c.in-Ok.stations.items c.in_ok-manager.file c.args.homes.now r) (sym c.refused.view_is) c.in-Err-make.ensures in
    no_volume g.F.Disk.Shelf.seen g.F.Disk.File.Extent.seen c.args.vid c.args.mode c.args.disks c.args.homes.now (g.F.Farm.seen c.args.farm.now) c.requires c.in_ok-manager.manager c.in_ok-manager.file (g.F.Farm.seen c.lend_log.new.farm) c.in_ok-manager.ensures
    c.in-Ok.stations.items (g.F.Farm.seen c.lend_stations.new.farm) c.in-Ok.ensures.0 c.in-Ok.ensures.1 refused handed (g.F.Farm.seen c.return_stations.new.farm) c.return_stations.ensures (g.F.Farm.seen c.return_log-in-Err-make.new.farm) c.return_log-in-Err-make.ensures
