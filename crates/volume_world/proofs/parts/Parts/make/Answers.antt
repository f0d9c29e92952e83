use Rattle.std.proofs.Common.{◌≡◌, ◌∙◌, sym, ap, subst, rules, ℕ, List, [], length, replicate, Ok, Err}
use Rattle.unit_id.specs.Place.{Location}
use Rattle.blob_node.specs.declared.fate.Fate.{Fate}
use Rattle.volume_entry.specs.Making.{IsMade, Makes}
use Rattle.volume_world.specs.Stations.{StationsOver}
use Rattle.volume_world.specs.WorldMaking.{IsMadeOf, MakesFirst, MakesUnits, locations}
use Rattle.volume_world.specs.declared.world_fault.WorldFault.{WorldFault}
use Rattle.volume_world.proofs.WholeWorlds.{entry_handed, fits_homes, none_handed, units_handed, world_made}
use Rattle.volume_world.proofs.parts.Parts.make.Goals as goal

pub returns-in_default : goal.returns-in_default
returns-in_default g c =
    none_handed g.H.Shelf.seen g.H.File.Extent.seen c.args.vid c.args.mode c.args.stations.items c.args.file c.args.homes.now c.requires c.over-stations.result c.refused.result c.over-stations.ensures
    c.refused.ensures

pub make_units-requires : goal.make_units-requires
make_units-requires g c =
    fits_homes g.H.Shelf.seen g.H.File.Extent.seen c.args.vid c.args.mode c.args.stations.items c.args.file c.args.homes.now c.requires c.over-stations.result c.over-stations.ensures

pub returns-in-Ok-make : goal.returns-in-Ok-make
returns-in-Ok-make g c =
    let long : c.len.result ≡ length c.args.stations.items = search (rules, c.len.ensures, c.args.stations.ok) in
    let made : MakesFirst g.H.Shelf.seen g.H.File.Extent.seen c.args.homes.now (length c.args.homes.now) (record { vid = c.args.vid; stations = c.args.stations.items }) c.make_units.new.stations =
    subst (λ (over : StationsOver g.row.H.Denot g.row.H-File.Denot). MakesFirst g.H.Shelf.seen g.H.File.Extent.seen c.args.homes.now (length c.args.homes.now) over c.make_units.new.stations)
    c.over-stations.ensures c.in_default-make_units.ensures in
    let is : IsMade g.H.File.Extent.seen c.args.vid (record { mode = c.args.mode; disks = length c.args.stations.items }) (locations c.args.homes.now) c.args.file c.in-Ok-make.entry =
    subst (λ (disks : ℕ). IsMade g.H.File.Extent.seen c.args.vid (record { mode = c.args.mode; disks = disks }) (locations c.args.homes.now) c.args.file c.in-Ok-make.entry) long
    (subst (λ (first : List Location). IsMade g.H.File.Extent.seen c.args.vid (record { mode = c.args.mode; disks = c.len.result }) first c.args.file c.in-Ok-make.entry)
    (c.as_slice.ensures.value ∙ c.in-Ok.ensures.0) c.in-Ok-make.ensures) in
    subst (λ (disks : ℕ). IsMadeOf g.H.Shelf.seen g.H.File.Extent.seen c.args.vid c.args.mode c.args.stations.items c.args.file c.args.homes.now (record {
      vid = c.make_units.new.stations.vid;
      shape = record { mode = c.args.mode; disks = disks };
      first = c.in-Ok.first.items;
      stations = c.make_units.new.stations.stations;
      entry = c.in-Ok-make.entry;
      puts = c.none.result;
      planned = c.in-Ok.link;
      late = c.none-in-Ok-make.result;
      time = 0;
      history = c.none-in-Ok-make-2.result;
    })) (sym long)
    (world_made g.H.Shelf.seen g.H.File.Extent.seen c.args.vid c.args.mode c.args.stations.items c.args.file c.args.homes.now c.requires c.make_units.new.stations made c.in-Ok-make.entry is
    c.none.result c.none.ensures c.none-in-Ok-make.result c.none-in-Ok-make.ensures c.none-in-Ok-make-2.result c.none-in-Ok-make-2.ensures c.in-Ok.first.items c.in-Ok.link
    c.in-Ok.ensures.0 (c.in-Ok.ensures.1 ∙ ap (λ (n : ℕ). replicate {A = List Fate} n []) long))

pub returns-in-Err : goal.returns-in-Err
returns-in-Err g c =
    units_handed g.H.Shelf.seen g.H.File.Extent.seen c.args.vid c.args.mode c.args.stations.items c.args.file c.args.homes.now c.requires c.make_units.new.stations c.in-Err.fault c.refused-in-Err.result
    (subst (λ (over : StationsOver g.row.H.Denot g.row.H-File.Denot). MakesUnits g.H.Shelf.seen g.H.File.Extent.seen c.args.homes.now over c.make_units.new.stations (Err c.in-Err.fault))
    c.over-stations.ensures c.in-Err.ensures)
    c.refused-in-Err.ensures

pub returns-in-Err-make : goal.returns-in-Err-make
returns-in-Err-make g c =
    let long : c.len.result ≡ length c.args.stations.items = search (rules, c.len.ensures, c.args.stations.ok) in
    let made : MakesFirst g.H.Shelf.seen g.H.File.Extent.seen c.args.homes.now (length c.args.homes.now) (record { vid = c.args.vid; stations = c.args.stations.items }) c.make_units.new.stations =
    subst (λ (over : StationsOver g.row.H.Denot g.row.H-File.Denot). MakesFirst g.H.Shelf.seen g.H.File.Extent.seen c.args.homes.now (length c.args.homes.now) over c.make_units.new.stations)
    c.over-stations.ensures c.in_default-make_units.ensures in
    entry_handed g.H.Shelf.seen g.H.File.Extent.seen c.args.vid c.args.mode c.args.stations.items c.args.file c.args.homes.now c.requires c.make_units.new.stations c.in-Err-make.fault c.in-Err-make.file
    c.refused-in-Err-make.result made
    (subst (λ (disks : ℕ). Makes g.H.File.Extent.seen c.args.vid (record { mode = c.args.mode; disks = disks }) (locations c.args.homes.now) c.args.file (Err (c.in-Err-make.fault, c.in-Err-make.file))) long
    (subst (λ (first : List Location). Makes g.H.File.Extent.seen c.args.vid (record { mode = c.args.mode; disks = c.len.result }) first c.args.file (Err (c.in-Err-make.fault, c.in-Err-make.file)))
    (c.as_slice.ensures.value ∙ c.in-Ok.ensures.0) c.in-Err-make.ensures))
    (c.refused-in-Err-make.ensures ∙ ap (λ (fault : WorldFault). record { fault = fault; stations = c.make_units.new.stations.stations; file = c.in-Err-make.file }) c.entry_fault.ensures)
