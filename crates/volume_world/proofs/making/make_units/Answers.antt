use Rattle.std.proofs.Common.{◌≡◌, rules, Err}
use Rattle.volume_world.proofs.MadeWorlds.{first_none, next_own, next_disk, next_made, next_fails}
use Rattle.volume_world.proofs.making.make_units.Goals as goal

pub loop-home-init : goal.loop-home-init
loop-home-init g c = first_none g.H.Shelf.seen g.H.File.Extent.seen c.args.homes.now c.args.stations.now

pub make_unit-requires-clause-own : goal.make_unit-requires-clause-own
make_unit-requires-clause-own g c =
    next_own g.H.Shelf.seen g.H.File.Extent.seen c.args.homes.now c.loop-home.home-index c.home-item.result c.args.stations.now c.loop-home.stations c.loop-home-test.true c.home-item.is c.requires
    c.loop-home.invariant

pub make_unit-requires-clause-disk : goal.make_unit-requires-clause-disk
make_unit-requires-clause-disk g c =
    next_disk g.H.Shelf.seen g.H.File.Extent.seen c.args.homes.now c.loop-home.home-index c.home-item.result c.args.stations.now c.loop-home.stations c.loop-home-test.true c.home-item.is c.requires
    c.loop-home.invariant

pub returns-in_err-make_unit : goal.returns-in_err-make_unit
returns-in_err-make_unit g c =
    let is : c.from_residual.result ≡ Err c.in_err-make_unit.field-0.0 = search rules in
    next_fails g.H.Shelf.seen g.H.File.Extent.seen c.args.homes.now c.loop-home.home-index c.home-item.result c.args.stations.now c.loop-home.stations c.loop-home-test.true c.home-item.is c.requires
    c.loop-home.invariant c.make_unit.new.stations c.in_err-make_unit.field-0.0 c.from_residual.result is c.in_err-make_unit.ensures

pub loop-home-preserved : goal.loop-home-preserved
loop-home-preserved g c =
    next_made g.H.Shelf.seen g.H.File.Extent.seen c.args.homes.now c.loop-home.home-index c.home-item.result c.args.stations.now c.loop-home.stations c.loop-home-test.true c.home-item.is c.requires
    c.loop-home.invariant c.make_unit.new.stations c.in_ok-make_unit.ensures
