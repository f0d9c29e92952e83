use Rattle.volume_world.specs.WorldMaking.{MakesFirst}
use Rattle.volume_world.proofs.making.make_units.Given as goal

abbrev pub invariant-loop-home : goal.invariant-loop-home
invariant-loop-home g l = MakesFirst g.H.Shelf.seen g.H.File.Extent.seen l.homes l.home-index l.fn.stations l.stations
