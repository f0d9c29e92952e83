use Rattle.std.proofs.Common.{◌≡◌, take}
use Rattle.volume_world.specs.WorldMaking.{locations}
use Rattle.volume_world.proofs.making.places_of.Given as goal

abbrev pub invariant-loop-home : goal.invariant-loop-home
invariant-loop-home l = l.places.items ≡ locations (take l.home-index l.homes)
