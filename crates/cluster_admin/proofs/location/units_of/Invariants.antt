use Rattle.std.proofs.Common.{◌≡◌, map, take}
use Rattle.serde_json.specs.View.{view}
use Rattle.cluster_admin.specs.Location.{unit_data}
use Rattle.cluster_admin.proofs.location.units_of.Given as goal

abbrev pub invariant-loop-home : goal.invariant-loop-home
invariant-loop-home l = map view l.units.items ≡ map unit_data (take l.home-index l.homes)
