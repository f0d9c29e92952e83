use Rattle.std.proofs.Common.{◌≡◌, drop}
use Rattle.cluster_admin.specs.Picking.{homes_after}
use Rattle.cluster_admin.proofs.picking.move_homes.Given as goal

abbrev pub invariant-loop-home : goal.invariant-loop-home
invariant-loop-home l = homes_after l.homes (drop l.home-index l.moved) ≡ homes_after l.fn.homes l.moved
