use Rattle.std.proofs.Common.{◌≡◌, ◌<◌, length, drop}
use Rattle.cluster_admin.specs.Placing.{least_from, least_place}
use Rattle.cluster_admin.proofs.placer.least_place.Given as goal

abbrev pub invariant-loop-place : goal.invariant-loop-place
invariant-loop-place l = (l.least < length l.options) × (least_from l.least l.units l.place (drop l.place l.options) ≡ least_place l.options)
