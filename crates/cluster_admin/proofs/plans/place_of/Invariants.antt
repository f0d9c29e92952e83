use Rattle.std.proofs.Common.{◌≡◌, ◌+◌, drop}
use Rattle.cluster_admin.specs.Plans.{place_of, is_unfinished}
use Rattle.cluster_admin.proofs.plans.place_of.Given as goal

abbrev pub invariant-loop-place : goal.invariant-loop-place
invariant-loop-place l = (l.place + place_of (drop l.place l.tasks) l.id ≡ place_of l.tasks l.id) × (is_unfinished (drop l.place l.tasks) l.id ≡ is_unfinished l.tasks l.id)
