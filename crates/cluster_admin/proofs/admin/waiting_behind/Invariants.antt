use Rattle.std.proofs.Common.{◌≡◌, ◌∷◌, map, None, Some}
use Rattle.cluster_admin.proofs.admin.waiting_behind.Given as goal

abbrev pub invariant-loop-placer : goal.invariant-loop-placer
invariant-loop-placer g l = l.waiting.items ≡ None ∷ map Some l.yielded
