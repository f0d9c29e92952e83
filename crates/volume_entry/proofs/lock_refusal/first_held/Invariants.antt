use Rattle.std.proofs.Common.{◌≡◌, take, drop, [], reverse}
use Rattle.volume_entry.specs.ManagerStep.{first_held}
use Rattle.volume_entry.proofs.lock_refusal.first_held.Given as goal

abbrev pub invariant-loop-place : goal.invariant-loop-place
invariant-loop-place l = first_held l.homes [] l.targets ≡ first_held l.homes (reverse (take l.place l.targets)) (drop l.place l.targets)
