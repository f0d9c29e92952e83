use Rattle.std.proofs.Common.{◌≡◌, ◌++◌, drop, length}
use Rattle.cluster_admin.specs.Drawing.{new_homes}
use Rattle.cluster_admin.proofs.choosing.new_homes.Given as goal

abbrev pub invariant-loop-index : goal.invariant-loop-index
invariant-loop-index l = (l.homes ++ new_homes l.vid l.index (drop l.index l.disks) ≡ new_homes l.vid 0 l.disks) × (length l.homes ≡ l.index)
