use Rattle.std.proofs.Common.{◌≤◌, length}
use Rattle.dir_farm.proofs.dir_file.read_full.Given as goal

abbrev pub invariant-loop : goal.invariant-loop
invariant-loop g l = l.done ≤ length l.out
