use Rattle.std.proofs.Common.{◌≤◌}
use Rattle.disk_base.proofs.mem_file.MemFile.loose_count.Given as goal

-- no more bytes than places so far
abbrev pub invariant-loop-place : goal.invariant-loop-place
invariant-loop-place l = l.count ≤ l.place
