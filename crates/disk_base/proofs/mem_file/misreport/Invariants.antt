use Rattle.std.proofs.Common.{◌≡◌, ℕ, ◌+◌, ◌<◌, ◌≤◌, get_or}
use Rattle.disk_base.specs.Images.{misread_byte}
use Rattle.disk_base.proofs.mem_file.misreport.Given as goal

-- the bytes so far are wrong, and the others as they were
abbrev pub invariant-loop-k : goal.invariant-loop-k
invariant-loop-k l = ((j : ℕ) → j < l.k → get_or l.out j 0 ≡ misread_byte l.lies (l.at + j) (get_or l.initial.out j 0)) × ((j : ℕ) → l.k ≤ j → get_or l.out j 0 ≡ get_or l.initial.out j 0)
