use Rattle.std.proofs.Common.{◌≡◌, ◌-◌, ℕ, List, length, Some}
use Rattle.disk_base.specs.Disk.{Lasts, OnlyReads}
use Rattle.gate_log.specs.LogFile.{Walks}
use Rattle.gate_log.proofs.Follow.{CountedTo}
use Rattle.gate_log.proofs.device.find_end.Given as goal

abbrev pub invariant-loop-place : goal.invariant-loop-place
invariant-loop-place g l = record {
  walk : (bytes : List ℕ) → (g.E.Extent.seen l.fn.file).content ≡ Some bytes → l.len ≡ length bytes → (read : List (List ℕ)) → Walks bytes 8 read l.from
      → CountedTo bytes (length read) l.place (g.E.Extent.seen l.fn.file).calls (g.E.Extent.seen l.file).calls;
  reads : OnlyReads (g.E.Extent.seen l.fn.file) (g.E.Extent.seen l.file);
  lasts : Lasts (g.E.Extent.seen l.fn.file) (g.E.Extent.seen l.file);
  faults : (g.E.Extent.seen l.file).faults ≡ (g.E.Extent.seen l.fn.file).faults;
}

abbrev pub decreases-loop-place : goal.decreases-loop-place
decreases-loop-place g l = l.len - l.place
