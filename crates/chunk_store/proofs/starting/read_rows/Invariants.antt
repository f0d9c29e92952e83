use Rattle.std.proofs.Common.{◌≡◌, ◌-◌, ℕ, List, Some}
use Rattle.disk_base.specs.Disk.{Lasts, OnlyReads}
use Rattle.chunk_store.specs.Starting.{IsRead}
use Rattle.chunk_store.proofs.starting.read_rows.Given as goal

abbrev pub invariant-loop-index : goal.invariant-loop-index
invariant-loop-index g l = record {
  ends : l.log.end ≡ l.fn.log.end;
  read : (bytes : List ℕ) → (g.E.Extent.seen l.fn.log.file).content ≡ Some bytes → IsRead l.unit bytes l.cursor l.index.kept;
  reads : OnlyReads (g.E.Extent.seen l.fn.log.file) (g.E.Extent.seen l.log.file);
  lasts : Lasts (g.E.Extent.seen l.fn.log.file) (g.E.Extent.seen l.log.file);
  faults : (g.E.Extent.seen l.log.file).faults ≡ (g.E.Extent.seen l.fn.log.file).faults;
}

abbrev pub decreases-loop-index : goal.decreases-loop-index
decreases-loop-index g l = l.cursor.len - l.cursor.place
