use Rattle.std.proofs.Common.{◌-◌, ◌≡◌, ◌≤◌, ℕ, List, Some}
use Rattle.disk_base.specs.Disk.{Lasts, OnlyReads}
use Rattle.gate_log.specs.GateLog.{shown, HasBodies}
use Rattle.volume_entry.specs.Manager.{Manager, ManagerRecord, IsLog}
use Rattle.volume_entry.specs.TableParts.{part_of, shape_of}
use Rattle.volume_entry.specs.Book.{AreSpelled, IsSoundPart}
use Rattle.volume_entry.specs.BookStart.{IsReadTo}
use Rattle.volume_entry.proofs.rereading.read_table.Given as goal

abbrev pub invariant-loop-place : goal.invariant-loop-place
invariant-loop-place g l = record {
  started : l.log.end ≡ l.fn.log.end;
  inside : l.place ≤ l.end;
  sound : IsSoundPart (shape_of l.shape) (Some l.place) (part_of l.table);
  read : (bodies : List (List ℕ)) (items : List ManagerRecord) (part : Manager) → HasBodies (shown g.E.Extent.seen l.fn.log) bodies → AreSpelled l.vid l.shape.mode items bodies → IsLog (shape_of l.shape) items part → IsReadTo l.vid l.shape bodies l.place (part_of l.table) part;
  lasts : Lasts (g.E.Extent.seen l.fn.log.file) (g.E.Extent.seen l.log.file);
  reads : OnlyReads (g.E.Extent.seen l.fn.log.file) (g.E.Extent.seen l.log.file);
  faults : (g.E.Extent.seen l.log.file).faults ≡ (g.E.Extent.seen l.fn.log.file).faults;
}

abbrev pub decreases-loop-place : goal.decreases-loop-place
decreases-loop-place g l = l.end - l.place
