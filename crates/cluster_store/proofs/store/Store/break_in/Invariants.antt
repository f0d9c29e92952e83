use Rattle.std.proofs.Common.{◌≡◌, ◌-◌, length}
use Rattle.cluster_admin.specs.Inside.{state_of}
use Rattle.cluster_store.specs.declared.reply.Reply.TheVariants as replies
use Rattle.cluster_store.specs.Store.{over}
use Rattle.cluster_store.proofs.Broken.{HasBroken}
use Rattle.cluster_store.proofs.store.Store.break_in.Given as goal

abbrev pub invariant-loop-at : goal.invariant-loop-at
invariant-loop-at g l = record {
  broken : HasBroken g.F.Disk.Shelf.seen g.F.Disk.File.Extent.seen (over (state_of l.fn.self.admin) l.fn.self.volumes.items) (over (state_of l.self.admin) l.self.volumes.items) (l.fn.vid - 1) l.at (replies.Volume l.fn.vid);
  last : l.at-end ≡ length (state_of l.fn.self.admin).disks;
}
