use Rattle.std.proofs.Common.{◌≡◌, length}
use Rattle.cluster_admin.specs.Inside.{state_of}
use Rattle.cluster_store.specs.Store.{over}
use Rattle.cluster_store.proofs.Each.{HasAsked}
use Rattle.cluster_store.proofs.store.Store.ask_each.Given as goal

abbrev pub invariant-loop-place : goal.invariant-loop-place
invariant-loop-place g l = record {
  asked : HasAsked g.F.Disk.Shelf.seen g.F.Disk.File.Extent.seen (over (state_of l.fn.self.admin) l.fn.self.volumes.items) (over (state_of l.self.admin) l.self.volumes.items) l.command l.place l.first;
  long : length l.self.volumes.items ≡ length l.fn.self.volumes.items;
  last : l.place-end ≡ length l.fn.self.volumes.items;
}
