use Rattle.std.proofs.Common.{◌∙◌, sym}
use Rattle.cluster_admin.specs.Inside.{state_of}
use Rattle.cluster_admin.specs.Refusals.{set_disks_fault}
use Rattle.cluster_store.proofs.Done.{disks_done, disks_off, none_given}
use Rattle.cluster_store.proofs.store.Store.set_disks.Goals as goal

pub returns-in-Ok : goal.returns-in-Ok
returns-in-Ok g c = record {
  played = disks_done g.F.Disk.Shelf.seen g.F.Disk.File.Extent.seen (state_of c.args.self.now.admin) (state_of c.set_disks.new.self) c.args.self.now.volumes.items c.args.count (set_disks_fault (state_of c.args.self.now.admin) c.args.count) c.in-Ok.ensures.fault c.in-Ok.ensures.ok
      (none_given (state_of c.args.self.now.admin) c.args.count c.in-Ok.ensures.fault) c.requires.sound;
}

pub returns-in-Some : goal.returns-in-Some
returns-in-Some g c = record {
  played = disks_off g.F.Disk.Shelf.seen g.F.Disk.File.Extent.seen (state_of c.args.self.now.admin) (state_of c.set_disks.new.self) c.args.self.now.volumes.items c.args.count (set_disks_fault (state_of c.args.self.now.admin) c.args.count) c.in-Err.fault c.in-Some.cause
      c.in-Err.ensures.fault (sym c.disks_refused.ensures ∙ c.in-Some.is) c.in-Err.ensures.err c.requires.sound;
}
