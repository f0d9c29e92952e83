use Rattle.std.proofs.Common.{◌+◌, sym, subst}
use Rattle.std.specs.Prelude.{slice_get}
use Rattle.cluster_admin.specs.Inside.{state_of}
use Rattle.cluster_store.specs.Store.{over, AreShelvesOf, IsOver}
use Rattle.cluster_store.proofs.Fits.{over_sessions}
use Rattle.cluster_store.proofs.tests.with_volume.Goals as goal

pub make_volume-requires : goal.make_volume-requires
make_volume-requires g c = record {
  stands = record {
    is = c.set_disks-given.ensures.played.is;
    shelves = over_sessions g.F.Disk.Shelf.seen g.F.Disk.File.Extent.seen (over (state_of c.in_ok-store.store.admin) c.in_ok-store.store.volumes.items) (over (state_of c.set_disks-given.new.self.admin) c.set_disks-given.new.self.volumes.items) c.set_disks-given.ensures.played.steps (g.F.Farm.seen c.args.farm.now) c.set_disks-given.ensures.played.turns_are
        (λ place. subst (λ vs. AreShelvesOf g.F.Disk.Shelf.seen (place + 1) (slice_get vs place) (g.F.Farm.seen c.args.farm.now)) (sym c.in_ok-store.ensures.empty) (λ d. c.requires d (place + 1)));
  };
}
