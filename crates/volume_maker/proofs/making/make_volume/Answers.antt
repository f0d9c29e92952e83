-- The tables' homes, and a volume made with them.
use Rattle.std.proofs.Common.{◌∙◌, length, subst, sym}
use Rattle.cluster_admin.specs.NewHomes.{AreNewHomes}
use Rattle.cluster_admin.specs.Inside.{state_of}
use Rattle.volume_maker.proofs.FirstHomes.{can_make_given, is_next}
use Rattle.volume_maker.proofs.making.make_volume.Goals as goal

pub make-requires : goal.make-requires
make-requires g c =
    can_make_given (state_of c.args.admin.now) c.args.mode _ c.in-Ok.given.0 c.disk_count-disks.result c.as_slice.result.now c.in-Ok.ensures.made.0 (c.as_slice.ensures ∙ c.in-Ok.ensures.made.1) c.disk_count-disks.ensures.count
    (subst (λ hs. AreNewHomes (length (state_of c.args.admin.now).disks) c.args.mode c.in-Ok.given.0 hs) (sym c.as_slice.ensures) c.in-Ok.ensures.legal)
    g.F.Disk.Shelf.seen (g.F.Farm.seen c.args.farm.now) c.requires c.disk_count-disks.ensures.most

pub returns-in-Ok-make : goal.returns-in-Ok-make
returns-in-Ok-make g c =
    is_next (state_of c.args.admin.now) c.args.mode _ c.in-Ok.given.0 c.disk_count-disks.result c.as_slice.result.now c.in-Ok.ensures.made.0 (c.as_slice.ensures ∙ c.in-Ok.ensures.made.1) c.disk_count-disks.ensures.count
    (subst (λ hs. AreNewHomes (length (state_of c.args.admin.now).disks) c.args.mode c.in-Ok.given.0 hs) (sym c.as_slice.ensures) c.in-Ok.ensures.legal)
    g.F.Disk.Shelf.seen (g.F.Farm.seen c.args.farm.now) g.F.Disk.File.Extent.seen (state_of c.new_volume.new.self) (g.F.Farm.seen c.make.new.farm) c.in-Ok-make.volume c.in-Ok.ensures.fault c.in-Ok.ensures.ok c.in-Ok-make.ensures
