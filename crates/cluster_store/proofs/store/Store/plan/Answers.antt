use Rattle.std.proofs.Common.{rules, ◌≡◌, ◌∙◌, sym, Err}
use Rattle.cluster_admin.specs.Inside.{state_of}
use Rattle.cluster_admin.specs.Volumes.{volume_at}
use Rattle.volume_turns.specs.declared.command.VolumeCommand.TheVariants as turns
use Rattle.cluster_store.specs.Lines.{planned}
use Rattle.cluster_store.specs.Store.{over}
use Rattle.cluster_store.proofs.Fits.{fits_disk}
use Rattle.cluster_store.proofs.Done.{one_done, one_off, in_volume, no_volume, in_disk, no_disk, disk_number, planned_end}
use Rattle.cluster_store.proofs.store.Store.plan.Goals as goal

pub returns-in_default : goal.returns-in_default
returns-in_default g c = record { played = no_volume g.F.Disk.Shelf.seen g.F.Disk.File.Extent.seen (over (state_of c.args.self.now.admin) c.args.self.now.volumes.items) (volume_at (state_of c.args.self.now.admin).volumes c.args.vid) _ c.in_default.ensures c.requires.sound }

pub returns-then-not-has_disk : goal.returns-then-not-has_disk
returns-then-not-has_disk g c = record { played = in_volume g.F.Disk.Shelf.seen g.F.Disk.File.Extent.seen (over (state_of c.args.self.now.admin) c.args.self.now.volumes.items) (over (state_of c.args.self.now.admin) c.args.self.now.volumes.items) (volume_at (state_of c.args.self.now.admin).volumes c.args.vid) c.in-Some.ensures.volume _ _ c.in-Some.ensures.held (no_disk g.F.Disk.Shelf.seen g.F.Disk.File.Extent.seen (over (state_of c.args.self.now.admin) c.args.self.now.volumes.items) c.args.disk _ (sym c.has_disk.ensures ∙ c.if-not-has_disk.true) c.requires.sound) }

pub play-requires-clause-there : goal.play-requires-clause-there
play-requires-clause-there g c = record { opened = c.in-Some.ensures.opened; there = c.in-Some.ensures.there; fits = fits_disk g.F.Disk.Shelf.seen g.F.Disk.File.Extent.seen (over (state_of c.args.self.now.admin) c.args.self.now.volumes.items) c.in-Some.place c.args.disk c.in-Some.ensures.opened c.requires.sound c.in-Some.ensures.there (disk_number _ c.args.disk (sym c.has_disk.ensures ∙ c.if-not-has_disk.false)) }

pub returns-in_err-reply : goal.returns-in_err-reply
returns-in_err-reply g c =
    let is : c.from_residual.result ≡ Err c.in_err-reply.field-0.0 = search rules in
    record {
      played = in_volume g.F.Disk.Shelf.seen g.F.Disk.File.Extent.seen (over (state_of c.args.self.now.admin) c.args.self.now.volumes.items) (over (state_of c.play.new.self.admin) c.play.new.self.volumes.items) (volume_at (state_of c.args.self.now.admin).volumes c.args.vid) c.in-Some.ensures.volume _ _ c.in-Some.ensures.held (in_disk g.F.Disk.Shelf.seen g.F.Disk.File.Extent.seen (over (state_of c.args.self.now.admin) c.args.self.now.volumes.items) (over (state_of c.play.new.self.admin) c.play.new.self.volumes.items) c.args.disk _ _ (sym c.has_disk.ensures ∙ c.if-not-has_disk.false)
          (one_off g.F.Disk.Shelf.seen g.F.Disk.File.Extent.seen (over (state_of c.args.self.now.admin) c.args.self.now.volumes.items) (over (state_of c.play.new.self.admin) c.play.new.self.volumes.items) c.args.vid c.in-Some.place (turns.Plan c.args.disk c.args.fate c.args.count) (planned (state_of c.args.self.now.admin)) c.play.result c.in_err-reply.field-0.0 c.from_residual.result c.in-Some.ensures.is c.requires.sound c.in_err-reply.was is c.play.ensures));
    }

pub returns : goal.returns
returns g c = record {
  played = in_volume g.F.Disk.Shelf.seen g.F.Disk.File.Extent.seen (over (state_of c.args.self.now.admin) c.args.self.now.volumes.items) (over (state_of c.play.new.self.admin) c.play.new.self.volumes.items) (volume_at (state_of c.args.self.now.admin).volumes c.args.vid) c.in-Some.ensures.volume _ _ c.in-Some.ensures.held (in_disk g.F.Disk.Shelf.seen g.F.Disk.File.Extent.seen (over (state_of c.args.self.now.admin) c.args.self.now.volumes.items) (over (state_of c.play.new.self.admin) c.play.new.self.volumes.items) c.args.disk _ _ (sym c.has_disk.ensures ∙ c.if-not-has_disk.false)
      (one_done g.F.Disk.Shelf.seen g.F.Disk.File.Extent.seen (over (state_of c.args.self.now.admin) c.args.self.now.volumes.items) (over (state_of c.play.new.self.admin) c.play.new.self.volumes.items) c.args.vid c.in-Some.place (turns.Plan c.args.disk c.args.fate c.args.count) (planned (state_of c.args.self.now.admin)) c.play.result c.in_ok-reply.reply c.unless_refused.result c.in-Some.ensures.is c.requires.sound c.in_ok-reply.was
      (planned_end (state_of c.args.self.now.admin) c.in_ok-reply.reply c.refusal_of.result c.unless_refused.result c.refusal_of.ensures c.unless_refused.ensures) c.play.ensures));
}
