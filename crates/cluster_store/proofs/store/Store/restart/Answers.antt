use Rattle.std.proofs.Common.{rules, ◌≡◌, ◌∙◌, sym, Err}
use Rattle.cluster_admin.specs.Inside.{state_of}
use Rattle.volume_turns.specs.declared.command.VolumeCommand.TheVariants as turns
use Rattle.cluster_store.specs.declared.reply.Reply.TheVariants as replies
use Rattle.cluster_store.specs.Store.{over}
use Rattle.cluster_store.proofs.Fits.{fits_disk}
use Rattle.cluster_store.proofs.Done.{each_done, each_off, in_disk, no_disk, disk_number}
use Rattle.cluster_store.proofs.store.Store.restart.Goals as goal

pub returns-then-not-has_disk : goal.returns-then-not-has_disk
returns-then-not-has_disk g c = record { played = no_disk g.F.Disk.Shelf.seen g.F.Disk.File.Extent.seen (over (state_of c.args.self.now.admin) c.args.self.now.volumes.items) c.args.disk _ (sym c.has_disk.ensures ∙ c.if-not-has_disk.true) c.requires.sound }

pub ask_each-requires-clause-fits : goal.ask_each-requires-clause-fits
ask_each-requires-clause-fits g c = λ place opened there. fits_disk g.F.Disk.Shelf.seen g.F.Disk.File.Extent.seen (over (state_of c.args.self.now.admin) c.args.self.now.volumes.items) place c.args.disk opened c.requires.sound there (disk_number _ c.args.disk (sym c.has_disk.ensures ∙ c.if-not-has_disk.false))

pub returns-in_err-first : goal.returns-in_err-first
returns-in_err-first g c =
    let is : c.from_residual.result ≡ Err c.in_err-first.field-0.0 = search rules in
    record {
      played = in_disk g.F.Disk.Shelf.seen g.F.Disk.File.Extent.seen (over (state_of c.args.self.now.admin) c.args.self.now.volumes.items) (over (state_of c.ask_each.new.self.admin) c.ask_each.new.self.volumes.items) c.args.disk _ c.from_residual.result (sym c.has_disk.ensures ∙ c.if-not-has_disk.false)
          (each_off g.F.Disk.Shelf.seen g.F.Disk.File.Extent.seen (over (state_of c.args.self.now.admin) c.args.self.now.volumes.items) (over (state_of c.ask_each.new.self.admin) c.ask_each.new.self.volumes.items) (turns.Restart c.args.disk) replies.Restarted c.ask_each.result c.in_err-first.field-0.0 c.from_residual.result c.in_err-first.was is c.ask_each.ensures.played);
    }

pub returns : goal.returns
returns g c = record {
  played = in_disk g.F.Disk.Shelf.seen g.F.Disk.File.Extent.seen (over (state_of c.args.self.now.admin) c.args.self.now.volumes.items) (over (state_of c.ask_each.new.self.admin) c.ask_each.new.self.volumes.items) c.args.disk _ _ (sym c.has_disk.ensures ∙ c.if-not-has_disk.false)
      (each_done g.F.Disk.Shelf.seen g.F.Disk.File.Extent.seen (over (state_of c.args.self.now.admin) c.args.self.now.volumes.items) (over (state_of c.ask_each.new.self.admin) c.ask_each.new.self.volumes.items) (turns.Restart c.args.disk) replies.Restarted c.unless_refused.result c.ask_each.result c.in_ok-first.first c.in_ok-first.was c.unless_refused.ensures c.ask_each.ensures.played);
}
