use Rattle.std.proofs.Common.{rules, ◌≡◌, Err}
use Rattle.cluster_admin.specs.Inside.{state_of}
use Rattle.cluster_admin.specs.Refusals.{break_fault}
use Rattle.volume_turns.specs.declared.command.VolumeCommand.TheVariants as turns
use Rattle.cluster_store.specs.declared.reply.Reply.TheVariants as replies
use Rattle.cluster_store.specs.Store.{over}
use Rattle.cluster_store.proofs.Fits.{fits_disk}
use Rattle.cluster_store.proofs.Stores.{broken_sound}
use Rattle.cluster_store.proofs.Done.{each_done, each_off, break_off, break_on, unbroken_number}
use Rattle.cluster_store.proofs.store.Store.break_disk.Goals as goal

pub returns-in-Err : goal.returns-in-Err
returns-in-Err g c = record {
  played = break_off g.F.Disk.Shelf.seen g.F.Disk.File.Extent.seen (state_of c.args.self.now.admin) (state_of c.break_disk.new.self) c.args.self.now.volumes.items c.args.disk (break_fault (state_of c.args.self.now.admin) c.args.disk) c.in-Err.fault c.disk_refusal.result
      c.in-Err.ensures.fault c.disk_refusal.ensures c.in-Err.ensures.err c.requires.sound;
}

pub ask_each-requires-clause-fits : goal.ask_each-requires-clause-fits
ask_each-requires-clause-fits g c = λ place opened there. fits_disk g.F.Disk.Shelf.seen g.F.Disk.File.Extent.seen (over (state_of c.args.self.now.admin) c.args.self.now.volumes.items) place c.args.disk opened c.requires.sound there (unbroken_number (state_of c.args.self.now.admin) c.args.disk c.in-Ok.ensures.fault)

pub ask_each-requires-clause-sound : goal.ask_each-requires-clause-sound
ask_each-requires-clause-sound g c = broken_sound (state_of c.args.self.now.admin) (state_of c.break_disk.new.self) c.args.self.now.volumes.items c.args.disk c.in-Ok.ensures.ok c.requires.sound

pub returns-in_err-first : goal.returns-in_err-first
returns-in_err-first g c =
    let is : c.from_residual.result ≡ Err c.in_err-first.field-0.0 = search rules in
    record {
      played = break_on g.F.Disk.Shelf.seen g.F.Disk.File.Extent.seen (state_of c.args.self.now.admin) (state_of c.break_disk.new.self) c.args.self.now.volumes.items (over (state_of c.ask_each.new.self.admin) c.ask_each.new.self.volumes.items) c.args.disk (break_fault (state_of c.args.self.now.admin) c.args.disk) c.from_residual.result c.in-Ok.ensures.fault
          c.in-Ok.ensures.ok (each_off g.F.Disk.Shelf.seen g.F.Disk.File.Extent.seen (over (state_of c.break_disk.new.self) c.args.self.now.volumes.items) (over (state_of c.ask_each.new.self.admin) c.ask_each.new.self.volumes.items) (turns.Break c.args.disk) replies.Broken c.ask_each.result c.in_err-first.field-0.0 c.from_residual.result c.in_err-first.was is c.ask_each.ensures.played);
    }

pub returns : goal.returns
returns g c = record {
  played = break_on g.F.Disk.Shelf.seen g.F.Disk.File.Extent.seen (state_of c.args.self.now.admin) (state_of c.break_disk.new.self) c.args.self.now.volumes.items (over (state_of c.ask_each.new.self.admin) c.ask_each.new.self.volumes.items) c.args.disk (break_fault (state_of c.args.self.now.admin) c.args.disk) _ c.in-Ok.ensures.fault c.in-Ok.ensures.ok
      (each_done g.F.Disk.Shelf.seen g.F.Disk.File.Extent.seen (over (state_of c.break_disk.new.self) c.args.self.now.volumes.items) (over (state_of c.ask_each.new.self.admin) c.ask_each.new.self.volumes.items) (turns.Break c.args.disk) replies.Broken c.unless_refused.result c.ask_each.result c.in_ok-first.first c.in_ok-first.was c.unless_refused.ensures c.ask_each.ensures.played);
}
