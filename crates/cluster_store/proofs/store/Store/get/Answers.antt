use Rattle.std.proofs.Common.{rules, ◌≡◌, ◌∙◌, ◌-◌, sym, ap, refl, Err}
use Rattle.cluster_admin.specs.Inside.{state_of}
use Rattle.std.specs.Map.{lookup}
use Rattle.std.specs.Str.{bytes_eq}
use Rattle.volume_turns.specs.declared.command.VolumeCommand.TheVariants as turns
use Rattle.cluster_store.specs.declared.reply.Reply.TheVariants as replies
use Rattle.cluster_store.specs.Lines.{done, got}
use Rattle.cluster_store.specs.Store.{over}
use Rattle.cluster_store.proofs.Done.{one_done, one_off, in_names, no_name, get_for, some_vid}
use Rattle.cluster_store.proofs.store.Store.get.Goals as goal

pub returns-in_default : goal.returns-in_default
returns-in_default g c = record { played = no_name g.F.Disk.Shelf.seen g.F.Disk.File.Extent.seen (over (state_of c.args.self.now.admin) c.args.self.now.volumes.items) (lookup (bytes_eq c.args.name.now) (state_of c.args.self.now.admin).names) c.in_default.ensures.err.1 c.requires.sound }

pub overflow_sub-at : goal.overflow_sub-at
overflow_sub-at g c = some_vid (state_of c.args.self.now.admin) c.in-Ok.at (c.requires.sound.held c.args.name.now c.in-Ok.at c.in-Ok.ensures.ok)

pub play-requires-clause-there : goal.play-requires-clause-there
play-requires-clause-there g c = get_for g.F.Disk.Shelf.seen g.F.Disk.File.Extent.seen (over (state_of c.args.self.now.admin) c.args.self.now.volumes.items) c.in-Ok.at c.requires.sound (c.requires.sound.held c.args.name.now c.in-Ok.at c.in-Ok.ensures.ok)

pub returns-in_err-bytes : goal.returns-in_err-bytes
returns-in_err-bytes g c =
    let is : c.from_residual.result ≡ Err c.in_err-bytes.field-0.0 = search rules in
    record {
      played = in_names g.F.Disk.Shelf.seen g.F.Disk.File.Extent.seen (over (state_of c.args.self.now.admin) c.args.self.now.volumes.items) (over (state_of c.play.new.self.admin) c.play.new.self.volumes.items) (lookup (bytes_eq c.args.name.now) (state_of c.args.self.now.admin).names) c.in-Ok.at _ c.in-Ok.ensures.ok
          (one_off g.F.Disk.Shelf.seen g.F.Disk.File.Extent.seen (over (state_of c.args.self.now.admin) c.args.self.now.volumes.items) (over (state_of c.play.new.self.admin) c.play.new.self.volumes.items) c.in-Ok.at.vid (c.in-Ok.at.vid - 1) (turns.Get c.in-Ok.at.bid c.in-Ok.at.size) (got (state_of c.args.self.now.admin)) c.play.result c.in_err-bytes.field-0.0 c.from_residual.result refl c.requires.sound c.in_err-bytes.was is c.play.ensures);
    }

pub returns-in-Got : goal.returns-in-Got
returns-in-Got g c = record {
  played = in_names g.F.Disk.Shelf.seen g.F.Disk.File.Extent.seen (over (state_of c.args.self.now.admin) c.args.self.now.volumes.items) (over (state_of c.play.new.self.admin) c.play.new.self.volumes.items) (lookup (bytes_eq c.args.name.now) (state_of c.args.self.now.admin).names) c.in-Ok.at _ c.in-Ok.ensures.ok
      (one_done g.F.Disk.Shelf.seen g.F.Disk.File.Extent.seen (over (state_of c.args.self.now.admin) c.args.self.now.volumes.items) (over (state_of c.play.new.self.admin) c.play.new.self.volumes.items) c.in-Ok.at.vid (c.in-Ok.at.vid - 1) (turns.Get c.in-Ok.at.bid c.in-Ok.at.size) (got (state_of c.args.self.now.admin)) c.play.result c.in_ok-bytes.field-0 (replies.Got c.in-Got.bytes) refl c.requires.sound c.in_ok-bytes.was
      (ap (got (state_of c.args.self.now.admin)) c.in-Got.is) c.play.ensures);
}

pub returns-in-Refused : goal.returns-in-Refused
returns-in-Refused g c = record {
  played = in_names g.F.Disk.Shelf.seen g.F.Disk.File.Extent.seen (over (state_of c.args.self.now.admin) c.args.self.now.volumes.items) (over (state_of c.play.new.self.admin) c.play.new.self.volumes.items) (lookup (bytes_eq c.args.name.now) (state_of c.args.self.now.admin).names) c.in-Ok.at _ c.in-Ok.ensures.ok
      (one_done g.F.Disk.Shelf.seen g.F.Disk.File.Extent.seen (over (state_of c.args.self.now.admin) c.args.self.now.volumes.items) (over (state_of c.play.new.self.admin) c.play.new.self.volumes.items) c.in-Ok.at.vid (c.in-Ok.at.vid - 1) (turns.Get c.in-Ok.at.bid c.in-Ok.at.size) (got (state_of c.args.self.now.admin)) c.play.result c.in_ok-bytes.field-0 c.refused.result refl c.requires.sound c.in_ok-bytes.was
      (ap (got (state_of c.args.self.now.admin)) c.in-Refused.is ∙ ap (done (state_of c.args.self.now.admin)) (sym c.refused.ensures)) c.play.ensures);
}
