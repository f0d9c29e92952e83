use Rattle.std.proofs.Common.{rules, ◌≡◌, ◌∙◌, sym, ap, Err}
use Rattle.cluster_admin.specs.Inside.{state_of}
use Rattle.cluster_admin.specs.Volumes.{volume_at}
use Rattle.volume_turns.specs.declared.command.VolumeCommand.TheVariants as turns
use Rattle.cluster_store.specs.declared.reply.Reply.TheVariants as replies
use Rattle.cluster_store.specs.Lines.{done, fetched}
use Rattle.cluster_store.specs.Store.{over}
use Rattle.cluster_store.proofs.Done.{one_done, one_off, in_volume, no_volume}
use Rattle.cluster_store.proofs.store.Store.fetch.Goals as goal

pub returns-in_default : goal.returns-in_default
returns-in_default g c = record { played = no_volume g.F.Disk.Shelf.seen g.F.Disk.File.Extent.seen (over (state_of c.args.self.now.admin) c.args.self.now.volumes.items) (volume_at (state_of c.args.self.now.admin).volumes c.args.vid) _ c.in_default.ensures c.requires.sound }

pub returns-in_err-bytes : goal.returns-in_err-bytes
returns-in_err-bytes g c =
    let is : c.from_residual.result ≡ Err c.in_err-bytes.field-0.0 = search rules in
    record {
      played = in_volume g.F.Disk.Shelf.seen g.F.Disk.File.Extent.seen (over (state_of c.args.self.now.admin) c.args.self.now.volumes.items) (over (state_of c.play.new.self.admin) c.play.new.self.volumes.items) (volume_at (state_of c.args.self.now.admin).volumes c.args.vid) c.in-Some.ensures.volume _ _ c.in-Some.ensures.held
          (one_off g.F.Disk.Shelf.seen g.F.Disk.File.Extent.seen (over (state_of c.args.self.now.admin) c.args.self.now.volumes.items) (over (state_of c.play.new.self.admin) c.play.new.self.volumes.items) c.args.vid c.in-Some.place (turns.Fetch c.args.bid c.args.size) (fetched (state_of c.args.self.now.admin)) c.play.result c.in_err-bytes.field-0.0 c.from_residual.result c.in-Some.ensures.is c.requires.sound c.in_err-bytes.was is c.play.ensures);
    }

pub returns-in-Fetched : goal.returns-in-Fetched
returns-in-Fetched g c = record {
  played = in_volume g.F.Disk.Shelf.seen g.F.Disk.File.Extent.seen (over (state_of c.args.self.now.admin) c.args.self.now.volumes.items) (over (state_of c.play.new.self.admin) c.play.new.self.volumes.items) (volume_at (state_of c.args.self.now.admin).volumes c.args.vid) c.in-Some.ensures.volume _ _ c.in-Some.ensures.held
      (one_done g.F.Disk.Shelf.seen g.F.Disk.File.Extent.seen (over (state_of c.args.self.now.admin) c.args.self.now.volumes.items) (over (state_of c.play.new.self.admin) c.play.new.self.volumes.items) c.args.vid c.in-Some.place (turns.Fetch c.args.bid c.args.size) (fetched (state_of c.args.self.now.admin)) c.play.result c.in_ok-bytes.field-0 (replies.Fetched c.in-Fetched.bytes) c.in-Some.ensures.is c.requires.sound c.in_ok-bytes.was (ap (fetched (state_of c.args.self.now.admin)) c.in-Fetched.is) c.play.ensures);
}

pub returns-in-Refused : goal.returns-in-Refused
returns-in-Refused g c = record {
  played = in_volume g.F.Disk.Shelf.seen g.F.Disk.File.Extent.seen (over (state_of c.args.self.now.admin) c.args.self.now.volumes.items) (over (state_of c.play.new.self.admin) c.play.new.self.volumes.items) (volume_at (state_of c.args.self.now.admin).volumes c.args.vid) c.in-Some.ensures.volume _ _ c.in-Some.ensures.held
      (one_done g.F.Disk.Shelf.seen g.F.Disk.File.Extent.seen (over (state_of c.args.self.now.admin) c.args.self.now.volumes.items) (over (state_of c.play.new.self.admin) c.play.new.self.volumes.items) c.args.vid c.in-Some.place (turns.Fetch c.args.bid c.args.size) (fetched (state_of c.args.self.now.admin)) c.play.result c.in_ok-bytes.field-0 c.refused.result c.in-Some.ensures.is c.requires.sound c.in_ok-bytes.was
      (ap (fetched (state_of c.args.self.now.admin)) c.in-Refused.is ∙ ap (done (state_of c.args.self.now.admin)) (sym c.refused.ensures)) c.play.ensures);
}
