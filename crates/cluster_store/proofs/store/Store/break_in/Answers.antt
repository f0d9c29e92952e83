use Rattle.std.proofs.Common.{◌≡◌, ◌∙◌, ◌-◌, sym, arith}
use Rattle.cluster_admin.specs.Inside.{state_of}
use Rattle.cluster_store.specs.declared.reply.Reply.TheVariants as replies
use Rattle.cluster_store.specs.Store.{over}
use Rattle.cluster_store.proofs.Broken.{broken_none, broken_for, broken_on, broken_skip, broken_off, broken_all, volume_stands_there}
use Rattle.cluster_store.proofs.store.Store.break_in.Goals as goal

pub loop-at-init : goal.loop-at-init
loop-at-init g c = record { broken = broken_none g.F.Disk.Shelf.seen g.F.Disk.File.Extent.seen (over (state_of c.args.self.now.admin) c.args.self.now.volumes.items) (c.args.vid - 1) (replies.Volume c.args.vid) c.requires.sound (volume_stands_there (over (state_of c.args.self.now.admin) c.args.self.now.volumes.items) c.args.vid c.requires.sound c.requires.there); last = c.disk_count-at-end.ensures.count }

pub play-requires-clause-there : goal.play-requires-clause-there
play-requires-clause-there g c =
    let test = c.loop-at-test.true in
    let last = c.loop-at.invariant.last in
    broken_for g.F.Disk.Shelf.seen g.F.Disk.File.Extent.seen (over (state_of c.args.self.now.admin) c.args.self.now.volumes.items) (over (state_of c.loop-at.self.admin) c.loop-at.self.volumes.items) (c.args.vid - 1) c.loop-at.at (replies.Volume c.args.vid) (omega (arith, test, last)) c.loop-at.invariant.broken

pub play-requires-clause-sound : goal.play-requires-clause-sound
play-requires-clause-sound g c = c.loop-at.invariant.broken.broken.is

pub returns-in-Err : goal.returns-in-Err
returns-in-Err g c =
    let test = c.loop-at-test.true in
    let last = c.loop-at.invariant.last in
    record { played = broken_off g.F.Disk.Shelf.seen g.F.Disk.File.Extent.seen (over (state_of c.args.self.now.admin) c.args.self.now.volumes.items) (over (state_of c.loop-at.self.admin) c.loop-at.self.volumes.items) (over (state_of c.play.new.self.admin) c.play.new.self.volumes.items) (c.args.vid - 1) c.loop-at.at (replies.Volume c.args.vid) c.play.result c.in-Err.fault c.in-Err.is (omega (arith, test, last)) (sym c.is_bad.ensures ∙ c.if-not-is_bad.false) c.loop-at.invariant.broken c.play.ensures }

pub loop-at-preserved-then-not-is_bad : goal.loop-at-preserved-then-not-is_bad
loop-at-preserved-then-not-is_bad g c =
    let test = c.loop-at-test.true in
    let last = c.loop-at.invariant.last in
    record { broken = broken_skip g.F.Disk.Shelf.seen g.F.Disk.File.Extent.seen (over (state_of c.args.self.now.admin) c.args.self.now.volumes.items) (over (state_of c.loop-at.self.admin) c.loop-at.self.volumes.items) (c.args.vid - 1) c.loop-at.at (replies.Volume c.args.vid) (omega (arith, test, last)) (sym c.is_bad.ensures ∙ c.if-not-is_bad.true) c.loop-at.invariant.broken; last = last }

pub loop-at-preserved : goal.loop-at-preserved
loop-at-preserved g c =
    let test = c.loop-at-test.true in
    let last = c.loop-at.invariant.last in
    record { broken = broken_on g.F.Disk.Shelf.seen g.F.Disk.File.Extent.seen (over (state_of c.args.self.now.admin) c.args.self.now.volumes.items) (over (state_of c.loop-at.self.admin) c.loop-at.self.volumes.items) (over (state_of c.play.new.self.admin) c.play.new.self.volumes.items) (c.args.vid - 1) c.loop-at.at (replies.Volume c.args.vid) c.play.result c.in-Ok.reply c.in-Ok.is (omega (arith, test, last)) (sym c.is_bad.ensures ∙ c.if-not-is_bad.false) c.loop-at.invariant.broken c.play.ensures; last = last }

pub returns : goal.returns
returns g c =
    let test = c.loop-at-test.false in
    let last = c.loop-at.invariant.last in
    record { played = broken_all g.F.Disk.Shelf.seen g.F.Disk.File.Extent.seen (over (state_of c.args.self.now.admin) c.args.self.now.volumes.items) (over (state_of c.loop-at.self.admin) c.loop-at.self.volumes.items) (c.args.vid - 1) c.loop-at.at (replies.Volume c.args.vid) (omega (arith, test, last)) c.loop-at.invariant.broken }
