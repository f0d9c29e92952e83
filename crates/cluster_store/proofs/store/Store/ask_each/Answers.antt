use Rattle.std.proofs.Common.{rules, ◌≡◌, ◌∙◌, refl, ap, not, length, Err, arith}
use Rattle.cluster_admin.specs.Inside.{state_of}
use Rattle.cluster_store.specs.Lines.{earlier}
use Rattle.cluster_store.specs.Store.{over}
use Rattle.cluster_store.proofs.Each.{asked_none, asked_is, asked_for, asked_on, asked_skip, asked_broken, asked_all, long_after, stands_there, none_stands}
use Rattle.cluster_store.proofs.Stores.{equally_long}
use Rattle.cluster_store.proofs.store.Store.ask_each.Goals as goal

pub loop-place-init : goal.loop-place-init
loop-place-init g c = record {
  asked = asked_none g.F.Disk.Shelf.seen g.F.Disk.File.Extent.seen (over (state_of c.args.self.now.admin) c.args.self.now.volumes.items) c.args.command.now c.requires.sound;
  long = refl;
  last = ap length c.as_slice-place-end.ensures.value;
}

pub play-requires-clause-there : goal.play-requires-clause-there
play-requires-clause-there g c =
    let long = c.loop-place.invariant.long in
    let last = c.loop-place.invariant.last in
    let test = c.loop-place-test.true in
    asked_for g.F.Disk.Shelf.seen g.F.Disk.File.Extent.seen _ (over (state_of c.loop-place.self.admin) c.loop-place.self.volumes.items) c.args.command.now c.loop-place.place c.loop-place.first c.requires.fits c.loop-place.invariant.asked
    (stands_there c.loop-place.self.volumes.items c.loop-place.place c.index.result.now (omega (arith, long, last, test)) c.index.ensures (c.is_none.ensures ∙ ap not c.if-is_none.false))

pub play-requires-clause-sound : goal.play-requires-clause-sound
play-requires-clause-sound g c = asked_is g.F.Disk.Shelf.seen g.F.Disk.File.Extent.seen _ _ _ _ _ c.loop-place.invariant.asked

pub returns-in_err-reply : goal.returns-in_err-reply
returns-in_err-reply g c =
    let long = c.loop-place.invariant.long in
    let last = c.loop-place.invariant.last in
    let test = c.loop-place-test.true in
    let is : c.from_residual.result ≡ Err c.in_err-reply.field-0.0 = search rules in
    record {
      played = asked_broken g.F.Disk.Shelf.seen g.F.Disk.File.Extent.seen _ (over (state_of c.loop-place.self.admin) c.loop-place.self.volumes.items) _ c.args.command.now c.loop-place.place c.loop-place.first c.play.result c.in_err-reply.field-0.0
          c.from_residual.result c.in_err-reply.was is (stands_there c.loop-place.self.volumes.items c.loop-place.place c.index.result.now (omega (arith, long, last, test)) c.index.ensures (c.is_none.ensures ∙ ap not c.if-is_none.false)) c.loop-place.invariant.asked c.play.ensures;
    }

pub loop-place-preserved-then-is_none : goal.loop-place-preserved-then-is_none
loop-place-preserved-then-is_none g c =
    let long = c.loop-place.invariant.long in
    let last = c.loop-place.invariant.last in
    let test = c.loop-place-test.true in
    record {
      asked = asked_skip g.F.Disk.Shelf.seen g.F.Disk.File.Extent.seen _ (over (state_of c.loop-place.self.admin) c.loop-place.self.volumes.items) c.args.command.now c.loop-place.place c.loop-place.first
          (none_stands c.loop-place.self.volumes.items c.loop-place.place c.index.result.now (omega (arith, long, last, test)) c.index.ensures (c.is_none.ensures ∙ ap not c.if-is_none.true)) c.loop-place.invariant.asked;
      long = long;
      last = last;
    }

pub loop-place-preserved : goal.loop-place-preserved
loop-place-preserved g c =
    let long = c.loop-place.invariant.long in
    let last = c.loop-place.invariant.last in
    let test = c.loop-place-test.true in
    let now = over (state_of c.loop-place.self.admin) c.loop-place.self.volumes.items in
    let new = over (state_of c.play.new.self.admin) c.play.new.self.volumes.items in
    record {
      asked = asked_on g.F.Disk.Shelf.seen g.F.Disk.File.Extent.seen _ now new c.args.command.now c.loop-place.place c.loop-place.first c.earlier-first.result c.play.result c.in_ok-reply.reply c.in_ok-reply.was
          (c.earlier-first.ensures ∙ ap (earlier c.loop-place.first) c.refusal_of.ensures)
          (stands_there c.loop-place.self.volumes.items c.loop-place.place c.index.result.now (omega (arith, long, last, test)) c.index.ensures (c.is_none.ensures ∙ ap not c.if-is_none.false)) c.loop-place.invariant.asked c.play.ensures;
      long = long_after g.F.Disk.Shelf.seen g.F.Disk.File.Extent.seen now new c.args.command.now c.loop-place.place c.play.result c.play.ensures ∙ long;
      last = last;
    }

pub returns : goal.returns
returns g c =
    let long = equally_long (over (state_of c.args.self.now.admin) c.args.self.now.volumes.items) c.requires.sound in
    let last = c.loop-place.invariant.last in
    let past = c.loop-place-test.false in
    record {
      played = asked_all g.F.Disk.Shelf.seen g.F.Disk.File.Extent.seen (over (state_of c.args.self.now.admin) c.args.self.now.volumes.items) (over (state_of c.loop-place.self.admin) c.loop-place.self.volumes.items) c.args.command.now c.loop-place.place
          c.loop-place.first (omega (arith, long, last, past)) c.loop-place.invariant.asked;
    }
