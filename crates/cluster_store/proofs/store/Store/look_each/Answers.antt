use Rattle.std.proofs.Common.{rules, ◌≡◌, ◌∙◌, refl, ap, not, length, ◌++◌, ◌∷◌, [], Err, arith}
use Rattle.cluster_admin.specs.Inside.{state_of}
use Rattle.volume_turns.specs.declared.command.VolumeCommand.TheVariants as turns
use Rattle.volume_world.specs.declared.fault.StepFault.TheVariants.{Memory}
use Rattle.cluster_store.specs.Lines.{earlier}
use Rattle.cluster_store.specs.Store.{over}
use Rattle.cluster_store.proofs.Each.{looked_none, looked_is, looked_for, looked_on, looked_skip, looked_broken, looked_unkept, looked_all, long_after, stands_there, none_stands}
use Rattle.cluster_store.proofs.Stores.{equally_long}
use Rattle.cluster_store.proofs.store.Store.look_each.Goals as goal

pub loop-place-init : goal.loop-place-init
loop-place-init g c = record {
  looked = looked_none g.F.Disk.Shelf.seen g.F.Disk.File.Extent.seen (over (state_of c.args.self.now.admin) c.args.self.now.volumes.items) c.new-views.result.items c.new-views.ensures.items c.requires.sound;
  long = refl;
  last = ap length c.as_slice-place-end.ensures.value;
}

pub play-requires-clause-there : goal.play-requires-clause-there
play-requires-clause-there g c =
    let long = c.loop-place.invariant.long in
    let last = c.loop-place.invariant.last in
    let test = c.loop-place-test.true in
    looked_for g.F.Disk.Shelf.seen g.F.Disk.File.Extent.seen _ (over (state_of c.loop-place.self.admin) c.loop-place.self.volumes.items) c.loop-place.place c.loop-place.views.items c.loop-place.first c.loop-place.invariant.looked
    (stands_there c.loop-place.self.volumes.items c.loop-place.place c.index.result.now (omega (arith, long, last, test)) c.index.ensures (c.is_none.ensures ∙ ap not c.if-is_none.false))

pub play-requires-clause-sound : goal.play-requires-clause-sound
play-requires-clause-sound g c = looked_is g.F.Disk.Shelf.seen g.F.Disk.File.Extent.seen _ _ _ _ _ c.loop-place.invariant.looked

pub returns-in_err-reply : goal.returns-in_err-reply
returns-in_err-reply g c =
    let long = c.loop-place.invariant.long in
    let last = c.loop-place.invariant.last in
    let test = c.loop-place-test.true in
    let now = over (state_of c.loop-place.self.admin) c.loop-place.self.volumes.items in
    let new = over (state_of c.play.new.self.admin) c.play.new.self.volumes.items in
    let is : c.from_residual.result ≡ Err c.in_err-reply.field-0.0 = search rules in
    record { played = looked_broken g.F.Disk.Shelf.seen g.F.Disk.File.Extent.seen _ now new c.loop-place.place c.loop-place.views.items c.loop-place.first c.play.result c.in_err-reply.field-0.0 c.from_residual.result c.in_err-reply.was is (stands_there c.loop-place.self.volumes.items c.loop-place.place c.index.result.now (omega (arith, long, last, test)) c.index.ensures (c.is_none.ensures ∙ ap not c.if-is_none.false)) c.loop-place.invariant.looked c.play.ensures }

pub returns-in_err-push : goal.returns-in_err-push
returns-in_err-push g c =
    let long = c.loop-place.invariant.long in
    let last = c.loop-place.invariant.last in
    let test = c.loop-place-test.true in
    let now = over (state_of c.loop-place.self.admin) c.loop-place.self.volumes.items in
    let new = over (state_of c.play.new.self.admin) c.play.new.self.volumes.items in
    let is : c.from_residual-in_err-push.result ≡ Err Memory = search rules in
    record { played = looked_unkept g.F.Disk.Shelf.seen g.F.Disk.File.Extent.seen _ now new c.loop-place.place c.loop-place.views.items c.loop-place.first c.play.result c.in_ok-reply.reply c.from_residual-in_err-push.result c.in_ok-reply.was is (stands_there c.loop-place.self.volumes.items c.loop-place.place c.index.result.now (omega (arith, long, last, test)) c.index.ensures (c.is_none.ensures ∙ ap not c.if-is_none.false)) c.loop-place.invariant.looked c.play.ensures }

pub loop-place-preserved-then-is_none : goal.loop-place-preserved-then-is_none
loop-place-preserved-then-is_none g c =
    let long = c.loop-place.invariant.long in
    let last = c.loop-place.invariant.last in
    let test = c.loop-place-test.true in
    record {
      looked = looked_skip g.F.Disk.Shelf.seen g.F.Disk.File.Extent.seen _ (over (state_of c.loop-place.self.admin) c.loop-place.self.volumes.items) c.loop-place.place c.loop-place.views.items c.loop-place.first
          (none_stands c.loop-place.self.volumes.items c.loop-place.place c.index.result.now (omega (arith, long, last, test)) c.index.ensures (c.is_none.ensures ∙ ap not c.if-is_none.true)) c.loop-place.invariant.looked;
      long = long;
      last = last;
    }

pub loop-place-preserved : goal.loop-place-preserved
loop-place-preserved g c =
    let long = c.loop-place.invariant.long in
    let last = c.loop-place.invariant.last in
    let test = c.loop-place-test.true in
    let now = over (state_of c.loop-place.self.admin) c.loop-place.self.volumes.items in
    let new = over (state_of c.play.new.self.admin) c.play.new.self.volumes.items in
    record {
      looked = looked_on g.F.Disk.Shelf.seen g.F.Disk.File.Extent.seen _ now new c.loop-place.place c.loop-place.views.items c.push.new.self.items c.loop-place.first c.earlier-first.result c.play.result c.in_ok-reply.reply c.in_ok-reply.was
          (c.earlier-first.ensures ∙ ap (earlier c.loop-place.first) c.refusal_in.ensures) (c.in_ok-push.ensures.items ∙ ap (λ s. c.loop-place.views.items ++ s ∷ []) c.shown_by.ensures) (stands_there c.loop-place.self.volumes.items c.loop-place.place c.index.result.now (omega (arith, long, last, test)) c.index.ensures (c.is_none.ensures ∙ ap not c.if-is_none.false)) c.loop-place.invariant.looked c.play.ensures;
      long = long_after g.F.Disk.Shelf.seen g.F.Disk.File.Extent.seen now new turns.Look c.loop-place.place c.play.result c.play.ensures ∙ long;
      last = last;
    }

pub returns : goal.returns
returns g c =
    let long = equally_long (over (state_of c.args.self.now.admin) c.args.self.now.volumes.items) c.requires.sound in
    let last = c.loop-place.invariant.last in
    let past = c.loop-place-test.false in
    record {
      played = looked_all g.F.Disk.Shelf.seen g.F.Disk.File.Extent.seen (over (state_of c.args.self.now.admin) c.args.self.now.volumes.items) (over (state_of c.loop-place.self.admin) c.loop-place.self.volumes.items) c.loop-place.place c.loop-place.views.items c.loop-place.first (c.loop-place.views, c.loop-place.first) refl refl
          (omega (arith, long, last, past)) c.loop-place.invariant.looked;
    }
