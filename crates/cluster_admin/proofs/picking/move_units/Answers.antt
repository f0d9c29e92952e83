use Rattle.std.proofs.Common.{sym, ap, ◌∙◌, ◌-◌, Some, None, set}
use Rattle.cluster_admin.specs.Picking.{moved_in}
use Rattle.cluster_admin.proofs.Slots.{put_back, empty_again, volume_there}
use Rattle.cluster_admin.proofs.picking.move_units.Goals as goal

pub returns-in-Some : goal.returns-in-Some
returns-in-Some c =
    put_back c.args.volumes.now c.take.new.self c.set.new.self (c.args.vid - 1) _ c.take.ensures.gone c.set.ensures
    ∙ ap (λ homes. set c.args.volumes.now (c.args.vid - 1) (Some (record c.in-Some.volume { homes = homes }))) c.move_homes.ensures
    ∙ sym (ap (moved_in c.args.volumes.now c.args.vid c.args.moved.now) (volume_there c.args.volumes.now c.args.vid (Some c.in-Some.volume) c.if-vid-eq0.false c.in-Some.ensures.taken))

pub returns-in-None : goal.returns-in-None
returns-in-None c =
    empty_again c.args.volumes.now c.take.new.self (c.args.vid - 1) c.in-None.ensures.taken c.take.ensures.gone
    ∙ sym (ap (moved_in c.args.volumes.now c.args.vid c.args.moved.now) (volume_there c.args.volumes.now c.args.vid None c.if-vid-eq0.false c.in-None.ensures.taken))
