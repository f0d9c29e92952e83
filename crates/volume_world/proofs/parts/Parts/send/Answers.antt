use Rattle.std.proofs.Common.{◌≡◌, sym, subst, rules, Err}
use Rattle.volume_world.specs.Stepping.{Takes}
use Rattle.volume_world.specs.declared.event.Event.TheVariants as events
use Rattle.volume_world.specs.declared.fault.StepFault.TheVariants.{Memory}
use Rattle.volume_world.proofs.RoomierWorlds.{roomier_ready, roomier_takes, roomier_not_done}
use Rattle.volume_world.proofs.parts.Parts.send.Goals as goal

pub returns-in_err-reserve_message : goal.returns-in_err-reserve_message
returns-in_err-reserve_message g c =
    let is : c.from_residual.result ≡ Err Memory = search rules in
    subst (λ result. Takes g.H.Shelf.seen g.H.File.Extent.seen 1 c.args.self.now c.reserve_message.new.self (events.Send c.args.request) result) (sym is)
    (roomier_not_done g.H.Shelf.seen g.H.File.Extent.seen c.args.self.now c.reserve_message.new.self c.in_err-reserve_message.ensures.roomier c.requires.sound)

pub send_with_room-requires : goal.send_with_room-requires
send_with_room-requires g c =
    record {
      ready = roomier_ready g.H.Shelf.seen g.H.File.Extent.seen c.args.self.now c.reserve_message.new.self c.in_ok-reserve_message.ensures.roomier c.requires.sound c.args.request
          c.requires.room c.requires.open c.requires.fits c.in_ok-reserve_message.ensures.room.0 c.in_ok-reserve_message.ensures.room.1;
    }

pub returns : goal.returns
returns g c =
    roomier_takes g.H.Shelf.seen g.H.File.Extent.seen c.args.self.now c.reserve_message.new.self c.in_ok-reserve_message.ensures.roomier c.requires.sound 1 c.send_with_room.new.self
    (events.Send c.args.request) c.send_with_room.result c.send_with_room.ensures
