use Rattle.std.proofs.Common.{◌≡◌, sym, subst, Ok, arith}
use Rattle.volume_world.specs.Opening.{IsOpened, Opens}
use Rattle.volume_world.specs.Stepping.{NeedsNoMemory, Takes}
use Rattle.volume_world.proofs.Taking.{takes_behind}
use Rattle.volume_world.proofs.parts.Parts.happen.Goals as goal

pub returns-in-Ok-Ok-clause-takes : goal.returns-in-Ok-Ok-clause-takes
returns-in-Ok-Ok-clause-takes g c =
    let opened : (c.in-Ok-Ok.event ≡ c.args.event) × IsOpened g.H.Shelf.seen g.H.File.Extent.seen c.args.self.now c.open_log.new.self =
    subst (λ given. Opens g.H.Shelf.seen g.H.File.Extent.seen c.args.self.now c.open_log.new.self c.args.event (Ok given)) c.in-Ok-Ok.field-0-is c.in-Ok-Ok.ensures in
    takes_behind g.H.Shelf.seen g.H.File.Extent.seen 2 1 opened.1.settles c.args.self.now c.open_log.new.self c.answer_by_log.new.self c.args.event opened.1.settling
    (let few = opened.1.few in omega (arith, few)) opened.1.passes c.answer_by_log.result
    (subst (λ event. Takes g.H.Shelf.seen g.H.File.Extent.seen 1 c.open_log.new.self c.answer_by_log.new.self event c.answer_by_log.result) opened.0 c.answer_by_log.ensures.takes)

pub returns-in-Ok-Ok-clause-sure : goal.returns-in-Ok-Ok-clause-sure
returns-in-Ok-Ok-clause-sure g c needs =
    let opened : (c.in-Ok-Ok.event ≡ c.args.event) × IsOpened g.H.Shelf.seen g.H.File.Extent.seen c.args.self.now c.open_log.new.self =
    subst (λ given. Opens g.H.Shelf.seen g.H.File.Extent.seen c.args.self.now c.open_log.new.self c.args.event (Ok given)) c.in-Ok-Ok.field-0-is c.in-Ok-Ok.ensures in
    c.answer_by_log.ensures.sure c.args.self.now (subst (λ event. NeedsNoMemory c.args.self.now event) (sym opened.0) needs)
