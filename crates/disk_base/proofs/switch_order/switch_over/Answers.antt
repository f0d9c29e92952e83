use Rattle.std.proofs.Common.{◌≡◌, true, rules, ◌∙◌}
use Rattle.disk_base.specs.JointMoments.{GoesOnAt, with_one}
use Rattle.disk_base.proofs.SwitchOrder.{refused_make, refused, held, marked, left_whole}
use Rattle.disk_base.proofs.switch_order.switch_over.Goals as goal

pub returns-in_default : goal.returns-in_default
returns-in_default g c =
    let stay = refused_make g.H.File.Extent.seen c.args.name (g.H.Shelf.seen c.args.shelf.now) (g.H.Shelf.seen c.make.new.self) c.in_default.field-0 c.in_default.ensures.answer in
    refused g.H.Shelf.seen g.H.File.Extent.seen c.args.mark_name c.args.name c.args.whole.now c.requires.apart c.args.mark.now c.requires.settled c.args.shelf.now c.make.new.self stay

pub returns-then-not-filled : goal.returns-then-not-filled
returns-then-not-filled g c =
    held g.H.Shelf.seen g.H.File.Extent.seen c.args.mark_name c.args.name c.args.whole.now c.requires.apart c.args.mark.now c.requires.settled c.args.shelf.now c.make.new.self c.in-Ok.ensures.answer.lent.others
    c.hold.new.self c.in-Ok.file c.fill-filled.new.file (g.met.H.File.Extent.is_file c.fill-filled.new.file) c.fill-filled.ensures.clock c.hold.ensures.others

pub returns : goal.returns
returns g c =
    let filled : c.fill-filled.result ≡ true = search rules in
    let told = c.in-Ok.ensures.call.told ∙ c.requires.told in
    let whole = c.fill-filled.ensures.whole filled in
    GoesOnAt (with_one c.hold.new.self c.args.mark_name c.args.mark.now) (with_one c.hold.new.self c.args.mark_name c.fill.new.file) c.args.mark_name
    (held g.H.Shelf.seen g.H.File.Extent.seen c.args.mark_name c.args.name c.args.whole.now c.requires.apart c.args.mark.now c.requires.settled c.args.shelf.now c.make.new.self c.in-Ok.ensures.answer.lent.others
    c.hold.new.self c.in-Ok.file c.fill-filled.new.file (g.met.H.File.Extent.is_file c.fill-filled.new.file) c.fill-filled.ensures.clock c.hold.ensures.others)
    (marked g.H.Shelf.seen g.H.File.Extent.seen c.args.mark_name c.args.name c.args.whole.now c.requires.apart c.hold.new.self c.args.mark.now c.fill.new.file (g.met.H.File.Extent.is_file c.fill.new.file) c.fill.ensures.clock
    (λ x left. left_whole g.H.File.Extent.seen c.fill-filled.new.file c.args.whole.now whole x (c.hold.ensures.leaves told x left)))
