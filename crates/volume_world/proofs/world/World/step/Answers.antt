use Rattle.std.proofs.Common.{◌≡◌, ◌≤◌, ◌<◌, length, ℕ, sym, subst, arith}
use Rattle.volume_world.specs.Asking.{MayAsk}
use Rattle.volume_world.specs.Way.{longest_history}
use Rattle.volume_world.specs.Course.{IsFull, StepsBy}
use Rattle.volume_world.specs.World.{WorldOver}
use Rattle.volume_world.specs.WorldWay.{way_of}
use Rattle.volume_world.proofs.Worlds.{steps_full, steps_by, stays_by}
use Rattle.volume_world.proofs.world.World.step.Goals as goal

pub returns-then-entry_count-ge-LONGEST-clause-steps : goal.returns-then-entry_count-ge-LONGEST-clause-steps
returns-then-entry_count-ge-LONGEST-clause-steps g c =
    subst (λ world. IsFull (way_of g.H.Shelf.seen g.H.File.Extent.seen world) (way_of g.H.Shelf.seen g.H.File.Extent.seen world)) c.self.view_is
    (steps_full g.H.Shelf.seen g.H.File.Extent.seen c.self.inside.parts c.self.invariant
    (let count = c.entry_count.ensures in let more = c.if-entry_count-ge-LONGEST.true in omega (arith, count, more)))

pub invariant_of-self : goal.invariant_of-self
invariant_of-self g c =
    stays_by g.H.Shelf.seen g.H.File.Extent.seen c.self.inside.parts c.step.new.self c.args.event c.self.invariant
    (let count = c.entry_count.ensures in let less = c.if-entry_count-ge-LONGEST.false in omega (arith, count, less))
    (subst (λ world. MayAsk (way_of g.H.Shelf.seen g.H.File.Extent.seen world) c.args.event) (sym c.self.view_is) c.requires)
    c.step.result c.step.ensures.takes

pub returns-clause-steps : goal.returns-clause-steps
returns-clause-steps g c =
    subst (λ world. StepsBy (way_of g.H.Shelf.seen g.H.File.Extent.seen world) (way_of g.H.Shelf.seen g.H.File.Extent.seen c.step.new.self) c.args.event c.step.result) c.self.view_is
    (steps_by g.H.Shelf.seen g.H.File.Extent.seen g.met.H.Shelf.is_shelf g.met.H.File.Extent.is_file c.self.inside.parts c.step.new.self c.args.event c.self.invariant
    (let count = c.entry_count.ensures in let less = c.if-entry_count-ge-LONGEST.false in omega (arith, count, less))
    (subst (λ world. MayAsk (way_of g.H.Shelf.seen g.H.File.Extent.seen world) c.args.event) (sym c.self.view_is) c.requires)
    c.step.result c.step.ensures.takes)
