-- The call on the manager's part for each event.
use Rattle.std.proofs.Common.{sym, subst}
use Rattle.volume_entry.specs.Entry.{FitsEvent}
use Rattle.volume_entry.specs.TableParts.{shape_of}
use Rattle.volume_entry.specs.declared.event.ManagerEvent.TheVariants as steps
use Rattle.volume_world.specs.Managing.{StepsEntry}
use Rattle.volume_world.specs.World.{WorldOver}
use Rattle.volume_world.proofs.StepAnswers.{step_known, plain_step_known}
use Rattle.volume_world.proofs.parts.Parts.step_entry.Goals as goal

pub returns-in-Lease-clause-steps : goal.returns-in-Lease-clause-steps
returns-in-Lease-clause-steps g c =
    let fits : FitsEvent (shape_of c.self.inside.entry.book.shape) c.args.event.now =
    subst (λ (s : WorldOver g.row.H.Denot g.row.H-File.Denot). FitsEvent (shape_of s.entry.book.shape) c.args.event.now) (sym c.self.view_is) c.requires.fits in
    subst (λ (s : WorldOver g.row.H.Denot g.row.H-File.Denot). StepsEntry g.H.File.Extent.seen s.time c.args.event.now s.entry c.lease.new.self c.lease.result) c.self.view_is
    (plain_step_known g.H.File.Extent.seen c.self.inside.time c.args.event.now steps.Lease c.self.inside.entry c.lease.new.self c.lease.result c.in-Lease.is tt fits c.lease.ensures.call c.lease.ensures.steps c.lease.ensures.kinds (g.met.H.File.Extent.is_file c.lease.new.self.book.log.file)
    c.lease.ensures.lasts c.lease.ensures.grows c.lease.ensures.moments)

pub returns-in-Lock-clause-steps : goal.returns-in-Lock-clause-steps
returns-in-Lock-clause-steps g c =
    let fits : FitsEvent (shape_of c.self.inside.entry.book.shape) c.args.event.now =
    subst (λ (s : WorldOver g.row.H.Denot g.row.H-File.Denot). FitsEvent (shape_of s.entry.book.shape) c.args.event.now) (sym c.self.view_is) c.requires.fits in
    subst (λ (s : WorldOver g.row.H.Denot g.row.H-File.Denot). StepsEntry g.H.File.Extent.seen s.time c.args.event.now s.entry c.lock.new.self c.lock.result) c.self.view_is
    (step_known g.H.File.Extent.seen c.self.inside.time c.args.event.now (steps.Lock c.in-Lock.task c.in-Lock.targets) c.self.inside.entry c.lock.new.self c.lock.result c.in-Lock.is fits c.lock.ensures.call c.lock.ensures.steps c.lock.ensures.kinds c.lock.ensures.places (g.met.H.File.Extent.is_file c.lock.new.self.book.log.file)
    c.lock.ensures.lasts c.lock.ensures.grows c.lock.ensures.moments)

pub returns-in-Retarget-clause-steps : goal.returns-in-Retarget-clause-steps
returns-in-Retarget-clause-steps g c =
    let fits : FitsEvent (shape_of c.self.inside.entry.book.shape) c.args.event.now =
    subst (λ (s : WorldOver g.row.H.Denot g.row.H-File.Denot). FitsEvent (shape_of s.entry.book.shape) c.args.event.now) (sym c.self.view_is) c.requires.fits in
    subst (λ (s : WorldOver g.row.H.Denot g.row.H-File.Denot). StepsEntry g.H.File.Extent.seen s.time c.args.event.now s.entry c.retarget.new.self c.retarget.result) c.self.view_is
    (step_known g.H.File.Extent.seen c.self.inside.time c.args.event.now (steps.Retarget c.in-Retarget.task c.in-Retarget.index c.in-Retarget.disk) c.self.inside.entry c.retarget.new.self c.retarget.result c.in-Retarget.is fits c.retarget.ensures.call (c.retarget.ensures.steps c.self.inside.time) c.retarget.ensures.kinds c.retarget.ensures.places (g.met.H.File.Extent.is_file c.retarget.new.self.book.log.file)
    c.retarget.ensures.lasts c.retarget.ensures.grows c.retarget.ensures.moments)

pub returns-in-Swap-clause-steps : goal.returns-in-Swap-clause-steps
returns-in-Swap-clause-steps g c =
    let fits : FitsEvent (shape_of c.self.inside.entry.book.shape) c.args.event.now =
    subst (λ (s : WorldOver g.row.H.Denot g.row.H-File.Denot). FitsEvent (shape_of s.entry.book.shape) c.args.event.now) (sym c.self.view_is) c.requires.fits in
    subst (λ (s : WorldOver g.row.H.Denot g.row.H-File.Denot). StepsEntry g.H.File.Extent.seen s.time c.args.event.now s.entry c.swap.new.self c.swap.result) c.self.view_is
    (plain_step_known g.H.File.Extent.seen c.self.inside.time c.args.event.now (steps.Swap c.in-Swap.task) c.self.inside.entry c.swap.new.self c.swap.result c.in-Swap.is tt fits c.swap.ensures.call (c.swap.ensures.steps c.self.inside.time) c.swap.ensures.kinds (g.met.H.File.Extent.is_file c.swap.new.self.book.log.file)
    c.swap.ensures.lasts c.swap.ensures.grows c.swap.ensures.moments)

pub returns-in-Unlock-clause-steps : goal.returns-in-Unlock-clause-steps
returns-in-Unlock-clause-steps g c =
    let fits : FitsEvent (shape_of c.self.inside.entry.book.shape) c.args.event.now =
    subst (λ (s : WorldOver g.row.H.Denot g.row.H-File.Denot). FitsEvent (shape_of s.entry.book.shape) c.args.event.now) (sym c.self.view_is) c.requires.fits in
    subst (λ (s : WorldOver g.row.H.Denot g.row.H-File.Denot). StepsEntry g.H.File.Extent.seen s.time c.args.event.now s.entry c.unlock.new.self c.unlock.result) c.self.view_is
    (plain_step_known g.H.File.Extent.seen c.self.inside.time c.args.event.now (steps.Unlock c.in-Unlock.task) c.self.inside.entry c.unlock.new.self c.unlock.result c.in-Unlock.is tt fits c.unlock.ensures.call (c.unlock.ensures.steps c.self.inside.time) c.unlock.ensures.kinds (g.met.H.File.Extent.is_file c.unlock.new.self.book.log.file)
    c.unlock.ensures.lasts c.unlock.ensures.grows c.unlock.ensures.moments)

pub returns-in-Ask-clause-steps : goal.returns-in-Ask-clause-steps
returns-in-Ask-clause-steps g c =
    let fits : FitsEvent (shape_of c.self.inside.entry.book.shape) c.args.event.now =
    subst (λ (s : WorldOver g.row.H.Denot g.row.H-File.Denot). FitsEvent (shape_of s.entry.book.shape) c.args.event.now) (sym c.self.view_is) c.requires.fits in
    subst (λ (s : WorldOver g.row.H.Denot g.row.H-File.Denot). StepsEntry g.H.File.Extent.seen s.time c.args.event.now s.entry c.ask.new.self c.ask.result) c.self.view_is
    (plain_step_known g.H.File.Extent.seen c.self.inside.time c.args.event.now (steps.Ask c.in-Ask.bid) c.self.inside.entry c.ask.new.self c.ask.result c.in-Ask.is tt fits c.ask.ensures.call (c.ask.ensures.steps c.self.inside.time) c.ask.ensures.kinds (g.met.H.File.Extent.is_file c.ask.new.self.book.log.file)
    c.ask.ensures.lasts c.ask.ensures.grows c.ask.ensures.moments)

pub returns-in-Commit-clause-steps : goal.returns-in-Commit-clause-steps
returns-in-Commit-clause-steps g c =
    let fits : FitsEvent (shape_of c.self.inside.entry.book.shape) c.args.event.now =
    subst (λ (s : WorldOver g.row.H.Denot g.row.H-File.Denot). FitsEvent (shape_of s.entry.book.shape) c.args.event.now) (sym c.self.view_is) c.requires.fits in
    subst (λ (s : WorldOver g.row.H.Denot g.row.H-File.Denot). StepsEntry g.H.File.Extent.seen s.time c.args.event.now s.entry c.commit.new.self c.commit.result) c.self.view_is
    (plain_step_known g.H.File.Extent.seen c.self.inside.time c.args.event.now (steps.Commit c.in-Commit.bid) c.self.inside.entry c.commit.new.self c.commit.result c.in-Commit.is tt fits c.commit.ensures.call (c.commit.ensures.steps c.self.inside.time) c.commit.ensures.kinds (g.met.H.File.Extent.is_file c.commit.new.self.book.log.file)
    c.commit.ensures.lasts c.commit.ensures.grows c.commit.ensures.moments)
