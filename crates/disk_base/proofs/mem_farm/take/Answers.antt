use Rattle.std.proofs.Common.{◌≡◌, Some, None, rules, subst}
use Rattle.disk_base.specs.FarmRacks.{SetsShelf}
use Rattle.disk_base.proofs.PlaceLaws.{sets_shelf}
use Rattle.disk_base.proofs.mem_farm.take.Goals as goal

pub returns-clause-out : goal.returns-clause-out
returns-clause-out c =
    let after : c.take.new.self ≡ None = c.take.ensures.after in
    subst (λ slot. SetsShelf c.args.disk c.args.vid (Some slot) c.args.slots.now.entries (c.get_mut.follows.lender c.take.new.self).entries) after
    (sets_shelf c.args.disk c.args.vid (Some c.take.new.self) c.args.slots.now (c.get_mut.follows.lender c.take.new.self) ((c.get_mut.follows.holds c.take.new.self).3 (search rules)))
