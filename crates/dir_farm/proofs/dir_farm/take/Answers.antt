use Rattle.std.proofs.Common.{◌≡◌, Some, None, rules, subst}
use Rattle.dir_farm.specs.DirFarm.{SetsShelf}
use Rattle.dir_farm.proofs.FarmLaws.{sets}
use Rattle.dir_farm.proofs.dir_farm.take.Goals as goal

pub returns-clause-out : goal.returns-clause-out
returns-clause-out g c =
    let after : c.take.new.self ≡ None = c.take.ensures.after in
    subst (λ state. SetsShelf c.args.disk c.args.vid (Some state) c.args.shelves.now.entries (c.get_mut.follows.lender c.take.new.self).entries) after
    (sets c.args.disk c.args.vid (Some c.take.new.self) c.args.shelves.now (c.get_mut.follows.lender c.take.new.self) ((c.get_mut.follows.holds c.take.new.self).3 (search rules)))
