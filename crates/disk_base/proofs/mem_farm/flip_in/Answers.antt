use Rattle.std.proofs.Common.{Some, rules}
use Rattle.disk_base.proofs.PlaceLaws.{sets_shelf}
use Rattle.disk_base.proofs.mem_farm.flip_in.Goals as goal

pub returns-in-Some-clause-others : goal.returns-in-Some-clause-others
returns-in-Some-clause-others c =
    let new = c.flip_slot.new.slot in
    (sets_shelf c.args.place.0 c.args.place.1 (Some new) c.args.slots.now (c.get_mut.follows.lender new) ((c.get_mut.follows.holds new).3 (search rules))).others
