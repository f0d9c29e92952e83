use Rattle.std.proofs.Common.{Some, None}
use Rattle.disk_base.proofs.PlaceLaws.{sets_shelf}
use Rattle.disk_base.proofs.mem_farm.lend.Goals as goal

pub returns-then-not-contains_key-clause-lent : goal.returns-then-not-contains_key-clause-lent
returns-then-not-contains_key-clause-lent c = sets_shelf c.args.disk c.args.vid (Some None) c.args.slots.now c.insert.new.self c.in_ok-insert.ensures.updates
