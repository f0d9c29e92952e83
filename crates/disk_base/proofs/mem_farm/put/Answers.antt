use Rattle.std.proofs.Common.{Some, rules}
use Rattle.disk_base.proofs.PlaceLaws.{sets_shelf}
use Rattle.disk_base.proofs.mem_farm.put.Goals as goal

pub returns : goal.returns
returns c = sets_shelf c.args.disk c.args.vid (Some (Some c.args.shelf)) c.args.slots.now (c.get_mut.follows.lender (Some c.args.shelf)) ((c.get_mut.follows.holds (Some c.args.shelf)).3 (search rules))
