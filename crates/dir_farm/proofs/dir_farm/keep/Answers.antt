use Rattle.std.proofs.Common.{Some, rules}
use Rattle.dir_farm.proofs.FarmLaws.{sets}
use Rattle.dir_farm.proofs.dir_farm.keep.Goals as goal

pub returns : goal.returns
returns g c = sets c.args.disk c.args.vid (Some (Some c.args.shelf)) c.args.shelves.now (c.get_mut.follows.lender (Some c.args.shelf)) ((c.get_mut.follows.holds (Some c.args.shelf)).3 (search rules))
