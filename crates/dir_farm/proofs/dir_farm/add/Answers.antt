use Rattle.std.proofs.Common.{Some, None}
use Rattle.dir_farm.proofs.FarmLaws.{sets}
use Rattle.dir_farm.proofs.dir_farm.add.Goals as goal

pub returns-clause-out : goal.returns-clause-out
returns-clause-out g c = sets c.args.disk c.args.vid (Some None) c.args.shelves.now c.insert.new.self c.in_ok-insert.ensures.updates
