use Rattle.std.proofs.Common.{rules}
use Rattle.volume_world.proofs.stations_tests.unit_of.Goals as goal

pub returns : goal.returns
returns c = search (rules, (c.in_ok-new.ensures.ok c.in_ok-new.field-0).0)
