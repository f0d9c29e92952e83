use Rattle.blob_access.proofs.StandInWay.{stand_way}
use Rattle.volume_turns.proofs.tests.StandInPort.is_way.Goals as goal

pub returns : goal.returns
returns c = stand_way c.args.self.now.entries.items
