use Rattle.cluster_store.proofs.Scripts.{one_command_more}
use Rattle.cluster_store.proofs.laws.one_command_more.Goals as goal

pub returns : goal.returns
returns g c = one_command_more g.F.Disk.Shelf.seen g.F.Disk.File.Extent.seen
