use Rattle.cluster_store.proofs.Integrity.{gets_show_puts}
use Rattle.cluster_store.proofs.laws.gets_show_puts.Goals as goal

pub returns : goal.returns
returns g c = gets_show_puts g.F.Disk.Shelf.seen g.F.Disk.File.Extent.seen c.puts_are_shown.ensures
