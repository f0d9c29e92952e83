use Rattle.blob_node.proofs.Lasting.{quiet_has_no_fault}
use Rattle.blob_node.proofs.laws.quiet_has_no_fault.Goals as goal

pub returns : goal.returns
returns g c = quiet_has_no_fault g.H.Shelf.seen g.H.File.Extent.seen c.args.station.now (g.met.H.Shelf.is_shelf c.args.station.now.shelf) g.met.H.File.Extent.is_file
