use Rattle.blob_delete.proofs.SweepLemmas.{sweeps_whole}
use Rattle.blob_delete.proofs.sweeping.sweep.Goals as goal

pub returns : goal.returns
returns g c = sweeps_whole (g.P.Port.seen c.args.port.now) (g.P.Port.seen c.sweep_units-swept.new.port) c.args.bid c.sweep_units-swept.result c.is_way.ensures c.sweep_units-swept.ensures
