use Rattle.volume_entry.proofs.Walks.{free_tells}
use Rattle.volume_entry.proofs.legal.is_free.Goals as goal

pub returns : goal.returns
returns c = free_tells c.args.homes.now c.args.disk c.holder.result c.is_none.result c.holder.ensures c.is_none.ensures
