use Rattle.cluster_store.proofs.Stores.{store_fresh}
use Rattle.cluster_store.proofs.store.Store.make.Goals as goal

pub returns-in-Ok-clause-sound : goal.returns-in-Ok-clause-sound
returns-in-Ok-clause-sound g c = store_fresh _ _ _ c.in-Ok.ensures.fresh c.new.ensures.items
