use Rattle.std.proofs.Common.{rules}
use Rattle.std.specs.BTreeMap.{is_at}
use Rattle.disk_base.specs.Racks.{Becomes, IsShelfCrash}
use Rattle.disk_base.specs.FarmRacks.{place_cmp}
use Rattle.disk_base.proofs.Retained.{retained}
use Rattle.disk_base.proofs.mem_farm.crash_shelves.Goals as goal

pub returns : goal.returns
returns c disk vid = retained _ (Becomes IsShelfCrash) (λ f k v b w f' t. search rules) (is_at (place_cmp (disk, vid))) _ _ _ c.retain.ensures.filtered
