use Rattle.std.proofs.Common.{rules}
use Rattle.std.specs.Ordering.{nat_cmp}
use Rattle.std.specs.BTreeMap.{is_at}
use Rattle.disk_base.specs.Racks.{Becomes, IsFileCrash}
use Rattle.disk_base.proofs.Retained.{retained}
use Rattle.disk_base.proofs.mem_shelf.crash_files.Goals as goal

pub returns : goal.returns
returns c name = retained _ (Becomes IsFileCrash) (λ f k v b w f' t. search rules) (is_at (nat_cmp name)) _ _ _ c.retain.ensures.filtered
