use Rattle.std.proofs.Common.{◌∙◌, ap}
use Rattle.std.specs.FinMap.{FinMap}
use Rattle.std.specs.Ordering.{nat_cmp}
use Rattle.chunk_store.specs.Kept.{Index}
use Rattle.chunk_store.specs.declared.index.KeptRow.{KeptRow}
use Rattle.chunk_store.proofs.Entries.{same_entries}
use Rattle.chunk_store.proofs.index.RowIndex.reserve.Goals as goal

pub returns-clause-same : goal.returns-clause-same
returns-clause-same c =
    ap (λ (rows : FinMap nat_cmp KeptRow). record { rows = rows; fence = c.self.inside.fence; is_released = c.self.inside.is_released })
    (same_entries c.self.inside.rows.entries c.reserve.new.self.entries c.reserve.ensures.entries.2)
    ∙ ap (λ (index : Index). index.kept) c.self.view_is
