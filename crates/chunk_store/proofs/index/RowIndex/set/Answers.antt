use Rattle.std.proofs.Common.{◌≡◌, ◌∙◌, ap, IsOk, OnOk, Result, Ok, Err, true, false, rules}
use Rattle.std.specs.FinMap.{FinMap}
use Rattle.std.specs.Ordering.{nat_cmp}
use Rattle.chunk_store.specs.Kept.{Index, with_kept}
use Rattle.chunk_store.specs.declared.index.KeptRow.{KeptRow}
use Rattle.chunk_store.proofs.Entries.{one_set}
use Rattle.chunk_store.proofs.index.RowIndex.set.Goals as goal

when_ok : {T E P : Type 0} (r : Result T E) → IsOk r → OnOk r P → P
when_ok (Ok x) is p = p
when_ok (Err e) is p = absurd (apart is)
  where
    apart : false ≡ true → ⊥
    apart h = cc

pub returns-clause-kept : goal.returns-clause-kept
returns-clause-kept c =
    let ok : IsOk c.insert.result = search rules in
    ap (λ (rows : FinMap nat_cmp KeptRow). record { rows = rows; fence = c.self.inside.fence; is_released = c.self.inside.is_released })
    (one_set c.self.inside.rows.entries c.insert.new.self.entries c.args.bid c.args.row (when_ok c.insert.result ok c.insert.ensures.updates).0)
    ∙ ap (λ (index : Index). with_kept index.kept c.args.bid c.args.row) c.self.view_is
