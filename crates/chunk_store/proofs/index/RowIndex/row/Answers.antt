use Rattle.std.proofs.Common.{◌∙◌, sym, ap}
use Rattle.chunk_store.specs.Kept.{Index, row_of}
use Rattle.chunk_store.proofs.Entries.{get_entry}
use Rattle.chunk_store.proofs.index.RowIndex.row.Goals as goal

pub returns : goal.returns
returns c =
    c.copied.ensures ∙ c.get.ensures.value ∙ sym (get_entry c.self.inside.rows.entries c.args.bid)
    ∙ ap (λ (index : Index). row_of index.kept c.args.bid) c.self.view_is
