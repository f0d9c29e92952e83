-- What the words of a chunk have to do with each other, for those that stand on it.
use Rattle.std.proofs.Common.{◌≡◌, ◌∙◌, ap, refl, subst, ℕ, false, List, Option, None, Some, IfSome}
use Rattle.unit_id.specs.UnitName.{Name}
use Rattle.disk_base.specs.Disk.{LeavesExactly}
use Rattle.shard_record.specs.Rows.{Row, Rows, rows_after, row_at}
use Rattle.shard_record.specs.Rows as rows
use Rattle.shard_record.specs.declared.record.ShardRecord.{ShardRecord}
use Rattle.chunk_store.specs.declared.index.KeptRow.{KeptRow}
use Rattle.chunk_store.specs.declared.index.KeptRow.TheVariants.{Live, Marked, Gone}
use Rattle.chunk_store.specs.Kept.{row_of, kind_of}
use Rattle.chunk_store.specs.Records.{IsChunkOf, IsKept, HasKinds, kind_of_row}
use Rattle.chunk_store.specs.Chunk.{ChunkView, Remembers, IsSound, HasRecords}
use Rattle.chunk_store.proofs.Opened.{told_at, same_chunk}

same_kind : (unit : Name) (bodies : List (List ℕ)) (bid : ℕ) (kept : Option KeptRow) (row : Option Row) → IsKept unit bodies bid kept row → kind_of kept ≡ kind_of_row row
same_kind unit bodies bid None None is = refl
same_kind unit bodies bid (Some (Live place blob_size)) (Some (rows.Live size bytes)) is = refl
same_kind unit bodies bid (Some Marked) (Some rows.Marked) is = refl
same_kind unit bodies bid (Some Gone) (Some rows.Gone) is = refl
same_kind unit bodies bid _ _ is = absurd is

-- a chunk that isn't shut keeps the rows that its records leave
pub has_kinds : (chunk : ChunkView) (items : List ShardRecord) → IsSound chunk → chunk.is_shut ≡ false → HasRecords chunk items → HasKinds chunk.kept (rows_after items)
has_kinds chunk items sound open_ has =
    let at = told_at chunk.file.content (λ file. IsChunkOf file chunk.unit items × LeavesExactly file chunk.file.images) has in
    let r : Remembers chunk.unit chunk.kept chunk.file.images at.value = subst (λ o. IfSome o (Remembers chunk.unit chunk.kept chunk.file.images)) at.is (sound open_).told in
    let same = same_chunk at.value chunk.unit r.items items r.chunk at.holds.0 in
    record {
      kinds = λ bid. same_kind chunk.unit r.chunk.bodies bid (row_of chunk.kept bid) (row_at items bid)
          (subst (λ (xs : List ShardRecord). IsKept chunk.unit r.chunk.bodies bid (row_of chunk.kept bid) (row_at xs bid)) same (r.reflects.rows bid));
      fence = r.reflects.fence ∙ ap (λ (xs : List ShardRecord). (rows_after xs).fence) same;
      released = r.reflects.released ∙ ap (λ (xs : List ShardRecord). (rows_after xs).is_released) same;
    }
