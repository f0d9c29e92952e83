-- What a get shows of a row.
use Rattle.std.proofs.Common.{◌≡◌, ◌∙◌, sym, ap, refl, subst, ℕ, List, Option, None, Some, Err, IfSome, IsSomeAnd}
use Rattle.unit_id.specs.UnitName.{Name}
use Rattle.disk_base.specs.Disk.{FileView, LeavesExactly}
use Rattle.gate_log.specs.LogFile.{bodies_in, bodies_of}
use Rattle.shard_record.specs.Rows.{Row, row_at, rows_after}
use Rattle.shard_record.specs.Rows as rows
use Rattle.shard_record.specs.declared.record.ShardRecord.{ShardRecord}
use Rattle.shard_record.specs.declared.record.ShardRecord.TheVariants.{Shard}
use Rattle.chunk_store.specs.Kept.{KeptRows, row_of}
use Rattle.chunk_store.specs.Records.{IsChunkOf, StandsAt, IsKept}
use Rattle.chunk_store.specs.Chunk.{Remembers, IsOpen, got_of, Gets}
use Rattle.chunk_store.specs.Reading.{FindsShard}
use Rattle.chunk_store.specs.declared.index.KeptRow.{KeptRow}
use Rattle.chunk_store.specs.declared.index.KeptRow.TheVariants.{Live, Marked, Gone}
use Rattle.chunk_store.specs.declared.fault.ChunkFault.{ChunkFault}
use Rattle.chunk_store.specs.declared.fault.ChunkFault.TheVariants.{Fault, Memory}
use Rattle.chunk_store.specs.declared.answer.Got.TheVariants as got
use Rattle.chunk_store.proofs.Opened.{told_at, same_chunk}

-- the row of a blob, of a chunk whose file tells its records
pub record ShowsRow (unit : Name) (file : FileView) (bid : ℕ) (kept : Option KeptRow) (items : List ShardRecord) : Type 0 where
  pub bytes : List ℕ
  pub told : file.content ≡ Some bytes
  pub is : IsKept unit (bodies_of bytes) bid kept (row_at items bid)

module _ (unit : Name) (bid : ℕ) where
  pub shows_row : (kept : KeptRows) (file : FileView) (end : Option ℕ) (items : List ShardRecord) → IsOpen unit kept file end → IsSomeAnd file.content (λ bytes. IsChunkOf bytes unit items × LeavesExactly bytes file.images) → ShowsRow unit file bid (row_of kept bid) items
  shows_row kept file end items open_ records =
      let at = told_at file.content (λ bytes. IsChunkOf bytes unit items × LeavesExactly bytes file.images) records in
      let r : Remembers unit kept file.images at.value = subst (λ o. IfSome o (Remembers unit kept file.images)) at.is open_.told in
      let same = same_chunk at.value unit r.items items r.chunk at.holds.0 in
      record {
        bytes = at.value;
        told = at.is;
        is =
            subst (λ (bodies : List (List ℕ)). IsKept unit bodies bid (row_of kept bid) (row_at items bid)) (sym (ap bodies_in r.chunk.log.stands))
            (subst (λ (xs : List ShardRecord). IsKept unit r.chunk.bodies bid (row_of kept bid) (row_at xs bid)) same (r.reflects.rows bid));
      }

  module _ (bodies : List (List ℕ)) where
    pub shows_absent : (row : Option Row) → IsKept unit bodies bid None row → got.Absent ≡ got_of row
    shows_absent None is = refl
    shows_absent (Some (rows.Live size bytes)) is = absurd is
    shows_absent (Some rows.Marked) is = absurd is
    shows_absent (Some rows.Gone) is = absurd is

    pub shows_marked : (row : Option Row) → IsKept unit bodies bid (Some Marked) row → got.Marked ≡ got_of row
    shows_marked (Some rows.Marked) is = refl
    shows_marked None is = absurd is
    shows_marked (Some (rows.Live size bytes)) is = absurd is
    shows_marked (Some rows.Gone) is = absurd is

    pub shows_gone : (row : Option Row) → IsKept unit bodies bid (Some Gone) row → got.Gone ≡ got_of row
    shows_gone (Some rows.Gone) is = refl
    shows_gone None is = absurd is
    shows_gone (Some (rows.Live size bytes)) is = absurd is
    shows_gone (Some rows.Marked) is = absurd is

    module _ (place blob_size : ℕ) where
      pub shows_live : (row : Option Row) (found : List ℕ) → IsKept unit bodies bid (Some (Live place blob_size)) row → ((bytes : List ℕ) → StandsAt bodies place (Shard bid unit blob_size bytes) → found ≡ bytes) → got.Live blob_size found ≡ got_of row
      shows_live (Some (rows.Live size bytes)) found is finds =
          let same = finds bytes (subst (λ n. StandsAt bodies place (Shard bid unit n bytes)) (sym is.0) is.1) in
          ap (λ n. got.Live n found) is.0 ∙ ap (got.Live size) same
      shows_live None found is finds = absurd is
      shows_live (Some rows.Marked) found is finds = absurd is
      shows_live (Some rows.Gone) found is finds = absurd is

      fault_shown : (row : Option Row) (bytes : List ℕ) (fault : ChunkFault) → FindsShard bytes (Err fault) → Gets row (Err fault)
      fault_shown row bytes Fault is = tt
      fault_shown row bytes Memory is = tt
      fault_shown row bytes _ is = absurd is

      pub shows_fault : (row : Option Row) (cause : ChunkFault) → IsKept unit bodies bid (Some (Live place blob_size)) row → ((bytes : List ℕ) → StandsAt bodies place (Shard bid unit blob_size bytes) → FindsShard bytes (Err cause)) → Gets row (Err cause)
      shows_fault (Some (rows.Live size bytes)) cause is finds =
          fault_shown (Some (rows.Live size bytes)) bytes cause (finds bytes (subst (λ n. StandsAt bodies place (Shard bid unit n bytes)) (sym is.0) is.1))
      shows_fault None cause is finds = absurd is
      shows_fault (Some rows.Marked) cause is finds = absurd is
      shows_fault (Some rows.Gone) cause is finds = absurd is
