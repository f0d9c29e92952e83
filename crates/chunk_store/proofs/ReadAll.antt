-- How the reading of all records of a chunk goes on from one to the next, and what it comes to.
use Rattle.std.proofs.Common.{◌≡◌, ◌∙◌, sym, ap, subst, ℕ, List, [], ◌∷◌, ◌++◌, append_assoc, Option, None, Some, Result, Ok, Err, IfSome, inr}
use Rattle.unit_id.specs.UnitName.{Name}
use Rattle.gate_log.specs.LogFile.{holds, contents_of, bodies_in, bodies_of, end_place}
use Rattle.gate_log.specs.GateLog.{HasCome, ComesOn}
use Rattle.gate_log.specs.declared.start.Cursor.{Cursor}
use Rattle.gate_log.proofs.Come.{come_front}
use Rattle.shard_record.specs.Rows.{rows_after}
use Rattle.shard_record.specs.declared.record.ShardRecord.{ShardRecord}
use Rattle.chunk_store.specs.Kept.{KeptRows, Index, nothing_kept, kept_after}
use Rattle.chunk_store.specs.Records.{IsNext, AreRecords, Reflects}
use Rattle.chunk_store.specs.Reading.{RecordAnswers}
use Rattle.chunk_store.specs.Chunk.{IsFirstBad}
use Rattle.chunk_store.specs.Starting.{IsRead, IsBadAt, StepAnswers, RowsNames, RowsRead, FileAnswers}
use Rattle.chunk_store.specs.declared.starting.Step.TheVariants.{End}
use Rattle.chunk_store.specs.declared.fault.ChunkFault.{ChunkFault}
use Rattle.chunk_store.specs.declared.fault.ChunkFault.TheVariants.{Damaged, Spoiled}
use Rattle.chunk_store.proofs.RecordLists.{one_more, rows_after-one}
use Rattle.chunk_store.proofs.Reflecting.{nothing_reflects, reflects_next}

module _ (unit : Name) (file : List ℕ) where
  pub read_none : (cursor : Cursor) (kept : KeptRows) → kept ≡ nothing_kept → HasCome file [] cursor → IsRead unit file cursor kept
  read_none cursor kept none come = record {
    bodies = [];
    come = come;
    items = [];
    records = tt;
    reflects = subst (λ (k : KeptRows). Reflects unit [] k (rows_after [])) (sym none) (nothing_reflects unit []);
  }

  module _ (cursor new : Cursor) (kept : KeptRows) (read : IsRead unit file cursor kept) where
    -- one record more
    pub read_on : (place : ℕ) (body : List ℕ) (item : ShardRecord) (after : KeptRows) → ComesOn file read.bodies new (Ok (Some (place, body))) → RecordAnswers unit kept.is_released place body (Ok item) → after ≡ kept_after kept place item
        → IsRead unit file new after
    read_on place body item after comes is noted =
        let next : IsNext unit (rows_after read.items) body item = record { spells = is.0; own = is.1; unreleased = sym read.reflects.released ∙ is.2 } in
        record {
          bodies = read.bodies ++ body ∷ [];
          come = comes.1;
          items = read.items ++ item ∷ [];
          records = one_more unit read.bodies read.items body item read.records next;
          reflects =
              subst (λ (k : KeptRows). Reflects unit (read.bodies ++ body ∷ []) k (rows_after (read.items ++ item ∷ []))) (ap (λ p. kept_after kept p item) (sym comes.0) ∙ sym noted)
              (subst (Reflects unit (read.bodies ++ body ∷ []) (kept_after kept (end_place read.bodies) item)) (sym (rows_after-one read.items item))
              (reflects_next unit read.bodies kept (rows_after read.items) body item next read.reflects));
        }

    -- the end of the chain
    pub read_ends : ComesOn file read.bodies new (Ok None) → StepAnswers unit file new kept (Ok End)
    read_ends comes = (record { bodies = read.bodies; come = comes.1; items = read.items; records = read.records; reflects = read.reflects }, comes.0)

  first_bad : (cursor : Cursor) (place : ℕ) (body : List ℕ) → contents_of file ≡ holds (bodies_of file) → IsBadAt unit file cursor place body → IsFirstBad unit file place body
  first_bad cursor place body says bad =
      let front = come_front file (bad.before ++ body ∷ []) cursor bad.come (bodies_of file) says in
      record {
        before = bad.before;
        after = front.0;
        stands = says ∙ ap holds (front.1 ∙ append_assoc bad.before (body ∷ []) front.0);
        place_is = bad.place_is;
        items = bad.items;
        records = bad.records;
        bad = bad.bad;
      }

-- all of them, or the first bad one, where the chain is whole
pub rows_say : (unit : Name) (cursor : Cursor) (content : Option (List ℕ)) (rows : Result Index ChunkFault) → RowsNames (Ok rows) → IfSome content (λ file. RowsRead unit file cursor (Ok rows)) → IfSome content (λ file. contents_of file ≡ holds (bodies_of file)) → FileAnswers unit content rows
rows_say unit cursor None (Ok index) names read says = tt
rows_say unit cursor (Some file) (Ok index) names read says =
    let same : read.0.bodies ≡ bodies_of file = sym (ap bodies_in read.1) in
    record {
      stands = says;
      items = read.0.items;
      records = subst (λ (bs : List (List ℕ)). AreRecords unit bs read.0.items) same read.0.records;
      reflects = subst (λ (bs : List (List ℕ)). Reflects unit bs index.kept (rows_after read.0.items)) same read.0.reflects;
    }
rows_say unit cursor None (Err (Damaged kept computed)) names read says = tt
rows_say unit cursor (Some file) (Err (Damaged kept computed)) names read says = (read.0, read.1, first_bad unit file cursor read.0 read.1 says read.2, read.3)
rows_say unit cursor None (Err (Spoiled place)) names read says = tt
rows_say unit cursor (Some file) (Err (Spoiled place)) names read says = inr (inr (read.0, first_bad unit file cursor place read.0 says read.1, read.2))
rows_say unit cursor content (Err _) names read says = absurd names
