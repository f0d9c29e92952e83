-- What a record that is written leaves of a chunk.
use Rattle.std.proofs.Common.{◌≡◌, ◌∙◌, sym, ap, refl, subst, ℕ, ◌+◌, ◌<◌, ◌≤◌, true, false, List, [], ◌∷◌, ◌++◌, length, Option, None, Some, Result, Ok, Err, IfSome, IsSome, IsSomeAnd, OnOk, inl, inr, arith}
use Rattle.std.specs.Prelude.{is_some, is_ok}
use Rattle.std.proofs.lemmas.List.Sums.{sum_by_push}
use Rattle.unit_id.specs.UnitName.{Name}
use Rattle.disk_base.specs.Disk.{LeavesExactly}
use Rattle.disk_base.specs.Moments.{weaker}
use Rattle.gate_log.specs.LogFile.{bodies_in, bodies_of, end_place, record_length, IsLogOf, IsAtRest}
use Rattle.gate_log.specs.GateLog.{LogView, IfStarted, HasBodies, IsStarted}
use Rattle.shard_record.specs.Rows.{rows_after}
use Rattle.shard_record.specs.Spelling.{Spells, unit_of}
use Rattle.shard_record.specs.declared.record.ShardRecord.{ShardRecord}
use Rattle.chunk_store.specs.Kept.{KeptRows, kept_after, is_fault}
use Rattle.chunk_store.specs.Records.{IsNext, AreRecords, IsChunkOf, IsWithOrWithout, Reflects}
use Rattle.chunk_store.specs.Chunk.{ChunkView, Remembers, IsOpen, HasRecords, AddsTo, Adds, AddEnds, ChunkCall, record_size}
use Rattle.chunk_store.specs.Writing.{AppendEnds, RefusesFull, AppendsRecord, MayHaveRecord}
use Rattle.chunk_store.specs.declared.fault.ChunkFault.{ChunkFault}
use Rattle.chunk_store.specs.declared.fault.ChunkFault.TheVariants.{Fault, Full, Memory}
use Rattle.chunk_store.proofs.AddRecord.{spelled_length}
use Rattle.chunk_store.proofs.Finding.{some_and, at_started}
use Rattle.chunk_store.proofs.Opened.{told_at, some_is, tells_still, same_chunk, reads_open}
use Rattle.chunk_store.proofs.RecordLists.{one_more, rows_after-one}
use Rattle.chunk_store.proofs.Reflecting.{reflects_next}

-- a log at rest is whole
log_at_rest : (file : List ℕ) (bodies : List (List ℕ)) → IsAtRest file bodies → IsLogOf file bodies
log_at_rest file bodies rest = record {
  stands = rest.stands;
  gate = inr (subst (λ (b : List (List ℕ)). end_place b < length file) (sym (ap bodies_in rest.stands)) rest.inside);
}

-- where the record stands that a log has last
place_of : (end : Option ℕ) (place n last : ℕ) (bodies : List (List ℕ)) (body : List ℕ) → end ≡ Some (place + 5 + n) → end ≡ Some last → last ≡ end_place (bodies ++ body ∷ []) → length body ≡ n → place ≡ end_place bodies
place_of end place n last bodies body is at behind size =
    let same : place + 5 + n ≡ last = cc in
    omega (arith, same, behind, size, sum_by_push record_length bodies body)

module _ (unit : Name) (item : ShardRecord) (own : unit_of item ≡ unit) where
  further : (items : List ShardRecord) (body : List ℕ) → Spells item body → (rows_after items).is_released ≡ false → IsNext unit (rows_after items) body item
  further items body spells unreleased = record { spells = spells; own = own; unreleased = unreleased }

  -- a log of the bodies with the record's spelling is a chunk with the record
  pub with_record : (file : List ℕ) (bodies : List (List ℕ)) (items : List ShardRecord) → AreRecords unit bodies items → (rows_after items).is_released ≡ false → MayHaveRecord bodies item file → IsWithOrWithout unit items item file
  with_record file bodies items records unreleased (inl log) = inl (record { bodies = bodies; log = log; records = records })
  with_record file bodies items records unreleased (inr more) =
      inr (record { bodies = bodies ++ more.0 ∷ []; log = more.2; records = one_more unit bodies items more.0 item records (further items more.0 more.1 unreleased) })

  module _ (kept : KeptRows) (unreleased : kept.is_released ≡ false) (old new : LogView) (open_ : IsOpen unit kept old.file old.end) where
    -- an open chunk, told, with the bodies of its file
    record At (place : ℕ) : Type 0 where
      bytes : List ℕ
      told : old.file.content ≡ Some bytes
      items : List ShardRecord
      log : IsLogOf bytes (bodies_of bytes)
      records : AreRecords unit (bodies_of bytes) items
      reflects : Reflects unit (bodies_of bytes) kept (rows_after items)

    at_file : (place : ℕ) (bytes : List ℕ) → old.file.content ≡ Some bytes → At place
    at_file place bytes told =
        let r : Remembers unit kept old.file.images bytes = subst (λ o. IfSome o (Remembers unit kept old.file.images)) told open_.told in
        let same : r.chunk.bodies ≡ bodies_of bytes = sym (ap bodies_in r.chunk.log.stands) in
        record {
          bytes = bytes;
          told = told;
          items = r.items;
          log = subst (IsLogOf bytes) same r.chunk.log;
          records = subst (λ (b : List (List ℕ)). AreRecords unit b r.items) same r.chunk.records;
          reflects = subst (λ (b : List (List ℕ)). Reflects unit b kept (rows_after r.items)) same r.reflects;
        }

    -- after Ok the chunk is open, and memory reflects the record too
    pub added_open : (place : ℕ) (after : KeptRows) → old.end ≡ Some place → new.end ≡ Some (place + 5 + record_size item) → is_some new.file.content ≡ is_some old.file.content → IfStarted old (λ bodies. AppendsRecord bodies item old new (Ok place)) → after ≡ kept_after kept place item → IsOpen unit after new.file new.end
    unfolding at_file
    added_open place after ends ended tells appends noted = record {
      started = subst IsSome (sym ended) refl;
      told = tells_still old.file.content new.file.content (Remembers unit after new.file.images) tells (λ bytes told.
          let at = at_file place bytes told in
          let bodies = bodies_of bytes in
          let added = (at_started old.end old.file.content place bytes (λ b. AppendsRecord b item old new (Ok place)) ends told appends).added in
          let body = added.0 in
          let last = told_at new.end (λ end. IsSomeAnd new.file.content (IsStarted new.file.images end (bodies ++ body ∷ []))) added.2 in
          let now = told_at new.file.content (IsStarted new.file.images last.value (bodies ++ body ∷ [])) last.holds in
          let stands : place ≡ end_place bodies = place_of new.end place (record_size item) last.value bodies body ended last.is now.holds.end_is (spelled_length item body added.1) in
          let next = further at.items body added.1 (sym at.reflects.released ∙ unreleased) in
          some_and new.file.content now.value (Remembers unit after new.file.images) now.is
          (record {
            items = at.items ++ item ∷ [];
            chunk = record { bodies = bodies ++ body ∷ []; log = log_at_rest now.value (bodies ++ body ∷ []) now.holds.at_rest; records = one_more unit bodies at.items body item at.records next };
            exactly = now.holds.exactly;
            reflects =
                subst (λ (k : KeptRows). Reflects unit (bodies ++ body ∷ []) k (rows_after (at.items ++ item ∷ []))) (ap (λ p. kept_after kept p item) (sym stands) ∙ sym noted)
                (subst (Reflects unit (bodies ++ body ∷ []) (kept_after kept (end_place bodies) item)) (sym (rows_after-one at.items item))
                (reflects_next unit bodies kept (rows_after at.items) body item next at.reflects));
          }));
    }

-- ---- the whole of a call that writes a record

on_ok_said : {T : Type 0} (result : Result ℕ ChunkFault) (answer : Result T ChunkFault) (P Q : Type 0) → is_ok answer ≡ is_ok result → (P → Q) → OnOk result P → OnOk answer Q
on_ok_said (Ok x) (Ok y) P Q same f h = f h
on_ok_said (Err x) (Ok y) P Q same f h = absurd (apart same)
  where
    apart : true ≡ false → ⊥
    apart e = cc
on_ok_said result (Err y) P Q same f h = tt

abbrev log_of : ChunkView → LogView
log_of chunk = record { file = chunk.file; end = chunk.end }

module _ (before after : ChunkView) (item : ShardRecord) (own : unit_of item ≡ before.unit) (same_unit : after.unit ≡ before.unit) (unreleased : before.kept.is_released ≡ false) (open_ : IsOpen before.unit before.kept before.file before.end) where
  has_added : (bodies : List (List ℕ)) (items : List ShardRecord) → AreRecords before.unit bodies items → (rows_after items).is_released ≡ false → ((body : List ℕ) × Spells item body × HasBodies (log_of after) (bodies ++ body ∷ [])) → HasRecords after (items ++ item ∷ [])
  has_added bodies items records free added =
      let body = added.0 in
      let last = told_at after.end (λ end. IsSomeAnd after.file.content (IsStarted after.file.images end (bodies ++ body ∷ []))) added.2 in
      let now = told_at after.file.content (IsStarted after.file.images last.value (bodies ++ body ∷ [])) last.holds in
      some_and after.file.content now.value (λ file. IsChunkOf file after.unit (items ++ item ∷ []) × LeavesExactly file after.file.images) now.is (
        subst (λ (u : Name). IsChunkOf now.value u (items ++ item ∷ [])) (sym same_unit)
            (record {
              bodies = bodies ++ body ∷ [];
              log = log_at_rest now.value (bodies ++ body ∷ []) now.holds.at_rest;
              records = one_more before.unit bodies items body item records (further before.unit item own items body added.1 free);
            }),
        now.holds.exactly,
      )

  -- over a file that tells these records
  adds_told : {T : Type 0} (result : Result ℕ ChunkFault) (answer : Result T ChunkFault) → is_ok answer ≡ is_ok result → IfStarted (log_of before) (λ bodies. AppendsRecord bodies item (log_of before) (log_of after) result) → (items : List ShardRecord) → HasRecords before items → AddsTo items item before after answer
  adds_told result answer same appends items has =
      let at = told_at before.file.content (λ file. IsChunkOf file before.unit items × LeavesExactly file before.file.images) has in
      let bytes = at.value in
      let bodies = bodies_of bytes in
      let r : Remembers before.unit before.kept before.file.images bytes = subst (λ o. IfSome o (Remembers before.unit before.kept before.file.images)) at.is open_.told in
      let records : AreRecords before.unit bodies items = subst (λ (b : List (List ℕ)). AreRecords before.unit b items) (sym (ap bodies_in at.holds.0.log.stands)) at.holds.0.records in
      let free : (rows_after items).is_released ≡ false =
      ap (λ (xs : List ShardRecord). (rows_after xs).is_released) (same_chunk bytes before.unit items r.items at.holds.0 r.chunk) ∙ sym r.reflects.released ∙ unreleased in
      let end = some_is before.end open_.started in
      let a = at_started before.end before.file.content end.0 bytes (λ b. AppendsRecord b item (log_of before) (log_of after) result) end.1 at.is appends in
      let is : (file : List ℕ) → MayHaveRecord bodies item file → IsWithOrWithout after.unit items item file =
      λ file may. subst (λ (u : Name). IsWithOrWithout u items item file) (sym same_unit) (with_record before.unit item own file bodies items records free may) in
      record {
        added = on_ok_said result answer _ (HasRecords after (items ++ item ∷ [])) same (has_added bodies items records free) a.added;
        stands = let now = told_at after.file.content (MayHaveRecord bodies item) a.stands in some_and after.file.content now.value (IsWithOrWithout after.unit items item) now.is (is now.value now.holds);
        any_moment = weaker (MayHaveRecord bodies item) (IsWithOrWithout after.unit items item) before.file after.file a.any_moment is;
      }

  full_carried : {T : Type 0} (result : Result ℕ ChunkFault) (answer : Result T ChunkFault) (end : Option ℕ) → ((cause : ChunkFault) → result ≡ Err cause → answer ≡ Err cause) → RefusesFull item end result → RefusesFull item end answer
  full_carried result answer None carry h = tt
  full_carried result answer (Some place) carry h = λ full. elim (h full) [ inl is ↦ inl (carry (Full place) is) | inr is ↦ inr (carry Memory is) ]

  not_err : {T : Type 0} (place : ℕ) (answer : T) (cause : ChunkFault) (result : Result ℕ ChunkFault) → result ≡ Ok place → result ≡ Err cause → Ok answer ≡ Err cause
  not_err place answer cause result a b = cc

  same_err : {T : Type 0} (one cause : ChunkFault) (result : Result ℕ ChunkFault) (answer : Result T ChunkFault) → result ≡ Err one → answer ≡ Err one → result ≡ Err cause → answer ≡ Err cause
  same_err one cause result answer a b h = cc

  -- at Ok
  pub adds_ok : {T : Type 0} (place : ℕ) (answer : T) → AppendEnds item (log_of before) (log_of after) (Ok place) → RefusesFull item before.end (Ok place) → ChunkCall {T = ℕ} before.file after.file (Ok place) → IfStarted (log_of before) (λ bodies. AppendsRecord bodies item (log_of before) (log_of after) (Ok place)) → after.kept ≡ kept_after before.kept place item → after.is_shut ≡ false → before.spare ≤ after.spare + 1 → Adds item answer before after (Ok answer)
  adds_ok place answer ends full call appends noted shut spare = record {
    ends = (refl, some_and before.end place (λ p. after.kept ≡ kept_after before.kept p item) ends.0 noted, shut);
    unit = same_unit;
    full = full_carried (Ok place) (Ok answer) before.end (λ cause h. not_err place answer cause (Ok place) refl h) full;
    spare = spare;
    call = record { lasts = call.lasts; counts = call.counts };
    told = adds_told (Ok place) (Ok answer) refl appends;
  }

  module _ (kept : after.kept ≡ before.kept) (was_open : before.is_shut ≡ false) where
    ends_by : {T : Type 0} (answer : T) (cause : ChunkFault) → AppendEnds item (log_of before) (log_of after) (Err cause) → after.is_shut ≡ is_fault cause → AddEnds item answer before after (Err cause)
    ends_by answer Fault ends shut = (kept, shut)
    ends_by answer Memory ends shut = record { unit = same_unit; end = ends.0; kept = kept; is_shut = shut ∙ sym was_open; reads = ends.1 }
    ends_by answer (Full end) ends shut = (ends.0, ends.1, record { unit = same_unit; end = ends.2; kept = kept; is_shut = shut ∙ sym was_open; reads = ends.3 })
    ends_by answer _ ends shut = absurd ends

    call_by : (T : Type 0) (cause : ChunkFault) → AppendEnds item (log_of before) (log_of after) (Err cause) → ChunkCall {T = ℕ} before.file after.file (Err cause) → ChunkCall {T = T} before.file after.file (Err cause)
    call_by T Fault ends call = record { lasts = call.lasts; counts = call.counts }
    call_by T Memory ends call = record { lasts = call.lasts; counts = call.counts }
    call_by T (Full end) ends call = record { lasts = call.lasts; counts = call.counts }
    call_by T _ ends call = absurd ends

    -- where the log refused
    pub adds_err : (T : Type 0) (cause : ChunkFault) (answer : T) → AppendEnds item (log_of before) (log_of after) (Err cause) → RefusesFull {T = ℕ} item before.end (Err cause) → ChunkCall {T = ℕ} before.file after.file (Err cause) → IfStarted (log_of before) (λ bodies. AppendsRecord {T = ℕ} bodies item (log_of before) (log_of after) (Err cause)) → after.is_shut ≡ is_fault cause → before.spare ≤ after.spare + 1 → Adds item answer before after (Err cause)
    adds_err T cause answer ends full call appends shut spare = record {
      ends = ends_by answer cause ends shut;
      unit = same_unit;
      full = full_carried (Err cause) (Err cause) before.end (λ other h. same_err cause other (Err cause) (Err cause) refl refl h) full;
      spare = spare;
      call = call_by T cause ends call;
      told = adds_told (Err cause) (Err cause) refl appends;
    }

    -- and the invariant then
    pub refused_open : (cause : ChunkFault) → AppendEnds item (log_of before) (log_of after) (Err cause) → is_fault cause ≡ false → IsOpen before.unit before.kept after.file after.end
    refused_open Memory ends not_fault = reads_open before.unit before.kept before.file after.file before.end after.end open_ ends.1 ends.0
    refused_open (Full end) ends not_fault = reads_open before.unit before.kept before.file after.file before.end after.end open_ ends.3 ends.2
    refused_open Fault ends not_fault = absurd (apart not_fault)
      where
        apart : true ≡ false → ⊥
        apart h = cc
    refused_open _ ends not_fault = absurd ends
