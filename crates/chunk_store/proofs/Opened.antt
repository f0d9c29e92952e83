-- What holds of a chunk that is open, and how it goes on holding.
use Rattle.std.proofs.Common.{◌≡◌, ◌∙◌, sym, ap, refl, subst, ℕ, Bool, true, false, List, ◌∷◌, ◌++◌, Option, None, Some, Result, Ok, Err, IfSome, IsSome, IsSomeAnd, ◌⊎◌, inl, inr}
use Rattle.std.specs.Prelude.{is_some}
use Rattle.unit_id.specs.UnitName.{Name}
use Rattle.disk_base.specs.Disk.{Images, FileView, IsWithin, LeavesExactly, AtEachMoment, OnlyReads}
use Rattle.disk_base.specs.Moments.{weaker}
use Rattle.gate_log.specs.LogFile.{holds, bad_head, bad_chain, contents_of, StandsFor, bodies_in, bodies_of, IsLogOf, IsSameOrOpen}
use Rattle.gate_log.specs.GateLog.{LogView}
use Rattle.shard_record.specs.declared.record.ShardRecord.{ShardRecord}
use Rattle.chunk_store.specs.Kept.{KeptRows, Index, shut_after}
use Rattle.chunk_store.specs.Records.{AreRecords, IsChunkOf}
use Rattle.chunk_store.specs.Chunk.{ChunkView, Remembers, IsOpen, IsFirstBad, IsDamaged, IsSpoiled, StartAnswers, StartsWith, Starts}
use Rattle.chunk_store.specs.Starting.{HasRows, FileAnswers, FileEnds, IsWhole, FileSettles}
use Rattle.chunk_store.specs.declared.fault.ChunkFault.{ChunkFault}
use Rattle.chunk_store.specs.declared.fault.ChunkFault.TheVariants.{Fault, Shut, Damaged, Spoiled, Full, NotMarked, Fenced, Memory}
use Rattle.chunk_store.proofs.Finding.{some_and}
use Rattle.chunk_store.proofs.RecordLists.{same_records, none_bad}

-- ---- options

pub record Told {A : Type 0} (o : Option A) (P : A → Type 0) : Type 0 where
  pub value : A
  pub is : o ≡ Some value
  pub holds : P value

pub told_at : {A : Type 0} (o : Option A) (P : A → Type 0) → IsSomeAnd o P → Told o P
told_at None P h = absurd h
told_at (Some x) P h = record { value = x; is = refl; holds = h }

pub some_is : {A : Type 0} (o : Option A) → IsSome o → (x : A) × (o ≡ Some x)
some_is None h = absurd (apart h)
  where
    apart : false ≡ true → ⊥
    apart e = cc
some_is (Some x) h = (x, refl)

pub if_told : {A : Type 0} (o : Option A) (P : A → Type 0) → ((x : A) → o ≡ Some x → P x) → IfSome o P
if_told None P f = tt
if_told (Some x) P f = f x refl

-- where a file told before and tells as much
pub tells_still : {A : Type 0} (old new : Option A) (P : A → Type 0) → is_some new ≡ is_some old → ((was : A) → old ≡ Some was → IsSomeAnd new P) → IfSome new P
tells_still None None P same f = tt
tells_still None (Some x) P same f = absurd (apart same)
  where
    apart : true ≡ false → ⊥
    apart h = cc
tells_still (Some was) None P same f = tt
tells_still (Some was) (Some x) P same f = f was refl

stays_shut : true ≡ false → ⊥
stays_shut h = cc

-- ---- files

pub same_bodies : (file : List ℕ) (one other : List (List ℕ)) → StandsFor file one → StandsFor file other → one ≡ other
same_bodies file one other a b = ap bodies_in (sym a ∙ b)

-- a file is a chunk of one list of records at most
pub same_chunk : (file : List ℕ) (unit : Name) (one other : List ShardRecord) → IsChunkOf file unit one → IsChunkOf file unit other → one ≡ other
same_chunk file unit one other a b =
    same_records unit a.bodies one other a.records
    (subst (λ (bodies : List (List ℕ)). AreRecords unit bodies other) (same_bodies file b.bodies a.bodies b.log.stands a.log.stands) b.records)

-- what a start leaves of it is the same chunk
pub chunk_same : (file image : List ℕ) (unit : Name) (items : List ShardRecord) → IsChunkOf file unit items → IsSameOrOpen file image → IsChunkOf image unit items
chunk_same file image unit items chunk same = record {
  bodies = chunk.bodies;
  log = record { stands = (same.same chunk.log.gate).0 ∙ chunk.log.stands; gate = (same.same chunk.log.gate).1 };
  records = chunk.records;
}

module _ (unit : Name) where
  remembers_less : (kept : KeptRows) (old new : Images) (file : List ℕ) → IsWithin new old → Remembers unit kept old file → Remembers unit kept new file
  remembers_less kept old new file within is = record {
    items = is.items;
    chunk = is.chunk;
    exactly = λ image left. is.exactly image (within image left);
    reflects = is.reflects;
  }

  -- reading leaves a chunk open
  pub reads_open : (kept : KeptRows) (old new : FileView) (end after : Option ℕ) → IsOpen unit kept old end → OnlyReads old new → after ≡ end → IsOpen unit kept new after
  reads_open kept old new end after is reads same = record {
    started = subst IsSome (sym same) is.started;
    told = if_told new.content (Remembers unit kept new.images) (λ file told.
        remembers_less kept old.images new.images file reads.within
        (subst (λ o. IfSome o (Remembers unit kept old.images)) (sym reads.same ∙ told) is.told));
  }

  -- a file is whole while its chunk is open
  pub whole_of : (kept : KeptRows) (file : FileView) (end : Option ℕ) → IsOpen unit kept file end → IfSome file.content (λ bytes. IsLogOf bytes (bodies_of bytes) × LeavesExactly bytes file.images)
  whole_of kept file end is = if_told file.content _ (λ bytes told.
      let r : Remembers unit kept file.images bytes = subst (λ o. IfSome o (Remembers unit kept file.images)) told is.told in
      (subst (IsLogOf bytes) (sym (ap bodies_in r.chunk.log.stands)) r.chunk.log, r.exactly))

  -- ---- a start

  module _ (old new : FileView) (tells : is_some new.content ≡ is_some old.content) where
    -- at Ok the chunk is open
    pub started_open : (index : Index) (after : Option ℕ) → FileAnswers unit old.content (Ok index) → FileSettles old new (Ok index) → IsSome after → IsOpen unit index.kept new after
    started_open index after answer settles started = record {
      started = started;
      told = tells_still old.content new.content (Remembers unit index.kept new.images) tells (λ was told.
          let rows : HasRows unit was index = subst (λ o. IfSome o (λ file. HasRows unit file index)) told answer in
          let at = told_at new.content (IsWhole (bodies_of was) new.images) (subst (λ o. IfSome o (λ file. IsSomeAnd new.content (IsWhole (bodies_of file) new.images))) told settles) in
          some_and new.content at.value (Remembers unit index.kept new.images) at.is
          (record { items = rows.items; chunk = record { bodies = bodies_of was; log = at.holds.log; records = rows.records }; exactly = at.holds.exactly; reflects = rows.reflects }));
    }

    -- for want of memory it is as open as before
    pub still_open : (kept : KeptRows) (end after : Option ℕ) → FileSettles {T = Index} old new (Err Memory) → (IsSome end → IsSome after) → IsOpen unit kept old end → IsOpen unit kept new after
    still_open kept end after settles starts is = record {
      started = starts is.started;
      told = tells_still old.content new.content (Remembers unit kept new.images) tells (λ was told.
          let r : Remembers unit kept old.images was = subst (λ o. IfSome o (Remembers unit kept old.images)) told is.told in
          let same : r.chunk.bodies ≡ bodies_of was = sym (ap bodies_in r.chunk.log.stands) in
          let at = told_at new.content (IsWhole (bodies_of was) new.images)
          (subst (λ o. IfSome o (λ file. IsWhole (bodies_of file) old.images file → IsSomeAnd new.content (IsWhole (bodies_of file) new.images))) told settles
          (record { log = subst (IsLogOf was) same r.chunk.log; exactly = r.exactly })) in
          some_and new.content at.value (Remembers unit kept new.images) at.is
          (record {
            items = r.items;
            chunk = record { bodies = r.chunk.bodies; log = subst (IsLogOf at.value) (sym same) at.holds.log; records = r.chunk.records };
            exactly = at.holds.exactly;
            reflects = r.reflects;
          }));
    }

    -- the invariant after a start that gave up
    pub refused_sound : (before after : LogView) (cause : ChunkFault) (was_shut : Bool) (kept : KeptRows) → FileSettles {T = Index} old new (Err cause) → FileEnds before after (Err cause) → (was_shut ≡ false → IsOpen unit kept old before.end) → shut_after cause was_shut ≡ false → IsOpen unit kept new after.end
    refused_sound before after Memory was_shut kept settles ends sound is = still_open kept before.end after.end settles ends (sound is)
    refused_sound before after Fault was_shut kept settles ends sound is = absurd (stays_shut is)
    refused_sound before after Shut was_shut kept settles ends sound is = absurd (stays_shut is)
    refused_sound before after (Damaged sum computed) was_shut kept settles ends sound is = absurd (stays_shut is)
    refused_sound before after (Spoiled place) was_shut kept settles ends sound is = absurd (stays_shut is)
    refused_sound before after (Full end) was_shut kept settles ends sound is = absurd (stays_shut is)
    refused_sound before after NotMarked was_shut kept settles ends sound is = absurd (stays_shut is)
    refused_sound before after (Fenced lock) was_shut kept settles ends sound is = absurd (stays_shut is)

  -- ---- a start over a chunk's file

  not_head : (file : List ℕ) (bodies : List (List ℕ)) → StandsFor file bodies → contents_of file ≡ bad_head → ⊥
  not_head file bodies stands bad = apart (sym stands ∙ bad)
    where
      apart : holds bodies ≡ bad_head → ⊥
      apart h = cc

  not_chain : (file : List ℕ) (bodies : List (List ℕ)) (place : ℕ) → StandsFor file bodies → contents_of file ≡ bad_chain place → ⊥
  not_chain file bodies place stands bad = apart (sym stands ∙ bad)
    where
      apart : holds bodies ≡ bad_chain place → ⊥
      apart h = cc

  -- none of its bodies is bad
  not_bad : (file : List ℕ) (place : ℕ) (body : List ℕ) (items : List ShardRecord) → IsChunkOf file unit items → IsFirstBad unit file place body → ⊥
  not_bad file place body items chunk first =
      none_bad unit first.before body first.after items first.items
      (subst (λ (bodies : List (List ℕ)). AreRecords unit bodies items) (same_bodies file chunk.bodies (first.before ++ body ∷ first.after) chunk.log.stands first.stands) chunk.records)
      first.records first.bad

  not_spoiled : (file : List ℕ) (place : ℕ) (items : List ShardRecord) → IsChunkOf file unit items → IsSpoiled unit file place → ⊥
  not_spoiled file place items chunk (inl head) = not_head file chunk.bodies chunk.log.stands head.0
  not_spoiled file place items chunk (inr (inl chain)) = not_chain file chunk.bodies place chunk.log.stands chain
  not_spoiled file place items chunk (inr (inr first)) = not_bad file place first.0 items chunk first.1

  whole_by : (file : List ℕ) (items : List ShardRecord) (content : Option (List ℕ)) (fault : ChunkFault) → content ≡ Some file → IsChunkOf file unit items → StartAnswers unit content (Err fault) → (fault ≡ Fault) ⊎ (fault ≡ Memory)
  whole_by file items content Fault told chunk answer = inl refl
  whole_by file items content Memory told chunk answer = inr refl
  whole_by file items content (Damaged kept computed) told chunk answer =
      let is = subst (λ o. IfSome o (λ f. (place : ℕ) × (body : List ℕ) × IsFirstBad unit f place body × IsDamaged body kept computed)) told answer in
      absurd (not_bad file is.0 is.1 items chunk is.2)
  whole_by file items content (Spoiled place) told chunk answer =
      absurd (not_spoiled file place items chunk (subst (λ o. IfSome o (λ f. IsSpoiled unit f place)) told answer))
  whole_by file items content _ told chunk answer = absurd answer

  not_refused : (result : Result (Unit {0}) ChunkFault) (x : Unit {0}) (other : ChunkFault) → result ≡ Ok x → result ≡ Err other → ⊥
  not_refused result x other a b = cc

  same_fault : (result : Result (Unit {0}) ChunkFault) (one other : ChunkFault) → result ≡ Err one → result ≡ Err other → one ≡ other
  same_fault result one other a b = cc

  module _ (old new : ChunkView) (own : new.unit ≡ unit) (items : List ShardRecord) (chunk : IsSomeAnd old.file.content (λ file. IsChunkOf file unit items)) (starts : IfSome old.file.content (λ file. Starts file old.file new.file)) where
    stays : IsSomeAnd new.file.content (λ file. IsChunkOf file new.unit items) × AtEachMoment old.file new.file (λ image. old.file.images image ⊎ IsChunkOf image new.unit items)
    stays =
        let was = told_at old.file.content (λ file. IsChunkOf file unit items) chunk in
        let starts_ : Starts was.value old.file new.file = subst (λ o. IfSome o (λ file. Starts file old.file new.file)) was.is starts in
        let at = told_at new.file.content (IsSameOrOpen was.value) starts_.says in
        let is : (image : List ℕ) → IsSameOrOpen was.value image → IsChunkOf image new.unit items =
        λ image same. subst (λ (u : Name). IsChunkOf image u items) (sym own) (chunk_same was.value image unit items was.holds same) in (
          some_and new.file.content at.value (λ file. IsChunkOf file new.unit items) at.is (is at.value at.holds),
          weaker (λ image. old.file.images image ⊎ IsSameOrOpen was.value image) (λ image. old.file.images image ⊎ IsChunkOf image new.unit items) old.file new.file starts_.any_moment
              (λ image left. elim left [ inl before ↦ inl before | inr same ↦ inr (is image same) ]),
        )

    pub starts_ok : (index : Index) → FileSettles old.file new.file (Ok index) → StartsWith items old new (Ok tt)
    starts_ok index settles = record {
      found =
          let was = told_at old.file.content (λ file. IsChunkOf file unit items) chunk in
          let at = told_at new.file.content (IsWhole (bodies_of was.value) new.file.images) (subst (λ o. IfSome o (λ file. IsSomeAnd new.file.content (IsWhole (bodies_of file) new.file.images))) was.is settles) in
          let same : bodies_of was.value ≡ was.holds.bodies = ap bodies_in was.holds.log.stands in
          some_and new.file.content at.value (λ file. IsChunkOf file new.unit items × LeavesExactly file new.file.images) at.is
          (subst (λ (u : Name). IsChunkOf at.value u items) (sym own) (record { bodies = was.holds.bodies; log = subst (IsLogOf at.value) same at.holds.log; records = was.holds.records }), at.holds.exactly);
      whole = λ other is. absurd (not_refused (Ok tt) tt other refl is);
      stands = stays.0;
      any_moment = stays.1;
    }

    pub starts_err : (fault : ChunkFault) → StartAnswers unit old.file.content (Err fault) → StartsWith items old new (Err fault)
    starts_err fault answer = record {
      found = tt;
      whole = λ other is.
          let was = told_at old.file.content (λ file. IsChunkOf file unit items) chunk in
          subst (λ (f : ChunkFault). (f ≡ Fault) ⊎ (f ≡ Memory)) (same_fault (Err fault) fault other refl is)
          (whole_by was.value items old.file.content fault was.is was.holds answer);
      stands = stays.0;
      any_moment = stays.1;
    }
