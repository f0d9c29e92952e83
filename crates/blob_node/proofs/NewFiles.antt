-- The file of a new unit: what is known of it as it is handed out, and as it goes back.
use Rattle.std.proofs.Common.{◌≡◌, ◌∙◌, sym, refl, subst, ℕ, ◌≤◌, Bool, true, false, List, [], ap, Option, None, Some, IfSome, IsSomeAnd, Result, Ok, Err, inl, inr, arith}
use Rattle.std.specs.Prelude.{IsErrOf, ◌↔◌, ◌^◌, ◌-◌, ◌+◌, min}
use Rattle.unit_id.specs.UnitName.{Name, packed}
use Rattle.disk_base.specs.Faults.{Rose}
use Rattle.disk_base.specs.Disk.{FileView, IsFile, IsWithin}
use Rattle.disk_base.specs.Places.{Place as Slot, Unknown, Absent, Away, Kept, Keeps, IsTold, IfKept, is_there}
use Rattle.disk_base.specs.Shelves.{ShelfView, IsShelf, AllStay, OthersStay, ShelfCall, IsMade, IsNoneOrEmpty, MayBeMade, IsThere, Opens, TakesBack}
use Rattle.disk_base.specs.declared.fault.ShelfFault.{ShelfFault}
use Rattle.disk_base.specs.declared.fault.ShelfFault.TheVariants as refused
use Rattle.gate_log.specs.LogFile.{contents_of}
use Rattle.chunk_store.specs.Records.{IsChunkOf}
use Rattle.chunk_store.specs.Chunk.{ChunkOver, shown, IsSound, StartAnswers, StartsWith, ChunkCall, CountsFault}
use Rattle.shard_record.specs.declared.record.ShardRecord.{ShardRecord}
use Rattle.chunk_store.specs.declared.fault.ChunkFault.{ChunkFault}
use Rattle.chunk_store.specs.declared.fault.ChunkFault.TheVariants as faults
use Rattle.chunk_store.proofs.Finding.{some_and}
use Rattle.blob_node.specs.HeldUnit.{IsStartRefusal}
use Rattle.blob_node.specs.NewChunk.{HasNoRecords, IsLeft, IsRefused, Lends, StartsNew}

-- an empty file is a chunk without records
pub empty_chunk : (unit : Name) → IsChunkOf [] unit []
unfolding contents_of
empty_chunk unit = record { bodies = []; log = record { stands = refl; gate = inl (omega arith) }; records = tt }

-- ---- handed out

module _ {F : Type 0} (seen : F → FileView) (unit : Name) (old new : ShelfView F) where
  no_failure : {T : Type 0} (x : T) → IsErrOf {T = T} {E = ShelfFault} (Ok x) refused.Failed → ⊥
  no_failure x h = cc

  pub lent_made : (file : F) → ShelfCall {T = F} old new (Ok file) → IsMade seen (packed unit) old new file → Lends seen unit old new (Ok file)
  lent_made file call made = (
    record { out = made.lent.out; others = made.lent.others; told = call.told; counts = call.others (no_failure file); quiet = call.quiet; quiet_file = made.lent.quiet },
    made.lent.no_fault,
    λ told _. some_and (seen file).content [] (λ bytes. IsChunkOf bytes unit []) (made.empty told) (empty_chunk unit),
    λ told bytes left. inr (subst (λ b. IsChunkOf b unit []) (sym (made.settled told bytes left)) (empty_chunk unit)),
  )

  none_or_empty : (slot : Slot F) → IsTold slot → IsNoneOrEmpty seen slot → HasNoRecords seen unit slot
  none_or_empty Absent told is = tt
  none_or_empty (Kept file) told is = some_and (seen file).content [] (λ bytes. IsChunkOf bytes unit []) is.0 (empty_chunk unit)
  none_or_empty Unknown told is = absurd told
  none_or_empty Away told is = absurd told

  pub refused_made : ShelfCall {T = F} old new (Err refused.Failed) → MayBeMade seen (packed unit) old new → old.is_out (packed unit) ≡ false → IsShelf seen new → IsRefused seen unit old new × Rose old.faults new.faults
  refused_made call may not_out shelf = (
    record {
      out = may.out ∙ not_out;
      others = may.others;
      told = call.told;
      counts = call.never_falls;
      quiet = call.quiet;
      empty = λ told _. none_or_empty (new.place (packed unit)) (shelf.told_is_known (call.told ∙ told) (packed unit) (may.out ∙ not_out)) (may.empty told);
      left = λ told _ x is. elim (may.leaves told x is) [ inl was ↦ inl was | inr empty ↦ left_empty x empty ];
    },
    call.failed refl,
  )
    where
      left_empty : (x : Option (List ℕ)) → x ≡ Some [] → IsLeft seen unit old new x
      left_empty x e = inr (subst (λ o. IsSomeAnd o (λ bytes. IsChunkOf bytes unit [])) (sym e) (empty_chunk unit))

pub keeps_then : {T : Type 0} (a b c : Slot T) → Keeps a b → Keeps b c → Keeps a c
keeps_then Unknown b c e f = tt
keeps_then Absent b c e f = subst (λ s. Keeps s c) e f
keeps_then Away b c e f = subst (λ s. Keeps s c) e f
keeps_then (Kept x) b c e f = subst (λ s. Keeps s c) e f

-- ---- started

-- two tests, each true where the other is
both_ways : (new old : Bool) → (new ≡ true → old ≡ true) → (old ≡ true → new ≡ true) → new ≡ old
both_ways true old before after = sym (before refl)
both_ways false true before after = after refl
both_ways false false before after = refl

abbrev started_ok : Result (Unit {0}) ChunkFault
started_ok = Ok tt

abbrev started_err : ChunkFault → Result (Unit {0}) ChunkFault
started_err fault = Err fault

module _ {F : Type 0} (seen : F → FileView) (unit : Name) (old mid new : ShelfView F) where
  others_then : (word : ℕ) → OthersStay word old mid → OthersStay word mid new → OthersStay word old new
  others_then word a b = record {
    out = λ name ne. b.out name ne ∙ a.out name ne;
    places = λ name ne. keeps_then (old.place name) (mid.place name) (new.place name) (a.places name ne) (b.places name ne);
    leaves = λ name x ne left. a.leaves name x ne (b.leaves name x ne left);
  }

  start_refusal : (content : Option (List ℕ)) (fault : ChunkFault) → StartAnswers unit content (Err fault) → IsStartRefusal fault
  start_refusal content faults.Fault is = tt
  start_refusal content (faults.Damaged kept computed) is = tt
  start_refusal content (faults.Spoiled place) is = tt
  start_refusal content faults.Memory is = tt
  start_refusal content faults.Shut is = is
  start_refusal content (faults.Full end) is = is
  start_refusal content faults.NotMarked is = is
  start_refusal content (faults.Fenced lock) is = is

  abbrev IsEmptyOf : F → Type 0
  IsEmptyOf file = IsSomeAnd (seen file).content (λ bytes. IsChunkOf bytes unit [])

  abbrev StartsOver : (was now : ChunkOver F) → Result (Unit {0}) ChunkFault → Type 0
  StartsOver was now result = (items : List ShardRecord) → IsSomeAnd (seen was.log.file).content (λ bytes. IsChunkOf bytes unit items) → StartsWith items (shown seen was) (shown seen now) result

  pub started_new : (was now : ChunkOver F) → Lends seen unit old mid (Ok was.log.file) → now.unit ≡ unit → ChunkCall (seen was.log.file) (seen now.log.file) started_ok → now.is_shut ≡ false → IsSound (shown seen now)
      → StartsOver was now (Ok tt) → StartsNew seen unit old mid (Ok now)
  started_new was now lends own call open_ sound starts = (
    own,
    record { out = lends.0.out; others = lends.0.others; told = lends.0.told; counts = lends.0.counts; quiet = lends.0.quiet; quiet_file = λ quiet. call.lasts.quiet ∙ lends.0.quiet_file quiet },
    call.counts ∙ lends.1,
    λ told none. record { open_ = open_; sound = sound; empty = (starts [] (lends.2 told none)).found },
  )

  -- ---- a file that is there

  module _ (call : ShelfCall {T = F} old mid (Err refused.Exists)) (there : IsThere (packed unit) old mid) where
    not_failed : IsErrOf {T = F} {E = ShelfFault} (Err refused.Exists) refused.Failed → ⊥
    not_failed e = cc

    same_faults : mid.faults ≡ old.faults
    same_faults = call.others not_failed

    stay_out : OthersStay (packed unit) old mid
    stay_out = record { out = λ n ne. there.stay.out n; places = λ n ne. there.stay.places n; leaves = λ n x ne. there.stay.leaves n x }

    content_of : (file : F) (slot : Slot F) → Keeps slot (mid.place (packed unit)) → HasNoRecords seen unit slot → IfKept (mid.place (packed unit)) (λ was. (seen file).content ≡ (seen was).content) → IsEmptyOf file
    content_of file Unknown keeps none same = absurd none
    content_of file Absent keeps none same = absurd (cc (sym there.known ∙ ap is_there keeps))
    content_of file Away keeps none same = absurd none
    content_of file (Kept was) keeps none same =
        subst (λ (o : Option (List ℕ)). IsSomeAnd o (λ bytes. IsChunkOf bytes unit [])) (sym (subst (λ (slot : Slot F). IfKept slot (λ w. (seen file).content ≡ (seen w).content)) keeps same)) none

    keeps_empty : (slot now : Slot F) → Keeps slot now → HasNoRecords seen unit slot → HasNoRecords seen unit now
    keeps_empty Unknown now keeps none = absurd none
    keeps_empty Absent now keeps none = subst (HasNoRecords seen unit) (sym keeps) none
    keeps_empty Away now keeps none = absurd none
    keeps_empty (Kept was) now keeps none = subst (HasNoRecords seen unit) (sym keeps) none

    not_lent : (fault : ShelfFault) → old.is_out (packed unit) ≡ false → ShelfCall {T = F} mid new (Err fault) → AllStay mid new → IsRefused seen unit old new
    not_lent fault not_out called stay = record {
      out = stay.out (packed unit) ∙ there.stay.out (packed unit) ∙ not_out;
      others = others_then (packed unit) stay_out (record { out = λ n ne. stay.out n; places = λ n ne. stay.places n; leaves = λ n x ne. stay.leaves n x });
      told = called.told ∙ call.told;
      counts = subst (λ n. n ≤ new.faults) same_faults called.never_falls;
      quiet = called.quiet ∙ call.quiet;
      empty = λ told none. keeps_empty (old.place (packed unit)) (new.place (packed unit))
          (keeps_then (old.place (packed unit)) (mid.place (packed unit)) (new.place (packed unit)) (there.stay.places (packed unit)) (stay.places (packed unit))) none;
      left = λ told none x is. inl (there.stay.leaves (packed unit) x (stay.leaves (packed unit) x is));
    }

    pub lent_opened : (result : Result F ShelfFault) → old.is_out (packed unit) ≡ false → ShelfCall mid new result → IfSome (is_there (mid.place (packed unit))) (λ is. IsErrOf result refused.Absent ↔ (is ≡ false)) → Opens seen (packed unit) mid new result → Lends seen unit old new result
    lent_opened (Ok file) not_out called absent opened = (
      record {
        out = opened.lent.out;
        others = others_then (packed unit) stay_out opened.lent.others;
        told = called.told ∙ call.told;
        counts = called.others (λ e. no_failure seen unit old new file e) ∙ same_faults;
        quiet = called.quiet ∙ call.quiet;
        quiet_file = λ quiet. opened.lent.quiet (call.quiet ∙ quiet);
      },
      opened.lent.no_fault,
      λ told none. content_of file (old.place (packed unit)) (there.stay.places (packed unit)) none opened.content,
      λ told bytes left. inl (there.stay.leaves (packed unit) (Some bytes) (opened.leaves (call.told ∙ told) bytes left)),
    )
    lent_opened (Err refused.Exists) not_out called absent opened = absurd opened
    lent_opened (Err refused.Absent) not_out called absent opened = absurd (apart ((subst (λ (o : Option Bool). IfSome o (λ is. IsErrOf {T = F} (Err refused.Absent) refused.Absent ↔ (is ≡ false))) there.known absent).0 refl))
      where
        apart : true ≡ false → ⊥
        apart e = cc
    lent_opened (Err refused.Failed) not_out called absent opened = (not_lent refused.Failed not_out called opened, subst (λ n. Rose n new.faults) same_faults (called.failed refl))
    lent_opened (Err refused.Memory) not_out called absent opened = not_lent refused.Memory not_out called opened

  rose_by : (before now file : ℕ) → 1 ≤ file → min (before + file) (2 ^ 64 - 1) ≤ now → before ≤ now → Rose before now
  rose_by before now file some sum never = omega (arith, some, sum, never)

  -- what a crash leaves of the file once the chunk was started
  left_now : (was now : ChunkOver F) (result : Result (Unit {0}) ChunkFault) → IsFile (seen now.log.file) → now.unit ≡ unit → IsWithin (seen was.log.file).images (λ bytes. IsLeft seen unit old new (Some bytes)) → StartsWith [] (shown seen was) (shown seen now) result
      → (x : Option (List ℕ)) → IsSomeAnd x (seen now.log.file).images → IsLeft seen unit old new x
  left_now was now result file own before starts None is = absurd is
  left_now was now result file own before starts (Some bytes) is =
      elim (starts.any_moment.each bytes (file.present_counts (seen was.log.file).clock bytes starts.any_moment.never_falls is)) [
        | inl image ↦ before bytes image
        | inr empty ↦ inr (subst (λ (n : Name). IsChunkOf bytes n []) own empty)
      ]

  pub given_back : (was now : ChunkOver F) (fault : ChunkFault) → IsFile (seen now.log.file) → now.unit ≡ unit → Lends seen unit old mid (Ok was.log.file) → ChunkCall (seen was.log.file) (seen now.log.file) (started_err fault) → StartAnswers unit (seen was.log.file).content (Err fault)
      → StartsOver was now (Err fault) → TakesBack seen (packed unit) now.log.file mid new → StartsNew seen unit old new (Err fault)
  given_back was now fault file own lends call answers starts back = (
    start_refusal (seen was.log.file).content fault answers,
    record {
      out = back.out;
      others = others_then (packed unit) lends.0.others back.others;
      told = back.told ∙ lends.0.told;
      counts = subst (λ n. n ≤ new.faults) lends.0.counts back.never_falls;
      quiet = both_ways new.is_quiet old.is_quiet (λ quiet. sym lends.0.quiet ∙ back.quiet_before quiet) (λ quiet. back.quiet (lends.0.quiet ∙ quiet) (call.lasts.quiet ∙ lends.0.quiet_file quiet));
      empty = λ told none. subst (HasNoRecords seen unit) (sym back.kept) (subst (λ (n : Name). IsSomeAnd (seen now.log.file).content (λ bytes. IsChunkOf bytes n [])) own (starts [] (lends.2 told none)).stands);
      left = λ told none x is. left_now was now (Err fault) file own (lends.3 told) (starts [] (lends.2 told none)) x (back.leaves (lends.0.told ∙ told) x is);
    },
    λ is.
        let rose : Rose (seen was.log.file).faults (seen now.log.file).faults = subst (λ f. CountsFault {T = Unit {0}} (seen was.log.file).faults (seen now.log.file).faults (Err f)) is call.counts in
        let none = lends.1 in let same = lends.0.counts in
        rose_by old.faults new.faults (seen now.log.file).faults (omega (arith, rose, none))
        (subst (λ n. min (n + (seen now.log.file).faults) (2 ^ 64 - 1) ≤ new.faults) same back.count) (subst (λ n. n ≤ new.faults) same back.never_falls),
    λ told none. (starts [] (lends.2 told none)).whole fault refl,
  )
