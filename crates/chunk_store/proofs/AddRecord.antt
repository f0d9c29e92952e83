-- What a log says of the writing of a record.
use Rattle.std.proofs.Common.{◌≡◌, ◌∙◌, sym, ap, refl, subst, ℕ, ◌+◌, ◌≤◌, Bool, true, false, cond, nat_lt, List, length, take, Option, None, Some, Result, Ok, Err, IfSome, IsSome, inl, inr, arith}
use Rattle.std.proofs.lemmas.Bool.Decides.{nat_tests}
use Rattle.std.proofs.lemmas.List.{length-take, length-drop}
use Rattle.disk_base.specs.Disk.{LeavesExactly, OnlyReads}
use Rattle.disk_base.specs.Moments.{weaker}
use Rattle.gate_log.specs.LogFile.{is_body_length, longest_file, bodies_of, IsLogOf}
use Rattle.gate_log.specs.GateLog.{LogView, IfStarted, refusal_of, AppendAnswers, LogCall}
use Rattle.gate_log.specs.declared.fault.LogFault.{LogFault}
use Rattle.gate_log.specs.declared.fault.LogFault.TheVariants as log
use Rattle.shard_record.specs.Spelling.{Spells, HasSizes, summed_part, shard_part}
use Rattle.shard_record.specs.declared.record.ShardRecord.{ShardRecord}
use Rattle.shard_record.specs.declared.record.ShardRecord.TheVariants.{Shard, Mark, Free, Fence, Release}
use Rattle.chunk_store.specs.Chunk.{record_size, is_full, ChunkCall}
use Rattle.chunk_store.specs.Writing.{RefusesFull, MayHaveRecord, AppendsRecord, AppendEnds, IsAppendFault, fault_by_append}
use Rattle.chunk_store.specs.declared.fault.ChunkFault.{ChunkFault}
use Rattle.chunk_store.specs.declared.fault.ChunkFault.TheVariants.{Fault, Full, Memory}
use Rattle.chunk_store.proofs.Finding.{at_some, some_and, when_started}

summed_length : (item : ShardRecord) → length (summed_part item) ≡ 17 + length (shard_part item)
unfolding summed_part
summed_length item = omega arith

-- a spelling has as many bytes as the record
pub spelled_length : (item : ShardRecord) (body : List ℕ) → Spells item body → length body ≡ record_size item
spelled_length item body spells =
    let four : length (take 4 body) ≡ 4 = ap length spells.sum in
    omega (arith, four, length-take 4 body, length-drop 4 body, ap length spells.rest, summed_length item)

-- a record fits into a body
pub fits_body : (item : ShardRecord) → HasSizes item → is_body_length (record_size item) ≡ true
fits_body (Shard bid unit blob_size bytes) sizes = let few : length bytes ≤ 4194304 = sizes.3 in grind (arith, nat_tests, few)
fits_body (Mark bid unit) sizes = refl
fits_body (Free bid unit) sizes = refl
fits_body (Fence lock unit) sizes = refl
fits_body (Release unit) sizes = refl

refuses_full : (count place : ℕ) → is_body_length count ≡ true → nat_lt longest_file (place + 6 + count) ≡ true → refusal_of count (Some place) ≡ Some (log.Full place)
refuses_full count place long full =
    ap (λ (b : Bool). cond b (cond (nat_lt longest_file (place + 6 + count)) (Some (log.Full place)) None) (Some (log.BadLength count))) long
    ∙ ap (λ (b : Bool). cond b (Some (log.Full place)) None) full

module _ (item : ShardRecord) (count : ℕ) (size : count ≡ record_size item) (long : is_body_length count ≡ true) where
  full_at : (place : ℕ) → is_full item place ≡ true → refusal_of count (Some place) ≡ Some (log.Full place)
  full_at place full = refuses_full count place long (ap (λ n. nat_lt longest_file (place + 6 + n)) size ∙ full)

  -- an append that isn't refused as full found room
  pub never_full : {T : Type 0} (end : Option ℕ) (found : Result ℕ LogFault) (P : Type 0) (result : Result T ChunkFault) → IfSome (refusal_of count end) (λ fault. (found ≡ Err fault) × P) → ((place : ℕ) → found ≡ Err (log.Full place) → ⊥) → RefusesFull item end result
  never_full None found P result refused other = tt
  never_full (Some place) found P result refused other = λ full.
      absurd (other place (subst (λ (o : Option LogFault). IfSome o (λ fault. (found ≡ Err fault) × P)) (full_at place full) refused).0)

  none_full : (long_ : Bool) (end : ℕ) → Some (cond long_ log.Shut (log.BadLength count)) ≡ Some (log.Full end) → ⊥
  none_full true end e = cc
  none_full false end e = cc

  some_full : (long_ full : Bool) (place end : ℕ) → cond long_ (cond full (Some (log.Full place)) None) (Some (log.BadLength count)) ≡ Some (log.Full end) → (place ≡ end) × (full ≡ true)
  some_full true true place end e = (cc, refl)
  some_full true false place end e = absurd (apart e)
    where
      apart : None ≡ Some (log.Full end) → ⊥
      apart h = cc
  some_full false full place end e = absurd (apart e)
    where
      apart : Some (log.BadLength count) ≡ Some (log.Full end) → ⊥
      apart h = cc

  -- one that is refused as full is so at its end
  pub full_says : (end : Option ℕ) (place : ℕ) → refusal_of count end ≡ Some (log.Full place) → (end ≡ Some place) × (is_full item place ≡ true)
  full_says None place e = absurd (none_full (is_body_length count) place e)
  full_says (Some at) place e =
      let found = some_full (is_body_length count) (nat_lt longest_file (at + 6 + count)) at place e in
      (ap Some found.0, ap (λ n. nat_lt longest_file (n + 6 + record_size item)) (sym found.0) ∙ ap (λ n. nat_lt longest_file (at + 6 + n)) (sym size) ∙ found.1)

  -- a started log refuses for no other cause
  pub no_other : (end : Option ℕ) (cause : LogFault) → IsSome end → refusal_of count end ≡ Some cause → ((place : ℕ) → cause ≡ log.Full place → ⊥) → ⊥
  no_other None cause started e other = absurd (apart started)
    where
      apart : false ≡ true → ⊥
      apart h = cc
  no_other (Some place) cause started e other = go (nat_lt longest_file (place + 6 + count)) (sym (ap (λ (b : Bool). cond b (cond (nat_lt longest_file (place + 6 + count)) (Some (log.Full place)) None) (Some (log.BadLength count))) long) ∙ e)
    where
      go : (full : Bool) → cond full (Some (log.Full place)) None ≡ Some cause → ⊥
      go true h = other place (same h)
        where
          same : Some (log.Full place) ≡ Some cause → cause ≡ log.Full place
          same k = cc
      go false h = cc

-- a call that wrote nothing leaves a log of the bodies, and so does a crash in it
pub unwritten : (item : ShardRecord) (old new : LogView) (failed : ChunkFault) → OnlyReads old.file new.file → IfSome old.file.content (λ file. IsLogOf file (bodies_of file) × LeavesExactly file old.file.images) → IfStarted old (λ bodies. AppendsRecord {T = ℕ} bodies item old new (Err failed))
unwritten item old new failed reads whole =
    when_started old.end old.file.content (λ bodies. AppendsRecord {T = ℕ} bodies item old new (Err failed))
    (λ end file ends told.
    let is = at_some old.file.content file (λ f. IsLogOf f (bodies_of f) × LeavesExactly f old.file.images) told whole in
    record {
      added = tt;
      stands = some_and new.file.content file (MayHaveRecord (bodies_of file) item) (reads.same ∙ told) (inl is.0);
      any_moment = weaker old.file.images (MayHaveRecord (bodies_of file) item) old.file new.file reads.moments
          (λ image left. inl (subst (λ f. IsLogOf f (bodies_of file)) (sym (is.1 image left)) is.0));
    })

-- ---- an append of a spelling to a started log, where it is refused

module _ (item : ShardRecord) (count : ℕ) (sizes : HasSizes item) (size : count ≡ record_size item) (old new : LogView) (started : IsSome old.end) where
  long : is_body_length count ≡ true
  long = ap is_body_length size ∙ fits_body item sizes

  pub room_found : (place : ℕ) (found : Result ℕ LogFault) (P : Type 0) → found ≡ Ok place → IfSome (refusal_of count old.end) (λ fault. (found ≡ Err fault) × P) → RefusesFull {T = ℕ} item old.end (Ok place)
  room_found place found P is refused = never_full item count size long old.end found P (Ok place) refused (λ at e. cc)

  pub append_fault : (fault : LogFault) → AppendAnswers count old new (Err fault) → IsAppendFault fault
  append_fault log.Fault is = tt
  append_fault log.Memory is = tt
  append_fault (log.Full end) is = tt
  append_fault log.Shut is = absurd (no_other item count size long old.end log.Shut started is (λ place e. cc))
  append_fault log.BadHead is = absurd (no_other item count size long old.end log.BadHead started is (λ place e. cc))
  append_fault (log.BadChain at) is = absurd (no_other item count size long old.end (log.BadChain at) started is (λ place e. cc))
  append_fault (log.BadLength len) is = absurd (no_other item count size long old.end (log.BadLength len) started is (λ place e. cc))

  ends_by : (fault : LogFault) (found : Result ℕ LogFault) (P : Type 0) → IsAppendFault fault → AppendAnswers count old new (Err fault) → IfSome (refusal_of count old.end) (λ other. (found ≡ Err other) × P) → (P → (new.end ≡ old.end) × OnlyReads old.file new.file) → AppendEnds item old new (Err (fault_by_append fault))
  ends_by log.Fault found P cause is refused same = tt
  ends_by log.Memory found P cause is refused same = (is.0, is.2)
  ends_by (log.Full end) found P cause is refused same =
      let full = full_says item count size long old.end end is in
      let still = same (at_some (refusal_of count old.end) (log.Full end) (λ other. (found ≡ Err other) × P) is refused).1 in
      (full.0, full.1, still.0, still.1)
  ends_by _ found P cause is refused same = absurd cause

  pub append_ends : (fault : LogFault) (found : Result ℕ LogFault) (P : Type 0) → AppendAnswers count old new (Err fault) → IfSome (refusal_of count old.end) (λ other. (found ≡ Err other) × P) → (P → (new.end ≡ old.end) × OnlyReads old.file new.file) → AppendEnds item old new (Err (fault_by_append fault))
  append_ends fault found P is refused same = ends_by fault found P (append_fault fault is) is refused same

  any_full : (end : Option ℕ) → RefusesFull {T = ℕ} item end (Err Memory)
  any_full None = tt
  any_full (Some place) = λ full. inr refl

  same_full : (end place : ℕ) (found : Result ℕ LogFault) (answer : Result ℕ ChunkFault) → found ≡ Err (log.Full end) → found ≡ Err (log.Full place) → answer ≡ Err (Full end) → answer ≡ Err (Full place)
  same_full end place found answer e h k = cc

  at_end : (end : ℕ) (found : Result ℕ LogFault) (P : Type 0) (o : Option ℕ) → found ≡ Err (log.Full end) → IfSome (refusal_of count o) (λ other. (found ≡ Err other) × P) → RefusesFull {T = ℕ} item o (Err (Full end))
  at_end end found P None is h = tt
  at_end end found P (Some place) is h = λ full.
      inl (same_full end place found (Err (Full end)) is (at_some (refusal_of count (Some place)) (log.Full place) (λ other. (found ≡ Err other) × P) (full_at item count size long place full) h).0 refl)

  full_by : (fault : LogFault) (found : Result ℕ LogFault) (P : Type 0) → found ≡ Err fault → IsAppendFault fault → IfSome (refusal_of count old.end) (λ other. (found ≡ Err other) × P) → RefusesFull {T = ℕ} item old.end (Err (fault_by_append fault))
  full_by log.Fault found P is cause refused = never_full item count size long old.end found P (Err Fault) refused (λ place e. cc)
  full_by log.Memory found P is cause refused = any_full old.end
  full_by (log.Full end) found P is cause refused = at_end end found P old.end is refused
  full_by _ found P is cause refused = absurd cause

  pub append_full : (fault : LogFault) (found : Result ℕ LogFault) (P : Type 0) → found ≡ Err fault → AppendAnswers count old new (Err fault) → IfSome (refusal_of count old.end) (λ other. (found ≡ Err other) × P) → RefusesFull {T = ℕ} item old.end (Err (fault_by_append fault))
  append_full fault found P is answer refused = full_by fault found P is (append_fault fault answer) refused

  call_by : (fault : LogFault) → IsAppendFault fault → LogCall {T = ℕ} old.file new.file (Err fault) → ChunkCall {T = ℕ} old.file new.file (Err (fault_by_append fault))
  call_by log.Fault cause call = record { lasts = call.lasts; counts = call.counts }
  call_by log.Memory cause call = record { lasts = call.lasts; counts = call.counts }
  call_by (log.Full end) cause call = record { lasts = call.lasts; counts = call.counts }
  call_by _ cause call = absurd cause

  pub append_call : (fault : LogFault) → AppendAnswers count old new (Err fault) → LogCall {T = ℕ} old.file new.file (Err fault) → ChunkCall {T = ℕ} old.file new.file (Err (fault_by_append fault))
  append_call fault is call = call_by fault (append_fault fault is) call
