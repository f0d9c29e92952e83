-- What a log says of the writing of a manager's record.
use Rattle.std.proofs.Common.{◌≡◌, ◌∙◌, sym, ap, refl, subst, ℕ, ◌+◌, ◌≤◌, Bool, true, false, cond, nat_lt, nat_le, List, length, Option, None, Some, Ok, Err, IsSomeAnd, inl, inr, arith, ◌&&◌}
use Rattle.std.proofs.lemmas.Bool.Decides.{nat_tests}
use Rattle.std.proofs.lemmas.List.{length-append}
use Rattle.std.specs.Int.{w32, to_be_bytes}
use Rattle.disk_base.specs.Disk.{FileView, OnlyReads}
use Rattle.gate_log.specs.LogFile.{longest_file, longest_body, end_place, IsBeforeOrAfter}
use Rattle.gate_log.specs.GateLog.{LogView, IsStarted, HasBodies, refusal_of, AppendAnswers, AppendsTo, Appends, LogCall}
use Rattle.gate_log.specs.LogLaws.{of_bodies}
use Rattle.gate_log.specs.declared.fault.LogFault.{LogFault}
use Rattle.gate_log.specs.declared.fault.LogFault.TheVariants as logs
use Rattle.code_mode.specs.declared.mode.Mode.{Mode}
use Rattle.shard_record.specs.Crc.{crc_of}
use Rattle.volume_entry.specs.Manager.{ManagerRecord}
use Rattle.volume_entry.specs.Spelling.{Spells, summed_part}
use Rattle.volume_entry.specs.Book.{CountsFault, IsAppendFault, fault_by_append, item_size, HasRoomFor, AppendEnds, AppendsItem, MayHaveRecord}

-- a spelling has as many bytes as the record
pub spelled_length : (vid : ℕ) (mode : Mode) (item : ManagerRecord) (body : List ℕ) → Spells vid mode item body → length body ≡ item_size vid mode item
spelled_length vid mode item body spells =
    ap length spells.spelled ∙ length-append (to_be_bytes w32 (crc_of (summed_part vid mode item))) (summed_part vid mode item)

-- a log with room refuses no body
pub no_refusal : (count : ℕ) (end : Option ℕ) → 1 ≤ count → HasRoomFor count end → refusal_of count end ≡ None
no_refusal count None some room = absurd room.1
no_refusal count (Some place) some room = go (nat_le 1 count && nat_le count longest_body) (nat_lt longest_file (place + 6 + count)) (grind (arith, nat_tests, some, room.0)) (grind (arith, nat_tests, room.1))
  where
    go : (long full : Bool) → long ≡ true → full ≡ false → cond long (cond full (Some (logs.Full place)) None) (Some (logs.BadLength count)) ≡ None
    go true false a b = refl
    go true true a b = cc
    go false full a b = cc

module _ (count : ℕ) (old new : LogView) (some : 1 ≤ count) (room : HasRoomFor count old.end) where
  other : (fault : LogFault) → refusal_of count old.end ≡ Some fault → ⊥
  other fault is = apart (sym (no_refusal count old.end some room) ∙ is)
    where
      apart : None ≡ Some fault → ⊥
      apart h = cc

  pub append_fault : (fault : LogFault) → AppendAnswers count old new (Err fault) → IsAppendFault fault
  append_fault logs.Fault is = tt
  append_fault logs.Memory is = tt
  append_fault (logs.Full end) is = absurd (other (logs.Full end) is)
  append_fault logs.Shut is = absurd (other logs.Shut is)
  append_fault logs.BadHead is = absurd (other logs.BadHead is)
  append_fault (logs.BadChain at) is = absurd (other (logs.BadChain at) is)
  append_fault (logs.BadLength len) is = absurd (other (logs.BadLength len) is)

counts_by : (fault : LogFault) (old new : FileView) → IsAppendFault fault → LogCall {T = ℕ} old new (Err fault) → CountsFault {T = ℕ} old.faults new.faults (Err (fault_by_append fault))
counts_by logs.Fault old new cause call = call.counts
counts_by logs.Memory old new cause call = call.counts
counts_by _ old new cause call = absurd cause

ends_by : (fault : LogFault) (count : ℕ) (old new : LogView) → IsAppendFault fault → AppendAnswers count old new (Err fault) → AppendEnds old new (Err (fault_by_append fault))
ends_by logs.Fault count old new cause is = is.0
ends_by logs.Memory count old new cause is = is.0
ends_by _ count old new cause is = absurd cause

-- calls that only read leave a log its bodies
pub reads_keep : (old new : LogView) (bodies : List (List ℕ)) → new.end ≡ old.end → OnlyReads old.file new.file → HasBodies old bodies → HasBodies new bodies
reads_keep old new bodies ends reads has = subst (λ e. IsSomeAnd e (λ end. IsSomeAnd new.file.content (IsStarted new.file.images end bodies))) (sym ends) (go old.end has)
  where
    still : (end : ℕ) (content : Option (List ℕ)) → IsSomeAnd content (IsStarted old.file.images end bodies) → IsSomeAnd content (IsStarted new.file.images end bodies)
    still end None none = absurd none
    still end (Some file) is = record { at_rest = is.at_rest; end_is = is.end_is; exactly = λ c left. is.exactly c (reads.within c left) }

    go : (end : Option ℕ) → IsSomeAnd end (λ e. IsSomeAnd old.file.content (IsStarted old.file.images e bodies)) → IsSomeAnd end (λ e. IsSomeAnd new.file.content (IsStarted new.file.images e bodies))
    go None none = absurd none
    go (Some end) is = subst (λ o. IsSomeAnd o (IsStarted new.file.images end bodies)) (sym reads.same) (still end old.file.content is)

-- where a log of these bodies ends
pub ends_behind : (log : LogView) (bodies : List (List ℕ)) → HasBodies log bodies → log.end ≡ Some (end_place bodies)
ends_behind log bodies has = go log.end has
  where
    told : (end : ℕ) (content : Option (List ℕ)) → IsSomeAnd content (IsStarted log.file.images end bodies) → end ≡ end_place bodies
    told end None none = absurd none
    told end (Some file) is = is.end_is

    go : (end : Option ℕ) → IsSomeAnd end (λ e. IsSomeAnd log.file.content (IsStarted log.file.images e bodies)) → end ≡ Some (end_place bodies)
    go None none = absurd none
    go (Some end) is = ap Some (told end log.file.content is)

module _ (vid : ℕ) (mode : Mode) (item : ManagerRecord) (body : List ℕ) (spells : Spells vid mode item body) (old new : LogView) where
  pub appended : (place : ℕ) (bodies : List (List ℕ)) → old.end ≡ Some place → HasBodies old bodies → Appends {T = ℕ} body old new (Ok place) → AppendsItem vid mode item bodies new (Ok place)
  appended place bodies ends has appends =
      let to = of_bodies old bodies (λ bs. AppendsTo bs body old new (Ok place)) has appends in
      (same (sym ends ∙ ends_behind old bodies has), body, spells, to.added_body)
    where
      same : Some place ≡ Some (end_place bodies) → place ≡ end_place bodies
      same e = cc

  may_have : (bodies : List (List ℕ)) (content : Option (List ℕ)) → IsSomeAnd content (IsBeforeOrAfter bodies body) → IsSomeAnd content (MayHaveRecord vid mode bodies item)
  may_have bodies None none = absurd none
  may_have bodies (Some file) is = elim is [ inl before ↦ inl before | inr after ↦ inr (body, spells, after) ]

  not_appended : (fault : LogFault) (bodies : List (List ℕ)) (count : ℕ) → IsAppendFault fault → HasBodies old bodies → AppendAnswers count old new (Err fault) → Appends {T = ℕ} body old new (Err fault)
      → AppendsItem vid mode item bodies new (Err (fault_by_append fault))
  not_appended logs.Fault bodies count cause has is appends = may_have bodies new.file.content (of_bodies old bodies (λ bs. AppendsTo {T = ℕ} bs body old new (Err logs.Fault)) has appends).stands
  not_appended logs.Memory bodies count cause has is appends = reads_keep old new bodies is.0 is.2 has
  not_appended _ bodies count cause has is appends = absurd cause

-- ---- an append of a spelling that was refused

module _ (vid : ℕ) (mode : Mode) (item : ManagerRecord) (body : List ℕ) (spells : Spells vid mode item body) (old new : LogView) (room : HasRoomFor (item_size vid mode item) old.end) where
  size : length body ≡ item_size vid mode item
  size = spelled_length vid mode item body spells

  pub has_length : 1 ≤ length body
  has_length = omega (arith, size)

  pub has_room : HasRoomFor (length body) old.end
  has_room = subst (λ n. HasRoomFor n old.end) (sym size) room

  module _ (fault : LogFault) (is : AppendAnswers (length body) old new (Err fault)) where
    pub cause_is : IsAppendFault fault
    cause_is = append_fault (length body) old new has_length has_room fault is

    pub refused_counts : LogCall {T = ℕ} old.file new.file (Err fault) → CountsFault {T = ℕ} old.file.faults new.file.faults (Err (fault_by_append fault))
    refused_counts call = counts_by fault old.file new.file cause_is call

    pub refused_ends : AppendEnds old new (Err (fault_by_append fault))
    refused_ends = ends_by fault (length body) old new cause_is is

    pub refused_appends : Appends {T = ℕ} body old new (Err fault) → (bodies : List (List ℕ)) → HasBodies old bodies → AppendsItem vid mode item bodies new (Err (fault_by_append fault))
    refused_appends appends bodies has = not_appended vid mode item body spells old new fault bodies (length body) cause_is has is appends
