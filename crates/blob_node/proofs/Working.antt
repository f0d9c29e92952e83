-- From what a chunk does by its plan to what the unit answers and stands for.
use Rattle.std.proofs.Common.{◌≡◌, ◌∙◌, sym, ap, refl, subst, ℕ, Bool, true, false, List, [], ◌∷◌, ◌++◌, Option, None, Some, Result, Ok, Err, inl, inr}
use Rattle.std.specs.Prelude.{option_map, ◌||◌, not, ◌&&◌, IsErr}
use Rattle.unit_id.specs.UnitName.{Name}
use Rattle.unit_id.specs.Place.{Place}
use Rattle.unit_id.specs.Request as asked
use Rattle.unit_id.specs.Messages.{request_of, answer_of}
use Rattle.unit_id.specs.declared.request.Request as sent
use Rattle.unit_id.specs.declared.answer.Answer as answered
use Rattle.unit_id.specs.declared.answer.Answer.TheVariants as answers
use Rattle.unit_id.proofs.Bools.{or_none}
use Rattle.disk_base.specs.Disk.{FileView, IsFile, IsWithin, LeavesExactly}
use Rattle.disk_base.specs.Moments.{lasts_none, at_start, weaker}
use Rattle.disk_base.specs.declared.fault.NoMemory.{NoMemory}
use Rattle.shard_record.specs.Rows.{Row, Rows, rows_after, row_at}
use Rattle.shard_record.specs.Rows as rows
use Rattle.shard_record.specs.declared.record.ShardRecord.{ShardRecord}
use Rattle.chunk_store.specs.Kept.{KeptRows, row_of, kind_of, kept_after}
use Rattle.chunk_store.specs.Records.{HasKinds, kind_of_row, IsChunkOf, IsWithOrWithout}
use Rattle.chunk_store.specs.Chunk.{ChunkOver, ChunkView, shown, IsSound, HasRecords, Plan, refuse, answer, add, Does, Adds, AddEnds, ChunkCall, CountsFault, IsUnwritten}
use Rattle.chunk_store.specs.declared.answer.RowKind.{RowKind}
use Rattle.chunk_store.specs.declared.answer.RowKind.TheVariants as kinds
use Rattle.chunk_store.specs.declared.fault.ChunkFault.{ChunkFault}
use Rattle.chunk_store.specs.declared.fault.ChunkFault.TheVariants as faults
use Rattle.chunk_store.proofs.ChunkLaws.{has_kinds}
use Rattle.chunk_store.proofs.Opened.{told_at}
use Rattle.blob_node.specs.Units.{RowState, UnitRecord, Units, with_at, with_record}
use Rattle.blob_node.specs.UnitAnswer.{Effect, Works, view_at, started, with_written, record_of}
use Rattle.blob_node.specs.Holding.{Written, Holds, IsNew, without_bytes, state_of, item_of, with_item, written_after, ShowsBytes}
use Rattle.blob_node.specs.HeldUnit.{UnitOver, is_released, Held, record_of_doubt, doubt_by, Refused, Gives, WorksOn, WorksBy, WorksFrom, LeavesAtWork, WorksThrough, CountsAnswer, UnitCall}
use Rattle.blob_node.specs.declared.held_unit.Doubt.{Doubt}
use Rattle.blob_node.proofs.Holdings.{has_still, same_flag, stays, waits, grows, doubts, never_both}

-- the units with a record of one in doubt
abbrev pub units_in_doubt : Place → UnitRecord → Units → Units
units_in_doubt place item units = record units { is_shut = with_at place true units.is_shut; doubt = with_at place (Some item) units.doubt }

-- ---- what calls on the file keep

-- an answer that isn't a fault
abbrev pub IsCalm : {T : Type 0} → (T → answered.Answer) → Type 0
IsCalm {T} f = (x : T) (before now : ℕ) → now ≡ before → CountsAnswer before now (Ok (f x))

refused_counts : (fault : ChunkFault) (before now : ℕ) (result : Result answered.Answer NoMemory) → (fault ≡ faults.Shut → ⊥) → CountsFault {T = Unit {0}} before now (Err fault) → Refused fault result → CountsAnswer before now result
refused_counts faults.Fault before now result calm counts is = subst (CountsAnswer before now) (sym is) counts
refused_counts faults.Shut before now result calm counts is = absurd (calm refl)
refused_counts (faults.Damaged a b) before now result calm counts is = subst (CountsAnswer before now) (sym is) counts
refused_counts (faults.Spoiled a) before now result calm counts is = subst (CountsAnswer before now) (sym is) counts
refused_counts (faults.Full end) before now result calm counts is = subst (CountsAnswer before now) (sym is) counts
refused_counts faults.NotMarked before now result calm counts is = subst (CountsAnswer before now) (sym is) counts
refused_counts (faults.Fenced lock) before now result calm counts is = subst (CountsAnswer before now) (sym is) counts
refused_counts faults.Memory before now (Ok x) calm counts is = absurd (not_err x is)
  where
    not_err : (x : answered.Answer) → IsErr {T = answered.Answer} {E = NoMemory} (Ok x) → ⊥
    not_err x e = cc
refused_counts faults.Memory before now (Err x) calm counts is = counts

same_counts : (T : Type 0) (before now : ℕ) (fault : ChunkFault) → CountsFault {T = T} before now (Err fault) → CountsFault {T = Unit {0}} before now (Err fault)
same_counts T before now faults.Fault h = h
same_counts T before now faults.Shut h = h
same_counts T before now (faults.Damaged a b) h = h
same_counts T before now (faults.Spoiled a) h = h
same_counts T before now (faults.Full end) h = h
same_counts T before now faults.NotMarked h = h
same_counts T before now (faults.Fenced lock) h = h
same_counts T before now faults.Memory h = h

pub call_of : {T : Type 0} (f : T → answered.Answer) (old new : FileView) (outcome : Result T ChunkFault) (result : Result answered.Answer NoMemory) → IsCalm f → (outcome ≡ Err faults.Shut → ⊥) → ChunkCall old new outcome → Gives f outcome result → UnitCall old new result
call_of f old new (Ok x) result calm open_ call gives = record { lasts = call.lasts; counts = subst (CountsAnswer old.faults new.faults) (sym gives) (calm x old.faults new.faults call.counts) }
call_of {T} f old new (Err fault) result calm open_ call gives = record {
  lasts = call.lasts;
  counts = refused_counts fault old.faults new.faults result (λ e. open_ (ap (λ (x : ChunkFault). Err x) e)) (same_counts T old.faults new.faults fault call.counts) gives;
}

flag_of : (was shut flag : Bool) → was ≡ false → shut ≡ false → was || (not shut && flag) ≡ flag
flag_of false false flag e f = refl
flag_of true shut flag e f = absurd (never_both true e refl)
flag_of false true flag e f = absurd (never_both true f refl)

flag_shut : (was shut flag : Bool) → was ≡ false → shut ≡ true → was || (not shut && flag) ≡ false
flag_shut false true flag e f = refl
flag_shut true shut flag e f = absurd (never_both true e refl)
flag_shut false false flag e f = absurd (never_both false refl f)

-- ---- rows as memory keeps them

abbrev pub state_of_kind : Option RowKind → Option RowState
state_of_kind None = None
state_of_kind (Some kinds.Live) = Some RowState.Live
state_of_kind (Some kinds.Marked) = Some RowState.Marked
state_of_kind (Some kinds.Gone) = Some RowState.Gone

pub same_state : (row : Option Row) → state_of row ≡ state_of_kind (kind_of_row row)
same_state None = refl
same_state (Some (rows.Live size bytes)) = refl
same_state (Some rows.Marked) = refl
same_state (Some rows.Gone) = refl

-- a crash leaves an open chunk's file with its records
pub image_has : (chunk : ChunkView) (items : List ShardRecord) → HasRecords chunk items → IsWithin chunk.file.images (λ c. IsChunkOf c chunk.unit items)
image_has chunk items has c left =
    let at = told_at chunk.file.content (λ file. IsChunkOf file chunk.unit items × LeavesExactly file chunk.file.images) has in
    subst (λ (file : List ℕ). IsChunkOf file chunk.unit items) (sym (at.holds.1 c left)) at.holds.0

-- nothing was done
pub through_none : {E : Type 0} (seen : E → FileView) (request : sent.Request) (unit : UnitOver E) (written : Written) (units : Units) (place : Place) → IsFile (seen unit.chunk.log.file) → HasRecords (shown seen unit.chunk) written.items
    → WorksThrough seen request written units place unit unit
through_none seen request unit written units place is_file has =
    at_start (LeavesAtWork request unit.chunk.unit written.items units place) (seen unit.chunk.log.file)
    (λ c left. inl (image_has (shown seen unit.chunk) written.items has c (is_file.present_alone c left)))

module _ {E : Type 0} (seen : E → FileView) (old new : UnitOver E) (written : Written) (units : Units) (place : Place) (held : Held seen old written units place) (open_ : old.chunk.is_shut ≡ false) (sound : IsSound (shown seen old.chunk)) where
  pub has_old : HasRecords (shown seen old.chunk) written.items
  has_old = (held.file.0 open_).0

  pub kinds_are : HasKinds old.chunk.kept (rows_after written.items)
  kinds_are = has_kinds (shown seen old.chunk) written.items sound open_ has_old

  -- what memory keeps of a row is what the protocol knows
  pub row_is : (bid : ℕ) → units.row place bid ≡ state_of_kind (kind_of (row_of old.chunk.kept bid))
  row_is bid = held.rows_are.rows bid ∙ same_state (row_at written.items bid) ∙ ap state_of_kind (sym (kinds_are.kinds bid))

  pub fence_is : units.fence place ≡ old.chunk.kept.fence
  fence_is = held.rows_are.fence_is ∙ sym kinds_are.fence

  -- ---- the outcome of a write

  module _ (free : is_released old ≡ false) where
    not_released : units.is_released place ≡ false
    not_released = sym held.released ∙ free

    was_not : old.was_released ≡ false
    was_not = (or_none old.was_released (not old.chunk.is_shut && old.chunk.kept.is_released) free).0

    kept_not : old.chunk.kept.is_released ≡ false
    kept_not = kinds_are.released ∙ sym held.rows_are.released ∙ not_released

    module _ (item : ShardRecord) (doubt : Doubt) (doubt_is : record_of_doubt doubt ≡ without_bytes item) (same_was : new.was_released ≡ old.was_released) (is_file : IsFile (seen new.chunk.log.file)) where
      -- what the outcome of writing the record leaves
      abbrev AddsUp : {T : Type 0} → T → Result T ChunkFault → Type 0
      AddsUp reply (Ok x) = (x ≡ reply) × Held seen new (record written { items = written.items ++ item ∷ [] }) (with_record place (without_bytes item) (started place units)) place
      AddsUp reply (Err faults.Fault) = Held seen new (record written { doubt = Some item }) (units_in_doubt place (without_bytes item) units) place
      AddsUp reply (Err (faults.Full end)) = Held seen new written (started place units) place
      AddsUp reply (Err faults.Memory) = Held seen new written units place
      AddsUp reply (Err _) = ⊥

      was_new : new.was_released ≡ false
      was_new = same_was ∙ was_not

      unwritten : IsUnwritten (shown seen old.chunk) (shown seen new.chunk) → (new.chunk.is_shut ≡ false) × HasRecords (shown seen new.chunk) written.items × (is_released new ≡ is_released old)
      unwritten same = (
        same.is_shut ∙ open_,
        has_still (shown seen old.chunk) (shown seen new.chunk) written.items same.unit same.reads has_old,
        flag_of new.was_released new.chunk.is_shut new.chunk.kept.is_released was_new (same.is_shut ∙ open_) ∙ ap (λ (k : KeptRows). k.is_released) same.kept ∙ kept_not ∙ sym free,
      )

      adds_up : {T : Type 0} (reply : T) (outcome : Result T ChunkFault) → IsNew (without_bytes item) units place → new.doubt ≡ doubt_by doubt outcome → Adds item reply (shown seen old.chunk) (shown seen new.chunk) outcome → AddsUp reply outcome
      adds_up reply (Ok x) is_new doubted adds =
          let at = told_at old.chunk.log.end (λ p. new.chunk.kept ≡ kept_after old.chunk.kept p item) adds.ends.1 in
          let shut = adds.ends.2 in (
            adds.ends.0,
            subst (λ (o : Option Doubt). Holds (shown seen new.chunk) (option_map record_of_doubt o) (is_released new) (record written { items = written.items ++ item ∷ [] }) (with_record place (without_bytes item) (started place units)) place) (sym doubted)
                (grows (shown seen old.chunk) (shown seen new.chunk) (option_map record_of_doubt old.doubt) (is_released old) (is_released new) written units place held open_ shut item not_released
                (adds.told written.items has_old).added
                (flag_of new.was_released new.chunk.is_shut new.chunk.kept.is_released was_new shut ∙ ap (λ (k : KeptRows). k.is_released) at.holds
                ∙ same_flag old.chunk.kept at.value item place (started place units) kept_not not_released)),
          )
      adds_up reply (Err faults.Fault) is_new doubted adds =
          subst (λ (o : Option UnitRecord). Holds (shown seen new.chunk) o (is_released new) (record written { doubt = Some item }) (units_in_doubt place (without_bytes item) units) place)
          (sym (ap (option_map record_of_doubt) doubted ∙ ap (λ (r : UnitRecord). Some r) doubt_is))
          (doubts (shown seen old.chunk) (shown seen new.chunk) (option_map record_of_doubt old.doubt) (is_released old) (is_released new) written units place held open_ item adds.ends.1 not_released is_new
          (adds.told written.items has_old).stands
          (λ c left. (adds.told written.items has_old).any_moment.each c (is_file.present_counts (seen old.chunk.log.file).clock c (adds.told written.items has_old).any_moment.never_falls left))
          (flag_shut new.was_released new.chunk.is_shut new.chunk.kept.is_released was_new adds.ends.1 ∙ sym free))
      adds_up reply (Err (faults.Full end)) is_new doubted adds =
          let same = unwritten adds.ends.2 in
          subst (λ (o : Option Doubt). Holds (shown seen new.chunk) (option_map record_of_doubt o) (is_released new) written (started place units) place) (sym doubted)
          (stays (shown seen old.chunk) (shown seen new.chunk) (option_map record_of_doubt old.doubt) (is_released old) (is_released new) written units place held open_ same.0 same.1 same.2)
      adds_up reply (Err faults.Memory) is_new doubted adds =
          let same = unwritten adds.ends in
          subst (λ (o : Option Doubt). Holds (shown seen new.chunk) (option_map record_of_doubt o) (is_released new) written units place) (sym doubted)
          (waits (shown seen old.chunk) (shown seen new.chunk) (option_map record_of_doubt old.doubt) (is_released old) (is_released new) written units place held open_ same.0 same.1 same.2)
      adds_up reply (Err _) is_new doubted adds = absurd adds.ends

      -- ---- a plan that the protocol allows

      module _ (request : sent.Request) (item_is : item_of request ≡ Some item) (record_is : record_of (request_of request) ≡ Some (without_bytes item)) (no_bytes : (a : answered.Answer) → ShowsBytes request a written.items) where
        abbrev pub WorksAs : asked.Answer → Effect → Type 0
        WorksAs = Works (view_at (λ _. false) units place) (request_of request)

        abbrev pub Fitting : {T : Type 0} → (T → answered.Answer) → Plan T → Type 0
        Fitting f (refuse (faults.Fenced lock)) = WorksAs (asked.Answer.Fenced lock) Effect.Started
        Fitting f (refuse faults.NotMarked) = WorksAs asked.Answer.NotMarked Effect.Started
        Fitting f (refuse _) = ⊥
        Fitting f (answer x) = WorksAs (answer_of (f x)) Effect.Started
        Fitting f (add other x) = (other ≡ item) × WorksAs (answer_of (f x)) Effect.Wrote × WorksAs asked.Answer.Fault Effect.Doubted × ((end : ℕ) → WorksAs (asked.Answer.Full end) Effect.Started) × IsNew (without_bytes item) units place

        started_as : (a : answered.Answer) → WorksAs (answer_of a) Effect.Started → Held seen new written (started place units) place → WorksOn seen request written units place a new
        started_as a works held_ = record { effect = Effect.Started; works = works; bytes = no_bytes a; holds = held_ }

        same_chunk : new.chunk ≡ old.chunk → new.doubt ≡ None → Held seen new written (started place units) place
        same_chunk same none =
            subst (λ (o : Option Doubt). Holds (shown seen new.chunk) (option_map record_of_doubt o) (is_released new) written (started place units) place) (sym none)
            (stays (shown seen old.chunk) (shown seen new.chunk) (option_map record_of_doubt old.doubt) (is_released old) (is_released new) written units place held open_
            (ap (λ (k : ChunkOver E). k.is_shut) same ∙ open_) (subst (λ (k : ChunkOver E). HasRecords (shown seen k) written.items) (sym same) has_old)
            (flag_of new.was_released new.chunk.is_shut new.chunk.kept.is_released was_new (ap (λ (k : ChunkOver E). k.is_shut) same ∙ open_) ∙ ap (λ (k : ChunkOver E). k.kept.is_released) same ∙ kept_not ∙ sym free))

        by_add : {T : Type 0} (f : T → answered.Answer) (x : T) (outcome : Result T ChunkFault) (result : Result answered.Answer NoMemory) → Fitting f (add item x) → AddsUp x outcome → Gives f outcome result → WorksBy seen request written units place new result
        by_add f x (Ok y) result fits up gives =
            subst (WorksBy seen request written units place new) (sym (gives ∙ ap (λ z. Ok (f z)) up.0))
            (record {
              effect = Effect.Wrote;
              works = fits.1;
              bytes = no_bytes (f x);
              holds =
                  subst (λ (o : Option UnitRecord). Held seen new (written_after Effect.Wrote (item_of request) written) (with_written place o (started place units)) place) (sym record_is)
                  (subst (λ (o : Option ShardRecord). Held seen new (record written { items = with_item written.items o }) (with_record place (without_bytes item) (started place units)) place) (sym item_is) up.1);
            })
        by_add f x (Err faults.Fault) result fits up gives =
            subst (WorksBy seen request written units place new) (sym gives)
            (record {
              effect = Effect.Doubted;
              works = fits.2;
              bytes = no_bytes answers.Fault;
              holds =
                  subst (λ (o : Option UnitRecord). Held seen new (written_after Effect.Doubted (item_of request) written) (record units { is_shut = with_at place true units.is_shut; doubt = with_at place o units.doubt }) place) (sym record_is)
                  (subst (λ (o : Option ShardRecord). Held seen new (record written { doubt = o }) (units_in_doubt place (without_bytes item) units) place) (sym item_is) up);
            })
        by_add f x (Err (faults.Full end)) result fits up gives = subst (WorksBy seen request written units place new) (sym gives) (started_as (answers.Full end) (fits.3 end) up)
        by_add f x (Err faults.Memory) (Err e) fits up gives = up
        by_add f x (Err faults.Memory) (Ok a) fits up gives = absurd (not_err a gives)
          where
            not_err : (a : answered.Answer) → IsErr {T = answered.Answer} {E = NoMemory} (Ok a) → ⊥
            not_err a e = cc
        by_add f x (Err _) result fits up gives = absurd up

        answered_by : {T : Type 0} (f : T → answered.Answer) (outcome known : Result T ChunkFault) (a : answered.Answer) (result : Result answered.Answer NoMemory) → outcome ≡ known → doubt_by doubt known ≡ None → (Gives f known result → result ≡ Ok a) → new.chunk ≡ old.chunk → new.doubt ≡ doubt_by doubt outcome
            → Gives f outcome result → WorksAs (answer_of a) Effect.Started → WorksBy seen request written units place new result
        answered_by f outcome known a result is none says same doubted gives works =
            subst (WorksBy seen request written units place new) (sym (says (subst (λ o. Gives f o result) is gives)))
            (started_as a works (same_chunk same (doubted ∙ ap (doubt_by doubt) is ∙ none)))

        through_same : new.chunk ≡ old.chunk → WorksThrough seen request written units place old new
        through_same same =
            subst (λ (k : ChunkOver E). WorksThrough seen request written units place old (record new { chunk = k })) (sym same)
            (through_none seen request old written units place (subst (λ (k : ChunkOver E). IsFile (seen k.log.file)) same is_file) has_old)

        left_by : (file : List ℕ) → WorksAs asked.Answer.Fault Effect.Doubted → IsWithOrWithout old.chunk.unit written.items item file → LeavesAtWork request old.chunk.unit written.items units place file
        left_by file may (inl without) = inl without
        left_by file may (inr more) = inr (record {
          unreleased = not_released;
          may_write = may;
          says = subst (λ (o : Option ShardRecord). IsChunkOf file old.chunk.unit (with_item written.items o)) (sym item_is) more;
        })

        -- at each moment a crash leaves what the plan allows
        pub through : {T : Type 0} (f : T → answered.Answer) (plan : Plan T) (outcome : Result T ChunkFault) → Fitting f plan → Does seen plan old.chunk new.chunk outcome → WorksThrough seen request written units place old new
        through f (refuse why) outcome fits does = through_same does.1
        through f (answer x) outcome fits does = through_same does.1
        through f (add other x) outcome fits does =
            let adds = subst (λ (i : ShardRecord). Adds i x (shown seen old.chunk) (shown seen new.chunk) outcome) fits.0 does in
            weaker (IsWithOrWithout new.chunk.unit written.items item) (LeavesAtWork request old.chunk.unit written.items units place) (seen old.chunk.log.file) (seen new.chunk.log.file) (adds.told written.items has_old).any_moment
            (λ c is. left_by c fits.2 (subst (λ (u : Name). IsWithOrWithout u written.items item c) adds.unit is))

        worked_by : {T : Type 0} (f : T → answered.Answer) (plan : Plan T) (outcome : Result T ChunkFault) (result : Result answered.Answer NoMemory) → Fitting f plan → Does seen plan old.chunk new.chunk outcome → new.doubt ≡ doubt_by doubt outcome → Gives f outcome result → WorksBy seen request written units place new result
        worked_by f (refuse (faults.Fenced lock)) outcome result fits does doubted gives = answered_by f outcome (Err (faults.Fenced lock)) (answers.Fenced lock) result does.0 refl (λ h. h) does.1 doubted gives fits
        worked_by f (refuse faults.NotMarked) outcome result fits does doubted gives = answered_by f outcome (Err faults.NotMarked) answers.NotMarked result does.0 refl (λ h. h) does.1 doubted gives fits
        worked_by f (refuse _) outcome result fits does doubted gives = absurd fits
        worked_by f (answer x) outcome result fits does doubted gives = answered_by f outcome (Ok x) (f x) result does.0 refl (λ h. h) does.1 doubted gives fits
        worked_by f (add other x) outcome result fits does doubted gives =
            by_add f x outcome result (refl, fits.1, fits.2, fits.3, fits.4)
            (adds_up x outcome fits.4 doubted (subst (λ (i : ShardRecord). Adds i x (shown seen old.chunk) (shown seen new.chunk) outcome) fits.0 does)) gives

        pub worked : {T : Type 0} (f : T → answered.Answer) (plan : Plan T) (outcome : Result T ChunkFault) (result : Result answered.Answer NoMemory) → Fitting f plan → Does seen plan old.chunk new.chunk outcome → new.doubt ≡ doubt_by doubt outcome → Gives f outcome result
            → WorksFrom seen request written units place old new result
        worked f plan outcome result fits does doubted gives = (worked_by f plan outcome result fits does doubted gives, through f plan outcome fits does)

-- a call by a plan that doesn't find the chunk shut
abbrev pub IsOpenPlan : {T : Type 0} → Plan T → Type 0
IsOpenPlan (refuse (faults.Fenced lock)) = Unit {0}
IsOpenPlan (refuse faults.NotMarked) = Unit {0}
IsOpenPlan (refuse _) = ⊥
IsOpenPlan (answer x) = Unit {0}
IsOpenPlan (add item x) = Unit {0}

module _ {E : Type 0} (seen : E → FileView) where
  pub call_by : {T : Type 0} (f : T → answered.Answer) (plan : Plan T) (old new : ChunkOver E) (outcome : Result T ChunkFault) (result : Result answered.Answer NoMemory) → IsCalm f → IsOpenPlan plan → Does seen plan old new outcome → Gives f outcome result → UnitCall (seen old.log.file) (seen new.log.file) result
  call_by f (refuse (faults.Fenced lock)) old new outcome result calm plan does gives =
      subst (λ (k : ChunkOver E). UnitCall (seen old.log.file) (seen k.log.file) result) (sym does.1)
      (record { lasts = lasts_none (seen old.log.file); counts = subst (CountsAnswer (seen old.log.file).faults (seen old.log.file).faults) (sym (subst (λ o. Gives f o result) does.0 gives)) refl })
  call_by f (refuse faults.NotMarked) old new outcome result calm plan does gives =
      subst (λ (k : ChunkOver E). UnitCall (seen old.log.file) (seen k.log.file) result) (sym does.1)
      (record { lasts = lasts_none (seen old.log.file); counts = subst (CountsAnswer (seen old.log.file).faults (seen old.log.file).faults) (sym (subst (λ o. Gives f o result) does.0 gives)) refl })
  call_by f (refuse _) old new outcome result calm plan does gives = absurd plan
  call_by f (answer x) old new outcome result calm plan does gives =
      subst (λ (k : ChunkOver E). UnitCall (seen old.log.file) (seen k.log.file) result) (sym does.1)
      (record { lasts = lasts_none (seen old.log.file); counts = subst (CountsAnswer (seen old.log.file).faults (seen old.log.file).faults) (sym (subst (λ o. Gives f o result) does.0 gives)) (calm x (seen old.log.file).faults (seen old.log.file).faults refl) })
  call_by f (add item x) old new outcome result calm plan does gives =
      call_of f (seen old.log.file) (seen new.log.file) outcome result calm (λ e. not_shut item x old new outcome does e) does.call gives
    where
      not_shut : {T : Type 0} (item : ShardRecord) (x : T) (old new : ChunkOver E) (outcome : Result T ChunkFault) → Adds item x (shown seen old) (shown seen new) outcome → outcome ≡ Err faults.Shut → ⊥
      not_shut item x old new outcome adds e = subst (λ o. AddEnds item x (shown seen old) (shown seen new) o) e adds.ends
