-- A unit that a station holds: its chunk, the record in doubt as memory knows it, and whether the unit is released.
use Rattle.std.specs.Prelude.{ℕ, ◌≡◌, ◌⊎◌, List, [], Bool, true, false, not, ◌&&◌, ◌||◌, is_some, Option, None, Some, IsSome, option_map, Result, Ok, Err, IsErr, refl}
use Rattle.std.proofs.Common.{inl, inr}
use Rattle.std.specs.Coded.{Coded, code_by, coded×, coded_ℕ, coded_bool, coded_option, coded⊎}
use Rattle.unit_id.specs.Place.{Place}
use Rattle.unit_id.specs.Messages.{request_of, answer_of}
use Rattle.unit_id.specs.UnitName.{Name}
use Rattle.unit_id.specs.Request.{place_of}
use Rattle.unit_id.specs.Request as asked
use Rattle.unit_id.specs.declared.request.Request as sent
use Rattle.unit_id.specs.declared.request.Request.TheVariants as requests
use Rattle.shard_record.specs.Spelling.{HasSizes}
use Rattle.shard_record.specs.declared.record.ShardRecord.{ShardRecord}
use Rattle.shard_record.specs.declared.record.ShardRecord.TheVariants as records
use Rattle.unit_id.specs.declared.answer.Answer.TheVariants as answers
use Rattle.unit_id.specs.declared.answer.Answer as answered
use Rattle.disk_base.specs.Faults.{Rose}
use Rattle.disk_base.specs.Disk.{FileView, AtEachMoment, Lasts}
use Rattle.disk_base.specs.declared.fault.NoMemory.{NoMemory}
use Rattle.chunk_store.specs.Kept.{KeptRows, row_of, kind_of}
use Rattle.chunk_store.specs.Records.{IsChunkOf}
use Rattle.chunk_store.specs.Chunk.{ChunkOver, coded_chunk, shown, IsSound, HasRecords}
use Rattle.chunk_store.specs.declared.answer.Put.{Put}
use Rattle.chunk_store.specs.declared.answer.Put.TheVariants as put
use Rattle.chunk_store.specs.declared.answer.Got.{Got}
use Rattle.chunk_store.specs.declared.answer.Got.TheVariants as got
use Rattle.chunk_store.specs.declared.answer.RowKind.{RowKind}
use Rattle.chunk_store.specs.declared.answer.RowKind.TheVariants as kinds
use Rattle.chunk_store.specs.declared.fault.ChunkFault.{ChunkFault}
use Rattle.chunk_store.specs.declared.fault.ChunkFault.TheVariants as faults
use Rattle.blob_node.specs.Units.{UnitRecord, Units, with_at}
use Rattle.blob_node.specs.UnitAnswer.{Effect, Works, view_at, units_after, settled}
use Rattle.blob_node.specs.Holding.{Written, Says, Holds, item_of, with_item, written_after, ShowsBytes}
use Rattle.blob_node.specs.declared.held_unit.Doubt.{Doubt}
use Rattle.blob_node.specs.declared.held_unit.Doubt.TheVariants as doubts

-- the record of a doubt
abbrev pub record_of_doubt : Doubt → UnitRecord
record_of_doubt (doubts.Shard bid) = UnitRecord.Shard bid
record_of_doubt (doubts.Mark bid) = UnitRecord.Mark bid
record_of_doubt (doubts.Free bid) = UnitRecord.Free bid
record_of_doubt (doubts.Fence lock) = UnitRecord.Fence lock
record_of_doubt doubts.Release = UnitRecord.Release

pub record UnitOver (E : Type 0) : Type 0 where
  pub chunk : ChunkOver E
  pub doubt : Option Doubt
  pub was_released : Bool

abbrev numbers_of : Doubt → (ℕ ⊎ (ℕ ⊎ (ℕ ⊎ (ℕ ⊎ Bool))))
numbers_of (doubts.Shard bid) = inl bid
numbers_of (doubts.Mark bid) = inr (inl bid)
numbers_of (doubts.Free bid) = inr (inr (inl bid))
numbers_of (doubts.Fence lock) = inr (inr (inr (inl lock)))
numbers_of doubts.Release = inr (inr (inr (inr true)))

abbrev doubt_with : (ℕ ⊎ (ℕ ⊎ (ℕ ⊎ (ℕ ⊎ Bool)))) → Doubt
doubt_with (inl bid) = doubts.Shard bid
doubt_with (inr (inl bid)) = doubts.Mark bid
doubt_with (inr (inr (inl bid))) = doubts.Free bid
doubt_with (inr (inr (inr (inl lock)))) = doubts.Fence lock
doubt_with (inr (inr (inr (inr x)))) = doubts.Release

pub same_doubt : (doubt : Doubt) → doubt_with (numbers_of doubt) ≡ doubt
same_doubt (doubts.Shard bid) = refl
same_doubt (doubts.Mark bid) = refl
same_doubt (doubts.Free bid) = refl
same_doubt (doubts.Fence lock) = refl
same_doubt doubts.Release = refl

abbrev pub coded_doubt : Coded Doubt
coded_doubt = code_by (ℕ ⊎ (ℕ ⊎ (ℕ ⊎ (ℕ ⊎ Bool)))) (coded⊎ coded_ℕ (coded⊎ coded_ℕ (coded⊎ coded_ℕ (coded⊎ coded_ℕ coded_bool)))) numbers_of doubt_with same_doubt

abbrev pub coded_unit : {E : Type 0} → Coded E → Coded (UnitOver E)
coded_unit {E} file =
    code_by (ChunkOver E × (Option Doubt × Bool)) (coded× (coded_chunk file) (coded× (coded_option coded_doubt) coded_bool))
    (λ unit. (unit.chunk, (unit.doubt, unit.was_released)))
    (λ parts. record { chunk = parts.0; doubt = parts.1.0; was_released = parts.1.1 }) (λ _. refl)

-- memory knows it from an open chunk, or from before the chunk was shut
abbrev pub is_released : {E : Type 0} → UnitOver E → Bool
is_released unit = unit.was_released || (not unit.chunk.is_shut && unit.chunk.kept.is_released)

-- the unit stands for what was written and what the protocol knows of it
abbrev pub Held : {E : Type 0} → (E → FileView) → UnitOver E → Written → Units → Place → Type 0
Held seen unit written units place = Holds (shown seen unit.chunk) (option_map record_of_doubt unit.doubt) (is_released unit) written units place

-- a chunk that was started over a file without records
pub record IsFresh {E : Type 0} (seen : E → FileView) (chunk : ChunkOver E) : Type 0 where
  pub open_ : chunk.is_shut ≡ false
  pub sound : IsSound (shown seen chunk)
  pub empty : HasRecords (shown seen chunk) []

-- ---- answers

-- what a refusal of the chunk is answered with; a chunk that is open is not shut
abbrev pub Refused : ChunkFault → Result answered.Answer NoMemory → Type 0
Refused faults.Fault result = result ≡ Ok answers.Fault
Refused faults.Shut result = result ≡ Ok answers.Fault
Refused (faults.Damaged kept computed) result = result ≡ Ok (answers.Damaged kept computed)
Refused (faults.Spoiled place) result = result ≡ Ok (answers.Spoiled place)
Refused (faults.Full end) result = result ≡ Ok (answers.Full end)
Refused faults.NotMarked result = result ≡ Ok answers.NotMarked
Refused (faults.Fenced lock) result = result ≡ Ok (answers.Fenced lock)
Refused faults.Memory result = IsErr result

-- what the chunk answered, as an answer of the unit
abbrev pub Gives : {T : Type 0} → (T → answered.Answer) → Result T ChunkFault → Result answered.Answer NoMemory → Type 0
Gives answer (Ok x) result = result ≡ Ok (answer x)
Gives answer (Err fault) result = Refused fault result

abbrev pub GivesListing : ℕ → Result (List ℕ × List ℕ) ChunkFault → Result answered.Answer NoMemory → Type 0
GivesListing lock (Ok lists) result = result ≡ Ok (answers.Listing lock lists.0 lists.1)
GivesListing lock (Err why) result = IsErr result

abbrev pub of_put : Put → answered.Answer
of_put put.Stored = answers.Done
of_put put.Already = answers.Already
of_put put.Deleted = answers.Deleted

-- true where it is done now
abbrev pub of_change : Bool → answered.Answer
of_change true = answers.Done
of_change false = answers.Already

abbrev pub of_unit : Unit {0} → answered.Answer
of_unit _ = answers.Done

abbrev pub of_got : Got → answered.Answer
of_got (got.Live blob_size bytes) = answers.Live blob_size bytes
of_got got.Marked = answers.Marked
of_got got.Gone = answers.Gone
of_got got.Absent = answers.Absent

-- a write that failed leaves its record in doubt
abbrev pub doubt_by : {T : Type 0} → Doubt → Result T ChunkFault → Option Doubt
doubt_by doubt (Err faults.Fault) = Some doubt
doubt_by doubt _ = None

-- ---- work

-- the answer of a unit at work, and how it stands then
pub record WorksOn {E : Type 0} (seen : E → FileView) (request : sent.Request) (written : Written) (units : Units) (place : Place) (answer : answered.Answer) (new : UnitOver E) : Type 0 where
  pub effect : Effect
  pub works : Works (view_at (λ _. false) units place) (request_of request) (answer_of answer) effect
  pub bytes : ShowsBytes request answer written.items
  pub holds : Held seen new (written_after effect (item_of request) written) (units_after place (request_of request) effect units) place

-- for want of memory nothing changes
abbrev pub WorksBy : {E : Type 0} → (E → FileView) → sent.Request → Written → Units → Place → UnitOver E → Result answered.Answer NoMemory → Type 0
WorksBy seen request written units place new (Ok answer) = WorksOn seen request written units place answer new
WorksBy seen request written units place new (Err _) = Held seen new written units place

-- The request's record stands behind those that were written. The unit isn't released, and the request may leave its record in doubt.
pub record HasOneMore (request : sent.Request) (unit : Name) (items : List ShardRecord) (units : Units) (place : Place) (file : List ℕ) : Type 0 where
  pub unreleased : units.is_released place ≡ false
  pub may_write : Works (view_at (λ _. false) units place) (request_of request) asked.Answer.Fault Effect.Doubted
  pub says : IsChunkOf file unit (with_item items (item_of request))

-- what a crash inside the work leaves of the file: the records that were written, or these with the request's
abbrev pub LeavesAtWork : sent.Request → Name → List ShardRecord → Units → Place → List ℕ → Type 0
LeavesAtWork request unit items units place file = IsChunkOf file unit items ⊎ HasOneMore request unit items units place file

abbrev pub WorksThrough : {E : Type 0} → (E → FileView) → sent.Request → Written → Units → Place → UnitOver E → UnitOver E → Type 0
WorksThrough seen request written units place old new =
    AtEachMoment (seen old.chunk.log.file) (seen new.chunk.log.file) (LeavesAtWork request old.chunk.unit written.items units place)

abbrev pub WorksFrom : {E : Type 0} → (E → FileView) → sent.Request → Written → Units → Place → UnitOver E → UnitOver E → Result answered.Answer NoMemory → Type 0
WorksFrom seen request written units place old new result = WorksBy seen request written units place new result × WorksThrough seen request written units place old new

-- whatever the unit stands for before
abbrev pub Worked : {E : Type 0} → (E → FileView) → sent.Request → UnitOver E → UnitOver E → Result answered.Answer NoMemory → Type 0
Worked seen request old new result = (written : Written) (units : Units) (place : Place) → Held seen old written units place → WorksFrom seen request written units place old new result

-- what calls on the unit's file kept: it fails exactly where the answer is a fault
abbrev pub CountsAnswer : ℕ → ℕ → Result answered.Answer NoMemory → Type 0
CountsAnswer before now (Ok answers.Fault) = Rose before now
CountsAnswer before now _ = now ≡ before

pub record UnitCall (old new : FileView) (result : Result answered.Answer NoMemory) : Type 0 where
  pub lasts : Lasts old new
  pub counts : CountsAnswer old.faults new.faults result

-- ---- a start

-- the rows tell that the record in doubt was written
abbrev pub is_kind : Option RowKind → Option RowKind → Bool
is_kind (Some kinds.Live) (Some kinds.Live) = true
is_kind (Some kinds.Marked) (Some kinds.Marked) = true
is_kind (Some kinds.Gone) (Some kinds.Gone) = true
is_kind _ _ = false

abbrev pub is_found : Option Doubt → KeptRows → Bool
is_found None kept = false
is_found (Some (doubts.Shard bid)) kept = is_kind (kind_of (row_of kept bid)) (Some kinds.Live)
is_found (Some (doubts.Mark bid)) kept = is_kind (kind_of (row_of kept bid)) (Some kinds.Marked)
is_found (Some (doubts.Free bid)) kept = is_kind (kind_of (row_of kept bid)) (Some kinds.Gone)
is_found (Some (doubts.Fence lock)) kept = is_some kept.fence
is_found (Some doubts.Release) kept = kept.is_released

-- what was written once the record in doubt is found or not
abbrev pub written_settled : Bool → Written → Written
written_settled true written = record { items = with_item written.items written.doubt; doubt = None }
written_settled false written = record { items = written.items; doubt = None }

-- why a chunk doesn't start
abbrev pub IsStartRefusal : ChunkFault → Type 0
IsStartRefusal faults.Fault = Unit {0}
IsStartRefusal (faults.Damaged kept computed) = Unit {0}
IsStartRefusal (faults.Spoiled place) = Unit {0}
IsStartRefusal faults.Memory = Unit {0}
IsStartRefusal _ = ⊥

-- A start settles what was in doubt. Where it gives up the chunk is shut, or for want of memory as it was, and the doubt stays.
abbrev pub StartsBy : {E : Type 0} → (E → FileView) → Written → Units → Place → UnitOver E → Result Bool ChunkFault → Type 0
StartsBy seen written units place new (Ok found) =
    Held seen new (written_settled found written) (settled place found units) place × (found ≡ true → is_some (units.doubt place) ≡ true)
StartsBy seen written units place new (Err fault) =
    ((fault ≡ faults.Fault) ⊎ (fault ≡ faults.Memory))
    × Held seen new written (record units { is_shut = with_at place new.chunk.is_shut units.is_shut }) place

abbrev pub Restarted : {E : Type 0} → (E → FileView) → UnitOver E → UnitOver E → Result Bool ChunkFault → Type 0
Restarted seen old new result = (written : Written) (units : Units) (place : Place) → Held seen old written units place → StartsBy seen written units place new result

-- at each moment of a start a crash leaves of the file the records that were written, without the one in doubt or with it
abbrev pub StartsThrough : {E : Type 0} → (E → FileView) → UnitOver E → UnitOver E → Type 0
StartsThrough seen old new = (written : Written) (units : Units) (place : Place) → Held seen old written units place
    → AtEachMoment (seen old.chunk.log.file) (seen new.chunk.log.file) (Says old.chunk.unit written.items written.doubt)

-- ---- a request as a whole

-- the unit that is asked
abbrev pub name_of : sent.Request → Name
name_of (requests.Create unit disk) = unit
name_of (requests.Fence unit disk lock) = unit
name_of (requests.Put unit disk bid blob_size bytes) = unit
name_of (requests.Read unit disk bid) = unit
name_of (requests.List unit disk lock) = unit
name_of (requests.Copy unit disk bid blob_size bytes) = unit
name_of (requests.Mark unit disk bid) = unit
name_of (requests.Free unit disk bid) = unit
name_of (requests.Release unit disk) = unit

-- the disk that is asked
abbrev pub disk_of : sent.Request → ℕ
disk_of request = (place_of (request_of request)).disk

abbrev pub is_create : sent.Request → Bool
is_create (requests.Create unit disk) = true
is_create request = false

-- the shard that a put or a copy carries, and its blob, have sizes that a record may have
abbrev pub CarriesShard : sent.Request → Type 0
CarriesShard (requests.Put unit disk bid blob_size bytes) = HasSizes (records.Shard bid unit blob_size bytes)
CarriesShard (requests.Copy unit disk bid blob_size bytes) = HasSizes (records.Shard bid unit blob_size bytes)
CarriesShard request = Unit {0}

-- what a start of a shut chunk left, if there was one
abbrev pub settled_by : Place → Option Bool → Units → Units
settled_by place None units = units
settled_by place (Some found) units = settled place found units

abbrev pub written_by : Option Bool → Written → Written
written_by None written = written
written_by (Some found) written = written_settled found written

-- what a unit answers once its chunk was started: the start may have shown that it is released
abbrev pub GoesOnBy : {E : Type 0} → (E → FileView) → sent.Request → ℕ → Written → Units → Place → UnitOver E → Result answered.Answer NoMemory → Type 0
GoesOnBy seen request have written units place new (Ok answer) =
    ((units.is_released place ≡ true) × (answer ≡ answers.Stale have) × Held seen new written units place)
    ⊎ ((units.is_released place ≡ false) × WorksOn seen request written units place answer new)
GoesOnBy seen request have written units place new (Err _) = Held seen new written units place

abbrev pub GoesOn : {E : Type 0} → (E → FileView) → sent.Request → ℕ → UnitOver E → UnitOver E → Result answered.Answer NoMemory → Type 0
GoesOn seen request have old new result = (written : Written) (units : Units) (place : Place) → Held seen old written units place
    → GoesOnBy seen request have written units place new result × WorksThrough seen request written units place old new

-- a chunk that is shut and doesn't start gives a fault
pub record FailsToStart {E : Type 0} (seen : E → FileView) (written : Written) (units : Units) (place : Place) (found : Option Bool) (answer : answered.Answer) (new : UnitOver E) : Type 0 where
  pub shut : units.is_shut place ≡ true
  pub not_found : found ≡ None
  pub fault : answer ≡ answers.Fault
  pub holds : Held seen new written units place

-- the start found that the unit is released
pub record IsFoundReleased {E : Type 0} (seen : E → FileView) (have : ℕ) (written : Written) (units : Units) (place : Place) (found : Option Bool) (answer : answered.Answer) (new : UnitOver E) : Type 0 where
  pub released : (settled_by place found units).is_released place ≡ true
  pub stale : answer ≡ answers.Stale have
  pub holds : Held seen new (written_by found written) (settled_by place found units) place

-- a unit whose chunk is open, with nothing in doubt, does its work
pub record IsServing {E : Type 0} (seen : E → FileView) (request : sent.Request) (written : Written) (units : Units) (place : Place) (found : Option Bool) (answer : answered.Answer) (new : UnitOver E) : Type 0 where
  pub unreleased : (settled_by place found units).is_released place ≡ false
  pub settled_is : (settled_by place found units).doubt place ≡ None
  pub works : WorksOn seen request (written_by found written) (settled_by place found units) place answer new

abbrev pub ServesBy : {E : Type 0} → (E → FileView) → sent.Request → ℕ → Written → Units → Place → Option Bool → UnitOver E → Result answered.Answer NoMemory → Type 0
ServesBy seen request have written units place found new (Ok answer) =
    FailsToStart seen written units place found answer new
    ⊎ (IsFoundReleased seen have written units place found answer new ⊎ IsServing seen request written units place found answer new)
ServesBy seen request have written units place found new (Err _) = Held seen new (written_by found written) (settled_by place found units) place

-- What a crash inside a request leaves of the file: the records that were written, without the one in doubt or with it, and once that is
-- settled what a crash inside the work leaves.
abbrev pub LeavesInside : sent.Request → Name → Written → Units → Place → Option Bool → List ℕ → Type 0
LeavesInside request unit written units place found file =
    Says unit written.items written.doubt file
    ⊎ LeavesAtWork request unit (written_by found written).items (settled_by place found units) place file

abbrev pub ServesThrough : {E : Type 0} → (E → FileView) → sent.Request → Written → Units → Place → Option Bool → UnitOver E → UnitOver E → Type 0
ServesThrough seen request written units place found old new =
    AtEachMoment (seen old.chunk.log.file) (seen new.chunk.log.file) (LeavesInside request old.chunk.unit written units place found)

-- a found record was in doubt
abbrev pub Served : {E : Type 0} → (E → FileView) → sent.Request → ℕ → UnitOver E → UnitOver E → Option Bool → Result answered.Answer NoMemory → Type 0
Served seen request have old new found result = (written : Written) (units : Units) (place : Place) → Held seen old written units place →
    ServesBy seen request have written units place found new result × (found ≡ Some true → is_some (units.doubt place) ≡ true) × (IsSome found → units.is_shut place ≡ true)
    × ServesThrough seen request written units place found old new
