-- What memory keeps of the rows of a chunk: no bytes, but where they stand.
use Rattle.std.specs.Prelude.{ℕ, ◌≡◌, Bool, true, false, if◌then◌else◌, List, [], ◌∷◌, Option, None, Some, refl, ◌==◌}
use Rattle.std.specs.List.{list_any}
use Rattle.std.specs.List.Sorted.{IsStrictlyIncreasing}
use Rattle.std.specs.Ordering.{nat_cmp}
use Rattle.std.specs.Coded.{Coded, code_by, coded×, coded_ℕ, coded_bool, coded_option}
use Rattle.std.specs.FinMap.{FinMap}
use Rattle.std.specs.FinMap as map
use Rattle.shard_record.specs.declared.record.ShardRecord.{ShardRecord}
use Rattle.shard_record.specs.declared.record.ShardRecord.TheVariants.{Shard, Mark, Free, Fence, Release}
use Rattle.chunk_store.specs.declared.fault.ChunkFault.{ChunkFault}
use Rattle.chunk_store.specs.declared.fault.ChunkFault.TheVariants.{Fault, Memory}
use Rattle.chunk_store.specs.declared.answer.RowKind.{RowKind}
use Rattle.chunk_store.specs.declared.answer.RowKind.TheVariants as kinds
use Rattle.chunk_store.specs.declared.index.KeptRow.{KeptRow}
use Rattle.chunk_store.specs.declared.index.KeptRow.TheVariants.{Live, Marked, Gone}

-- by blob what the row is, the lock number of the fence, and whether the unit was released
pub record KeptRows : Type 0 where
  pub rows : FinMap nat_cmp KeptRow
  pub fence : Option ℕ
  pub is_released : Bool

abbrev pub nothing_kept : KeptRows
nothing_kept = record { rows = map.empty; fence = None; is_released = false }

abbrev pub row_of : KeptRows → ℕ → Option KeptRow
row_of kept bid = map.get kept.rows bid

-- what it is, without its place
abbrev pub kind_of : Option KeptRow → Option RowKind
kind_of None = None
kind_of (Some (Live place blob_size)) = Some kinds.Live
kind_of (Some Marked) = Some kinds.Marked
kind_of (Some Gone) = Some kinds.Gone

-- ---- what one record more does, as it does to the rows themselves

abbrev pub with_kept : KeptRows → ℕ → KeptRow → KeptRows
with_kept kept bid row = record kept { rows = map.insert kept.rows bid row }

abbrev pub kept_after_shard : KeptRows → ℕ → ℕ → ℕ → Option KeptRow → KeptRows
kept_after_shard kept bid place blob_size None = with_kept kept bid (Live place blob_size)
kept_after_shard kept bid place blob_size (Some row) = kept

abbrev pub kept_after_mark : KeptRows → ℕ → Option KeptRow → KeptRows
kept_after_mark kept bid None = with_kept kept bid Marked
kept_after_mark kept bid (Some (Live place blob_size)) = with_kept kept bid Marked
kept_after_mark kept bid (Some Marked) = kept
kept_after_mark kept bid (Some Gone) = kept

abbrev pub kept_after_free : KeptRows → ℕ → Option KeptRow → KeptRows
kept_after_free kept bid None = kept
kept_after_free kept bid (Some (Live place blob_size)) = kept
kept_after_free kept bid (Some Marked) = with_kept kept bid Gone
kept_after_free kept bid (Some Gone) = kept

abbrev pub kept_after_fence : KeptRows → ℕ → Option ℕ → KeptRows
kept_after_fence kept lock None = record kept { fence = Some lock }
kept_after_fence kept lock (Some first) = kept

abbrev pub released_kept : KeptRows
released_kept = record { rows = map.empty; fence = None; is_released = true }

-- what is kept once a record stands at a place, of a unit that isn't released
abbrev pub kept_after : KeptRows → ℕ → ShardRecord → KeptRows
kept_after kept place (Shard bid unit blob_size bytes) = kept_after_shard kept bid place blob_size (row_of kept bid)
kept_after kept place (Mark bid unit) = kept_after_mark kept bid (row_of kept bid)
kept_after kept place (Free bid unit) = kept_after_free kept bid (row_of kept bid)
kept_after kept place (Fence lock unit) = kept_after_fence kept lock kept.fence
kept_after kept place (Release unit) = released_kept

-- ---- listings

abbrev pub is_live : Option KeptRow → Bool
is_live None = false
is_live (Some (Live place blob_size)) = true
is_live (Some Marked) = false
is_live (Some Gone) = false

-- marked or gone
abbrev pub is_deleted : Option KeptRow → Bool
is_deleted None = false
is_deleted (Some (Live place blob_size)) = false
is_deleted (Some Marked) = true
is_deleted (Some Gone) = true

-- the keys of the entries whose row passes the test
abbrev pub bids_where : (Option KeptRow → Bool) → List (ℕ × KeptRow) → List ℕ
bids_where wanted [] = []
bids_where wanted (e ∷ es) = if wanted (Some e.1) then e.0 ∷ bids_where wanted es else bids_where wanted es

-- in ascending order exactly the blobs whose row passes the test
pub record Lists (wanted : Option KeptRow → Bool) (kept : KeptRows) (bids : List ℕ) : Type 0 where
  pub ascending : IsStrictlyIncreasing bids
  pub exactly : (bid : ℕ) → list_any (λ listed. listed == bid) bids ≡ wanted (row_of kept bid)

-- ---- an index as a value, with the number of rows that it has room for

pub record Index : Type 0 where
  pub kept : KeptRows
  pub spare : ℕ

abbrev numbers_of : KeptRow → Option (Option (ℕ × ℕ))
numbers_of (Live place blob_size) = Some (Some (place, blob_size))
numbers_of Marked = Some None
numbers_of Gone = None

abbrev row_with : Option (Option (ℕ × ℕ)) → KeptRow
row_with (Some (Some (place, blob_size))) = Live place blob_size
row_with (Some None) = Marked
row_with None = Gone

pub same_row : (row : KeptRow) → row_with (numbers_of row) ≡ row
same_row (Live place blob_size) = refl
same_row Marked = refl
same_row Gone = refl

abbrev pub coded_row : Coded KeptRow
coded_row = code_by (Option (Option (ℕ × ℕ))) (coded_option (coded_option (coded× coded_ℕ coded_ℕ))) numbers_of row_with same_row

abbrev pub coded_kept : Coded KeptRows
coded_kept = code_by (FinMap nat_cmp KeptRow × (Option ℕ × Bool)) (coded× (map.code coded_ℕ coded_row) (coded× (coded_option coded_ℕ) coded_bool)) (λ kept. (kept.rows, (kept.fence, kept.is_released))) (λ parts. record { rows = parts.0; fence = parts.1.0; is_released = parts.1.1 }) (λ _. refl)

abbrev pub coded_index : Coded Index
coded_index = code_by (KeptRows × ℕ) (coded× coded_kept coded_ℕ) (λ index. (index.kept, index.spare)) (λ parts. record { kept = parts.0; spare = parts.1 }) (λ _. refl)

-- ---- what a fault leaves

abbrev pub is_fault : ChunkFault → Bool
is_fault Fault = true
is_fault _ = false

-- want of memory alone leaves a chunk as it was
abbrev pub shut_after : ChunkFault → Bool → Bool
shut_after Memory was_shut = was_shut
shut_after _ was_shut = true
