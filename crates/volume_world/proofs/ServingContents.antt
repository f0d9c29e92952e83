-- After a request the bytes that units keep are still those with which their blobs were begun.
use Rattle.std.proofs.Common.{◌≡◌, ◌∙◌, sym, refl, subst, ℕ, Bool, true, false, cond, List, [], ◌∷◌, Option, None, Some}
use Rattle.std.specs.Prelude.{IfSome}
use Rattle.std.specs.Ordering.{nat_cmp, eq_by_cmp}
use Rattle.std.specs.Cmp.{nat_cmp_total}
use Rattle.std.specs.FinMap.{get-insert, get-empty}
use Rattle.std.specs.FinMap as map
use Rattle.std.proofs.lemmas.Bool.Decides.{nat_tests}
use Rattle.std.proofs.Common.{arith}
use Rattle.unit_id.specs.Place.{Place}
use Rattle.unit_id.specs.Messages.{request_of}
use Rattle.unit_id.specs.Request.{place_of}
use Rattle.unit_id.specs.declared.request.Request as sent
use Rattle.unit_id.specs.declared.request.Request.TheVariants as requests
use Rattle.shard_record.specs.Rows.{Row, Rows, no_rows, rows_after, after_next, after_record, after_shard, after_mark, after_free, after_fence, with_row}
use Rattle.shard_record.specs.Rows as rows
use Rattle.shard_record.specs.declared.record.ShardRecord.{ShardRecord}
use Rattle.shard_record.specs.declared.record.ShardRecord.TheVariants as records
use Rattle.shard_record.proofs.RowsKept.{rows_from-append}
use Rattle.code_mode.specs.declared.mode.Mode.{Mode}
use Rattle.blob_node.specs.Units.{with_at}
use Rattle.blob_node.specs.UnitAnswer.{Effect}
use Rattle.blob_node.specs.HeldUnit.{written_by}
use Rattle.blob_node.specs.Holding.{Written, item_of, with_item, written_after}
use Rattle.blob_node.proofs.Lookups.{at_one}
use Rattle.volume_world.specs.State.{Puts}
use Rattle.volume_world.specs.World.{IsBegunShard, HasBegunRecord, HasBegun, CarriesBegun, AreAsBegun}

same_key : (a b : ℕ) → eq_by_cmp nat_cmp a b ≡ true → a ≡ b
same_key a b e = grind (arith, nat_tests)

one_row : (a b : Row) → Some a ≡ Some b → a ≡ b
one_row a b e = cc

no_row : (b : Row) → None ≡ Some b → ⊥
no_row b e = cc

module _ (mode : Mode) (puts : Puts) (place : Place) where
  -- ---- rows

  -- live rows are those of begun blobs
  abbrev pub AreRowsBegun : Rows → Type 0
  AreRowsBegun now = (bid blob_size : ℕ) (bytes : List ℕ) → map.get now.rows bid ≡ Some (rows.Live blob_size bytes) → IsBegunShard mode puts place bid (record { blob_size = blob_size; bytes = bytes })

  with_begun : (now : Rows) (key : ℕ) (row : Row) → AreRowsBegun now
      → ((blob_size : ℕ) (bytes : List ℕ) → row ≡ rows.Live blob_size bytes → IsBegunShard mode puts place key (record { blob_size = blob_size; bytes = bytes })) → AreRowsBegun (with_row now key row)
  with_begun now key row begun new bid blob_size bytes at = go (eq_by_cmp nat_cmp bid key) refl (sym (get-insert nat_cmp_total now.rows key row bid) ∙ at) where
    go : (test : Bool) → eq_by_cmp nat_cmp bid key ≡ test → cond test (Some row) (map.get now.rows bid) ≡ Some (rows.Live blob_size bytes) → IsBegunShard mode puts place bid (record { blob_size = blob_size; bytes = bytes })
    go true same e = subst (λ b. IsBegunShard mode puts place b (record { blob_size = blob_size; bytes = bytes })) (sym (same_key bid key same)) (new blob_size bytes (one_row row (rows.Live blob_size bytes) e))
    go false same e = begun bid blob_size bytes e

  marked_begun : (now : Rows) (key : ℕ) → AreRowsBegun now → AreRowsBegun (with_row now key rows.Marked)
  marked_begun now key begun = with_begun now key rows.Marked begun (λ blob_size bytes e. absurd (never blob_size bytes e)) where
    never : (blob_size : ℕ) (bytes : List ℕ) → rows.Marked ≡ rows.Live blob_size bytes → ⊥
    never blob_size bytes e = cc

  gone_begun : (now : Rows) (key : ℕ) → AreRowsBegun now → AreRowsBegun (with_row now key rows.Gone)
  gone_begun now key begun = with_begun now key rows.Gone begun (λ blob_size bytes e. absurd (never blob_size bytes e)) where
    never : (blob_size : ℕ) (bytes : List ℕ) → rows.Gone ≡ rows.Live blob_size bytes → ⊥
    never blob_size bytes e = cc

  shard_begun : (now : Rows) (key size : ℕ) (shard : List ℕ) (row : Option Row) → AreRowsBegun now → IsBegunShard mode puts place key (record { blob_size = size; bytes = shard }) → AreRowsBegun (after_shard now key size shard row)
  shard_begun now key size shard None begun here =
      with_begun now key (rows.Live size shard) begun (λ blob_size bytes e. subst (IsBegunShard mode puts place key) (λ i. record { blob_size = size_of (e i); bytes = bytes_of (e i) }) here) where
        size_of : Row → ℕ
        size_of (rows.Live a b) = a
        size_of row = 0

        bytes_of : Row → List ℕ
        bytes_of (rows.Live a b) = b
        bytes_of row = []
  shard_begun now key size shard (Some row) begun here = begun

  mark_begun : (now : Rows) (key : ℕ) (row : Option Row) → AreRowsBegun now → AreRowsBegun (after_mark now key row)
  mark_begun now key None begun = marked_begun now key begun
  mark_begun now key (Some (rows.Live a b)) begun = marked_begun now key begun
  mark_begun now key (Some rows.Marked) begun = begun
  mark_begun now key (Some rows.Gone) begun = begun

  free_begun : (now : Rows) (key : ℕ) (row : Option Row) → AreRowsBegun now → AreRowsBegun (after_free now key row)
  free_begun now key None begun = begun
  free_begun now key (Some (rows.Live a b)) begun = begun
  free_begun now key (Some rows.Marked) begun = gone_begun now key begun
  free_begun now key (Some rows.Gone) begun = begun

  fence_begun : (now : Rows) (lock : ℕ) (fence : Option ℕ) → AreRowsBegun now → AreRowsBegun (after_fence now lock fence)
  fence_begun now lock None begun = begun
  fence_begun now lock (Some first) begun = begun

  none_begun : AreRowsBegun rows.released
  none_begun bid blob_size bytes at = absurd (no_row (rows.Live blob_size bytes) (sym (get-empty nat_cmp bid) ∙ at))

  record_begun : (now : Rows) (item : ShardRecord) → AreRowsBegun now → HasBegunRecord mode puts place item → AreRowsBegun (after_record now item)
  record_begun now (records.Shard bid unit blob_size bytes) begun here = shard_begun now bid blob_size bytes (map.get now.rows bid) begun here
  record_begun now (records.Mark bid unit) begun here = mark_begun now bid (map.get now.rows bid) begun
  record_begun now (records.Free bid unit) begun here = free_begun now bid (map.get now.rows bid) begun
  record_begun now (records.Fence lock unit) begun here = fence_begun now lock now.fence begun
  record_begun now (records.Release unit) begun here = none_begun

  next_begun : (now : Rows) (item : ShardRecord) (is_released : Bool) → AreRowsBegun now → HasBegunRecord mode puts place item → AreRowsBegun (after_next now item is_released)
  next_begun now item true begun here = begun
  next_begun now item false begun here = record_begun now item begun here

  item_begun : (items : List ShardRecord) (o : Option ShardRecord) → AreRowsBegun (rows_after items) → IfSome o (HasBegunRecord mode puts place) → AreRowsBegun (rows_after (with_item items o))
  item_begun items None begun here = begun
  item_begun items (Some item) begun here = subst AreRowsBegun (sym (rows_from-append no_rows items (item ∷ []))) (next_begun (rows_after items) item (rows_after items).is_released begun here)

  -- ---- what was written

  pub settled_begun : (found : Option Bool) (written : Written) → HasBegun mode puts place written → HasBegun mode puts place (written_by found written)
  settled_begun None written begun = begun
  settled_begun (Some true) written begun = record { rows_are = item_begun written.items written.doubt begun.rows_are begun.doubt_is; doubt_is = tt }
  settled_begun (Some false) written begun = record { rows_are = begun.rows_are; doubt_is = tt }

  after_begun : (effect : Effect) (item : Option ShardRecord) (written : Written) → IfSome item (HasBegunRecord mode puts place) → HasBegun mode puts place written → HasBegun mode puts place (written_after effect item written)
  after_begun Effect.Nothing item written here begun = begun
  after_begun Effect.Made item written here begun = record { rows_are = none_begun; doubt_is = tt }
  after_begun Effect.Started item written here begun = begun
  after_begun Effect.Wrote item written here begun = record { rows_are = item_begun written.items item begun.rows_are here; doubt_is = begun.doubt_is }
  after_begun Effect.Doubted item written here begun = record { rows_are = begun.rows_are; doubt_is = here }

-- ---- a request

carries_begun : (mode : Mode) (puts : Puts) (request : sent.Request) → CarriesBegun mode puts request → IfSome (item_of request) (HasBegunRecord mode puts (place_of (request_of request)))
carries_begun mode puts (requests.Create unit disk) carries = tt
carries_begun mode puts (requests.Fence unit disk lock) carries = tt
carries_begun mode puts (requests.Put unit disk bid blob_size bytes) carries = carries
carries_begun mode puts (requests.Read unit disk bid) carries = tt
carries_begun mode puts (requests.List unit disk lock) carries = tt
carries_begun mode puts (requests.Copy unit disk bid blob_size bytes) carries = carries
carries_begun mode puts (requests.Mark unit disk bid) carries = tt
carries_begun mode puts (requests.Free unit disk bid) carries = tt
carries_begun mode puts (requests.Release unit disk) carries = tt

-- a record in doubt that is settled is a begun blob's
pub settled_as_begun : (mode : Mode) (puts : Puts) (place : Place) (found : Option Bool) (written : Place → Written) → AreAsBegun mode puts written → AreAsBegun mode puts (with_at place (written_by found (written place)) written)
settled_as_begun mode puts place found written begun q =
    at_one place (written_by found (written place)) written (HasBegun mode puts) (settled_begun mode puts place found (written place) (begun place)) q (begun q)

-- .. and so is what a request writes that carries a begun blob's shard, or none
pub handled_as_begun : (mode : Mode) (puts : Puts) (request : sent.Request) (found : Option Bool) (effect : Effect) (written : Place → Written) → CarriesBegun mode puts request → AreAsBegun mode puts written
    → AreAsBegun mode puts (with_at (place_of (request_of request)) (written_after effect (item_of request) (written_by found (written (place_of (request_of request))))) written)
handled_as_begun mode puts request found effect written carries begun q =
    let place = place_of (request_of request) in
    at_one place (written_after effect (item_of request) (written_by found (written place))) written (HasBegun mode puts)
    (after_begun mode puts place effect (item_of request) (written_by found (written place)) (carries_begun mode puts request carries) (settled_begun mode puts place found (written place) (begun place))) q (begun q)
