-- A record more changes the rows of a chunk and those of the protocol alike.
use Rattle.std.proofs.Common.{◌≡◌, ◌∙◌, sym, ap, refl, subst, ℕ, Bool, true, false, cond, List, [], ◌∷◌, ◌++◌, Option, None, Some, arith}
use Rattle.std.specs.Prelude.{◌&&◌, ◌==◌}
use Rattle.std.proofs.lemmas.Bool.Decides.{nat_tests}
use Rattle.std.specs.Ordering.{nat_cmp, eq_by_cmp}
use Rattle.std.specs.Cmp.{nat_cmp_total}
use Rattle.std.specs.FinMap.{FinMap, get-insert, get-empty}
use Rattle.std.specs.FinMap as map
use Rattle.unit_id.specs.Place.{Place, is_place}
use Rattle.unit_id.proofs.Bools.{and_right, same_number}
use Rattle.unit_id.proofs.Places.{is_place_self}
use Rattle.shard_record.specs.Rows.{Rows, Row, rows_after, after_next, after_record, after_shard, after_mark, after_free, after_fence, released}
use Rattle.shard_record.specs.Rows as rows
use Rattle.shard_record.specs.declared.record.ShardRecord.{ShardRecord}
use Rattle.shard_record.specs.declared.record.ShardRecord.TheVariants.{Shard, Mark, Free, Fence, Release}
use Rattle.chunk_store.proofs.RecordLists.{rows_after-one}
use Rattle.blob_node.specs.Units.{RowState, UnitRecord, Units, with_at, with_row, with_record}
use Rattle.blob_node.specs.Units as units_
use Rattle.blob_node.specs.Holding.{state_of, without_bytes, HasRows}
use Rattle.blob_node.proofs.Lookups.{there_now}

same_test : (a b : ℕ) → eq_by_cmp nat_cmp a b ≡ (a == b)
same_test a b = grind (arith, nat_tests)

module _ (place : Place) where
  test_is : (bid key : ℕ) → (is_place place place && (bid == key)) ≡ eq_by_cmp nat_cmp bid key
  test_is bid key = ap (λ (b : Bool). b && (bid == key)) (is_place_self place) ∙ sym (same_test bid key)

  both : (test : Bool) (r : Row) (old : Option RowState) (was : Option Row) → old ≡ state_of was → cond test (state_of (Some r)) old ≡ state_of (cond test (Some r) was)
  both true r old was same = refl
  both false r old was same = same

  -- with a new row of one blob
  set_one : (old : FinMap nat_cmp Row) (row : Place → ℕ → Option RowState) (key : ℕ) (r : Row) → ((bid : ℕ) → row place bid ≡ state_of (map.get old bid)) → (bid : ℕ) → with_row place key (state_of (Some r)) row place bid ≡ state_of (map.get (map.insert old key r) bid)
  set_one old row key r has bid =
      subst (λ (x : Option Row). with_row place key (state_of (Some r)) row place bid ≡ state_of x) (sym (get-insert nat_cmp_total old key r bid))
      (ap (λ (b : Bool). cond b (state_of (Some r)) (row place bid)) (test_is bid key) ∙ both (eq_by_cmp nat_cmp bid key) r (row place bid) (map.get old bid) (has bid))

  same_there : (row : Place → ℕ → Option RowState) (key bid : ℕ) (test : Bool) → is_place place place && (bid == key) ≡ test → cond test (row place key) (row place bid) ≡ row place bid
  same_there row key bid true e = ap (row place) (sym (same_number bid key (and_right (is_place place place) (bid == key) e)))
  same_there row key bid false e = refl

  -- with the row that it has
  keep_one : (row : Place → ℕ → Option RowState) (key : ℕ) (new : Option RowState) → new ≡ row place key → (bid : ℕ) → with_row place key new row place bid ≡ row place bid
  keep_one row key new same bid = subst (λ (n : Option RowState). with_row place key n row place bid ≡ row place bid) (sym same) (same_there row key bid (is_place place place && (bid == key)) refl)

  module _ (now : Rows) (row : Place → ℕ → Option RowState) (fence : Option ℕ) (is_released : Bool) (has : HasRows now (row place) fence is_released) where
    -- a new row in both
    one_more : (key : ℕ) (r : Row) (new : Option RowState) → new ≡ state_of (Some r) → HasRows (rows.with_row now key r) (with_row place key new row place) fence is_released
    one_more key r new same = record {
      rows = λ bid. subst (λ (n : Option RowState). with_row place key n row place bid ≡ state_of (map.get (map.insert now.rows key r) bid)) (sym same) (set_one now.rows row key r has.rows bid);
      fence_is = has.fence_is;
      released = has.released;
    }

    -- no row changes
    no_more : (key : ℕ) (new : Option RowState) → new ≡ row place key → HasRows now (with_row place key new row place) fence is_released
    no_more key new same = record {
      rows = λ bid. keep_one row key new same bid ∙ has.rows bid;
      fence_is = has.fence_is;
      released = has.released;
    }

    shard_has : (key size : ℕ) (bytes : List ℕ) (r : Option Row) → row place key ≡ state_of r → HasRows (after_shard now key size bytes r) (with_row place key (units_.after_shard (row place key)) row place) fence is_released
    shard_has key size bytes None e = one_more key (rows.Live size bytes) (units_.after_shard (row place key)) (ap units_.after_shard e)
    shard_has key size bytes (Some (rows.Live a b)) e = no_more key (units_.after_shard (row place key)) (ap units_.after_shard e ∙ sym e)
    shard_has key size bytes (Some rows.Marked) e = no_more key (units_.after_shard (row place key)) (ap units_.after_shard e ∙ sym e)
    shard_has key size bytes (Some rows.Gone) e = no_more key (units_.after_shard (row place key)) (ap units_.after_shard e ∙ sym e)

    mark_has : (key : ℕ) (r : Option Row) → row place key ≡ state_of r → HasRows (after_mark now key r) (with_row place key (units_.after_mark (row place key)) row place) fence is_released
    mark_has key None e = one_more key rows.Marked (units_.after_mark (row place key)) (ap units_.after_mark e)
    mark_has key (Some (rows.Live a b)) e = one_more key rows.Marked (units_.after_mark (row place key)) (ap units_.after_mark e)
    mark_has key (Some rows.Marked) e = no_more key (units_.after_mark (row place key)) (ap units_.after_mark e ∙ sym e)
    mark_has key (Some rows.Gone) e = no_more key (units_.after_mark (row place key)) (ap units_.after_mark e ∙ sym e)

    free_has : (key : ℕ) (r : Option Row) → row place key ≡ state_of r → HasRows (after_free now key r) (with_row place key (units_.after_free (row place key)) row place) fence is_released
    free_has key None e = no_more key (units_.after_free (row place key)) (ap units_.after_free e ∙ sym e)
    free_has key (Some (rows.Live a b)) e = no_more key (units_.after_free (row place key)) (ap units_.after_free e ∙ sym e)
    free_has key (Some rows.Marked) e = one_more key rows.Gone (units_.after_free (row place key)) (ap units_.after_free e)
    free_has key (Some rows.Gone) e = no_more key (units_.after_free (row place key)) (ap units_.after_free e ∙ sym e)

  fence_has : (now : Rows) (row : ℕ → Option RowState) (fences : Place → Option ℕ) (is_released : Bool) (lock : ℕ) (kept : Option ℕ) → now.fence ≡ kept → HasRows now row (fences place) is_released → HasRows (after_fence now lock kept) row (with_at place (units_.after_fence lock (fences place)) fences place) is_released
  fence_has now row fences is_released lock None e has = record {
    rows = has.rows;
    fence_is = there_now place (units_.after_fence lock (fences place)) fences ∙ ap (units_.after_fence lock) (has.fence_is ∙ e);
    released = has.released;
  }
  fence_has now row fences is_released lock (Some first) e has = record {
    rows = has.rows;
    fence_is = there_now place (units_.after_fence lock (fences place)) fences ∙ ap (units_.after_fence lock) (has.fence_is ∙ e) ∙ sym e;
    released = has.released;
  }

  record_has : (now : Rows) (units : Units) (item : ShardRecord) → HasRows now (units.row place) (units.fence place) (units.is_released place)
      → HasRows (after_record now item) ((with_record place (without_bytes item) units).row place) ((with_record place (without_bytes item) units).fence place) ((with_record place (without_bytes item) units).is_released place)
  record_has now units (Shard key unit size bytes) has = shard_has now units.row (units.fence place) (units.is_released place) has key size bytes (map.get now.rows key) (has.rows key)
  record_has now units (Mark key unit) has = mark_has now units.row (units.fence place) (units.is_released place) has key (map.get now.rows key) (has.rows key)
  record_has now units (Free key unit) has = free_has now units.row (units.fence place) (units.is_released place) has key (map.get now.rows key) (has.rows key)
  record_has now units (Fence lock unit) has = fence_has now (units.row place) units.fence (units.is_released place) lock now.fence refl has
  record_has now units (Release unit) has = record {
    rows = λ bid. ap (λ (f : ℕ → Option RowState). f bid) (there_now place (λ b. None) units.row) ∙ ap state_of (sym (get-empty nat_cmp bid));
    fence_is = there_now place None units.fence;
    released = there_now place true units.is_released;
  }

  -- with one record more
  pub more_rows : (items : List ShardRecord) (units : Units) (item : ShardRecord) → units.is_released place ≡ false → HasRows (rows_after items) (units.row place) (units.fence place) (units.is_released place)
      → HasRows (rows_after (items ++ item ∷ [])) ((with_record place (without_bytes item) units).row place) ((with_record place (without_bytes item) units).fence place) ((with_record place (without_bytes item) units).is_released place)
  more_rows items units item free has =
      subst (λ (now : Rows). HasRows now ((with_record place (without_bytes item) units).row place) ((with_record place (without_bytes item) units).fence place) ((with_record place (without_bytes item) units).is_released place))
      (sym (rows_after-one items item ∙ ap (after_next (rows_after items) item) (sym has.released ∙ free)))
      (record_has (rows_after items) units item has)
