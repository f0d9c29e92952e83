-- What memory keeps goes on reflecting the rows as records are added.
use Rattle.std.proofs.Common.{◌≡◌, ◌∙◌, sym, ap, refl, subst, ℕ, Bool, true, false, cond, List, [], ◌∷◌, ◌++◌, append_assoc, Option, None, Some, arith}
use Rattle.std.proofs.lemmas.Bool.Decides.{nat_tests}
use Rattle.std.specs.Ordering.{nat_cmp, eq_by_cmp}
use Rattle.std.specs.Cmp.{nat_cmp_total}
use Rattle.std.specs.FinMap.{FinMap, get-insert, get-empty}
use Rattle.std.specs.FinMap as map
use Rattle.unit_id.specs.UnitName.{Name}
use Rattle.gate_log.specs.LogFile.{end_place}
use Rattle.shard_record.specs.Rows.{Rows, Row, no_rows, after_next, after_record, after_shard, after_mark, after_free, after_fence, released}
use Rattle.shard_record.specs.Rows as rows
use Rattle.shard_record.specs.Spelling.{unit_of}
use Rattle.shard_record.specs.declared.record.ShardRecord.{ShardRecord}
use Rattle.shard_record.specs.declared.record.ShardRecord.TheVariants.{Shard, Mark, Free, Fence, Release}
use Rattle.chunk_store.specs.Kept.{KeptRows, row_of, nothing_kept, kept_after, kept_after_shard, kept_after_mark, kept_after_free, kept_after_fence}
use Rattle.chunk_store.specs.Records.{IsNext, StandsAt, IsKept, Reflects}
use Rattle.chunk_store.specs.declared.index.KeptRow.{KeptRow}
use Rattle.chunk_store.specs.declared.index.KeptRow.TheVariants.{Live, Marked, Gone}

stands_longer : (bodies more : List (List ℕ)) (place : ℕ) (item : ShardRecord) → StandsAt bodies place item → StandsAt (bodies ++ more) place item
stands_longer bodies more place item stands = record {
  before = stands.before;
  body = stands.body;
  after = stands.after ++ more;
  bodies_are = ap (λ (all : List (List ℕ)). all ++ more) stands.bodies_are ∙ append_assoc stands.before (stands.body ∷ stands.after) more;
  place_is = stands.place_is;
  spells = stands.spells;
}

same_key : (a b : ℕ) → eq_by_cmp nat_cmp a b ≡ true → b ≡ a
same_key a b e = grind (arith, nat_tests)

module _ (unit : Name) where
  kept_longer : (bodies more : List (List ℕ)) (bid : ℕ) (kept : Option KeptRow) (row : Option Row) → IsKept unit bodies bid kept row → IsKept unit (bodies ++ more) bid kept row
  kept_longer bodies more bid None None is = tt
  kept_longer bodies more bid (Some (Live place blob_size)) (Some (rows.Live size bytes)) is = (is.0, stands_longer bodies more place (Shard bid unit size bytes) is.1)
  kept_longer bodies more bid (Some Marked) (Some rows.Marked) is = tt
  kept_longer bodies more bid (Some Gone) (Some rows.Gone) is = tt
  kept_longer bodies more bid _ _ is = absurd is

  pub reflects_longer : (bodies more : List (List ℕ)) (kept : KeptRows) (now : Rows) → Reflects unit bodies kept now → Reflects unit (bodies ++ more) kept now
  reflects_longer bodies more kept now is = record {
    rows = λ bid. kept_longer bodies more bid (row_of kept bid) (map.get now.rows bid) (is.rows bid);
    fence = is.fence;
    released = is.released;
  }

  module _ (bodies : List (List ℕ)) where
    at_key : (key bid : ℕ) (test : Bool) (k : KeptRow) (r : Row) (kept : Option KeptRow) (row : Option Row) → eq_by_cmp nat_cmp bid key ≡ test → IsKept unit bodies key (Some k) (Some r) → IsKept unit bodies bid kept row → IsKept unit bodies bid (cond test (Some k) kept) (cond test (Some r) row)
    at_key key bid true k r kept row e here there = subst (λ b. IsKept unit bodies b (Some k) (Some r)) (same_key bid key e) here
    at_key key bid false k r kept row e here there = there

    set_both : (kept : FinMap nat_cmp KeptRow) (now : FinMap nat_cmp Row) (key bid : ℕ) (k : KeptRow) (r : Row) → IsKept unit bodies key (Some k) (Some r) → IsKept unit bodies bid (map.get kept bid) (map.get now bid) → IsKept unit bodies bid (map.get (map.insert kept key k) bid) (map.get (map.insert now key r) bid)
    set_both kept now key bid k r here there =
        subst (λ (a : Option KeptRow). IsKept unit bodies bid a (map.get (map.insert now key r) bid)) (sym (get-insert nat_cmp_total kept key k bid))
        (subst (λ (a : Option Row). IsKept unit bodies bid (cond (eq_by_cmp nat_cmp bid key) (Some k) (map.get kept bid)) a) (sym (get-insert nat_cmp_total now key r bid))
        (at_key key bid (eq_by_cmp nat_cmp bid key) k r (map.get kept bid) (map.get now bid) refl here there))

    with_both : (kept : KeptRows) (now : Rows) (key : ℕ) (k : KeptRow) (r : Row) → IsKept unit bodies key (Some k) (Some r) → Reflects unit bodies kept now → Reflects unit bodies (record kept { rows = map.insert kept.rows key k }) (record now { rows = map.insert now.rows key r })
    with_both kept now key k r here is = record {
      rows = λ bid. set_both kept.rows now.rows key bid k r here (is.rows bid);
      fence = is.fence;
      released = is.released;
    }

    shard_reflects : (kept : KeptRows) (now : Rows) (key place size : ℕ) (bytes : List ℕ) (k : Option KeptRow) (r : Option Row) → IsKept unit bodies key k r → StandsAt bodies place (Shard key unit size bytes) → Reflects unit bodies kept now → Reflects unit bodies (kept_after_shard kept key place size k) (after_shard now key size bytes r)
    shard_reflects kept now key place size bytes None None same stands is = with_both kept now key (Live place size) (rows.Live size bytes) (refl, stands) is
    shard_reflects kept now key place size bytes (Some (Live at blob_size)) (Some (rows.Live other shard)) same stands is = is
    shard_reflects kept now key place size bytes (Some Marked) (Some rows.Marked) same stands is = is
    shard_reflects kept now key place size bytes (Some Gone) (Some rows.Gone) same stands is = is
    shard_reflects kept now key place size bytes _ _ same stands is = absurd same

    mark_reflects : (kept : KeptRows) (now : Rows) (key : ℕ) (k : Option KeptRow) (r : Option Row) → IsKept unit bodies key k r → Reflects unit bodies kept now → Reflects unit bodies (kept_after_mark kept key k) (after_mark now key r)
    mark_reflects kept now key None None same is = with_both kept now key Marked rows.Marked tt is
    mark_reflects kept now key (Some (Live place blob_size)) (Some (rows.Live size bytes)) same is = with_both kept now key Marked rows.Marked tt is
    mark_reflects kept now key (Some Marked) (Some rows.Marked) same is = is
    mark_reflects kept now key (Some Gone) (Some rows.Gone) same is = is
    mark_reflects kept now key _ _ same is = absurd same

    free_reflects : (kept : KeptRows) (now : Rows) (key : ℕ) (k : Option KeptRow) (r : Option Row) → IsKept unit bodies key k r → Reflects unit bodies kept now → Reflects unit bodies (kept_after_free kept key k) (after_free now key r)
    free_reflects kept now key None None same is = is
    free_reflects kept now key (Some (Live place blob_size)) (Some (rows.Live size bytes)) same is = is
    free_reflects kept now key (Some Marked) (Some rows.Marked) same is = with_both kept now key Gone rows.Gone tt is
    free_reflects kept now key (Some Gone) (Some rows.Gone) same is = is
    free_reflects kept now key _ _ same is = absurd same

    fence_reflects : (kept : KeptRows) (now : Rows) (lock : ℕ) (f g : Option ℕ) → f ≡ g → Reflects unit bodies kept now → Reflects unit bodies (kept_after_fence kept lock f) (after_fence now lock g)
    fence_reflects kept now lock None None same is = record { rows = is.rows; fence = refl; released = is.released }
    fence_reflects kept now lock (Some a) (Some b) same is = is
    fence_reflects kept now lock None (Some b) same is = absurd (apart same)
      where
        apart : None ≡ Some b → ⊥
        apart e = cc
    fence_reflects kept now lock (Some a) None same is = absurd (apart same)
      where
        apart : Some a ≡ None → ⊥
        apart e = cc

    none_kept : (bid : ℕ) → IsKept unit bodies bid (map.get (map.empty {X = KeptRow} {R = nat_cmp}) bid) (map.get (map.empty {X = Row} {R = nat_cmp}) bid)
    none_kept bid =
        subst (λ (a : Option KeptRow). IsKept unit bodies bid a (map.get (map.empty {X = Row} {R = nat_cmp}) bid)) (sym (get-empty nat_cmp bid))
        (subst (λ (a : Option Row). IsKept unit bodies bid None a) (sym (get-empty nat_cmp bid)) tt)

    pub nothing_reflects : Reflects unit bodies nothing_kept no_rows
    nothing_reflects = record { rows = none_kept; fence = refl; released = refl }

    item_reflects : (kept : KeptRows) (now : Rows) (place : ℕ) (item : ShardRecord) → unit_of item ≡ unit → StandsAt bodies place item → Reflects unit bodies kept now → Reflects unit bodies (kept_after kept place item) (after_record now item)
    item_reflects kept now place (Shard key other size bytes) own stands is =
        shard_reflects kept now key place size bytes (row_of kept key) (map.get now.rows key) (is.rows key)
        (subst (λ (u : Name). StandsAt bodies place (Shard key u size bytes)) own stands) is
    item_reflects kept now place (Mark key other) own stands is = mark_reflects kept now key (row_of kept key) (map.get now.rows key) (is.rows key) is
    item_reflects kept now place (Free key other) own stands is = free_reflects kept now key (row_of kept key) (map.get now.rows key) (is.rows key) is
    item_reflects kept now place (Fence lock other) own stands is = fence_reflects kept now lock kept.fence now.fence is.fence is
    item_reflects kept now place (Release other) own stands is = record { rows = none_kept; fence = refl; released = refl }

  -- with a further record
  pub reflects_next : (bodies : List (List ℕ)) (kept : KeptRows) (now : Rows) (body : List ℕ) (item : ShardRecord) → IsNext unit now body item → Reflects unit bodies kept now → Reflects unit (bodies ++ body ∷ []) (kept_after kept (end_place bodies) item) (after_next now item now.is_released)
  reflects_next bodies kept now body item next is =
      subst (Reflects unit (bodies ++ body ∷ []) (kept_after kept (end_place bodies) item)) (sym (ap (after_next now item) next.unreleased))
      (item_reflects (bodies ++ body ∷ []) kept now (end_place bodies) item next.own
      (record { before = bodies; body = body; after = []; bodies_are = refl; place_is = refl; spells = next.spells })
      (reflects_longer bodies (body ∷ []) kept now is))
