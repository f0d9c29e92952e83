-- Records of a unit, one by one.
use Rattle.std.proofs.Common.{◌≡◌, sym, refl, subst, ℕ, List, [], ◌∷◌, ◌++◌}
use Rattle.unit_id.specs.UnitName.{Name}
use Rattle.shard_record.specs.Rows.{Rows, no_rows, rows_from, rows_after, after_next}
use Rattle.shard_record.specs.declared.record.ShardRecord.{ShardRecord}
use Rattle.shard_record.proofs.Places.{one_to_one}
use Rattle.shard_record.proofs.RowsKept.{rows_from-append}
use Rattle.chunk_store.specs.Records.{IsNext, AreRecordsFrom, AreRecords}

-- the rows that one record more leaves
pub rows_after-one : (items : List ShardRecord) (item : ShardRecord) → rows_after (items ++ item ∷ []) ≡ after_next (rows_after items) item (rows_after items).is_released
rows_after-one items item = rows_from-append no_rows items (item ∷ [])

module _ (unit : Name) where
  more_from : (now : Rows) (bodies : List (List ℕ)) (items : List ShardRecord) (body : List ℕ) (item : ShardRecord) → AreRecordsFrom unit now bodies items → IsNext unit (rows_from now items) body item → AreRecordsFrom unit now (bodies ++ body ∷ []) (items ++ item ∷ [])
  more_from now [] [] body item are next = (next, tt)
  more_from now [] (x ∷ xs) body item are next = absurd are
  more_from now (b ∷ bs) [] body item are next = absurd are
  more_from now (b ∷ bs) (x ∷ xs) body item are next = (are.0, more_from (after_next now x now.is_released) bs xs body item are.1 next)

  -- a further record behind records
  pub one_more : (bodies : List (List ℕ)) (items : List ShardRecord) (body : List ℕ) (item : ShardRecord) → AreRecords unit bodies items → IsNext unit (rows_after items) body item → AreRecords unit (bodies ++ body ∷ []) (items ++ item ∷ [])
  one_more bodies items body item are next = more_from no_rows bodies items body item are next

  same_from : (now : Rows) (bodies : List (List ℕ)) (one other : List ShardRecord) → AreRecordsFrom unit now bodies one → AreRecordsFrom unit now bodies other → one ≡ other
  same_from now [] [] [] a b = refl
  same_from now [] [] (y ∷ ys) a b = absurd b
  same_from now [] (x ∷ xs) other a b = absurd a
  same_from now (body ∷ bodies) [] other a b = absurd a
  same_from now (body ∷ bodies) (x ∷ xs) [] a b = absurd b
  same_from now (body ∷ bodies) (x ∷ xs) (y ∷ ys) a b =
      let same : x ≡ y = one_to_one x y body a.0.spells b.0.spells in
      let rest : xs ≡ ys = same_from (after_next now x now.is_released) bodies xs ys a.1 (subst (λ (z : ShardRecord). AreRecordsFrom unit (after_next now z now.is_released) bodies ys) (sym same) b.1) in
      cc

  -- bodies are the records of one list at most
  pub same_records : (bodies : List (List ℕ)) (one other : List ShardRecord) → AreRecords unit bodies one → AreRecords unit bodies other → one ≡ other
  same_records bodies one other a b = same_from no_rows bodies one other a b

  pub record NextOf (now : Rows) (before : List (List ℕ)) (body : List ℕ) : Type 0 where
    pub front : List ShardRecord
    pub item : ShardRecord
    pub are : AreRecordsFrom unit now before front
    pub next : IsNext unit (rows_from now front) body item

  next_of : (now : Rows) (before : List (List ℕ)) (body : List ℕ) (after : List (List ℕ)) (items : List ShardRecord) → AreRecordsFrom unit now (before ++ body ∷ after) items → NextOf now before body
  next_of now [] body after [] are = absurd are
  next_of now [] body after (x ∷ xs) are = record { front = []; item = x; are = tt; next = are.0 }
  next_of now (b ∷ bs) body after [] are = absurd are
  next_of now (b ∷ bs) body after (x ∷ xs) are =
      let rest = next_of (after_next now x now.is_released) bs body after xs are.1 in
      record { front = x ∷ rest.front; item = rest.item; are = (are.0, rest.are); next = rest.next }

  -- among records no body is bad
  pub none_bad : (before : List (List ℕ)) (body : List ℕ) (after : List (List ℕ)) (items front : List ShardRecord) → AreRecords unit (before ++ body ∷ after) items → AreRecords unit before front → ((item : ShardRecord) → IsNext unit (rows_after front) body item → ⊥) → ⊥
  none_bad before body after items front are front_are bad =
      let found = next_of no_rows before body after items are in
      bad found.item (subst (λ (xs : List ShardRecord). IsNext unit (rows_after xs) body found.item) (same_records before found.front front found.are front_are) found.next)
