-- Rows of short lists of records.
use Rattle.std.proofs.Common.{◌≡◌, refl, [], ◌∷◌, None, Some}
use Rattle.std.specs.FinMap.{get-empty, get-insert}
use Rattle.std.specs.Cmp.{nat_cmp_total}
use Rattle.unit_id.specs.UnitName.{Name}
use Rattle.shard_record.specs.Rows.{Row, Live, Marked, Gone, rows_after, row_at, released}
use Rattle.shard_record.specs.declared.record.ShardRecord.TheVariants.{Shard, Mark, Free, Fence, Release}

abbrev unit : Name
unit = record { vid = 1; index = 0; epoch = 1 }

first_shard_stays : row_at (Shard 7 unit 5 (1 ∷ []) ∷ Shard 7 unit 6 (2 ∷ []) ∷ []) 7 ≡ Some (Live 5 (1 ∷ []))
first_shard_stays = simp (get-empty, get-insert {X = Row} nat_cmp_total)

absent : row_at (Shard 7 unit 5 (1 ∷ []) ∷ []) 8 ≡ None
absent = simp (get-empty, get-insert {X = Row} nat_cmp_total)

marked_stays : row_at (Shard 7 unit 5 (1 ∷ []) ∷ Mark 7 unit ∷ Shard 7 unit 5 (1 ∷ []) ∷ []) 7 ≡ Some Marked
marked_stays = simp (get-empty, get-insert {X = Row} nat_cmp_total)

first_fence_stays : (rows_after (Fence 4 unit ∷ Fence 5 unit ∷ [])).fence ≡ Some 4
first_fence_stays = refl

released_stays : rows_after (Shard 7 unit 5 (1 ∷ []) ∷ Fence 4 unit ∷ Release unit ∷ Mark 7 unit ∷ []) ≡ released
released_stays = simp get-empty

deleted_stays : row_at (Shard 7 unit 5 (1 ∷ []) ∷ Mark 7 unit ∷ Free 7 unit ∷ Mark 7 unit ∷ Shard 7 unit 5 (1 ∷ []) ∷ []) 7 ≡ Some Gone
deleted_stays = simp (get-empty, get-insert {X = Row} nat_cmp_total)

mark_comes_first : row_at (Mark 7 unit ∷ Shard 7 unit 5 (1 ∷ []) ∷ []) 7 ≡ Some Marked
mark_comes_first = simp (get-empty, get-insert {X = Row} nat_cmp_total)

live_is_not_freed : row_at (Shard 7 unit 5 (1 ∷ []) ∷ Free 7 unit ∷ []) 7 ≡ Some (Live 5 (1 ∷ []))
live_is_not_freed = simp (get-empty, get-insert {X = Row} nat_cmp_total)
