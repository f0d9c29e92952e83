-- What every record but a release keeps: deleted rows, gone rows and the first fence.
use Rattle.std.proofs.Common.{◌≡◌, ◌∙◌, sym, ap, refl, subst, ℕ, Bool, true, false, cond, List, [], ◌∷◌, ◌++◌, Option, None, Some, ◌⊎◌, inl, inr, arith}
use Rattle.std.proofs.lemmas.Bool.Decides.{nat_tests}
use Rattle.std.specs.Ordering.{nat_cmp, eq_by_cmp}
use Rattle.std.specs.Cmp.{nat_cmp_total}
use Rattle.std.specs.FinMap.{FinMap, get-insert}
use Rattle.std.specs.FinMap as map
use Rattle.shard_record.specs.Rows.{Row, Live, Marked, Gone, Rows, no_rows, rows_from, rows_after, row_at, after_next, after_record, after_shard, after_mark, after_free, after_fence, released, IsDeleted}
use Rattle.unit_id.specs.UnitName.{Name}
use Rattle.shard_record.specs.declared.record.ShardRecord.{ShardRecord}
use Rattle.shard_record.specs.declared.record.ShardRecord.TheVariants.{Shard, Mark, Free, Fence, Release}

either_deleted : (test : Bool) (a b : Option Row) → IsDeleted a → IsDeleted b → IsDeleted (cond test a b)
either_deleted true a b da db = da
either_deleted false a b da db = db

insert_deleted : (rows : FinMap nat_cmp Row) (key bid : ℕ) (row : Row) → IsDeleted (Some row) → IsDeleted (map.get rows bid) → IsDeleted (map.get (map.insert rows key row) bid)
insert_deleted rows key bid row deleted before =
    subst IsDeleted (sym (get-insert nat_cmp_total rows key row bid))
    (either_deleted (eq_by_cmp nat_cmp bid key) (Some row) (map.get rows bid) deleted before)

same_key : (a b : ℕ) → eq_by_cmp nat_cmp a b ≡ true → a ≡ b
same_key a b e = grind (arith, nat_tests)

other_deleted : (test : Bool) (a b : Option Row) → (test ≡ true → ⊥) → IsDeleted b → IsDeleted (cond test a b)
other_deleted true a b other deleted = absurd (other refl)
other_deleted false a b other deleted = deleted

insert_new : (rows : FinMap nat_cmp Row) (key bid : ℕ) (row : Row) → None ≡ map.get rows key → IsDeleted (map.get rows bid) → IsDeleted (map.get (map.insert rows key row) bid)
insert_new rows key bid row none before =
    subst IsDeleted (sym (get-insert nat_cmp_total rows key row bid))
    (other_deleted (eq_by_cmp nat_cmp bid key) (Some row) (map.get rows bid)
    (λ e. subst IsDeleted (ap (map.get rows) (same_key bid key e) ∙ sym none) before) before)

shard_kept : (now : Rows) (key bid blob_size : ℕ) (bytes : List ℕ) (row : Option Row) → row ≡ map.get now.rows key → IsDeleted (map.get now.rows bid) → IsDeleted (map.get (after_shard now key blob_size bytes row).rows bid)
shard_kept now key bid blob_size bytes None e d = insert_new now.rows key bid (Live blob_size bytes) e d
shard_kept now key bid blob_size bytes (Some row) e d = d

mark_kept : (now : Rows) (key bid : ℕ) (row : Option Row) → IsDeleted (map.get now.rows bid) → IsDeleted (map.get (after_mark now key row).rows bid)
mark_kept now key bid None d = insert_deleted now.rows key bid Marked tt d
mark_kept now key bid (Some (Live blob_size bytes)) d = insert_deleted now.rows key bid Marked tt d
mark_kept now key bid (Some Marked) d = d
mark_kept now key bid (Some Gone) d = d

free_kept : (now : Rows) (key bid : ℕ) (row : Option Row) → IsDeleted (map.get now.rows bid) → IsDeleted (map.get (after_free now key row).rows bid)
free_kept now key bid None d = d
free_kept now key bid (Some (Live blob_size bytes)) d = d
free_kept now key bid (Some Marked) d = insert_deleted now.rows key bid Gone tt d
free_kept now key bid (Some Gone) d = d

fence_kept : (now : Rows) (lock bid : ℕ) (fence : Option ℕ) → IsDeleted (map.get now.rows bid) → IsDeleted (map.get (after_fence now lock fence).rows bid)
fence_kept now lock bid None d = d
fence_kept now lock bid (Some first) d = d

-- ---- a gone row

other_key : (test : Bool) (a b : Option Row) → (test ≡ true → ⊥) → cond test a b ≡ b
other_key true a b other = absurd (other refl)
other_key false a b other = refl

insert_beside : (rows : FinMap nat_cmp Row) (key bid : ℕ) (new : Row) (row : Option Row) → row ≡ map.get rows key → (row ≡ Some Gone → ⊥) → map.get rows bid ≡ Some Gone → map.get (map.insert rows key new) bid ≡ Some Gone
insert_beside rows key bid new row is other gone =
    get-insert nat_cmp_total rows key new bid
    ∙ other_key (eq_by_cmp nat_cmp bid key) (Some new) (map.get rows bid)
    (λ e. other (is ∙ sym (ap (map.get rows) (same_key bid key e)) ∙ gone))
    ∙ gone

shard_gone : (now : Rows) (key bid blob_size : ℕ) (bytes : List ℕ) (row : Option Row) → row ≡ map.get now.rows key → map.get now.rows bid ≡ Some Gone → map.get (after_shard now key blob_size bytes row).rows bid ≡ Some Gone
shard_gone now key bid blob_size bytes None e g = insert_beside now.rows key bid (Live blob_size bytes) None e (λ h. cc) g
shard_gone now key bid blob_size bytes (Some row) e g = g

mark_gone : (now : Rows) (key bid : ℕ) (row : Option Row) → row ≡ map.get now.rows key → map.get now.rows bid ≡ Some Gone → map.get (after_mark now key row).rows bid ≡ Some Gone
mark_gone now key bid None e g = insert_beside now.rows key bid Marked None e (λ h. cc) g
mark_gone now key bid (Some (Live blob_size bytes)) e g = insert_beside now.rows key bid Marked (Some (Live blob_size bytes)) e (λ h. cc) g
mark_gone now key bid (Some Marked) e g = g
mark_gone now key bid (Some Gone) e g = g

free_gone : (now : Rows) (key bid : ℕ) (row : Option Row) → row ≡ map.get now.rows key → map.get now.rows bid ≡ Some Gone → map.get (after_free now key row).rows bid ≡ Some Gone
free_gone now key bid None e g = g
free_gone now key bid (Some (Live blob_size bytes)) e g = g
free_gone now key bid (Some Marked) e g = insert_beside now.rows key bid Gone (Some Marked) e (λ h. cc) g
free_gone now key bid (Some Gone) e g = g

fence_gone : (now : Rows) (lock bid : ℕ) (fence : Option ℕ) → map.get now.rows bid ≡ Some Gone → map.get (after_fence now lock fence).rows bid ≡ Some Gone
fence_gone now lock bid None g = g
fence_gone now lock bid (Some first) g = g

-- ---- the first fence

shard_fence : (now : Rows) (key blob_size lock : ℕ) (bytes : List ℕ) (row : Option Row) → now.fence ≡ Some lock → (after_shard now key blob_size bytes row).fence ≡ Some lock
shard_fence now key blob_size lock bytes None f = f
shard_fence now key blob_size lock bytes (Some row) f = f

mark_fence : (now : Rows) (key lock : ℕ) (row : Option Row) → now.fence ≡ Some lock → (after_mark now key row).fence ≡ Some lock
mark_fence now key lock None f = f
mark_fence now key lock (Some (Live blob_size bytes)) f = f
mark_fence now key lock (Some Marked) f = f
mark_fence now key lock (Some Gone) f = f

free_fence : (now : Rows) (key lock : ℕ) (row : Option Row) → now.fence ≡ Some lock → (after_free now key row).fence ≡ Some lock
free_fence now key lock None f = f
free_fence now key lock (Some (Live blob_size bytes)) f = f
free_fence now key lock (Some Marked) f = f
free_fence now key lock (Some Gone) f = f

fence_fence : (now : Rows) (other lock : ℕ) (fence : Option ℕ) → fence ≡ now.fence → now.fence ≡ Some lock → (after_fence now other fence).fence ≡ Some lock
fence_fence now other lock None e f = absurd (apart (e ∙ f))
  where
    apart : None ≡ Some lock → ⊥
    apart h = cc
fence_fence now other lock (Some first) e f = f

-- ---- whole runs

abbrev IsKept : (Rows → Type 0) → Rows → Type 0
IsKept P now = (now.is_released ≡ true) ⊎ P now

-- each record keeps P, if it isn't a release
abbrev Keeps : (Rows → Type 0) → Type 0
Keeps P = (now : Rows) (item : ShardRecord) → P now → IsKept P (after_record now item)

not_both : {A : Type 0} (b : Bool) → b ≡ true → b ≡ false → A
not_both b is isnt = absurd (apart (sym is ∙ isnt))
  where
    apart : true ≡ false → ⊥
    apart h = cc

next_kept : (P : Rows → Type 0) → Keeps P → (now : Rows) (item : ShardRecord) (is_released : Bool) → now.is_released ≡ is_released → IsKept P now → IsKept P (after_next now item is_released)
next_kept P keeps now item true e k = k
next_kept P keeps now item false e (inl released) = not_both now.is_released released e
next_kept P keeps now item false e (inr p) = keeps now item p

from_kept : (P : Rows → Type 0) → Keeps P → (now : Rows) (items : List ShardRecord) → IsKept P now → IsKept P (rows_from now items)
from_kept P keeps now [] k = k
from_kept P keeps now (item ∷ items) k =
    from_kept P keeps (after_next now item now.is_released) items (next_kept P keeps now item now.is_released refl k)

pub rows_from-append : (now : Rows) (items more : List ShardRecord) → rows_from now (items ++ more) ≡ rows_from (rows_from now items) more
rows_from-append now [] more = refl
rows_from-append now (item ∷ items) more = rows_from-append (after_next now item now.is_released) items more

not_released : (P : Rows → Type 0) (now : Rows) → now.is_released ≡ false → IsKept P now → P now
not_released P now e (inl released) = not_both now.is_released released e
not_released P now e (inr p) = p

kept : (P : Rows → Type 0) → Keeps P → (items more : List ShardRecord) → P (rows_after items) → (rows_after (items ++ more)).is_released ≡ false → P (rows_after (items ++ more))
kept P keeps items more p e =
    not_released P (rows_after (items ++ more)) e
    (subst (IsKept P) (sym (rows_from-append no_rows items more)) (from_kept P keeps (rows_after items) more (inr p)))

deleted_by_records : (bid : ℕ) → Keeps (λ now. IsDeleted (map.get now.rows bid))
deleted_by_records bid now (Shard key unit blob_size bytes) d = inr (shard_kept now key bid blob_size bytes (map.get now.rows key) refl d)
deleted_by_records bid now (Mark key unit) d = inr (mark_kept now key bid (map.get now.rows key) d)
deleted_by_records bid now (Free key unit) d = inr (free_kept now key bid (map.get now.rows key) d)
deleted_by_records bid now (Fence lock unit) d = inr (fence_kept now lock bid now.fence d)
deleted_by_records bid now (Release unit) d = inl refl

gone_by_records : (bid : ℕ) → Keeps (λ now. map.get now.rows bid ≡ Some Gone)
gone_by_records bid now (Shard key unit blob_size bytes) g = inr (shard_gone now key bid blob_size bytes (map.get now.rows key) refl g)
gone_by_records bid now (Mark key unit) g = inr (mark_gone now key bid (map.get now.rows key) refl g)
gone_by_records bid now (Free key unit) g = inr (free_gone now key bid (map.get now.rows key) refl g)
gone_by_records bid now (Fence lock unit) g = inr (fence_gone now lock bid now.fence g)
gone_by_records bid now (Release unit) g = inl refl

fence_by_records : (lock : ℕ) → Keeps (λ now. now.fence ≡ Some lock)
fence_by_records lock now (Shard key unit blob_size bytes) f = inr (shard_fence now key blob_size lock bytes (map.get now.rows key) f)
fence_by_records lock now (Mark key unit) f = inr (mark_fence now key lock (map.get now.rows key) f)
fence_by_records lock now (Free key unit) f = inr (free_fence now key lock (map.get now.rows key) f)
fence_by_records lock now (Fence other unit) f = inr (fence_fence now other lock now.fence refl f)
fence_by_records lock now (Release unit) f = inl refl

pub deletes_kept : (items more : List ShardRecord) (bid : ℕ) → IsDeleted (row_at items bid) → (rows_after (items ++ more)).is_released ≡ false → IsDeleted (row_at (items ++ more) bid)
deletes_kept items more bid = kept (λ now. IsDeleted (map.get now.rows bid)) (deleted_by_records bid) items more

pub gone_kept : (items more : List ShardRecord) (bid : ℕ) → row_at items bid ≡ Some Gone → (rows_after (items ++ more)).is_released ≡ false → row_at (items ++ more) bid ≡ Some Gone
gone_kept items more bid = kept (λ now. map.get now.rows bid ≡ Some Gone) (gone_by_records bid) items more

pub fence_stays : (items more : List ShardRecord) (lock : ℕ) → (rows_after items).fence ≡ Some lock → (rows_after (items ++ more)).is_released ≡ false → (rows_after (items ++ more)).fence ≡ Some lock
fence_stays items more lock = kept (λ now. now.fence ≡ Some lock) (fence_by_records lock) items more

-- ---- a release

next_after_release : (now : Rows) (item : ShardRecord) (is_released : Bool) → is_released ≡ true → after_next now item is_released ≡ now
next_after_release now item true e = refl
next_after_release now item false e = not_both false e refl

pub released_stays : (now : Rows) (more : List ShardRecord) → now.is_released ≡ true → rows_from now more ≡ now
released_stays now [] e = refl
released_stays now (item ∷ more) e =
    let same = next_after_release now item now.is_released e in
    released_stays (after_next now item now.is_released) more (ap (λ (rows : Rows). rows.is_released) same ∙ e) ∙ same

pub release_ends : (items more : List ShardRecord) → (rows_after items).is_released ≡ true → rows_after (items ++ more) ≡ rows_after items
release_ends items more e = rows_from-append no_rows items more ∙ released_stays (rows_after items) more e

shard_open : (now : Rows) (key blob_size : ℕ) (bytes : List ℕ) (row : Option Row) → (after_shard now key blob_size bytes row).is_released ≡ now.is_released
shard_open now key blob_size bytes None = refl
shard_open now key blob_size bytes (Some row) = refl

mark_open : (now : Rows) (key : ℕ) (row : Option Row) → (after_mark now key row).is_released ≡ now.is_released
mark_open now key None = refl
mark_open now key (Some (Live blob_size bytes)) = refl
mark_open now key (Some Marked) = refl
mark_open now key (Some Gone) = refl

free_open : (now : Rows) (key : ℕ) (row : Option Row) → (after_free now key row).is_released ≡ now.is_released
free_open now key None = refl
free_open now key (Some (Live blob_size bytes)) = refl
free_open now key (Some Marked) = refl
free_open now key (Some Gone) = refl

fence_open : (now : Rows) (lock : ℕ) (fence : Option ℕ) → (after_fence now lock fence).is_released ≡ now.is_released
fence_open now lock None = refl
fence_open now lock (Some first) = refl

record_released : (now : Rows) (item : ShardRecord) → now.is_released ≡ false → (after_record now item).is_released ≡ true → after_record now item ≡ released
record_released now (Shard key unit blob_size bytes) e r = not_both now.is_released (sym (shard_open now key blob_size bytes (map.get now.rows key)) ∙ r) e
record_released now (Mark key unit) e r = not_both now.is_released (sym (mark_open now key (map.get now.rows key)) ∙ r) e
record_released now (Free key unit) e r = not_both now.is_released (sym (free_open now key (map.get now.rows key)) ∙ r) e
record_released now (Fence lock unit) e r = not_both now.is_released (sym (fence_open now lock now.fence) ∙ r) e
record_released now (Release unit) e r = refl

next_released : (now : Rows) (item : ShardRecord) (is_released : Bool) → now.is_released ≡ is_released → (now.is_released ≡ true → now ≡ released) → (after_next now item is_released).is_released ≡ true → after_next now item is_released ≡ released
next_released now item true e so r = so r
next_released now item false e so r = record_released now item e r

none_left : (now : Rows) (items : List ShardRecord) → (now.is_released ≡ true → now ≡ released) → (rows_from now items).is_released ≡ true → rows_from now items ≡ released
none_left now [] so r = so r
none_left now (item ∷ items) so r =
    none_left (after_next now item now.is_released) items (next_released now item now.is_released refl so) r

after_release : (now : Rows) (unit : Name) (is_released : Bool) → now.is_released ≡ is_released → (now.is_released ≡ true → now ≡ released) → after_next now (Release unit) is_released ≡ released
after_release now unit true e so = so e
after_release now unit false e so = refl

pub nothing_follows : (items more : List ShardRecord) (unit : Name) → rows_after (items ++ Release unit ∷ more) ≡ released
nothing_follows items more unit =
    let now = rows_after items in
    let ends = after_release now unit now.is_released refl (none_left no_rows items (λ e. not_both false e refl)) in
    rows_from-append no_rows items (Release unit ∷ more)
    ∙ released_stays (after_next now (Release unit) now.is_released) more (ap (λ (rows : Rows). rows.is_released) ends)
    ∙ ends
