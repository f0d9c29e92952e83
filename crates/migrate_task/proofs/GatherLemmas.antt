-- Lemmas on what is gathered of a blob, and on what is written of it.
use Rattle.std.proofs.Common.{◌≡◌, ℕ, zero, suc, ◌+◌, ◌<◌, ◌≤◌, inl, inr, Bool, true, false, cond, not, ◌==◌, List, [], ◌∷◌, length, filter, take, set, get_or, drop, replicate, Option, Some, None, IfSome, Result, Ok, Err, IfOk, refl, sym, ◌∙◌, ap, subst, arith}
use Rattle.std.specs.Prelude.{is_some, unwrap_or, nat_le, ◌&&◌, ◌||◌, ◌≢◌}
use Rattle.std.proofs.lemmas.Bool.{cases_eq, eqb-true, eqb-false, eq-eqb, leb-true}
use Rattle.std.proofs.lemmas.List.{get_or-set_same, get_or-set_other, length-set, at_drop_more}
use Rattle.std.proofs.lemmas.List.Sums.{sum_by-cons}
use Rattle.unit_id.specs.Messages.{place_at}
use Rattle.unit_id.specs.declared.homes.Home.{Home}
use Rattle.unit_id.specs.declared.request.Request.TheVariants as requests
use Rattle.unit_id.specs.declared.task.Task.{Task}
use Rattle.unit_id.specs.declared.task.Kind.TheVariants as kinds
use Rattle.unit_id.proofs.Bools.{and_left, and_right}
use Rattle.rs_code.specs.Shards.{shard_at, held, held_count, size_of}
use Rattle.rs_code.specs.ShardValue.{rebuilt}
use Rattle.rs_code.proofs.Filled.{length-row_through, size_when_held}
use Rattle.code_mode.specs.declared.mode.Mode.{Mode}
use Rattle.code_mode.specs.declared.stripe.TheConstants.{BLOB_LIMIT}
use Rattle.code_mode.specs.Mode.{data_count, total_count, shard_size}
use Rattle.code_mode.specs.PayloadShard.{PayloadShard, payload_shard}
use Rattle.code_mode.specs.Stripe.{shard_of, HoldsEnough}
use Rattle.code_mode.proofs.AnyShards.{any_rebuilt}
use Rattle.code_mode.proofs.Numbers.{sound_numbers}
use Rattle.volume_entry.specs.Manager.{IsBid}
use Rattle.volume_world.specs.Way.{Origin, WayView, IsWay, shape_of}
use Rattle.volume_world.specs.Asking.{IsUnitOn, MayAsk}
use Rattle.volume_world.specs.Contents.{begun_shard}
use Rattle.volume_world.specs.Course.{Part, Goes}
use Rattle.volume_world.specs.Replying.{AreHomesFrom}
use Rattle.volume_world.specs.declared.event.Event.TheVariants as events
use Rattle.volume_world.specs.declared.reply.Reply.{Reply}
use Rattle.migrate_task.specs.declared.copying.Errand.{Errand}
use Rattle.migrate_task.specs.declared.usable.KnownSize.{KnownSize}
use Rattle.migrate_task.specs.declared.gathering.Gathered.{Gathered}
use Rattle.migrate_task.specs.declared.old_shard.Row.{Row}
use Rattle.migrate_task.specs.declared.old_shard.OldShard.{OldShard}
use Rattle.migrate_task.specs.declared.old_shard.OldShard.TheVariants as olds
use Rattle.migrate_task.specs.declared.halt.Halt.{Halt}
use Rattle.migrate_task.specs.Work.{Work, unbroken}
use Rattle.migrate_task.specs.Copies.{CopyStage, CopyNext, agrees, is_usable, knowing, with_shard, others_than, reading}
use Rattle.migrate_task.specs.AdvanceCall.{copying}
use Rattle.migrate_task.specs.TaskParts.{AreUnits, CanGather, other_heard}
use Rattle.migrate_task.specs.Rows.{InEach, IsBegunWith, IsRowRight, IsReadRight, AreShardsRight, IsBlobRight}
use Rattle.migrate_task.specs.GatherParts.{IsErrand, AreErrands, rebuilding, writing, none_gathered, AreFrom, IsGathered, IsEnough, Adds, AddsRight, known_after, enough_by, visited, IsVisited, IsRowFor, IsOldRow, IsOldRight, IsRightBy}
use Rattle.migrate_task.proofs.ToldLemmas.{each_later, begun_kept}

pub ok_map : {T : Type 0} (result : Result T Halt) (P Q : T → Type 0) → ((x : T) → P x → Q x) → IfOk result P → IfOk result Q
ok_map (Ok x) P Q f h = f x h
ok_map (Err halt) P Q f h = h

some_map : (P Q : List ℕ → Type 0) (shard : Option (List ℕ)) → ((bytes : List ℕ) → P bytes → Q bytes) → IfSome shard P → IfSome shard Q
some_map P Q None f h = tt
some_map P Q (Some bytes) f h = f bytes h

-- ---- a row that can be used

record HasLength (mode : Mode) (known : Option KnownSize) (bid size : ℕ) (bytes : List ℕ) : Type 0 where
  some : 1 ≤ size
  most : size ≤ BLOB_LIMIT
  long : length bytes ≡ shard_size mode size
  agrees : agrees known bid size ≡ true

usable_parts : (mode : Mode) (known : Option KnownSize) (bid size : ℕ) (bytes : List ℕ) → is_usable mode known bid size bytes ≡ true → HasLength mode known bid size bytes
usable_parts mode known bid size bytes h =
    let limits = and_left (nat_le 1 size && nat_le size BLOB_LIMIT) ((length bytes == shard_size mode size) && agrees known bid size) h in
    let rest = and_right (nat_le 1 size && nat_le size BLOB_LIMIT) ((length bytes == shard_size mode size) && agrees known bid size) h in
    record {
      some = leb-true 1 size (and_left (nat_le 1 size) (nat_le size BLOB_LIMIT) limits);
      most = leb-true size BLOB_LIMIT (and_right (nat_le 1 size) (nat_le size BLOB_LIMIT) limits);
      long = eqb-true (length bytes) (shard_size mode size) (and_left (length bytes == shard_size mode size) (agrees known bid size) rest);
      agrees = and_right (length bytes == shard_size mode size) (agrees known bid size) rest;
    }

-- the size of the blob is known, so no other is used
same_size : (bid size other : ℕ) → agrees (knowing bid size) bid other ≡ true → size ≡ other
same_size bid size other h = go (bid == bid) (eq-eqb bid bid refl) h
  where
    go : (t : Bool) → t ≡ true → not t || (size == other) ≡ true → size ≡ other
    go true e k = eqb-true size other k
    go false e k = cc

pub old_right : (way : WayView) (mode : Mode) (known : Option KnownSize) (bid index : ℕ) (reply : Reply) (old : OldShard) → IsReadRight way bid index reply → IsOldRow mode known bid reply old → IsOldRight way mode bid index old
old_right way mode known bid index reply (olds.Usable row) right h =
    let parts = usable_parts mode known bid row.size row.bytes h.1 in
    record { some = parts.some; most = parts.most; long = parts.long; right = subst (IsReadRight way bid index) h.0 right }
old_right way mode known bid index reply olds.Useless right h = tt
old_right way mode known bid index reply olds.Unheard right h = tt

pub adds_right : (way : WayView) (mode : Mode) (known : Option KnownSize) (bid index : ℕ) (old new : Gathered) (reply : Reply) (found : Option ℕ) → IsReadRight way bid index reply → Adds mode known bid index old new reply found
    → AddsRight way mode known bid index old new found
adds_right way mode known bid index old new reply None right h = h
adds_right way mode known bid index old new reply (Some size) right h = (h.0, subst (IsReadRight way bid index) h.1 right, h.2)

-- ---- one shard more

set_each : (P : ℕ → List ℕ → Type 0) (shards : List (Option (List ℕ))) (i : ℕ) (bytes : List ℕ) → i < length shards → P i bytes → ((k : ℕ) → IfSome (shard_at shards k) (P k)) → (k : ℕ) → IfSome (shard_at (set shards i (Some bytes)) k) (P k)
set_each P shards i bytes below here all k = elim (cases_eq k i) [
  | inl same ↦
      let at : shard_at (set shards i (Some bytes)) i ≡ Some bytes = get_or-set_same shards i (Some bytes) None below in
      subst (λ n. IfSome (shard_at (set shards i (Some bytes)) n) (P n)) (sym same) (subst (λ (shard : Option (List ℕ)). IfSome shard (P i)) (sym at) here)
  | inr apart ↦
      let at : shard_at (set shards i (Some bytes)) k ≡ shard_at shards k = get_or-set_other shards i k (Some bytes) None apart in
      subst (λ (shard : Option (List ℕ)). IfSome shard (P k)) (sym at) (all k)
]

free_set : (shards : List (Option (List ℕ))) (i : ℕ) (bytes : List ℕ) → ((k : ℕ) → i ≤ k → shard_at shards k ≡ None) → (k : ℕ) → i + 1 ≤ k → shard_at (set shards i (Some bytes)) k ≡ None
free_set shards i bytes free k above =
    let apart : k ≢ i = omega arith in
    get_or-set_other shards i k (Some bytes) None apart ∙ free k (omega arith)

held_more : (shards : List (Option (List ℕ))) (i : ℕ) (bytes : List ℕ) → i < length shards → shard_at shards i ≡ None → held_count (set shards i (Some bytes)) ≡ held_count shards + 1
held_more [] i bytes below free = absurd (omega arith)
held_more (None ∷ shards) zero bytes below free =
    let now = sum_by-cons (λ (x : Option (List ℕ)). cond (is_some x) 1 0) (Some bytes) shards in
    let was = sum_by-cons (λ (x : Option (List ℕ)). cond (is_some x) 1 0) None shards in
    omega arith
held_more (Some other ∷ shards) zero bytes below free = cc
held_more (s ∷ shards) (suc i) bytes below free =
    let rest = held_more shards i bytes (omega arith) free in
    let now = sum_by-cons (λ (x : Option (List ℕ)). cond (is_some x) 1 0) s (set shards i (Some bytes)) in
    let was = sum_by-cons (λ (x : Option (List ℕ)). cond (is_some x) 1 0) s shards in
    omega arith

added_long : (mode : Mode) (known : Option KnownSize) (bid index size : ℕ) (old : Gathered) (bytes : List ℕ) → IsGathered mode known bid index old → index < total_count mode → is_usable mode known bid size bytes ≡ true
    → (k : ℕ) → IfSome (shard_at (set old.shards index (Some bytes)) k) (λ held. length held ≡ shard_size mode size)
added_long mode known bid index size old bytes g below usable =
    let parts = usable_parts mode known bid size bytes usable in
    let total = g.total in
    set_each (λ k held. length held ≡ shard_size mode size) old.shards index bytes (omega arith) parts.long
    (λ k. some_map (λ held. (other : ℕ) (row : List ℕ) → is_usable mode known bid other row ≡ true → length held ≡ length row) (λ held. length held ≡ shard_size mode size) (shard_at old.shards k) (λ held h. h size bytes usable ∙ parts.long) (g.even k))

added_visited : (mode : Mode) (known : Option KnownSize) (bid index size : ℕ) (old : Gathered) (bytes : List ℕ) → IsGathered mode known bid index old → index < total_count mode → is_usable mode known bid size bytes ≡ true
    → IsVisited mode (knowing bid size) bid (index + 1) (with_shard old index bytes) (enough_by mode (old.live + 1) (Some size))
added_visited mode known bid index size old bytes g below usable = go (old.live + 1 == data_count mode) refl
  where
    go : (t : Bool) → old.live + 1 == data_count mode ≡ t → IsVisited mode (knowing bid size) bid (index + 1) (with_shard old index bytes) (cond t (Some size) None)
    go true e =
        let parts = usable_parts mode known bid size bytes usable in
        let total = g.total in
        record {
          total = length-set old.shards index (Some bytes) ∙ g.total;
          even = added_long mode known bid index size old bytes g below usable;
          enough = held_more old.shards index bytes (omega arith) (g.free index (omega arith)) ∙ ap (λ n. n + 1) (sym g.live) ∙ eqb-true (old.live + 1) (data_count mode) e;
          some = parts.some;
          most = parts.most;
        }
    go false e =
        let total = g.total in
        let few = g.few in
        let counted = g.counted in
        let other = eqb-false (old.live + 1) (data_count mode) e in
        record {
          total = length-set old.shards index (Some bytes) ∙ g.total;
          free = free_set old.shards index bytes g.free;
          even = λ k. some_map (λ held. length held ≡ shard_size mode size) (λ held. (next : ℕ) (row : List ℕ) → is_usable mode (knowing bid size) bid next row ≡ true → length held ≡ length row) (shard_at (set old.shards index (Some bytes)) k)
              (λ held long next row h. let parts = usable_parts mode (knowing bid size) bid next row h in long ∙ ap (shard_size mode) (same_size bid size next parts.agrees) ∙ sym parts.long)
              (added_long mode known bid index size old bytes g below usable k);
          live = ap (λ n. n + 1) g.live ∙ sym (held_more old.shards index bytes (omega arith) (g.free index (omega arith)));
          few = omega arith;
          counted = omega arith;
        }

-- what stands behind a visit
pub visited_heard : (way : WayView) (mode : Mode) (known : Option KnownSize) (bid index : ℕ) (old new : Gathered) (found : Option ℕ) → IsGathered mode known bid index old → index < total_count mode
    → AddsRight way mode known bid index old new found → IsVisited mode (known_after bid found known) bid (index + 1) new (enough_by mode new.live found)
visited_heard way mode known bid index old new None g below h =
    let live = h.1 in
    let unheard = h.2 in
    let few = g.few in
    let counted = g.counted in
    record {
      total = ap length h.0 ∙ g.total;
      free = λ k above. ap (λ shards. shard_at shards k) h.0 ∙ g.free k (omega arith);
      even = subst (λ (shards : List (Option (List ℕ))). (k : ℕ) → IfSome (shard_at shards k) (λ held. (size : ℕ) (bytes : List ℕ) → is_usable mode known bid size bytes ≡ true → length held ≡ length bytes)) (sym h.0) g.even;
      live = h.1 ∙ g.live ∙ ap held_count (sym h.0);
      few = omega arith;
      counted = omega arith;
    }
visited_heard way mode known bid index old new (Some size) g below h =
    subst (λ (x : Gathered). IsVisited mode (knowing bid size) bid (index + 1) x (enough_by mode x.live (Some size))) (sym h.2.adds) (added_visited mode known bid index size old h.0 g below h.2.usable)

-- ---- what is right

-- the shards that are held stay right
pub shards_later : (old new : WayView) (parts : List Part) (bid : ℕ) (shards : List (Option (List ℕ))) → Goes old new parts → AreShardsRight old bid shards → AreShardsRight new bid shards
shards_later old new parts bid shards h right =
    subst (λ (m : Mode). InEach new (λ w. (k : ℕ) → IfSome (shard_at shards k) (λ bytes. IsBegunWith bid (λ payload. bytes ≡ shard_of m payload k) w))) (sym (ap (λ (o : Origin). o.mode) h.origin))
    (each_later old new parts (λ w. (k : ℕ) → IfSome (shard_at shards k) (λ bytes. IsBegunWith bid (λ payload. bytes ≡ shard_of old.origin.mode payload k) w))
    (λ shape w step v leads all k. some_map (λ bytes. IsBegunWith bid (λ payload. bytes ≡ shard_of old.origin.mode payload k) w) (λ bytes. IsBegunWith bid (λ payload. bytes ≡ shard_of old.origin.mode payload k) v) (shard_at shards k)
    (λ bytes one. begun_kept bid (λ payload. bytes ≡ shard_of old.origin.mode payload k) shape w step v leads one) (all k)) h right)

added_right : (way : WayView) (bid index size : ℕ) (shards : List (Option (List ℕ))) (bytes : List ℕ) → index < length shards → AreShardsRight way bid shards → IsRowRight way bid index size bytes → AreShardsRight way bid (set shards index (Some bytes))
added_right way bid index size shards bytes below right row = λ told w run.
    let h = row told w run in
    set_each (λ k b. IsBegunWith bid (λ payload. b ≡ shard_of way.origin.mode payload k) w) shards index bytes below (h.0, ap (λ (s : PayloadShard). s.bytes) h.1.0) (right told w run)

all_right : (way : WayView) (bid index size : ℕ) (shards : List (Option (List ℕ))) (bytes : List ℕ) → AreShardsRight way bid shards → IsRowRight way bid index size bytes → IsBlobRight way bid size shards
all_right way bid index size shards bytes right row = λ told w run.
    let h = row told w run in (
      h.0,
      record {
        long = ap (λ (s : PayloadShard). s.blob_size) h.1.0;
        bytes = h.1.1;
        own = λ k. some_map (λ b. IsBegunWith bid (λ payload. b ≡ shard_of way.origin.mode payload k) w) (λ b. b ≡ shard_of way.origin.mode (w.state.puts.payload bid) k) (shard_at shards k) (λ b one. one.1) (right told w run k);
      },
    )

pub visited_right : (way : WayView) (mode : Mode) (known : Option KnownSize) (bid index : ℕ) (old new : Gathered) (found : Option ℕ) → index < length old.shards → AreShardsRight way bid old.shards
    → AddsRight way mode known bid index old new found → IsRightBy way bid new.shards (enough_by mode new.live found)
visited_right way mode known bid index old new None below right h = subst (λ (shards : List (Option (List ℕ))). AreShardsRight way bid shards) (sym h.0) right
visited_right way mode known bid index old new (Some size) below right h =
    let more = subst (λ (x : Gathered). AreShardsRight way bid x.shards) (sym h.2.adds) (added_right way bid index size old.shards h.0 below right h.1) in
    go (new.live == data_count mode) more
  where
    go : (t : Bool) → AreShardsRight way bid new.shards → IsRightBy way bid new.shards (cond t (Some size) None)
    go true more = all_right way bid index size new.shards h.0 more h.1
    go false more = more

pub visited_goes : (work : Work) (known : Option KnownSize) (e : Errand) (left : List Errand) (gathered : Gathered) (homes : List Home) (found : Option ℕ)
    → copying work (other_heard work known e left gathered homes found) ≡ visited work (known_after e.bid found known) e left gathered homes (enough_by work.mode gathered.live found)
visited_goes work known e left gathered homes None = refl
visited_goes work known e left gathered homes (Some size) = go (gathered.live == data_count work.mode)
  where
    go : (t : Bool) → copying work (cond t (CopyNext.Asks (CopyStage.Writing (knowing e.bid size) e left size (rebuilt (data_count work.mode) gathered.shards e.journey.index))) (reading (knowing e.bid size) e left gathered homes)) ≡ visited work (knowing e.bid size) e left gathered homes (cond t (Some size) None)
    go true = refl
    go false = refl

-- ---- the first visit and the next

none_held : (n : ℕ) → held_count (replicate n None) ≡ 0
none_held zero = refl
none_held (suc n) =
    let one = sum_by-cons (λ (x : Option (List ℕ)). cond (is_some x) 1 0) None (replicate n None) in
    let rest = none_held n in
    omega arith

none_there : (n k : ℕ) → shard_at (replicate n None) k ≡ None
none_there zero k = refl
none_there (suc n) zero = refl
none_there (suc n) (suc k) = none_there n k

none_long : (n : ℕ) → length (replicate {A = Option (List ℕ)} n None) ≡ n
none_long zero = refl
none_long (suc n) = ap suc (none_long n)

pub first_gathered : (mode : Mode) (known : Option KnownSize) (bid unheard : ℕ) → unheard ≤ 1 → IsGathered mode known bid 0 (none_gathered mode unheard)
first_gathered mode known bid unheard h =
    let some = (sound_numbers mode).some_data in
    record {
      total = none_long (total_count mode);
      free = λ k above. none_there (total_count mode) k;
      even = λ k. subst (λ (shard : Option (List ℕ)). IfSome shard (λ held. (size : ℕ) (bytes : List ℕ) → is_usable mode known bid size bytes ≡ true → length held ≡ length bytes)) (sym (none_there (total_count mode) k)) tt;
      live = sym (none_held (total_count mode));
      few = omega arith;
      counted = omega arith;
    }

pub first_right : (way : WayView) (mode : Mode) (bid unheard : ℕ) → AreShardsRight way bid (none_gathered mode unheard).shards
first_right way mode bid unheard = λ told w run k.
    subst (λ (shard : Option (List ℕ)). IfSome shard (λ bytes. IsBegunWith bid (λ payload. bytes ≡ shard_of way.origin.mode payload k) w)) (sym (none_there (total_count mode) k)) tt

-- what is gathered below an index is so below a later one
pub gathered_from : (mode : Mode) (known : Option KnownSize) (bid less index : ℕ) (gathered : Gathered) → less ≤ index → IsGathered mode known bid less gathered → IsGathered mode known bid index gathered
gathered_from mode known bid less index gathered h g =
    let counted = g.counted in
    record { total = g.total; free = λ k above. g.free k (omega arith); even = g.even; live = g.live; few = g.few; counted = omega arith }

-- .. and a shard of it can be added
pub can_gather : (mode : Mode) (known : Option KnownSize) (bid index : ℕ) (gathered : Gathered) → index < total_count mode → IsGathered mode known bid index gathered → CanGather mode known bid index gathered
can_gather mode known bid index gathered below g =
    let total = g.total in
    let counted = g.counted in
    let few = (sound_numbers mode).few_shards in
    record {
      within = omega arith;
      free = g.free index (omega arith);
      even = λ size bytes usable. fits (length bytes) gathered.shards (λ k. some_map (λ held. (other : ℕ) (row : List ℕ) → is_usable mode known bid other row ≡ true → length held ≡ length row) (λ held. length held ≡ length bytes) (shard_at gathered.shards k)
          (λ held h. h size bytes usable) (g.even k));
      few_live = omega arith;
      few_unheard = omega arith;
    }
  where
    fits : (n : ℕ) (shards : List (Option (List ℕ))) → ((k : ℕ) → IfSome (shard_at shards k) (λ held. length held ≡ n)) → IfSome (size_of shards) (λ found. found ≡ n)
    fits n [] h = tt
    fits n (None ∷ shards) h = fits n shards (λ k. h (suc k))
    fits n (Some bytes ∷ shards) h = h 0

from_less : (total less next : ℕ) (homes : List Home) → less ≤ next → AreFrom total next homes → AreFrom total less homes
from_less total less next [] h f = tt
from_less total less next (home ∷ homes) h f = let first = f.0 in (omega arith, f.1, f.2)

pub others_from : (origin : Origin) (index first : ℕ) (homes : List Home) → AreHomesFrom origin first homes → AreFrom (shape_of origin).total first (others_than index homes)
others_from origin index first [] h = tt
others_from origin index first (home ∷ homes) h = go (not home.broken) (others_from origin index (suc first) homes h.2)
  where
    inner : (t : Bool) → AreFrom (shape_of origin).total (suc first) (others_than index homes) → AreFrom (shape_of origin).total first (cond t (home ∷ others_than index homes) (others_than index homes))
    inner true rest = let is = h.1 in (omega arith, h.0.index, subst (λ n. AreFrom (shape_of origin).total (suc n) (others_than index homes)) (sym h.1) rest)
    inner false rest = from_less (shape_of origin).total first (suc first) (others_than index homes) (omega arith) rest

    go : (s : Bool) → AreFrom (shape_of origin).total (suc first) (others_than index homes)
        → AreFrom (shape_of origin).total first (filter (λ (home : Home). not (home.unit.index == index)) (cond s (home ∷ unbroken homes) (unbroken homes)))
    go true rest = inner (not (home.unit.index == index)) rest
    go false rest = from_less (shape_of origin).total first (suc first) (others_than index homes) (omega arith) rest

pub others_are : (origin : Origin) (index first : ℕ) (homes : List Home) → AreHomesFrom origin first homes → AreUnits origin (others_than index homes)
others_are origin index first [] h = tt
others_are origin index first (home ∷ homes) h = go (not home.broken) (others_are origin index (suc first) homes h.2)
  where
    inner : (t : Bool) → AreUnits origin (others_than index homes) → AreUnits origin (cond t (home ∷ others_than index homes) (others_than index homes))
    inner true rest = (h.0, rest)
    inner false rest = rest

    go : (s : Bool) → AreUnits origin (others_than index homes) → AreUnits origin (filter (λ (home : Home). not (home.unit.index == index)) (cond s (home ∷ unbroken homes) (unbroken homes)))
    go true rest = inner (not (home.unit.index == index)) rest
    go false rest = rest

-- ---- what is written

long_size : (size : ℕ) (shards : List (Option (List ℕ))) → ((k : ℕ) → IfSome (shard_at shards k) (λ bytes. length bytes ≡ size)) → IfSome (size_of shards) (λ found. found ≡ size)
long_size size [] h = tt
long_size size (None ∷ shards) h = long_size size shards (λ k. h (suc k))
long_size size (Some bytes ∷ shards) h = h 0

size_is : (size : ℕ) (shards : List (Option (List ℕ))) → ((k : ℕ) → IfSome (shard_at shards k) (λ bytes. length bytes ≡ size)) → 0 < held_count shards → unwrap_or (size_of shards) 0 ≡ size
size_is size shards h some = go (size_of shards) (long_size size shards h) (size_when_held shards some)
  where
    go : (found : Option ℕ) → IfSome found (λ n. n ≡ size) → found ≡ Some (unwrap_or found 0) → unwrap_or found 0 ≡ size
    go None e some = cc
    go (Some n) e some = e

rebuilt_long : (mode : Mode) (size want : ℕ) (gathered : Gathered) → IsEnough mode size gathered → length (rebuilt (data_count mode) gathered.shards want) ≡ shard_size mode size
unfolding rebuilt
rebuilt_long mode size want gathered h =
    let enough = h.enough in
    let some = (sound_numbers mode).some_data in
    length-row_through gathered.shards (take (data_count mode) (held gathered.shards)) want ∙ size_is (shard_size mode size) gathered.shards h.even (omega arith)

rebuilt_right : (way : WayView) (mode : Mode) (bid size want : ℕ) (gathered : Gathered) → mode ≡ way.origin.mode → want < total_count mode → IsEnough mode size gathered → IsBlobRight way bid size gathered.shards
    → IsRowRight way bid want size (rebuilt (data_count mode) gathered.shards want)
rebuilt_right way mode bid size want gathered same below h right = λ told w run.
    let its = right told w run in
    let payload = w.state.puts.payload bid in
    let enough = h.enough in
    let holds : HoldsEnough mode payload gathered.shards = record { total = h.total; own = subst (λ (m : Mode). (k : ℕ) → IfSome (shard_at gathered.shards k) (λ bytes. bytes ≡ shard_of m payload k)) (sym same) its.1.own; enough = omega arith } in
    let shard = any_rebuilt mode payload gathered.shards want its.1.bytes holds below ∙ ap (λ m. shard_of m payload want) same in
    (its.0, ((λ i. record { blob_size = its.1.long i; bytes = shard i }), its.1.bytes))

-- the shard that is rebuilt is the lacking one
pub rebuilt_row : (way : WayView) (mode : Mode) (bid want : ℕ) (gathered : Gathered) (row : Row) → mode ≡ way.origin.mode → want < total_count mode → IsEnough mode row.size gathered → IsBlobRight way bid row.size gathered.shards
    → row.bytes ≡ rebuilt (data_count mode) gathered.shards want → IsRowFor way mode bid want row
rebuilt_row way mode bid want gathered row same below h right is = record {
  some = h.some;
  most = h.most;
  long = ap length is ∙ rebuilt_long mode row.size want gathered h;
  right = subst (λ bytes. IsRowRight way bid want row.size bytes) (sym is) (rebuilt_right way mode bid row.size want gathered same below h right);
}

-- a unit may be asked to take the shard of its index
pub copy_may : (way : WayView) (mode : Mode) (bid index : ℕ) (home : Home) (row : Row) → mode ≡ way.origin.mode → IsWay way → IsBid bid → IsUnitOn way.origin home.unit home.disk → home.unit.index ≡ index → IsRowFor way mode bid index row
    → MayAsk way (events.Send (requests.Copy home.unit home.disk bid row.size row.bytes))
copy_may way mode bid index home row same its number unit at h = record {
  fits = (unit, record { number = number; some = h.some; most = h.most; size = h.long ∙ ap (λ m. shard_size m row.size) same });
  right = λ told w here.
      let right = h.right told w (its.led told w here) in
      let shard : record { blob_size = row.size; bytes = row.bytes } ≡ begun_shard way.origin.mode w.state.puts (place_at home.unit home.disk) bid =
      right.1.0 ∙ ap (λ i. payload_shard way.origin.mode (w.state.puts.payload bid) i) (sym at) in
      subst (λ test. cond test (record { blob_size = row.size; bytes = row.bytes } ≡ begun_shard way.origin.mode w.state.puts (place_at home.unit home.disk) bid) (way.is_alone ≡ true)) (sym right.0) shard;
}

-- ---- the loop over other units

pub order_on : (total next : ℕ) (homes : List Home) (i : ℕ) (home : Home) → i < length homes → home ≡ get_or homes i home → AreFrom total next (drop i homes) → AreFrom total next (home ∷ drop (i + 1) homes)
order_on total next homes i home below is h =
    subst (AreFrom total next) (at_drop_more (λ xs. xs) homes i home below ∙ ap (λ x. x ∷ drop (i + 1) homes) (sym is)) h

-- any task: what is said of a call holds for each
pub some_task : Task
some_task = record { id = 0; kind = kinds.Repair; vid = 0; targets = [] }

pub errand_there : (now then : Origin) (es : List Errand) (i : ℕ) (e : Errand) → now ≡ then → AreErrands then es → i < length es → e ≡ get_or es i e → IsErrand now e
errand_there now then es i e same h below is = subst (λ (o : Origin). IsErrand o e) (sym same) (subst (IsErrand then) (sym is) (there es i h below))
  where
    there : (es : List Errand) (i : ℕ) → AreErrands then es → i < length es → IsErrand then (get_or es i e)
    there [] i h below = absurd (omega arith)
    there (x ∷ es) zero h below = h.0
    there (x ∷ es) (suc i) h below = there es i h.1 (omega arith)

-- the shard that is rebuilt is written
pub written_on : (work : Work) (e : Errand) (left : List Errand) (gathered : Gathered) (n size : ℕ) (bytes : List ℕ) → n ≡ data_count work.mode → bytes ≡ rebuilt n gathered.shards e.journey.index
    → rebuilding work e left gathered size ≡ writing work e left (record { size = size; bytes = bytes })
written_on work e left gathered n size bytes same is =
    λ i. writing work e left (record { size = size; bytes = (ap (λ m. rebuilt m gathered.shards e.journey.index) (sym same) ∙ sym is) i })
