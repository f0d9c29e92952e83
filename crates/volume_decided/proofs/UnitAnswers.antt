-- A unit's answer to a request is decided by what its station sees, where nothing fails and no chunk is full.
use Rattle.std.proofs.Common.{◌≡◌, ◌∙◌, sym, ap, refl, ℕ, ◌<◌, inl, inr, ◌⊎◌, Bool, true, false, cond, Option, Some, None, lt_irrefl, lt_of_lt_of_le, le_antisymm}
use Rattle.std.specs.Prelude.{◌==◌}
use Rattle.unit_id.specs.Request.{Request, Answer}
use Rattle.unit_id.proofs.Bools.{equal_test}
use Rattle.blob_node.specs.Units.{RowState, is_deleted}
use Rattle.blob_node.specs.UnitAnswer.{UnitView, Effect, IsStale, IsServed, IsAtWork, TakesShard, TakesMark, Frees, Reads, Lists, Fences, Releases, Works, Creates, Holds, Serves, Answers}
use Rattle.volume_decided.proofs.Listings.{same_listing}

-- neither a fault nor full
abbrev pub is_fine : Answer → Bool
is_fine Answer.Fault = false
is_fine (Answer.Full end) = false
is_fine answer = true

abbrev pub outcome : Answer → Effect → Answer × Effect
outcome a e = (a, e)

-- ---- a unit at work

abbrev shard_gives : Option ℕ → Option RowState → Answer × Effect
shard_gives (Some lock) row = (Answer.Fenced lock, Effect.Started)
shard_gives None None = (Answer.Done, Effect.Wrote)
shard_gives None (Some RowState.Live) = (Answer.Already, Effect.Started)
shard_gives None (Some RowState.Marked) = (Answer.Deleted, Effect.Started)
shard_gives None (Some RowState.Gone) = (Answer.Deleted, Effect.Started)

deleted_gives : (fence : Option ℕ) (row : Option RowState) → fence ≡ None → is_deleted row ≡ true → outcome Answer.Deleted Effect.Started ≡ shard_gives fence row
deleted_gives None (Some RowState.Marked) e h = refl
deleted_gives None (Some RowState.Gone) e h = refl
deleted_gives None None e h = cc
deleted_gives None (Some RowState.Live) e h = cc
deleted_gives (Some lock) row e h = cc

shard_is : (view : UnitView) (bid : ℕ) (a : Answer) (e : Effect) → TakesShard view bid a e → is_fine a ≡ true → outcome a e ≡ shard_gives view.fence (view.row bid)
shard_is view bid (Answer.Fenced lock) Effect.Started h fine = ap (λ o. shard_gives o (view.row bid)) (sym h)
shard_is view bid Answer.Already Effect.Started h fine = λ i. shard_gives (sym h.0 i) (sym h.1 i)
shard_is view bid Answer.Deleted Effect.Started h fine = deleted_gives view.fence (view.row bid) h.0 h.1
shard_is view bid Answer.Done Effect.Wrote h fine = λ i. shard_gives (sym h.0 i) (sym h.1 i)
shard_is view bid (Answer.Full end) e h fine = cc
shard_is view bid Answer.Fault e h fine = cc
shard_is view bid a e h fine = absurd h

abbrev mark_gives : Option ℕ → Bool → Answer × Effect
mark_gives (Some lock) deleted = (Answer.Fenced lock, Effect.Started)
mark_gives None deleted = cond deleted (Answer.Already, Effect.Started) (Answer.Done, Effect.Wrote)

mark_is : (view : UnitView) (bid : ℕ) (a : Answer) (e : Effect) → TakesMark view bid a e → is_fine a ≡ true → outcome a e ≡ mark_gives view.fence (is_deleted (view.row bid))
mark_is view bid (Answer.Fenced lock) Effect.Started h fine = ap (λ o. mark_gives o (is_deleted (view.row bid))) (sym h)
mark_is view bid Answer.Already Effect.Started h fine = λ i. mark_gives (sym h.0 i) (sym h.1 i)
mark_is view bid Answer.Done Effect.Wrote h fine = λ i. mark_gives (sym h.0 i) (sym h.1 i)
mark_is view bid (Answer.Full end) e h fine = cc
mark_is view bid Answer.Fault e h fine = cc
mark_is view bid a e h fine = absurd h

abbrev free_gives : Option ℕ → Option RowState → Answer × Effect
free_gives (Some lock) row = (Answer.Fenced lock, Effect.Started)
free_gives None None = (Answer.NotMarked, Effect.Started)
free_gives None (Some RowState.Live) = (Answer.NotMarked, Effect.Started)
free_gives None (Some RowState.Marked) = (Answer.Done, Effect.Wrote)
free_gives None (Some RowState.Gone) = (Answer.Already, Effect.Started)

unmarked_gives : (fence : Option ℕ) (row : Option RowState) → fence ≡ None → is_deleted row ≡ false → outcome Answer.NotMarked Effect.Started ≡ free_gives fence row
unmarked_gives None None e h = refl
unmarked_gives None (Some RowState.Live) e h = refl
unmarked_gives None (Some RowState.Marked) e h = cc
unmarked_gives None (Some RowState.Gone) e h = cc
unmarked_gives (Some lock) row e h = cc

free_is : (view : UnitView) (bid : ℕ) (a : Answer) (e : Effect) → Frees view bid a e → is_fine a ≡ true → outcome a e ≡ free_gives view.fence (view.row bid)
free_is view bid (Answer.Fenced lock) Effect.Started h fine = ap (λ o. free_gives o (view.row bid)) (sym h)
free_is view bid Answer.NotMarked Effect.Started h fine = unmarked_gives view.fence (view.row bid) h.0 h.1
free_is view bid Answer.Already Effect.Started h fine = λ i. free_gives (sym h.0 i) (sym h.1 i)
free_is view bid Answer.Done Effect.Wrote h fine = λ i. free_gives (sym h.0 i) (sym h.1 i)
free_is view bid (Answer.Full end) e h fine = cc
free_is view bid Answer.Fault e h fine = cc
free_is view bid a e h fine = absurd h

abbrev read_gives : Option RowState → Answer × Effect
read_gives None = (Answer.Absent, Effect.Started)
read_gives (Some RowState.Live) = (Answer.Live, Effect.Started)
read_gives (Some RowState.Marked) = (Answer.Marked, Effect.Started)
read_gives (Some RowState.Gone) = (Answer.Gone, Effect.Started)

read_is : (view : UnitView) (bid : ℕ) (a : Answer) (e : Effect) → Reads view bid a e → is_fine a ≡ true → outcome a e ≡ read_gives (view.row bid)
read_is view bid Answer.Live Effect.Started h fine = ap read_gives (sym h)
read_is view bid Answer.Marked Effect.Started h fine = ap read_gives (sym h)
read_is view bid Answer.Gone Effect.Started h fine = ap read_gives (sym h)
read_is view bid Answer.Absent Effect.Started h fine = ap read_gives (sym h)
read_is view bid Answer.Fault e h fine = cc
read_is view bid a e h fine = absurd h

abbrev fence_gives : ℕ → Option ℕ → Answer × Effect
fence_gives lock None = (Answer.Done, Effect.Wrote)
fence_gives lock (Some kept) = cond (kept == lock) (Answer.Done, Effect.Started) (Answer.Fenced kept, Effect.Started)

fence_is : (view : UnitView) (lock : ℕ) (a : Answer) (e : Effect) → Fences view lock a e → is_fine a ≡ true → outcome a e ≡ fence_gives lock view.fence
fence_is view lock Answer.Done Effect.Wrote h fine = ap (fence_gives lock) (sym h)
fence_is view lock Answer.Done Effect.Started h fine =
    ap (λ t. cond t (outcome Answer.Done Effect.Started) (outcome (Answer.Fenced lock) Effect.Started)) (sym (equal_test lock lock refl)) ∙ ap (fence_gives lock) (sym h)
fence_is view lock (Answer.Fenced kept) Effect.Started h fine =
    ap (λ t. cond t (outcome Answer.Done Effect.Started) (outcome (Answer.Fenced kept) Effect.Started)) (sym h.1) ∙ ap (fence_gives lock) (sym h.0)
fence_is view lock (Answer.Full end) e h fine = cc
fence_is view lock Answer.Fault e h fine = cc
fence_is view lock a e h fine = absurd h

release_is : (a : Answer) (e : Effect) → Releases a e → is_fine a ≡ true → outcome a e ≡ outcome Answer.Done Effect.Wrote
release_is Answer.Done Effect.Wrote h fine = refl
release_is (Answer.Full end) e h fine = cc
release_is Answer.Fault e h fine = cc
release_is a e h fine = absurd h

lists_decided : (view : UnitView) (lock : ℕ) (a b : Answer) (e f : Effect) → Lists view lock a e → Lists view lock b f → outcome a e ≡ outcome b f
lists_decided view lock (Answer.Listing number listing) (Answer.Listing other shown) Effect.Started Effect.Started h k =
    let same = same_listing view.row listing shown h.1 k.1 in
    λ i. outcome (Answer.Listing ((h.0 ∙ sym k.0) i) (same i)) Effect.Started
lists_decided view lock (Answer.Listing number listing) b Effect.Started f h k = absurd k
lists_decided view lock a b e f h k = absurd h

works_decided : (view : UnitView) (request : Request) (a b : Answer) (e f : Effect) → Works view request a e → Works view request b f → is_fine a ≡ true → is_fine b ≡ true → outcome a e ≡ outcome b f
works_decided view (Request.Create place) a b e f h k p q = absurd h
works_decided view (Request.Fence place lock) a b e f h k p q = fence_is view lock a e h p ∙ sym (fence_is view lock b f k q)
works_decided view (Request.Put place bid) a b e f h k p q = shard_is view bid a e h p ∙ sym (shard_is view bid b f k q)
works_decided view (Request.Read place bid) a b e f h k p q = read_is view bid a e h p ∙ sym (read_is view bid b f k q)
works_decided view (Request.List place lock) a b e f h k p q = lists_decided view lock a b e f h k
works_decided view (Request.Copy place bid) a b e f h k p q = shard_is view bid a e h p ∙ sym (shard_is view bid b f k q)
works_decided view (Request.Mark place bid) a b e f h k p q = mark_is view bid a e h p ∙ sym (mark_is view bid b f k q)
works_decided view (Request.Free place bid) a b e f h k p q = free_is view bid a e h p ∙ sym (free_is view bid b f k q)
works_decided view (Request.Release place) a b e f h k p q = release_is a e h p ∙ sym (release_is b f k q)

-- ---- a unit that is served

abbrev create_gives : Bool → Answer × Effect
create_gives was_made = cond was_made (Answer.Already, Effect.Nothing) (Answer.Done, Effect.Made)

create_is : (view : UnitView) (a : Answer) (e : Effect) → Creates view a e → is_fine a ≡ true → outcome a e ≡ create_gives (view.was_made view.epoch)
create_is view Answer.Already Effect.Nothing h fine = ap create_gives (sym h)
create_is view Answer.Done Effect.Made h fine = ap create_gives (sym h)
create_is view Answer.Fault e h fine = cc
create_is view a e h fine = absurd h

-- it isn't held, or it is at work
abbrev IsHolding : UnitView → Request → Answer → Effect → Type 0
IsHolding view request a e = ((outcome a e ≡ outcome Answer.NoUnit Effect.Nothing) × (view.was_made view.epoch ≡ false)) ⊎ (IsAtWork view × Works view request a e)

holding : (view : UnitView) (request : Request) (a : Answer) (e : Effect) → Holds view request a e → is_fine a ≡ true → IsHolding view request a e
holding view request Answer.NoUnit Effect.Nothing h fine = inl (refl, h)
holding view request Answer.Fault e h fine = cc
holding view request a e h fine = inr h

holds_decided : (view : UnitView) (request : Request) (a b : Answer) (e f : Effect) → Holds view request a e → Holds view request b f → is_fine a ≡ true → is_fine b ≡ true → outcome a e ≡ outcome b f
holds_decided view request a b e f h k p q = go (holding view request a e h p) (holding view request b f k q) where
  go : IsHolding view request a e → IsHolding view request b f → outcome a e ≡ outcome b f
  go (inl x) (inl y) = x.0 ∙ sym y.0
  go (inl x) (inr y) = let made = y.0.held in let not_made = x.1 in cc
  go (inr x) (inl y) = let made = x.0.held in let not_made = y.1 in cc
  go (inr x) (inr y) = works_decided view request a b e f x.1 y.1 p q

serves_decided : (view : UnitView) (request : Request) (a b : Answer) (e f : Effect) → Serves view request a e → Serves view request b f → is_fine a ≡ true → is_fine b ≡ true → outcome a e ≡ outcome b f
serves_decided view (Request.Create place) a b e f h k p q = create_is view a e h p ∙ sym (create_is view b f k q)
serves_decided view request a b e f h k p q = holds_decided view request a b e f h k p q

-- ---- a station

data Kind (view : UnitView) (request : Request) (a : Answer) (e : Effect) : Type 0 where
  OfBroken : outcome a e ≡ outcome Answer.Broken Effect.Nothing → view.is_broken ≡ true → Kind view request a e
  OfStale : (have : ℕ) → outcome a e ≡ outcome (Answer.Stale have) Effect.Nothing → IsStale view have → Kind view request a e
  OfServed : IsServed view → Serves view request a e → Kind view request a e

kind_of : (view : UnitView) (request : Request) (a : Answer) (e : Effect) → Answers view request a e → Kind view request a e
kind_of view request Answer.Broken Effect.Nothing h = OfBroken refl h
kind_of view request (Answer.Stale have) Effect.Nothing h = OfStale have refl h
kind_of view request a e h = OfServed h.0 h.1

not_both : (view : UnitView) (have : ℕ) → IsStale view have → IsServed view → ⊥
not_both view have stale served = go stale.outlived where
  go : (view.is_released ≡ true) ⊎ (view.epoch < have) → ⊥
  go (inl released) = let unreleased = served.unreleased in cc
  go (inr later) = lt_irrefl view.epoch (lt_of_lt_of_le later (served.newest have stale.made))

-- two answers that aren't failures are one, with one effect
pub answers_decided : (view : UnitView) (request : Request) (a b : Answer) (e f : Effect) → Answers view request a e → Answers view request b f → is_fine a ≡ true → is_fine b ≡ true → outcome a e ≡ outcome b f
answers_decided view request a b e f h k p q = go (kind_of view request a e h) (kind_of view request b f k) where
  go : Kind view request a e → Kind view request b f → outcome a e ≡ outcome b f
  go (OfBroken x broken) (OfBroken y other) = x ∙ sym y
  go (OfBroken x broken) (OfStale have y stale) = let unbroken = stale.unbroken in cc
  go (OfBroken x broken) (OfServed served y) = let unbroken = served.unbroken in cc
  go (OfStale have x stale) (OfBroken y broken) = let unbroken = stale.unbroken in cc
  go (OfStale have x stale) (OfStale other y also) =
      x ∙ ap (λ n. outcome (Answer.Stale n) Effect.Nothing) (le_antisymm (also.greatest have stale.made) (stale.greatest other also.made)) ∙ sym y
  go (OfStale have x stale) (OfServed served y) = absurd (not_both view have stale served)
  go (OfServed served x) (OfBroken y broken) = let unbroken = served.unbroken in cc
  go (OfServed served x) (OfStale have y stale) = absurd (not_both view have stale served)
  go (OfServed served x) (OfServed other y) = serves_decided view request a b e f x y p q
