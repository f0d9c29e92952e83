-- Marks stay, fenced units take no writes, and what is done is held.
use Rattle.std.proofs.Common.{◌≡◌, ℕ, ◌⊎◌, inl, inr, Bool, true, false, Option, Some, None, refl, ◌∙◌, ap, cond}
use Rattle.unit_id.specs.Place.{Place, is_place}
use Rattle.unit_id.specs.Request.{Request, Answer}
use Rattle.blob_node.specs.Units.{RowState, UnitRecord, Units, is_live, is_deleted, with_row, after_shard, after_mark, after_free}
use Rattle.blob_node.specs.UnitAnswer.{UnitView, Effect, Answers, TakesShard, TakesMark, Frees, view_at, units_after, writes}
use Rattle.blob_node.specs.Laws.{MarksStay, FencedUnitsTakeNoWrites, DoneIsHeld}
use Rattle.blob_node.proofs.Lookups.{at_one_row, row_here}

shard_keeps : (row : Option RowState) → is_deleted row ≡ true → is_deleted (after_shard row) ≡ true
shard_keeps None h = cc
shard_keeps (Some row) h = h

mark_marks : (row : Option RowState) → is_deleted (after_mark row) ≡ true
mark_marks None = refl
mark_marks (Some RowState.Live) = refl
mark_marks (Some RowState.Marked) = refl
mark_marks (Some RowState.Gone) = refl

free_keeps : (row : Option RowState) → is_deleted row ≡ true → is_deleted (after_free row) ≡ true
free_keeps None h = cc
free_keeps (Some RowState.Live) h = h
free_keeps (Some RowState.Marked) h = refl
free_keeps (Some RowState.Gone) h = refl

-- a new row that keeps the mark of the row before it
row_stays : (units : Units) (at place : Place) (b bid : ℕ) (new : Option RowState) → (is_deleted (units.row at b) ≡ true → is_deleted new ≡ true)
    → is_deleted (units.row place bid) ≡ true → is_deleted (with_row at b new units.row place bid) ≡ true
row_stays units at place b bid new here h = at_one_row at b new units.row (λ p c row. is_deleted (units.row p c) ≡ true → is_deleted row ≡ true) here place bid (λ x. x) h

pub marks_stay : MarksStay
marks_stay units at place (UnitRecord.Shard b) bid h = inl (row_stays units at place b bid (after_shard (units.row at b)) (shard_keeps (units.row at b)) h)
marks_stay units at place (UnitRecord.Mark b) bid h = inl (row_stays units at place b bid (after_mark (units.row at b)) (λ x. mark_marks (units.row at b)) h)
marks_stay units at place (UnitRecord.Free b) bid h = inl (row_stays units at place b bid (after_free (units.row at b)) (free_keeps (units.row at b)) h)
marks_stay units at place (UnitRecord.Fence n) bid h = inl h
marks_stay units at place UnitRecord.Release bid h = go (is_place place at) where
  go : (test : Bool) → (is_deleted ((cond test (λ b. None) (units.row place)) bid) ≡ true) ⊎ (cond test true (units.is_released place) ≡ true)
  go true = inr refl
  go false = inl h

shard_unfenced : (view : UnitView) (bid : ℕ) (a : Answer) (e : Effect) → TakesShard view bid a e → writes e ≡ true → view.fence ≡ None
shard_unfenced view bid Answer.Done Effect.Wrote h w = h.0
shard_unfenced view bid Answer.Fault Effect.Doubted h w = h.0
shard_unfenced view bid a Effect.Nothing h w = cc
shard_unfenced view bid a Effect.Made h w = cc
shard_unfenced view bid a Effect.Started h w = cc
shard_unfenced view bid a e h w = absurd h

mark_unfenced : (view : UnitView) (bid : ℕ) (a : Answer) (e : Effect) → TakesMark view bid a e → writes e ≡ true → view.fence ≡ None
mark_unfenced view bid Answer.Done Effect.Wrote h w = h.0
mark_unfenced view bid Answer.Fault Effect.Doubted h w = h.0
mark_unfenced view bid a Effect.Nothing h w = cc
mark_unfenced view bid a Effect.Made h w = cc
mark_unfenced view bid a Effect.Started h w = cc
mark_unfenced view bid a e h w = absurd h

free_unfenced : (view : UnitView) (bid : ℕ) (a : Answer) (e : Effect) → Frees view bid a e → writes e ≡ true → view.fence ≡ None
free_unfenced view bid Answer.Done Effect.Wrote h w = h.0
free_unfenced view bid Answer.Fault Effect.Doubted h w = h.0
free_unfenced view bid a Effect.Nothing h w = cc
free_unfenced view bid a Effect.Made h w = cc
free_unfenced view bid a Effect.Started h w = cc
free_unfenced view bid a e h w = absurd h

put_unfenced : (view : UnitView) (p : Place) (b : ℕ) (a : Answer) (e : Effect) → Answers view (Request.Put p b) a e → writes e ≡ true → view.fence ≡ None
put_unfenced view p b Answer.Broken Effect.Nothing h w = cc
put_unfenced view p b (Answer.Stale have) Effect.Nothing h w = cc
put_unfenced view p b Answer.NoUnit Effect.Nothing h w = cc
put_unfenced view p b Answer.Fault Effect.Nothing h w = cc
put_unfenced view p b a e h w = shard_unfenced view b a e h.1.1 w

copy_unfenced : (view : UnitView) (p : Place) (b : ℕ) (a : Answer) (e : Effect) → Answers view (Request.Copy p b) a e → writes e ≡ true → view.fence ≡ None
copy_unfenced view p b Answer.Broken Effect.Nothing h w = cc
copy_unfenced view p b (Answer.Stale have) Effect.Nothing h w = cc
copy_unfenced view p b Answer.NoUnit Effect.Nothing h w = cc
copy_unfenced view p b Answer.Fault Effect.Nothing h w = cc
copy_unfenced view p b a e h w = shard_unfenced view b a e h.1.1 w

to_mark_unfenced : (view : UnitView) (p : Place) (b : ℕ) (a : Answer) (e : Effect) → Answers view (Request.Mark p b) a e → writes e ≡ true → view.fence ≡ None
to_mark_unfenced view p b Answer.Broken Effect.Nothing h w = cc
to_mark_unfenced view p b (Answer.Stale have) Effect.Nothing h w = cc
to_mark_unfenced view p b Answer.NoUnit Effect.Nothing h w = cc
to_mark_unfenced view p b Answer.Fault Effect.Nothing h w = cc
to_mark_unfenced view p b a e h w = mark_unfenced view b a e h.1.1 w

to_free_unfenced : (view : UnitView) (p : Place) (b : ℕ) (a : Answer) (e : Effect) → Answers view (Request.Free p b) a e → writes e ≡ true → view.fence ≡ None
to_free_unfenced view p b Answer.Broken Effect.Nothing h w = cc
to_free_unfenced view p b (Answer.Stale have) Effect.Nothing h w = cc
to_free_unfenced view p b Answer.NoUnit Effect.Nothing h w = cc
to_free_unfenced view p b Answer.Fault Effect.Nothing h w = cc
to_free_unfenced view p b a e h w = free_unfenced view b a e h.1.1 w

pub fenced_units_take_no_writes : FencedUnitsTakeNoWrites
fenced_units_take_no_writes view (Request.Put p b) a e h k w = put_unfenced view p b a e h w
fenced_units_take_no_writes view (Request.Copy p b) a e h k w = copy_unfenced view p b a e h w
fenced_units_take_no_writes view (Request.Mark p b) a e h k w = to_mark_unfenced view p b a e h w
fenced_units_take_no_writes view (Request.Free p b) a e h k w = to_free_unfenced view p b a e h w
fenced_units_take_no_writes view r a e h k w = cc

taken_live : (units : Units) (p : Place) (b : ℕ) → units.row p b ≡ None → is_live (with_row p b (after_shard (units.row p b)) units.row p b) ≡ true
taken_live units p b e = ap is_live (row_here p b (after_shard (units.row p b)) units.row ∙ ap after_shard e)

put_held : (broken : ℕ → Bool) (units : Units) (p : Place) (b : ℕ) (e : Effect) → Answers (view_at broken units p) (Request.Put p b) Answer.Done e
    → is_live ((units_after p (Request.Put p b) e units).row p b) ≡ true
put_held broken units p b Effect.Wrote h = taken_live units p b h.1.1.1
put_held broken units p b e h = absurd h.1.1

copy_held : (broken : ℕ → Bool) (units : Units) (p : Place) (b : ℕ) (e : Effect) → Answers (view_at broken units p) (Request.Copy p b) Answer.Done e
    → is_live ((units_after p (Request.Copy p b) e units).row p b) ≡ true
copy_held broken units p b Effect.Wrote h = taken_live units p b h.1.1.1
copy_held broken units p b e h = absurd h.1.1

pub done_is_held : DoneIsHeld
done_is_held = record { put = put_held; copy = copy_held }
