-- Releases are safe, and old epochs are fenced.
use Rattle.std.proofs.Common.{◌≡◌, ℕ, ◌<◌, inl, inr, true, false, Option, Some, None, refl, sym, ◌∙◌, ap, subst}
use Rattle.std.specs.Prelude.{is_some}
use Rattle.unit_id.specs.Place.{Place, at_home}
use Rattle.code_mode.specs.VolumeShape.{VolumeShape}
use Rattle.unit_id.specs.Request.{Request, Answer, place_of}
use Rattle.blob_node.specs.Units.{UnitRecord, is_live}
use Rattle.blob_node.specs.UnitAnswer.{Effect, TakesShard, TakesMark, Frees, Answers, view_at}
use Rattle.volume_entry.specs.Manager.{home_at, current, transfers_of, is_swapped}
use Rattle.volume_world.specs.State.{State}
use Rattle.volume_world.specs.Move.{Handles, SettlesUnit}
use Rattle.volume_world.specs.Succession.{is_swap_in_doubt}
use Rattle.blob_node.specs.Units.{is_row_record}
use Rattle.volume_world.specs.Invariant.{Kept}
use Rattle.volume_world.specs.Laws.{IsSafeRelease, is_accepting}
use Rattle.blob_node.specs.UnitAnswer.{is_row_request}
use Rattle.blob_node.specs.UnitAnswer.{writes}
use Rattle.unit_id.proofs.Bools.{contrary, or_left}
use Rattle.volume_world.proofs.Written.{old_gives}
use Rattle.volume_world.proofs.OtherMoves.{doubt_made, doubt_unreleased}

-- an old unit that still stands is that of a swapped lock
pub safe : (shape : VolumeShape) (s : State) (p : Place) → Kept shape s → s.units.is_made p ≡ true → s.units.is_released p ≡ false → s.broken p.disk ≡ false → p.epoch < (home_at s.manager.homes p.index).epoch → IsSafeRelease s p
safe shape s p k made unreleased unbroken below = elim (k.fencing.below_is_given_up p made below) [
  | inl broken ↦ absurd (contrary (s.broken p.disk) broken unbroken)
  | inr (inl released) ↦ absurd (contrary (s.units.is_released p) released unreleased)
  | inr (inr old) ↦
      let found = old_gives (transfers_of s.manager.lock) p old.1 in
      let at : at_home found.0.index found.0.dest ≡ current s.manager.homes p.index =
      ap (at_home found.0.index) (sym (k.succession.is_current old.0 found.0 found.1)) ∙ ap (current s.manager.homes) found.2 in
      record {
        swapped = old.0;
        old = old.1;
        above = below;
        holds = λ b held. subst (λ q. is_live (s.units.row q b) ≡ true) at
            (k.succession.holds_acked (or_left (is_swapped s.manager.lock) (is_swap_in_doubt s.manager.doubt) old.0) found.0 found.1 b held);
      }
]

pub release_handled_safe : (shape : VolumeShape) (s t : State) (p : Place) (a : Answer) (e : Effect) → Kept shape s → Handles s (Request.Release p) a e t → writes e ≡ true → IsSafeRelease s p
release_handled_safe shape s t p Answer.Done Effect.Wrote k h w = safe shape s p k h.1.1.0.held h.1.0.unreleased h.1.0.unbroken (k.authority.requests.issued (Request.Release p) h.0)
release_handled_safe shape s t p Answer.Fault Effect.Doubted k h w = safe shape s p k h.1.1.0.held h.1.0.unreleased h.1.0.unbroken (k.authority.requests.issued (Request.Release p) h.0)
release_handled_safe shape s t p a Effect.Nothing k h w = cc
release_handled_safe shape s t p a Effect.Made k h w = cc
release_handled_safe shape s t p a Effect.Started k h w = cc
release_handled_safe shape s t p a e k h w = absurd h.1.1.1

-- a unit that serves a write isn't below its index's current one, or it is fenced
pub cut : (shape : VolumeShape) (s : State) (p : Place) → Kept shape s → s.units.is_made p ≡ true → s.units.is_released p ≡ false → s.broken p.disk ≡ false → p.epoch < (home_at s.manager.homes p.index).epoch → s.units.fence p ≡ None → ⊥
cut shape s p k made unreleased unbroken below unfenced = elim (k.fencing.below_is_cut_off p made below) [
  | inl broken ↦ contrary (s.broken p.disk) broken unbroken
  | inr (inl released) ↦ contrary (s.units.is_released p) released unreleased
  | inr (inr fenced) ↦ contrary (is_some (s.units.fence p)) fenced (ap is_some unfenced)
]

abbrev Nothing : Answer → Effect → Type 0
Nothing a e = (writes e ≡ false) × (is_accepting a ≡ false)

shard_fenced : (shape : VolumeShape) (s : State) (p : Place) (b : ℕ) (a : Answer) (e : Effect) → (s.units.fence p ≡ None → ⊥) → TakesShard (view_at s.broken s.units p) b a e → Nothing a e
shard_fenced shape s p b (Answer.Fenced n) Effect.Started cut h = (refl, refl)
shard_fenced shape s p b Answer.Already Effect.Started cut h = absurd (cut h.0)
shard_fenced shape s p b Answer.Deleted Effect.Started cut h = (refl, refl)
shard_fenced shape s p b Answer.Done Effect.Wrote cut h = absurd (cut h.0)
shard_fenced shape s p b (Answer.Full n) Effect.Started cut h = (refl, refl)
shard_fenced shape s p b Answer.Fault Effect.Doubted cut h = absurd (cut h.0)
shard_fenced shape s p b a e cut h = absurd h

mark_fenced : (shape : VolumeShape) (s : State) (p : Place) (b : ℕ) (a : Answer) (e : Effect) → (s.units.fence p ≡ None → ⊥) → TakesMark (view_at s.broken s.units p) b a e → Nothing a e
mark_fenced shape s p b (Answer.Fenced n) Effect.Started cut h = (refl, refl)
mark_fenced shape s p b Answer.Already Effect.Started cut h = absurd (cut h.0)
mark_fenced shape s p b Answer.Done Effect.Wrote cut h = absurd (cut h.0)
mark_fenced shape s p b (Answer.Full n) Effect.Started cut h = (refl, refl)
mark_fenced shape s p b Answer.Fault Effect.Doubted cut h = absurd (cut h.0)
mark_fenced shape s p b a e cut h = absurd h

free_fenced : (shape : VolumeShape) (s : State) (p : Place) (b : ℕ) (a : Answer) (e : Effect) → (s.units.fence p ≡ None → ⊥) → Frees (view_at s.broken s.units p) b a e → Nothing a e
free_fenced shape s p b (Answer.Fenced n) Effect.Started cut h = (refl, refl)
free_fenced shape s p b Answer.NotMarked Effect.Started cut h = (refl, refl)
free_fenced shape s p b Answer.Already Effect.Started cut h = absurd (cut h.0)
free_fenced shape s p b Answer.Done Effect.Wrote cut h = absurd (cut h.0)
free_fenced shape s p b (Answer.Full n) Effect.Started cut h = (refl, refl)
free_fenced shape s p b Answer.Fault Effect.Doubted cut h = absurd (cut h.0)
free_fenced shape s p b a e cut h = absurd h

-- answers before a unit is at work, or from one that is
put_old : (shape : VolumeShape) (s : State) (p : Place) (b : ℕ) (a : Answer) (e : Effect) → Kept shape s → p.epoch < (home_at s.manager.homes p.index).epoch → Answers (view_at s.broken s.units p) (Request.Put p b) a e → Nothing a e
put_old shape s p b Answer.Broken Effect.Nothing k below h = (refl, refl)
put_old shape s p b (Answer.Stale n) Effect.Nothing k below h = (refl, refl)
put_old shape s p b Answer.NoUnit Effect.Nothing k below h = (refl, refl)
put_old shape s p b Answer.Fault Effect.Nothing k below h = (refl, refl)
put_old shape s p b a e k below h = shard_fenced shape s p b a e (cut shape s p k h.1.0.held h.0.unreleased h.0.unbroken below) h.1.1

copy_old : (shape : VolumeShape) (s : State) (p : Place) (b : ℕ) (a : Answer) (e : Effect) → Kept shape s → p.epoch < (home_at s.manager.homes p.index).epoch → Answers (view_at s.broken s.units p) (Request.Copy p b) a e → Nothing a e
copy_old shape s p b Answer.Broken Effect.Nothing k below h = (refl, refl)
copy_old shape s p b (Answer.Stale n) Effect.Nothing k below h = (refl, refl)
copy_old shape s p b Answer.NoUnit Effect.Nothing k below h = (refl, refl)
copy_old shape s p b Answer.Fault Effect.Nothing k below h = (refl, refl)
copy_old shape s p b a e k below h = shard_fenced shape s p b a e (cut shape s p k h.1.0.held h.0.unreleased h.0.unbroken below) h.1.1

mark_old : (shape : VolumeShape) (s : State) (p : Place) (b : ℕ) (a : Answer) (e : Effect) → Kept shape s → p.epoch < (home_at s.manager.homes p.index).epoch → Answers (view_at s.broken s.units p) (Request.Mark p b) a e → Nothing a e
mark_old shape s p b Answer.Broken Effect.Nothing k below h = (refl, refl)
mark_old shape s p b (Answer.Stale n) Effect.Nothing k below h = (refl, refl)
mark_old shape s p b Answer.NoUnit Effect.Nothing k below h = (refl, refl)
mark_old shape s p b Answer.Fault Effect.Nothing k below h = (refl, refl)
mark_old shape s p b a e k below h = mark_fenced shape s p b a e (cut shape s p k h.1.0.held h.0.unreleased h.0.unbroken below) h.1.1

free_old : (shape : VolumeShape) (s : State) (p : Place) (b : ℕ) (a : Answer) (e : Effect) → Kept shape s → p.epoch < (home_at s.manager.homes p.index).epoch → Answers (view_at s.broken s.units p) (Request.Free p b) a e → Nothing a e
free_old shape s p b Answer.Broken Effect.Nothing k below h = (refl, refl)
free_old shape s p b (Answer.Stale n) Effect.Nothing k below h = (refl, refl)
free_old shape s p b Answer.NoUnit Effect.Nothing k below h = (refl, refl)
free_old shape s p b Answer.Fault Effect.Nothing k below h = (refl, refl)
free_old shape s p b a e k below h = free_fenced shape s p b a e (cut shape s p k h.1.0.held h.0.unreleased h.0.unbroken below) h.1.1

pub old_handled : (shape : VolumeShape) (s t : State) (r : Request) (a : Answer) (e : Effect) → Kept shape s → Handles s r a e t → is_row_request r ≡ true → (place_of r).epoch < (home_at s.manager.homes (place_of r).index).epoch → Nothing a e
old_handled shape s t (Request.Put p b) a e k h w below = put_old shape s p b a e k below h.1
old_handled shape s t (Request.Copy p b) a e k h w below = copy_old shape s p b a e k below h.1
old_handled shape s t (Request.Mark p b) a e k h w below = mark_old shape s p b a e k below h.1
old_handled shape s t (Request.Free p b) a e k h w below = free_old shape s p b a e k below h.1
old_handled shape s t r a e k h w below = cc

pub old_found : (shape : VolumeShape) (s t : State) (p : Place) → Kept shape s → SettlesUnit p s true t → s.broken p.disk ≡ false → p.epoch < (home_at s.manager.homes p.index).epoch → is_row_record (s.units.doubt p) ≡ false
old_found shape s t p k h unbroken below = go (s.units.doubt p) refl where
  go : (d : Option UnitRecord) → s.units.doubt p ≡ d → is_row_record (s.units.doubt p) ≡ false
  go None e = ap is_row_record e
  go (Some item) e = elim (k.fencing.below_is_cut_off p (doubt_made shape s p item k e) below) [
    | inl broken ↦ absurd (contrary (s.broken p.disk) broken unbroken)
    | inr (inl released) ↦ absurd (contrary (s.units.is_released p) released (doubt_unreleased shape s p item k e))
    | inr (inr fenced) ↦ k.support.units.fenced_units_have_no_row_doubt p fenced
  ]
