-- A request that is handled keeps what is kept.
use Rattle.std.proofs.Common.{ℕ, inl, inr, true, Some, refl, ◌∙◌, ap}
use Rattle.unit_id.specs.Lists.{IsIn}
use Rattle.unit_id.specs.Place.{Place}
use Rattle.code_mode.specs.VolumeShape.{VolumeShape}
use Rattle.unit_id.specs.Request.{Request, Answer, Given}
use Rattle.blob_node.specs.Units.{UnitRecord, has_row, with_at, with_row, after_shard}
use Rattle.blob_node.specs.UnitAnswer.{Effect, Answers, view_at, started}
use Rattle.volume_world.specs.State.{State}
use Rattle.volume_world.specs.Invariant.{Kept}
use Rattle.volume_world.proofs.Rows.{shard_kept}
use Rattle.volume_world.proofs.Given.{MayBeInDoubt, answer_kept}
use Rattle.blob_node.proofs.Lookups.{row_here}
use Rattle.volume_world.proofs.GivenByUnits.{handled, inert_given, started_kept, shard_given, doubted_kept}

pub put_handled : (shape : VolumeShape) (s : State) (p : Place) (b : ℕ) (a : Answer) (e : Effect) → Kept shape s → IsIn (Request.Put p b) s.post.issued
    → Answers (view_at s.broken s.units p) (Request.Put p b) a e → Kept shape (handled s (Request.Put p b) a e)
put_handled shape s p b Answer.Broken Effect.Nothing k i h = answer_kept shape s _ k (inert_given shape s (Request.Put p b) Answer.Broken i refl)
put_handled shape s p b (Answer.Stale have) Effect.Nothing k i h = answer_kept shape s _ k (record {
  issued = i;
  borne_out = tt;
  taken = λ c o l e. cc;
  live = λ i c below e. cc;
  marked = λ i c below e. cc;
  stale = λ q n e. let r = ap (λ (g : Given). g.request) e in cc;
})
put_handled shape s p b Answer.NoUnit Effect.Nothing k i h = answer_kept shape s _ k (inert_given shape s (Request.Put p b) Answer.NoUnit i refl)
put_handled shape s p b Answer.Fault Effect.Nothing k i h = answer_kept shape s _ k (inert_given shape s (Request.Put p b) Answer.Fault i refl)
put_handled shape s p b (Answer.Fenced n) Effect.Started k i h =
    answer_kept shape (record s { units = started p s.units }) _ (started_kept shape s p k) (inert_given shape (record s { units = started p s.units }) (Request.Put p b) (Answer.Fenced n) i refl)
put_handled shape s p b (Answer.Full n) Effect.Started k i h =
    answer_kept shape (record s { units = started p s.units }) _ (started_kept shape s p k) (inert_given shape (record s { units = started p s.units }) (Request.Put p b) (Answer.Full n) i refl)
put_handled shape s p b Answer.Already Effect.Started k i h =
    let s1 = record s { units = started p s.units } in
    let k1 : Kept shape s1 = started_kept shape s p k in
    answer_kept shape s1 _ k1 (shard_given shape s1 p b (Request.Put p b) Answer.Already k1 i (λ u. ap has_row h.1.1.1) h.0.unbroken h.0.unreleased h.1.0.held refl (λ c. refl) (λ q e. cc))
put_handled shape s p b Answer.Deleted Effect.Started k i h =
    let s1 = record s { units = started p s.units } in
    let k1 : Kept shape s1 = started_kept shape s p k in
    answer_kept shape s1 _ k1 (shard_given shape s1 p b (Request.Put p b) Answer.Deleted k1 i (λ u. h.1.1.1) h.0.unbroken h.0.unreleased h.1.0.held refl (λ c. refl) (λ q e. cc))
put_handled shape s p b Answer.Fault Effect.Doubted k i h =
    let may : MayBeInDoubt s p (UnitRecord.Shard b) =
    record { issued = inl i; release_below = λ e. cc; unfenced = λ e. h.1.1.0; unreleased = h.0.unreleased; made = h.1.0.held } in
    let s1 = record s { units = record (s.units) { is_shut = with_at p true s.units.is_shut; doubt = with_at p (Some (UnitRecord.Shard b)) s.units.doubt } } in
    answer_kept shape s1 _ (doubted_kept shape s p (UnitRecord.Shard b) k may) (inert_given shape s1 (Request.Put p b) Answer.Fault i refl)
put_handled shape s p b Answer.Done Effect.Wrote k i h =
    let s1 = record s { units = started p s.units } in
    let row = with_row p b (after_shard (s.units.row p b)) s.units.row in
    let s2 = record s { units = record (started p s.units) { row = row } } in
    let k2 : Kept shape s2 = shard_kept shape s1 p b (started_kept shape s p k) (k.authority.requests.issued (Request.Put p b) i).0 h.1.0.held h.0.unreleased in
    answer_kept shape s2 _ k2 (shard_given shape s2 p b (Request.Put p b) Answer.Done k2 i
    (λ u. ap has_row (row_here p b (after_shard (s.units.row p b)) s.units.row ∙ ap after_shard h.1.1.1)) h.0.unbroken h.0.unreleased h.1.0.held refl (λ c. refl) (λ q e. cc))
put_handled shape s p b a e k i h = absurd h.1.1

pub copy_handled : (shape : VolumeShape) (s : State) (p : Place) (b : ℕ) (a : Answer) (e : Effect) → Kept shape s → IsIn (Request.Copy p b) s.post.issued
    → Answers (view_at s.broken s.units p) (Request.Copy p b) a e → Kept shape (handled s (Request.Copy p b) a e)
copy_handled shape s p b Answer.Broken Effect.Nothing k i h = answer_kept shape s _ k (inert_given shape s (Request.Copy p b) Answer.Broken i refl)
copy_handled shape s p b (Answer.Stale have) Effect.Nothing k i h = answer_kept shape s _ k (record {
  issued = i;
  borne_out = tt;
  taken = λ c o l e. cc;
  live = λ i c below e. cc;
  marked = λ i c below e. cc;
  stale = λ q n e. let r = ap (λ (g : Given). g.request) e in cc;
})
copy_handled shape s p b Answer.NoUnit Effect.Nothing k i h = answer_kept shape s _ k (inert_given shape s (Request.Copy p b) Answer.NoUnit i refl)
copy_handled shape s p b Answer.Fault Effect.Nothing k i h = answer_kept shape s _ k (inert_given shape s (Request.Copy p b) Answer.Fault i refl)
copy_handled shape s p b (Answer.Fenced n) Effect.Started k i h =
    answer_kept shape (record s { units = started p s.units }) _ (started_kept shape s p k) (inert_given shape (record s { units = started p s.units }) (Request.Copy p b) (Answer.Fenced n) i refl)
copy_handled shape s p b (Answer.Full n) Effect.Started k i h =
    answer_kept shape (record s { units = started p s.units }) _ (started_kept shape s p k) (inert_given shape (record s { units = started p s.units }) (Request.Copy p b) (Answer.Full n) i refl)
copy_handled shape s p b Answer.Already Effect.Started k i h =
    let s1 = record s { units = started p s.units } in
    let k1 : Kept shape s1 = started_kept shape s p k in
    answer_kept shape s1 _ k1 (shard_given shape s1 p b (Request.Copy p b) Answer.Already k1 i (λ u. ap has_row h.1.1.1) h.0.unbroken h.0.unreleased h.1.0.held refl (λ c. refl) (λ q e. cc))
copy_handled shape s p b Answer.Deleted Effect.Started k i h =
    let s1 = record s { units = started p s.units } in
    let k1 : Kept shape s1 = started_kept shape s p k in
    answer_kept shape s1 _ k1 (shard_given shape s1 p b (Request.Copy p b) Answer.Deleted k1 i (λ u. h.1.1.1) h.0.unbroken h.0.unreleased h.1.0.held refl (λ c. refl) (λ q e. cc))
copy_handled shape s p b Answer.Fault Effect.Doubted k i h =
    let may : MayBeInDoubt s p (UnitRecord.Shard b) =
    record { issued = inr i; release_below = λ e. cc; unfenced = λ e. h.1.1.0; unreleased = h.0.unreleased; made = h.1.0.held } in
    let s1 = record s { units = record (s.units) { is_shut = with_at p true s.units.is_shut; doubt = with_at p (Some (UnitRecord.Shard b)) s.units.doubt } } in
    answer_kept shape s1 _ (doubted_kept shape s p (UnitRecord.Shard b) k may) (inert_given shape s1 (Request.Copy p b) Answer.Fault i refl)
copy_handled shape s p b Answer.Done Effect.Wrote k i h =
    let s1 = record s { units = started p s.units } in
    let row = with_row p b (after_shard (s.units.row p b)) s.units.row in
    let s2 = record s { units = record (started p s.units) { row = row } } in
    let k2 : Kept shape s2 = shard_kept shape s1 p b (started_kept shape s p k) (k.authority.requests.issued (Request.Copy p b) i) h.1.0.held h.0.unreleased in
    answer_kept shape s2 _ k2 (shard_given shape s2 p b (Request.Copy p b) Answer.Done k2 i
    (λ u. ap has_row (row_here p b (after_shard (s.units.row p b)) s.units.row ∙ ap after_shard h.1.1.1)) h.0.unbroken h.0.unreleased h.1.0.held refl (λ c. refl) (λ q e. cc))
copy_handled shape s p b a e k i h = absurd h.1.1
