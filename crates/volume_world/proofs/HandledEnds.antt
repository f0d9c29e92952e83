-- A release and a fence that are handled keep what is kept.
use Rattle.std.proofs.Common.{◌≡◌, ℕ, inl, inr, true, Some, refl, sym, ◌∙◌, ap, subst, arith}
use Rattle.unit_id.specs.Lists.{IsIn}
use Rattle.unit_id.specs.Place.{Place}
use Rattle.code_mode.specs.VolumeShape.{VolumeShape}
use Rattle.unit_id.specs.Request.{Request, Answer, Given}
use Rattle.blob_node.specs.Units.{UnitRecord, with_at, after_fence}
use Rattle.blob_node.specs.UnitAnswer.{Effect, Answers, IsStale, view_at, units_after}
use Rattle.volume_entry.specs.Manager.{transfers_of}
use Rattle.volume_world.specs.State.{State}
use Rattle.volume_world.specs.Support.{IsOutlived}
use Rattle.blob_node.specs.Units.{is_row_record}
use Rattle.volume_world.specs.Invariant.{Kept}
use Rattle.unit_id.proofs.Bools.{contrary}
use Rattle.volume_world.proofs.Given.{MayBeInDoubt, answer_kept}
use Rattle.volume_world.proofs.GivenByUnits.{handled, inert_given, other_given, after_start, started_kept, doubted_kept}
use Rattle.volume_world.proofs.Written.{old_gives}
use Rattle.volume_world.proofs.Releases.{release_kept}
use Rattle.volume_world.proofs.Fences.{fence_kept}
use Rattle.blob_node.proofs.Lookups.{there_now}

-- Stale to a release, sent to the disk where the unit was made, means that it was released.
stale_released : (shape : VolumeShape) (s : State) (p : Place) (have : ℕ) → Kept shape s → IsIn (Request.Release p) s.post.issued → IsStale (view_at s.broken s.units p) have → s.units.is_made p ≡ true → s.units.is_released p ≡ true
stale_released shape s p have k i h made = elim h.outlived [
  | inl released ↦ released
  | inr above ↦ elim (k.fencing.below_is_given_up p made (k.authority.requests.issued (Request.Release p) i)) [
    | inl broken ↦ absurd (contrary (s.broken p.disk) broken h.unbroken)
    | inr (inl released) ↦ released
    | inr (inr old) ↦
        let found = old_gives (transfers_of s.manager.lock) p old.1 in
        let disk = k.placement.old_at_home p found.0 made found.1 (sym found.2) (sym found.3) in
        let newest = k.placement.old_disk_newest old.0 found.0 found.1 (ap s.broken (sym disk) ∙ h.unbroken) (record { index = p.index; epoch = have; disk = p.disk }) h.made (sym found.2) disk in
        let e = found.3 in absurd (omega (arith, newest, above, e))
  ]
]

stale_outlived : (shape : VolumeShape) (s : State) (p : Place) (have : ℕ) → IsStale (view_at s.broken s.units p) have → IsOutlived s.units.is_made s.units.is_released p
stale_outlived shape s p have h = elim h.outlived [ inl released ↦ inl released | inr above ↦ inr (have, above, h.made) ]

pub release_handled : (shape : VolumeShape) (s : State) (p : Place) (a : Answer) (e : Effect) → Kept shape s → IsIn (Request.Release p) s.post.issued
    → Answers (view_at s.broken s.units p) (Request.Release p) a e → Kept shape (handled s (Request.Release p) a e)
release_handled shape s p Answer.Broken Effect.Nothing k i h = answer_kept shape s _ k (inert_given shape s (Request.Release p) Answer.Broken i refl)
release_handled shape s p (Answer.Stale have) Effect.Nothing k i h =
    answer_kept shape s _ k (other_given shape s (Request.Release p) (Answer.Stale have) i (stale_released shape s p have k i h) (λ c x. cc) (λ c. refl) (λ q n x.
    let r = ap (λ (g : Given). g.request) x in
    let at : q ≡ p = cc in
    subst (IsOutlived s.units.is_made s.units.is_released) (sym at) (stale_outlived shape s p have h)))
release_handled shape s p Answer.NoUnit Effect.Nothing k i h = answer_kept shape s _ k (inert_given shape s (Request.Release p) Answer.NoUnit i refl)
release_handled shape s p Answer.Fault Effect.Nothing k i h = answer_kept shape s _ k (inert_given shape s (Request.Release p) Answer.Fault i refl)
release_handled shape s p (Answer.Full n) Effect.Started k i h = answer_kept shape (after_start s p) _ (started_kept shape s p k) (inert_given shape (after_start s p) (Request.Release p) (Answer.Full n) i refl)
release_handled shape s p Answer.Fault Effect.Doubted k i h =
    let may : MayBeInDoubt s p UnitRecord.Release =
    record { issued = i; release_below = λ e. k.authority.requests.issued (Request.Release p) i; unfenced = λ e. cc; unreleased = h.0.unreleased; made = h.1.0.held } in
    let s1 = record s { units = record (s.units) { is_shut = with_at p true s.units.is_shut; doubt = with_at p (Some UnitRecord.Release) s.units.doubt } } in
    answer_kept shape s1 _ (doubted_kept shape s p UnitRecord.Release k may) (inert_given shape s1 (Request.Release p) Answer.Fault i refl)
release_handled shape s p Answer.Done Effect.Wrote k i h =
    let s2 = record s { units = units_after p (Request.Release p) Effect.Wrote s.units } in
    let k2 : Kept shape s2 = release_kept shape (after_start s p) p (started_kept shape s p k) h.1.0.held (k.authority.requests.issued (Request.Release p) i) h.1.0.settled in
    answer_kept shape s2 _ k2 (other_given shape s2 (Request.Release p) Answer.Done i (there_now p true s.units.is_released) (λ c x. cc) (λ c. refl) (λ q n x. let r = ap (λ (g : Given). g.answer) x in cc))
release_handled shape s p a e k i h = absurd h.1.1

pub fence_handled : (shape : VolumeShape) (s : State) (p : Place) (n : ℕ) (a : Answer) (e : Effect) → Kept shape s → IsIn (Request.Fence p n) s.post.issued
    → Answers (view_at s.broken s.units p) (Request.Fence p n) a e → Kept shape (handled s (Request.Fence p n) a e)
fence_handled shape s p n Answer.Broken Effect.Nothing k i h = answer_kept shape s _ k (inert_given shape s (Request.Fence p n) Answer.Broken i refl)
fence_handled shape s p n (Answer.Stale have) Effect.Nothing k i h =
    answer_kept shape s _ k (other_given shape s (Request.Fence p n) (Answer.Stale have) i tt (λ c x. cc) (λ c. refl) (λ q m x. let r = ap (λ (g : Given). g.request) x in cc))
fence_handled shape s p n Answer.NoUnit Effect.Nothing k i h = answer_kept shape s _ k (inert_given shape s (Request.Fence p n) Answer.NoUnit i refl)
fence_handled shape s p n Answer.Fault Effect.Nothing k i h = answer_kept shape s _ k (inert_given shape s (Request.Fence p n) Answer.Fault i refl)
fence_handled shape s p n (Answer.Fenced m) Effect.Started k i h = answer_kept shape (after_start s p) _ (started_kept shape s p k) (inert_given shape (after_start s p) (Request.Fence p n) (Answer.Fenced m) i refl)
fence_handled shape s p n (Answer.Full m) Effect.Started k i h = answer_kept shape (after_start s p) _ (started_kept shape s p k) (inert_given shape (after_start s p) (Request.Fence p n) (Answer.Full m) i refl)
fence_handled shape s p n Answer.Done Effect.Started k i h =
    answer_kept shape (after_start s p) _ (started_kept shape s p k)
    (other_given shape (after_start s p) (Request.Fence p n) Answer.Done i (inr h.1.1) (λ c x. cc) (λ c. refl) (λ q m x. let r = ap (λ (g : Given). g.request) x in cc))
fence_handled shape s p n Answer.Fault Effect.Doubted k i h =
    let may : MayBeInDoubt s p (UnitRecord.Fence n) = record { issued = i; release_below = λ e. cc; unfenced = λ e. cc; unreleased = h.0.unreleased; made = h.1.0.held } in
    let s1 = record s { units = record (s.units) { is_shut = with_at p true s.units.is_shut; doubt = with_at p (Some (UnitRecord.Fence n)) s.units.doubt } } in
    answer_kept shape s1 _ (doubted_kept shape s p (UnitRecord.Fence n) k may) (inert_given shape s1 (Request.Fence p n) Answer.Fault i refl)
fence_handled shape s p n Answer.Done Effect.Wrote k i h =
    let s2 = record s { units = units_after p (Request.Fence p n) Effect.Wrote s.units } in
    let k2 : Kept shape s2 = fence_kept shape (after_start s p) p n (started_kept shape s p k) h.1.0.held h.0.unreleased (k.fencing.fence_issued p n i) (ap is_row_record h.1.0.settled) in
    answer_kept shape s2 _ k2 (other_given shape s2 (Request.Fence p n) Answer.Done i
    (inr (there_now p (after_fence n (s.units.fence p)) s.units.fence ∙ ap (after_fence n) h.1.1)) (λ c x. cc) (λ c. refl) (λ q m x. let r = ap (λ (g : Given). g.request) x in cc))
fence_handled shape s p n a e k i h = absurd h.1.1
