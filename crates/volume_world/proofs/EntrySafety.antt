-- No entry gives up a unit too early, and none changes or accepts anything under an older epoch.
use Rattle.std.proofs.Common.{◌≡◌, ◌<◌, inl, inr, Bool, true, false, Option, Some, None, refl, sym, ◌∙◌, ap, subst, cond}
use Rattle.unit_id.specs.Place.{Place, is_place}
use Rattle.unit_id.specs.Request.{Request, Answer, place_of}
use Rattle.unit_id.proofs.Bools.{contrary}
use Rattle.unit_id.proofs.Places.{is_place_gives}
use Rattle.code_mode.specs.VolumeShape.{VolumeShape, IsVolumeShape}
use Rattle.blob_node.specs.Units.{UnitRecord, Units, is_live, with_at}
use Rattle.blob_node.specs.UnitAnswer.{Effect, units_after, record_of, with_written, started, writes, settled_at}
use Rattle.volume_entry.specs.Manager.{home_at, current, transfers_of, is_swapped, is_old}
use Rattle.volume_world.specs.State.{State}
use Rattle.volume_world.specs.Move.{Handles, SettlesUnit}
use Rattle.volume_world.specs.Run.{World, Step, Leads}
use Rattle.volume_world.specs.Durability.{IsHeld}
use Rattle.volume_world.specs.Invariant.{Kept}
use Rattle.volume_world.specs.Laws.{IsSafeRelease, is_release, IsGivenUp, ReleasesAreSafe}
use Rattle.volume_world.proofs.Unmoved.{IsUnmoved}
use Rattle.volume_world.proofs.Touched.{IsSameGround, Touches, entry_touches}
use Rattle.volume_world.proofs.OtherMoves.{doubt_made, doubt_unreleased}
use Rattle.volume_world.proofs.SafetyProofs.{safe, release_handled_safe}

-- a look-up that turns true at one place alone
turns : (p q : Place) (old : Place → Bool) → old q ≡ false → with_at p true old q ≡ true → q ≡ p
turns p q old before now = go (is_place q p) refl now where
  go : (test : Bool) → is_place q p ≡ test → cond test true (old q) ≡ true → q ≡ p
  go true e h = is_place_gives q p e
  go false e h = absurd (contrary (old q) h before)

-- only a release that is written releases a unit
abbrev Released : Request → Effect → Place → Type 0
Released r e q = (r ≡ Request.Release q) × (writes e ≡ true)

unmade_flip : (p q : Place) (old : Place → Bool) (A : Type 0) → old q ≡ false → with_at p false old q ≡ true → A
unmade_flip p q old A before now = go (is_place q p) now where
  go : (test : Bool) → cond test false (old q) ≡ true → A
  go true h = cc
  go false h = absurd (contrary (old q) h before)

released_flip : (r : Request) (e : Effect) (units : Units) (q : Place) → units.is_released q ≡ false → (units_after (place_of r) r e units).is_released q ≡ true → Released r e q
released_flip r Effect.Nothing units q before now = absurd (contrary (units.is_released q) now before)
released_flip r Effect.Started units q before now = absurd (contrary (units.is_released q) now before)
released_flip r Effect.Doubted units q before now = absurd (contrary (units.is_released q) now before)
released_flip r Effect.Made units q before now = unmade_flip (place_of r) q units.is_released (Released r Effect.Made q) before now
released_flip (Request.Release p) Effect.Wrote units q before now = (ap Request.Release (sym (turns p q units.is_released before now)), refl)
released_flip r Effect.Wrote units q before now = absurd (contrary (units.is_released q) now before)

-- what is written leaves what is in doubt
written_doubt : (p : Place) (item : Option UnitRecord) (units : Units) (q : Place) → (with_written p item units).doubt q ≡ units.doubt q
written_doubt p None units q = refl
written_doubt p (Some (UnitRecord.Shard b)) units q = refl
written_doubt p (Some (UnitRecord.Mark b)) units q = refl
written_doubt p (Some (UnitRecord.Free b)) units q = refl
written_doubt p (Some (UnitRecord.Fence n)) units q = refl
written_doubt p (Some UnitRecord.Release) units q = refl

is_release_of : (r : Request) → is_release (record_of r) ≡ true → r ≡ Request.Release (place_of r)
is_release_of (Request.Release p) h = refl
is_release_of r h = cc

doubt_flip : (r : Request) (e : Effect) (units : Units) (q : Place) → is_release (units.doubt q) ≡ false → is_release ((units_after (place_of r) r e units).doubt q) ≡ true → Released r e q
doubt_flip r Effect.Nothing units q before now = absurd (contrary (is_release (units.doubt q)) now before)
doubt_flip r Effect.Started units q before now = absurd (contrary (is_release (units.doubt q)) now before)
doubt_flip r Effect.Made units q before now = go (is_place q (place_of r)) now where
  go : (test : Bool) → is_release (cond test None (units.doubt q)) ≡ true → Released r Effect.Made q
  go true h = cc
  go false h = absurd (contrary (is_release (units.doubt q)) h before)
doubt_flip r Effect.Doubted units q before now = go (is_place q (place_of r)) refl now where
  go : (test : Bool) → is_place q (place_of r) ≡ test → is_release (cond test (record_of r) (units.doubt q)) ≡ true → Released r Effect.Doubted q
  go true e h = (is_release_of r h ∙ ap Request.Release (sym (is_place_gives q (place_of r) e)), refl)
  go false e h = absurd (contrary (is_release (units.doubt q)) h before)
doubt_flip r Effect.Wrote units q before now = absurd (contrary (is_release (units.doubt q)) (ap is_release (sym (written_doubt (place_of r) (record_of r) (started (place_of r) units) q)) ∙ now) before)

-- a settled unit
settled_flip : (p : Place) (item : Option UnitRecord) (units : Units) (q : Place) → units.is_released q ≡ false → (with_written p item (settled_at p units)).is_released q ≡ true
    → (q ≡ p) × (is_release item ≡ true)
settled_flip p None units q before now = absurd (contrary (units.is_released q) now before)
settled_flip p (Some UnitRecord.Release) units q before now = (turns p q units.is_released before now, refl)
settled_flip p (Some item) units q before now = absurd (contrary (units.is_released q) now before)

settled_no_doubt : (p : Place) (units : Units) (q : Place) (A : Type 0) → is_release (units.doubt q) ≡ false → is_release ((settled_at p units).doubt q) ≡ true → A
settled_no_doubt p units q A before now = go (is_place q p) now where
  go : (test : Bool) → is_release (cond test None (units.doubt q)) ≡ true → A
  go true h = cc
  go false h = absurd (contrary (is_release (units.doubt q)) h before)

is_release_gives : (d : Option UnitRecord) → is_release d ≡ true → d ≡ Some UnitRecord.Release
is_release_gives None h = cc
is_release_gives (Some UnitRecord.Release) h = refl
is_release_gives (Some item) h = cc

settle_safe : (shape : VolumeShape) (s t : State) (p q : Place) (found : Bool) → Kept shape s → SettlesUnit p s found t → s.broken p.disk ≡ false → IsGivenUp s.units t.units q → IsSafeRelease s q
settle_safe shape s t p q true k h unbroken (inl x) =
    let now = ap (λ (u : State). u.units.is_released q) (sym h.2) ∙ x.1 in
    let r = settled_flip p (s.units.doubt p) s.units q x.0 now in
    let e = is_release_gives (s.units.doubt p) r.1 in
    subst (IsSafeRelease s) (sym r.0) (safe shape s p k (doubt_made shape s p UnitRecord.Release k e) (doubt_unreleased shape s p UnitRecord.Release k e) unbroken (k.authority.releases.doubtful_release_below p e))
settle_safe shape s t p q true k h unbroken (inr x) =
    settled_no_doubt p s.units q (IsSafeRelease s q) x.0
    (ap is_release (sym (written_doubt p (s.units.doubt p) (settled_at p s.units) q)) ∙ ap (λ (u : State). is_release (u.units.doubt q)) (sym h.2) ∙ x.1)
settle_safe shape s t p q false k h unbroken (inl x) = absurd (contrary (s.units.is_released q) (ap (λ (u : State). u.units.is_released q) (sym h.1) ∙ x.1) x.0)
settle_safe shape s t p q false k h unbroken (inr x) = settled_no_doubt p s.units q (IsSafeRelease s q) x.0 (ap (λ (u : State). is_release (u.units.doubt q)) (sym h.1) ∙ x.1)

handle_safe : (shape : VolumeShape) (s t : State) (q : Place) (r : Request) (a : Answer) (e : Effect) → Kept shape s → Handles s r a e t → IsGivenUp s.units t.units q → IsSafeRelease s q
handle_safe shape s t q r a e k h x = go (given_up x) where
  given_up : IsGivenUp s.units t.units q → Released r e q
  given_up (inl y) = released_flip r e s.units q y.0 (ap (λ (u : State). u.units.is_released q) (sym h.2) ∙ y.1)
  given_up (inr y) = doubt_flip r e s.units q y.0 (ap (λ (u : State). is_release (u.units.doubt q)) (sym h.2) ∙ y.1)

  go : Released r e q → IsSafeRelease s q
  go y = release_handled_safe shape s t q a e k (subst (λ request. Handles s request a e t) y.0 h) y.1

-- what is safe over the same ground
safe_before : (s t : State) (p : Place) → IsSameGround s t → IsSafeRelease t p → IsSafeRelease s p
safe_before s t p g x = record {
  swapped = ap is_swapped (sym g.lock) ∙ x.swapped;
  old = ap (λ lock. is_old (transfers_of lock) p) (sym g.lock) ∙ x.old;
  above = subst (λ homes. p.epoch < (home_at homes p.index).epoch) g.homes x.above;
  holds = λ b held. ap (λ row. is_live (row (current s.manager.homes p.index) b)) (sym g.units.row) ∙ ap (λ homes. is_live (t.units.row (current homes p.index) b)) (sym g.homes)
      ∙ x.holds b (subst (λ asked. IsHeld t.puts.status asked b) (sym g.asked) (subst (λ status. IsHeld status s.manager.asked b) (sym g.status) held));
}

given_up_within : (s t u v : State) (p : Place) → IsUnmoved s t → IsUnmoved u v → IsGivenUp s.units v.units p → IsGivenUp t.units u.units p
given_up_within s t u v p before after (inl x) = inl (ap (λ released. released p) before.is_released ∙ x.0, ap (λ released. released p) (sym after.is_released) ∙ x.1)
given_up_within s t u v p before after (inr x) = inr (ap (λ doubt. is_release (doubt p)) before.doubt ∙ x.0, ap (λ doubt. is_release (doubt p)) (sym after.doubt) ∙ x.1)

none_given_up : (s t : State) (p : Place) (A : Type 0) → IsUnmoved s t → IsGivenUp s.units t.units p → A
none_given_up s t p A same (inl x) = absurd (contrary (s.units.is_released p) (ap (λ released. released p) (sym same.is_released) ∙ x.1) x.0)
none_given_up s t p A same (inr x) = absurd (contrary (is_release (s.units.doubt p)) (ap (λ doubt. is_release (doubt p)) (sym same.doubt) ∙ x.1) x.0)

entry_safe : (shape : VolumeShape) (w v : World) (step : Step) (p : Place) → IsVolumeShape shape → Kept shape w.state → Leads shape w step v → IsGivenUp w.state.units v.state.units p → IsSafeRelease w.state p
entry_safe shape w v step p good k h x = go (entry_touches shape w step v good k h) where
  go : Touches shape w.state v.state → IsSafeRelease w.state p
  go (inl same) = none_given_up w.state v.state p (IsSafeRelease w.state p) same x
  go (inr touch) = safe_before w.state touch.first p touch.ground (elim touch.touch [
    | inl y ↦ handle_safe shape touch.first touch.last p y.0 y.1 y.2 touch.kept y.3 (given_up_within w.state touch.first touch.last v.state p touch.ground.units touch.rest x)
    | inr y ↦ settle_safe shape touch.first touch.last y.0 p y.1 touch.kept y.2 y.3 (given_up_within w.state touch.first touch.last v.state p touch.ground.units touch.rest x)
  ])

pub releases_safe : ReleasesAreSafe
releases_safe = record {
  entries = entry_safe;
  handled = release_handled_safe;
  found = λ shape s t p k h e unbroken. safe shape s p k (doubt_made shape s p UnitRecord.Release k e) (doubt_unreleased shape s p UnitRecord.Release k e) unbroken (k.authority.releases.doubtful_release_below p e);
}
