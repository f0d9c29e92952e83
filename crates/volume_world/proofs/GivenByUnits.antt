-- What an answer of a unit owes when it is given, and the state in which it is.
use Rattle.std.proofs.Common.{◌≡◌, ℕ, ◌<◌, ◌⊎◌, inl, inr, Bool, true, false, List, ◌∷◌, Option, Some, None, refl, sym, ap, subst, cond, arith}
use Rattle.std.specs.Prelude.{not}
use Rattle.unit_id.specs.Lists.{IsIn}
use Rattle.unit_id.specs.Place.{Place, is_place}
use Rattle.code_mode.specs.VolumeShape.{VolumeShape}
use Rattle.unit_id.specs.Shown.{Shown}
use Rattle.unit_id.specs.Request.{Request, Answer, Given, place_of}
use Rattle.blob_node.specs.Units.{UnitRecord, Units, is_deleted, is_live, with_at}
use Rattle.blob_node.specs.UnitAnswer.{Effect, units_after, started}
use Rattle.volume_entry.specs.Manager.{Lock, home_at, current, is_current, transfers_of, is_swapped, is_destination}
use Rattle.volume_world.specs.State.{Status, State}
use Rattle.volume_world.specs.BlobStatus.{is_open}
use Rattle.volume_entry.specs.Benchmark.{shows_live, shows_marked}
use Rattle.volume_world.specs.Blind.{listing_given, lists_without}
use Rattle.volume_world.specs.Provenance.{IsBorneOut}
use Rattle.volume_world.specs.Leases.{accepts_put}
use Rattle.volume_world.specs.Support.{IsOutlived}
use Rattle.volume_world.specs.Invariant.{Kept}
use Rattle.unit_id.proofs.Bools.{contrary, equal_test}
use Rattle.unit_id.proofs.Places.{is_place_gives}
use Rattle.volume_entry.proofs.Locks.{unswapped}
use Rattle.volume_world.proofs.BeginEnd.{no_lock_while_open}
use Rattle.volume_world.proofs.Given.{MayBeGiven, MayBeInDoubt, stock_kept}

-- the state after a request was handled so
abbrev pub handled : State → Request → Answer → Effect → State
handled s r a e = record s { units = units_after (place_of r) r e s.units; post = record (s.post) { given = record { request = r; answer = a } ∷ s.post.given } }

abbrev pub pair : Request → Answer → Given
pair r a = record { request = r; answer = a }

-- answers of which no sentence speaks
abbrev pub is_inert : Answer → Bool
is_inert Answer.Done = false
is_inert Answer.Already = false
is_inert Answer.Deleted = false
is_inert (Answer.Stale have) = false
is_inert (Answer.Listing said shown) = false
is_inert answer = true

pub inert_borne_out : (status : ℕ → Status) (asked : List ℕ) (units : Units) (r : Request) (a : Answer) → is_inert a ≡ true → IsBorneOut status asked units r a
inert_borne_out status asked units (Request.List p n) (Answer.Listing said shown) h = cc
inert_borne_out status asked units (Request.Put p b) Answer.Done h = cc
inert_borne_out status asked units (Request.Put p b) Answer.Already h = cc
inert_borne_out status asked units (Request.Put p b) Answer.Deleted h = cc
inert_borne_out status asked units (Request.Copy p b) Answer.Done h = cc
inert_borne_out status asked units (Request.Copy p b) Answer.Already h = cc
inert_borne_out status asked units (Request.Copy p b) Answer.Deleted h = cc
inert_borne_out status asked units (Request.Mark p b) Answer.Done h = cc
inert_borne_out status asked units (Request.Mark p b) Answer.Already h = cc
inert_borne_out status asked units (Request.Fence p n) Answer.Done h = cc
inert_borne_out status asked units (Request.Release p) Answer.Done h = cc
inert_borne_out status asked units (Request.Release p) (Answer.Stale have) h = cc
inert_borne_out status asked units r a h = tt

pub inert_accepts : (bid : ℕ) (r : Request) (a : Answer) → is_inert a ≡ true → accepts_put bid r a ≡ true → ⊥
inert_accepts bid (Request.Put p b) Answer.Done h k = cc
inert_accepts bid (Request.Put p b) Answer.Already h k = cc
inert_accepts bid r a h k = cc

pub inert_hides : (lock : Option Lock) (place : Place) (r : Request) (a : Answer) → is_inert a ≡ true → listing_given lock place r a ≡ None
inert_hides lock place (Request.List p n) (Answer.Listing said shown) h = cc
inert_hides lock place r a h = refl

-- an answer that is no listing hides nothing
pub hides_nothing : (shown : Option Shown) (is_shown : Bool) (A : Type 0) → shown ≡ None → lists_without shown is_shown ≡ true → A
hides_nothing shown is_shown A e h = absurd (contrary (lists_without shown is_shown) h (ap (λ x. lists_without x is_shown) e))

pub inert_given : (shape : VolumeShape) (s : State) (r : Request) (a : Answer) → IsIn r s.post.issued → is_inert a ≡ true → MayBeGiven shape s (record { request = r; answer = a })
inert_given shape s r a issued h = record {
  issued = issued;
  borne_out = inert_borne_out s.puts.status s.manager.asked s.units r a h;
  taken = λ b o l k. absurd (inert_accepts b r a h k);
  live = λ i b below. let c = current s.manager.homes i in
      hides_nothing (listing_given s.manager.lock c r a) (shows_live (listing_given s.manager.lock c r a) b) (not (is_live (s.units.row c b)) ≡ true) (inert_hides s.manager.lock c r a h);
  marked = λ i b below. let c = current s.manager.homes i in
      hides_nothing (listing_given s.manager.lock c r a) (shows_marked (listing_given s.manager.lock c r a) b) (not (is_deleted (s.units.row c b)) ≡ true) (inert_hides s.manager.lock c r a h);
  stale = λ p have e. absurd (contrary (is_inert a) h (ap (λ (g : Given). is_inert g.answer) (sym e)));
}

pub started_kept : (shape : VolumeShape) (s : State) (place : Place) → Kept shape s → Kept shape (record s { units = started place s.units })
started_kept shape s place k = stock_kept shape s (with_at place false s.units.is_shut) s.units.doubt k (λ p item e. inl e)

pub doubted_kept : (shape : VolumeShape) (s : State) (place : Place) (item : UnitRecord) → Kept shape s → MayBeInDoubt s place item
    → Kept shape (record s { units = record (s.units) { is_shut = with_at place true s.units.is_shut; doubt = with_at place (Some item) s.units.doubt } })
doubted_kept shape s place item k may =
    stock_kept shape s (with_at place true s.units.is_shut) (with_at place (Some item) s.units.doubt) k (λ p other e. go p other (is_place p place) refl e) where
      go : (p : Place) (other : UnitRecord) (test : Bool) → is_place p place ≡ test → cond test (Some item) (s.units.doubt p) ≡ Some other → (s.units.doubt p ≡ Some other) ⊎ MayBeInDoubt s p other
      go p other true e h =
          let same_item : item ≡ other = cc in
          inr (subst (λ q. MayBeInDoubt s q other) (sym (is_place_gives p place e)) (subst (MayBeInDoubt s place) same_item may))
      go p other false e h = inl h

-- a unit that serves a request while a put is open is the current one
pub serving_current : (shape : VolumeShape) (s : State) (p : Place) (bid : ℕ) → Kept shape s → s.broken p.disk ≡ false → s.units.is_released p ≡ false → s.units.is_made p ≡ true
    → is_open (s.puts.status bid) ≡ true → s.time < s.puts.end bid → is_current s.manager.homes p ≡ true
serving_current shape s p bid k unbroken unreleased made is_op later =
    let unlocked = no_lock_while_open shape s bid k is_op later in
    equal_test (home_at s.manager.homes p.index).epoch p.epoch (same_epoch (not_below unlocked) (not_above unlocked)) where
      same_epoch : (p.epoch < (home_at s.manager.homes p.index).epoch → ⊥) → ((home_at s.manager.homes p.index).epoch < p.epoch → ⊥) → (home_at s.manager.homes p.index).epoch ≡ p.epoch
      same_epoch x y = omega arith

      not_below : s.manager.lock ≡ None → p.epoch < (home_at s.manager.homes p.index).epoch → ⊥
      not_below unlocked below = elim (k.fencing.below_is_given_up p made below) [
        | inl broken ↦ contrary (s.broken p.disk) broken unbroken
        | inr rest ↦ elim rest [
          | inl released ↦ contrary (s.units.is_released p) released unreleased
          | inr old ↦ contrary (is_swapped s.manager.lock) old.0 (unswapped s.manager.lock unlocked)
        ]
      ]

      not_above : s.manager.lock ≡ None → (home_at s.manager.homes p.index).epoch < p.epoch → ⊥
      not_above unlocked above = elim (k.placement.above_current p made above) [
        | inl broken ↦ contrary (s.broken p.disk) broken unbroken
        | inr dest ↦ contrary (is_destination (transfers_of s.manager.lock) p) dest (ap (λ l. is_destination (transfers_of l) p) unlocked)
      ]

-- an answer to a put or a copy, by a unit that serves it
pub shard_given : (shape : VolumeShape) (s : State) (p : Place) (b : ℕ) (r : Request) (a : Answer) → Kept shape s → IsIn r s.post.issued → IsBorneOut s.puts.status s.manager.asked s.units r a
    → s.broken p.disk ≡ false → s.units.is_released p ≡ false → s.units.is_made p ≡ true → place_of r ≡ p → ((c : Place) → listing_given s.manager.lock c r a ≡ None) → ((q : Place) → r ≡ Request.Release q → ⊥)
    → MayBeGiven shape s (record { request = r; answer = a })
shard_given shape s p b r a k issued borne unbroken unreleased made at lists release = record {
  issued = issued;
  borne_out = borne;
  taken = λ c o l e. subst (λ q. is_current s.manager.homes q ≡ true) (sym at) (serving_current shape s p c k unbroken unreleased made o l);
  live = λ i c below. hides_nothing (listing_given s.manager.lock (current s.manager.homes i) r a) (shows_live (listing_given s.manager.lock (current s.manager.homes i) r a) c)
      (not (is_live (s.units.row (current s.manager.homes i) c)) ≡ true) (lists (current s.manager.homes i));
  marked = λ i c below. hides_nothing (listing_given s.manager.lock (current s.manager.homes i) r a) (shows_marked (listing_given s.manager.lock (current s.manager.homes i) r a) c)
      (not (is_deleted (s.units.row (current s.manager.homes i) c)) ≡ true) (lists (current s.manager.homes i));
  stale = λ q have e. absurd (release q (ap (λ (g : Given). g.request) (sym e)));
}

-- an answer of which only its meaning is owed: it is no acceptance, no listing and no stale release
pub other_given : (shape : VolumeShape) (s : State) (r : Request) (a : Answer) → IsIn r s.post.issued → IsBorneOut s.puts.status s.manager.asked s.units r a
    → ((b : ℕ) → accepts_put b r a ≡ true → ⊥) → ((c : Place) → listing_given s.manager.lock c r a ≡ None) → ((p : Place) (have : ℕ) → pair (Request.Release p) (Answer.Stale have) ≡ pair r a → IsOutlived s.units.is_made s.units.is_released p)
    → MayBeGiven shape s (record { request = r; answer = a })
other_given shape s r a issued borne accepts lists stale = record {
  issued = issued;
  borne_out = borne;
  taken = λ c o l e. absurd (accepts c e);
  live = λ i c below. hides_nothing (listing_given s.manager.lock (current s.manager.homes i) r a) (shows_live (listing_given s.manager.lock (current s.manager.homes i) r a) c)
      (not (is_live (s.units.row (current s.manager.homes i) c)) ≡ true) (lists (current s.manager.homes i));
  marked = λ i c below. hides_nothing (listing_given s.manager.lock (current s.manager.homes i) r a) (shows_marked (listing_given s.manager.lock (current s.manager.homes i) r a) c)
      (not (is_deleted (s.units.row (current s.manager.homes i) c)) ≡ true) (lists (current s.manager.homes i));
  stale = stale;
}

-- what a started chunk leaves
abbrev pub after_start : State → Place → State
after_start s p = record s { units = started p s.units }
