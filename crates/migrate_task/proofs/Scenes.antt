-- What doesn't change from a task's lock to its swap, and what each request leaves of it.
use Rattle.std.proofs.Common.{◌≡◌, ℕ, ◌<◌, ◌≤◌, inl, inr, Bool, true, false, cond, not, ◌&&◌, ◌==◌, List, [], Option, Some, None, refl, sym, ◌∙◌, ap, subst, arith}
use Rattle.std.specs.Prelude.{length}
use Rattle.std.proofs.lemmas.Bool.{cases_lt}
use Rattle.unit_id.specs.Lists.{IsIn, count_below}
use Rattle.unit_id.specs.Place.{Location, Place, at_home, is_place}
use Rattle.unit_id.specs.Request.{Request, Answer, place_of}
use Rattle.unit_id.specs.declared.task.Task.{Task}
use Rattle.unit_id.proofs.Bools.{contrary, not_so}
use Rattle.unit_id.proofs.Places.{is_place_gives}
use Rattle.code_mode.specs.declared.stripe.TheConstants.{BLOB_LIMIT}
use Rattle.blob_node.specs.Units.{RowState, Units, after_shard, after_mark, after_free}
use Rattle.blob_node.specs.UnitAnswer.{Effect, IsStale, view_at, units_after}
use Rattle.volume_entry.specs.Manager.{Transfer, Lock, Manager, IsBid, home_at, current, transfers_of, is_swapped}
use Rattle.volume_entry.specs.ManagerStep.{hear}
use Rattle.volume_world.specs.BlobStatus.{is_begun}
use Rattle.volume_world.specs.State.{Puts}
use Rattle.volume_world.specs.Move.{puts_hear}
use Rattle.volume_world.specs.Run.{World}
use Rattle.volume_world.specs.Invariant.{Kept}
use Rattle.volume_world.specs.Way.{Origin, shape_of}
use Rattle.volume_world.proofs.Transfers.{destination_gives}
use Rattle.migrate_task.proofs.HeardSends.{Sent}

-- The lock, the current units with the disks that are broken, the puts, and the rows of the current units.
pub record Scene : Type 0 where
  pub origin : Origin
  pub task : Task
  pub lock : Lock
  pub homes : List Location
  pub broken : ℕ → Bool
  pub puts : Puts
  pub row : ℕ → ℕ → Option RowState

abbrev pub total_of : Scene → ℕ
total_of s = (shape_of s.origin).total

abbrev pub dest_of : Transfer → Place
dest_of t = at_home t.index t.dest

-- a blob that was begun has a number and a size that blobs have
pub record IsBlob (puts : Puts) (bid : ℕ) : Type 0 where
  pub number : IsBid bid
  pub some : 1 ≤ length (puts.payload bid)
  pub most : length (puts.payload bid) ≤ BLOB_LIMIT

pub record Ground (s : Scene) : Type 0 where
  pub own : s.lock.task ≡ s.task.id
  pub unswapped : s.lock.is_swapped ≡ false
  pub good : (t : Transfer) → IsIn t s.lock.transfers → s.broken t.dest.disk ≡ false
  pub below : (t : Transfer) → IsIn t s.lock.transfers → t.index < total_of s
  pub one : (t u : Transfer) → IsIn t s.lock.transfers → IsIn u s.lock.transfers → t.index ≡ u.index → t ≡ u
  pub olds : (t : Transfer) → IsIn t s.lock.transfers → home_at s.homes t.index ≡ t.old
  pub above : (t : Transfer) → IsIn t s.lock.transfers → (home_at s.homes t.index).epoch < t.dest.epoch
  pub count : length s.homes ≡ total_of s
  pub enough : (shape_of s.origin).sight ≤ count_below (total_of s) (λ i. not (s.broken (home_at s.homes i).disk))
  pub blobs : (bid : ℕ) → is_begun (s.puts.status bid) ≡ true → IsBlob s.puts bid

pub record Standing (s : Scene) (w : World) : Type 0 where
  pub kept : Kept (shape_of s.origin) w.state
  pub held : w.state.manager.lock ≡ Some s.lock
  pub homes_are : w.state.manager.homes ≡ s.homes
  pub unshut : w.state.manager.is_shut ≡ false
  pub unplanned : w.planned ≡ []
  pub broken_are : w.state.broken ≡ s.broken
  pub puts_are : w.state.puts ≡ s.puts
  pub made : (i : ℕ) → i < total_of s → s.broken (home_at s.homes i).disk ≡ false → w.state.units.is_made (current s.homes i) ≡ true
  pub rows : (i : ℕ) → i < total_of s → (bid : ℕ) → w.state.units.row (current s.homes i) bid ≡ s.row i bid

pub held_transfers : (s : Scene) (w : World) → Standing s w → transfers_of w.state.manager.lock ≡ s.lock.transfers
held_transfers s w h = ap transfers_of h.held

pub in_held : (s : Scene) (w : World) (t : Transfer) → Standing s w → IsIn t s.lock.transfers → IsIn t (transfers_of w.state.manager.lock)
in_held s w t h i = subst (IsIn t) (sym (held_transfers s w h)) i

pub from_held : (s : Scene) (w : World) (t : Transfer) → Standing s w → IsIn t (transfers_of w.state.manager.lock) → IsIn t s.lock.transfers
from_held s w t h i = subst (IsIn t) (held_transfers s w h) i

pub open_held : (s : Scene) (w : World) → Ground s → Standing s w → is_swapped w.state.manager.lock ≡ false
open_held s w g h = ap is_swapped h.held ∙ g.unswapped

-- ---- what a request leaves

-- what is heard changes neither the lock nor the homes nor the log
pub record KeepsLock (m n : Manager) : Type 0 where
  pub lock : n.lock ≡ m.lock
  pub homes : n.homes ≡ m.homes
  pub shut : n.is_shut ≡ m.is_shut

pub hear_keeps : (r : Request) (a : Answer) (m : Manager) → KeepsLock m (hear r a m)
hear_keeps (Request.List place number) (Answer.Listing said shown) m = record { lock = refl; homes = refl; shut = refl }
hear_keeps (Request.Copy place bid) Answer.Done m = record { lock = refl; homes = refl; shut = refl }
hear_keeps (Request.Copy place bid) Answer.Already m = record { lock = refl; homes = refl; shut = refl }
hear_keeps (Request.Copy place bid) Answer.Deleted m = record { lock = refl; homes = refl; shut = refl }
hear_keeps (Request.Mark place bid) Answer.Done m = record { lock = refl; homes = refl; shut = refl }
hear_keeps (Request.Mark place bid) Answer.Already m = record { lock = refl; homes = refl; shut = refl }
hear_keeps (Request.Fence place number) Answer.Done m = record { lock = refl; homes = refl; shut = refl }
hear_keeps (Request.Release place) Answer.Done m = record { lock = refl; homes = refl; shut = refl }
hear_keeps (Request.Release place) (Answer.Stale have) m = record { lock = refl; homes = refl; shut = refl }
hear_keeps r a m = record { lock = refl; homes = refl; shut = refl }

pub made_stays : (r : Request) (e : Effect) (u : Units) (q : Place) → u.is_made q ≡ true → (units_after (place_of r) r e u).is_made q ≡ true
made_stays r Effect.Nothing u q h = h
made_stays r Effect.Made u q h = go (is_place q (place_of r)) where
  go : (test : Bool) → cond test true (u.is_made q) ≡ true
  go true = refl
  go false = h
made_stays r Effect.Started u q h = h
made_stays (Request.Create place) Effect.Wrote u q h = h
made_stays (Request.Fence place lock) Effect.Wrote u q h = h
made_stays (Request.Put place bid) Effect.Wrote u q h = h
made_stays (Request.Read place bid) Effect.Wrote u q h = h
made_stays (Request.List place lock) Effect.Wrote u q h = h
made_stays (Request.Copy place bid) Effect.Wrote u q h = h
made_stays (Request.Mark place bid) Effect.Wrote u q h = h
made_stays (Request.Free place bid) Effect.Wrote u q h = h
made_stays (Request.Release place) Effect.Wrote u q h = h
made_stays r Effect.Doubted u q h = h

-- rows of other places stay
row_apart : (r : Request) (e : Effect) (u : Units) (q : Place) (bid : ℕ) → is_place q (place_of r) ≡ false → (units_after (place_of r) r e u).row q bid ≡ u.row q bid
row_apart r Effect.Nothing u q bid h = refl
row_apart r Effect.Made u q bid h = ap (λ t. (cond t (λ b. None) (u.row q)) bid) h
row_apart r Effect.Started u q bid h = refl
row_apart (Request.Create place) Effect.Wrote u q bid h = refl
row_apart (Request.Fence place lock) Effect.Wrote u q bid h = refl
row_apart (Request.Put place b) Effect.Wrote u q bid h = ap (λ t. cond (t && (bid == b)) (after_shard (u.row place b)) (u.row q bid)) h
row_apart (Request.Read place b) Effect.Wrote u q bid h = refl
row_apart (Request.List place lock) Effect.Wrote u q bid h = refl
row_apart (Request.Copy place b) Effect.Wrote u q bid h = ap (λ t. cond (t && (bid == b)) (after_shard (u.row place b)) (u.row q bid)) h
row_apart (Request.Mark place b) Effect.Wrote u q bid h = ap (λ t. cond (t && (bid == b)) (after_mark (u.row place b)) (u.row q bid)) h
row_apart (Request.Free place b) Effect.Wrote u q bid h = ap (λ t. cond (t && (bid == b)) (after_free (u.row place b)) (u.row q bid)) h
row_apart (Request.Release place) Effect.Wrote u q bid h = ap (λ t. (cond t (λ b. None) (u.row q)) bid) h
row_apart r Effect.Doubted u q bid h = refl

-- the rows of current units stay, behind this request with this effect
abbrev pub Spares : Scene → World → Request → Effect → Type 0
Spares s w r e = (i : ℕ) → i < total_of s → (bid : ℕ) → (units_after (place_of r) r e w.state.units).row (current s.homes i) bid ≡ w.state.units.row (current s.homes i) bid

-- no current unit is a destination
apart : (s : Scene) (t : Transfer) (i : ℕ) → Ground s → IsIn t s.lock.transfers → is_place (current s.homes i) (dest_of t) ≡ false
apart s t i g there = not_so (is_place (current s.homes i) (dest_of t)) (λ same.
    let e = is_place_gives (current s.homes i) (dest_of t) same in
    let index = ap (λ (p : Place). p.index) e in
    let epoch = ap (λ (p : Place). p.epoch) e in
    let moved = ap (λ n. (home_at s.homes n).epoch) index in
    let higher = g.above t there in
    omega (arith, epoch, moved, higher))

pub spares_at_dest : (s : Scene) (w : World) (t : Transfer) (r : Request) (e : Effect) → Ground s → IsIn t s.lock.transfers → place_of r ≡ dest_of t → Spares s w r e
spares_at_dest s w t r e g there at i below bid = row_apart r e w.state.units (current s.homes i) bid (ap (is_place (current s.homes i)) at ∙ apart s t i g there)

pub stands_on : (s : Scene) (w u : World) (r : Request) (a : Answer) (e : Effect) → Standing s w → Kept (shape_of s.origin) u.state → Sent w u r a e → ((puts : Puts) → puts_hear r a puts ≡ puts) → Spares s w r e → Standing s u
stands_on s w u r a e h kept sent quiet spares =
    let same = hear_keeps r a w.state.manager in
    record {
      kept = kept;
      held = ap (λ (m : Manager). m.lock) sent.manager ∙ same.lock ∙ h.held;
      homes_are = ap (λ (m : Manager). m.homes) sent.manager ∙ same.homes ∙ h.homes_are;
      unshut = ap (λ (m : Manager). m.is_shut) sent.manager ∙ same.shut ∙ h.unshut;
      unplanned = sent.planned;
      broken_are = sent.broken ∙ h.broken_are;
      puts_are = sent.puts ∙ quiet w.state.puts ∙ h.puts_are;
      made = λ i below unbroken.
          ap (λ (x : Units). x.is_made (current s.homes i)) sent.units ∙ made_stays r e w.state.units (current s.homes i) (h.made i below unbroken);
      rows = λ i below bid. ap (λ (x : Units). x.row (current s.homes i) bid) sent.units ∙ spares i below bid ∙ h.rows i below bid;
    }

-- ---- units that are neither broken nor stale

pub record IsFresh (w : World) (p : Place) : Type 0 where
  pub unbroken : w.state.broken p.disk ≡ false
  pub unreleased : w.state.units.is_released p ≡ false
  pub newest : (epoch : ℕ) → w.state.units.is_made (record { index = p.index; epoch = epoch; disk = p.disk }) ≡ true → epoch ≤ p.epoch

pub never_stale : (w : World) (p : Place) (have : ℕ) → IsFresh w p → IsStale (view_at w.state.broken w.state.units p) have → ⊥
never_stale w p have f stale = elim stale.outlived [
  | inl released ↦ contrary (w.state.units.is_released p) released f.unreleased
  | inr later ↦ let most = f.newest have stale.made in omega (arith, most, later)
]

-- a unit that isn't below the current one isn't released
unreleased : (s : Scene) (w : World) (p : Place) → Standing s w → (home_at s.homes p.index).epoch ≤ p.epoch → w.state.units.is_released p ≡ false
unreleased s w p h high = not_so (w.state.units.is_released p) (λ released.
    let below = h.kept.authority.releases.released_below p released in
    let same = ap (λ (hs : List Location). (home_at hs p.index).epoch) h.homes_are in
    omega (arith, below, same, high))

-- a unit above the current one, on an unbroken disk, is the destination of its index
above_is_dest : (s : Scene) (w : World) (p : Place) → Standing s w → w.state.units.is_made p ≡ true → s.broken p.disk ≡ false → (home_at s.homes p.index).epoch < p.epoch
    → (t : Transfer) × IsIn t s.lock.transfers × (t.index ≡ p.index) × (t.dest.epoch ≡ p.epoch)
above_is_dest s w p h made unbroken higher =
    elim (h.kept.placement.above_current p made (subst (λ (hs : List Location). (home_at hs p.index).epoch < p.epoch) (sym h.homes_are) higher)) [
      | inl is_broken ↦ absurd (contrary (w.state.broken p.disk) is_broken (ap (λ (b : ℕ → Bool). b p.disk) h.broken_are ∙ unbroken))
      | inr dest ↦ let found = destination_gives (transfers_of w.state.manager.lock) p dest in (found.0, from_held s w found.0 h found.1, found.2, found.3)
    ]

pub dest_fresh : (s : Scene) (w : World) (t : Transfer) → Ground s → Standing s w → IsIn t s.lock.transfers → IsFresh w (dest_of t)
dest_fresh s w t g h i =
    let higher = g.above t i in
    record {
      unbroken = ap (λ (b : ℕ → Bool). b t.dest.disk) h.broken_are ∙ g.good t i;
      unreleased = unreleased s w (dest_of t) h (omega (arith, higher));
      newest = λ epoch made. within epoch made;
    }
  where
    within : (epoch : ℕ) → w.state.units.is_made (record { index = t.index; epoch = epoch; disk = t.dest.disk }) ≡ true → epoch ≤ t.dest.epoch
    within epoch made = elim (cases_lt t.dest.epoch epoch) [
      | inl more ↦
          let higher = g.above t i in
          let found = above_is_dest s w (record { index = t.index; epoch = epoch; disk = t.dest.disk }) h made (g.good t i) (omega (arith, more, higher)) in
          let same = ap (λ (x : Transfer). x.dest.epoch) (g.one found.0 t found.1 i found.2) in
          let is = found.3 in
          absurd (omega (arith, more, same, is))
      | inr less ↦ less
    ]

pub current_fresh : (s : Scene) (w : World) (i : ℕ) → Ground s → Standing s w → i < total_of s → s.broken (home_at s.homes i).disk ≡ false → IsFresh w (current s.homes i)
current_fresh s w i g h below unbroken = record {
  unbroken = ap (λ (b : ℕ → Bool). b (home_at s.homes i).disk) h.broken_are ∙ unbroken;
  unreleased = unreleased s w (current s.homes i) h (omega arith);
  newest = λ epoch made. within epoch made;
}
  where
    within : (epoch : ℕ) → w.state.units.is_made (record { index = i; epoch = epoch; disk = (home_at s.homes i).disk }) ≡ true → epoch ≤ (home_at s.homes i).epoch
    within epoch made = elim (cases_lt (home_at s.homes i).epoch epoch) [
      | inl more ↦
          let p : Place = record { index = i; epoch = epoch; disk = (home_at s.homes i).disk } in
          let found = above_is_dest s w p h made unbroken more in
          let held = in_held s w found.0 h found.1 in
          let disk = h.kept.placement.destination_at_home p found.0 made held (sym found.2) (sym found.3) in
          absurd (h.kept.placement.destinations_free (open_held s w g h) found.0 held i below (ap (λ (hs : List Location). (home_at hs i).disk) h.homes_are ∙ disk))
      | inr less ↦ less
    ]
