-- What the manager's part tells of a request is whether it may be sent.
use Rattle.std.proofs.Common.{◌≡◌, refl, sym, ap, ℕ, ◌⊎◌, inl, inr, Bool, true, false, not, ◌&&◌, ◌||◌, nat_lt, nat_le}
use Rattle.std.proofs.lemmas.Bool.{ltb-true, leb-true, lt-ltb, le-leb, and_parts, and_from, or_cases, or_left, or_right}
use Rattle.unit_id.specs.Lists.{is_in}
use Rattle.unit_id.specs.Place.{Place}
use Rattle.unit_id.specs.Request.{Request}
use Rattle.unit_id.specs.Messages.{request_of}
use Rattle.unit_id.specs.declared.request.Request as sent
use Rattle.disk_base.specs.Disk.{FileView}
use Rattle.disk_base.specs.Shelves.{ShelfView}
use Rattle.volume_entry.specs.TableParts.{shape_of}
use Rattle.volume_world.specs.Run.{World}
use Rattle.volume_world.specs.World.{WorldOver, Stands}
use Rattle.volume_entry.specs.Manager.{Manager, home_at, transfers_of, is_swapped, has_number, is_destination, is_destination_there, is_old, is_current}
use Rattle.volume_entry.specs.Sending.{is_reached, is_sendable}
use Rattle.volume_world.specs.BlobStatus.{is_begun}
use Rattle.volume_world.specs.Move.{IsReached, IsSendable}
use Rattle.volume_world.specs.Sending.{bid_of, TellsSendable}
use Rattle.volume_world.specs.State.{Status}

unset : (b : Bool) → not b ≡ true → b ≡ false
unset true e = sym e
unset false e = refl

to_reached : (total : ℕ) (m : Manager) (place : Place) → is_reached total m place ≡ true → IsReached total m place
to_reached total m place e = elim (or_cases (nat_lt place.index total && is_current m.homes place) (is_destination (transfers_of m.lock) place) e) [
  | inl here ↦ let both = and_parts (nat_lt place.index total) (is_current m.homes place) here in inl (ltb-true place.index total both.0, both.1)
  | inr there ↦ inr there
]

from_reached : (total : ℕ) (m : Manager) (place : Place) → IsReached total m place → is_reached total m place ≡ true
from_reached total m place h = elim h [
  | inl here ↦ or_left (nat_lt place.index total && is_current m.homes place) (is_destination (transfers_of m.lock) place)
      (and_from (nat_lt place.index total) (is_current m.homes place) (lt-ltb place.index total here.0) here.1)
  | inr there ↦ or_right (nat_lt place.index total && is_current m.homes place) (is_destination (transfers_of m.lock) place) there
]

module _ (total : ℕ) (status : ℕ → Status) (m : Manager) where
  pub to_sendable : (r : Request) → is_sendable total (is_begun (status (bid_of r))) m r ≡ true → IsSendable total status m r
  to_sendable (Request.Create place) e =
      let both = and_parts (is_destination_there (transfers_of m.lock) place) (not (is_swapped m.lock)) e in (both.0, unset (is_swapped m.lock) both.1)
  to_sendable (Request.Fence place number) e = and_parts (is_old (transfers_of m.lock) place) (has_number m.lock number) e
  to_sendable (Request.Put place bid) e =
      let both = and_parts (is_begun (status bid)) (nat_lt place.index total && nat_le place.epoch (home_at m.homes place.index).epoch) e in
      let low = and_parts (nat_lt place.index total) (nat_le place.epoch (home_at m.homes place.index).epoch) both.1 in
      (both.0, ltb-true place.index total low.0, leb-true place.epoch (home_at m.homes place.index).epoch low.1)
  to_sendable (Request.Read place bid) e = tt
  to_sendable (Request.List place number) e = e
  to_sendable (Request.Copy place bid) e =
      let both = and_parts (is_begun (status bid)) (is_reached total m place) e in (both.0, to_reached total m place both.1)
  to_sendable (Request.Mark place bid) e =
      let both = and_parts (is_in bid m.asked) (is_reached total m place) e in (both.0, to_reached total m place both.1)
  to_sendable (Request.Free place bid) e =
      let both = and_parts (is_in bid m.committed) (is_reached total m place) e in (both.0, to_reached total m place both.1)
  to_sendable (Request.Release place) e =
      let both = and_parts (nat_lt place.index total) (nat_lt place.epoch (home_at m.homes place.index).epoch) e in
      (ltb-true place.index total both.0, ltb-true place.epoch (home_at m.homes place.index).epoch both.1)

  pub from_sendable : (r : Request) → IsSendable total status m r → is_sendable total (is_begun (status (bid_of r))) m r ≡ true
  from_sendable (Request.Create place) h = and_from (is_destination_there (transfers_of m.lock) place) (not (is_swapped m.lock)) h.0 (ap not h.1)
  from_sendable (Request.Fence place number) h = and_from (is_old (transfers_of m.lock) place) (has_number m.lock number) h.0 h.1
  from_sendable (Request.Put place bid) h =
      and_from (is_begun (status bid)) (nat_lt place.index total && nat_le place.epoch (home_at m.homes place.index).epoch) h.0
      (and_from (nat_lt place.index total) (nat_le place.epoch (home_at m.homes place.index).epoch)
      (lt-ltb place.index total h.1) (le-leb place.epoch (home_at m.homes place.index).epoch h.2))
  from_sendable (Request.Read place bid) h = refl
  from_sendable (Request.List place number) h = h
  from_sendable (Request.Copy place bid) h = and_from (is_begun (status bid)) (is_reached total m place) h.0 (from_reached total m place h.1)
  from_sendable (Request.Mark place bid) h = and_from (is_in bid m.asked) (is_reached total m place) h.0 (from_reached total m place h.1)
  from_sendable (Request.Free place bid) h = and_from (is_in bid m.committed) (is_reached total m place) h.0 (from_reached total m place h.1)
  from_sendable (Request.Release place) h =
      and_from (nat_lt place.index total) (nat_lt place.epoch (home_at m.homes place.index).epoch)
      (lt-ltb place.index total h.0) (lt-ltb place.epoch (home_at m.homes place.index).epoch h.1)

-- by equal parts
pub told_on : (total units : ℕ) (begun was : Bool) (m : Manager) (r : Request) → total ≡ units → begun ≡ was → is_sendable total begun m r ≡ is_sendable units was m r
told_on total units begun was m r p q = λ i. is_sendable (p i) (q i) m r

module _ {H F : Type 0} (shelf_seen : H → ShelfView F) (seen : F → FileView) where
  pub tells_sendable : (request : sent.Request) (world : WorldOver H F) (result : Bool)
      → ((w : World) → Stands shelf_seen seen world w
      → result ≡ is_sendable (shape_of world.shape).total (is_begun (w.state.puts.status (bid_of (request_of request)))) w.state.manager (request_of request))
      → TellsSendable shelf_seen seen request world result
  tells_sendable request world true told = λ w stands. to_sendable (shape_of world.shape).total w.state.puts.status w.state.manager (request_of request) (sym (told w stands))
  tells_sendable request world false told = λ w stands sendable.
      let is = from_sendable (shape_of world.shape).total w.state.puts.status w.state.manager (request_of request) sendable in
      let not_so = told w stands in
      cc
