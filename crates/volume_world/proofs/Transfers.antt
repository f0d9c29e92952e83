-- Transfers of a lock, by the units that they name.
use Rattle.std.proofs.Common.{◌≡◌, true, List, Option, Some, None, refl}
use Rattle.std.specs.Prelude.{◌&&◌, ◌==◌, is_some}
use Rattle.std.proofs.lemmas.Bool.{eqb-true}
use Rattle.unit_id.specs.Lists.{IsIn}
use Rattle.unit_id.specs.Place.{Place}
use Rattle.volume_entry.specs.Manager.{Transfer, Lock, is_destination, is_old}
use Rattle.volume_world.specs.State.{State}
use Rattle.unit_id.proofs.Bools.{and_left, and_right, and_both, equal_test}
use Rattle.unit_id.proofs.Membership.{any_gives, gives_any}

-- the transfer that makes a unit a destination
pub destination_gives : (ts : List Transfer) (p : Place) → is_destination ts p ≡ true → (t : Transfer) × IsIn t ts × (t.index ≡ p.index) × (t.dest.epoch ≡ p.epoch)
destination_gives ts p h =
    let found = any_gives (λ t. (t.index == p.index) && (t.dest.epoch == p.epoch)) ts h in (
      found.0,
      found.1,
      eqb-true found.0.index p.index (and_left (found.0.index == p.index) (found.0.dest.epoch == p.epoch) found.2),
      eqb-true found.0.dest.epoch p.epoch (and_right (found.0.index == p.index) (found.0.dest.epoch == p.epoch) found.2),
    )

pub gives_old : (ts : List Transfer) (p : Place) (t : Transfer) → IsIn t ts → t.index ≡ p.index → t.old.epoch ≡ p.epoch → is_old ts p ≡ true
gives_old ts p t i e f = gives_any (λ u. (u.index == p.index) && (u.old.epoch == p.epoch)) ts t i
    (and_both (t.index == p.index) (t.old.epoch == p.epoch) (equal_test t.index p.index e) (equal_test t.old.epoch p.epoch f))

-- the state with this lock
abbrev pub with_lock : State → Lock → State
with_lock s l = record s { manager = record (s.manager) { lock = Some l } }

pub lock_there : (lock : Option Lock) → is_some lock ≡ true → (l : Lock) × (lock ≡ Some l)
lock_there None h = cc
lock_there (Some l) h = (l, refl)
