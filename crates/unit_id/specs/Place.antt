-- Units of one volume by index and epoch, and the disks on which they stand.
use Rattle.std.specs.Prelude.{ℕ, ◌≡◌, Bool, ◌&&◌, ◌==◌}

-- a unit of some index: moving it raises the epoch
pub record Location : Type 0 where
  pub epoch : ℕ
  pub disk : ℕ

-- a unit at a disk
pub record Place : Type 0 where
  pub index : ℕ
  pub epoch : ℕ
  pub disk : ℕ

-- the unit of an index at its home
abbrev pub at_home : ℕ → Location → Place
at_home index home = record { index = index; epoch = home.epoch; disk = home.disk }

abbrev pub is_place : Place → Place → Bool
is_place p q = (p.index == q.index) && ((p.epoch == q.epoch) && (p.disk == q.disk))

-- two places of one unit
abbrev pub IsSameUnit : Place → Place → Type 0
IsSameUnit p q = (p.index ≡ q.index) × (p.epoch ≡ q.epoch)
