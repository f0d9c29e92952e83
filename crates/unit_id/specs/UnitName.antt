-- The name of a unit of a volume, and the word that stands for it on disks.
use Rattle.std.specs.Prelude.{ℕ, ◌≡◌, ◌+◌, ◌*◌, ◌^◌, ◌<◌, ◌≤◌}

-- volume, index in the volume, and epoch: moving a unit raises the epoch
pub record Name : Type 0 where
  pub vid : ℕ
  pub index : ℕ
  pub epoch : ℕ

-- the numbers that may stand in a name
pub record IsName (name : Name) : Type 0 where
  pub vid : name.vid < 2 ^ 32
  pub index : name.index < 2 ^ 8
  pub first : 1 ≤ name.epoch
  pub last : name.epoch < 2 ^ 24

-- the word of a name
abbrev pub packed : Name → ℕ
packed name = name.vid * 2 ^ 32 + name.index * 2 ^ 24 + name.epoch

-- a word that is some name's packed word is that of one name only
abbrev pub IsOneToOne : Type 0
IsOneToOne = (one other : Name) → IsName one → IsName other → packed one ≡ packed other → one ≡ other
