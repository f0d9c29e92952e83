-- What memory keeps of a volume: all that the records of its log say.
use Rattle.std.specs.Prelude.{ℕ, ◌^◌, ◌<◌, List}
use Rattle.volume_entry.specs.Manager.{Transfer}
use Rattle.volume_entry.specs.Spelling.{HomeFits}

-- blobs, the latest first, and for how many more there is room
pub record KeptBids : Type 0 where
  pub bids : List ℕ
  pub spare : ℕ

-- numbers that fit the types that hold them
pub record TransferFits (t : Transfer) : Type 0 where
  pub index : t.index < 2 ^ 8
  pub old : HomeFits t.old
  pub dest : HomeFits t.dest
