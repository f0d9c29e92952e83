-- How a file in memory remembers what it held: each change keeps the bytes that it replaced.
use Rattle.std.specs.Prelude.{ℕ, ◌+◌, ◌-◌, min, List, [], ◌∷◌, ◌++◌, length, take, drop, reverse}
use Rattle.disk_base.specs.declared.mem_file.Change.{Change}
use Rattle.disk_base.specs.declared.mem_file.Change.TheVariants.{Write, Sync}
use Rattle.disk_base.specs.Images.{Range, Epoch}

-- the ranges that were written up to the last sync; the latest change comes first
abbrev pub written_in : List Change → List Range
written_in (Write at count end ∷ older) = record { at = at; count = count } ∷ written_in older
written_in _ = []

-- the epoch in which these changes are the latest
abbrev pub epoch_of : List ℕ → ℕ → List Change → Epoch
epoch_of bytes settled_end changes = record { bytes = bytes; settled_end = settled_end; written = written_in (reverse changes) }

-- the bytes from before a write at this place: those that it replaced stand there again, and the end is as it was
abbrev pub undone : ℕ → ℕ → List ℕ → List ℕ → List ℕ
undone at end replaced bytes = take at bytes ++ (replaced ++ drop (at + length replaced) (take end bytes))

-- the epochs that a sync ended, the latest first, where these changes led to these bytes
abbrev pub past_of : List Change → List ℕ → List ℕ → List Epoch
past_of [] replaced bytes = []
past_of (Sync end ∷ older) replaced bytes = record { bytes = bytes; settled_end = end; written = written_in older } ∷ past_of older replaced bytes
past_of (Write at count end ∷ older) replaced bytes =
    let before = length replaced - min count (end - at) in
    past_of older (take before replaced) (undone at end (drop before replaced) bytes)
