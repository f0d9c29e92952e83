-- The fates that are planned for the messages to each disk.
use Rattle.std.specs.Prelude.{ℕ, ◌≤◌, ◌-◌, List, [], ◌∷◌, length, get_or, slice_set}
use Rattle.blob_node.specs.declared.fate.Fate.{Fate}
use Rattle.blob_node.specs.declared.fate.Fate.TheVariants.{Pass}

-- for each disk from 1 on its planned fates, the next one first
abbrev pub Planned : Type 0
Planned = List (List Fate)

-- the disks are numbered from 1
abbrev pub IsDiskOf : Planned → ℕ → Type 0
IsDiskOf planned disk = (1 ≤ disk) × (disk ≤ length planned)

-- what is planned for a disk
abbrev pub fates_of : Planned → ℕ → List Fate
fates_of planned disk = get_or planned (disk - 1) []

-- the same with these fates for one disk
abbrev pub with_fates : Planned → ℕ → List Fate → Planned
with_fates planned disk fates = slice_set planned (disk - 1) fates

-- the next fate: without a plan a message passes
abbrev pub next_of : List Fate → Fate
next_of [] = Pass
next_of (fate ∷ fates) = fate
