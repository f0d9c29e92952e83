-- Units of a table that are started one after the other, in the order of the words of their names.
use Rattle.std.specs.Prelude.{ℕ, ◌≡◌, ◌⊎◌, ◌++◌, ◌==◌, is_some, List, [], ◌∷◌, Option, Some, None, Result, Ok, Err, IsOk, IsErr}
use Rattle.std.specs.List.{list_any}
use Rattle.std.specs.List.Sorted.{IsStrictlyIncreasing}
use Rattle.disk_base.specs.Disk.{FileView}
use Rattle.chunk_store.specs.declared.fault.ChunkFault.{ChunkFault}
use Rattle.chunk_store.specs.declared.fault.ChunkFault.TheVariants as faults
use Rattle.blob_node.specs.declared.settled.Settled.{Settled}
use Rattle.blob_node.specs.UnitTable.{TableOver, at_word, AreNamed, StartsIn}

-- what is settled stands at the end of the list
abbrev pub noted : List Settled → Option Settled → List Settled
noted items None = items
noted items (Some item) = items ++ item ∷ []

-- where the list has no room nothing is done
abbrev pub NoRoom : {F : Type 0} → TableOver F → TableOver F → ChunkFault → Type 0
NoRoom old new fault = (fault ≡ faults.Memory) × (new ≡ old)

module _ {F : Type 0} (seen : F → FileView) where
  -- one unit is started, and what is settled is noted
  abbrev pub StartsNext : ℕ → TableOver F → TableOver F → List Settled → List Settled → Result (Unit {0}) ChunkFault → Type 0
  StartsNext word old new items more (Ok _) = (told : Option Settled) × StartsIn seen word old new (Ok told) × (more ≡ noted items told)
  StartsNext word old new items more (Err fault) = (more ≡ items) × (NoRoom old new fault ⊎ StartsIn seen word old new (Err fault))

  -- the units of these words are started in turn, up to the first that doesn't start
  abbrev pub StartsEach : List ℕ → TableOver F → TableOver F → List Settled → List Settled → Result (Unit {0}) ChunkFault → Type 0
  StartsEach [] old new items more result = (new ≡ old) × (more ≡ items) × IsOk result
  StartsEach (word ∷ rest) old new items more result =
      (IsErr result × StartsNext word old new items more result)
      ⊎ ((mid : TableOver F) × (between : List Settled) × StartsNext word old mid items between (Ok tt) × StartsEach rest mid new between more result)

  -- all words of the table, ascending
  pub record AreWords (table : TableOver F) (words : List ℕ) : Type 0 where
    pub order : IsStrictlyIncreasing words
    pub all : (word : ℕ) → list_any (λ listed. listed == word) words ≡ is_some (at_word word table.units)

  -- all units are started so, where there is room for the words
  pub record StartsAll (old new : TableOver F) (items more : List Settled) (result : Result (Unit {0}) ChunkFault) : Type 0 where
    pub named : AreNamed old.vid old.units
    pub starts : ((more ≡ items) × (new ≡ old) × (result ≡ Err faults.Memory))
        ⊎ ((words : List ℕ) × AreWords old words × StartsEach words old new items more result)
