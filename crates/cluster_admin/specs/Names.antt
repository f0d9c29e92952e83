-- How names are kept.
use Rattle.std.specs.Global.{Global}
use Rattle.std.specs.Prelude.{◌≡◌, ℕ, suc, if◌then◌else◌, List, [], ◌∷◌, ◌++◌, length, map, is_some, option_map, Option, Some, None, Vec}
use Rattle.std.specs.List.{IsDistinct}
use Rattle.std.specs.Map.{keys_of, lookup}
use Rattle.std.specs.Str.{bytes_eq}
use Rattle.cluster_admin.specs.declared.names.Object.{Object}
use Rattle.cluster_admin.specs.declared.name_block.NameBlock.TheInside as block
use Rattle.cluster_admin.specs.declared.name_index.NameIndex.TheInside as index

-- a name and what it stands for, as they are seen
abbrev pub seen : {X : Type 0} → Vec ℕ Global × X → List ℕ × X
seen entry = (entry.0.items, entry.1)

-- the names of a block, in order of put
abbrev pub names_of : block.Inside → List (List ℕ × Object)
names_of block = map seen block.held.entries

-- the names of an index, each with the number of its block
abbrev pub blocks_of : index.Inside → List (List ℕ × ℕ)
blocks_of index = map seen index.blocks.entries

-- all names: those of the first block, and then those behind it
abbrev pub all_names : List (List (List ℕ × Object)) → List (List ℕ × Object)
all_names [] = []
all_names (block ∷ blocks) = block ++ all_names blocks

-- the first block that holds a name, counted from 0
abbrev pub block_of : List ℕ → List (List (List ℕ × Object)) → Option ℕ
block_of name [] = None
block_of name (block ∷ blocks) = if is_some (lookup (bytes_eq name) block) then Some 0 else option_map suc (block_of name blocks)

-- the index knows each name's block, no name is held twice, and so many are held
pub record IsIndexed (blocks : List (List (List ℕ × Object))) (index : List (List ℕ × ℕ)) (count : ℕ) : Type 0 where
  pub blocks_are : (name : List ℕ) → lookup (bytes_eq name) index ≡ block_of name blocks
  pub once : IsDistinct bytes_eq (keys_of (all_names blocks))
  pub count_is : count ≡ length (all_names blocks)

-- the same names in the same blocks
pub record KeepsNames (old new : List (List (List ℕ × Object))) : Type 0 where
  pub names : all_names new ≡ all_names old
  pub blocks : (name : List ℕ) → block_of name new ≡ block_of name old
