-- The shards that a run keeps of an object.
use Rattle.std.specs.Prelude.{ℕ, ◌≡◌, ◌<◌, ◌≤◌, List, length, take, All, Option, Some, None}
use Rattle.code_mode.specs.declared.mode.Mode.{Mode}
use Rattle.code_mode.specs.Mode.{data_count, parity_count, total_count}
use Rattle.code_mode.specs.Stripe.{joined, all_shards, shard_of}
use Rattle.rs_code.specs.Shape.{Shape}
use Rattle.rs_code.specs.Shards.{shard_at}
use Rattle.node_runner.specs.Session.{largest_object}

-- a coder of the mode
abbrev pub shape_of : Mode → Shape
shape_of mode = record { data_shards = data_count mode; parity_shards = parity_count mode }

-- the first bytes of the data shards
abbrev pub blob_in : Mode → ℕ → List (Option (List ℕ)) → List ℕ
blob_in mode size shards = take size (joined (data_count mode) shards)

-- all shards of a blob of this size
pub record IsStripe (mode : Mode) (size : ℕ) (shards : List (Option (List ℕ))) : Type 0 where
  pub are_bytes : All (λ b. b < 256) (blob_in mode size shards)
  pub size_is : length (blob_in mode size shards) ≡ size
  pub within : size ≤ largest_object
  pub shards_are : shards ≡ all_shards mode (blob_in mode size shards)

-- the shards of the blob below an index, and none from there on
pub record HoldsBelow (mode : Mode) (blob : List ℕ) (index : ℕ) (shards : List (Option (List ℕ))) : Type 0 where
  pub total : length shards ≡ total_count mode
  pub own : (k : ℕ) → k < index → shard_at shards k ≡ Some (shard_of mode blob k)
  pub free : (k : ℕ) → index ≤ k → shard_at shards k ≡ None
