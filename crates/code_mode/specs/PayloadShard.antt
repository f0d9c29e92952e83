-- The shards of a payload, each with the size of its blob.
use Rattle.std.specs.Prelude.{ℕ, List, length}
use Rattle.code_mode.specs.declared.mode.Mode.{Mode}
use Rattle.code_mode.specs.Stripe.{shard_of}

-- a shard's bytes, and the length of its blob, which tells how much of it is padding
pub record PayloadShard : Type 0 where
  pub blob_size : ℕ
  pub bytes : List ℕ

-- shard r of a payload of these bytes
abbrev pub payload_shard : Mode → List ℕ → ℕ → PayloadShard
payload_shard mode blob r = record { blob_size = length blob; bytes = shard_of mode blob r }
