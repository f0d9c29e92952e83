-- The bytes that a put carries.
use Rattle.std.specs.Prelude.{ℕ, zero, suc, ◌+◌, ◌*◌, ◌/◌, ◌%◌, ◌^◌, List, map}
use Rattle.std.specs.List.{range_with_len}
use Rattle.code_mode.specs.declared.payload.Payload.{Payload}
use Rattle.code_mode.specs.declared.payload.Payload.TheVariants.{Plain, Fill}

-- the generator's next state, of 64 bits
abbrev pub next_state : ℕ → ℕ
next_state state = (state * 6364136223846793005 + 1442695040888963407) % 2 ^ 64

-- the state after so many steps from a seed
abbrev pub fill_state : ℕ → ℕ → ℕ
fill_state seed zero = seed
fill_state seed (suc k) = next_state (fill_state seed k)

-- fill byte k: the top eight bits of the state after k + 1 steps
abbrev pub fill_byte : ℕ → ℕ → ℕ
fill_byte seed k = next_state (fill_state seed k) / 2 ^ 56

-- the bytes of a payload, in order
abbrev pub payload_bytes : Payload → List ℕ
payload_bytes (Plain bytes) = bytes
payload_bytes (Fill seed len) = map (fill_byte seed) (range_with_len 0 len)
