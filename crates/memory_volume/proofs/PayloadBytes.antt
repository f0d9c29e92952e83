-- The numbers of a payload that is made are bytes.
use Rattle.std.proofs.Common.{ℕ, ◌^◌, ◌<◌, List, map, All, get_or, arith}
use Rattle.std.specs.List.{range_with_len}
use Rattle.std.proofs.lemmas.List.Elements.{All-map, All-from_get_or}
use Rattle.code_mode.specs.Payload.{next_state, fill_state, fill_byte}

state_below : (state : ℕ) → next_state state < 2 ^ 64
state_below state = omega arith

byte_below : (seed k : ℕ) → fill_byte seed k < 256
byte_below seed k = let below = state_below (fill_state seed k) in omega (arith, below)

all_below : (f : ℕ → ℕ) → ((k : ℕ) → f k < 256) → (ns : List ℕ) → All (λ n. f n < 256) ns
all_below f below ns = All-from_get_or (λ n. f n < 256) ns 0 (λ i _. below (get_or ns i 0))

pub fill_bytes_below : (seed len : ℕ) → All (λ b. b < 256) (map (fill_byte seed) (range_with_len 0 len))
fill_bytes_below seed len = All-map (λ b. b < 256) (fill_byte seed) (range_with_len 0 len) (all_below (fill_byte seed) (byte_below seed) (range_with_len 0 len))
