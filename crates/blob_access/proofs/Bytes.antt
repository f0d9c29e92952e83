-- Bytes and coders.
use Rattle.std.proofs.Common.{ℕ, ◌<◌, List, get_or, All}
use Rattle.std.proofs.lemmas.List.Elements.{All-from_get_or}

-- the numbers of a slice of bytes are bytes
pub are_bytes : (bytes : List ℕ) → ((i : ℕ) → get_or bytes i 0 < 256) → All (λ b. b < 256) bytes
are_bytes bytes h = All-from_get_or (λ b. b < 256) bytes 0 (λ i _. h i)
