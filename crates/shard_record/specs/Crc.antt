-- CRC-32 of IEEE 802.3, bit by bit: the remainder of a byte string by the polynomial, lowest bit first.
use Rattle.std.specs.Prelude.{ℕ, zero, suc, ◌*◌, ◌/◌, ◌%◌, List, [], ◌∷◌, bit_xor}

-- one bit leaves the remainder, and takes the polynomial off where it is 1
unfoldable pub shifted : ℕ → ℕ
shifted r = bit_xor (r / 2) (r % 2 * 0xEDB8_8320)

-- so many bits leave the remainder
unfoldable pub shifted_by : ℕ → ℕ → ℕ
shifted_by zero r = r
shifted_by (suc n) r = shifted_by n (shifted r)

-- the remainder after these bytes, from the remainder before them
unfoldable pub remainder : ℕ → List ℕ → ℕ
remainder r [] = r
remainder r (byte ∷ bytes) = remainder (shifted_by 8 (bit_xor r byte)) bytes

-- the sum of a byte string: all bits are turned over before and after
unfoldable pub crc_of : List ℕ → ℕ
crc_of bytes = bit_xor (remainder 0xFFFF_FFFF bytes) 0xFFFF_FFFF
