-- What the lines of a byte string are.
use Rattle.std.specs.Prelude.{ℕ, ◌≡◌, ◌-◌, Bool, true, false, if◌then◌else◌, ◌==◌, nat_lt, List, [], ◌∷◌, ◌++◌, length, map, filter, take, slice_index, Option, Some, None, option_map}
use Rattle.std.specs.List.{before_first, after_first, list_any}

-- one line: its bytes without the line feed, and whether a line feed ends it
pub record Line : Type 0 where
  pub bytes : List ℕ
  pub is_ended : Bool

abbrev pub is_line_feed : ℕ → Bool
is_line_feed byte = byte == 10

-- a byte more in front of the first line
abbrev pub with_byte : ℕ → List Line → List Line
with_byte byte [] = record { bytes = byte ∷ []; is_ended = false } ∷ []
with_byte byte (line ∷ lines) = record { bytes = byte ∷ line.bytes; is_ended = line.is_ended } ∷ lines

-- The input cut at its line feeds. A rest that isn't empty is a line too, which no line feed ends.
abbrev pub cut_lines : List ℕ → List Line
cut_lines [] = []
cut_lines (byte ∷ input) =
    if is_line_feed byte then record { bytes = []; is_ended = true } ∷ cut_lines input else with_byte byte (cut_lines input)

-- the bytes without one carriage return at their end
abbrev pub without_return : List ℕ → List ℕ
without_return bytes = if slice_index bytes (length bytes - 1) == 13 then take (length bytes - 1) bytes else bytes

-- what a line says: a carriage return before its line feed is dropped
abbrev pub content : Line → List ℕ
content line = if line.is_ended then without_return line.bytes else line.bytes

-- the lines of the input, as commands are read from them
abbrev pub lines_of : List ℕ → List (List ℕ)
lines_of input = map content (cut_lines input)

-- the longest line, in bytes: the line feed isn't counted, a carriage return before it is
abbrev pub longest_line : ℕ
longest_line = 1048576

-- how many bytes are pulled at once at most
abbrev pub piece_size : ℕ
piece_size = 4096

abbrev pub is_too_long : Line → Bool
is_too_long line = nat_lt longest_line (length line.bytes)

-- Of a front part of an input: the lines that a line feed ends. However the input goes on, it begins with these lines.
abbrev pub whole_lines : List ℕ → List Line
whole_lines front = filter (λ line. line.is_ended) (cut_lines front)

-- no line ends in the bytes
abbrev pub HasNoEnd : List ℕ → Type 0
HasNoEnd bytes = list_any is_line_feed bytes ≡ false

-- the bytes of a line, with the line feed that ends it
abbrev pub line_bytes : Line → List ℕ
line_bytes line = line.bytes ++ (if line.is_ended then 10 ∷ [] else [])

abbrev pub bytes_of_lines : List Line → List ℕ
bytes_of_lines [] = []
bytes_of_lines (line ∷ lines) = line_bytes line ++ bytes_of_lines lines

-- no line feed stands inside a line
abbrev pub AreCut : List Line → Type 0
AreCut [] = Unit {0}
AreCut (line ∷ lines) = HasNoEnd line.bytes × AreCut lines

-- The line at the front of the input, where the input isn't empty: the bytes before its first line feed, which ends it.
abbrev pub first_line : List ℕ → Option Line
first_line [] = None
first_line (byte ∷ input) = Some (record {
  bytes = before_first is_line_feed (byte ∷ input);
  is_ended = list_any is_line_feed (byte ∷ input);
})

-- what comes behind that line and its line feed
abbrev pub after_line : List ℕ → List ℕ
after_line input = after_first is_line_feed input

-- What a feed holds: the bytes that it pulled and hasn't given yet, and whether its source said that the input ends there.
pub record Buffered : Type 0 where
  pub bytes : List ℕ
  pub is_over : Bool

-- a feed that has pulled nothing
abbrev pub nothing_buffered : Buffered
nothing_buffered = record { bytes = []; is_over = false }

-- the input that is to come by way of a feed, over a source that has these bytes left and tells them
abbrev pub to_come : Buffered → Option (List ℕ) → Option (List ℕ)
to_come held left = if held.is_over then Some held.bytes else option_map (λ more. held.bytes ++ more) left

-- where it was known what was to come, it still is, and it is the same
abbrev pub StillComes : Option (List ℕ) → Option (List ℕ) → Type 0
StillComes None now = Unit {0}
StillComes (Some input) now = now ≡ Some input
