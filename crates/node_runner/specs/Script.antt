-- The language of scripts: which line spells which command.
use Rattle.std.specs.Prelude.{ℕ, ◌^◌, Bool, true, false, not, if◌then◌else◌, ◌==◌, ◌&&◌, ◌||◌, nat_lt, nat_le, List, [], ◌∷◌, length, filter, slice_index, codes, Option, Some, None, option_map, option_and_then}
use Rattle.std.specs.List.{slice_split, list_all, find}
use Rattle.std.specs.Str.{bytes_eq}
use Rattle.std.specs.Char.{is_ascii_digit, is_ascii_alphanumeric}
use Rattle.std.specs.Str.Parse.{digits_value}
use Rattle.std.specs.Result.{result_ok}
use Rattle.hex.specs.Hex.{decode_of}
use Rattle.code_mode.specs.Mode.{mode_name}
use Rattle.code_mode.specs.declared.mode.Mode.{Mode}
use Rattle.code_mode.specs.declared.mode.Mode.TheVariants as modes
use Rattle.node_runner.specs.declared.command.Command.{Command}
use Rattle.node_runner.specs.declared.command.Command.TheVariants as commands
use Rattle.node_runner.specs.declared.command.Body.{Body}
use Rattle.node_runner.specs.declared.command.Body.TheVariants as bodies

-- a space or a tab
abbrev pub is_blank : ℕ → Bool
is_blank byte = (byte == 32) || (byte == 9)

abbrev pub is_filled : List ℕ → Bool
is_filled part = nat_lt 0 (length part)

-- the words of a line: what stands between its blanks
abbrev pub words_of : List ℕ → List (List ℕ)
words_of line = filter is_filled (slice_split is_blank line)

-- a line without words, or a comment: its first word begins with `#`
abbrev pub are_passed_over : List (List ℕ) → Bool
are_passed_over [] = true
are_passed_over (word ∷ words) = slice_index word 0 == 35

abbrev pub is_passed_over : List ℕ → Bool
is_passed_over line = are_passed_over (words_of line)

-- a number: 1 to 20 decimal digits, its value below 2^64
abbrev pub is_number : List ℕ → Bool
is_number word = is_filled word && nat_le (length word) 20 && list_all is_ascii_digit word && nat_lt (digits_value 10 word) (2 ^ 64)

abbrev pub number_of : List ℕ → Option ℕ
number_of word = if is_number word then Some (digits_value 10 word) else None

-- a number below 2^32
abbrev pub number32_of : List ℕ → Option ℕ
number32_of word = if is_number word && nat_lt (digits_value 10 word) (2 ^ 32) then Some (digits_value 10 word) else None

-- a letter, a digit, `.`, `_` or `-`
abbrev pub is_name_byte : ℕ → Bool
is_name_byte byte = is_ascii_alphanumeric byte || (byte == 46) || (byte == 95) || (byte == 45)

-- a name: 1 to 64 such bytes
abbrev pub is_name : List ℕ → Bool
is_name word = is_filled word && nat_le (length word) 64 && list_all is_name_byte word

abbrev pub name_of : List ℕ → Option (List ℕ)
name_of word = if is_name word then Some word else None

-- the bytes of an even number of hexadecimal digits, in either case
abbrev pub hex_of : List ℕ → Option (List ℕ)
hex_of word = result_ok (decode_of word)

abbrev pub every_mode : List Mode
every_mode = modes.Ec3P3 ∷ modes.Ec6P3 ∷ modes.Ec6P6 ∷ modes.Ec10P4 ∷ modes.Ec12P4 ∷ modes.Ec12P9 ∷ modes.Ec16P4 ∷ modes.Ec15P12 ∷ []

-- the mode of this name
unfoldable pub mode_of : List ℕ → Option Mode
mode_of word = find (λ mode. bytes_eq word (mode_name mode)) every_mode

infixl 10 ◌>>=◌
abbrev pub ◌>>=◌ : {A B : Type 0} → Option A → (A → Option B) → Option B
read >>= next = option_and_then next read

-- the one word, where there is just one
abbrev pub only_word : List (List ℕ) → Option (List ℕ)
only_word (word ∷ []) = Some word
only_word _ = None

-- `disks D`, from the words behind the first
abbrev pub disks_command : List (List ℕ) → Option Command
disks_command words = only_word words >>= λ count. option_map commands.Disks (number32_of count)

-- `volume MODE`
abbrev pub volume_command : List (List ℕ) → Option Command
volume_command words = only_word words >>= λ mode. option_map commands.Volume (mode_of mode)

-- `SEED LEN`, behind `fill`
abbrev pub fill_of : List (List ℕ) → Option Body
fill_of (seed ∷ len ∷ []) = number_of seed >>= λ s. option_map (λ l. bodies.Fill s l) (number_of len)
fill_of _ = None

-- what a put writes, from the words behind its name: nothing, `HEX`, or `fill SEED LEN`
abbrev pub body_of : List (List ℕ) → Option Body
body_of [] = Some (bodies.Plain [])
body_of (word ∷ words) =
    if bytes_eq word (codes "fill") then fill_of words
    else only_word (word ∷ words) >>= λ digits. option_map bodies.Plain (hex_of digits)

-- `put NAME`, with what it writes behind
abbrev pub put_command : List (List ℕ) → Option Command
put_command [] = None
put_command (name ∷ words) = name_of name >>= λ n. option_map (λ b. commands.Put n b) (body_of words)

-- `get NAME`
abbrev pub get_command : List (List ℕ) → Option Command
get_command words = only_word words >>= λ name. option_map commands.Get (name_of name)

-- the command that words spell, if they spell one
abbrev pub spelled_by : List (List ℕ) → Option Command
spelled_by [] = None
spelled_by (word ∷ words) =
    if bytes_eq word (codes "disks") then disks_command words
    else if bytes_eq word (codes "volume") then volume_command words
    else if bytes_eq word (codes "put") then put_command words
    else if bytes_eq word (codes "get") then get_command words
    else None

-- the command that a line spells, if it spells one
abbrev pub command_of : List ℕ → Option Command
command_of line = spelled_by (words_of line)

-- a command that may stand inside a block
abbrev pub may_stand_inside : Command → Bool
may_stand_inside (commands.Disks count) = false
may_stand_inside (commands.Volume mode) = false
may_stand_inside (commands.Put name body) = true
may_stand_inside (commands.Get name) = true

-- the command that a line spells, if it may stand there: inside a block or outside
abbrev pub command_at : Bool → List ℕ → Option Command
command_at inside line = command_of line >>= λ command. if inside && not (may_stand_inside command) then None else Some command

-- Whether the next line stands inside a block, behind a line that does or doesn't: no command begins or ends one yet.
abbrev pub inside_behind : Bool → List ℕ → Bool
inside_behind inside line = inside

-- .. behind all of these lines
abbrev pub inside_after : Bool → List (List ℕ) → Bool
inside_after inside [] = inside
inside_after inside (line ∷ lines) = inside_after (inside_behind inside line) lines
