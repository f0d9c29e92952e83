-- What the parts of a feed hold together.
use Rattle.std.specs.Prelude.{ℕ, ◌≡◌, Bool, List, ◌++◌, drop, Option, Some}
use Rattle.std.specs.List.{list_any, before_first, after_first}
use Rattle.script_lines.specs.Lines.{Buffered, is_line_feed}

-- the beginning of a line, and what of a piece stands from a place on
abbrev pub buffered_in : List ℕ → List ℕ → ℕ → Bool → Buffered
buffered_in line piece at is_over = record { bytes = line ++ drop at piece; is_over = is_over }

abbrev pub rest_in : List ℕ → ℕ → Bool → Buffered
rest_in piece at is_over = record { bytes = drop at piece; is_over = is_over }

-- the input was cut behind its first line: the line without its line feed, whether it has one, and what is to come behind it
pub record IsCut (input : List ℕ) (is_ended : Bool) (line : List ℕ) (behind : Option (List ℕ)) : Type 0 where
  pub ended : is_ended ≡ list_any is_line_feed input
  pub bytes : line ≡ before_first is_line_feed input
  pub rest : behind ≡ Some (after_first is_line_feed input)
