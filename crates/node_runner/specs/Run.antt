-- What a run of a script does, by how it ended.
use Rattle.std.specs.Prelude.{ℕ, ◌≡◌, ◌-◌, ◌<◌, ◌≤◌, ◌⊎◌, Bool, true, false, not, ◌&&◌, ◌||◌, if◌then◌else◌, List, [], ◌∷◌, ◌++◌, length, map, take, Option, Some, None, IfSome, IsSome, is_some}
use Rattle.std.specs.List.{filter_map}
use Rattle.disk_base.specs.Faults.{Rose}
use Rattle.disk_base.specs.Streams.{SourceView, SinkView}
use Rattle.disk_base.specs.Shelves.{ShelfView}
use Rattle.disk_base.specs.Farms.{FarmView}
use Rattle.script_lines.specs.Lines.{Line, content, cut_lines, whole_lines, is_too_long}
use Rattle.node_runner.specs.Script.{is_passed_over, command_of, command_at, inside_behind}
use Rattle.node_runner.specs.Session.{Turn, commands_of, IsSession, IsBrokenSession}
use Rattle.node_runner.specs.Text.{text_of}
use Rattle.node_runner.specs.Beginning.{are_right_words, Begins, EndsEarly}
use Rattle.node_runner.specs.declared.command.Command.{Command}
use Rattle.node_runner.specs.declared.ending.Ending.{Ending}
use Rattle.node_runner.specs.declared.ending.Ending.TheVariants as endings
use Rattle.node_runner.specs.declared.session.Session.{Session}
use Rattle.node_runner.specs.declared.script_run.Outcome.{Outcome}

-- the most lines of a script
abbrev pub most_lines : ℕ
most_lines = 1000000

-- the command that a line spells; one that is passed over spells none
abbrev pub spelled : List ℕ → Option Command
spelled line = if is_passed_over line then None else command_of line

-- it is passed over or spells a command that may stand there, inside a block or outside
abbrev pub is_said : Bool → List ℕ → Bool
is_said inside line = is_passed_over line || is_some (command_at inside line)

-- .. each of these lines
abbrev pub are_said : Bool → List (List ℕ) → Bool
are_said inside [] = true
are_said inside (line ∷ lines) = is_said inside line && are_said (inside_behind inside line) lines

-- a line of the language: not too long, and passed over or a command that may stand there
abbrev pub is_in_language : Bool → Line → Bool
is_in_language inside line = not (is_too_long line) && is_said inside (content line)

-- the lines before the first that isn't in the language
abbrev pub good_from : Bool → List Line → List Line
good_from inside [] = []
good_from inside (line ∷ lines) = if is_in_language inside line then line ∷ good_from (inside_behind inside (content line)) lines else []

-- those of a script, which begins outside; a line behind the last that it may have isn't in the language
abbrev pub good_lines : List Line → List Line
good_lines lines = good_from false (take most_lines lines)

-- what a sink holds grew by these bytes, where it tells what it holds
abbrev pub Gains : SinkView → List ℕ → SinkView → Type 0
Gains old bytes new = IfSome old.held (λ before. new.held ≡ Some (before ++ bytes))

-- .. by a front of these bytes that isn't all of them
pub record GainsPart (old : SinkView) (bytes : List ℕ) (new : SinkView) : Type 0 where
  pub front : List ℕ
  pub rest : List ℕ
  pub is_whole : bytes ≡ front ++ rest
  pub is_part : 0 < length rest
  pub gains : Gains old front new

-- Lines that ran, by what they say: each is in the language, and their commands are those of these turns.
pub record Ran (said : List (List ℕ)) (turns : List Turn) : Type 0 where
  pub in_language : are_said false said ≡ true
  pub commands : commands_of turns ≡ filter_map spelled said

-- what was taken from the front of the input, where so much of it is left
abbrev pub pulled : List ℕ → List ℕ → List ℕ
pulled input left = take (length input - length left) input

-- the lines are the input's, all in the language, and the input was read to its end
pub record RanAll (input : List ℕ) (left : Option (List ℕ)) (said : List (List ℕ)) : Type 0 where
  pub all_read : left ≡ Some []
  pub all_good : good_lines (cut_lines input) ≡ cut_lines input
  pub lines : said ≡ map content (cut_lines input)

-- the lines are those before the first that isn't in the language, and there is one
pub record RanGood (input : List ℕ) (said : List (List ℕ)) : Type 0 where
  pub lines : said ≡ map content (good_lines (cut_lines input))
  pub next : length said < length (cut_lines input)

-- what was pulled is the front of the input, and the lines are all whole lines of it, in the language
pub record RanPulled (input left : List ℕ) (said : List (List ℕ)) : Type 0 where
  pub front : input ≡ pulled input left ++ left
  pub all_good : good_lines (whole_lines (pulled input left)) ≡ whole_lines (pulled input left)
  pub lines : said ≡ map content (whole_lines (pulled input left))

-- the lines are the first of those before the first that isn't in the language
pub record RanFirst (input : List ℕ) (said : List (List ℕ)) : Type 0 where
  pub within : length said ≤ length (good_lines (cut_lines input))
  pub lines : said ≡ map content (take (length said) (good_lines (cut_lines input)))

-- The line behind those that ran was answered too, and a part of its text was written, which isn't all of it.
pub record WritesPart (source : SourceView) (old new : SinkView) (session : Session) (said : List (List ℕ)) (turns : List Turn) : Type 0 where
  pub line : List ℕ
  pub more : List Turn
  pub ran : Ran (said ++ line ∷ []) (turns ++ more)
  pub is_session : IsSession session (turns ++ more)
  pub part : GainsPart old (text_of more) new
  pub lines : IfSome source.left (λ input. RanFirst input (said ++ line ∷ []))

-- The command of the line behind those that ran was begun, and memory ran out before it had a text.
pub record StopsInside (source : SourceView) (session : Session) (said : List (List ℕ)) (turns : List Turn) : Type 0 where
  pub line : List ℕ
  pub command : Command
  pub in_language : are_said false (said ++ line ∷ []) ≡ true
  pub spells : spelled line ≡ Some command
  pub is_session : IsBrokenSession session turns command
  pub lines : IfSome source.left (λ input. RanFirst input (said ++ line ∷ []))

-- How the lines of a run ended, before the sink is asked to hand on: the session that is handed out, what was written, the cause, and
-- which lines of the input these are.
abbrev pub EndsLines : Ending → SourceView → SourceView → SinkView → SinkView → Session → List (List ℕ) → List Turn → Type 0
EndsLines endings.Whole source source' sink sink' session said turns =
    IsSession session turns × Gains sink (text_of turns) sink' × IfSome source.left (λ input. RanAll input source'.left said)
EndsLines endings.BadLine source source' sink sink' session said turns =
    IsSession session turns × Gains sink (text_of turns) sink' × IfSome source.left (λ input. RanGood input said)
EndsLines endings.ReadFault source source' sink sink' session said turns =
    IsSession session turns × Gains sink (text_of turns) sink' × Rose source.faults source'.faults
    × IfSome source.left (λ input. IfSome source'.left (λ left. RanPulled input left said))
EndsLines endings.WriteFault source source' sink sink' session said turns =
    Rose sink.faults sink'.faults × ((between : SinkView) × Gains sink (text_of turns) between × WritesPart source between sink' session said turns)
EndsLines endings.OutOfMemory source source' sink sink' session said turns =
    (IsSession session turns ⊎ StopsInside source session said turns) × Gains sink (text_of turns) sink' × IfSome source.left (λ input. RanFirst input said)
EndsLines ending source source' sink sink' session said turns = ⊥

-- behind such an end the sink is asked to hand on
abbrev pub is_closed : Ending → Bool
is_closed endings.Whole = true
is_closed endings.BadLine = true
is_closed endings.ReadFault = true
is_closed ending = false

-- a finish that failed behind the last line
pub record FailsToClose (source source' : SourceView) (sink sink' : SinkView) (session : Session) (said : List (List ℕ)) (turns : List Turn) : Type 0 where
  pub earlier : Ending
  pub closed : is_closed earlier ≡ true
  pub lines : EndsLines earlier source source' sink sink' session said turns
  pub cause : Rose sink.faults sink'.faults

-- nothing was begun, read or written
abbrev pub DoesNothing : SourceView → SourceView → SinkView → SinkView → Session → List (List ℕ) → List Turn → Type 0
DoesNothing source source' sink sink' session said turns = IsSession session turns × (said ≡ []) × (source' ≡ source) × (sink' ≡ sink)

-- How a run ended. Words that are wrong and a root that isn't ready touch nothing; where all lines ended well, at a bad line or at a failed pull, all is handed on.
abbrev pub Ends : Ending → SourceView → SourceView → SinkView → SinkView → Session → List (List ℕ) → List Turn → Type 0
Ends endings.Usage source source' sink sink' session said turns = DoesNothing source source' sink sink' session said turns
Ends endings.RootFault source source' sink sink' session said turns = DoesNothing source source' sink sink' session said turns
Ends endings.RootNotEmpty source source' sink sink' session said turns = DoesNothing source source' sink sink' session said turns
Ends endings.OutOfMemory source source' sink sink' session said turns = EndsLines endings.OutOfMemory source source' sink sink' session said turns
Ends endings.WriteFault source source' sink sink' session said turns =
    EndsLines endings.WriteFault source source' sink sink' session said turns ⊎ FailsToClose source source' sink sink' session said turns
Ends ending source source' sink sink' session said turns = EndsLines ending source source' sink sink' session said turns × (sink'.is_handed_on ≡ true)

-- the status of each end
abbrev pub status_of : Ending → ℕ
status_of endings.Whole = 0
status_of endings.BadLine = 1
status_of endings.Usage = 2
status_of endings.ReadFault = 3
status_of endings.WriteFault = 4
status_of endings.OutOfMemory = 5
status_of endings.RootFault = 6
status_of endings.RootNotEmpty = 7

-- A run: the root was made ready, so many lines ran, their commands are those of turns, and by how it ended: the session that it hands out
-- is that of these turns or of one more, the sink gained their text, and the lines are the input's.
pub record Runs {S F : Type 0} (seen : S → ShelfView F) (words : List (List ℕ)) (source source' : SourceView) (sink sink' : SinkView) (farm farm' : FarmView S)
    (outcome : Outcome) : Type 0 where
  pub said : List (List ℕ)
  pub turns : List Turn
  pub early : Option Ending
  pub ending : Ending
  pub count : length said ≡ outcome.lines
  pub few : outcome.lines ≤ most_lines
  pub ran : Ran said turns
  pub status_is : outcome.status ≡ status_of ending
  pub begins : Begins seen (are_right_words words) farm farm' early
  pub ends_early : EndsEarly early ending outcome.lines
  pub ends : Ends ending source source' sink sink' outcome.session said turns
  pub source_faults : source.faults ≤ source'.faults
  pub sink_faults : sink.faults ≤ sink'.faults
  pub told : IsSome source.left → IsSome source'.left
