-- How far a run has come between two lines, and what one line more does.
use Rattle.std.specs.Prelude.{ℕ, ◌≡◌, ◌<◌, ◌≤◌, ◌⊎◌, Bool, true, false, ◌&&◌, List, [], ◌∷◌, ◌++◌, length, map, Some, IfSome, IsSome, IsSomeAnd, Result, Ok, Err, OnOk, OnErr}
use Rattle.std.specs.List.{list_all, filter_map}
use Rattle.disk_base.specs.Faults.{Rose, HasCause}
use Rattle.disk_base.specs.Streams.{SourceView, SinkView}
use Rattle.script_lines.specs.Lines.{Line, content, cut_lines, first_line, bytes_of_lines, AreCut, HasNoEnd, StillComes}
use Rattle.node_runner.specs.Script.{inside_behind}
use Rattle.script_lines.specs.Feeding.{FeedView, comes, Gives}
use Rattle.node_runner.specs.Session.{Turn, fresh, Answers, AreTurns, commands_of, nothing_said, said_of, BreaksOff}
use Rattle.node_runner.specs.Text.{text_of_reply, text_of}
use Rattle.node_runner.specs.Run.{most_lines, is_in_language, is_said, spelled, Gains, GainsPart, Ran, EndsLines, is_closed}
use Rattle.node_runner.specs.declared.command.Command.{Command}
use Rattle.node_runner.specs.declared.reply.LineReply.{LineReply}
use Rattle.script_lines.specs.declared.feed.LineFault.{LineFault}
use Rattle.script_lines.specs.declared.feed.LineFault.TheVariants as faults
use Rattle.node_runner.specs.declared.read.CommandFault.{CommandFault}
use Rattle.node_runner.specs.declared.read.CommandFault.TheVariants as refusals
use Rattle.node_runner.specs.declared.ending.Ending.{Ending}
use Rattle.node_runner.specs.declared.ending.Ending.TheVariants as endings
use Rattle.node_runner.specs.declared.kept.Kept.{Kept}
use Rattle.node_runner.specs.declared.session.Said.{Said}
use Rattle.node_runner.specs.declared.session.Session.{Session}

-- how a feed's fault and a line without a command end a run
abbrev pub ending_of_line : LineFault → Ending
ending_of_line faults.Read = endings.ReadFault
ending_of_line faults.TooLong = endings.BadLine
ending_of_line faults.Memory = endings.OutOfMemory

abbrev pub ending_of_command : CommandFault → Ending
ending_of_command refusals.Bad = endings.BadLine
ending_of_command refusals.Memory = endings.OutOfMemory

-- each of these lines is in the language
abbrev pub are_good : Bool → List Line → Bool
are_good inside [] = true
are_good inside (line ∷ lines) = is_in_language inside line && are_good (inside_behind inside (content line)) lines

-- what a run has in hand between two lines
pub record RunView : Type 0 where
  pub feed : FeedView
  pub kept : Kept
  pub sink : SinkView

abbrev pub run_of : FeedView → Kept → SinkView → RunView
run_of feed kept sink = record { feed = feed; kept = kept; sink = sink }

-- where the source said that the input ends, it has nothing left
abbrev pub IsAtEnd : FeedView → Type 0
IsAtEnd feed = feed.buffer.is_over ≡ true → IfSome feed.source.left (λ bytes. bytes ≡ [])

-- The lines that ran are the first of the input, and the rest is to come.
pub record IsBehind (input : List ℕ) (said : List (List ℕ)) (feed : FeedView) : Type 0 where
  pub ran : List Line
  pub rest : List ℕ
  pub says : said ≡ map content ran
  pub to_come : comes feed ≡ Some rest
  pub cut : cut_lines input ≡ ran ++ cut_lines rest
  pub front : input ≡ bytes_of_lines ran ++ rest
  pub are_cut : AreCut ran
  pub good : are_good false ran ≡ true
  pub ended : feed.buffer.is_over ≡ false → list_all (λ line. line.is_ended) ran ≡ true
  pub told : IsSome feed.source.left
  pub at_end : IsAtEnd feed

-- no count falls, and a source goes on telling
pub record KeepsCounts (source source' : SourceView) (sink sink' : SinkView) : Type 0 where
  pub source_faults : source.faults ≤ source'.faults
  pub sink_faults : sink.faults ≤ sink'.faults
  pub told : IsSome source.left → IsSome source'.left

-- So many lines ran since this source and this sink were taken.
pub record Progress (source : SourceView) (sink : SinkView) (lines : ℕ) (now : RunView) : Type 0 where
  pub said : List (List ℕ)
  pub turns : List Turn
  pub count : length said ≡ lines
  pub ran : Ran said turns
  pub are_turns : AreTurns fresh turns now.kept.store
  pub saids : now.kept.turns ≡ map said_of turns
  pub gained : Gains sink (text_of turns) now.sink
  pub lines_are : IfSome source.left (λ input. IsBehind input said now.feed)
  pub counts : KeepsCounts source now.feed.source sink now.sink

-- nothing was begun
pub record IsSame (old new : Kept) : Type 0 where
  pub store : new.store ≡ old.store
  pub turns : new.turns ≡ old.turns

-- A turn is begun for a command, by its answer: the command is answered, or it did nothing and was begun or not.
abbrev pub TakesTurn : {E : Type 0} → Command → Result LineReply E → Kept → Kept → Type 0
TakesTurn command (Ok reply) old new = Answers old.store command reply new.store × (new.turns ≡ old.turns ++ nothing_said ∷ [])
TakesTurn command (Err fault) old new = (new.store ≡ old.store) × ((new.turns ≡ old.turns) ⊎ (new.turns ≡ old.turns ++ nothing_said ∷ []))

-- the text of the reply to a command
pub record HasAnswered (command : Command) (text : List ℕ) (old new : Kept) : Type 0 where
  pub reply : LineReply
  pub answers : Answers old.store command reply new.store
  pub saids : new.turns ≡ old.turns ++ nothing_said ∷ []
  pub text_is : text ≡ text_of_reply reply

-- a command was begun and broke off
pub record HasBroken (command : Command) (old new : Kept) : Type 0 where
  pub last : Said
  pub saids : new.turns ≡ old.turns ++ last ∷ []
  pub breaks : BreaksOff old.store command last new.store

-- What a call that is to make the text of a command's reply did, by its answer.
abbrev pub AnswersCommand : {E : Type 0} → Command → Result (List ℕ) E → Kept → Kept → Type 0
AnswersCommand command (Ok text) old new = HasAnswered command text old new
AnswersCommand command (Err fault) old new = IsSame old new ⊎ HasBroken command old new

-- the turns of a line that says this: one of its command, or none
pub record AnswersLine (said : List ℕ) (turns : List Turn) (old new : Kept) : Type 0 where
  pub in_language : is_said false said ≡ true
  pub commands : commands_of turns ≡ filter_map spelled (said ∷ [])
  pub are_turns : AreTurns old.store turns new.store
  pub saids : new.turns ≡ old.turns ++ map said_of turns

-- the text of the turns of a line that says this
pub record HasAnsweredLine (said text : List ℕ) (old new : Kept) : Type 0 where
  pub turns : List Turn
  pub answered : AnswersLine said turns old new
  pub text_is : text ≡ text_of turns

-- the command of a line that says this was begun and broke off
pub record BreaksTurn (said : List ℕ) (old new : Kept) : Type 0 where
  pub command : Command
  pub in_language : is_said false said ≡ true
  pub spells : spelled said ≡ Some command
  pub broken : HasBroken command old new

-- What a call that is to make the text of a line did, by its answer.
abbrev pub TellsLine : List ℕ → Result (List ℕ) CommandFault → Kept → Kept → Type 0
TellsLine said (Ok text) old new = HasAnsweredLine said text old new
TellsLine said (Err refusals.Bad) old new = (is_said false said ≡ false) × IsSame old new
TellsLine said (Err refusals.Memory) old new = IsSame old new ⊎ BreaksTurn said old new

-- The next line was answered, and its text was written.
pub record RunsLine (old new : RunView) : Type 0 where
  pub said : List ℕ
  pub turns : List Turn
  pub answered : AnswersLine said turns old.kept new.kept
  pub gained : Gains old.sink (text_of turns) new.sink
  pub given : IfSome (comes old.feed) (Gives said old.feed new.feed)

-- The next line was answered, and a part of its text was written.
pub record BreaksLine (old new : RunView) : Type 0 where
  pub said : List ℕ
  pub turns : List Turn
  pub answered : AnswersLine said turns old.kept new.kept
  pub part : GainsPart old.sink (text_of turns) new.sink
  pub given : IfSome (comes old.feed) (Gives said old.feed new.feed)
  pub cause : Rose old.sink.faults new.sink.faults

-- The command of the next line was begun and broke off.
pub record StopsInLine (old new : RunView) : Type 0 where
  pub said : List ℕ
  pub breaks : BreaksTurn said old.kept new.kept
  pub given : IfSome (comes old.feed) (Gives said old.feed new.feed)

-- a line is next, and isn't in the language
abbrev pub NextIsBad : List ℕ → Type 0
NextIsBad rest = IsSomeAnd (first_line rest) (λ line. is_in_language false line ≡ false)

-- there is more
abbrev pub HasMore : List ℕ → Type 0
HasMore rest = 0 < length rest

-- Why there is no line more: what was to come, where that is known.
abbrev pub Stops : Ending → FeedView → FeedView → (List ℕ → Type 0) → Type 0
Stops endings.Whole old new bad = IfSome (comes old) (λ rest. rest ≡ []) × (new.buffer.is_over ≡ true)
Stops endings.BadLine old new bad = IfSome (comes old) bad
Stops endings.ReadFault old new bad =
    StillComes (comes old) (comes new) × Rose old.source.faults new.source.faults
    × (old.buffer.is_over ≡ false) × (new.buffer.is_over ≡ false) × HasNoEnd new.buffer.bytes
Stops endings.OutOfMemory old new bad = Unit {0}
Stops ending old new bad = ⊥

-- What a call that is to run the next line did, by its answer.
abbrev pub EndsLine : {T : Type 0} → Result T Ending → RunView → RunView → Type 0
EndsLine (Ok done) old new = RunsLine old new
EndsLine (Err endings.WriteFault) old new = BreaksLine old new
EndsLine (Err endings.OutOfMemory) old new = (new.sink ≡ old.sink) × (IsSame old.kept new.kept ⊎ StopsInLine old new)
EndsLine (Err ending) old new = Stops ending old.feed new.feed NextIsBad × (new.sink ≡ old.sink) × IsSame old.kept new.kept

-- What pushing all bytes did, by its answer.
pub record PushesAll {T E : Type 0} (bytes : List ℕ) (old new : SinkView) (result : Result T E) : Type 0 where
  pub pushed : OnOk result (Gains old bytes new)
  pub part : OnErr result (GainsPart old bytes new)
  pub cause : HasCause old.faults new.faults result

-- how a run ends where its lines ended so and the sink was asked to hand on
abbrev pub Closes : Ending → Ending → SinkView → SinkView → Type 0
Closes before endings.WriteFault old new =
    ((before ≡ endings.WriteFault) × (new ≡ old)) ⊎ ((is_closed before ≡ true) × (new.held ≡ old.held) × Rose old.faults new.faults)
Closes before endings.OutOfMemory old new = (before ≡ endings.OutOfMemory) × (new ≡ old)
Closes before after old new = (before ≡ after) × (is_closed before ≡ true) × (new.held ≡ old.held) × (new.is_handed_on ≡ true)

-- What running all lines did: so many ran and ended so, and this session is to be handed out.
pub record RunsLines (source source' : SourceView) (sink sink' : SinkView) (ending : Ending) (lines : ℕ) (session : Session) : Type 0 where
  pub said : List (List ℕ)
  pub turns : List Turn
  pub count : length said ≡ lines
  pub few : lines ≤ most_lines
  pub ran : Ran said turns
  pub ends : EndsLines ending source source' sink sink' session said turns
  pub counts : KeepsCounts source source' sink sink'
