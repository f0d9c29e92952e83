-- The printed text of a session: each reply has lines of words.
use Rattle.std.specs.Prelude.{ℕ, List, [], ◌∷◌, ◌++◌, codes}
use Rattle.std.specs.Fmt.{decimal}
use Rattle.hex.specs.Hex.{encode_lower}
use Rattle.code_mode.specs.Mode.{mode_name}
use Rattle.node_runner.specs.Session.{Turn}
use Rattle.node_runner.specs.declared.command.Command.{Command}
use Rattle.node_runner.specs.declared.command.Command.TheVariants as commands
use Rattle.node_runner.specs.declared.reply.Refusal.{Refusal}
use Rattle.node_runner.specs.declared.reply.Refusal.TheVariants as causes
use Rattle.node_runner.specs.declared.reply.LineReply.{LineReply}
use Rattle.node_runner.specs.declared.reply.LineReply.TheVariants as replies

-- words, each after a blank
abbrev pub spaced : List (List ℕ) → List ℕ
spaced [] = []
spaced (word ∷ words) = 32 ∷ (word ++ spaced words)

-- a first word, and the others each after a blank
abbrev pub spelled_out : List ℕ → List (List ℕ) → List ℕ
spelled_out first others = first ++ spaced others

-- what was refused, as the line of a refusal repeats it
abbrev pub subject_of : Command → List (List ℕ)
subject_of (commands.Disks count) = codes "disks" ∷ []
subject_of (commands.Volume mode) = codes "volume" ∷ mode_name mode ∷ []
subject_of (commands.Put name body) = codes "put" ∷ name ∷ []
subject_of (commands.Get name) = codes "get" ∷ name ∷ []

-- why it was refused
abbrev pub ending_of : Refusal → List (List ℕ)
ending_of (causes.Given have) = codes "given" ∷ decimal have ∷ []
ending_of causes.Limit = codes "limit" ∷ []
ending_of (causes.FewDisks have need) = codes "few-disks" ∷ decimal have ∷ decimal need ∷ []
ending_of causes.Empty = codes "empty" ∷ []
ending_of causes.TooLarge = codes "too-large" ∷ []
ending_of causes.NameTaken = codes "name-taken" ∷ []
ending_of causes.NoName = codes "no-name" ∷ []
ending_of causes.NoVolume = codes "no-volume" ∷ []

-- the words of a reply, one blank apart
abbrev pub words_of_reply : LineReply → List ℕ
words_of_reply (replies.Disks count) = spelled_out (codes "disks") (decimal count ∷ [])
words_of_reply (replies.Volume vid mode) = spelled_out (codes "volume") (decimal vid ∷ mode_name mode ∷ [])
words_of_reply (replies.Put name vid bid size) =
    spelled_out (codes "put") (name ∷ codes "vid" ∷ decimal vid ∷ codes "bid" ∷ decimal bid ∷ codes "size" ∷ decimal size ∷ [])
words_of_reply (replies.Got name bytes) = spelled_out (codes "got") (name ∷ encode_lower bytes ∷ [])
words_of_reply (replies.Refused command cause) = spelled_out (codes "refused") (subject_of command ++ ending_of cause)

-- the lines of a reply; each has one yet
abbrev pub lines_of_reply : LineReply → List (List ℕ)
lines_of_reply reply = words_of_reply reply ∷ []

-- lines, a line feed behind each
abbrev pub ended_lines : List (List ℕ) → List ℕ
ended_lines [] = []
ended_lines (line ∷ lines) = line ++ 10 ∷ ended_lines lines

-- the text of a reply
abbrev pub text_of_reply : LineReply → List ℕ
text_of_reply reply = ended_lines (lines_of_reply reply)

-- the text of turns: that of their replies, in order
abbrev pub text_of : List Turn → List ℕ
text_of [] = []
text_of (turn ∷ turns) = text_of_reply turn.reply ++ text_of turns
