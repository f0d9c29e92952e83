-- Rows of fixed length: a volume has at most 27 units, and a lock moves at most nine of them.
use Rattle.std.specs.Prelude.{ℕ, ◌≤◌, length, Option, Some, None}
use Rattle.volume_entry.specs.declared.view.LockView.{LockView}
use Rattle.volume_entry.specs.declared.view.View.{View}
use Rattle.volume_world.specs.declared.reply.Reply.{Reply}
use Rattle.volume_world.specs.declared.reply.Reply.TheVariants as replies

abbrev pub most_units : ℕ
most_units = 27

abbrev pub most_moves : ℕ
most_moves = 9

abbrev pub FitsHeld : Option LockView → Type 0
FitsHeld None = Unit {0}
FitsHeld (Some lock) = length lock.moves ≤ most_moves

abbrev pub FitsView : View → Type 0
FitsView view = (length view.units ≤ most_units) × FitsHeld view.held

-- no longer than a volume's
abbrev pub FitsRows : Reply → Type 0
FitsRows (replies.Begun end units) = length units ≤ most_units
FitsRows (replies.Granted lock moves) = length moves ≤ most_moves
FitsRows (replies.Seen view) = FitsView view
FitsRows reply = Unit {0}
