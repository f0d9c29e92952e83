-- How a restart of a disk is noted and answered.
use Rattle.std.specs.Prelude.{ℕ, ◌≡◌, List, [], ◌∷◌}
use Rattle.unit_id.specs.declared.answer.Answer.{Answer}
use Rattle.unit_id.specs.declared.answer.Answer.TheVariants as answers
use Rattle.blob_node.specs.declared.settled.Settled.{Settled}
use Rattle.volume_world.specs.History.{KeptHistory, IsNoted, settle_entry}
use Rattle.volume_world.specs.declared.reply.Reply.{Reply}
use Rattle.volume_world.specs.declared.reply.Reply.TheVariants as replies

-- the first of these records is noted, if there is one
abbrev pub NotesFirst : ℕ → List Settled → KeptHistory → KeptHistory → Type 0
NotesFirst disk [] old new = new ≡ old
NotesFirst disk (item ∷ rest) old new = IsNoted (settle_entry disk item.found) old new

-- what a volume replies to a restart that is answered so
abbrev pub restart_reply : Answer → Reply
restart_reply answers.Fault = replies.Fault
restart_reply (answers.Damaged kept computed) = replies.Damaged kept computed
restart_reply (answers.Spoiled place) = replies.Spoiled place
restart_reply answer = replies.Done
