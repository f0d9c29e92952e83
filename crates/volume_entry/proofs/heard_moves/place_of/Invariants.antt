use Rattle.std.proofs.Common.{◌≡◌, take, None}
use Rattle.volume_entry.specs.HeardMemory.{move_of}
use Rattle.volume_entry.proofs.heard_moves.place_of.Given as goal

abbrev pub invariant-loop-place : goal.invariant-loop-place
invariant-loop-place l = move_of (take l.place l.moves) l.index ≡ None
