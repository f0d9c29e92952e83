use Rattle.std.proofs.Common.{◌≡◌, take}
use Rattle.volume_world.proofs.copies.copy_moves.Given as goal

abbrev pub invariant-loop-item : goal.invariant-loop-item
invariant-loop-item l = record { copied : l.copy ≡ take l.item-index l.item-items; all : l.item-items ≡ l.moves }
