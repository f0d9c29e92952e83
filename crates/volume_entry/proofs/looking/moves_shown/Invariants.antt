use Rattle.std.proofs.Common.{◌≡◌, take}
use Rattle.volume_entry.specs.View.{moves_shown}
use Rattle.volume_entry.specs.Entry.{is_broken}
use Rattle.volume_entry.proofs.looking.moves_shown.Given as goal

abbrev pub invariant-loop-place : goal.invariant-loop-place
invariant-loop-place l = l.shown ≡ moves_shown l.vid (is_broken l.broken) l.swapped (take l.place l.transfers)
