use Rattle.std.proofs.Common.{◌≡◌, take}
use Rattle.volume_entry.specs.View.{homes_shown}
use Rattle.volume_entry.specs.Entry.{is_broken}
use Rattle.volume_entry.proofs.looking.homes_shown.Given as goal

abbrev pub invariant-loop-index : goal.invariant-loop-index
invariant-loop-index l = l.shown ≡ homes_shown l.vid 0 (is_broken l.broken) (take l.index l.homes)
