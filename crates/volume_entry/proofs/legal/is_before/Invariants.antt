use Rattle.std.proofs.Common.{take}
use Rattle.volume_entry.specs.TableParts.{IsBefore}
use Rattle.volume_entry.proofs.legal.is_before.Given as goal

abbrev pub invariant-loop-other : goal.invariant-loop-other
invariant-loop-other l = IsBefore l.first (take l.other-index l.others)
