use Rattle.std.proofs.Common.{◌≡◌}
use Rattle.volume_entry.specs.Manager.{raised_one}
use Rattle.volume_entry.proofs.TableLists.{done_to}
use Rattle.volume_entry.proofs.held.raise.Given as goal

abbrev pub invariant-loop-index : goal.invariant-loop-index
invariant-loop-index l = l.greatest ≡ done_to (raised_one l.grants) l.index 0 l.initial.greatest
