use Rattle.std.proofs.Common.{◌≡◌}
use Rattle.volume_entry.specs.Manager.{moved_one}
use Rattle.volume_entry.proofs.TableLists.{done_to}
use Rattle.volume_entry.proofs.held.move_homes.Given as goal

abbrev pub invariant-loop-index : goal.invariant-loop-index
invariant-loop-index l = l.homes ≡ done_to (moved_one l.transfers) l.index 0 l.initial.homes
