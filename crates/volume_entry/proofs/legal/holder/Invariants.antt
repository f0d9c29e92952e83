use Rattle.std.proofs.Common.{◌≡◌, drop}
use Rattle.volume_entry.specs.ManagerStep.{holder}
use Rattle.volume_entry.proofs.legal.holder.Given as goal

abbrev pub invariant-loop-index : goal.invariant-loop-index
invariant-loop-index l = holder 0 l.homes l.disk ≡ holder l.index (drop l.index l.homes) l.disk
