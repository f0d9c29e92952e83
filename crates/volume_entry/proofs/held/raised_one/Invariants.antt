use Rattle.std.proofs.Common.{◌≡◌, drop}
use Rattle.volume_entry.specs.Manager.{raised_one}
use Rattle.volume_entry.proofs.held.raised_one.Given as goal

abbrev pub invariant-loop-grant : goal.invariant-loop-grant
invariant-loop-grant l = raised_one l.grants l.index l.epoch ≡ raised_one (drop l.grant-index l.grants) l.index l.epoch
