use Rattle.std.proofs.Common.{take}
use Rattle.volume_entry.specs.TableParts.{AreNextHomes, shape_of}
use Rattle.volume_entry.proofs.legal.are_next_homes.Given as goal

abbrev pub invariant-loop-grant : goal.invariant-loop-grant
invariant-loop-grant l = AreNextHomes (shape_of l.shape) l.homes l.greatest (take l.grant-index l.grants)
