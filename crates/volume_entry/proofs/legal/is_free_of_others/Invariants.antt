use Rattle.std.proofs.Common.{take}
use Rattle.volume_entry.specs.TableParts.{IsFreeOfOthers}
use Rattle.volume_entry.proofs.legal.is_free_of_others.Given as goal

abbrev pub invariant-loop-transfer : goal.invariant-loop-transfer
invariant-loop-transfer l = IsFreeOfOthers (take l.transfer-index l.transfers) l.grant
