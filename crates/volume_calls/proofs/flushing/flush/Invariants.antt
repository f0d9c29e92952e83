use Rattle.std.proofs.Common.{◌+◌, ◌-◌, ◌^◌, ◌≤◌, length}
use Rattle.volume_calls.proofs.FlushLemmas.{IsFlushing}
use Rattle.volume_calls.proofs.flushing.flush.Given as goal

abbrev pub invariant-items : goal.invariant-items
invariant-items g l = record {
  gone : IsFlushing (g.P.Port.seen l.fn.port) (g.P.Port.seen l.port) l.flushed;
  count : l.flushed.requests + l.flushed.answers ≤ length (g.P.Port.seen l.port).entries;
}

abbrev pub decreases-items : goal.decreases-items
decreases-items g l = 2 ^ 32 - length (g.P.Port.seen l.port).entries
