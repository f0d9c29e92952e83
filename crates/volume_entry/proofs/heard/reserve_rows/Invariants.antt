use Rattle.std.proofs.Common.{ℕ, ◌<◌, get_or}
use Rattle.volume_entry.specs.HeardMemory.{HeardMove, HasRowRoom}
use Rattle.volume_entry.specs.HeardCalls.{StillTell}
use Rattle.volume_entry.proofs.heard.reserve_rows.Given as goal

abbrev pub invariant-loop-place : goal.invariant-loop-place
invariant-loop-place l = record { same : StillTell l.fn.moves l.moves; room : (k : ℕ) (d : HeardMove) → k < l.place → HasRowRoom (get_or l.moves k d) }
