use Rattle.std.proofs.Common.{◌≡◌, replicate, None}
use Rattle.volume_entry.proofs.heard.no_listings.Given as goal

abbrev pub invariant-loop-index : goal.invariant-loop-index
invariant-loop-index l = l.listings.items ≡ replicate l._index None
