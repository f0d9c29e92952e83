use Rattle.std.proofs.Common.{◌≡◌, None}
use Rattle.volume_entry.proofs.TableLists.{done_to}
use Rattle.volume_entry.proofs.heard.forget_listings.Given as goal

abbrev pub invariant-loop-index : goal.invariant-loop-index
invariant-loop-index l = l.listings ≡ done_to (λ i x. None) l.index 0 l.fn.listings
