use Rattle.std.proofs.Common.{◌≡◌}
use Rattle.volume_entry.proofs.TableLists.{done_to, redirected_one}
use Rattle.volume_entry.proofs.held.redirect.Given as goal

abbrev pub invariant-loop-place : goal.invariant-loop-place
invariant-loop-place l = l.transfers ≡ done_to (redirected_one l.grant) l.place 0 l.initial.transfers
