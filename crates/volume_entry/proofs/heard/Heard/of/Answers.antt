use Rattle.std.proofs.Common.{sym, subst, map, ap, ◌∙◌, arith}
use Rattle.volume_entry.specs.Manager.{Transfer}
use Rattle.volume_entry.specs.HeardMemory.{has_mark}
use Rattle.volume_entry.specs.HeardCalls.{AreFresh}
use Rattle.volume_entry.proofs.HeardSteps.{unheard_remembers}
use Rattle.volume_entry.proofs.heard.Heard.of.Goals as goal

pub returns : goal.returns
returns c m heard marks lock =
    unheard_remembers c.args.total c.args.total _ m (omega arith) c.in_ok-listings.ensures
    (subst (λ ts. AreFresh (map (λ (t : Transfer). t.index) ts) c.in_ok-moves.moves.items) (sym lock) c.in_ok-moves.ensures)
    (λ bid index epoch. ap (λ ms. has_mark ms bid index epoch) (c.none-marks.ensures ∙ sym marks)) heard
