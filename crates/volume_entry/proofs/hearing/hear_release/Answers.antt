use Rattle.std.proofs.Common.{sym, ap}
use Rattle.unit_id.specs.Messages.{place_at}
use Rattle.unit_id.specs.UnitName.{Name}
use Rattle.volume_entry.proofs.HeardAnswers.{release_tells}
use Rattle.volume_entry.proofs.hearing.hear_release.Goals as goal

pub returns : goal.returns
returns c =
    release_tells c.args.transfers.now c.args.moves.now c.release.new.moves (place_at c.args.unit c.args.disk) c.unit.inside.index (ap (λ (n : Name). n.index) c.unit.view_is)
    (sym c.if-not-is_old_there.ensures) c.release.ensures
