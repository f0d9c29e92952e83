use Rattle.std.proofs.Common.{sym, ap}
use Rattle.std.proofs.lemmas.Result.{on_ok_weaker}
use Rattle.unit_id.specs.Messages.{place_at}
use Rattle.unit_id.specs.UnitName.{Name}
use Rattle.volume_entry.proofs.HeardAnswers.{rows_tell}
use Rattle.volume_entry.proofs.hearing.hear_rows.Goals as goal

pub returns-clause-heard : goal.returns-clause-heard
returns-clause-heard c =
    on_ok_weaker c.take_rows.result
    (rows_tell c.args.transfers.now c.args.moves.now c.take_rows.new.moves (place_at c.args.unit 0) c.unit.inside.index (ap (λ (n : Name). n.index) c.unit.view_is)
    (record { live = c.args.live.now; marked = c.args.marked.now }) (sym c.if-not-is_destination.ensures))
    c.take_rows.ensures.taken
