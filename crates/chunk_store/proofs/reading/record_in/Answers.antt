use Rattle.std.proofs.Common.{sym, subst, ◌∙◌, Err, inl, inr}
use Rattle.chunk_store.specs.Reading.{RecordAnswers}
use Rattle.chunk_store.proofs.ReadRecords.{refused, foreign, read_whole, other_name}
use Rattle.chunk_store.proofs.reading.record_in.Goals as goal
use Rattle.chunk_store.proofs.reading.record_in.Goals.{then-is_released-via-then-is_released, then-is_released-via-else-is_released+then-ne}

pub returns-in-Err : goal.returns-in-Err
returns-in-Err c =
    subst (λ fault. RecordAnswers c.args.unit c.args.is_released c.args.place c.args.body.now (Err fault)) (sym c.fault_of.ensures)
    (refused c.args.unit c.args.is_released c.args.place c.args.body.now (λ k. (c.type_inv.body k).fits) c.in-Err.fault c.in-Err.ensures.fault)

pub returns-then-is_released : goal.returns-then-is_released
returns-then-is_released c =
    foreign c.args.unit c.args.is_released c.args.place c.args.body.now (λ k. (c.type_inv.body k).fits) c.in-Ok.item c.in-Ok.ensures.spelled (read_whole c.in-Ok.item _ c.in-Ok.ensures.fault)
    (elim c.then-is_released.branch [
      | then-is_released-via-then-is_released w ↦ inl w.if-is_released.true
      | then-is_released-via-else-is_released+then-ne w ↦ inr (λ own. other_name w.unit.result c.args.unit (sym w.if-ne.true ∙ w.ne.ensures) (w.unit.ensures ∙ own))
    ])
