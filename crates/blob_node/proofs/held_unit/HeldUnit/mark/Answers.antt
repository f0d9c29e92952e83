-- What the chunk did by its plan is what the unit answers.
use Rattle.std.proofs.Common.{ap, subst}
use Rattle.chunk_store.specs.Chunk.{Does, mark_plan}
use Rattle.blob_node.specs.HeldUnit.{UnitOver}
use Rattle.blob_node.proofs.Requests.{mark_call, mark_works}
use Rattle.blob_node.proofs.held_unit.HeldUnit.mark.Goals as goal

pub returns-clause-call : goal.returns-clause-call
returns-clause-call g c =
    mark_call g.E.Extent.seen c.args.self.now.chunk c.mark-outcome.new.self c.requires.open c.change_answer.result c.args.bid c.mark-outcome.result
    (subst (λ (u : UnitOver g.row.E.Denot). Does g.E.Extent.seen (mark_plan u.chunk c.args.bid) u.chunk c.mark-outcome.new.self c.mark-outcome.result) c.self.view_is c.mark-outcome.ensures) c.change_answer.ensures

pub returns-clause-told : goal.returns-clause-told
returns-clause-told g c = λ disk written units place held.
    mark_works g.E.Extent.seen c.args.self.now (record { chunk = c.mark-outcome.new.self; doubt = c.doubt_by-self-inside.result; was_released = c.self.inside.was_released })
    c.requires.open c.requires.sound c.requires.unreleased (ap (λ (u : UnitOver g.row.E.Denot). u.was_released) c.self.view_is) (g.met.E.Extent.is_file c.mark-outcome.new.self.log.file) c.change_answer.result written units place held disk c.args.bid c.mark-outcome.result
    (subst (λ (u : UnitOver g.row.E.Denot). Does g.E.Extent.seen (mark_plan u.chunk c.args.bid) u.chunk c.mark-outcome.new.self c.mark-outcome.result) c.self.view_is c.mark-outcome.ensures)
    c.doubt_by-self-inside.ensures c.change_answer.ensures
