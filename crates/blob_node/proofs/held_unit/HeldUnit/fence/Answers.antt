-- What the chunk did by its plan is what the unit answers.
use Rattle.std.proofs.Common.{ap, subst}
use Rattle.chunk_store.specs.Chunk.{Does, fence_plan}
use Rattle.blob_node.specs.HeldUnit.{UnitOver}
use Rattle.blob_node.proofs.Requests.{fence_call, fence_works}
use Rattle.blob_node.proofs.held_unit.HeldUnit.fence.Goals as goal

pub returns-clause-call : goal.returns-clause-call
returns-clause-call g c =
    fence_call g.E.Extent.seen c.args.self.now.chunk c.fence-outcome.new.self c.requires.open c.unit_answer.result c.args.lock c.fence-outcome.result
    (subst (λ (u : UnitOver g.row.E.Denot). Does g.E.Extent.seen (fence_plan u.chunk c.args.lock) u.chunk c.fence-outcome.new.self c.fence-outcome.result) c.self.view_is c.fence-outcome.ensures) c.unit_answer.ensures

pub returns-clause-told : goal.returns-clause-told
returns-clause-told g c = λ disk written units place held.
    fence_works g.E.Extent.seen c.args.self.now (record { chunk = c.fence-outcome.new.self; doubt = c.doubt_by-self-inside.result; was_released = c.self.inside.was_released })
    c.requires.open c.requires.sound c.requires.unreleased (ap (λ (u : UnitOver g.row.E.Denot). u.was_released) c.self.view_is) (g.met.E.Extent.is_file c.fence-outcome.new.self.log.file) c.unit_answer.result written units place held disk c.args.lock c.fence-outcome.result
    (subst (λ (u : UnitOver g.row.E.Denot). Does g.E.Extent.seen (fence_plan u.chunk c.args.lock) u.chunk c.fence-outcome.new.self c.fence-outcome.result) c.self.view_is c.fence-outcome.ensures)
    c.doubt_by-self-inside.ensures c.unit_answer.ensures
