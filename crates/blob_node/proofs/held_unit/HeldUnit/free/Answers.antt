-- What the chunk did by its plan is what the unit answers.
use Rattle.std.proofs.Common.{ap, subst}
use Rattle.chunk_store.specs.Chunk.{Does, free_plan}
use Rattle.blob_node.specs.HeldUnit.{UnitOver}
use Rattle.blob_node.proofs.Requests.{free_call, free_works}
use Rattle.blob_node.proofs.held_unit.HeldUnit.free.Goals as goal

pub returns-clause-call : goal.returns-clause-call
returns-clause-call g c =
    free_call g.E.Extent.seen c.args.self.now.chunk c.free-outcome.new.self c.requires.open c.change_answer.result c.args.bid c.free-outcome.result
    (subst (λ (u : UnitOver g.row.E.Denot). Does g.E.Extent.seen (free_plan u.chunk c.args.bid) u.chunk c.free-outcome.new.self c.free-outcome.result) c.self.view_is c.free-outcome.ensures) c.change_answer.ensures

pub returns-clause-told : goal.returns-clause-told
returns-clause-told g c = λ disk written units place held.
    free_works g.E.Extent.seen c.args.self.now (record { chunk = c.free-outcome.new.self; doubt = c.doubt_by-self-inside.result; was_released = c.self.inside.was_released })
    c.requires.open c.requires.sound c.requires.unreleased (ap (λ (u : UnitOver g.row.E.Denot). u.was_released) c.self.view_is) (g.met.E.Extent.is_file c.free-outcome.new.self.log.file) c.change_answer.result written units place held disk c.args.bid c.free-outcome.result
    (subst (λ (u : UnitOver g.row.E.Denot). Does g.E.Extent.seen (free_plan u.chunk c.args.bid) u.chunk c.free-outcome.new.self c.free-outcome.result) c.self.view_is c.free-outcome.ensures)
    c.doubt_by-self-inside.ensures c.change_answer.ensures
