-- What the chunk did by its plan is what the unit answers.
use Rattle.std.proofs.Common.{ap, subst}
use Rattle.chunk_store.specs.Chunk.{Does, release_plan}
use Rattle.blob_node.specs.HeldUnit.{UnitOver}
use Rattle.blob_node.proofs.Requests.{release_works}
use Rattle.blob_node.proofs.held_unit.HeldUnit.release.Goals as goal

pub returns-clause-told : goal.returns-clause-told
returns-clause-told g c = λ disk written units place held.
    release_works g.E.Extent.seen c.args.self.now (record { chunk = c.release-outcome.new.self; doubt = c.doubt_by-self-inside.result; was_released = c.self.inside.was_released })
    c.requires.open c.requires.sound c.requires.unreleased (ap (λ (u : UnitOver g.row.E.Denot). u.was_released) c.self.view_is) (g.met.E.Extent.is_file c.release-outcome.new.self.log.file) c.unit_answer.result written units place held disk c.release-outcome.result
    (subst (λ (u : UnitOver g.row.E.Denot). Does g.E.Extent.seen (release_plan u.chunk) u.chunk c.release-outcome.new.self c.release-outcome.result) c.self.view_is c.release-outcome.ensures)
    c.doubt_by-self-inside.ensures c.unit_answer.ensures
