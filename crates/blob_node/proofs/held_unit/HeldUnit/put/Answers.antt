-- What the chunk did by its plan is what the unit answers.
use Rattle.std.proofs.Common.{ap, subst}
use Rattle.chunk_store.specs.Chunk.{Does, put_plan}
use Rattle.blob_node.specs.HeldUnit.{UnitOver}
use Rattle.blob_node.proofs.Requests.{put_call, put_works, copy_works}
use Rattle.blob_node.proofs.held_unit.HeldUnit.put.Goals as goal

pub returns-clause-call : goal.returns-clause-call
returns-clause-call g c =
    put_call g.E.Extent.seen c.args.self.now.chunk c.put-outcome.new.self c.requires.open c.put_answer.result c.args.bid c.args.blob_size c.args.bytes.now c.put-outcome.result
    (subst (λ (u : UnitOver g.row.E.Denot). Does g.E.Extent.seen (put_plan u.chunk c.args.bid c.args.blob_size c.args.bytes.now) u.chunk c.put-outcome.new.self c.put-outcome.result) c.self.view_is c.put-outcome.ensures) c.put_answer.ensures

pub returns-clause-told : goal.returns-clause-told
returns-clause-told g c = λ disk written units place held.
    put_works g.E.Extent.seen c.args.self.now (record { chunk = c.put-outcome.new.self; doubt = c.doubt_by-self-inside.result; was_released = c.self.inside.was_released })
    c.requires.open c.requires.sound c.requires.unreleased (ap (λ (u : UnitOver g.row.E.Denot). u.was_released) c.self.view_is) (g.met.E.Extent.is_file c.put-outcome.new.self.log.file) c.put_answer.result written units place held disk c.args.bid c.args.blob_size c.args.bytes.now c.put-outcome.result
    (subst (λ (u : UnitOver g.row.E.Denot). Does g.E.Extent.seen (put_plan u.chunk c.args.bid c.args.blob_size c.args.bytes.now) u.chunk c.put-outcome.new.self c.put-outcome.result) c.self.view_is c.put-outcome.ensures)
    c.doubt_by-self-inside.ensures c.put_answer.ensures

pub returns-clause-copied : goal.returns-clause-copied
returns-clause-copied g c = λ disk written units place held.
    copy_works g.E.Extent.seen c.args.self.now (record { chunk = c.put-outcome.new.self; doubt = c.doubt_by-self-inside.result; was_released = c.self.inside.was_released })
    c.requires.open c.requires.sound c.requires.unreleased (ap (λ (u : UnitOver g.row.E.Denot). u.was_released) c.self.view_is) (g.met.E.Extent.is_file c.put-outcome.new.self.log.file) c.put_answer.result written units place held disk c.args.bid c.args.blob_size c.args.bytes.now c.put-outcome.result
    (subst (λ (u : UnitOver g.row.E.Denot). Does g.E.Extent.seen (put_plan u.chunk c.args.bid c.args.blob_size c.args.bytes.now) u.chunk c.put-outcome.new.self c.put-outcome.result) c.self.view_is c.put-outcome.ensures)
    c.doubt_by-self-inside.ensures c.put_answer.ensures
