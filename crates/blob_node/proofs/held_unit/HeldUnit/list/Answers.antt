-- What the chunk lists is what the unit answers.
use Rattle.std.proofs.Common.{subst, Bool}
use Rattle.chunk_store.specs.Chunk.{ListAnswers}
use Rattle.chunk_store.specs.Kept.{is_live, is_deleted, Lists}
use Rattle.blob_node.specs.HeldUnit.{UnitOver}
use Rattle.blob_node.proofs.ListWork.{lists_by}
use Rattle.blob_node.proofs.held_unit.HeldUnit.list.Goals as goal

pub returns-clause-told : goal.returns-clause-told
returns-clause-told g c = λ disk written units place held.
    lists_by g.E.Extent.seen c.args.self.now c.requires.open c.requires.sound written units place held (g.met.E.Extent.is_file c.args.self.now.chunk.log.file) c.args.lock disk c.list.result c.listing_answer.result
    (subst (λ (b : Bool). ListAnswers b (λ lists. Lists is_live c.args.self.now.chunk.kept lists.0 × Lists is_deleted c.args.self.now.chunk.kept lists.1) c.list.result) c.requires.open
    (subst (λ (u : UnitOver g.row.E.Denot). ListAnswers u.chunk.is_shut (λ lists. Lists is_live u.chunk.kept lists.0 × Lists is_deleted u.chunk.kept lists.1) c.list.result) c.self.view_is c.list.ensures))
    c.listing_answer.ensures
