-- What the chunk shows of the blob is what the unit answers.
use Rattle.std.proofs.Common.{◌∙◌, ap, subst, sym}
use Rattle.chunk_store.specs.Chunk.{shown, IsReadOnly, HasRecords}
use Rattle.blob_node.specs.HeldUnit.{UnitOver}
use Rattle.blob_node.proofs.ReadWork.{read_works}
use Rattle.blob_node.proofs.held_unit.HeldUnit.read.Goals as goal

pub returns-clause-told : goal.returns-clause-told
returns-clause-told g c = λ disk written units place held.
    read_works g.E.Extent.seen c.args.self.now (record { chunk = c.get.new.self; doubt = c.self.inside.doubt; was_released = c.self.inside.was_released }) c.requires.open written units place held
    (subst (λ (u : UnitOver g.row.E.Denot). IsReadOnly (shown g.E.Extent.seen u.chunk) (shown g.E.Extent.seen c.get.new.self)) c.self.view_is c.get.ensures.same)
    (ap (λ (u : UnitOver g.row.E.Denot). u.doubt) c.self.view_is) (ap (λ (u : UnitOver g.row.E.Denot). u.was_released) c.self.view_is)
    c.args.bid disk c.got_answer.result c.get.result
    (c.get.ensures.told (ap (λ (u : UnitOver g.row.E.Denot). u.chunk.is_shut) c.self.view_is ∙ c.requires.open) written.items
    (subst (λ (u : UnitOver g.row.E.Denot). HasRecords (shown g.E.Extent.seen u.chunk) written.items) (sym c.self.view_is) (held.file.0 c.requires.open).0))
    c.got_answer.ensures
