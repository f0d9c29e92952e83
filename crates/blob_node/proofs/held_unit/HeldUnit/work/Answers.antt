-- Each request is one call on the unit.
use Rattle.std.proofs.Common.{◌∙◌, sym, ap, subst, ℕ, List}
use Rattle.unit_id.specs.UnitName.{Name}
use Rattle.unit_id.specs.declared.request.Request as sent
use Rattle.unit_id.specs.declared.request.Request.TheVariants as requests
use Rattle.blob_node.specs.HeldUnit.{name_of, WorksFrom}
use Rattle.blob_node.proofs.held_unit.HeldUnit.work.Goals as goal

pub returns-in-Fence-clause-told : goal.returns-in-Fence-clause-told
returns-in-Fence-clause-told g c = λ written units place held.
    subst (λ (r : sent.Request). WorksFrom g.E.Extent.seen r written units place c.args.self.now c.fence.new.self c.fence.result)
    (sym (c.in-Fence.is ∙ ap (λ (u : Name). requests.Fence u c.in-Fence.disk c.in-Fence.lock) (sym (ap name_of c.in-Fence.is) ∙ c.requires.own)))
    (c.fence.ensures.told c.in-Fence.disk written units place held)

pub returns-in-Put-clause-told : goal.returns-in-Put-clause-told
returns-in-Put-clause-told g c = λ written units place held.
    subst (λ (r : sent.Request). WorksFrom g.E.Extent.seen r written units place c.args.self.now c.put.new.self c.put.result)
    (sym (c.in-Put.is ∙ ap (λ (u : Name). requests.Put u c.in-Put.disk c.in-Put.bid c.in-Put.blob_size c.in-Put.bytes) (sym (ap name_of c.in-Put.is) ∙ c.requires.own)
    ∙ ap (λ (b : List ℕ). requests.Put c.args.self.now.chunk.unit c.in-Put.disk c.in-Put.bid c.in-Put.blob_size b) (sym c.as_slice.ensures)))
    (c.put.ensures.told c.in-Put.disk written units place held)

pub returns-in-Read-clause-told : goal.returns-in-Read-clause-told
returns-in-Read-clause-told g c = λ written units place held.
    subst (λ (r : sent.Request). WorksFrom g.E.Extent.seen r written units place c.args.self.now c.read.new.self c.read.result)
    (sym (c.in-Read.is ∙ ap (λ (u : Name). requests.Read u c.in-Read.disk c.in-Read.bid) (sym (ap name_of c.in-Read.is) ∙ c.requires.own)))
    (c.read.ensures.told c.in-Read.disk written units place held)

pub returns-in-List-clause-told : goal.returns-in-List-clause-told
returns-in-List-clause-told g c = λ written units place held.
    subst (λ (r : sent.Request). WorksFrom g.E.Extent.seen r written units place c.args.self.now c.list.new.self c.list.result)
    (sym (c.in-List.is ∙ ap (λ (u : Name). requests.List u c.in-List.disk c.in-List.lock) (sym (ap name_of c.in-List.is) ∙ c.requires.own)))
    (c.list.ensures.told c.in-List.disk written units place held)

pub returns-in-Copy-clause-told : goal.returns-in-Copy-clause-told
returns-in-Copy-clause-told g c = λ written units place held.
    subst (λ (r : sent.Request). WorksFrom g.E.Extent.seen r written units place c.args.self.now c.put-in-Copy.new.self c.put-in-Copy.result)
    (sym (c.in-Copy.is ∙ ap (λ (u : Name). requests.Copy u c.in-Copy.disk c.in-Copy.bid c.in-Copy.blob_size c.in-Copy.bytes) (sym (ap name_of c.in-Copy.is) ∙ c.requires.own)
    ∙ ap (λ (b : List ℕ). requests.Copy c.args.self.now.chunk.unit c.in-Copy.disk c.in-Copy.bid c.in-Copy.blob_size b) (sym c.as_slice-in-Copy.ensures)))
    (c.put-in-Copy.ensures.copied c.in-Copy.disk written units place held)

pub returns-in-Mark-clause-told : goal.returns-in-Mark-clause-told
returns-in-Mark-clause-told g c = λ written units place held.
    subst (λ (r : sent.Request). WorksFrom g.E.Extent.seen r written units place c.args.self.now c.mark.new.self c.mark.result)
    (sym (c.in-Mark.is ∙ ap (λ (u : Name). requests.Mark u c.in-Mark.disk c.in-Mark.bid) (sym (ap name_of c.in-Mark.is) ∙ c.requires.own)))
    (c.mark.ensures.told c.in-Mark.disk written units place held)

pub returns-in-Free-clause-told : goal.returns-in-Free-clause-told
returns-in-Free-clause-told g c = λ written units place held.
    subst (λ (r : sent.Request). WorksFrom g.E.Extent.seen r written units place c.args.self.now c.free.new.self c.free.result)
    (sym (c.in-Free.is ∙ ap (λ (u : Name). requests.Free u c.in-Free.disk c.in-Free.bid) (sym (ap name_of c.in-Free.is) ∙ c.requires.own)))
    (c.free.ensures.told c.in-Free.disk written units place held)

pub returns-in-Release-clause-told : goal.returns-in-Release-clause-told
returns-in-Release-clause-told g c = λ written units place held.
    subst (λ (r : sent.Request). WorksFrom g.E.Extent.seen r written units place c.args.self.now c.release.new.self c.release.result)
    (sym (c.in-Release.is ∙ ap (λ (u : Name). requests.Release u c.in-Release.disk) (sym (ap name_of c.in-Release.is) ∙ c.requires.own)))
    (c.release.ensures.told c.in-Release.disk written units place held)
