-- The plan goes to the disk's queue, and for want of memory it stays as it was.
use Rattle.std.proofs.Common.{◌≡◌, ◌++◌, ◌-◌, subst, sym, replicate, map}
use Rattle.std.proofs.lemmas.Result.{on_ok_weaker, on_err_weaker}
use Rattle.std.proofs.Math.ListN.{set}
use Rattle.blob_node.specs.Link.{fates_of, with_fates, IsDiskOf, Planned}
use Rattle.blob_node.proofs.Plans.{added, unchanged}
use Rattle.blob_node.proofs.link.Link.plan.Goals as goal

pub returns-clause-planned : goal.returns-clause-planned
returns-clause-planned c =
    on_ok_weaker c.add.result (λ same.
    subst (λ (s : Planned). map (λ fates. fates.items) (set c.self.inside.planned.items (c.args.disk - 1) c.add.new.fates) ≡ with_fates s c.args.disk (fates_of s c.args.disk ++ replicate c.args.count c.args.fate)) c.self.view_is
    (added (λ fates. fates.items) c.self.inside.planned.items c.args.disk (subst (λ (s : Planned). IsDiskOf s c.args.disk) (sym c.self.view_is) c.requires) c.index_mut.result.now c.index_mut.ensures.value c.add.new.fates (replicate c.args.count c.args.fate) same)) c.add.ensures.ok

pub returns-clause-err : goal.returns-clause-err
returns-clause-err c =
    on_err_weaker c.add.result (λ same.
    subst (λ (s : Planned). map (λ fates. fates.items) (set c.self.inside.planned.items (c.args.disk - 1) c.add.new.fates) ≡ s) c.self.view_is
    (unchanged (λ fates. fates.items) c.self.inside.planned.items c.args.disk (subst (λ (s : Planned). IsDiskOf s c.args.disk) (sym c.self.view_is) c.requires) c.index_mut.result.now c.index_mut.ensures.value c.add.new.fates same)) c.add.ensures.err
