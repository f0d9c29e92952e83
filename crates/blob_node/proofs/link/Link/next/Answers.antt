-- The other disks keep their plans.
use Rattle.std.proofs.Common.{◌≡◌, ◌-◌, subst, sym, map, drop}
use Rattle.std.proofs.Math.ListN.{set}
use Rattle.blob_node.specs.Link.{fates_of, with_fates, IsDiskOf, Planned}
use Rattle.blob_node.proofs.Plans.{taken}
use Rattle.blob_node.proofs.link.Link.next.Goals as goal

pub returns-clause-taken : goal.returns-clause-taken
returns-clause-taken c =
    subst (λ (s : Planned). map (λ fates. fates.items) (set c.self.inside.planned.items (c.args.disk - 1) c.pop_front.new.self) ≡ with_fates s c.args.disk (drop 1 (fates_of s c.args.disk))) c.self.view_is
    (taken (λ fates. fates.items) c.self.inside.planned.items c.args.disk (subst (λ (s : Planned). IsDiskOf s c.args.disk) (sym c.self.view_is) c.requires) c.index_mut.result.now c.index_mut.ensures.value c.pop_front.new.self c.pop_front.ensures.rest)
