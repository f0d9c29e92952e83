use Rattle.std.proofs.Common.{◌≡◌, sym, subst, rules}
use Rattle.std.specs.List.Sorted.{IsStrictlyIncreasing}
use Rattle.std.proofs.lemmas.Map.Keys.{IsStrictlyIncreasing-from_sorted}
use Rattle.std.specs.Map.{keys_of}
use Rattle.disk_base.proofs.mem_shelf.MemShelfShelf.names.Goals as goal

pub returns-clause-ascend : goal.returns-clause-ascend
returns-clause-ascend c =
    let keys = keys_of c.self.inside.slots.entries in
    let is : c.in_ok-names.names.items ≡ keys = search rules in
    subst IsStrictlyIncreasing (sym is) (IsStrictlyIncreasing-from_sorted keys c.keys.ensures.ordered)
