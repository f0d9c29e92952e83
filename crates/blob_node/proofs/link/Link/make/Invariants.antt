-- So many disks have no plan yet.
use Rattle.std.proofs.Common.{◌≡◌, [], map, replicate}
use Rattle.blob_node.proofs.link.Link.make.Given as goal

abbrev pub invariant-loop : goal.invariant-loop
invariant-loop l = map (λ fates. fates.items) l.planned.items ≡ replicate l.counter []
