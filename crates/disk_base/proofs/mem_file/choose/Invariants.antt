use Rattle.std.proofs.Common.{◌≡◌, ◌≤◌, ◌++◌, take, drop}
use Rattle.disk_base.specs.History.{epoch_of}
use Rattle.disk_base.specs.Images.{chosen}
use Rattle.disk_base.proofs.mem_file.choose.Given as goal

-- up to here the bytes are chosen, and the rest of the choice goes to those behind
abbrev pub invariant-loop-place : goal.invariant-loop-place
invariant-loop-place l =
    let epoch = epoch_of l.initial.bytes l.settled_end l.changes in
    (chosen epoch 0 l.initial.bytes l.choice ≡ take l.place l.bytes ++ chosen epoch l.place (drop l.place l.bytes) (drop l.used l.choice)) × (l.used ≤ l.place)
