use Rattle.volume_entry.specs.RecordBytes.{record_of}
use Rattle.volume_entry.proofs.Replays.{not_first}
use Rattle.volume_entry.proofs.table.Table.made.Goals as goal

pub returns-then-not-are_first_homes : goal.returns-then-not-are_first_homes
returns-then-not-are_first_homes c =
    not_first c.args.vid c.args.shape (record_of c.in-Some.item) c.args.body.now c.in-Some-homes_in.homes.items (rw c.in-Some.is at c.in_ok-item.ensures)
    c.in-Some-homes_in.ensures.some (λ first. c.if-not-are_first_homes.ensures (rw c.deref.ensures.value first))
