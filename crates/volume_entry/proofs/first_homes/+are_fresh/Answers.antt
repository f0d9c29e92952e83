use Rattle.std.proofs.Common.{length, ◌-◌, take, drop}
use Rattle.volume_entry.specs.TableParts.{shape_of}
use Rattle.volume_entry.proofs.FirstHomes.{fresh_both, fresh_not, first_and_rest}
use Rattle.volume_entry.proofs.first_homes.+are_fresh.Goals as goal

pub returns-then-is_fresh : goal.returns-then-is_fresh
returns-then-is_fresh t c =
    let all = c.args.homes.now in
    fresh_both (shape_of c.args.shape) c.first-item.result (take (length all - 1) (drop 1 all)) all c.are_fresh.result
    (first_and_rest all c.first-item.result c.in-len1-up.len_at_least c.first-item.is) c.if-is_fresh.ensures c.are_fresh.ensures

pub returns-else-is_fresh : goal.returns-else-is_fresh
returns-else-is_fresh t c =
    let all = c.args.homes.now in
    rw c.if-is_fresh.false
    (fresh_not (shape_of c.args.shape) c.first-item.result (take (length all - 1) (drop 1 all)) all
    (first_and_rest all c.first-item.result c.in-len1-up.len_at_least c.first-item.is) c.if-is_fresh.ensures)
