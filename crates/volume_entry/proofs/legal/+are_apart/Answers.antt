use Rattle.std.proofs.Common.{length, ◌-◌, take, drop}
use Rattle.volume_entry.proofs.Walks.{apart_both, apart_not, first_and_rest}
use Rattle.volume_entry.proofs.legal.+are_apart.Goals as goal

pub returns-then-is_before : goal.returns-then-is_before
returns-then-is_before t c =
    let all = c.args.grants.now in
    apart_both c.first-item.result (take (length all - 1) (drop 1 all)) all c.are_apart.result
    (first_and_rest all c.first-item.result c.in-len1-up.len_at_least c.first-item.is) c.if-is_before.ensures c.are_apart.ensures

pub returns-else-is_before : goal.returns-else-is_before
returns-else-is_before t c =
    let all = c.args.grants.now in
    rw c.if-is_before.false
    (apart_not c.first-item.result (take (length all - 1) (drop 1 all)) all
    (first_and_rest all c.first-item.result c.in-len1-up.len_at_least c.first-item.is) c.if-is_before.ensures)
