use Rattle.std.proofs.Common.{◌≡◌, ◌-◌, ◌≤◌, ◌++◌, max, length, replicate, None}
use Rattle.rs_code.proofs.shards.grow.Given as goal

abbrev pub invariant-loop : goal.invariant-loop
invariant-loop l = record {
  grown : l.rows.items ≡ l.initial.rows.items ++ replicate (l.counter - length l.initial.rows.items) None;
  long : length l.rows.items ≡ l.counter;
  no_less : length l.initial.rows.items ≤ l.counter;
  no_more : l.counter ≤ max (length l.initial.rows.items) l.least;
}
