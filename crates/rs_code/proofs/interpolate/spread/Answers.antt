use Rattle.std.proofs.Common.{◌+◌, ◌∙◌, sym, ap, cond, arith, map, drop, Some, None}
use Rattle.rs_code.specs.Shards.{missing_from}
use Rattle.rs_code.proofs.Missing.{spread_held, spread_missing, rows_more}
use Rattle.rs_code.proofs.interpolate.spread.Goals.{then-holds+in_ok-push, else-holds+in_ok-push-2}
use Rattle.rs_code.proofs.interpolate.spread.Goals as goal

pub loop-k-preserved : goal.loop-k-preserved
loop-k-preserved c row_of same =
    let before = c.loop-k.invariant row_of same in
    elim c.if-holds.branch [
      | then-holds+in_ok-push w ↦
          let more = spread_held row_of c.args.shards.now c.loop-k.k _ (omega arith) (sym c.holds.ensures ∙ w.if-holds.true) before.1 in
          rw (w.rows-is, w.left-is) (rows_more c.args.shards.now row_of c.loop-k.k c.loop-k.rows.items _ None before.0 more.0 w.in_ok-push.ensures.items, more.1)
      | else-holds+in_ok-push-2 w ↦
          let none = sym c.holds.ensures ∙ w.if-holds.false in
          let next = w.next_of.ensures (row_of c.loop-k.k) (map row_of (missing_from (c.loop-k.k + 1) (drop (c.loop-k.k + 1) c.args.shards.now)))
          (spread_missing row_of c.args.shards.now c.loop-k.k _ (omega arith) none before.1) in
          rw (w.rows-is, w.left-is) (rows_more c.args.shards.now row_of c.loop-k.k c.loop-k.rows.items _ w.next_of.result before.0 (next.0 ∙ sym (ap (λ t. cond t None (Some (row_of c.loop-k.k))) none)) w.in_ok-push-2.ensures.items, next.1)
    ]
