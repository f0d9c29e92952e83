use Rattle.std.proofs.Common.{◌≡◌, ◌∙◌, sym, arith}
use Rattle.rs_code.specs.ShardValue.{weights}
use Rattle.rs_code.proofs.Missing.{made_first, made_skip, made_more, made_last}
use Rattle.rs_code.proofs.interpolate.missing_weights.Goals.{then-not-holds+in_ok-row+in_ok-make+in_ok-push, else-not-holds}
use Rattle.rs_code.proofs.interpolate.missing_weights.Goals as goal

pub loop-k-preserved : goal.loop-k-preserved
loop-k-preserved c = elim c.if-not-holds.branch [
  | then-not-holds+in_ok-row+in_ok-make+in_ok-push w ↦
      let row : w.in_ok-make.field-0 ≡ weights c.args.places.now c.loop-k.k = w.in_ok-make.ensures ∙ w.as_slice.ensures ∙ w.in_ok-row.ensures.fits in
      rw (w.rows-is, w.kept-is, w.in_ok-push.ensures.items, row) (record {
        rows = made_more (weights c.args.places.now) c.args.shards.now c.loop-k.rows.items c.loop-k.k (omega arith) (sym c.holds.ensures ∙ w.if-not-holds.true) ∙ c.loop-k.invariant.rows;
        fit = w.in_ok-row.ensures.fit;
      })
  | else-not-holds w ↦ rw (w.rows-is, w.kept-is) (record {
    rows = made_skip (weights c.args.places.now) c.args.shards.now c.loop-k.rows.items c.loop-k.k (omega arith) (sym c.holds.ensures ∙ w.if-not-holds.false) ∙ c.loop-k.invariant.rows;
    fit = c.loop-k.invariant.fit;
  })
]

pub returns-clause-rows : goal.returns-clause-rows
returns-clause-rows c =
    sym (made_last (weights c.args.places.now) c.args.shards.now c.loop-k.rows.items c.loop-k.k (omega arith))
    ∙ c.loop-k.invariant.rows
    ∙ made_first (weights c.args.places.now) c.args.shards.now
