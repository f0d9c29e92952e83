use Rattle.std.proofs.Common.{refl, arith, map, below_more}
use Rattle.std.proofs.lemmas.Bool.{false≢true}
use Rattle.code_circuit.proofs.Tables.{row_differs, row_agrees, all_agree}
use Rattle.code_circuit.proofs.table.has_rows.Goals as goal

pub returns-then-ne : goal.returns-then-ne
returns-then-ne c = (
  λ e. absurd (false≢true e),
  λ e. absurd (row_differs (λ row. row.items) c.args.table.now c.args.outputs.now c.args.rows.now c.loop-k.k c.index-table-outputs.result _ c.as_slice.result.now c.loop-k-test.true (omega (arith, c.loop-k.invariant.long))
      (c.requires c.loop-k.k 0 c.loop-k-test.true) c.index-table-outputs.is c.as_slice.ensures.value c.if-ne.ensures e),
)

pub loop-k-preserved : goal.loop-k-preserved
loop-k-preserved c = record {
  long = c.loop-k.invariant.long;
  same = below_more _ _ c.loop-k.invariant.same
      (row_agrees (λ row. row.items) c.args.table.now c.args.outputs.now c.args.rows.now c.loop-k.k c.index-table-outputs.result _ c.as_slice.result.now (omega (arith, c.loop-k.invariant.long))
      (c.requires c.loop-k.k 0 c.loop-k-test.true) c.index-table-outputs.is c.as_slice.ensures.value c.if-ne.ensures);
}

pub returns : goal.returns
returns c = (
  λ _. all_agree (map (λ row. row.items) c.args.table.now) c.args.outputs.now c.args.rows.now c.loop-k.invariant.long (λ j lt. c.loop-k.invariant.same j (omega (arith, c.loop-k-test.false))),
  λ _. refl,
)
