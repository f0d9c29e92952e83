use Rattle.std.proofs.Common.{◌∙◌, ap, arith, get_or, map, [], ◌++◌, length-set}
use Rattle.code_circuit.specs.Steps.{picked}
use Rattle.code_circuit.proofs.Filling.{written_more, others_left, all_written, appended}
use Rattle.code_circuit.proofs.load.keep.Goals as goal

pub loop-k-preserved : goal.loop-k-preserved
loop-k-preserved c =
    let old = map (λ output. output.items) c.args.outputs.now.items in
    let held = c.index_mut.result.now in
    let register = c.index-registers-places.result in
    record {
      long = length-set c.loop-k.outputs.items c.loop-k.k c.extend_from_slice.new.self ∙ c.loop-k.invariant.long;
      done = written_more (λ output. output.items) (λ j. get_or old j [] ++ get_or (picked c.args.places.now (map (λ register. register.items) c.args.registers.now)) j []) c.loop-k.outputs.items c.loop-k.k c.extend_from_slice.new.self
          (omega (arith, c.loop-k-test.true, c.loop-k.invariant.long, c.requires.long)) c.loop-k.invariant.done
          (c.in_ok-extend_from_slice.ensures.items ∙ ap (λ xs. held.items ++ xs) c.deref.ensures.value
          ∙ appended (λ list. list.items) c.loop-k.outputs.items c.args.registers.now old c.args.places.now c.loop-k.k held register
          (omega (arith, c.loop-k-test.true, c.loop-k.invariant.long, c.requires.long)) c.loop-k-test.true (c.requires.inside c.loop-k.k 0 c.loop-k-test.true)
          c.index_mut.ensures.value c.index-registers-places.is (c.loop-k.invariant.left c.loop-k.k (omega arith)));
      left = λ j le. others_left (λ output. output.items) c.loop-k.outputs.items c.loop-k.k j c.extend_from_slice.new.self le ∙ c.loop-k.invariant.left j (omega arith);
    }

pub returns-clause-kept : goal.returns-clause-kept
returns-clause-kept c =
    let old = map (λ output. output.items) c.args.outputs.now.items in
    all_written (λ output. output.items) (λ j. get_or old j [] ++ get_or (picked c.args.places.now (map (λ register. register.items) c.args.registers.now)) j []) c.loop-k.outputs.items _ (c.loop-k.invariant.long ∙ c.requires.long)
    (λ j lt. c.loop-k.invariant.done j (omega (arith, c.loop-k-test.false)))
