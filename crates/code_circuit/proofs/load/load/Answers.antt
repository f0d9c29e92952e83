use Rattle.std.proofs.Common.{◌∙◌, arith, get_or, [], length-set, below_more}
use Rattle.gf256.specs.Rows.{contents}
use Rattle.code_circuit.specs.Steps.{piece_of}
use Rattle.code_circuit.proofs.Filling.{written_more, all_written}
use Rattle.code_circuit.proofs.load.load.Goals as goal

pub loop-k-preserved : goal.loop-k-preserved
loop-k-preserved c = record {
  long = length-set c.loop-k.registers.items c.loop-k.k c.load_register.new.register ∙ c.loop-k.invariant.long;
  done = written_more (λ register. register.items) (λ k. piece_of (get_or (contents c.args.sources.now) k []) c.args.from c.args.size) c.loop-k.registers.items c.loop-k.k c.load_register.new.register
      (omega (arith, c.loop-k-test.true, c.len-k-end.ensures, c.loop-k.invariant.long, c.args.registers.now.ok.0)) c.loop-k.invariant.done c.in_ok-load_register.ensures.register;
  bytes = below_more _ _ c.loop-k.invariant.bytes c.load_register.ensures.bytes;
}

pub returns-clause-loaded : goal.returns-clause-loaded
returns-clause-loaded c =
    all_written (λ register. register.items) (λ k. piece_of (get_or (contents c.args.sources.now) k []) c.args.from c.args.size) c.loop-k.registers.items _ c.loop-k.invariant.long
    (λ j lt. c.loop-k.invariant.done j (omega (arith, c.loop-k-test.false, c.len-k-end.ensures, c.args.registers.now.ok.0)))

pub returns-clause-bytes : goal.returns-clause-bytes
returns-clause-bytes c number lt = c.loop-k.invariant.bytes number (omega (arith, c.loop-k-test.false, c.len-k-end.ensures, c.args.registers.now.ok.0))
