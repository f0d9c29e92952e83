use Rattle.std.proofs.Common.{sym, ◌∙◌, arith}
use Rattle.std.proofs.lemmas.Grind.{same_number_lists}
use Rattle.disk_base.specs.Images.{misread}
use Rattle.disk_base.proofs.Misreads.{length-misread, get_or-misread}
use Rattle.disk_base.proofs.mem_file.misreport.Goals as goal

pub returns : goal.returns
returns c =
    let long = length-misread c.args.lies.now c.args.at c.args.out.now in
    same_number_lists c.loop-k.out (misread c.args.lies.now c.args.at c.args.out.now)
    (omega (arith, long, c.loop-k.auto.out))
    (λ k h. c.loop-k.invariant.0 k (omega (arith, h, c.loop-k.auto.out, c.loop-k-test.false)) ∙ sym (get_or-misread c.args.lies.now c.args.at c.args.out.now k (omega (arith, h, c.loop-k.auto.out))))
