use Rattle.std.proofs.Common.{arith, length, ◌≡◌}
use Rattle.std.proofs.lemmas.Bool.Decides.{nat_tests}
use Rattle.volume_entry.proofs.RecordKinds.{swapped_has}
use Rattle.volume_entry.proofs.RecordReads.{swapped_is}
use Rattle.volume_entry.proofs.reading.read_swapped.Goals as goal

pub returns-then-not-is_empty : goal.returns-then-not-is_empty
returns-then-not-is_empty c = λ vid mode item h.
    let none = swapped_has vid mode c.args.fields.now item h in
    let is = c.is_empty.ensures in
    let not = c.if-not-is_empty.true in
    absurd (grind (arith, nat_tests))

pub returns : goal.returns
returns c = λ vid mode.
    let is = c.is_empty.ensures in
    let not = c.if-not-is_empty.false in
    let none : length c.args.fields.now ≡ 0 = grind (arith, nat_tests) in
    swapped_is vid mode c.args.fields.now none
