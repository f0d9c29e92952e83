use Rattle.std.proofs.Common.{◌∙◌, bit_xor, arith}
use Rattle.std.proofs.lemmas.Simd.{length-zip2}
use lib.Lanes.{zip2}
use Rattle.gf256.proofs.HalfBytes.{lane_below, lane_sum}
use Rattle.gf256.proofs.lanes.plus_products.Goals as goal

pub returns-clause-long : goal.returns-clause-long
returns-clause-long c =
    let low = c.by_low_half-low.result in
    let high = c.by_high_half-high.result in
    let inner = length-zip2 bit_xor c.args.sums low (omega arith) in
    length-zip2 bit_xor (zip2 bit_xor c.args.sums low) high (omega arith) ∙ inner ∙ c.requires.sums

pub returns-clause-added : goal.returns-clause-added
returns-clause-added c factor halves = record {
  long = returns-clause-long c;
  each = λ i lt. lane_sum factor i c.args.halves.now.low c.args.halves.now.high c.args.bytes c.args.sums c.by_low_half-low.result c.by_high_half-high.result halves
      c.requires.sums c.by_low_half-low.ensures.long c.by_high_half-high.ensures.long lt (lane_below c.args.bytes i c.requires.fits)
      (c.by_low_half-low.ensures.each i lt) (c.by_high_half-high.ensures.each i lt);
}
