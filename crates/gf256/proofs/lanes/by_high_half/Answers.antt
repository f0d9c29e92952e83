use Rattle.std.proofs.Common.{◌∙◌, w8}
use Rattle.std.proofs.lemmas.Simd.{length-swz_l}
use Rattle.gf256.proofs.HalfBytes.{high_halves, length-high_halves, high_halves_inside, high_found, lane_below}
use Rattle.gf256.proofs.lanes.by_high_half.Goals as goal

pub swizzle : goal.swizzle
swizzle c = high_halves_inside c.args.bytes c.requires.long c.requires.fits

pub returns-clause-long : goal.returns-clause-long
returns-clause-long c = length-swz_l w8 16 c.args.table 0 (high_halves c.args.bytes) ∙ length-high_halves c.args.bytes c.requires.long

pub returns-clause-each : goal.returns-clause-each
returns-clause-each c i lt = high_found c.args.table c.args.bytes i c.requires.long lt (lane_below c.args.bytes i c.requires.fits)
