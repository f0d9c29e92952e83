use Rattle.std.proofs.Common.{◌∙◌, w8}
use Rattle.std.proofs.lemmas.Simd.{length-swz_l}
use Rattle.gf256.proofs.HalfBytes.{low_halves, length-low_halves, low_halves_inside, low_found}
use Rattle.gf256.proofs.lanes.by_low_half.Goals as goal

pub swizzle : goal.swizzle
swizzle c = low_halves_inside c.args.bytes c.requires

pub returns-clause-long : goal.returns-clause-long
returns-clause-long c = length-swz_l w8 16 c.args.table 0 (low_halves c.args.bytes) ∙ length-low_halves c.args.bytes c.requires

pub returns-clause-each : goal.returns-clause-each
returns-clause-each c i lt = low_found c.args.table c.args.bytes i c.requires lt
