use Rattle.std.proofs.Common.{◌∙◌, ◌*◌, ℕ, arith}
use Rattle.std.proofs.lemmas.Simd.{length-replicate, get_or-replicate}
use Rattle.shard_record.proofs.Folds.{piece_leaves}
use Rattle.shard_record.proofs.folding.after_piece.Goals as goal

pub returns : goal.returns
returns c =
    let long = length-replicate {A = ℕ} 4608 0 in
    c.after_blocks.ensures
    ∙ piece_leaves c.args.bytes.now c.write_rest.new.window c.fold.new.window c.write_end.new.end c.args.rest (16 * c.args.blocks) c.ranges.rest.fits (omega (arith, c.requires.long))
    (omega (arith, c.fold.ensures.long, c.write_rest.ensures.long, long)) c.write_end.ensures.fits c.write_rest.ensures.word
    (λ k le lt. c.write_rest.ensures.others k le ∙ get_or-replicate 4608 k 0 0 (omega (arith, c.requires.long, c.requires.within)))
    c.fold.ensures c.write_end.ensures.folded
