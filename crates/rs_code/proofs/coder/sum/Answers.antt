use Rattle.std.proofs.Common.{◌∙◌, ap, ◌∷◌, []}
use Rattle.std.specs.Prelude.{unwrap_or}
use Rattle.gf256.specs.Sums.{sums_of}
use Rattle.rs_code.specs.Shards.{bytes_of, size_of}
use Rattle.rs_code.proofs.Filled.{last_of_one}
use Rattle.rs_code.proofs.coder.sum.Goals as goal

pub returns : goal.returns
returns c =
    c.from_vec.ensures
    ∙ last_of_one (λ output. output.items) _ _ c.in-Some.output _ c.in-Some.ensures.items
    (c.in_ok-outputs.ensures ∙ ap (λ row. sums_of row (bytes_of c.args.shards.now c.args.places.now) (unwrap_or (size_of c.args.shards.now) 0) ∷ []) (c.in_ok-make.ensures ∙ c.as_slice.ensures))
