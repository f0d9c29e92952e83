use Rattle.std.proofs.Common.{◌≡◌, ◌<◌, length, get_or, take, ◌∙◌, ap, subst}
use Rattle.std.specs.Prelude.{is_some, unwrap_or}
use Rattle.gf256.specs.Sums.{sums_of}
use Rattle.rs_code.specs.Shards.{shard_at, held, size_of, bytes_of}
use Rattle.rs_code.specs.ShardValue.{weights, row_through, rebuilt}
use Rattle.rs_code.proofs.Held.{taken_is_held}
use Rattle.rs_code.proofs.Weights.{row_by_weights}
use Rattle.rs_code.proofs.coder.Coder.rebuild.Goals as goal

pub sum-requires-clause-held : goal.sum-requires-clause-held
sum-requires-clause-held c i h =
    let places : c.deref-then-contains-2.result.now ≡ take c.self.inside.data_shards (held c.args.shards.now) = c.deref-then-contains-2.ensures.value ∙ c.in_ok-places.ensures in
    let below : i < length (take c.self.inside.data_shards (held c.args.shards.now)) = subst (λ xs. i < length xs) places h in
    ap (λ xs. is_some (shard_at c.args.shards.now (get_or xs i 0))) places ∙ taken_is_held c.self.inside.data_shards c.args.shards.now i below

pub looked_up-requires : goal.looked_up-requires
looked_up-requires c i h =
    let places : c.deref-2.result.now ≡ take c.self.inside.data_shards (held c.args.shards.now) = c.deref-2.ensures.value ∙ c.in_ok-places.ensures in
    let below : i < length (take c.self.inside.data_shards (held c.args.shards.now)) = subst (λ xs. i < length xs) places h in
    ap (λ xs. is_some (shard_at c.args.shards.now (get_or xs i 0))) places ∙ taken_is_held c.self.inside.data_shards c.args.shards.now i below

pub returns-then-contains-clause-value : goal.returns-then-contains-clause-value
unfolding rebuilt
returns-then-contains-clause-value c =
    let shards = c.args.shards.now in
    let places : c.deref-then-contains.result.now ≡ take c.self.inside.data_shards (held c.args.shards.now) = c.deref-then-contains.ensures.value ∙ c.in_ok-places.ensures in
    let same : c.deref-then-contains-2.result.now ≡ take c.self.inside.data_shards (held c.args.shards.now) = c.deref-then-contains-2.ensures.value ∙ c.in_ok-places.ensures in
    let count : c.self.inside.data_shards ≡ c.args.self.now.data_shards = ap (λ coder. coder.data_shards) c.self.view_is in
    c.in_ok-sum.ensures
    ∙ ap (λ row. sums_of row (bytes_of shards c.deref-then-contains-2.result.now) (unwrap_or (size_of shards) 0)) (c.in_ok-row.ensures ∙ ap (λ xs. weights xs c.args.want) places)
    ∙ ap (λ xs. sums_of (weights (take c.self.inside.data_shards (held shards)) c.args.want) (bytes_of shards xs) (unwrap_or (size_of shards) 0)) same
    ∙ row_by_weights shards (take c.self.inside.data_shards (held shards)) c.args.want
    ∙ ap (λ n. row_through shards (take n (held shards)) c.args.want) count

pub returns-clause-value : goal.returns-clause-value
unfolding rebuilt
returns-clause-value c =
    let shards = c.args.shards.now in
    let places : c.deref-2.result.now ≡ take c.self.inside.data_shards (held c.args.shards.now) = c.deref-2.ensures.value ∙ c.in_ok-places.ensures in
    let count : c.self.inside.data_shards ≡ c.args.self.now.data_shards = ap (λ coder. coder.data_shards) c.self.view_is in
    c.in_ok-looked_up.ensures.value
    ∙ ap (λ xs. row_through shards xs c.args.want) places
    ∙ ap (λ n. row_through shards (take n (held shards)) c.args.want) count
