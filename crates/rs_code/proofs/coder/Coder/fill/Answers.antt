use Rattle.std.proofs.Common.{◌≡◌, ◌+◌, ◌<◌, length, get_or, take, ◌∙◌, sym, ap, subst, arith, map}
use Rattle.std.specs.Prelude.{is_some}
use Rattle.std.specs.List.{range_with_len}
use Rattle.std.proofs.lemmas.List.FromFn.{length-map-range_with_len}
use Rattle.rs_code.specs.Shards.{shard_at, held, missing, spread_at}
use Rattle.rs_code.specs.ShardValue.{weights, row_through, filled}
use Rattle.rs_code.proofs.Held.{taken_is_held}
use Rattle.rs_code.proofs.Weights.{rows_fit}
use Rattle.rs_code.proofs.Filled.{rows_complete, missing_even, filled_from_completed}
use Rattle.rs_code.proofs.coder.Coder.fill.Goals.{In_ok-spread}
use Rattle.rs_code.proofs.coder.Coder.fill.Goals as goal

pub sums-requires-clause-held : goal.sums-requires-clause-held
sums-requires-clause-held c i h =
    let places : c.deref-2.result.now ≡ take c.self.inside.data_shards (held c.args.shards.now) = c.deref-2.ensures.value ∙ c.in_ok-places.ensures in
    let below : i < length (take c.self.inside.data_shards (held c.args.shards.now)) = subst (λ xs. i < length xs) places h in
    ap (λ xs. is_some (shard_at c.args.shards.now (get_or xs i 0))) places ∙ taken_is_held c.self.inside.data_shards c.args.shards.now i below

pub sums-requires-clause-rows : goal.sums-requires-clause-rows
sums-requires-clause-rows c =
    rows_fit c.deref-2.result.now (missing c.args.shards.now) c.deref-3.result.now
    (c.deref-3.ensures.value ∙ c.in_ok-rows.ensures.rows ∙ ap (λ xs. map (weights xs) (missing c.args.shards.now)) (c.deref.ensures.value ∙ sym c.deref-2.ensures.value))

-- the rows that complete the shards
rows_are : (c : In_ok-spread) → c.in_ok-spread.field-0.items ≡ map (spread_at c.args.shards.now (row_through c.args.shards.now (take c.self.inside.data_shards (held c.args.shards.now)))) (range_with_len 0 (c.self.inside.data_shards + c.self.inside.parity_shards))
rows_are c =
    rows_complete c.args.shards.now c.self.inside.data_shards (c.self.inside.data_shards + c.self.inside.parity_shards) c.deref.result.now c.deref-2.result.now c.deref-3.result.now _ c.in_ok-spread.field-0.items
    (c.deref.ensures.value ∙ c.in_ok-places.ensures) (c.deref-2.ensures.value ∙ c.in_ok-places.ensures) (c.deref-3.ensures.value ∙ c.in_ok-rows.ensures.rows) c.in_ok-outputs.ensures c.in_ok-spread.ensures

pub complete-requires-clause-long : goal.complete-requires-clause-long
complete-requires-clause-long c =
    ap length (rows_are c)
    ∙ length-map-range_with_len (spread_at c.args.shards.now (row_through c.args.shards.now (take c.self.inside.data_shards (held c.args.shards.now)))) 0 (c.self.inside.data_shards + c.self.inside.parity_shards)
    ∙ ap (λ shape. shape.data_shards + shape.parity_shards) c.self.view_is
    ∙ sym c.requires.total

pub complete-requires-clause-even : goal.complete-requires-clause-even
complete-requires-clause-even c k none =
    missing_even c.args.shards.now (take c.self.inside.data_shards (held c.args.shards.now)) c.in_ok-spread.field-0.items (c.self.inside.data_shards + c.self.inside.parity_shards) k (rows_are c)
    (omega (arith, c.count-have.ensures.value)) none

pub returns-clause-ok : goal.returns-clause-ok
returns-clause-ok c =
    let count : c.self.inside.data_shards ≡ c.args.self.now.data_shards = ap (λ shape. shape.data_shards) c.self.view_is in
    let total : c.self.inside.data_shards + c.self.inside.parity_shards ≡ length c.args.shards.now =
    ap (λ shape. shape.data_shards + shape.parity_shards) c.self.view_is ∙ sym c.requires.total in
    filled_from_completed c.self.inside.data_shards c.args.shards.now c.complete.new.self c.in_ok-spread.field-0.items c.complete.ensures.long c.complete.ensures.each
    (rows_complete c.args.shards.now c.self.inside.data_shards (c.self.inside.data_shards + c.self.inside.parity_shards) c.deref.result.now c.deref-2.result.now c.deref-3.result.now _ c.in_ok-spread.field-0.items
    (c.deref.ensures.value ∙ c.in_ok-places.ensures) (c.deref-2.ensures.value ∙ c.in_ok-places.ensures) (c.deref-3.ensures.value ∙ c.in_ok-rows.ensures.rows) c.in_ok-outputs.ensures c.in_ok-spread.ensures
    ∙ ap (λ t. map (spread_at c.args.shards.now (row_through c.args.shards.now (take c.self.inside.data_shards (held c.args.shards.now)))) (range_with_len 0 t)) total)
    ∙ ap (λ n. filled n c.args.shards.now) count
