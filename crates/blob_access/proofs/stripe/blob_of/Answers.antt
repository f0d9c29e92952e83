use Rattle.std.proofs.Common.{◌<◌, ◌∙◌, ap, subst, sym, arith}
use Rattle.rs_code.specs.Shards.{held_count}
use Rattle.rs_code.specs.ShardValue.{filled}
use Rattle.code_mode.specs.Stripe.{HoldsData}
use Rattle.blob_access.proofs.Holding.{data_some, filled_holds}
use Rattle.blob_access.proofs.stripe.blob_of.Goals as goal

pub join-requires-clause-held : goal.join-requires-clause-held
join-requires-clause-held c =
    let some : 0 < held_count c.args.shards.now = omega (arith, data_some c.args.mode, c.requires.enough) in
    subst (HoldsData c.args.mode c.args.size) (sym (c.in_ok-fill.ensures.filled ∙ ap (λ s. filled s.data_shards c.args.shards.now) c.requires.coder))
    (filled_holds c.args.mode c.args.size c.args.shards.now c.requires.total c.requires.even some)
