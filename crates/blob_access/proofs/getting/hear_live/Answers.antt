use Rattle.std.proofs.Common.{arith}
use Rattle.code_mode.specs.Mode.{shard_size}
use Rattle.blob_access.proofs.Holding.{fits_size}
use Rattle.blob_access.proofs.getting.hear_live.Goals as goal

pub hold-requires-clause-even : goal.hold-requires-clause-even
hold-requires-clause-even c =
    fits_size (shard_size c.args.wanted.mode c.args.wanted.size) c.args.tried.now.shards c.args.bytes c.requires.heard.even (omega (arith, c.len.ensures, c.shard_size.ensures, c.if-len-shard_size.false))
