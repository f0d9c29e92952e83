use Rattle.std.proofs.Common.{◌≡◌, ◌∙◌, drop, refl}
use Rattle.shard_record.specs.Spelling.{blob_size_in}
use Rattle.shard_record.proofs.TestLists.{rest_of}
use Rattle.shard_record.proofs.reading.read_shard.Goals as goal

pub returns-clause-shard : goal.returns-clause-shard
returns-clause-shard c =
    let size : c.in_ok-blob_size.blob_size ≡ blob_size_in c.args.bytes.now = c.in_ok-blob_size.ensures.shard.blob_size_is in
    let copied : c.in-Ok.copy ≡ drop 29 c.args.bytes.now = c.in-Ok.ensures ∙ rest_of 29 c.args.bytes.now in
    rw (size, copied) refl
