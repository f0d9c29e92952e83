use Rattle.std.proofs.Common.{◌∙◌, List, ℕ, Ok}
use Rattle.shard_record.specs.declared.record.ShardRecord.TheVariants.{Shard}
use Rattle.chunk_store.specs.Records.{StandsAt}
use Rattle.chunk_store.specs.Reading.{BodiesInOrder, FindsShard}
use Rattle.chunk_store.proofs.Finding.{if_started, finds}
use Rattle.chunk_store.proofs.reading.read_shard.Goals as goal

pub returns-clause-stands : goal.returns-clause-stands
returns-clause-stands g c =
    if_started c.args.log.now.end (g.E.Extent.seen c.args.log.now.file).content
    (λ bodies. BodiesInOrder bodies c.args.place (Ok (c.in_ok-body.body, c.in_ok-body._next)))
    (λ bodies. (bytes : List ℕ) → StandsAt bodies c.args.place (Shard c.args.bid c.args.unit c.args.blob_size bytes) → FindsShard bytes c.shard_in.result)
    (λ bodies order bytes stands.
    finds c.args.unit c.args.bid c.args.blob_size c.args.place c.as_slice.result.now stands.body bytes c.shard_in.result
    (c.as_slice.ensures ∙ (order stands.before stands.body stands.after stands.bodies_are stands.place_is).0) stands.spells c.shard_in.ensures)
    c.in_ok-body.ensures.in_order
