use Rattle.std.proofs.Common.{◌∙◌, sym, ap, refl}
use Rattle.shard_record.specs.declared.record.ShardRecord.TheVariants.{Shard}
use Rattle.shard_record.proofs.Places.{one_to_one}
use Rattle.shard_record.proofs.Faultless.{spells_faultless}
use Rattle.chunk_store.proofs.ReadRecords.{undamaged}
use Rattle.chunk_store.proofs.reading.shard_in.Goals as goal

pub returns-in-None : goal.returns-in-None
returns-in-None c = (
  refl,
  undamaged c.args.body.now (spells_faultless c.args.body.now c.in_ok-item.item (λ k. (c.type_inv.body k).fits) c.in_ok-item.ensures.0),
  λ bytes spells.
      let same = one_to_one c.in_ok-item.item (Shard c.args.bid c.args.unit c.args.blob_size bytes) c.args.body.now c.in_ok-item.ensures.0 spells in
      c.shard_of.ensures.none c.in-None.is bytes
      (same ∙ ap (λ unit. Shard c.args.bid unit c.args.blob_size bytes) (sym c.in_ok-item.ensures.1)),
)
