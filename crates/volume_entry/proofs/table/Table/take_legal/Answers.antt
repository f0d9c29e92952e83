use Rattle.volume_entry.specs.RecordBytes.{record_of}
use Rattle.volume_entry.specs.TableParts.{part_of, shape_of}
use Rattle.volume_entry.proofs.Walks.{can_take}
use Rattle.volume_entry.proofs.table.Table.take_legal.Goals as goal

pub take-requires : goal.take-requires
take-requires c = can_take (shape_of c.args.shape) (part_of c.args.self.now) (record_of c.args.item.now) c.if-not-is_legal.ensures c.requires
