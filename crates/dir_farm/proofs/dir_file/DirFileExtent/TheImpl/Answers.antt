use Rattle.dir_farm.proofs.FileLaws.{untold, reads, writes, syncs}
use Rattle.dir_farm.proofs.dir_file.DirFileExtent.TheImpl.Goals as goal

pub len-tells : goal.len-tells
len-tells _ _ c = record {
  reads = reads c.result c.args.self.now c.new.self.now c.ensures.counts.calls c.ensures.counts.faults;
  length = untold c.result;
}

pub read_at-tells : goal.read_at-tells
read_at-tells _ _ c = record {
  reads = reads c.result c.args.self.now c.new.self.now c.ensures.counts.calls c.ensures.counts.faults;
  count = c.ensures.count;
  bytes = untold c.result;
}

pub write_at-tells : goal.write_at-tells
write_at-tells _ _ c = record {
  writes = writes c.result c.args.self.now c.new.self.now c.ensures.counts.calls c.ensures.counts.faults c.args.at c.args.bytes.now;
}

pub sync-tells : goal.sync-tells
sync-tells _ _ c = record {
  syncs = syncs c.result c.args.self.now c.new.self.now c.ensures.counts.calls c.ensures.counts.faults;
}
