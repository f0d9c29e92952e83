use Rattle.disk_base.proofs.Views.{reads, tells_length, tells_bytes, at_most, grown, writes, syncs}
use Rattle.disk_base.proofs.mem_file.MemFileExtent.TheImpl.Goals as goal

pub len-tells : goal.len-tells
len-tells _ c = record {
  reads = reads c.result c.args.self.now c.new.self.now c.ensures.fails c.ensures.after c.ensures.cause.never_falls;
  length = tells_length c.result c.args.self.now.lies c.args.self.now.present.bytes c.ensures.length;
}

pub read_at-tells : goal.read_at-tells
read_at-tells _ c = record {
  reads = reads c.result c.args.self.now c.new.self.now c.ensures.fails c.ensures.after c.ensures.cause.never_falls;
  count = at_most c.result c.args.out.now c.new.out.now c.args.self.now.present.bytes c.args.at c.ensures.same_room c.ensures.count;
  bytes = tells_bytes c.result c.args.self.now.lies c.args.at c.args.out.now c.new.out.now c.args.self.now.present.bytes c.ensures.same_room c.ensures.count c.ensures.bytes;
}

pub grow-tells : goal.grow-tells
grow-tells _ c = record { grows = grown c.result c.args.self.now c.new.self.now c.args.end c.ensures.ok c.ensures.err c.ensures.spare }

pub write_at-tells : goal.write_at-tells
write_at-tells _ c = record {
  writes = writes c.result c.args.self.now c.new.self.now c.args.at c.args.bytes.now c.ensures.fails c.ensures.after c.ensures.cause.never_falls c.ensures.settled c.requires.place;
}

pub sync-tells : goal.sync-tells
sync-tells _ c = record {
  syncs = syncs c.result c.args.self.now c.new.self.now c.ensures.fails c.ensures.ok c.ensures.err c.ensures.cause.never_falls;
}
