use Rattle.std.proofs.Common.{IsErrOf}
use Rattle.disk_base.specs.Faults.{one_more}
use Rattle.disk_base.specs.Racks.{slot_at}
use Rattle.disk_base.specs.declared.fault.ShelfFault.TheVariants.{Exists, Absent}
use Rattle.disk_base.proofs.SlotLaws.{there_at, absent_at}
use Rattle.disk_base.proofs.ShelfLaws.{names_call, open_call, make_call, remove_call, lists, opens, makes, removes, takes_back}
use Rattle.disk_base.proofs.mem_shelf.MemShelfShelf.TheImpl.Goals as goal

pub names-tells : goal.names-tells
names-tells _ _ c = record {
  call = names_call c.result c.args.self.now c.new.self.now c.ensures.counts c.ensures.never_falls;
  answer = lists c.result c.args.self.now c.new.self.now c.ensures.counts c.ensures.names c.ensures.ascend c.ensures.same;
}

pub open-tells : goal.open-tells
open-tells _ _ c = record {
  call = open_call c.result c.args.self.now c.new.self.now c.ensures.counts c.ensures.never_falls;
  absent = absent_at (slot_at c.args.self.now.slots c.args.name) (IsErrOf c.result Absent) c.ensures.absent;
  answer = opens c.result c.args.self.now c.new.self.now c.args.name (one_more c.args.self.now.handed_out) c.requires c.ensures.counts c.ensures.absent c.ensures.file c.ensures.handed_out c.ensures.err;
}

pub make-tells : goal.make-tells
make-tells _ _ c = record {
  call = make_call c.result c.args.self.now c.new.self.now c.ensures.counts c.ensures.never_falls;
  exists = there_at (slot_at c.args.self.now.slots c.args.name) (IsErrOf c.result Exists) c.ensures.exists;
  answer = makes c.result c.args.self.now c.new.self.now c.args.name (one_more c.args.self.now.handed_out) c.ensures.counts c.ensures.exists c.ensures.file c.ensures.handed_out c.ensures.err;
}

pub remove-tells : goal.remove-tells
remove-tells _ _ c = record {
  call = remove_call c.result c.args.self.now c.new.self.now c.ensures.counts c.ensures.never_falls;
  absent = absent_at (slot_at c.args.self.now.slots c.args.name) (IsErrOf c.result Absent) c.ensures.absent;
  answer = removes c.result c.args.self.now c.new.self.now c.args.name c.requires c.ensures.counts c.ensures.gone c.ensures.err;
}

pub hold-tells : goal.hold-tells
hold-tells _ _ c = takes_back c.args.self.now c.new.self.now c.args.name c.args.file c.ensures.kept c.ensures.plan c.ensures.never_falls
