use Rattle.disk_base.specs.Faults.{one_more}
use Rattle.disk_base.proofs.FarmLaws.{root_call, shelf_call, roots, lends, takes_shelf_back}
use Rattle.disk_base.proofs.mem_farm.MemFarmFarm.TheImpl.Goals as goal

pub root-tells : goal.root-tells
root-tells _ _ _ c = record {
  call = root_call c.result c.args.self.now c.new.self.now c.ensures.counts c.ensures.never_falls;
  answer = roots c.result c.args.self.now c.new.self.now c.ensures.counts c.ensures.admin c.ensures.not_empty c.ensures.ordered c.ensures.same;
}

pub shelf-tells : goal.shelf-tells
shelf-tells _ _ _ c = record {
  call = shelf_call c.result c.args.self.now c.new.self.now c.ensures.counts c.ensures.never_falls;
  answer = lends c.result c.args.self.now c.new.self.now c.args.disk c.args.vid (one_more c.args.self.now.handed_out) c.requires c.ensures.counts c.ensures.shelf c.ensures.handed_out c.ensures.err;
}

pub hold-tells : goal.hold-tells
hold-tells _ _ _ c = takes_shelf_back c.args.self.now c.new.self.now c.args.disk c.args.vid c.args.shelf c.ensures.kept c.ensures.plan c.ensures.never_falls
