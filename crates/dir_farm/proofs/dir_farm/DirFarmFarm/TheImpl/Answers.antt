use Rattle.dir_farm.proofs.FarmLaws.{call, roots, lends, takes_back}
use Rattle.dir_farm.proofs.dir_farm.DirFarmFarm.TheImpl.Goals as goal

pub root-tells : goal.root-tells
root-tells _ _ _ _ c = record {
  call = call c.result c.args.self.now c.new.self.now c.ensures.counts;
  answer = roots c.result c.args.self.now c.new.self.now c.ensures.shelves c.ensures.item;
}

pub shelf-tells : goal.shelf-tells
shelf-tells _ _ _ _ c = record {
  call = call c.result c.args.self.now c.new.self.now c.ensures.counts;
  answer = lends c.result c.args.self.now c.new.self.now c.args.disk c.args.vid c.requires c.ensures.answer;
}

pub hold-tells : goal.hold-tells
hold-tells _ _ _ _ c = takes_back c.args.self.now c.new.self.now c.args.disk c.args.vid c.args.shelf c.ensures.kept c.ensures.count
