use Rattle.dir_farm.proofs.ShelfLaws.{call, lists, opens, open_absent, makes, exists, removes, remove_absent, takes_back}
use Rattle.dir_farm.proofs.dir_shelf.DirShelfShelf.TheImpl.Goals as goal

pub names-tells : goal.names-tells
names-tells _ _ _ c = record {
  call = call c.result c.args.self.now c.new.self.now c.ensures.counts;
  answer = lists c.result c.args.self.now c.new.self.now c.ensures.answer;
}

pub open-tells : goal.open-tells
open-tells _ _ _ c = record {
  call = call c.result c.args.self.now c.new.self.now c.ensures.counts;
  absent = open_absent c.result c.args.self.now.names c.new.self.now.names c.args.name c.ensures.answer;
  answer = opens c.result c.args.self.now c.new.self.now c.args.name c.ensures.answer;
}

pub make-tells : goal.make-tells
make-tells _ _ _ c = record {
  call = call c.result c.args.self.now c.new.self.now c.ensures.counts;
  exists = exists c.result c.args.self.now.names c.new.self.now.names c.args.name c.ensures.answer;
  answer = makes c.result c.args.self.now c.new.self.now c.args.name c.ensures.answer;
}

pub remove-tells : goal.remove-tells
remove-tells _ _ _ c = record {
  call = call c.result c.args.self.now c.new.self.now c.ensures.counts;
  absent = remove_absent c.result c.args.self.now.names c.new.self.now.names c.args.name c.ensures.answer;
  answer = removes c.result c.args.self.now c.new.self.now c.args.name c.ensures.answer;
}

pub hold-tells : goal.hold-tells
hold-tells _ _ _ c = takes_back c.args.self.now c.new.self.now c.args.name c.args.file c.ensures.kept c.ensures.count
