use Rattle.dir_farm.specs.DirShelf.{Stays}
use Rattle.dir_farm.proofs.names.note_all.Given as goal

abbrev pub invariant-loop-name : goal.invariant-loop-name
invariant-loop-name l = Stays l.fn.names.entries l.names.entries
