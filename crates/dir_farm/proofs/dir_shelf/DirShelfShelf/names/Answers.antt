use Rattle.std.proofs.Common.{◌≡◌, sym, subst, rules}
use Rattle.std.specs.List.Sorted.{IsStrictlyIncreasing}
use Rattle.std.proofs.lemmas.Map.Keys.{IsStrictlyIncreasing-from_sorted}
use Rattle.std.specs.Map.{keys_of}
use Rattle.dir_farm.specs.DirShelf.{ShelfNotes, Stays}
use Rattle.dir_farm.proofs.dir_shelf.DirShelfShelf.names.Goals as goal

pub returns-clause-answer : goal.returns-clause-answer
returns-clause-answer g c =
    let keys = keys_of c.note_all.new.names.entries in
    let is : c.in_ok-collect.field-0.items ≡ keys = search rules in
    let stays = subst (λ (shelf : ShelfNotes). Stays shelf.names c.note_all.new.names.entries) c.self.view_is c.note_all.ensures in
    (stays, is, subst IsStrictlyIncreasing (sym is) (IsStrictlyIncreasing-from_sorted keys c.keys.ensures.ordered))
