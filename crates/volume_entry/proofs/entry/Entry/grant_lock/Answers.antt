use Rattle.std.proofs.Common.{sym, subst}
use Rattle.volume_entry.specs.Manager.{IsLegal}
use Rattle.volume_entry.specs.ManagerStep.{lock_record}
use Rattle.volume_entry.specs.TableParts.{shape_of}
use Rattle.volume_entry.specs.Entry.{EntryOver}
use Rattle.volume_entry.proofs.entry.Entry.grant_lock.Goals as goal

pub grants_of-requires : goal.grants_of-requires
grants_of-requires g c =
    let book = c.self.inside.book in
    let legal : IsLegal (shape_of book.shape) book.part (lock_record c.args.task c.args.targets.now book.part) =
    subst (λ (s : EntryOver g.row.E.Denot). IsLegal (shape_of s.book.shape) s.book.part (lock_record c.args.task c.args.targets.now s.book.part)) (sym c.self.view_is) c.requires.legal in
    λ t i. (legal.homes t i).last
