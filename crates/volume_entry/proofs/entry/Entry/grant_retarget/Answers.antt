use Rattle.std.proofs.Common.{sym, subst}
use Rattle.volume_entry.specs.Manager.{IsLegal}
use Rattle.volume_entry.specs.ManagerStep.{retarget_record}
use Rattle.volume_entry.specs.TableParts.{shape_of}
use Rattle.volume_entry.specs.Entry.{EntryOver}
use Rattle.volume_entry.proofs.entry.Entry.grant_retarget.Goals as goal

pub grant_of-grant-requires : goal.grant_of-grant-requires
grant_of-grant-requires g c =
    let book = c.self.inside.book in
    let legal : IsLegal (shape_of book.shape) book.part (retarget_record c.args.target.index c.args.target.disk book.part) =
    subst (λ (s : EntryOver g.row.E.Denot). IsLegal (shape_of s.book.shape) s.book.part (retarget_record c.args.target.index c.args.target.disk s.book.part)) (sym c.self.view_is) c.requires.legal in
    legal.home.last
