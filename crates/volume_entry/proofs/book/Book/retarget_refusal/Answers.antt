use Rattle.std.proofs.Common.{◌<◌, sym, subst}
use Rattle.volume_entry.specs.Manager.{IsDisk, IsLegal}
use Rattle.volume_entry.specs.ManagerStep.{retarget_record, retarget_refusal}
use Rattle.volume_entry.specs.TableParts.{part_of, shape_of}
use Rattle.volume_entry.specs.Book.{BookOver}
use Rattle.volume_entry.specs.Entry.{is_broken}
use Rattle.volume_entry.proofs.LegalProofs.{steps_write_legal_records}
use Rattle.volume_entry.proofs.LockSteps.{none_refuses}
use Rattle.volume_entry.proofs.book.Book.retarget_refusal.Goals as goal

pub returns-clause-legal : goal.returns-clause-legal
returns-clause-legal g c = λ none.
    let shape = shape_of c.self.inside.shape in
    let m = part_of c.self.inside.table in
    let broken = is_broken c.args.broken.now in
    let index : c.args.index < shape.total = subst (λ (s : BookOver g.row.E.Denot). c.args.index < (shape_of s.shape).total) (sym c.self.view_is) c.requires.index in
    let disk : IsDisk shape c.args.disk = subst (λ (s : BookOver g.row.E.Denot). IsDisk (shape_of s.shape) c.args.disk) (sym c.self.view_is) c.requires.disk in
    subst (λ (s : BookOver g.row.E.Denot). IsLegal (shape_of s.shape) s.part (retarget_record c.args.index c.args.disk s.part)) c.self.view_is
    (steps_write_legal_records.retarget shape broken c.args.task c.args.index c.args.disk m c.self.invariant.greatest index disk
    (none_refuses c.retarget_refusal.result (retarget_refusal broken c.args.task c.args.index c.args.disk m) c.retarget_refusal.ensures none))
