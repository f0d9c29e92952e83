use Rattle.std.proofs.Common.{sym, subst}
use Rattle.volume_entry.specs.Manager.{IsLegal}
use Rattle.volume_entry.specs.ManagerStep.{AreTargets, lock_record, lock_refusal}
use Rattle.volume_entry.specs.TableParts.{part_of, shape_of}
use Rattle.volume_entry.specs.Book.{BookOver}
use Rattle.volume_entry.specs.Entry.{is_broken}
use Rattle.volume_entry.proofs.LegalProofs.{steps_write_legal_records}
use Rattle.volume_entry.proofs.LockSteps.{none_refuses}
use Rattle.volume_entry.proofs.book.Book.lock_refusal.Goals as goal

pub returns-clause-legal : goal.returns-clause-legal
returns-clause-legal g c = λ none task.
    let shape = shape_of c.self.inside.shape in
    let m = part_of c.self.inside.table in
    let broken = is_broken c.args.broken.now in
    let targets : AreTargets shape c.args.targets.now = subst (λ (s : BookOver g.row.E.Denot). AreTargets (shape_of s.shape) c.args.targets.now) (sym c.self.view_is) c.requires.targets in
    subst (λ (s : BookOver g.row.E.Denot). IsLegal (shape_of s.shape) s.part (lock_record task c.args.targets.now s.part)) c.self.view_is
    (steps_write_legal_records.lock shape broken c.args.now task c.args.targets.now m c.requires.time c.self.invariant.greatest targets
    (none_refuses c.lock_refusal.result (lock_refusal broken c.args.now c.args.targets.now m) c.lock_refusal.ensures none))
