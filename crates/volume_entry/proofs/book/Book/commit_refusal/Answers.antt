use Rattle.std.proofs.Common.{ap, ◌∙◌, sym, subst}
use Rattle.volume_entry.specs.ManagerStep.{commit_refusal, mark_count}
use Rattle.volume_entry.specs.TableParts.{part_of, shape_of}
use Rattle.volume_entry.specs.Book.{BookOver, end_unless}
use Rattle.volume_entry.specs.Entry.{RefusesFor}
use Rattle.volume_entry.proofs.SwapRefusals.{commit_for}
use Rattle.volume_entry.proofs.book.Book.commit_refusal.Goals as goal

pub returns-clause-refuses : goal.returns-clause-refuses
returns-clause-refuses g c =
    let inside = c.self.inside in
    let book : BookOver g.row.E.Denot = record { vid = inside.vid; shape = inside.shape; log = record { file = inside.log.file; end = end_unless inside.is_shut inside.log.end }; part = part_of inside.table; doubt = inside.doubt } in
    subst (λ (b : BookOver g.row.E.Denot). RefusesFor b c.args.heard.now (commit_refusal (shape_of b.shape) c.args.bid) c.commit_refusal.result) c.self.view_is
    (commit_for book c.args.heard.now c.commit_refusal.result (shape_of inside.shape) c.args.bid c.mark_count-have.result c.commit_refusal.ensures.refuses
    (λ size m homes told.
    c.mark_count-have.ensures size m (homes ∙ sym c.deref.ensures.value) told ∙ ap (λ n. mark_count n m.homes m.marks c.args.bid) c.total.ensures.value))
