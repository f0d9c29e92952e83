use Rattle.std.proofs.Common.{ap, ◌∙◌, subst}
use Rattle.volume_entry.specs.ManagerStep.{unlock_refusal, has_unheard}
use Rattle.volume_entry.specs.HeardCounts.{is_broken}
use Rattle.volume_entry.specs.TableParts.{part_of}
use Rattle.volume_entry.specs.Book.{BookOver, end_unless}
use Rattle.volume_entry.specs.Entry.{RefusesFor}
use Rattle.volume_entry.proofs.SwapRefusals.{unlock_for}
use Rattle.volume_entry.proofs.book.Book.unlock_refusal.Goals as goal

pub returns-clause-refuses : goal.returns-clause-refuses
returns-clause-refuses g c =
    let inside = c.self.inside in
    let book : BookOver g.row.E.Denot = record { vid = inside.vid; shape = inside.shape; log = record { file = inside.log.file; end = end_unless inside.is_shut inside.log.end }; part = part_of inside.table; doubt = inside.doubt } in
    subst (λ (b : BookOver g.row.E.Denot). RefusesFor b c.args.heard.now (unlock_refusal (is_broken c.args.broken.now) c.args.task) c.unlock_refusal.result) c.self.view_is
    (unlock_for book c.args.heard.now c.unlock_refusal.result c.args.broken.now c.args.task c.has_unreleased-unreleased.result c.unlock_refusal.ensures.refuses
    (λ size m told. c.has_unreleased-unreleased.ensures size m told ∙ ap (λ ts. has_unheard (is_broken c.args.broken.now) ts m.heard.released) c.held.ensures))
