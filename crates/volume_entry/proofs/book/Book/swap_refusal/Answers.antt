use Rattle.std.proofs.Common.{ap, ◌∙◌, sym, subst}
use Rattle.volume_entry.specs.ManagerStep.{swap_refusal, has_unheard}
use Rattle.volume_entry.specs.Benchmark.{listed_count}
use Rattle.volume_entry.specs.HeardMemory.{Remembers}
use Rattle.volume_entry.specs.HeardCounts.{is_broken}
use Rattle.volume_entry.specs.TableParts.{part_of, shape_of}
use Rattle.volume_entry.specs.Book.{BookOver, end_unless}
use Rattle.volume_entry.specs.Entry.{RefusesFor}
use Rattle.volume_entry.proofs.SwapRefusals.{swap_for}
use Rattle.volume_entry.proofs.book.Book.swap_refusal.Goals as goal

pub returns-clause-refuses : goal.returns-clause-refuses
returns-clause-refuses g c =
    let inside = c.self.inside in
    let book : BookOver g.row.E.Denot = record { vid = inside.vid; shape = inside.shape; log = record { file = inside.log.file; end = end_unless inside.is_shut inside.log.end }; part = part_of inside.table; doubt = inside.doubt } in
    subst (λ (b : BookOver g.row.E.Denot). RefusesFor b c.args.heard.now (swap_refusal (shape_of b.shape) (is_broken c.args.broken.now) c.args.task) c.swap_refusal.result) c.self.view_is
    (swap_for book c.args.heard.now c.swap_refusal.result c.args.broken.now c.args.task c.listed_count-have.result c.has_unfenced-unfenced.result c.swap_refusal.ensures.refuses
    (λ size m told. c.has_unfenced-unfenced.ensures size m told ∙ ap (λ ts. has_unheard (is_broken c.args.broken.now) ts m.heard.fenced) c.held.ensures)
    (λ m homes unswapped told.
    c.listed_count-have.ensures m (homes ∙ sym c.deref.ensures.value) unswapped (subst (λ n. Remembers n c.args.heard.now m) (sym c.total.ensures.value) told)
    ∙ ap (λ n. listed_count n m.homes (is_broken c.args.broken.now) m.heard.listings) c.total.ensures.value))
