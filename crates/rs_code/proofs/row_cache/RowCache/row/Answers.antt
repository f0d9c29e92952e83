use Rattle.std.proofs.Common.{◌∙◌, sym, subst, ap}
use Rattle.rs_code.specs.RowCache.{AllFit, with_row}
use Rattle.rs_code.proofs.Fitting.{fit_asked, fit_renewed, fit_added, fit_on}
use Rattle.rs_code.proofs.row_cache.RowCache.row.Goals as goal

pub returns-in-Some-clause-fits : goal.returns-in-Some-clause-fits
returns-in-Some-clause-fits g c =
    fit_asked (g.M.RowMaker.fits c.args.maker.now) c.in_ok-key.key.held.items c.args.held.now c.in_ok-key.key.want c.args.want c.args.self.now c.in-Some.row c.in_ok-key.ensures.held c.in_ok-key.ensures.want
    (sym c.in-Some.is ∙ c.in_ok-row.ensures) c.requires

pub returns-in-Some-clause-fit : goal.returns-in-Some-clause-fit
returns-in-Some-clause-fit g c =
    fit_renewed (g.M.RowMaker.fits c.args.maker.now) c.in_ok-key.key.held.items c.in_ok-key.key.want c.args.self.now c.renew.new.self c.in-Some.row (sym c.in-Some.is ∙ c.in_ok-row.ensures) c.renew.ensures c.requires

pub returns-in_err-row-2-clause-fit : goal.returns-in_err-row-2-clause-fit
returns-in_err-row-2-clause-fit g c =
    fit_on (g.M.RowMaker.fits c.args.maker.now) (g.M.RowMaker.fits c.make-2.new.self) (λ held want row. (c.in_err-row-2.ensures.keeps held want row).0) c.args.self.now.entries c.requires

pub returns-in_err-copied-clause-fit : goal.returns-in_err-copied-clause-fit
returns-in_err-copied-clause-fit g c =
    fit_on (g.M.RowMaker.fits c.args.maker.now) (g.M.RowMaker.fits c.make-2.new.self) (λ held want row. (c.in_ok-row-2.ensures.keeps held want row).0) c.args.self.now.entries c.requires

pub returns-in_err-keep-clause-fit : goal.returns-in_err-keep-clause-fit
returns-in_err-keep-clause-fit g c =
    subst (λ rows. AllFit (g.M.RowMaker.fits c.make-2.new.self) rows.entries) (sym c.in_err-keep.ensures.err)
    (fit_on (g.M.RowMaker.fits c.args.maker.now) (g.M.RowMaker.fits c.make-2.new.self) (λ held want row. (c.in_ok-row-2.ensures.keeps held want row).0) c.args.self.now.entries c.requires)

pub returns-clause-fit : goal.returns-clause-fit
returns-clause-fit g c =
    fit_on (g.M.RowMaker.fits c.args.maker.now) (g.M.RowMaker.fits c.make-2.new.self) (λ held want row. (c.in_ok-row-2.ensures.keeps held want row).0) c.keep.new.self.entries
    (fit_added (g.M.RowMaker.fits c.args.maker.now) c.args.held.now c.args.want c.in_ok-row-2.row c.args.self.now c.keep.new.self
    (c.in_ok-keep.ensures.ok
    ∙ ap (λ held. with_row held c.in_ok-key.key.want c.in_ok-copied.field-0 c.args.self.now) c.in_ok-key.ensures.held
    ∙ ap (λ want. with_row c.args.held.now want c.in_ok-copied.field-0 c.args.self.now) c.in_ok-key.ensures.want
    ∙ ap (λ row. with_row c.args.held.now c.args.want row c.args.self.now) c.in_ok-copied.ensures)
    c.in_ok-row-2.ensures.fits c.requires)
