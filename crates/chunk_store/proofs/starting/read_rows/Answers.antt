use Rattle.std.proofs.Common.{◌≡◌, ◌∙◌, [], Ok, Err, ap, refl, sym, subst, rules, arith}
use Rattle.disk_base.specs.Moments.{reads_on, lasts_on}
use Rattle.gate_log.specs.GateLog.{HasCome}
use Rattle.chunk_store.specs.Starting.{IsRead, StepAnswers, RowsRead}
use Rattle.chunk_store.proofs.Finding.{at_some}
use Rattle.chunk_store.proofs.Opened.{if_told}
use Rattle.chunk_store.proofs.ReadAll.{read_none}
use Rattle.chunk_store.proofs.starting.read_rows.Goals as goal

pub loop-index-init : goal.loop-index-init
loop-index-init g c = record {
  ends = refl;
  read = λ bytes told. read_none c.args.unit bytes c.args.cursor.now c.new-index.result.kept c.new-index.ensures
      (at_some (g.E.Extent.seen c.args.log.now.file).content bytes (λ f. HasCome f [] c.args.cursor.now) told c.requires);
  reads = search rules;
  lasts = search rules;
  faults = refl;
}

pub returns-in_err-read_next-clause-rows : goal.returns-in_err-read_next-clause-rows
returns-in_err-read_next-clause-rows g c = if_told (g.E.Extent.seen c.args.log.now.file).content _ (λ file told.
    let i = c.loop-index.invariant in
    let e = c.in_err-read_next.field-0.0 in
    let is : c.from_residual.result ≡ Err e = search rules in
    subst (RowsRead c.args.unit file c.read_next.new.cursor) (sym is)
    (at_some (g.E.Extent.seen c.loop-index.log.file).content file (λ f. IsRead c.args.unit f c.loop-index.cursor c.loop-index.index.kept → StepAnswers c.args.unit f c.read_next.new.cursor c.read_next.new.index.kept (Err e))
    (i.reads.same ∙ told) c.in_err-read_next.ensures.told (i.read file told)))

pub loop-index-smaller : goal.loop-index-smaller
loop-index-smaller g c = let o = c.in_ok-read_next.ensures.onward (ap Ok c.in-Noted.is) in omega (arith, o.further, o.inside, o.same)

pub loop-index-preserved : goal.loop-index-preserved
loop-index-preserved g c = record {
  ends = c.in_ok-read_next.ensures.same ∙ c.loop-index.invariant.ends;
  read = λ bytes told.
      subst (λ s. StepAnswers c.args.unit bytes c.read_next.new.cursor c.read_next.new.index.kept (Ok s)) c.in-Noted.is
      (at_some (g.E.Extent.seen c.loop-index.log.file).content bytes (λ f. IsRead c.args.unit f c.loop-index.cursor c.loop-index.index.kept → StepAnswers c.args.unit f c.read_next.new.cursor c.read_next.new.index.kept (Ok c.in_ok-read_next.field-0))
      (c.loop-index.invariant.reads.same ∙ told) c.in_ok-read_next.ensures.told (c.loop-index.invariant.read bytes told));
  reads = reads_on _ _ _ c.loop-index.invariant.reads c.in_ok-read_next.ensures.reads;
  lasts = lasts_on _ _ _ c.loop-index.invariant.lasts c.in_ok-read_next.ensures.call.lasts;
  faults = c.in_ok-read_next.ensures.call.counts ∙ c.loop-index.invariant.faults;
}

pub returns-in-Bad-clause-rows : goal.returns-in-Bad-clause-rows
returns-in-Bad-clause-rows g c = if_told (g.E.Extent.seen c.args.log.now.file).content _ (λ file told.
    subst (λ s. StepAnswers c.args.unit file c.read_next.new.cursor c.read_next.new.index.kept (Ok s)) c.in-Bad.is
    (at_some (g.E.Extent.seen c.loop-index.log.file).content file (λ f. IsRead c.args.unit f c.loop-index.cursor c.loop-index.index.kept → StepAnswers c.args.unit f c.read_next.new.cursor c.read_next.new.index.kept (Ok c.in_ok-read_next.field-0))
    (c.loop-index.invariant.reads.same ∙ told) c.in_ok-read_next.ensures.told (c.loop-index.invariant.read file told)))

pub returns-in-End-clause-rows : goal.returns-in-End-clause-rows
returns-in-End-clause-rows g c = if_told (g.E.Extent.seen c.args.log.now.file).content _ (λ file told.
    subst (λ s. StepAnswers c.args.unit file c.read_next.new.cursor c.read_next.new.index.kept (Ok s)) c.in-End.is
    (at_some (g.E.Extent.seen c.loop-index.log.file).content file (λ f. IsRead c.args.unit f c.loop-index.cursor c.loop-index.index.kept → StepAnswers c.args.unit f c.read_next.new.cursor c.read_next.new.index.kept (Ok c.in_ok-read_next.field-0))
    (c.loop-index.invariant.reads.same ∙ told) c.in_ok-read_next.ensures.told (c.loop-index.invariant.read file told)))
