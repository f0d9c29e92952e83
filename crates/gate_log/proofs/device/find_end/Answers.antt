use Rattle.std.proofs.Common.{◌≡◌, ◌≤◌, length, Some, None, refl, sym, rules, Err, ◌∙◌, subst, arith}
use Rattle.disk_base.specs.Moments.{reads_none, reads_on, lasts_none, lasts_on}
use Rattle.gate_log.specs.GateLog.{FindsAt, EndAnswers}
use Rattle.gate_log.proofs.Fetch.{if_some, at_some}
use Rattle.gate_log.proofs.Follow.{counted_start, counted_on, counted_ends, counted_past, next_refuses}
use Rattle.gate_log.proofs.device.find_end.Goals as goal

pub returns-in_err-find_next-clause-answer : goal.returns-in_err-find_next-clause-answer
returns-in_err-find_next-clause-answer g c =
    let i = c.loop-place.invariant in
    let e = c.in_err-find_next.field-0.0 in
    let is : c.from_residual.result ≡ Err e = search rules in
    subst (EndAnswers c.args.from c.args.len (g.E.Extent.seen c.args.file.now) (g.E.Extent.seen c.find_next.new.file)) (sym is)
    (next_refuses c.args.from c.args.len c.loop-place.place (g.E.Extent.seen c.loop-place.file).content (g.E.Extent.seen c.args.file.now) (g.E.Extent.seen c.find_next.new.file) e i.reads.same
    (λ file told long read walks. (i.walk file told long read walks).walk) c.in_err-find_next.ensures.answer)

pub returns-in-None-clause-answer : goal.returns-in-None-clause-answer
returns-in-None-clause-answer g c =
    if_some (g.E.Extent.seen c.args.file.now).content _ (λ bytes told long read walks.
    let i = c.loop-place.invariant in
    let now : (g.E.Extent.seen c.loop-place.file).content ≡ Some bytes = i.reads.same ∙ told in
    let found : FindsAt bytes c.args.len c.loop-place.place None = subst (FindsAt bytes c.args.len c.loop-place.place) c.in-None.is
    (at_some (g.E.Extent.seen c.loop-place.file).content bytes (λ b. c.args.len ≤ length b → FindsAt b c.args.len c.loop-place.place c.in_ok-find_next.field-0) now c.in_ok-find_next.ensures.answer.1 (omega arith)) in
    counted_ends bytes read c.loop-place.place (g.E.Extent.seen c.args.file.now) (g.E.Extent.seen c.loop-place.file) (g.E.Extent.seen c.find_next.new.file) (i.walk bytes told long read walks) (omega arith) found (omega arith) c.find_next.ensures.counted)

pub loop-place-init : goal.loop-place-init
loop-place-init g c = record {
  walk = λ bytes told long read walks. counted_start bytes read c.args.from (g.E.Extent.seen c.args.file.now).calls walks;
  reads = reads_none (g.E.Extent.seen c.args.file.now) (g.met.E.Extent.is_file c.args.file.now);
  lasts = lasts_none (g.E.Extent.seen c.args.file.now);
  faults = refl;
}

pub loop-place-preserved : goal.loop-place-preserved
loop-place-preserved g c = record {
  walk = λ bytes told long read walks.
      let i = c.loop-place.invariant in
      let now : (g.E.Extent.seen c.loop-place.file).content ≡ Some bytes = i.reads.same ∙ told in
      let found : FindsAt bytes c.args.len c.loop-place.place (Some c.in-Some.next) = subst (FindsAt bytes c.args.len c.loop-place.place) c.in-Some.is
      (at_some (g.E.Extent.seen c.loop-place.file).content bytes (λ b. c.args.len ≤ length b → FindsAt b c.args.len c.loop-place.place c.in_ok-find_next.field-0) now c.in_ok-find_next.ensures.answer.1 (omega arith)) in
      counted_on bytes (length read) c.loop-place.place c.in-Some.next _ _ _ (i.walk bytes told long read walks) (subst (λ n. FindsAt bytes n c.loop-place.place (Some c.in-Some.next)) long found) c.find_next.ensures.counted;
  reads = reads_on _ _ _ c.loop-place.invariant.reads c.find_next.ensures.reads.only;
  lasts = lasts_on _ _ _ c.loop-place.invariant.lasts c.find_next.ensures.reads.call.lasts;
  faults = c.in_ok-find_next.ensures.reads.call.counts ∙ c.loop-place.invariant.faults;
}

pub returns-clause-answer : goal.returns-clause-answer
returns-clause-answer g c =
    if_some (g.E.Extent.seen c.args.file.now).content _ (λ bytes told long read walks.
    counted_past bytes read c.loop-place.place (g.E.Extent.seen c.args.file.now) (g.E.Extent.seen c.loop-place.file) (g.E.Extent.seen c.loop-place.file) (c.loop-place.invariant.walk bytes told long read walks) (omega arith) (omega arith) refl)
