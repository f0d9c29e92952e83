use Rattle.std.proofs.Common.{◌≡◌, ◌∙◌, sym, ap, subst, rules, ◌<◌, ◌≤◌, Some, Err, arith}
use Rattle.std.specs.Prelude.{is_some}
use Rattle.disk_base.specs.Moments.{reads_on, lasts_on}
use Rattle.gate_log.specs.GateLog.{shown}
use Rattle.gate_log.specs.LogFile.{end_place}
use Rattle.volume_entry.specs.TableParts.{part_of, shape_of}
use Rattle.volume_entry.specs.Book.{IsSoundPart}
use Rattle.volume_entry.specs.BookStart.{AllAnswer}
use Rattle.volume_entry.proofs.LogEnds.{reads_keep, ends_behind}
use Rattle.volume_entry.proofs.BookReads.{at_some, if_at, same_place, all_refused, read_all}
use Rattle.volume_entry.proofs.rereading.read_table.Goals as goal

pub loop-place-init : goal.loop-place-init
loop-place-init g c =
    let ends : c.args.log.now.end ≡ Some c.in-Some.end = sym c.end.ensures.end ∙ c.in-Some.is in record {
      started = c.in_ok-table.ensures.same;
      inside = at_some c.args.log.now.end c.in-Some.end (λ e. c.in_ok-table.place ≤ e) ends c.in_ok-table.ensures.sound.1;
      sound = c.in_ok-table.ensures.sound.0;
      read = λ bodies items part has spelled log. c.in_ok-table.ensures.first bodies has items part spelled log;
      reads = c.in_ok-table.ensures.reads;
      lasts = c.in_ok-table.ensures.lasts;
      faults = c.in_ok-table.ensures.counts;
    }

pub read_next-requires-clause-started : goal.read_next-requires-clause-started
read_next-requires-clause-started g c =
    let ends : c.args.log.now.end ≡ Some c.in-Some.end = sym c.end.ensures.end ∙ c.in-Some.is in
    ap is_some (c.loop-place.invariant.started ∙ ends)

pub read_next-requires-clause-below : goal.read_next-requires-clause-below
read_next-requires-clause-below g c =
    let ends : c.args.log.now.end ≡ Some c.in-Some.end = sym c.end.ensures.end ∙ c.in-Some.is in
    if_at c.loop-place.log.end c.in-Some.end (λ e. c.loop-place.place < e) (c.loop-place.invariant.started ∙ ends) c.loop-place-test.true

pub read_next-requires-clause-sound : goal.read_next-requires-clause-sound
read_next-requires-clause-sound g c = c.loop-place.invariant.sound

pub returns-in_err-place-clause-all : goal.returns-in_err-place-clause-all
returns-in_err-place-clause-all g c =
    let i = c.loop-place.invariant in
    let e = c.in_err-place.field-0.0 in
    let is : c.from_residual-in_err-place.result ≡ Err e = search rules in
    let ends : c.args.log.now.end ≡ Some c.in-Some.end = sym c.end.ensures.end ∙ c.in-Some.is in
    λ bodies has items part spelled log.
    let at : c.in-Some.end ≡ end_place bodies = same_place c.args.log.now.end c.in-Some.end (end_place bodies) ends (ends_behind (shown g.E.Extent.seen c.args.log.now) bodies has) in
    subst (AllAnswer part_of (end_place bodies) part) (sym is)
    (all_refused c.args.vid c.args.shape bodies c.loop-place.place (part_of c.loop-place.table) (part_of c.read_next.new.table) part e (i.read bodies items part has spelled log)
    (subst (λ n. c.loop-place.place < n) at c.loop-place-test.true)
    (c.in_err-place.ensures.next bodies (reads_keep (shown g.E.Extent.seen c.args.log.now) (shown g.E.Extent.seen c.loop-place.log) bodies i.started i.reads has)))

pub returns-in_err-place-clause-reads : goal.returns-in_err-place-clause-reads
returns-in_err-place-clause-reads g c = reads_on _ _ _ c.loop-place.invariant.reads c.in_err-place.ensures.reads

pub loop-place-preserved : goal.loop-place-preserved
loop-place-preserved g c =
    let i = c.loop-place.invariant in
    let ends : c.args.log.now.end ≡ Some c.in-Some.end = sym c.end.ensures.end ∙ c.in-Some.is in record {
      started = c.in_ok-place.ensures.same ∙ i.started;
      inside = at_some c.loop-place.log.end c.in-Some.end (λ e. c.in_ok-place.place ≤ e) (i.started ∙ ends) c.in_ok-place.ensures.onward.2;
      sound = c.in_ok-place.ensures.onward.1;
      read = λ bodies items part has spelled log.
          let at : c.in-Some.end ≡ end_place bodies = same_place c.args.log.now.end c.in-Some.end (end_place bodies) ends (ends_behind (shown g.E.Extent.seen c.args.log.now) bodies has) in
          c.in_ok-place.ensures.next bodies (reads_keep (shown g.E.Extent.seen c.args.log.now) (shown g.E.Extent.seen c.loop-place.log) bodies i.started i.reads has)
          part (i.read bodies items part has spelled log) (subst (λ n. c.loop-place.place < n) at c.loop-place-test.true);
      reads = reads_on _ _ _ i.reads c.in_ok-place.ensures.reads;
      lasts = lasts_on _ _ _ i.lasts c.in_ok-place.ensures.lasts;
      faults = c.in_ok-place.ensures.counts ∙ i.faults;
    }

pub returns-clause-sound : goal.returns-clause-sound
returns-clause-sound g c =
    let i = c.loop-place.invariant in
    let ends : c.loop-place.log.end ≡ Some c.in-Some.end = i.started ∙ sym c.end.ensures.end ∙ c.in-Some.is in
    let past = c.loop-place-test.false in
    let inside = i.inside in
    let at : c.loop-place.place ≡ c.in-Some.end = omega (arith, past, inside) in (
      ap is_some ends,
      subst (λ o. IsSoundPart (shape_of c.args.shape) o (part_of c.loop-place.table)) (sym ends) (subst (λ n. IsSoundPart (shape_of c.args.shape) (Some n) (part_of c.loop-place.table)) at i.sound),
    )

pub returns-clause-all : goal.returns-clause-all
returns-clause-all g c =
    let i = c.loop-place.invariant in
    let ends : c.args.log.now.end ≡ Some c.in-Some.end = sym c.end.ensures.end ∙ c.in-Some.is in
    λ bodies has items part spelled log.
    let at : c.in-Some.end ≡ end_place bodies = same_place c.args.log.now.end c.in-Some.end (end_place bodies) ends (ends_behind (shown g.E.Extent.seen c.args.log.now) bodies has) in
    read_all c.args.vid c.args.shape bodies c.loop-place.place (part_of c.loop-place.table) part (i.read bodies items part has spelled log)
    (subst (λ n. n ≤ c.loop-place.place) at c.loop-place-test.false)

pub returns-in_err-place-clause-lasts : goal.returns-in_err-place-clause-lasts
returns-in_err-place-clause-lasts g c = lasts_on _ _ _ c.loop-place.invariant.lasts c.in_err-place.ensures.lasts
