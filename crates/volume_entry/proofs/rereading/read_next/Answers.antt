use Rattle.std.proofs.Common.{◌≡◌, sym, subst, rules, Err, true, false}
use Rattle.volume_entry.specs.Replaying.{TakesBody}
use Rattle.volume_entry.specs.TableParts.{part_of}
use Rattle.volume_entry.specs.BookStart.{NextAnswers}
use Rattle.volume_entry.proofs.BookReads.{next_missing, next_taken, next_refused, sound_next}
use Rattle.volume_entry.proofs.rereading.read_next.Goals as goal

pub returns-in_err-body-clause-next : goal.returns-in_err-body-clause-next
returns-in_err-body-clause-next g c =
    let e = c.in_err-body.field-0.0 in
    let is : c.from_residual.result ≡ Err e = search rules in
    λ bodies has. subst (NextAnswers c.args.vid c.args.shape bodies c.args.place (part_of c.args.table.now) (part_of c.args.table.now)) (sym is)
    (next_missing c.args.vid c.args.shape bodies c.args.place (part_of c.args.table.now) (part_of c.args.table.now) e (c.in_err-body.ensures.in_order bodies has))

pub returns-then-not-branch-clause-next : goal.returns-then-not-branch-clause-next
returns-then-not-branch-clause-next g c =
    let takes : TakesBody c.args.vid c.args.shape c.as_slice.result.now (part_of c.args.table.now) (part_of c.take_body.new.self) false = rw c.if-not-branch.true at c.in_ok-take_body.ensures.taken in
    λ bodies has part read below. next_refused c.args.vid c.args.shape bodies c.args.place (part_of c.args.table.now) part read below c.in_ok-body.body c.in_ok-body.next (part_of c.take_body.new.self)
    (c.in_ok-body.ensures.in_order bodies has)
    (subst (λ b. TakesBody c.args.vid c.args.shape b (part_of c.args.table.now) (part_of c.take_body.new.self) false) c.as_slice.ensures takes)

pub returns-clause-onward : goal.returns-clause-onward
returns-clause-onward g c =
    let takes : TakesBody c.args.vid c.args.shape c.as_slice.result.now (part_of c.args.table.now) (part_of c.take_body.new.self) true = rw c.if-not-branch.false at c.in_ok-take_body.ensures.taken in (
      c.in_ok-body.ensures.onward.0,
      sound_next c.args.shape c.args.vid c.args.place c.in_ok-body.next c.as_slice.result.now (part_of c.args.table.now) (part_of c.take_body.new.self) c.in_ok-body.ensures.onward.0 c.requires.sound takes,
      c.in_ok-body.ensures.onward.1,
    )

pub returns-clause-next : goal.returns-clause-next
returns-clause-next g c =
    let takes : TakesBody c.args.vid c.args.shape c.as_slice.result.now (part_of c.args.table.now) (part_of c.take_body.new.self) true = rw c.if-not-branch.false at c.in_ok-take_body.ensures.taken in
    λ bodies has part read below. next_taken c.args.vid c.args.shape bodies c.args.place (part_of c.args.table.now) part read below c.in_ok-body.body c.in_ok-body.next (part_of c.take_body.new.self)
    (c.in_ok-body.ensures.in_order bodies has)
    (subst (λ b. TakesBody c.args.vid c.args.shape b (part_of c.args.table.now) (part_of c.take_body.new.self) true) c.as_slice.ensures takes)
