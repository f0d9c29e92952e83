use Rattle.std.proofs.Common.{◌≡◌, ◌≤◌, ◌+◌, ◌-◌, length, slice_range, None, Some, Err, inl, inr, refl, sym, ◌∙◌, subst, rules, arith, IsSomeAnd}
use Rattle.gate_log.specs.GateLog.{FindsAt, ComesOn, StepCalls}
use Rattle.gate_log.proofs.Fetch.{if_some, at_some}
use Rattle.gate_log.proofs.Counts.{at_most_two, piece_refused}
use Rattle.gate_log.proofs.Onward.{comes_closed, comes_ended, comes_broken, comes_over}
use Rattle.gate_log.proofs.start.read_next.Goals.{then-cursor-via-then-cursor, then-cursor-via-else-cursor+then-cursor-2, then-cursor-via-else-cursor+else-cursor-2+then-place-cursor}
use Rattle.gate_log.proofs.start.read_next.Goals as goal

pub returns-then-cursor-clause-comes : goal.returns-then-cursor-clause-comes
returns-then-cursor-clause-comes g c = if_some (g.E.Extent.seen c.args.file.now).content _ (λ bytes told read come.
    comes_ended bytes read c.args.cursor.now come (elim c.then-cursor.branch [
      | then-cursor-via-then-cursor w ↦ inl (omega (arith, w.if-cursor.true))
      | then-cursor-via-else-cursor+then-cursor-2 w ↦ inr (inl w.if-cursor-2.true)
      | then-cursor-via-else-cursor+else-cursor-2+then-place-cursor w ↦ inr (inr (omega (arith, w.if-place-cursor.true)))
    ]))

pub returns-in_err-next-clause-comes : goal.returns-in_err-next-clause-comes
returns-in_err-next-clause-comes g c = if_some (g.E.Extent.seen c.args.file.now).content _ (λ bytes told read come.
    let e = c.in_err-next.field-0.0 in
    let is : c.from_residual.result ≡ Err e = search rules in
    subst (ComesOn bytes read c.args.cursor.now) (sym is)
    (comes_broken bytes read c.args.cursor.now come (g.E.Extent.seen c.args.file.now).content c.args.cursor.now e told (omega (arith, c.if-cursor.false)) c.in_err-next.ensures.answer))

pub returns-in_default-clause-comes : goal.returns-in_default-clause-comes
returns-in_default-clause-comes g c = if_some (g.E.Extent.seen c.args.file.now).content _ (λ bytes told read come.
    let is : c.in_ok-next.field-0 ≡ None = search rules in
    let found = subst (λ o. c.args.cursor.now.len ≤ length bytes → FindsAt bytes c.args.cursor.now.len c.args.cursor.now.place o) is
    (at_some (g.E.Extent.seen c.args.file.now).content bytes (λ b. c.args.cursor.now.len ≤ length b → FindsAt b c.args.cursor.now.len c.args.cursor.now.place c.in_ok-next.field-0) told c.in_ok-next.ensures.answer.1) in
    comes_closed bytes read c.args.cursor.now come _ (omega (arith, c.if-cursor.false)) (omega (arith, c.if-place-cursor.false)) found refl refl)

pub returns-in_err-body-clause-calls : goal.returns-in_err-body-clause-calls
returns-in_err-body-clause-calls g c =
    let e = c.in_err-body.field-0.0 in
    let is : c.from_residual-in_err-body.result ≡ Err e = search rules in
    subst (StepCalls (g.E.Extent.seen c.args.file.now) (g.E.Extent.seen c.read_exactly.new.file)) (sym is)
    (piece_refused (c.args.cursor.now.place + 5) (c.in-Some.next - c.args.cursor.now.place - 5) (g.E.Extent.seen c.args.file.now) (g.E.Extent.seen c.find_next.new.file) (g.E.Extent.seen c.read_exactly.new.file) e c.find_next.ensures.counted c.in_err-body.ensures.answer)

pub returns-in_default-2-clause-calls : goal.returns-in_default-2-clause-calls
returns-in_default-2-clause-calls g c = at_most_two (g.E.Extent.seen c.args.file.now) (g.E.Extent.seen c.find_next.new.file) (g.E.Extent.seen c.read_exactly.new.file) c.find_next.ensures.counted c.in_ok-body.ensures.answer.0

pub returns-clause-comes : goal.returns-clause-comes
returns-clause-comes g c = if_some (g.E.Extent.seen c.args.file.now).content _ (λ bytes told read come.
    let place = c.args.cursor.now.place in
    let len = c.args.cursor.now.len in
    let found : len ≤ length bytes → FindsAt bytes len place (Some c.in-Some.next) = subst (λ o. len ≤ length bytes → FindsAt bytes len place o) c.in-Some.is
    (at_some (g.E.Extent.seen c.args.file.now).content bytes (λ b. len ≤ length b → FindsAt b len place c.in_ok-next.field-0) told c.in_ok-next.ensures.answer.1) in
    let next : c.in-Some.next ≤ len = let o = rw c.in-Some.is at c.in_ok-next.ensures.answer.0 in o.1 in
    let piece = at_some (g.E.Extent.seen c.find_next.new.file).content bytes (λ b. place + 5 + (c.in-Some.next - place - 5) ≤ length b → IsSomeAnd c.in_ok-body.field-0 (λ p. p ≡ slice_range b (place + 5) (place + 5 + (c.in-Some.next - place - 5))))
    (c.find_next.ensures.reads.only.same ∙ told) c.in_ok-body.ensures.answer.2 in
    comes_over bytes read c.args.cursor.now come c.in-Some.next c.in-Some-2.body c.in_ok-body.field-0 _ c.if-cursor-2.false found next c.in-Some-2.is piece refl refl refl)
