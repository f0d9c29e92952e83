use Rattle.std.proofs.Common.{IfSome, sym, subst, arith}
use Rattle.gate_log.specs.LogFile.{bodies_of}
use Rattle.gate_log.specs.GateLog.{LogOver, IsStarted, IfStarted, shown, FindsInOrder}
use Rattle.gate_log.proofs.Counts.{no_call}
use Rattle.gate_log.proofs.Fetch.{if_some, at_some}
use Rattle.gate_log.proofs.InOrder.{in_order, answers_in}
use Rattle.gate_log.proofs.log.GateLog.read.Goals as goal

pub returns-in_default-clause-calls : goal.returns-in_default-clause-calls
returns-in_default-clause-calls g c = no_call 2 (g.E.Extent.seen c.args.self.now.file)

pub returns-clause-in_order : goal.returns-clause-in_order
returns-clause-in_order g c =
    let file = g.E.Extent.seen c.self.inside.file in
    let end = c.in-Some.end in
    let P : LogOver g.row.E.Denot → Type 0 = λ log. IfStarted (shown g.E.Extent.seen log) (λ bodies. FindsInOrder bodies c.args.place c.read_record.result) in
    let mine = if_some file.content (λ was. FindsInOrder (bodies_of was) c.args.place c.read_record.result) (λ was told before body after is place.
    let started = at_some file.content was (λ w. IsStarted file.images end (bodies_of w) w) told
    (at_some c.self.inside.end end (λ place. IfSome file.content (λ w. IsStarted file.images place (bodies_of w) w)) c.in-Some.is c.self.invariant) in
    let r = started.at_rest.inside in
    let e = started.end_is in
    let a = answers_in file.content was end c.args.place c.read_record.result told (omega arith) c.read_record.ensures.answer in
    in_order was end c.args.place started.at_rest started.end_is before body after is place c.read_record.result a) in
    subst P c.self.view_is (subst (λ o. IfSome o (λ _. IfSome file.content (λ was. FindsInOrder (bodies_of was) c.args.place c.read_record.result))) (sym c.in-Some.is) mine)
