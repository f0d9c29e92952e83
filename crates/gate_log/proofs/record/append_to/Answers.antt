use Rattle.std.proofs.Common.{◌≡◌, [], Err, sym, subst, ap, ◌∙◌, rules}
use Rattle.gate_log.specs.declared.fault.LogFault.TheVariants.{Fault}
use Rattle.disk_base.specs.Faults.{added}
use Rattle.disk_base.specs.Moments.{calls_on}
use Rattle.gate_log.specs.LogFile.{bodies_of, record_behind}
use Rattle.gate_log.specs.GateLog.{WriteAnswers, IsAppend}
use Rattle.gate_log.proofs.Fetch.{if_some}
use Rattle.gate_log.proofs.Appending.{first_failed, second_failed, all_written}
use Rattle.gate_log.proofs.record.append_to.Goals as goal

pub returns-in_err-write_through-clause-appends : goal.returns-in_err-write_through-clause-appends
returns-in_err-write_through-clause-appends g c = if_some (g.E.Extent.seen c.args.file.now).content _ (λ was told.
    let are : c.deref.result.now ≡ record_behind c.args.body.now [] = search rules in
    let is : c.from_residual-in_err-write_through.result ≡ Err Fault = search rules in
    subst (IsAppend (bodies_of was) c.args.body.now c.args.place was (g.E.Extent.seen c.args.file.now) (g.E.Extent.seen c.write_through.new.file)) (sym is)
    (first_failed was c.args.body.now c.args.place (g.E.Extent.seen c.args.file.now) told (g.met.E.Extent.is_file c.args.file.now) c.requires.started c.requires.some c.requires.few _ (g.E.Extent.seen c.grow.new.self) _ c.grow.ensures.grows
    c.deref.result.now are (g.E.Extent.seen c.write_through.new.file) c.write_through.result c.write_through.ensures.through Fault))

pub returns-in_err-write_through-2-clause-answer :
    goal.returns-in_err-write_through-2-clause-answer
returns-in_err-write_through-2-clause-answer g c =
    let is : c.from_residual-in_err-write_through-2.result ≡ Err Fault = search rules in
    let calls = calls_on 2 2 (g.E.Extent.seen c.grow.new.self) (g.E.Extent.seen c.write_through.new.file) (g.E.Extent.seen c.write_through-2.new.file) _ (Err _) c.in_ok-write_through.ensures.calls c.in_err-write_through-2.ensures.calls in
    subst (WriteAnswers 4 (g.E.Extent.seen c.args.file.now) (g.E.Extent.seen c.write_through-2.new.file)) (sym is)
    (calls.no_more.0, calls.no_more.1, calls.no_more.2 ∙ ap (λ n. added n calls.no_more.0) c.grow.ensures.grows.calls)

pub returns-in_err-write_through-2-clause-appends :
    goal.returns-in_err-write_through-2-clause-appends
returns-in_err-write_through-2-clause-appends g c = if_some (g.E.Extent.seen c.args.file.now).content _ (λ was told.
    let are : c.deref.result.now ≡ record_behind c.args.body.now [] = search rules in
    let is : c.from_residual-in_err-write_through-2.result ≡ Err Fault = search rules in
    subst (IsAppend (bodies_of was) c.args.body.now c.args.place was (g.E.Extent.seen c.args.file.now) (g.E.Extent.seen c.write_through-2.new.file)) (sym is)
    (second_failed was c.args.body.now c.args.place (g.E.Extent.seen c.args.file.now) told (g.met.E.Extent.is_file c.args.file.now) c.requires.started c.requires.some c.requires.few _ (g.E.Extent.seen c.grow.new.self) _ c.grow.ensures.grows
    _ _ _ _ c.deref.result.now are (g.E.Extent.seen c.write_through.new.file) _ c.in_ok-write_through.ensures.through (g.E.Extent.seen c.write_through-2.new.file) c.write_through-2.result c.write_through-2.ensures.through Fault))

pub returns-clause-appends : goal.returns-clause-appends
returns-clause-appends g c = if_some (g.E.Extent.seen c.args.file.now).content _ (λ was told.
    let are : c.deref.result.now ≡ record_behind c.args.body.now [] = search rules in
    all_written was c.args.body.now c.args.place (g.E.Extent.seen c.args.file.now) told (g.met.E.Extent.is_file c.args.file.now) c.requires.started c.requires.some c.requires.few _ (g.E.Extent.seen c.grow.new.self) _ c.grow.ensures.grows
    _ _ _ _ c.deref.result.now are (g.E.Extent.seen c.write_through.new.file) _ c.in_ok-write_through.ensures.through (g.E.Extent.seen c.write_through-2.new.file) _ c.in_ok-write_through-2.ensures.through _)
