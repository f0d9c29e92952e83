use Rattle.std.proofs.Common.{sym, ap, rules}
use Rattle.unit_id.specs.declared.request.Request.TheVariants as requests
use Rattle.volume_world.specs.declared.event.Event.TheVariants as events
use Rattle.volume_world.specs.Call.{Next}
use Rattle.migrate_task.specs.AdvanceCall.{TaskStage, task_call, task_after, listing_units, after_unit}
use Rattle.migrate_task.specs.TaskParts.{with_heard}
use Rattle.migrate_task.proofs.TaskLemmas.{goes_told, fails_on}
use Rattle.migrate_task.proofs.listing.list_unit.Goals as goal

pub returns-in_err-reply-clause-goes : goal.returns-in_err-reply-clause-goes
returns-in_err-reply-clause-goes g c = λ mode task work dests heard left same.
    let stage = TaskStage.ListingUnit work dests heard c.args.home.now left in
    fails_on (task_call mode task) _ _ (Next.Go stage) c.in_err-reply.field-0.0 c.from_residual.result (task_after mode task stage) (λ listing. listing_units work dests (with_heard heard listing) left) (search rules)
    (c.in_err-reply.ensures.steps mode task stage (ap (λ n. events.Send (requests.List c.args.home.now.unit c.args.home.now.disk n)) (sym same)))

pub returns-clause-goes : goal.returns-clause-goes
returns-clause-goes g c = λ mode task work dests heard left same.
    let stage = TaskStage.ListingUnit work dests heard c.args.home.now left in
    goes_told (task_call mode task) _ _ (Next.Go stage) (after_unit work dests heard c.args.home.now left c.in_ok-reply.reply) c.unit_heard.result (λ listing. listing_units work dests (with_heard heard listing) left)
    (c.unit_heard.ensures work dests heard left same)
    (c.in_ok-reply.ensures.steps mode task stage (ap (λ n. events.Send (requests.List c.args.home.now.unit c.args.home.now.disk n)) (sym same)))
