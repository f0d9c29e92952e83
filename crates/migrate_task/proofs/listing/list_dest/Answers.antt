use Rattle.std.proofs.Common.{sym, ap, rules}
use Rattle.unit_id.specs.declared.request.Request.TheVariants as requests
use Rattle.volume_world.specs.declared.event.Event.TheVariants as events
use Rattle.volume_world.specs.Call.{Next}
use Rattle.migrate_task.specs.AdvanceCall.{TaskStage, task_call, task_after, listing_dests, after_dest}
use Rattle.migrate_task.specs.TaskParts.{with_heard}
use Rattle.migrate_task.proofs.TaskLemmas.{goes_told, fails_on}
use Rattle.migrate_task.proofs.listing.list_dest.Goals as goal

pub returns-in_err-reply-clause-goes : goal.returns-in_err-reply-clause-goes
returns-in_err-reply-clause-goes g c = λ mode task work dests left same.
    let stage = TaskStage.ListingDest work dests c.args.journey.now left in
    fails_on (task_call mode task) _ _ (Next.Go stage) c.in_err-reply.field-0.0 c.from_residual.result (task_after mode task stage) (λ listing. listing_dests work (with_heard dests listing) left) (search rules)
    (c.in_err-reply.ensures.steps mode task stage (ap (λ n. events.Send (requests.List c.args.journey.now.dest.unit c.args.journey.now.dest.disk n)) (sym same)))

pub returns-clause-goes : goal.returns-clause-goes
returns-clause-goes g c = λ mode task work dests left same.
    let stage = TaskStage.ListingDest work dests c.args.journey.now left in
    goes_told (task_call mode task) _ _ (Next.Go stage) (after_dest work dests c.args.journey.now left c.in_ok-reply.reply) c.dest_heard.result (λ listing. listing_dests work (with_heard dests listing) left)
    (c.dest_heard.ensures work dests left same)
    (c.in_ok-reply.ensures.steps mode task stage (ap (λ n. events.Send (requests.List c.args.journey.now.dest.unit c.args.journey.now.dest.disk n)) (sym same)))
