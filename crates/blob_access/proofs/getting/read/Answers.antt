use Rattle.std.proofs.Common.{Ok, refl, sym, ap}
use Rattle.unit_id.specs.declared.request.Request.TheVariants as requests
use Rattle.volume_world.specs.declared.event.Event.TheVariants as events
use Rattle.blob_access.specs.GetCall.{GetStage, after_read}
use Rattle.blob_access.proofs.GetLemmas.{gets_replied, gets_stopped}
use Rattle.blob_access.proofs.getting.read.Goals as goal

pub returns-in-Ok-clause-reads : goal.returns-in-Ok-clause-reads
returns-in-Ok-clause-reads g c = λ wanted t left same.
    gets_replied wanted _ _ (GetStage.Read t c.args.home.now left) (events.Send (requests.Read c.args.home.now.unit c.args.home.now.disk c.args.bid)) c.in-Ok.reply (Ok c.in-Ok.reply) (λ reply. after_read wanted t c.args.home.now left reply)
    (ap (λ b. events.Send (requests.Read c.args.home.now.unit c.args.home.now.disk b)) (sym same)) c.in-Ok.ensures refl

pub returns-in-Err-clause-reads : goal.returns-in-Err-clause-reads
returns-in-Err-clause-reads g c = λ wanted t left same.
    gets_stopped wanted _ _ (GetStage.Read t c.args.home.now left) (events.Send (requests.Read c.args.home.now.unit c.args.home.now.disk c.args.bid)) c.in-Err.fault c.from.result (λ reply. after_read wanted t c.args.home.now left reply)
    (ap (λ b. events.Send (requests.Read c.args.home.now.unit c.args.home.now.disk b)) (sym same)) c.in-Err.ensures c.from.ensures
