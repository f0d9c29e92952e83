use Rattle.std.proofs.Common.{refl}
use Rattle.volume_world.specs.declared.event.Event.TheVariants as events
use Rattle.volume_world.specs.Call.{Next}
use Rattle.blob_access.specs.PutCall.{PutStage, put_call}
use Rattle.blob_access.proofs.PutLemmas.{never_cut, puts_replied, puts_stopped}
use Rattle.blob_access.proofs.putting.lease.Goals as goal

pub returns-in-Ok : goal.returns-in-Ok
returns-in-Ok g c = λ mode bid payload.
    puts_replied (put_call mode bid payload) never_cut _ _ PutStage.Leasing events.Lease c.in-Ok.reply c.leased.result (λ _. Next.Go PutStage.Beginning) refl c.in-Ok.ensures c.leased.ensures

pub returns-in-Err : goal.returns-in-Err
returns-in-Err g c = λ mode bid payload.
    puts_stopped (put_call mode bid payload) _ _ PutStage.Leasing events.Lease c.in-Err.fault c.from.result (λ _. Next.Go PutStage.Beginning) refl c.in-Err.ensures c.from.ensures
