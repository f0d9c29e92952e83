use Rattle.std.proofs.Common.{refl}
use Rattle.std.proofs.lemmas.Result.{IfOk-weaker}
use Rattle.volume_world.specs.declared.event.Event.TheVariants as events
use Rattle.volume_world.specs.Call.{Next}
use Rattle.blob_access.specs.PutCall.{PutStage, put_call, sending}
use Rattle.blob_access.proofs.PutLemmas.{never_cut, puts_replied, puts_stopped, begun_where}
use Rattle.blob_access.proofs.putting.begin.Goals as goal

pub returns-in-Ok-clause-puts : goal.returns-in-Ok-clause-puts
returns-in-Ok-clause-puts g c = λ mode.
    puts_replied (put_call mode c.args.bid c.args.payload) never_cut _ _ PutStage.Beginning (events.Begin c.args.bid c.args.payload) c.in-Ok.reply c.begun.result (λ opened. Next.Go (sending opened.end opened.units)) refl c.in-Ok.ensures c.begun.ensures.reply

pub returns-in-Ok-clause-begun : goal.returns-in-Ok-clause-begun
returns-in-Ok-clause-begun g c =
    IfOk-weaker c.begun.result _ _ (λ opened is. begun_where _ _ c.args.bid c.args.payload c.in-Ok.reply opened.end opened.units is c.in-Ok.ensures) c.begun.ensures.opened

pub returns-in-Err-clause-puts : goal.returns-in-Err-clause-puts
returns-in-Err-clause-puts g c = λ mode.
    puts_stopped (put_call mode c.args.bid c.args.payload) _ _ PutStage.Beginning (events.Begin c.args.bid c.args.payload) c.in-Err.fault c.from.result (λ opened. Next.Go (sending opened.end opened.units)) refl c.in-Err.ensures c.from.ensures
