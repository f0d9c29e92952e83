use Rattle.std.proofs.Common.{◌∙◌, ap, length, rules}
use Rattle.unit_id.specs.UnitName.{Name}
use Rattle.unit_id.specs.declared.request.Request.TheVariants as requests
use Rattle.code_mode.specs.Stripe.{shard_of}
use Rattle.volume_world.specs.declared.event.Event.TheVariants as events
use Rattle.volume_world.specs.Call.{Next}
use Rattle.blob_access.specs.PutCall.{PutStage, put_call, sending}
use Rattle.blob_access.proofs.PutLemmas.{never_cut, puts_replied, puts_stopped, puts_nowhere, send_may, sends_shard}
use Rattle.blob_access.proofs.putting.send_shard.Goals as goal

pub returns-in_err-bytes : goal.returns-in_err-bytes
returns-in_err-bytes g c = λ payload end left same. puts_nowhere _ _ (PutStage.Sending end c.args.home.now left) c.from_residual.result (λ _. Next.Go (sending end left)) (search rules)

pub step-requires : goal.step-requires
step-requires g c =
    send_may _ c.args.bid c.args.blob.now c.args.shards.now c.in_ok-bytes.bytes c.args.home.now c.is_way.ensures c.requires.may c.requires.home
    (c.in_ok-bytes.ensures ∙ ap (λ (n : Name). shard_of c.mode.result c.args.blob.now n.index) c.unit.view_is ∙ ap (λ m. shard_of m c.args.blob.now c.args.home.now.unit.index) c.mode.ensures)

pub returns-in-Ok : goal.returns-in-Ok
returns-in-Ok g c = λ payload end left same.
    let mode = (g.P.Port.seen c.args.port.now).origin.mode in
    puts_replied (put_call mode c.args.bid payload) never_cut _ _ (PutStage.Sending end c.args.home.now left)
    (events.Send (requests.Put c.args.home.now.unit c.args.home.now.disk c.args.bid (length c.args.blob.now) c.in_ok-bytes.bytes)) c.in-Ok.reply c.sent.result (λ _. Next.Go (sending end left))
    (sends_shard mode c.args.bid end payload c.args.blob.now c.in_ok-bytes.bytes c.args.home.now left same (c.in_ok-bytes.ensures ∙ ap (λ (n : Name). shard_of c.mode.result c.args.blob.now n.index) c.unit.view_is ∙ ap (λ m. shard_of m c.args.blob.now c.args.home.now.unit.index) c.mode.ensures))
    c.in-Ok.ensures (c.sent.ensures (sending end left))

pub returns-in-Err : goal.returns-in-Err
returns-in-Err g c = λ payload end left same.
    let mode = (g.P.Port.seen c.args.port.now).origin.mode in
    puts_stopped (put_call mode c.args.bid payload) _ _ (PutStage.Sending end c.args.home.now left)
    (events.Send (requests.Put c.args.home.now.unit c.args.home.now.disk c.args.bid (length c.args.blob.now) c.in_ok-bytes.bytes)) c.in-Err.fault c.from.result (λ _. Next.Go (sending end left))
    (sends_shard mode c.args.bid end payload c.args.blob.now c.in_ok-bytes.bytes c.args.home.now left same (c.in_ok-bytes.ensures ∙ ap (λ (n : Name). shard_of c.mode.result c.args.blob.now n.index) c.unit.view_is ∙ ap (λ m. shard_of m c.args.blob.now c.args.home.now.unit.index) c.mode.ensures))
    c.in-Err.ensures c.from.ensures
