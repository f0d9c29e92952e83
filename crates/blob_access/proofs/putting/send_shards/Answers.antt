use Rattle.std.proofs.Common.{◌≡◌, ◌+◌, ◌<◌, ◌≤◌, List, [], Ok, Err, length, get_or, drop, sym, ◌∙◌, ap, subst, rules}
use Rattle.unit_id.specs.declared.homes.Home.{Home}
use Rattle.volume_world.specs.Way.{Origin}
use Rattle.volume_world.specs.Replying.{AreHomes}
use Rattle.volume_world.specs.Call.{Next}
use Rattle.blob_access.specs.PutCall.{PutStage, put_call, sending}
use Rattle.blob_access.specs.PutParts.{PutsOn}
use Rattle.blob_access.proofs.PutLemmas.{sending_first, sending_part, sending_done, item_there, puts_failed, may_still}
use Rattle.blob_access.proofs.putting.send_shards.Goals as goal

pub units-init : goal.units-init
units-init g c = record { may = c.requires.may; homes = c.requires.homes; gone = sending_first _ _ _ _ _ }

pub send_shard-requires-clause-home : goal.send_shard-requires-clause-home
send_shard-requires-clause-home g c =
    let items = c.as_slice-home-items.ensures in
    let home = c.home-item.result in
    item_there _ c.args.units.now c.units.home-index home c.units.invariant.homes (subst (λ (xs : List Home). c.units.home-index < length xs) items c.units-test.true)
    (c.home-item.is ∙ ap (λ (xs : List Home). get_or xs c.units.home-index home) items)

pub returns-in_err-send_shard : goal.returns-in_err-send_shard
returns-in_err-send_shard g c = λ payload end same.
    let items = c.as_slice-home-items.ensures in
    let home = c.home-item.result in
    let call = put_call (g.P.Port.seen c.args.port.now).origin.mode c.args.bid payload in
    let fault = c.in_err-send_shard.field-0.0 in
    let below = subst (λ (xs : List Home). c.units.home-index < length xs) items c.units-test.true in
    let is = c.home-item.is ∙ ap (λ (xs : List Home). get_or xs c.units.home-index home) items in
    let failed = sending_part _ _ (g.P.Port.seen c.send_shard.new.port) c.args.bid c.args.blob.now c.args.units.now c.units.home-index home (Err fault) below is c.units.invariant.gone c.in_err-send_shard.ensures payload end same in
    let given : c.from_residual.result ≡ Err fault = search rules in
    subst (λ r. PutsOn {T = Unit {0}} call (g.P.Port.seen c.args.port.now) (g.P.Port.seen c.send_shard.new.port) (sending end c.args.units.now) r (λ _. Next.Go (PutStage.Ending end))) (sym given)
    (puts_failed call _ _ (sending end c.args.units.now) fault (λ _. Next.Go (sending end (drop (c.units.home-index + 1) c.args.units.now))) (λ _. Next.Go (PutStage.Ending end)) failed)

pub units-preserved : goal.units-preserved
units-preserved g c =
    let items = c.as_slice-home-items.ensures in
    let home = c.home-item.result in
    let below = subst (λ (xs : List Home). c.units.home-index < length xs) items c.units-test.true in
    let is = c.home-item.is ∙ ap (λ (xs : List Home). get_or xs c.units.home-index home) items in
    let begun = c.units.invariant.may.begun in
    let step = c.in_ok-send_shard.ensures begun.payload 0 [] begun.bytes in
    record {
      may = may_still _ _ step.parts _ _ _ step.goes c.units.invariant.may;
      homes = subst (λ (o : Origin). AreHomes o c.args.units.now) (sym step.goes.origin) c.units.invariant.homes;
      gone = record { goes = λ payload end same. sending_part _ _ (g.P.Port.seen c.send_shard.new.port) c.args.bid c.args.blob.now c.args.units.now c.units.home-index home (Ok c.in_ok-send_shard.field-0) below is c.units.invariant.gone c.in_ok-send_shard.ensures payload end same };
    }

pub returns : goal.returns
returns g c = λ payload end same.
    sending_done _ _ _ _ _ c.args.units.now c.units.home-index (subst (λ (xs : List Home). length xs ≤ c.units.home-index) c.as_slice-home-items.ensures c.units-test.false) c.units.invariant.gone payload end same
