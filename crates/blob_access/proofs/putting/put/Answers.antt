use Rattle.std.proofs.Common.{ℕ, ◌<◌, List, All, Ok, Err, sym, ◌∙◌, ap, subst, rules}
use Rattle.code_mode.specs.Stripe.{all_shards}
use Rattle.volume_world.specs.Call.{Next}
use Rattle.volume_world.proofs.Comings.{proceeds_on}
use Rattle.blob_access.specs.PutCall.{PutStage, put_call, sending}
use Rattle.blob_access.proofs.PutLemmas.{put_stops, put_fails, puts_on, puts_whole, rest_on, may_send}
use Rattle.blob_access.proofs.putting.put.Goals as goal

pub returns-in_err-blob-clause-puts : goal.returns-in_err-blob-clause-puts
returns-in_err-blob-clause-puts g c = put_stops _ c.args.bid c.args.payload c.from_residual.result (search rules)

pub returns-in_err-shards-clause-puts : goal.returns-in_err-shards-clause-puts
returns-in_err-shards-clause-puts g c = put_stops _ c.args.bid c.args.payload c.from_residual-in_err-shards.result (search rules)

pub returns-in_err-lease-clause-puts : goal.returns-in_err-lease-clause-puts
returns-in_err-lease-clause-puts g c =
    let a = g.P.Port.seen c.args.port.now in
    put_fails a _ c.args.bid c.args.payload c.from_residual-in_err-lease.result c.in_err-lease.field-0.0 (λ _. Next.Go PutStage.Beginning) (search rules) (c.in_err-lease.ensures a.origin.mode c.args.bid c.args.payload)

pub begin-requires : goal.begin-requires
begin-requires g c = record {
  number = c.requires.number;
  some = c.requires.size.0;
  most = c.requires.size.1;
  bytes = subst (λ (bytes : List ℕ). All (λ b. b < 256) bytes) (c.as_slice.ensures ∙ c.in_ok-blob.ensures) c.in_ok-shards.ensures.bytes;
}

pub returns-in_err-opened-clause-puts : goal.returns-in_err-opened-clause-puts
returns-in_err-opened-clause-puts g c =
    let a = g.P.Port.seen c.args.port.now in
    let b = g.P.Port.seen c.lease.new.port in
    let end = g.P.Port.seen c.begin.new.port in
    let call = put_call a.origin.mode c.args.bid c.args.payload in
    let fault = c.in_err-opened.field-0.0 in
    put_fails a end c.args.bid c.args.payload c.from_residual-in_err-opened.result fault (λ opened. Next.Go (sending opened.end opened.units)) (search rules)
    (puts_on call a b end PutStage.Leasing PutStage.Beginning (Err fault) (λ opened. Next.Go (sending opened.end opened.units)) (c.in_ok-lease.ensures a.origin.mode c.args.bid c.args.payload) (c.in_err-opened.ensures.puts a.origin.mode))

pub send_shards-requires-clause-may : goal.send_shards-requires-clause-may
send_shards-requires-clause-may g c =
    let a = g.P.Port.seen c.args.port.now in
    let b = g.P.Port.seen c.lease.new.port in
    let d = g.P.Port.seen c.begin.new.port in
    let call = put_call a.origin.mode c.args.bid c.args.payload in
    let before = proceeds_on call a b d (Next.Go PutStage.Leasing) (Next.Go PutStage.Beginning) (Next.Go (sending c.in_ok-opened.opened.end c.in_ok-opened.opened.units)) (c.in_ok-lease.ensures a.origin.mode c.args.bid c.args.payload) (c.in_ok-opened.ensures.puts a.origin.mode) in
    may_send a d c.args.bid c.args.payload c.as_slice-2.result.now c.in_ok-shards.shards c.mode.result before.goes.origin c.mode.ensures (c.as_slice-2.ensures ∙ c.in_ok-blob.ensures)
    (record { number = c.requires.number; some = c.requires.size.0; most = c.requires.size.1; bytes = subst (λ (bytes : List ℕ). All (λ b. b < 256) bytes) (c.as_slice.ensures ∙ c.in_ok-blob.ensures) c.in_ok-shards.ensures.bytes })
    (c.in_ok-shards.ensures.all ∙ ap (all_shards c.mode.result) (c.as_slice.ensures ∙ sym c.as_slice-2.ensures)) c.in_ok-opened.ensures.begun

pub returns-in_err-send_shards-clause-puts : goal.returns-in_err-send_shards-clause-puts
returns-in_err-send_shards-clause-puts g c =
    let a = g.P.Port.seen c.args.port.now in
    let b = g.P.Port.seen c.lease.new.port in
    let d = g.P.Port.seen c.begin.new.port in
    let e = g.P.Port.seen c.send_shards.new.port in
    let call = put_call a.origin.mode c.args.bid c.args.payload in
    let fault = c.in_err-send_shards.field-0.0 in
    let end = c.in_ok-opened.opened.end in
    let units = c.in_ok-opened.opened.units in
    let before = proceeds_on call a b d (Next.Go PutStage.Leasing) (Next.Go PutStage.Beginning) (Next.Go (sending end units)) (c.in_ok-lease.ensures a.origin.mode c.args.bid c.args.payload) (c.in_ok-opened.ensures.puts a.origin.mode) in
    let rest = rest_on {T = Unit {0}} a d e c.args.bid c.args.payload (sending end units) (Err fault) (λ _. Next.Go (PutStage.Ending end)) before.goes.origin
    (c.in_err-send_shards.ensures c.args.payload end (sym (c.as_slice-2.ensures ∙ c.in_ok-blob.ensures))) in
    put_fails a e c.args.bid c.args.payload c.from_residual-in_err-send_shards.result fault (λ _. Next.Go (PutStage.Ending end)) (search rules)
    (puts_on {T = Unit {0}} call a d e PutStage.Leasing (sending end units) (Err fault) (λ _. Next.Go (PutStage.Ending end)) before rest)

pub returns-clause-puts : goal.returns-clause-puts
returns-clause-puts g c =
    let a = g.P.Port.seen c.args.port.now in
    let b = g.P.Port.seen c.lease.new.port in
    let d = g.P.Port.seen c.begin.new.port in
    let e = g.P.Port.seen c.send_shards.new.port in
    let f = g.P.Port.seen c.finish.new.port in
    let call = put_call a.origin.mode c.args.bid c.args.payload in
    let end = c.in_ok-opened.opened.end in
    let units = c.in_ok-opened.opened.units in
    let before = proceeds_on call a b d (Next.Go PutStage.Leasing) (Next.Go PutStage.Beginning) (Next.Go (sending end units)) (c.in_ok-lease.ensures a.origin.mode c.args.bid c.args.payload) (c.in_ok-opened.ensures.puts a.origin.mode) in
    let sent = rest_on {T = Unit {0}} a d e c.args.bid c.args.payload (sending end units) (Ok c.in_ok-send_shards.field-0) (λ _. Next.Go (PutStage.Ending end)) before.goes.origin
    (c.in_ok-send_shards.ensures c.args.payload end (sym (c.as_slice-2.ensures ∙ c.in_ok-blob.ensures))) in
    let all = proceeds_on call a d e (Next.Go PutStage.Leasing) (Next.Go (sending end units)) (Next.Go (PutStage.Ending end)) before sent in
    puts_whole a f c.args.bid c.args.payload c.finish.result
    (puts_on call a e f PutStage.Leasing (PutStage.Ending end) c.finish.result (λ acked. Next.Over (Ok acked)) all (c.finish.ensures a.origin.mode c.args.payload))
