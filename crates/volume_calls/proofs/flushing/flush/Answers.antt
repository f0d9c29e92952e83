use Rattle.std.proofs.Common.{arith, rules}
use Rattle.volume_calls.proofs.FlushLemmas.{flushing_first, flushing_on, flushing_over, flushing_fails, more_entries, count_more}
use Rattle.volume_calls.proofs.flushing.flush.Goals as goal

pub items-init : goal.items-init
items-init g c = record { gone = flushing_first (g.P.Port.seen c.args.port.now); count = omega arith }

pub returns-in_err-request : goal.returns-in_err-request
returns-in_err-request g c =
    flushing_fails (g.P.Port.seen c.args.port.now) _ (g.P.Port.seen c.flush_one.new.port) c.items.flushed c.in_err-request.field-0.0 c.from_residual.result c.items.invariant.gone c.in_err-request.ensures (search rules)

pub counted-flushed-requires : goal.counted-flushed-requires
counted-flushed-requires g c =
    let more = more_entries _ (g.P.Port.seen c.flush_one.new.port) c.in_ok-request.field-0 c.in_ok-request.ensures in
    let less = more.0 in
    let few = more.1 in
    let count = c.items.invariant.count in
    omega arith

pub items-preserved : goal.items-preserved
items-preserved g c =
    let more = more_entries _ (g.P.Port.seen c.flush_one.new.port) c.in_ok-request.field-0 c.in_ok-request.ensures in
    let less = more.0 in
    let one = count_more c.items.flushed c.counted-flushed.result c.in-Some.request c.counted-flushed.ensures in
    let count = c.items.invariant.count in
    record {
      gone = flushing_on (g.P.Port.seen c.args.port.now) _ (g.P.Port.seen c.flush_one.new.port) c.items.flushed c.counted-flushed.result c.in_ok-request.field-0 c.in-Some.request c.items.invariant.gone c.in_ok-request.ensures c.in-Some.is c.counted-flushed.ensures;
      count = omega arith;
    }

pub items-smaller : goal.items-smaller
items-smaller g c =
    let more = more_entries _ (g.P.Port.seen c.flush_one.new.port) c.in_ok-request.field-0 c.in_ok-request.ensures in
    let less = more.0 in
    let few = more.1 in
    omega arith

pub returns : goal.returns
returns g c =
    flushing_over (g.P.Port.seen c.args.port.now) _ (g.P.Port.seen c.flush_one.new.port) c.items.flushed c.in_ok-request.field-0 c.items.invariant.gone c.in_ok-request.ensures c.in_default.is
