use Rattle.std.proofs.Common.{◌≡◌, ◌∙◌, sym, refl}
use Rattle.std.proofs.lemmas.Result.{err_from_is_err_and}
use Rattle.shard_record.specs.Spelling.{kind_in}
use Rattle.shard_record.proofs.Spelled.{shard_result, short_spelled}
use Rattle.shard_record.proofs.TestLists.{fault_of_head, fault_of_shard, fault_of_end, end_trailing, end_right}
use Rattle.shard_record.proofs.reading.read.Goals as goal

pub returns-in_err-head-clause-fault : goal.returns-in_err-head-clause-fault
returns-in_err-head-clause-fault c =
    let p = err_from_is_err_and c.from_residual.result c.from_residual.ensures.1 in
    rw (fault_of_head c.args.bytes.now c.in_err-head.field-0.0 c.in_err-head.ensures.fault) (rw (p.1, p.2) refl)

pub returns-then-head-eq-SHARD-clause-spelled : goal.returns-then-head-eq-SHARD-clause-spelled
returns-then-head-eq-SHARD-clause-spelled c =
    shard_result c.args.bytes.now c.in_ok-head.head.kind c.in_ok-head.head.number c.in_ok-head.head.unit
    (λ k. (c.type_inv.bytes k).fits) c.in_ok-head.ensures.head c.if-head-eq-SHARD.true
    c.read_shard.result c.read_shard.ensures.shard c.read_shard.ensures.sizes

pub returns-then-head-eq-SHARD-clause-fault : goal.returns-then-head-eq-SHARD-clause-fault
returns-then-head-eq-SHARD-clause-fault c =
    let kind : kind_in c.args.bytes.now ≡ 1 = sym c.in_ok-head.ensures.head.kind_is ∙ c.if-head-eq-SHARD.true in
    rw (fault_of_shard c.args.bytes.now c.in_ok-head.ensures.fault kind) c.read_shard.ensures.fault

pub returns-then-bytes-gt-HEAD-clause-fault : goal.returns-then-bytes-gt-HEAD-clause-fault
returns-then-bytes-gt-HEAD-clause-fault c =
    let kind : kind_in c.args.bytes.now ≡ 1 → ⊥ = λ e. c.if-head-eq-SHARD.false (c.in_ok-head.ensures.head.kind_is ∙ e) in
    rw (fault_of_end c.args.bytes.now c.in_ok-head.ensures.fault kind ∙ end_trailing c.args.bytes.now c.if-bytes-gt-HEAD.true) refl

pub returns-clause-spelled : goal.returns-clause-spelled
returns-clause-spelled c =
    short_spelled c.args.bytes.now c.in_ok-head.head.kind c.in_ok-head.head.number c.in_ok-head.head.unit c.record_of.result
    (λ k. (c.type_inv.bytes k).fits) c.in_ok-head.ensures.head c.if-bytes-gt-HEAD.false
    c.record_of.ensures.sizes c.record_of.ensures.kind c.record_of.ensures.number c.record_of.ensures.unit c.record_of.ensures.part

pub returns-clause-fault : goal.returns-clause-fault
returns-clause-fault c =
    let kind : kind_in c.args.bytes.now ≡ 1 → ⊥ = λ e. c.if-head-eq-SHARD.false (c.in_ok-head.ensures.head.kind_is ∙ e) in
    rw (fault_of_end c.args.bytes.now c.in_ok-head.ensures.fault kind ∙ end_right c.args.bytes.now c.if-bytes-gt-HEAD.false) tt
