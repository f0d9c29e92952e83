use Rattle.std.proofs.Common.{◌≡◌, ◌∙◌, sym, ap, length, ◌-◌, true, arith}
use Rattle.shard_record.specs.Spelling.{is_size, blob_size_in, length_in}
use Rattle.shard_record.proofs.TestLists.{shard_short, shard_blob_size, shard_size, shard_length, shard_trailing, shard_right}
use Rattle.shard_record.proofs.reading.read_sizes.Goals as goal

pub returns-then-bytes-lt-SHARD_HEAD-clause-fault : goal.returns-then-bytes-lt-SHARD_HEAD-clause-fault
returns-then-bytes-lt-SHARD_HEAD-clause-fault c = sym (shard_short c.args.bytes.now c.if-bytes-lt-SHARD_HEAD.true)

pub returns-then-not-is_size-clause-fault : goal.returns-then-not-is_size-clause-fault
returns-then-not-is_size-clause-fault c =
    rw c.size_at-size.ensures
    (sym (shard_blob_size c.args.bytes.now c.if-bytes-lt-SHARD_HEAD.false
    (ap is_size (sym c.size_at-size.ensures) ∙ sym c.is_size.ensures ∙ c.if-not-is_size.true)))

pub returns-then-not-is_size-2-clause-fault : goal.returns-then-not-is_size-2-clause-fault
returns-then-not-is_size-2-clause-fault c =
    let size : is_size (blob_size_in c.args.bytes.now) ≡ true = ap is_size (sym c.size_at-size.ensures) ∙ sym c.is_size.ensures ∙ c.if-not-is_size.false in
    rw c.size_at-stated.ensures
    (sym (shard_size c.args.bytes.now c.if-bytes-lt-SHARD_HEAD.false size
    (ap is_size (sym c.size_at-stated.ensures) ∙ sym c.is_size-2.ensures ∙ c.if-not-is_size-2.true)))

pub returns-then-have-stated-clause-fault : goal.returns-then-have-stated-clause-fault
returns-then-have-stated-clause-fault c =
    let size : is_size (blob_size_in c.args.bytes.now) ≡ true = ap is_size (sym c.size_at-size.ensures) ∙ sym c.is_size.ensures ∙ c.if-not-is_size.false in
    let stated : is_size (length_in c.args.bytes.now) ≡ true = ap is_size (sym c.size_at-stated.ensures) ∙ sym c.is_size-2.ensures ∙ c.if-not-is_size-2.false in
    rw c.size_at-stated.ensures
    (sym (shard_length c.args.bytes.now c.if-bytes-lt-SHARD_HEAD.false size stated (omega (arith, c.size_at-stated.ensures))))

pub returns-then-stated-have-clause-fault : goal.returns-then-stated-have-clause-fault
returns-then-stated-have-clause-fault c =
    let size : is_size (blob_size_in c.args.bytes.now) ≡ true = ap is_size (sym c.size_at-size.ensures) ∙ sym c.is_size.ensures ∙ c.if-not-is_size.false in
    let stated : is_size (length_in c.args.bytes.now) ≡ true = ap is_size (sym c.size_at-stated.ensures) ∙ sym c.is_size-2.ensures ∙ c.if-not-is_size-2.false in
    rw c.size_at-stated.ensures
    (sym (shard_trailing c.args.bytes.now c.if-bytes-lt-SHARD_HEAD.false size stated (omega (arith, c.size_at-stated.ensures)) (omega (arith, c.size_at-stated.ensures))))

pub returns-clause-fault : goal.returns-clause-fault
returns-clause-fault c =
    let size : is_size (blob_size_in c.args.bytes.now) ≡ true = ap is_size (sym c.size_at-size.ensures) ∙ sym c.is_size.ensures ∙ c.if-not-is_size.false in
    let stated : is_size (length_in c.args.bytes.now) ≡ true = ap is_size (sym c.size_at-stated.ensures) ∙ sym c.is_size-2.ensures ∙ c.if-not-is_size-2.false in
    sym (shard_right c.args.bytes.now c.if-bytes-lt-SHARD_HEAD.false size stated (omega (arith, c.size_at-stated.ensures)) (omega (arith, c.size_at-stated.ensures)))

pub returns-clause-shard : goal.returns-clause-shard
returns-clause-shard c =
    let stated : length_in c.args.bytes.now ≡ length c.args.bytes.now - 29 = omega (arith, c.size_at-stated.ensures) in
    record {
      inside = c.if-bytes-lt-SHARD_HEAD.false;
      blob_size_is = c.size_at-size.ensures;
      blob = sym c.is_size.ensures ∙ c.if-not-is_size.false;
      stated = stated;
      size = ap is_size (sym stated ∙ sym c.size_at-stated.ensures) ∙ sym c.is_size-2.ensures ∙ c.if-not-is_size-2.false;
    }
