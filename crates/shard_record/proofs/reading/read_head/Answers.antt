use Rattle.std.proofs.Common.{◌≡◌, ◌∙◌, sym, ap, drop, ◌%◌, ◌^◌, Some, None, refl}
use Rattle.unit_id.specs.UnitName.{Name}
use Rattle.shard_record.specs.Crc.{crc_of}
use Rattle.shard_record.specs.Spelling.{sum_in, kind_in, unit_in, number_in}
use Rattle.shard_record.proofs.TestLists.{rest_of, head_short, head_sum, head_kind, head_unit, head_number, head_right}
use Rattle.shard_record.proofs.reading.read_head.Goals as goal
use Rattle.shard_record.proofs.reading.read_head.Goals.{else-kind-eq-RELEASE-via-then-kind-eq-RELEASE+else-number-ne0, else-kind-eq-RELEASE-via-else-kind-eq-RELEASE}

no_name : (n : Name) → Some n ≡ None → ⊥
no_name n e = cc

pub returns-then-bytes-lt-HEAD-clause-fault : goal.returns-then-bytes-lt-HEAD-clause-fault
returns-then-bytes-lt-HEAD-clause-fault c = sym (head_short c.args.bytes.now c.if-bytes-lt-HEAD.true)

pub returns-then-kept-computed-clause-fault : goal.returns-then-kept-computed-clause-fault
returns-then-kept-computed-clause-fault c =
    let computed : c.crc32-computed.result ≡ crc_of (drop 4 c.args.bytes.now) = c.crc32-computed.ensures ∙ ap crc_of (rest_of 4 c.args.bytes.now) in
    rw (c.size_at-kept.ensures, computed)
    (sym (head_sum c.args.bytes.now c.if-bytes-lt-HEAD.false (λ e. c.if-kept-computed.true (c.size_at-kept.ensures ∙ e ∙ sym computed))))

pub returns-then-not-is_kind-clause-fault : goal.returns-then-not-is_kind-clause-fault
returns-then-not-is_kind-clause-fault c =
    let computed : c.crc32-computed.result ≡ crc_of (drop 4 c.args.bytes.now) = c.crc32-computed.ensures ∙ ap crc_of (rest_of 4 c.args.bytes.now) in
    let right : sum_in c.args.bytes.now ≡ crc_of (drop 4 c.args.bytes.now) = sym c.size_at-kept.ensures ∙ c.if-kept-computed.false ∙ computed in
    sym (head_kind c.args.bytes.now c.if-bytes-lt-HEAD.false right (sym c.is_kind.ensures ∙ c.if-not-is_kind.true))

pub returns-in_default-clause-fault : goal.returns-in_default-clause-fault
returns-in_default-clause-fault c =
    let computed : c.crc32-computed.result ≡ crc_of (drop 4 c.args.bytes.now) = c.crc32-computed.ensures ∙ ap crc_of (rest_of 4 c.args.bytes.now) in
    let right : sum_in c.args.bytes.now ≡ crc_of (drop 4 c.args.bytes.now) = sym c.size_at-kept.ensures ∙ c.if-kept-computed.false ∙ computed in
    sym (head_unit c.args.bytes.now c.if-bytes-lt-HEAD.false right (sym c.is_kind.ensures ∙ c.if-not-is_kind.false) (ap (λ w. w % 2 ^ 24) (sym c.long_at.ensures) ∙ c.unpack.ensures.none.0 c.in_default.is))

pub returns-then-number-ne0-clause-fault : goal.returns-then-number-ne0-clause-fault
returns-then-number-ne0-clause-fault c =
    let computed : c.crc32-computed.result ≡ crc_of (drop 4 c.args.bytes.now) = c.crc32-computed.ensures ∙ ap crc_of (rest_of 4 c.args.bytes.now) in
    let right : sum_in c.args.bytes.now ≡ crc_of (drop 4 c.args.bytes.now) = sym c.size_at-kept.ensures ∙ c.if-kept-computed.false ∙ computed in
    let named : unit_in c.args.bytes.now % 2 ^ 24 ≡ 0 → ⊥ =
    λ h. let none : c.unpack.result ≡ None = c.unpack.ensures.none.1 (ap (λ w. w % 2 ^ 24) c.long_at.ensures ∙ h) in no_name c.in-Some.unit (sym c.in-Some.is ∙ none) in
    rw c.long_at-number.ensures
    (sym (head_number c.args.bytes.now c.if-bytes-lt-HEAD.false right (sym c.is_kind.ensures ∙ c.if-not-is_kind.false) named c.if-kind-eq-RELEASE.true (λ e. c.if-number-ne0.true (c.long_at-number.ensures ∙ e))))

pub returns-clause-fault : goal.returns-clause-fault
returns-clause-fault c =
    let computed : c.crc32-computed.result ≡ crc_of (drop 4 c.args.bytes.now) = c.crc32-computed.ensures ∙ ap crc_of (rest_of 4 c.args.bytes.now) in
    let right : sum_in c.args.bytes.now ≡ crc_of (drop 4 c.args.bytes.now) = sym c.size_at-kept.ensures ∙ c.if-kept-computed.false ∙ computed in
    let named : unit_in c.args.bytes.now % 2 ^ 24 ≡ 0 → ⊥ =
    λ h. let none : c.unpack.result ≡ None = c.unpack.ensures.none.1 (ap (λ w. w % 2 ^ 24) c.long_at.ensures ∙ h) in no_name c.in-Some.unit (sym c.in-Some.is ∙ none) in
    let released : kind_in c.args.bytes.now ≡ 5 → number_in c.args.bytes.now ≡ 0 =
    λ e. elim c.else-kind-eq-RELEASE.branch [
      | else-kind-eq-RELEASE-via-then-kind-eq-RELEASE+else-number-ne0 w ↦ sym c.long_at-number.ensures ∙ w.if-number-ne0.false
      | else-kind-eq-RELEASE-via-else-kind-eq-RELEASE w ↦ absurd (w.if-kind-eq-RELEASE.false e)
    ] in
    sym (head_right c.args.bytes.now c.if-bytes-lt-HEAD.false right (sym c.is_kind.ensures ∙ c.if-not-is_kind.false) named released)

pub returns-clause-head : goal.returns-clause-head
returns-clause-head c =
    let computed : c.crc32-computed.result ≡ crc_of (drop 4 c.args.bytes.now) = c.crc32-computed.ensures ∙ ap crc_of (rest_of 4 c.args.bytes.now) in
    let name = c.unpack.ensures.some c.in-Some.unit in
    record {
      inside = c.if-bytes-lt-HEAD.false;
      sum = sym c.size_at-kept.ensures ∙ c.if-kept-computed.false ∙ computed;
      kind_is = refl;
      number_is = c.long_at-number.ensures;
      fits = c.long_at-number.type_inv;
      name = (name.0 c.in-Some.is).0;
      unit_is = (name.0 c.in-Some.is).1 ∙ c.long_at.ensures;
      is_kind = sym c.is_kind.ensures ∙ c.if-not-is_kind.false;
      release = λ e. elim c.else-kind-eq-RELEASE.branch [
        | else-kind-eq-RELEASE-via-then-kind-eq-RELEASE+else-number-ne0 w ↦ w.if-number-ne0.false
        | else-kind-eq-RELEASE-via-else-kind-eq-RELEASE w ↦ absurd (w.if-kind-eq-RELEASE.false e)
      ];
    }
