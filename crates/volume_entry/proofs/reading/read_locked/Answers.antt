use Rattle.std.proofs.Common.{◌≡◌, ◌∙◌, sym, ap, ◌*◌, ◌-◌, ◌<◌, ◌^◌, length, drop, take, get_or, arith}
use Rattle.shard_record.proofs.TestLists.{rest_of}
use Rattle.volume_entry.proofs.RecordKinds.{lock_has}
use Rattle.volume_entry.proofs.RecordReads.{locked_is, locked_counts}
use Rattle.volume_entry.proofs.reading.read_locked.Goals as goal

pub returns-then-fields-lt-LOCK_HEAD : goal.returns-then-fields-lt-LOCK_HEAD
returns-then-fields-lt-LOCK_HEAD c = λ vid mode item h. let says = lock_has vid mode c.args.fields.now item h in absurd (omega (arith, says.inside))

pub returns-then-grants-from : goal.returns-then-grants-from
returns-then-grants-from c = λ vid mode item h.
    let rest = c.split_long-lock.result.1.now in
    let counts = locked_counts vid mode c.args.fields.now c.split_long-task.result.0 c.split_long-lock.result.0 c.split_long-task.result.1.now rest item c.split_long-task.ensures.split c.split_long-lock.ensures.split h in
    absurd (c.if-grants-from.true (ap length (rest_of 1 rest) ∙ counts ∙ ap (λ n. 9 * n) (sym c.from.ensures)))

pub returns : goal.returns
returns c = λ vid mode.
    let rest = c.split_long-lock.result.1.now in
    let counted : length (take (length rest - 1) (drop 1 rest)) ≡ 9 * get_or rest 0 0 = c.if-grants-from.false ∙ ap (λ n. 9 * n) c.from.ensures in
    let at : get_or c.args.fields.now 16 0 ≡ get_or rest 0 0 = ap (λ bs. get_or bs 16 0) c.split_long-task.ensures.split ∙ ap (λ bs. get_or bs 8 0) c.split_long-lock.ensures.split in
    let small : get_or rest 0 0 < 2 ^ 8 = omega (arith, at, (c.type_inv.fields 16).fits) in
    let found = c.in_ok-grants.ensures.grants (get_or rest 0 0) counted in
    locked_is vid mode c.args.fields.now c.split_long-task.result.0 c.split_long-lock.result.0 c.split_long-task.result.1.now rest c.in_ok-grants.grants.items
    c.split_long-task.ensures.split c.split_long-lock.ensures.split (omega (arith, c.if-fields-lt-LOCK_HEAD.false, ap length c.split_long-task.ensures.split, ap length c.split_long-lock.ensures.split))
    (sym (rest_of 1 rest) ∙ found.0) found.1 small
    c.split_long-task.ensures.fits c.split_long-lock.ensures.fits c.in_ok-grants.ensures.fits
