use Rattle.std.proofs.Common.{◌≡◌, ◌∙◌, sym, ap, ℕ, ◌*◌, ◌-◌, ◌<◌, ◌^◌, length, drop, take, get_or, arith}
use Rattle.std.specs.Int.{w32, to_be_bytes, from_be_bytes}
use Rattle.std.proofs.lemmas.Nat.{from_be_bytes-to_be_bytes_4}
use Rattle.shard_record.proofs.TestLists.{rest_of}
use Rattle.volume_entry.proofs.RecordKinds.{made_has}
use Rattle.volume_entry.proofs.RecordReads.{made_is, made_parts}
use Rattle.volume_entry.proofs.reading.read_made.Goals as goal
use Rattle.volume_entry.proofs.reading.read_made.Goals.{then-stated-vid-via-then-stated-vid, then-stated-vid-via-else-stated-vid+then-rest-mode_number, then-stated-vid-via-else-stated-vid+else-rest-mode_number+then-homes-from}

same_word : (a b : ℕ) → a < 2 ^ 32 → b < 2 ^ 32 → to_be_bytes w32 a ≡ to_be_bytes w32 b → a ≡ b
same_word a b f g e = sym (from_be_bytes-to_be_bytes_4 a f) ∙ ap (from_be_bytes w32) e ∙ from_be_bytes-to_be_bytes_4 b g

pub returns-then-fields-lt-MADE_HEAD : goal.returns-then-fields-lt-MADE_HEAD
returns-then-fields-lt-MADE_HEAD c = λ item h. let says = made_has c.args.vid c.args.mode c.args.fields.now item h in absurd (omega (arith, says.inside))

pub returns-then-stated-vid : goal.returns-then-stated-vid
returns-then-stated-vid c = λ item h.
    let rest = c.split_word-stated.result.1.now in
    let parts = made_parts c.args.vid c.args.mode c.args.fields.now c.split_word-stated.result.0 rest item c.split_word-stated.ensures.split h in
    elim c.then-stated-vid.branch [
      | then-stated-vid-via-then-stated-vid w ↦ absurd (w.if-stated-vid.true (same_word c.split_word-stated.result.0 c.args.vid c.split_word-stated.ensures.fits c.ranges.vid.fits parts.vid_is))
      | then-stated-vid-via-else-stated-vid+then-rest-mode_number w ↦ absurd (w.if-rest-mode_number.true (parts.mode_is ∙ sym w.mode_number.ensures))
      | then-stated-vid-via-else-stated-vid+else-rest-mode_number+then-homes-from w ↦ absurd (w.if-homes-from.true (ap length (rest_of 2 rest) ∙ parts.counts ∙ ap (λ n. 8 * n) (sym w.from.ensures)))
    ]

pub returns : goal.returns
returns c =
    let rest = c.split_word-stated.result.1.now in
    let counted : length (take (length rest - 2) (drop 2 rest)) ≡ 8 * get_or rest 1 0 = c.if-homes-from.false ∙ ap (λ n. 8 * n) c.from.ensures in
    let at : get_or c.args.fields.now 5 0 ≡ get_or rest 1 0 = ap (λ bs. get_or bs 5 0) c.split_word-stated.ensures.split in
    let small : get_or rest 1 0 < 2 ^ 8 = omega (arith, at, (c.type_inv.fields 5).fits) in
    let found = c.in_ok-homes.ensures.homes (get_or rest 1 0) counted in
    made_is c.args.vid c.args.mode c.args.fields.now c.split_word-stated.result.0 rest c.in_ok-homes.homes.items
    c.split_word-stated.ensures.split c.if-stated-vid.false (omega (arith, c.if-fields-lt-MADE_HEAD.false, ap length c.split_word-stated.ensures.split))
    (c.if-rest-mode_number.false ∙ c.mode_number.ensures)
    (sym (rest_of 2 rest) ∙ found.0) found.1 small c.in_ok-homes.ensures.fits
