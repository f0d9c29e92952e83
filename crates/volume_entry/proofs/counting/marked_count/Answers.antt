use Rattle.std.proofs.Common.{◌≡◌, ◌∙◌, ◌+◌, ℕ, Bool, ap, arith}
use Rattle.volume_entry.specs.HeardCounts.{marks_current}
use Rattle.unit_id.specs.Lists.{count_below}
use Rattle.volume_entry.proofs.HeardTallies.{count_step, count_most}
use Rattle.volume_entry.proofs.counting.marked_count.Goals as goal

pub overflow_add-count : goal.overflow_add-count
overflow_add-count c =
    let f : ℕ → Bool = marks_current c.args.marks.now.marks c.args.homes.now c.args.bid in
    let now : c.loop-index.count + c.one_if-count.result ≡ count_below (c.loop-index.index + 1) f =
    count_step c.loop-index.index f c.loop-index.count c.one_if-count.result c.is_marked.result c.loop-index.invariant c.one_if-count.ensures c.is_marked.ensures in
    let most = count_most (c.loop-index.index + 1) f in
    let below = c.loop-index-test.true in
    let fits = c.ranges.total in
    omega (arith, now, most, below, fits)

pub loop-index-preserved : goal.loop-index-preserved
loop-index-preserved c =
    let f : ℕ → Bool = marks_current c.args.marks.now.marks c.args.homes.now c.args.bid in
    count_step c.loop-index.index f c.loop-index.count c.one_if-count.result c.is_marked.result c.loop-index.invariant c.one_if-count.ensures c.is_marked.ensures

pub returns : goal.returns
returns c =
    let f : ℕ → Bool = marks_current c.args.marks.now.marks c.args.homes.now c.args.bid in
    let e : c.loop-index.index ≡ c.args.total = omega (arith, c.loop-index-test.false, c.loop-index.auto.index-end) in
    c.loop-index.invariant ∙ ap (λ n. count_below n f) e
