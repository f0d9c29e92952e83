use Rattle.std.proofs.Common.{◌≡◌, ◌∙◌, ◌+◌, ℕ, Bool, ap, arith}
use Rattle.unit_id.specs.Lists.{count_below}
use Rattle.volume_entry.specs.Benchmark.{shows_live}
use Rattle.volume_entry.specs.HeardCounts.{live_at}
use Rattle.volume_entry.proofs.HeardTallies.{count_step, count_most}
use Rattle.volume_entry.proofs.settling.live_count.Goals as goal

pub overflow_add-count : goal.overflow_add-count
overflow_add-count c =
    let f : ℕ → Bool = live_at c.args.listings.now c.args.homes.now c.args.broken.now c.args.bid in
    let shown : c.shows_live-shown.result ≡ f c.loop-index.index = c.shows_live-shown.ensures ∙ ap (λ o. shows_live o c.args.bid) c.usable.ensures in
    let now : c.loop-index.count + c.one_if-count.result ≡ count_below (c.loop-index.index + 1) f =
    count_step c.loop-index.index f c.loop-index.count c.one_if-count.result c.shows_live-shown.result c.loop-index.invariant c.one_if-count.ensures shown in
    let most = count_most (c.loop-index.index + 1) f in
    let below = c.loop-index-test.true in
    let fits = c.ranges.total in
    omega (arith, now, most, below, fits)

pub loop-index-preserved : goal.loop-index-preserved
loop-index-preserved c =
    let f : ℕ → Bool = live_at c.args.listings.now c.args.homes.now c.args.broken.now c.args.bid in
    let shown : c.shows_live-shown.result ≡ f c.loop-index.index = c.shows_live-shown.ensures ∙ ap (λ o. shows_live o c.args.bid) c.usable.ensures in
    count_step c.loop-index.index f c.loop-index.count c.one_if-count.result c.shows_live-shown.result c.loop-index.invariant c.one_if-count.ensures shown

pub returns : goal.returns
returns c =
    let f : ℕ → Bool = live_at c.args.listings.now c.args.homes.now c.args.broken.now c.args.bid in
    let e : c.loop-index.index ≡ c.args.total = omega (arith, c.loop-index-test.false, c.loop-index.auto.index-end) in
    c.loop-index.invariant ∙ ap (λ n. count_below n f) e
