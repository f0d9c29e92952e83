use Rattle.std.proofs.Common.{◌≡◌, ◌∙◌, ℕ, Bool, true, false, ap, sym, arith}
use Rattle.unit_id.specs.Lists.{some_below}
use Rattle.volume_entry.specs.Benchmark.{shows_marked}
use Rattle.volume_entry.specs.HeardCounts.{marked_at}
use Rattle.volume_entry.proofs.HeardTallies.{some_next, some_hit}
use Rattle.volume_entry.proofs.settling.is_marked_by.Goals as goal

pub returns-then-shows_marked : goal.returns-then-shows_marked
returns-then-shows_marked c =
    let f : ℕ → Bool = marked_at c.args.listings.now c.args.homes.now c.args.broken.now c.args.bid in
    let here : f c.loop-index.index ≡ true = sym (c.shows_marked.ensures ∙ ap (λ o. shows_marked o c.args.bid) c.usable.ensures) ∙ c.if-shows_marked.true in
    sym (some_hit c.args.total f c.loop-index.index c.loop-index-test.true here)

pub loop-index-preserved : goal.loop-index-preserved
loop-index-preserved c =
    let f : ℕ → Bool = marked_at c.args.listings.now c.args.homes.now c.args.broken.now c.args.bid in
    let here : f c.loop-index.index ≡ false = sym (c.shows_marked.ensures ∙ ap (λ o. shows_marked o c.args.bid) c.usable.ensures) ∙ c.if-shows_marked.false in
    some_next c.loop-index.index f here c.loop-index.invariant

pub returns : goal.returns
returns c =
    let f : ℕ → Bool = marked_at c.args.listings.now c.args.homes.now c.args.broken.now c.args.bid in
    let e : c.loop-index.index ≡ c.args.total = omega (arith, c.loop-index-test.false, c.loop-index.auto.index-end) in
    sym (ap (λ n. some_below n f) (sym e) ∙ c.loop-index.invariant)
