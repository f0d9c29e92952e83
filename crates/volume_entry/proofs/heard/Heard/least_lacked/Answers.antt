use Rattle.std.proofs.Common.{◌≡◌, subst, ℕ, Bool, List, arith}
use Rattle.code_mode.proofs.Numbers.{sound_numbers}
use Rattle.volume_entry.specs.HeardCounts.{unsettled_by, usable}
use Rattle.volume_entry.specs.TableParts.{shape_of}
use Rattle.volume_entry.specs.Unsettled.{blobs_of}
use Rattle.volume_entry.proofs.UnsettledBlobs.{Found, found_all, unshown_settled}
use Rattle.volume_entry.proofs.heard.Heard.least_lacked.Goals as goal

pub returns : goal.returns
returns c =
    let test : ℕ → Bool = unsettled_by (shape_of c.args.shape) c.args.self.now c.args.homes.now c.args.broken.now c.args.transfers.now in
    let shown : ℕ → List ℕ = λ at. blobs_of (usable c.args.self.now.listings c.args.homes.now c.args.broken.now at) in
    let total = (shape_of c.args.shape).total in
    let whole : c.loop-index.index ≡ total = omega (arith, c.loop-index-test.false, c.loop-index.auto.index-end, c.total-index-end.ensures.value) in
    found_all test shown total c.loop-index.least (subst (λ n. Found test shown n c.loop-index.least) whole c.loop-index.invariant)
    (λ bid none. unshown_settled (shape_of c.args.shape) c.args.self.now c.args.homes.now c.args.broken.now c.args.transfers.now bid (sound_numbers c.args.shape.mode).some_data none)
