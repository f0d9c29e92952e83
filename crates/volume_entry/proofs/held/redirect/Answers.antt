use Rattle.std.proofs.Common.{◌≡◌, List, [], ◌∷◌, ap, get_or}
use Rattle.volume_entry.specs.Manager.{Transfer}
use Rattle.volume_entry.proofs.TableLists.{redirected_one, done_step, done_all, done-redirected}
use Rattle.volume_entry.proofs.held.redirect.Goals as goal

first_is : (t u : Transfer) → t ∷ [] ≡ u ∷ [] → t ≡ u
first_is t u e = ap (λ (ts : List Transfer). get_or ts 0 t) e

pub loop-place-preserved : goal.loop-place-preserved
loop-place-preserved c =
    done_step (redirected_one c.args.grant) c.loop-place.transfers c.loop-place.place c.args.transfers.now c.index-transfers-place.result c.redirected_one.result c.index-transfers-place.result c.loop-place-test.true c.loop-place.invariant c.index-transfers-place.is (first_is c.redirected_one.result _ c.redirected_one.ensures)

pub returns : goal.returns
returns c =
    done_all (redirected_one c.args.grant) c.loop-place.transfers c.loop-place.place c.args.transfers.now _ c.loop-place.auto.place-end c.loop-place-test.false c.loop-place.invariant (done-redirected c.args.grant 0 c.args.transfers.now)
