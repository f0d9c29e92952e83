use Rattle.std.proofs.Common.{◌≡◌, ◌∙◌, sym, ap, List}
use Rattle.std.proofs.lemmas.List.{at_drop_all}
use Rattle.unit_id.specs.Place.{Location}
use Rattle.volume_entry.specs.ManagerStep.{holder}
use Rattle.volume_entry.proofs.Walks.{holder-hit, holder-skip}
use Rattle.volume_entry.proofs.legal.holder.Goals as goal

pub returns-then-home-disk : goal.returns-then-home-disk
returns-then-home-disk c =
    let there : c.index-homes-index.result.disk ≡ c.args.disk = ap (λ (h : Location). h.disk) (sym c.home.view_is) ∙ c.if-home-disk.true in
    sym (c.loop-index.invariant ∙ holder-hit c.args.homes.now c.loop-index.index c.index-homes-index.result c.args.disk c.loop-index-test.true c.index-homes-index.is there)

pub loop-index-preserved : goal.loop-index-preserved
loop-index-preserved c =
    let elsewhere : c.index-homes-index.result.disk ≡ c.args.disk → ⊥ = λ e. c.if-home-disk.false (ap (λ (h : Location). h.disk) c.home.view_is ∙ e) in
    c.loop-index.invariant ∙ holder-skip c.args.homes.now c.loop-index.index c.index-homes-index.result c.args.disk c.loop-index-test.true c.index-homes-index.is elsewhere

pub returns : goal.returns
returns c =
    sym (c.loop-index.invariant ∙ at_drop_all (λ (hs : List Location). holder c.loop-index.index hs c.args.disk) c.args.homes.now c.loop-index.index c.loop-index-test.false)
