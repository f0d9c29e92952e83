use Rattle.std.proofs.Common.{◌≡◌, ◌∙◌, ap, sym, List, [], ◌∷◌, ◌++◌, length, arith}
use Rattle.unit_id.specs.declared.homes.Home.{Home}
use Rattle.memory_volume.specs.Setting.{first_homes}
use Rattle.memory_volume.proofs.FirstUnits.{homes_length, homes_more}
use Rattle.memory_volume.proofs.first_homes.homes.Goals as goal

pub push-requires : goal.push-requires
push-requires c =
    let count : length c.indexes.homes ≡ c.indexes.index = ap length c.indexes.invariant ∙ homes_length c.args.first c.indexes.index in
    omega (arith, count)

pub indexes-preserved : goal.indexes-preserved
indexes-preserved c =
    c.push.ensures
    ∙ ap (λ (hs : List Home). hs ++ c.home.result ∷ []) c.indexes.invariant
    ∙ ap (λ (h : Home). first_homes c.args.first c.indexes.index ++ h ∷ []) c.home.ensures
    ∙ sym (homes_more c.args.first c.indexes.index)
