use Rattle.std.proofs.Common.{◌≡◌, ◌++◌, [], ◌∷◌, rules}
use Rattle.migrate_task.proofs.WorkLemmas.{move_below, from_more, from_all}
use Rattle.migrate_task.proofs.work.journeys_from.Goals as goal

pub journey_from-journey-requires : goal.journey_from-journey-requires
journey_from-journey-requires c = move_below c.requires.0 c.args.homes.now c.args.moves.now c.moves.item-index c.item-item.result c.requires.1 c.requires.2 c.moves-test.true c.item-item.is

pub moves-preserved : goal.moves-preserved
moves-preserved c =
    let added : c.push.new.self.items ≡ c.moves.journeys.items ++ c.journey_from-journey.result ∷ [] = search rules in
    from_more c.args.homes.now c.args.moves.now c.moves.item-index c.item-item.result c.moves.journeys.items c.push.new.self.items c.journey_from-journey.result c.moves-test.true c.item-item.is c.journey_from-journey.ensures c.moves.invariant added

pub returns : goal.returns
returns c = from_all c.args.homes.now c.args.moves.now c.moves.item-index c.moves.journeys.items c.moves-test.false c.moves.invariant
