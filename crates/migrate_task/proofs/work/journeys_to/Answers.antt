use Rattle.std.proofs.Common.{◌≡◌, ◌++◌, [], ◌∷◌, rules}
use Rattle.migrate_task.proofs.WorkLemmas.{move_below, to_more, to_all}
use Rattle.migrate_task.proofs.work.journeys_to.Goals as goal

pub journey_to-journey-requires : goal.journey_to-journey-requires
journey_to-journey-requires c = move_below c.requires.0 c.args.homes.now c.args.moves.now c.moves.item-index c.item-item.result c.requires.1 c.requires.2 c.moves-test.true c.item-item.is

pub moves-preserved : goal.moves-preserved
moves-preserved c =
    let added : c.push.new.self.items ≡ c.moves.journeys.items ++ c.journey_to-journey.result ∷ [] = search rules in
    to_more c.args.homes.now c.args.moves.now c.moves.item-index c.item-item.result c.moves.journeys.items c.push.new.self.items c.journey_to-journey.result c.moves-test.true c.item-item.is c.journey_to-journey.ensures c.moves.invariant added

pub returns : goal.returns
returns c = to_all c.args.homes.now c.args.moves.now c.moves.item-index c.moves.journeys.items c.moves-test.false c.moves.invariant
