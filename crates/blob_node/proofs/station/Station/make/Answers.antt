-- A station without units stands for nothing.
use Rattle.std.proofs.Common.{◌∙◌, false}
use Rattle.blob_node.proofs.Standing.{stands_empty}
use Rattle.blob_node.proofs.station.Station.make.Goals as goal

pub returns-clause-told : goal.returns-clause-told
returns-clause-told g c = λ told unused written units none.
    stands_empty g.H.Shelf.seen g.H.File.Extent.seen (record { shelf = c.args.shelf; vid = c.new.result.vid; disk = c.args.disk; is_broken = false; units = c.new.result.units }) c.new.ensures.units told
    (λ unit is own. unused unit is (own ∙ c.new.ensures.vid)) written units none
