use Rattle.std.proofs.Common.{◌≡◌, ◌∙◌, length}
use Rattle.volume_entry.specs.Manager.{AreFirstHomes}
use Rattle.volume_entry.specs.FirstHomes.{AreFresh}
use Rattle.volume_entry.specs.TableParts.{shape_of}
use Rattle.volume_entry.proofs.Walks.{tells_map}
use Rattle.volume_entry.proofs.FirstHomes.{first_homes, are_fresh}
use Rattle.volume_entry.proofs.first_homes.are_first_homes.Goals as goal

pub returns-then-homes-total : goal.returns-then-homes-total
returns-then-homes-total c =
    let shape = shape_of c.args.shape in
    let count : length c.args.homes.now ≡ shape.total = c.if-homes-total.true ∙ c.total.ensures.value in
    tells_map (AreFresh shape c.args.homes.now) (AreFirstHomes shape c.args.homes.now) c.are_fresh.result
    (first_homes shape c.args.homes.now count) (are_fresh shape c.args.homes.now) c.are_fresh.ensures
