use Rattle.volume_world.proofs.ContentsLaws.{bytes_stay_as_begun}
use Rattle.volume_world.proofs.laws.bytes_stay_as_begun.Goals as goal

pub returns : goal.returns
returns c = bytes_stay_as_begun
