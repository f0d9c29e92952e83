use Rattle.object_access.proofs.AvailabilityProofs.{objects_are_got}
use Rattle.object_access.proofs.laws.objects_are_got.Goals as goal

pub returns : goal.returns
returns c = objects_are_got c.gets_give_the_blob.ensures
