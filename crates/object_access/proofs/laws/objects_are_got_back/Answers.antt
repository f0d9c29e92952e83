use Rattle.object_access.proofs.BegunProofs.{objects_are_got_back}
use Rattle.object_access.proofs.laws.objects_are_got_back.Goals as goal

pub returns : goal.returns
returns c = objects_are_got_back
