use Rattle.object_access.proofs.BegunProofs.{put_objects_are_begun}
use Rattle.object_access.proofs.laws.put_objects_are_begun.Goals as goal

pub returns : goal.returns
returns c = put_objects_are_begun
