use Rattle.volume_turns.proofs.GotTurns.{put_objects_are_got}
use Rattle.volume_turns.proofs.laws.put_objects_are_got.Goals as goal

pub returns : goal.returns
returns c = put_objects_are_got c.pieces_are_the_object.ensures c.put_objects_are_begun.ensures c.objects_are_got.ensures c.objects_are_got_back.ensures
