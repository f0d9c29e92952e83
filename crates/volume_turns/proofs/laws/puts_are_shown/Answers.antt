use Rattle.volume_turns.proofs.GotTurns.{puts_are_shown}
use Rattle.volume_turns.proofs.laws.puts_are_shown.Goals as goal

pub returns : goal.returns
returns c = puts_are_shown c.put_objects_are_begun.ensures c.objects_are_got_back.ensures
