use Rattle.volume_world.proofs.StoryProofs.{put_is_acked, life_is_legal}
use Rattle.volume_world.proofs.DeleteStory.{late_put_is_deleted}
use Rattle.volume_world.proofs.RestartStory.{restart_forgets}
use Rattle.volume_world.proofs.examples.stories_hold.Goals as goal

pub returns-clause-put : goal.returns-clause-put
returns-clause-put c = put_is_acked

pub returns-clause-life : goal.returns-clause-life
returns-clause-life c = life_is_legal

pub returns-clause-delete : goal.returns-clause-delete
returns-clause-delete c = late_put_is_deleted

pub returns-clause-restart : goal.returns-clause-restart
returns-clause-restart c = restart_forgets
