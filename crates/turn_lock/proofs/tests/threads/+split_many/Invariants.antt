use Rattle.turn_lock.proofs.tests.threads.+split_many.Given as goal

abbrev pub decreases-split_many : goal.decreases-split_many
decreases-split_many g l = l.many
