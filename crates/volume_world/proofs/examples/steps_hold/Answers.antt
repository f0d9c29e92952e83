use Rattle.volume_world.proofs.ExampleProofs.{managers_tour, first_steps, each_answer, two_are_moved, each_doubt}
use Rattle.volume_world.proofs.examples.steps_hold.Goals as goal

pub returns-clause-manager : goal.returns-clause-manager
returns-clause-manager c = managers_tour

pub returns-clause-first : goal.returns-clause-first
returns-clause-first c = first_steps

pub returns-clause-answers : goal.returns-clause-answers
returns-clause-answers c = each_answer

pub returns-clause-two : goal.returns-clause-two
returns-clause-two c = two_are_moved

pub returns-clause-doubts : goal.returns-clause-doubts
returns-clause-doubts c = each_doubt
