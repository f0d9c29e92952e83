-- Worked examples of tasks that one call takes to their end.
use Rattle.std.specs.Prelude.{ℕ, ◌+◌, ◌&&◌, ◌||◌, ◌==◌, false, nat_lt, [], ◌∷◌}
use Rattle.unit_id.specs.declared.task.Kind.TheVariants as kinds
use Rattle.unit_id.specs.declared.task.Task.{Task}
use Rattle.volume_entry.specs.Manager.{written}
use Rattle.volume_entry.specs.ManagerStep.{lock_record}
use Rattle.volume_world.specs.State.{State, fresh}
use Rattle.volume_world.specs.Run.{World}
use Rattle.volume_world.specs.Way.{Origin, shape_of}
use Rattle.volume_world.specs.Possible.{IsPossible}
use Rattle.migrate_task.specs.StandIn.{stand_homes, stand_origin}
use Rattle.migrate_task.specs.Completion.{IsSound, CanGoOn}

-- six units on disks 1 to 6, each of them made
abbrev pub six_made : State
six_made = fresh stand_homes (λ p. nat_lt p.index 6 && ((p.epoch == 1) && (p.disk == p.index + 1)))

abbrev pub six_origin : Origin
six_origin = record stand_origin { start = record { state = six_made; planned = []; late = [] } }

-- .. where the disks below this one are broken
abbrev pub six_broken : ℕ → World
six_broken disk = record (six_origin.start) { state = record six_made { broken = λ other. nat_lt other disk } }

-- the first unit is to move to disk 7
abbrev pub first_moves : Task
first_moves = record { id = 9; kind = kinds.Repair; vid = 1; targets = record { index = 0; disk = 7 } ∷ [] }

-- .. under the lock of this task, the destination of which is on a broken disk
abbrev pub six_locked : World
six_locked = record (six_origin.start) {
  state = record six_made {
    manager = written (lock_record 9 first_moves.targets six_made.manager) six_made.manager;
    broken = λ other. (other == 7) || false;
  };
}

-- the first unit is to move to disk 8 in place of it
abbrev pub moves_again : Task
moves_again = record first_moves { targets = record { index = 0; disk = 8 } ∷ [] }

-- In a volume as made the task can go on, also where two of the six units are on broken disks; three are too many. Under its lock it can go on where its
-- target has another disk.
pub record MadeVolumesCanGoOn : Type 0 where
  pub possible : IsPossible six_origin six_origin.start
  pub none : CanGoOn (shape_of six_origin) first_moves six_origin.start
  pub two : CanGoOn (shape_of six_origin) first_moves (six_broken 3)
  pub three : IsSound (shape_of six_origin) (six_broken 4) → ⊥
  pub locked : IsPossible six_origin six_locked
  pub again : CanGoOn (shape_of six_origin) moves_again six_locked
