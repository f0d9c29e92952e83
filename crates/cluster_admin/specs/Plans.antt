-- The tasks that aren't finished, in order of number.
use Rattle.std.specs.Prelude.{ℕ, ◌+◌, ◌-◌, ◌==◌, ◌&&◌, if◌then◌else◌, Bool, true, false, List, [], ◌∷◌, slice_index_or, slice_set, Option, Some, None}
use Rattle.std.specs.List.{list_any}
use Rattle.unit_id.specs.declared.targets.Target.{Target}
use Rattle.cluster_admin.specs.declared.plans.Planned.{Planned}

-- a disk is in a set that has a mark for each disk
abbrev pub has_disk : List Bool → ℕ → Bool
has_disk marks disk = if disk == 0 then false else slice_index_or marks (disk - 1) false

-- the set with one disk more
abbrev pub with_mark : List Bool → ℕ → List Bool
with_mark marks disk = if disk == 0 then marks else slice_set marks (disk - 1) true

-- a target is the unit of this index
abbrev pub has_target : List Target → ℕ → Bool
has_target targets index = list_any (λ target. target.index == index) targets

-- a target is to go to this disk
abbrev pub goes_to : List Target → ℕ → Bool
goes_to targets disk = list_any (λ target. target.disk == disk) targets

-- the number of the first task that has this unit
abbrev pub task_with : List Planned → ℕ → ℕ → Option ℕ
task_with [] vid index = None
task_with (task ∷ tasks) vid index = if task.vid == vid && has_target task.targets index then Some task.id else task_with tasks vid index

-- a task of the volume is to move a unit to the disk
abbrev pub is_aimed : List Planned → ℕ → ℕ → Bool
is_aimed [] vid disk = false
is_aimed (task ∷ tasks) vid disk = if task.vid == vid && goes_to task.targets disk then true else is_aimed tasks vid disk

-- there is a task of this number
abbrev pub is_unfinished : List Planned → ℕ → Bool
is_unfinished [] id = false
is_unfinished (task ∷ tasks) id = if task.id == id then true else is_unfinished tasks id

-- where it stands, or behind all where there is none
abbrev pub place_of : List Planned → ℕ → ℕ
place_of [] id = 0
place_of (task ∷ tasks) id = if task.id == id then 0 else place_of tasks id + 1
