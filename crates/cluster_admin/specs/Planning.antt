-- Tasks that move units off disks.
use Rattle.std.specs.Prelude.{◌≡◌, ℕ, zero, suc, ◌+◌, ◌-◌, ◌*◌, ◌&&◌, ◌++◌, not, nat_eq, nat_lt, if◌then◌else◌, Bool, true, false, List, [], ◌∷◌, length, map, take, drop, replicate, slice_set, is_none, is_some, unwrap_or, Option, Some, None, Result, Ok, Err}
use Rattle.std.specs.Int.{div_ceil}
use Rattle.std.specs.List.{list_any}
use Rattle.code_mode.specs.declared.mode.Mode.{Mode}
use Rattle.code_mode.specs.Mode.{data_count, put_quorum, total_count}
use Rattle.unit_id.specs.declared.task.Kind.{Kind}
use Rattle.unit_id.specs.declared.task.Kind.TheVariants as kinds
use Rattle.cluster_admin.specs.declared.disks.Disk.{Disk}
use Rattle.cluster_admin.specs.declared.disks.DiskState.TheVariants as states
use Rattle.cluster_admin.specs.declared.volumes.Volume.{Volume}
use Rattle.cluster_admin.specs.declared.plans.Planned.{Planned}
use Rattle.cluster_admin.specs.declared.planning.Reach.{Reach}
use Rattle.cluster_admin.specs.declared.planning.Reach.TheVariants as reaching
use Rattle.cluster_admin.specs.declared.fault.AdminFault.{AdminFault}
use Rattle.cluster_admin.specs.declared.fault.AdminFault.TheVariants as faults
use Rattle.cluster_admin.specs.Disks.{disk_at, is_normal, is_broken}
use Rattle.cluster_admin.specs.Volumes.{volume_at}
use Rattle.cluster_admin.specs.Plans.{task_with}
use Rattle.cluster_admin.specs.Refusals.{first_fault, state_fault}
use Rattle.cluster_admin.specs.Cluster.{State}

-- the most tasks that are ever planned
abbrev pub most_tasks : ℕ
most_tasks = 1000000

-- a disk is there, and broken or repairing
abbrev pub is_broken_at : Option Disk → Bool
is_broken_at (Some disk) = is_broken disk.state
is_broken_at None = false

-- units on the disk are to be moved
abbrev pub reaches : List Disk → Reach → ℕ → Bool
reaches disks (reaching.OnDisk number) disk = nat_eq number disk
reaches disks reaching.OnBroken disk = is_broken_at (disk_at disks disk)

-- of a volume's units from this index on, the indexes of those that are to be moved and have no task
abbrev pub movable_from : List Disk → List Planned → Reach → ℕ → ℕ → List ℕ → List ℕ
movable_from disks tasks reach vid index [] = []
movable_from disks tasks reach vid index (home ∷ homes) =
    if reaches disks reach home && is_none (task_with tasks vid index) then index ∷ movable_from disks tasks reach vid (index + 1) homes
    else movable_from disks tasks reach vid (index + 1) homes

-- how many units of a volume a task may move at once: as many as the volume may lack
abbrev pub most_moved : Mode → ℕ
most_moved mode = put_quorum mode - data_count mode

-- how many units a task of this reach moves at most
abbrev pub group_size : Reach → Mode → ℕ
group_size (reaching.OnDisk number) mode = 1
group_size reaching.OnBroken mode = most_moved mode

-- a new task for these units, none of which has a disk yet
abbrev pub new_task : ℕ → Kind → ℕ → List ℕ → Planned
new_task id kind vid indexes =
    record { id = id; kind = kind; vid = vid; targets = map (λ index. record { index = index; disk = 0 }) indexes; given = replicate 64 false }

-- a group of so many, counted from 0
abbrev pub group_at : ℕ → List ℕ → ℕ → List ℕ
group_at size indexes number = take size (drop (number * size) indexes)

-- a task for each of the first groups of so many units, numbered from `next` on
abbrev pub tasks_of : Kind → ℕ → ℕ → ℕ → List ℕ → ℕ → List Planned
tasks_of kind vid next size indexes zero = []
tasks_of kind vid next size indexes (suc groups) =
    tasks_of kind vid next size indexes groups ++ new_task (next + groups) kind vid (group_at size indexes groups) ∷ []

module _ (disks : List Disk) (tasks : List Planned) (kind : Kind) (reach : Reach) where
  -- the tasks for a volume's units that are to be moved
  abbrev pub tasks_in : ℕ → ℕ → Option Volume → List Planned
  tasks_in vid next None = []
  tasks_in vid next (Some volume) =
      let indexes = movable_from disks tasks reach vid 0 volume.homes in
      let size = group_size reach volume.mode in
      tasks_of kind vid next size indexes (div_ceil (length indexes) size)

  -- those for the volumes from this number on, in order
  abbrev pub tasks_from : ℕ → ℕ → List (Option Volume) → List Planned
  tasks_from vid next [] = []
  tasks_from vid next (slot ∷ slots) =
      let these = tasks_in vid next slot in
      these ++ tasks_from (vid + 1) (next + length these) slots

-- the tasks for all units that are to be moved, numbered behind those that were planned
abbrev pub new_tasks : State → Kind → Reach → List Planned
new_tasks state kind reach = tasks_from state.disks state.tasks kind reach 1 (state.planned + 1) state.volumes

-- one for each unit on a disk that drains
abbrev pub drop_tasks : State → ℕ → List Planned
drop_tasks state disk = new_tasks state kinds.Drop (reaching.OnDisk disk)

-- one for each unit on a disk that is repaired
abbrev pub repair_tasks : State → ℕ → List Planned
repair_tasks state disk = new_tasks state kinds.Repair (reaching.OnDisk disk)

-- those for the units on all broken disks, as many units at once as their volume may lack
abbrev pub repair_all_tasks : State → List Planned
repair_all_tasks state = new_tasks state kinds.Repair reaching.OnBroken

-- more tasks than there are numbers
abbrev pub limit_fault : State → List Planned → Option AdminFault
limit_fault state new = if nat_lt most_tasks (state.planned + length new) then Some faults.LimitTasks else None

-- the first fault
abbrev pub or_else : Option AdminFault → Option AdminFault → Option AdminFault
or_else (Some fault) other = Some fault
or_else None other = other

-- Want of memory may come at any time. Any other answer is that of the first test that holds.
abbrev pub IsRefusedOrMemory : {T : Type 0} → Option AdminFault → Result T AdminFault → Type 0
IsRefusedOrMemory fault (Ok value) = fault ≡ None
IsRefusedOrMemory fault (Err faults.Memory) = Unit {0}
IsRefusedOrMemory fault (Err error) = fault ≡ Some error

-- these tasks are planned
abbrev pub with_tasks : State → List Planned → State
with_tasks state new = record state { planned = state.planned + length new; tasks = state.tasks ++ new }

abbrev pub drop_fault : State → ℕ → Option AdminFault
drop_fault state disk =
    or_else (state_fault is_normal (disk_at state.disks disk)) (limit_fault state (drop_tasks state disk))

-- a disk drains, and its units have tasks
abbrev pub with_drop : State → ℕ → State
with_drop state disk =
    record (with_tasks state (drop_tasks state disk)) { disks = slice_set state.disks (disk - 1) (record { state = states.Normal; drains = true }) }

abbrev pub repair_fault : State → ℕ → Option AdminFault
repair_fault state disk =
    or_else (state_fault is_broken (disk_at state.disks disk)) (limit_fault state (repair_tasks state disk))

-- a disk is repairing, and its units have tasks
abbrev pub with_repair : State → ℕ → State
with_repair state disk =
    record (with_tasks state (repair_tasks state disk)) { disks = slice_set state.disks (disk - 1) (record { state = states.Repairing; drains = false }) }

-- a disk that is broken is repairing
abbrev pub repaired_disk : Disk → Disk
repaired_disk disk = if is_broken disk.state then record { state = states.Repairing; drains = false } else disk

abbrev pub repair_all_fault : State → Option AdminFault
repair_all_fault state =
    or_else (if list_any (λ disk. is_broken disk.state) state.disks then None else Some faults.NoTarget)
    (limit_fault state (repair_all_tasks state))

-- all broken disks are repairing, and their units have tasks of as many units as a volume may lack
abbrev pub with_repair_all : State → State
with_repair_all state =
    record (with_tasks state (repair_all_tasks state)) { disks = map repaired_disk state.disks }

-- a task, or else another
abbrev pub or_task : Option ℕ → Option ℕ → Option ℕ
or_task (Some task) rest = Some task
or_task None rest = rest

-- the task of the first of these units that has one
abbrev pub first_busy : List Planned → ℕ → List ℕ → Option ℕ
first_busy tasks vid [] = None
first_busy tasks vid (index ∷ indexes) = or_task (task_with tasks vid index) (first_busy tasks vid indexes)

abbrev pub balance_fault_in : State → ℕ → List ℕ → Option Volume → Option AdminFault
balance_fault_in state vid indexes None = Some faults.NoVolume
balance_fault_in state vid indexes (Some volume) =
    let busy = first_busy state.tasks vid indexes in
    let most = most_moved volume.mode in
    first_fault ((list_any (λ index. not (nat_lt index (total_count volume.mode))) indexes, faults.NoIndex)
    ∷ (nat_lt most (length indexes), faults.TooMany most)
    ∷ (is_some busy, faults.Busy (unwrap_or busy 0))
    ∷ (nat_lt most_tasks (state.planned + 1), faults.LimitTasks) ∷ [])

abbrev pub balance_fault : State → ℕ → List ℕ → Option AdminFault
balance_fault state vid indexes = balance_fault_in state vid indexes (volume_at state.volumes vid)

-- a task moves these units
abbrev pub with_balance : State → ℕ → List ℕ → State
with_balance state vid indexes = with_tasks state (new_task (state.planned + 1) kinds.Balance vid indexes ∷ [])
