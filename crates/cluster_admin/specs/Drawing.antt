-- The disks that a placer chooses.
use Rattle.std.specs.Prelude.{◌≡◌, ℕ, zero, suc, ◌+◌, ◌==◌, ◌++◌, not, if◌then◌else◌, Bool, false, List, [], ◌∷◌, length, slice_get, slice_set, Option, Some, None, Result, Ok, Err}
use Rattle.std.specs.List.{list_any}
use Rattle.code_mode.specs.declared.mode.Mode.{Mode}
use Rattle.code_mode.specs.Mode.{total_count}
use Rattle.unit_id.specs.declared.homes.Home.{Home}
use Rattle.unit_id.specs.declared.targets.Target.{Target}
use Rattle.unit_id.specs.declared.task.Task.{Task}
use Rattle.cluster_admin.specs.declared.placer.Place.{Place}
use Rattle.cluster_admin.specs.declared.disks.Disk.{Disk}
use Rattle.cluster_admin.specs.declared.volumes.Volume.{Volume}
use Rattle.cluster_admin.specs.declared.plans.Planned.{Planned}
use Rattle.cluster_admin.specs.declared.fault.AdminFault.{AdminFault}
use Rattle.cluster_admin.specs.declared.fault.AdminFault.TheVariants as faults
use Rattle.cluster_admin.specs.Disks.{disk_at, is_bad}
use Rattle.cluster_admin.specs.Volumes.{volume_at}
use Rattle.cluster_admin.specs.Plans.{with_mark, place_of}
use Rattle.cluster_admin.specs.Choosing.{options_of}
use Rattle.cluster_admin.specs.Placing.{Plan, IsAfter}
use Rattle.cluster_admin.specs.Cluster.{State}

-- the disk of an option
abbrev pub disk_of : Option Place → ℕ
disk_of (Some option) = option.disk
disk_of None = 0

-- the disk that a placer takes of options, after it was shown some lists; 0 where there is no option, and it isn't asked then
abbrev pub choice : Plan → List (List Place) → List Place → ℕ
choice plan shown [] = 0
choice plan shown (option ∷ options) = disk_of (slice_get (option ∷ options) (plan (shown ++ (option ∷ options) ∷ [])))

-- what it was shown then
abbrev pub shown_after : List (List Place) → List Place → List (List Place)
shown_after shown [] = shown
shown_after shown (option ∷ options) = shown ++ (option ∷ options) ∷ []

-- the disks chosen for a new volume so far, and the options that were shown for them
pub record Drawn : Type 0 where
  pub homes : List ℕ
  pub shown : List (List Place)

-- one disk more, among those that are free and not yet chosen
abbrev pub draw_next : Plan → List Disk → List (Option Volume) → Drawn → Drawn
draw_next plan disks volumes drawn =
    let options = options_of disks volumes drawn.homes [] 0 in
    record { homes = drawn.homes ++ choice plan drawn.shown options ∷ []; shown = shown_after drawn.shown options }

-- the disks chosen for the first units
abbrev pub drawn : Plan → List Disk → List (Option Volume) → ℕ → Drawn
drawn plan disks volumes zero = record { homes = []; shown = [] }
drawn plan disks volumes (suc count) = draw_next plan disks volumes (drawn plan disks volumes count)

-- the disks chosen for a new volume of a mode
abbrev pub drawn_for : Plan → State → Mode → Drawn
drawn_for plan state mode = drawn plan state.disks state.volumes (total_count mode)

-- the units of a new volume from this index on, by their disks
abbrev pub new_homes : ℕ → ℕ → List ℕ → List Home
new_homes vid index [] = []
new_homes vid index (disk ∷ disks) =
    record { unit = record { vid = vid; index = index; epoch = 1 }; disk = disk; broken = false } ∷ new_homes vid (index + 1) disks

-- a volume more, on these disks
abbrev pub with_volume : State → Mode → List ℕ → State
with_volume state mode disks = record state { volumes = state.volumes ++ Some (record { mode = mode; last = 0; homes = disks }) ∷ [] }

-- a destination on the disk of this number is kept
abbrev pub is_good : Option Disk → Bool
is_good (Some disk) = not (is_bad disk)
is_good None = false

abbrev pub stays : List Disk → ℕ → Bool
stays disks number = is_good (disk_at disks number)

-- the disks of the units of a volume
abbrev pub disks_in : Option Volume → List ℕ
disks_in (Some volume) = volume.homes
disks_in None = []

abbrev pub homes_of : List (Option Volume) → ℕ → List ℕ
homes_of volumes vid = disks_in (volume_at volumes vid)

-- the tasks while one is given its disks, and the options that were shown for them
pub record Aimed : Type 0 where
  pub tasks : List Planned
  pub shown : List (List Place)

-- a target that has to be given a disk, with the volume
abbrev pub needy_target : List Disk → ℕ → Option Target → Option (Target × ℕ)
needy_target disks vid None = None
needy_target disks vid (Some target) = if stays disks target.disk then None else Some (target, vid)

-- the target of this number of a task, where it has to be given a disk, with the task's volume
abbrev pub needy : List Disk → ℕ → Option Planned → Option (Target × ℕ)
needy disks number None = None
needy disks number (Some task) = needy_target disks task.vid (slice_get task.targets number)

-- a task with a target in the place of another
abbrev pub with_target : Planned → ℕ → Target → Planned
with_target task number target = record task { targets = slice_set task.targets number target; given = with_mark task.given target.disk }

-- the same among tasks
abbrev pub set_target : List Planned → ℕ → ℕ → Target → Option Planned → List Planned
set_target tasks place number target None = tasks
set_target tasks place number target (Some task) = slice_set tasks place (with_target task number target)

module _ (plan : Plan) (disks : List Disk) (volumes : List (Option Volume)) (place : ℕ) (aimed : Aimed) (number : ℕ) where
  -- the target of the task gets a disk, if there is an option
  abbrev pub aim_among : Planned → Target → List Place → Aimed
  aim_among task target options = record {
    tasks = slice_set aimed.tasks place (with_target task number (record { index = target.index; disk = choice plan aimed.shown options }));
    shown = shown_after aimed.shown options;
  }

  -- a good destination stays
  abbrev pub aim_target : Planned → Option Target → Aimed
  aim_target task None = aimed
  aim_target task (Some target) =
      if stays disks target.disk then aimed
      else aim_among task target (options_of disks volumes (homes_of volumes task.vid) aimed.tasks task.vid)

  abbrev pub aim_task : Option Planned → Aimed
  aim_task None = aimed
  aim_task (Some task) = aim_target task (slice_get task.targets number)

  -- the target of this number of the task at this place has a destination that stays, or else is given one among the free
  -- disks that hold no unit of the volume and to which no unit of it is to go
  abbrev pub aimed_at : Aimed
  aimed_at = aim_task (slice_get aimed.tasks place)

-- the first targets of the task at a place are given their disks
abbrev pub aimed_first : Plan → List Disk → List (Option Volume) → List Planned → ℕ → ℕ → Aimed
aimed_first plan disks volumes tasks place zero = record { tasks = tasks; shown = [] }
aimed_first plan disks volumes tasks place (suc number) =
    aimed_at plan disks volumes place (aimed_first plan disks volumes tasks place number) number

-- how many targets the task of this place has
abbrev pub target_count : Option Planned → ℕ
target_count (Some task) = length task.targets
target_count None = 0

-- all targets of a task are given their disks, in order
abbrev pub assigned : Plan → State → ℕ → Aimed
assigned plan state id =
    let place = place_of state.tasks id in
    aimed_first plan state.disks state.volumes state.tasks place (target_count (slice_get state.tasks place))

-- how a task is shown
abbrev pub task_of : Planned → Task
task_of task = record { id = task.id; kind = task.kind; vid = task.vid; targets = task.targets }

-- no target is without a disk
abbrev pub has_all_disks : Planned → Bool
has_all_disks task = not (list_any (λ target. target.disk == 0) task.targets)

-- the answer to a task's assignment, by the task as it then stands
abbrev pub answer_of : Option Planned → Result Task AdminFault
answer_of None = Err faults.NoDisk
answer_of (Some task) = if has_all_disks task then Ok (task_of task) else Err faults.NoDisk

-- the tables and the placer after an assignment
pub record IsAssigned (plan : Plan) (state : State) (id : ℕ) (after : State) (new : Plan) : Type 0 where
  pub tasks : after ≡ record state { tasks = (assigned plan state id).tasks }
  pub placer : IsAfter plan (assigned plan state id).shown new

-- Want of memory changes nothing. Otherwise all targets were given their disks, and the task is shown, or one of them has none.
abbrev pub AssignAnswers : Plan → State → ℕ → Result Task AdminFault → State → Plan → Type 0
AssignAnswers plan state id (Err faults.Memory) after new = (after ≡ state) × IsAfter plan [] new
AssignAnswers plan state id result after new =
    (result ≡ answer_of (slice_get (assigned plan state id).tasks (place_of state.tasks id))) × IsAssigned plan state id after new
