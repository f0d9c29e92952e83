-- What is known of a store: its disks, volumes, unfinished tasks and names.
use Rattle.std.specs.Prelude.{ℕ, ◌-◌, Bool, true, false, List, [], ◌∷◌, replicate, Option}
use Rattle.cluster_admin.specs.declared.disks.Disk.{Disk}
use Rattle.cluster_admin.specs.declared.volumes.Volume.{Volume}
use Rattle.cluster_admin.specs.declared.plans.Planned.{Planned}
use Rattle.cluster_admin.specs.declared.names.Object.{Object}

-- Disks and volumes are counted from 1 by their places, a lost volume leaves its place empty, and names are in order of put.
pub record State : Type 0 where
  -- which placers were never in use, the first of the list being the first
  pub waiting : List Bool
  pub disks : List Disk
  pub volumes : List (Option Volume)
  -- how many tasks were ever planned, which is the number of the last
  pub planned : ℕ
  -- those that aren't finished, by ascending number
  pub tasks : List Planned
  pub names : List (List ℕ × Object)

-- before the first call: so many placers, of which the first is in use
abbrev pub fresh : ℕ → State
fresh placers = record { waiting = false ∷ replicate (placers - 1) true; disks = []; volumes = []; planned = 0; tasks = []; names = [] }
