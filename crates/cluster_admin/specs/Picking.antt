-- Volumes that take puts, and volumes whose units move.
use Rattle.std.specs.Prelude.{ℕ, ◌+◌, ◌-◌, ◌^◌, ◌==◌, ◌&&◌, not, nat_lt, if◌then◌else◌, Bool, List, [], ◌∷◌, filter, remove, slice_set, Option, Some, None}
use Rattle.std.specs.List.{count_by}
use Rattle.unit_id.specs.declared.homes.Home.{Home}
use Rattle.code_mode.specs.declared.mode.Mode.{Mode}
use Rattle.code_mode.specs.Mode.{put_quorum}
use Rattle.cluster_admin.specs.declared.volumes.Volume.{Volume}
use Rattle.cluster_admin.specs.declared.plans.Planned.{Planned}
use Rattle.cluster_admin.specs.declared.picking.Seen.{Seen}
use Rattle.cluster_admin.specs.declared.picking.Candidate.{Candidate}
use Rattle.cluster_admin.specs.declared.fault.AdminFault.{AdminFault}
use Rattle.cluster_admin.specs.declared.fault.AdminFault.TheVariants as faults
use Rattle.cluster_admin.specs.Volumes.{volume_at}
use Rattle.cluster_admin.specs.Cluster.{State}

-- a volume takes puts: it isn't locked, and enough of its units for a put are on unbroken disks
abbrev pub can_take : Mode → Seen → Bool
can_take mode view = not view.locked && not (nat_lt (count_by (λ home. not home.broken) view.units) (put_quorum mode))

-- the volumes that take puts, from this number on, by a view of each volume that there is
abbrev pub candidates : ℕ → List (Option Volume) → List Seen → List Candidate
candidates vid [] views = []
candidates vid (None ∷ slots) views = candidates (vid + 1) slots views
candidates vid (Some volume ∷ slots) [] = candidates (vid + 1) slots []
candidates vid (Some volume ∷ slots) (view ∷ views) =
    if can_take volume.mode view then record { vid = vid; last = volume.last } ∷ candidates (vid + 1) slots views
    else candidates (vid + 1) slots views

-- the one with fewer bids given, the first where both have as many
abbrev pub fewer : Option Candidate → Candidate → Candidate
fewer None next = next
fewer (Some best) next = if nat_lt next.last best.last then next else best

-- of a candidate and those behind it, the first with the fewest bids given
abbrev pub fewest_from : Option Candidate → List Candidate → Option Candidate
fewest_from best [] = best
fewest_from best (next ∷ candidates) = fewest_from (Some (fewer best next)) candidates

-- the volume that takes the next put: of those that take puts the one with the fewest bids given, then the lowest number
abbrev pub picked : List (Option Volume) → List Seen → Option Candidate
picked volumes views = fewest_from None (candidates 1 volumes views)

-- the greatest bid
abbrev pub last_bid : ℕ
last_bid = 2 ^ 62

-- why no volume is picked for so many blobs
abbrev pub pick_fault : Option Candidate → ℕ → Option AdminFault
pick_fault None blobs = Some faults.NoVolume
pick_fault (Some best) blobs = if nat_lt last_bid (best.last + blobs) then Some faults.LimitBids else None

abbrev pub last_in : List (Option Volume) → ℕ → ℕ → Option Volume → List (Option Volume)
last_in volumes vid last None = volumes
last_in volumes vid last (Some volume) = slice_set volumes (vid - 1) (Some (record volume { last = last }))

-- the greatest bid given in a volume is now this
abbrev pub with_last : List (Option Volume) → ℕ → ℕ → List (Option Volume)
with_last volumes vid last = last_in volumes vid last (volume_at volumes vid)

abbrev pub without_slot : List (Option Volume) → ℕ → List (Option Volume)
without_slot volumes vid = if vid == 0 then volumes else slice_set volumes (vid - 1) None

-- a volume is no more there, and no task is its
abbrev pub without_volume : State → ℕ → State
without_volume state vid = record state {
  volumes = without_slot state.volumes vid;
  tasks = filter (λ task. not (task.vid == vid)) state.tasks;
}

-- the disks of a volume's units after some of them moved
abbrev pub homes_after : List ℕ → List Home → List ℕ
homes_after homes [] = homes
homes_after homes (home ∷ moved) = homes_after (slice_set homes home.unit.index home.disk) moved

abbrev pub moved_in : List (Option Volume) → ℕ → List Home → Option Volume → List (Option Volume)
moved_in volumes vid moved None = volumes
moved_in volumes vid moved (Some volume) = slice_set volumes (vid - 1) (Some (record volume { homes = homes_after volume.homes moved }))

-- units of a volume are on other disks
abbrev pub with_moved : List (Option Volume) → ℕ → List Home → List (Option Volume)
with_moved volumes vid moved = moved_in volumes vid moved (volume_at volumes vid)

-- the task at a place is finished, and its units are on other disks
abbrev pub finish_at : State → ℕ → List Home → Option Planned → State
finish_at state place moved None = state
finish_at state place moved (Some task) =
    record state { volumes = with_moved state.volumes task.vid moved; tasks = remove state.tasks place }
