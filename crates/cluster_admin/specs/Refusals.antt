-- Why calls are refused: of each call's tests, in order, the first that holds.
use Rattle.std.specs.Prelude.{◌≡◌, ℕ, ◌-◌, ◌==◌, ◌||◌, not, nat_lt, if◌then◌else◌, Bool, false, List, [], ◌∷◌, length, slice_index_or, is_some, Option, Some, None, unwrap_or, Result, Ok, Err}
use Rattle.std.specs.Map.{lookup}
use Rattle.std.specs.Str.{bytes_eq}
use Rattle.code_mode.specs.declared.mode.Mode.{Mode}
use Rattle.code_mode.specs.Mode.{total_count}
use Rattle.cluster_admin.specs.declared.fault.AdminFault.{AdminFault}
use Rattle.cluster_admin.specs.declared.fault.AdminFault.TheVariants as faults
use Rattle.cluster_admin.specs.declared.disks.Disk.{Disk}
use Rattle.cluster_admin.specs.declared.disks.DiskState.{DiskState}
use Rattle.cluster_admin.specs.Disks.{disk_at, free_count, is_normal}
use Rattle.cluster_admin.specs.Cluster.{State}

-- the fault of the first test that holds
abbrev pub first_fault : List (Bool × AdminFault) → Option AdminFault
first_fault [] = None
first_fault (test ∷ tests) = if test.0 then Some test.1 else first_fault tests

-- A call that may take memory answers Ok only where no test holds. An error is the fault of the first test that holds, or want of memory where none does.
abbrev pub IsRefused : {T : Type 0} → Option AdminFault → Result T AdminFault → Type 0
IsRefused fault (Ok value) = fault ≡ None
IsRefused fault (Err error) = error ≡ unwrap_or fault faults.Memory

-- A call that takes no memory is refused exactly where a test holds, with the fault of the first.
abbrev pub IsRefusedExactly : {T : Type 0} → Option AdminFault → Result T AdminFault → Type 0
IsRefusedExactly fault (Ok value) = fault ≡ None
IsRefusedExactly fault (Err error) = fault ≡ Some error

abbrev pub set_disks_fault : State → ℕ → Option AdminFault
set_disks_fault state count =
    first_fault ((not (length state.disks == 0), faults.DisksGiven (length state.disks)) ∷ ((count == 0) || nat_lt 64 count, faults.LimitDisks) ∷ [])

abbrev pub use_placer_fault : State → ℕ → Option AdminFault
use_placer_fault state number =
    first_fault (((number == 0) || nat_lt (length state.waiting) number, faults.NoPlacer) ∷ (not (slice_index_or state.waiting (number - 1) false), faults.PlacerUsed) ∷ [])

abbrev pub new_volume_fault : State → Mode → Option AdminFault
new_volume_fault state mode =
    let have = free_count state.disks in
    first_fault ((nat_lt 63 (length state.volumes), faults.LimitVolumes) ∷ (nat_lt have (total_count mode), faults.FewDisks have (total_count mode)) ∷ [])

-- a disk isn't there, or not in a state that passes the test
abbrev pub state_fault : (DiskState → Bool) → Option Disk → Option AdminFault
state_fault test None = Some faults.NoTarget
state_fault test (Some disk) = if test disk.state then None else Some (faults.BadState disk.state)

abbrev pub break_fault : State → ℕ → Option AdminFault
break_fault state disk = state_fault is_normal (disk_at state.disks disk)

-- the name is held
abbrev pub is_held : State → List ℕ → Bool
is_held state name = is_some (lookup (bytes_eq name) state.names)

abbrev pub add_name_fault : State → List ℕ → Option AdminFault
add_name_fault state name = first_fault ((is_held state name, faults.NameTaken) ∷ (nat_lt 99999 (length state.names), faults.LimitNames) ∷ [])
