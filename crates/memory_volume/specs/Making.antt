-- How a volume in memory is made.
use Rattle.std.specs.Prelude.{ℕ, ◌≡◌, ◌≤◌, Bool, [], Result, Ok, Err}
use Rattle.code_mode.specs.declared.mode.Mode.{Mode}
use Rattle.code_mode.specs.Mode.{total_count}
use Rattle.code_mode.specs.VolumeShape.{last_epoch}
use Rattle.volume_world.specs.WorldMaking.{locations}
use Rattle.memory_volume.specs.Setting.{first_homes}
use Rattle.memory_volume.specs.MemoryVolume.{MemoryState}
use Rattle.memory_volume.specs.declared.fault.MakeFault.{MakeFault}
use Rattle.memory_volume.specs.declared.fault.MakeFault.TheVariants.{Disks, Epoch, World}

-- there are enough disks and not too many
pub record HasDisks (mode : Mode) (disks : ℕ) : Type 0 where
  pub enough : total_count mode ≤ disks
  pub most : disks ≤ 64

-- some unit may have the epoch
pub record IsEpoch (epoch : ℕ) : Type 0 where
  pub first : 1 ≤ epoch
  pub last : epoch ≤ last_epoch

-- a volume may be made so
pub record CanBeMade (mode : Mode) (disks first : ℕ) : Type 0 where
  pub disks_are : HasDisks mode disks
  pub epoch : IsEpoch first

-- why one isn't made
abbrev pub IsRefusal : Mode → ℕ → ℕ → MakeFault → Type 0
IsRefusal mode disks first (Disks have need) = (have ≡ disks) × (need ≡ total_count mode) × (HasDisks mode disks → ⊥)
IsRefusal mode disks first (Epoch epoch) = (epoch ≡ first) × HasDisks mode disks × (IsEpoch first → ⊥)
IsRefusal mode disks first (World _) = CanBeMade mode disks first

-- what is tested before anything is made
abbrev pub Checks : Mode → ℕ → ℕ → Result (Unit {0}) MakeFault → Type 0
Checks mode disks first (Ok _) = CanBeMade mode disks first
Checks mode disks first (Err fault) = IsRefusal mode disks first fault

-- a volume of this mode on so many disks, with its first homes and no entries
pub record IsMadeWith (mode : Mode) (disks first : ℕ) (tells : Bool) (state : MemoryState) : Type 0 where
  pub can : CanBeMade mode disks first
  pub mode_is : state.world.shape.mode ≡ mode
  pub disks_are : state.world.shape.disks ≡ disks
  pub homes : state.world.first ≡ locations (first_homes first (total_count mode))
  pub entries : state.world.history.entries ≡ []
  pub tells_is : state.tells ≡ tells

abbrev pub Makes : Mode → ℕ → ℕ → Bool → Result MemoryState MakeFault → Type 0
Makes mode disks first tells (Ok state) = IsMadeWith mode disks first tells state
Makes mode disks first tells (Err fault) = IsRefusal mode disks first fault
