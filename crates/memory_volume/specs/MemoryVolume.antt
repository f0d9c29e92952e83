-- A volume over files in memory.
use Rattle.std.specs.Prelude.{ℕ, ◌≡◌, Bool, false}
use Rattle.disk_base.specs.Images.{FileState, view_of}
use Rattle.disk_base.specs.Racks.{ShelfState, shelf_view}
use Rattle.rs_code.specs.Shape.{CoderState, shape}
use Rattle.blob_access.specs.Coding.{coder_shape}
use Rattle.volume_world.specs.World.{WorldOver}
use Rattle.volume_world.specs.Way.{WayView}
use Rattle.volume_world.specs.WorldWay.{way_of}
use Rattle.volume_world.specs.Origins.{is_told}

abbrev pub MemoryWorld : Type 0
MemoryWorld = WorldOver ShelfState FileState

-- the world, what its coder keeps, and whether its files may tell what they hold
pub record MemoryState : Type 0 where
  pub world : MemoryWorld
  pub coder : CoderState
  pub tells : Bool

-- the way to the world's own volume
abbrev pub way_to : MemoryWorld → WayView
way_to world = way_of (shelf_view view_of) view_of world

-- volume 1 on so many disks, with a coder of its mode
pub record IsTied (world : MemoryWorld) (coder : CoderState) (disks : ℕ) (tells : Bool) : Type 0 where
  pub number : world.vid ≡ 1
  pub disks_are : disks ≡ world.shape.disks
  pub coder_is : shape coder ≡ coder_shape world.shape.mode
  pub untold : tells ≡ false → is_told (shelf_view view_of) view_of world ≡ false
