-- A world whose log doesn't tell.
use Rattle.std.proofs.Common.{◌≡◌, refl, Bool, true, false, ◌&&◌}
use Rattle.std.specs.Prelude.{is_some}
use Rattle.disk_base.specs.Images.{view_of}
use Rattle.disk_base.specs.Racks.{shelf_view}
use Rattle.volume_world.specs.Origins.{are_told, is_told}
use Rattle.memory_volume.specs.MemoryVolume.{MemoryWorld}

and_no : (a b : Bool) → b ≡ false → (a && b) ≡ false
and_no true b e = e
and_no false b e = refl

-- a world whose log doesn't tell what it holds doesn't tell
pub untold_made : (world : MemoryWorld) → is_some (view_of world.entry.book.log.file).content ≡ false → is_told (shelf_view view_of) view_of world ≡ false
untold_made world none = and_no (are_told (shelf_view view_of) view_of world.stations) (is_some (view_of world.entry.book.log.file).content) none
