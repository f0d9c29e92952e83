-- A request that fits a volume asks a unit on one of its disks.
use Rattle.std.proofs.Common.{◌≡◌}
use Rattle.unit_id.specs.Messages.{vid_of}
use Rattle.unit_id.specs.declared.request.Request as sent
use Rattle.unit_id.specs.declared.request.Request.TheVariants as requests
use Rattle.blob_node.specs.HeldUnit.{name_of, disk_of}
use Rattle.volume_world.specs.Asking.{IsUnitOn, FitsRequest}
use Rattle.volume_world.specs.Way.{Origin}

-- the unit that is asked is the volume's, on one of its disks
pub asks_unit : (origin : Origin) (request : sent.Request) → FitsRequest origin request → IsUnitOn origin (name_of request) (disk_of request)
asks_unit origin (requests.Create unit disk) fits = fits
asks_unit origin (requests.Fence unit disk lock) fits = fits
asks_unit origin (requests.Put unit disk bid blob_size bytes) fits = fits.0
asks_unit origin (requests.Read unit disk bid) fits = fits.0
asks_unit origin (requests.List unit disk lock) fits = fits
asks_unit origin (requests.Copy unit disk bid blob_size bytes) fits = fits.0
asks_unit origin (requests.Mark unit disk bid) fits = fits.0
asks_unit origin (requests.Free unit disk bid) fits = fits.0
asks_unit origin (requests.Release unit disk) fits = fits

-- .. so its number is the volume's
pub asks_volume : (origin : Origin) (request : sent.Request) → FitsRequest origin request → vid_of request ≡ origin.vid
asks_volume origin (requests.Create unit disk) fits = fits.volume
asks_volume origin (requests.Fence unit disk lock) fits = fits.volume
asks_volume origin (requests.Put unit disk bid blob_size bytes) fits = fits.0.volume
asks_volume origin (requests.Read unit disk bid) fits = fits.0.volume
asks_volume origin (requests.List unit disk lock) fits = fits.volume
asks_volume origin (requests.Copy unit disk bid blob_size bytes) fits = fits.0.volume
asks_volume origin (requests.Mark unit disk bid) fits = fits.0.volume
asks_volume origin (requests.Free unit disk bid) fits = fits.0.volume
asks_volume origin (requests.Release unit disk) fits = fits.volume
