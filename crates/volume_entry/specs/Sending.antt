-- Which requests may be sent to the units of a volume.
use Rattle.std.specs.Prelude.{ℕ, Bool, true, not, ◌&&◌, ◌||◌, nat_lt, nat_le}
use Rattle.unit_id.specs.Lists.{is_in}
use Rattle.unit_id.specs.Place.{Place}
use Rattle.unit_id.specs.Request.{Request}
use Rattle.volume_entry.specs.Manager.{Manager, home_at, transfers_of, is_swapped, has_number, is_destination, is_destination_there, is_old, is_current}

-- the unit is the current one of an index of the volume, or a destination of the lock
abbrev pub is_reached : ℕ → Manager → Place → Bool
is_reached total m place = (nat_lt place.index total && is_current m.homes place) || is_destination (transfers_of m.lock) place

-- Of a volume of so many units, with a blob that was begun or not: units are made, fenced and listed for the lock; a blob that was begun is put
-- up to the current epoch and copied, one whose deletion is asked for is marked, and one whose deletion is committed is freed; and what is behind
-- the current epoch is released.
abbrev pub is_sendable : ℕ → Bool → Manager → Request → Bool
is_sendable total begun m (Request.Create place) = is_destination_there (transfers_of m.lock) place && not (is_swapped m.lock)
is_sendable total begun m (Request.Fence place number) = is_old (transfers_of m.lock) place && has_number m.lock number
is_sendable total begun m (Request.Put place bid) = begun && (nat_lt place.index total && nat_le place.epoch (home_at m.homes place.index).epoch)
is_sendable total begun m (Request.Read place bid) = true
is_sendable total begun m (Request.List place number) = has_number m.lock number
is_sendable total begun m (Request.Copy place bid) = begun && is_reached total m place
is_sendable total begun m (Request.Mark place bid) = is_in bid m.asked && is_reached total m place
is_sendable total begun m (Request.Free place bid) = is_in bid m.committed && is_reached total m place
is_sendable total begun m (Request.Release place) = nat_lt place.index total && nat_lt place.epoch (home_at m.homes place.index).epoch
