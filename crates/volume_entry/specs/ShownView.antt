-- What code shows of a volume at a look.
use Rattle.std.specs.Prelude.{ℕ, Bool, Option, Some, None}
use Rattle.volume_entry.specs.Manager.{Lock, Manager}
use Rattle.volume_entry.specs.View.{homes_shown, moves_shown}
use Rattle.volume_entry.specs.declared.view.LockView.{LockView}
use Rattle.volume_entry.specs.declared.view.View.{View}

abbrev pub lock_shown : ℕ → (ℕ → Bool) → Option Lock → Option LockView
lock_shown vid broken None = None
lock_shown vid broken (Some lock) =
    Some (record { task = lock.task; lock = lock.number; moves = moves_shown vid broken lock.is_swapped lock.transfers; swapped = lock.is_swapped })

-- at this time, of the volume of this number
abbrev pub view_shown : ℕ → (ℕ → Bool) → ℕ → Manager → View
view_shown vid broken time m = record {
  now = time;
  version = m.version;
  lease = m.lease_end;
  held = lock_shown vid broken m.lock;
  units = homes_shown vid 0 broken m.homes;
}
