use Rattle.std.proofs.Common.{◌≡◌, take}
use Rattle.volume_world.proofs.copies.copy_homes.Given as goal

abbrev pub invariant-loop-home : goal.invariant-loop-home
invariant-loop-home l = record { copied : l.copy ≡ take l.home-index l.home-items; all : l.home-items ≡ l.homes }
