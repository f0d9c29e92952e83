-- How the fields of a store stand for the state of a session. Each number that was given is an object's.
use Rattle.std.specs.Prelude.{◌≡◌, length}
use Rattle.node_runner.specs.Session.{State, pasts_of}
use Rattle.node_runner.specs.Volumes.{objects_in, mode_in}
use Rattle.node_runner.specs.declared.store.Store.TheInside.{Inside}

abbrev pub state_of : Inside → State
state_of inside = record { disks = inside.disks; volume = mode_in inside.volume; bids = length (objects_in inside.volume); objects = objects_in inside.volume }

-- the volumes that are to be handed out are those that were made
abbrev pub HasPasts : Inside → Type 0
HasPasts inside = inside.pasts.items ≡ pasts_of (state_of inside)
