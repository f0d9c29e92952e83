-- A volume of six units that stands in for a whole one in tests: as made, what it shows, and which answers it may give.
use Rattle.std.specs.Prelude.{◌≡◌, ℕ, Bool, true, false, List, [], ◌∷◌, length, Option}
use Rattle.std.specs.List.{range_with_len}
use Rattle.unit_id.specs.Place.{Location}
use Rattle.unit_id.specs.declared.homes.Home.{Home}
use Rattle.unit_id.specs.declared.moves.Move.{Move}
use Rattle.code_mode.specs.declared.mode.Mode.TheVariants as modes
use Rattle.volume_entry.specs.declared.view.LockView.{LockView}
use Rattle.volume_entry.specs.declared.view.View.{View}
use Rattle.volume_world.specs.State.{fresh}
use Rattle.volume_world.specs.declared.event.Event.{Event}
use Rattle.volume_world.specs.declared.reply.Reply.{Reply}
use Rattle.volume_world.specs.declared.trace.Trace.{Trace}
use Rattle.volume_world.specs.Trace.{trace_of}
use Rattle.volume_world.specs.Way.{Origin, WayView}
use Rattle.volume_world.specs.Replying.{ShowsMoves, MayReply}
use Rattle.volume_world.specs.Course.{is_fault}

abbrev pub stand_homes : List Location
stand_homes = record { epoch = 1; disk = 1 } ∷ record { epoch = 1; disk = 2 } ∷ record { epoch = 1; disk = 3 } ∷ record { epoch = 1; disk = 4 } ∷ record { epoch = 1; disk = 5 } ∷ record { epoch = 1; disk = 6 } ∷ []

-- a volume of six units on the first of eight disks, whose files tell nothing
abbrev pub stand_origin : Origin
stand_origin = record {
  vid = 1;
  mode = modes.Ec3P3;
  disks = 8;
  is_told = false;
  is_quiet = false;
  start = record { state = fresh stand_homes (λ place. false); planned = []; late = [] };
}

-- nobody else steps it, and no file fails
abbrev pub stand_view : List Trace → WayView
stand_view entries = record { origin = stand_origin; entries = entries; own = range_with_len 0 (length entries); faults = 0; is_alone = true; is_at = λ w. ⊥ }

abbrev pub stand_home : ℕ → ℕ → ℕ → Home
stand_home index epoch disk = record { unit = record { vid = 1; index = index; epoch = epoch }; disk = disk; broken = false }

-- its units, the first of which has this epoch and disk
abbrev pub stand_units : ℕ → ℕ → List Home
stand_units epoch disk = stand_home 0 epoch disk ∷ stand_home 1 1 2 ∷ stand_home 2 1 3 ∷ stand_home 3 1 4 ∷ stand_home 4 1 5 ∷ stand_home 5 1 6 ∷ []

-- a lock moves the first unit
abbrev pub stand_moves : ℕ → ℕ → Bool → List Move
stand_moves epoch disk broken = record { index = 0; unit = record { vid = 1; index = 0; epoch = epoch }; disk = disk; dest_broken = broken } ∷ []

abbrev pub stand_seen : Option LockView → List Home → View
stand_seen held units = record { now = 0; version = 1; lease = 0; held = held; units = units }

-- an answer that the stand-in may give, with its entry
pub record IsAnswer (event : Event) (reply : Reply) (trace : Trace) : Type 0 where
  pub fits : MayReply stand_origin event reply
  pub moves : ShowsMoves stand_origin reply
  pub kept : trace ≡ trace_of event reply
  pub sound : is_fault (trace_of event reply).reply ≡ false
