-- A volume of six units that stands in for a whole one in tests: as made, and what its answers show.
use Rattle.std.specs.Prelude.{◌≡◌, ℕ, ◌+◌, true, false, List, [], ◌∷◌, length, None}
use Rattle.std.specs.List.{range_with_len}
use Rattle.unit_id.specs.Place.{Location}
use Rattle.unit_id.specs.declared.homes.Home.{Home}
use Rattle.code_mode.specs.declared.mode.Mode.TheVariants as modes
use Rattle.volume_entry.specs.declared.view.View.{View}
use Rattle.volume_world.specs.State.{fresh}
use Rattle.volume_world.specs.declared.event.Event.{Event}
use Rattle.volume_world.specs.declared.reply.Reply.{Reply}
use Rattle.volume_world.specs.declared.trace.Trace.{Trace}
use Rattle.volume_world.specs.Trace.{trace_of}
use Rattle.volume_world.specs.Way.{Origin, WayView}
use Rattle.volume_world.specs.Replying.{ShowsMoves, MayReply}
use Rattle.volume_world.specs.Course.{is_fault}

abbrev pub stand_homes : List Location
stand_homes = record { epoch = 1; disk = 1 } ∷ record { epoch = 1; disk = 2 } ∷ record { epoch = 1; disk = 3 } ∷ record { epoch = 1; disk = 4 } ∷ record { epoch = 1; disk = 5 } ∷ record { epoch = 1; disk = 6 } ∷ []

-- a volume of six units on as many disks, whose files tell nothing
abbrev pub stand_origin : Origin
stand_origin = record {
  vid = 1;
  mode = modes.Ec3P3;
  disks = 6;
  is_told = false;
  is_quiet = false;
  start = record { state = fresh stand_homes (λ place. false); planned = []; late = [] };
}

-- nobody else steps it, and no file fails
abbrev pub stand_view : List Trace → WayView
stand_view entries = record { origin = stand_origin; entries = entries; own = range_with_len 0 (length entries); faults = 0; is_alone = true; is_at = λ w. ⊥ }

abbrev pub stand_home : ℕ → Home
stand_home index = record { unit = record { vid = 1; index = index; epoch = 1 }; disk = index + 1; broken = false }

abbrev pub stand_units : List Home
stand_units = stand_home 0 ∷ stand_home 1 ∷ stand_home 2 ∷ stand_home 3 ∷ stand_home 4 ∷ stand_home 5 ∷ []

-- what a look shows
abbrev pub stand_seen : View
stand_seen = record { now = 7; version = 1; lease = 10; held = None; units = stand_units }

-- an answer that the stand-in may give, with its entry
pub record IsAnswer (event : Event) (reply : Reply) (trace : Trace) : Type 0 where
  pub fits : MayReply stand_origin event reply
  pub moves : ShowsMoves stand_origin reply
  pub kept : trace ≡ trace_of event reply
  pub sound : is_fault (trace_of event reply).reply ≡ false
