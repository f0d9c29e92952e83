-- A volume of six units that stands in for a whole one in tests: as made, what it shows, and which answers it may give.
use Rattle.std.specs.Prelude.{◌≡◌, ℕ, zero, suc, ◌+◌, ◌<◌, ◌≤◌, ◌==◌, true, false, List, [], ◌∷◌, length, None}
use Rattle.std.specs.List.{range_with_len}
use Rattle.std.proofs.Common.{refl, sym, ◌∙◌, ap, subst, lit<, lit≤, arith}
use Rattle.unit_id.specs.Place.{Location}
use Rattle.unit_id.specs.declared.homes.Home.{Home}
use Rattle.code_mode.specs.declared.mode.Mode.TheVariants as modes
use Rattle.volume_entry.specs.declared.view.View.{View}
use Rattle.volume_entry.specs.Manager.{IsDisk, home_at}
use Rattle.volume_world.specs.State.{fresh}
use Rattle.volume_world.specs.declared.event.Event.{Event}
use Rattle.volume_world.specs.declared.reply.Reply.{Reply}
use Rattle.volume_world.specs.declared.trace.Trace.{Trace}
use Rattle.volume_world.specs.Trace.{trace_of}
use Rattle.volume_world.specs.Way.{Origin, WayView, IsFirst, shape_of}
use Rattle.volume_world.specs.Asking.{IsUnitOn}
use Rattle.volume_world.specs.Replying.{AreHomes, ShowsMoves, MayReply}
use Rattle.volume_world.specs.Course.{is_fault}

abbrev pub stand_homes : List Location
stand_homes = record { epoch = 1; disk = 1 } ∷ record { epoch = 1; disk = 2 } ∷ record { epoch = 1; disk = 3 } ∷ record { epoch = 1; disk = 4 } ∷ record { epoch = 1; disk = 5 } ∷ record { epoch = 1; disk = 6 } ∷ []

-- a volume of six units on as many disks, whose files tell nothing
abbrev pub stand_origin : Origin
stand_origin = record {
  vid = 1;
  mode = modes.Ec3P3;
  disks = 6;
  is_told = false;
  is_quiet = false;
  start = record { state = fresh stand_homes (λ place. false); planned = []; late = [] };
}

-- nobody else steps it, and no file fails
abbrev pub stand_view : List Trace → WayView
stand_view entries = record { origin = stand_origin; entries = entries; own = range_with_len 0 (length entries); faults = 0; is_alone = true; is_at = λ w. ⊥ }

abbrev pub stand_home : ℕ → ℕ → Home
stand_home broken index = record { unit = record { vid = 1; index = index; epoch = 1 }; disk = index + 1; broken = (index + 1) == broken }

-- its units, one disk of which may be broken
abbrev pub stand_units : ℕ → List Home
stand_units broken = stand_home broken 0 ∷ stand_home broken 1 ∷ stand_home broken 2 ∷ stand_home broken 3 ∷ stand_home broken 4 ∷ stand_home broken 5 ∷ []

abbrev pub stand_seen : ℕ → ℕ → View
stand_seen version broken = record { now = 0; version = version; lease = 10; held = None; units = stand_units broken }

-- an answer that the stand-in may give, with its entry
pub record IsAnswer (event : Event) (reply : Reply) (trace : Trace) : Type 0 where
  pub fits : MayReply stand_origin event reply
  pub moves : ShowsMoves stand_origin reply
  pub kept : trace ≡ trace_of event reply
  pub sound : is_fault (trace_of event reply).reply ≡ false

stand_unit : (broken index : ℕ) → index < 6 → IsUnitOn stand_origin (stand_home broken index).unit (index + 1)
stand_unit broken index below = record { volume = refl; index = below; there = record { first = omega arith; last = omega arith } }

pub stand_are : (broken : ℕ) → AreHomes stand_origin (stand_units broken)
stand_are broken = record {
  count = refl;
  each = (stand_unit broken 0 (lit< tt), refl, (stand_unit broken 1 (lit< tt), refl, (stand_unit broken 2 (lit< tt), refl, (stand_unit broken 3 (lit< tt), refl, (stand_unit broken 4 (lit< tt), refl, (stand_unit broken 5 (lit< tt), refl, tt))))));
}

-- ---- a way

home_is : (i : ℕ) → i < 6 → home_at stand_homes i ≡ record { epoch = 1; disk = i + 1 }
home_is zero h = refl
home_is (suc zero) h = refl
home_is (suc (suc zero)) h = refl
home_is (suc (suc (suc zero))) h = refl
home_is (suc (suc (suc (suc zero)))) h = refl
home_is (suc (suc (suc (suc (suc zero))))) h = refl
home_is (suc (suc (suc (suc (suc (suc i)))))) h = absurd (omega arith)

pub stand_first : IsFirst (shape_of stand_origin) stand_origin.start
stand_first = record {
  homes = stand_homes;
  is_made = λ place. false;
  legal = record {
    count = refl;
    epochs = λ i h. subst (λ (x : Location). (1 ≤ x.epoch) × (x.epoch ≤ 16777215)) (sym (home_is i h)) (lit≤ tt, lit≤ tt);
    disks = λ i h. subst (λ (x : Location). IsDisk (shape_of stand_origin) x.disk) (sym (home_is i h)) (record { first = omega arith; last = omega arith });
    apart = λ i j h k e. let same : i + 1 ≡ j + 1 = sym (ap (λ (x : Location). x.disk) (home_is i h)) ∙ e ∙ ap (λ (x : Location). x.disk) (home_is j k) in omega arith;
  };
  made = λ p e. absurd (cc);
  state = refl;
}
