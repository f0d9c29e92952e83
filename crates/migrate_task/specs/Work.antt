-- What a task knows of the volume while it works, and which blobs its destinations have still to get.
use Rattle.std.specs.Prelude.{ℕ, Bool, true, false, cond, not, ◌&&◌, ◌||◌, ◌==◌, nat_le, List, [], ◌∷◌, ◌++◌, length, filter, map, get_or}
use Rattle.std.specs.List.{range_with_len}
use Rattle.unit_id.specs.Lists.{any, is_in}
use Rattle.unit_id.specs.declared.homes.Home.{Home}
use Rattle.unit_id.specs.declared.moves.Move.{Move}
use Rattle.code_mode.specs.declared.mode.Mode.{Mode}
use Rattle.code_mode.specs.Mode.{data_count}
use Rattle.code_mode.specs.VolumeShape.{last_time}
use Rattle.migrate_task.specs.declared.work.Journey.{Journey}
use Rattle.migrate_task.specs.declared.listing.Listing.{Listing}
use Rattle.migrate_task.specs.declared.copying.Errand.{Errand}
use Rattle.migrate_task.specs.declared.copying.Due.{Due}
use Rattle.migrate_task.specs.declared.copying.Due.TheVariants as dues

-- The volume's mode, the task and the number of its lock, the units that this call's look showed as current, with those whose disks count as
-- broken, and what is moved.
pub record Work : Type 0 where
  pub mode : Mode
  pub task : ℕ
  pub lock : ℕ
  pub homes : List Home
  pub journeys : List Journey

abbrev pub nowhere : Home
nowhere = record { unit = record { vid = 0; index = 0; epoch = 0 }; disk = 0; broken = true }

-- the home of an index
abbrev pub home_of : List Home → ℕ → Home
home_of homes index = get_or homes index nowhere

-- before the swap a move shows its destination
abbrev pub journey_to : List Home → Move → Journey
journey_to homes m = record { index = m.index; old = home_of homes m.index; dest = record { unit = m.unit; disk = m.disk; broken = m.dest_broken } }

-- after the swap it shows the old unit; whether its disk is broken is not shown
abbrev pub journey_from : List Home → Move → Journey
journey_from homes m = record { index = m.index; old = record { unit = m.unit; disk = m.disk; broken = false }; dest = home_of homes m.index }

abbrev pub journeys_to : List Home → List Move → List Journey
journeys_to homes moves = map (journey_to homes) moves

abbrev pub journeys_from : List Home → List Move → List Journey
journeys_from homes moves = map (journey_from homes) moves

abbrev pub broken_at : ℕ → Home → Home
broken_at disk home = record home { broken = (home.disk == disk) || home.broken }

abbrev pub old_broken_at : ℕ → Journey → Journey
old_broken_at disk j = record j { old = broken_at disk j.old }

-- a disk counts as broken from now on
abbrev pub with_broken : ℕ → Work → Work
with_broken disk work = record work {
  homes = map (broken_at disk) work.homes;
  journeys = map (old_broken_at disk) work.journeys;
}

-- the journeys whose old units stand on disks that aren't broken
abbrev pub with_old_units : List Journey → List Journey
with_old_units journeys = filter (λ (j : Journey). not j.old.broken) journeys

abbrev pub unbroken : List Home → List Home
unbroken homes = filter (λ (home : Home). not home.broken) homes

abbrev pub live_count : List Listing → ℕ → ℕ
live_count heard bid = length (filter (λ (l : Listing). is_in bid l.live) heard)

abbrev pub is_marked_in : List Listing → ℕ → Bool
is_marked_in heard bid = any (λ (l : Listing). is_in bid l.marked) heard

-- what a blob gets at each destination: a mark, where any current unit shows it marked; a copy, where as many show it live as there are
-- data shards
abbrev pub due_of : ℕ → List Listing → ℕ → Due
due_of data_count heard bid = cond (is_marked_in heard bid) dues.Mark (cond (nat_le data_count (live_count heard bid)) dues.Copy dues.Left)

-- a destination has it, by what it was heard to list
abbrev pub has_due : List Listing → Due → ℕ → ℕ → Bool
has_due dests dues.Mark bid index = any (λ (l : Listing). (l.index == index) && is_in bid l.marked) dests
has_due dests dues.Copy bid index = any (λ (l : Listing). (l.index == index) && (is_in bid l.live || is_in bid l.marked)) dests
has_due dests dues.Left bid index = true

-- those of one blob, by index
abbrev pub errands_of : ℕ → Due → List Listing → List Journey → List Errand
errands_of bid due dests journeys =
    map (λ (j : Journey). record { bid = bid; due = due; journey = j }) (filter (λ (j : Journey). not (has_due dests due bid j.index)) journeys)

-- those of some blobs, in order
abbrev pub errands_over : Work → List Listing → List Listing → List ℕ → List Errand
errands_over work dests heard [] = []
errands_over work dests heard (bid ∷ bids) = errands_of bid (due_of (data_count work.mode) heard bid) dests work.journeys ++ errands_over work dests heard bids

-- those of so many blobs from the first one on
unfoldable pub errands_up_to : ℕ → Work → List Listing → List Listing → List Errand
errands_up_to count work dests heard = errands_over work dests heard (range_with_len 1 count)

-- all of them, from the first blob to the last that there can be
unfoldable pub errands : Work → List Listing → List Listing → List Errand
errands work dests heard = errands_up_to last_time work dests heard
